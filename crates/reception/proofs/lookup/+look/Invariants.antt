-- The measure of `lookup::look`: how many of the node's rows remain.
use Rattle.reception.proofs.lookup.+look.Given as goal

abbrev pub decreases-look : goal.decreases-look
decreases-look l = l.n
