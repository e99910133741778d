-- The loop's invariant: no byte is lost. Each turn hands on one at least.
use lib.ListN.{length}
use Rattle.std.specs.Io.KnownBytes.{Keeps}
use Rattle.buffered.specs.Buffered.{held}
use Rattle.buffered.proofs.BufferedWrite.flush.Given as goal

abbrev pub invariant-loop-self : goal.invariant-loop-self
invariant-loop-self g l = Keeps (held g.W.Write.contents l.initial.self) (held g.W.Write.contents l.self)

abbrev pub decreases-loop-self : goal.decreases-loop-self
decreases-loop-self g l = length l.self.bytes.items
