-- `opening::record::home_of` meets its contract: by the format.
use Rattle.opening.specs.Opened.{home_of}
use Rattle.opening.proofs.record.home_of.Goals as goal

pub returns-in-Standard : goal.returns-in-Standard
unfolding home_of
returns-in-Standard c = rw c.in-Standard.is

pub returns-in-Extended : goal.returns-in-Extended
unfolding home_of
returns-in-Extended c = rw c.in-Extended.is
