-- `opening::blank::lay_on_zeros` meets its contract: the plan covers the zeros that are left out.
use Rattle.opening.proofs.BlankLaws.{laid_on_zeros}
use Rattle.opening.proofs.blank.lay_on_zeros.Goals as goal

pub returns : goal.returns
returns c =
    laid_on_zeros _ _ c.requires.0 c.requires.1 c.clear.ensures c.lay.ensures c.clear-2.ensures
