-- Document 01's number of each reason.
use Rattle.std.specs.Prelude.{ℕ}
use Rattle.plan.specs.declared.verdict.Reason.{Reason}
use Rattle.plan.specs.declared.verdict.Reason.TheVariants.{Short, Kind, Place, Count, Range, Order, Data, Owner, Indicator}

unfoldable pub number_of : Reason → ℕ
number_of Short = 1
number_of Kind = 2
number_of Place = 3
number_of Count = 4
number_of Range = 5
number_of Order = 6
number_of Data = 7
number_of Owner = 8
number_of Indicator = 9
