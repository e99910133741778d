-- What a destination claims: 8 where "a bit would have two owners"; then, where a failure bit is awaited, 9 where "its position passes the Tx
-- data" and 8 once more; else the set with the claimed bits.
use Rattle.std.specs.Prelude.{ℕ, ltb, eqb, Result, Ok, Err}
use Rattle.base.specs.Pick.{pick}
use Rattle.bits.specs.Owners.{owned, clash}
use Rattle.plan.specs.declared.verdict.Reason.TheVariants.{Owner, Indicator}
use Rattle.plan.specs.declared.verdict.Reason.{Reason}

unfoldable pub claimed : ℕ → ℕ → ℕ → ℕ → ℕ → ℕ → Result ℕ Reason
claimed set q s awaits position room =
    pick (clash set q s) (Err Owner)
    (pick (eqb awaits 0) (Ok (owned set q s))
    (pick (ltb position room)
    (pick (clash (owned set q s) position 1) (Err Owner) (Ok (owned (owned set q s) position 1)))
    (Err Indicator)))
