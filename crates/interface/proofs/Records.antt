-- A refusal of a plan names one of its first 3,602 records: no more pass the counts.
use mathlib.Core.Path.{◌≡◌}
use mathlib.Core.Bool.{Bool, true}
use mathlib.Core.List.{List, [], ◌∷◌}
use Prim.Native.Nat.{ℕ, ◌+◌, ◌*◌, ◌≤◌}
use native.Mathlib.Omega.{arith}
use lib.Dec.{ltb}
use borrow.Author.Tests.{ltb-true, eqb-true}
use Rattle.std.specs.Prelude.{Result, Ok, Err}
use Rattle.base.proofs.Picks.{cases, both}
use Rattle.records.specs.declared.record.Record.{Record}
use Rattle.records.specs.declared.record.Record.TheVariants.{Head, Node, Tx, Rx, Signal, Destination, Broken}
use Rattle.records.specs.Kinds.{stage_of}
use Rattle.records.specs.Records.{records}
use Rattle.plan.specs.declared.verdict.Reason.{Reason}
use Rattle.plan.specs.declared.verdict.PlanCounts.{PlanCounts}
use Rattle.plan.specs.declared.progress.Progress.{Progress}
use Rattle.plan.specs.declared.verdict.BadRecord.{BadRecord}
use Rattle.plan.specs.Progress.{counted, row_after, after, start}
use Rattle.plan.specs.Tests.{is_kind, is_whole, may_stand, has_room}
use Rattle.plan.specs.Check.{need, placed, judged, ended, verdict_of, check_on, check_plan}
use Rattle.plan.proofs.TestLaws.{and_both, no_fault}

-- what is known of the progress while records pass
record Early (p : Progress) : Type 0 where
  nodes : p.counts.nodes ≤ 16
  tx : p.counts.tx ≤ 256
  rx : p.counts.rx ≤ 256
  signals : p.counts.signals ≤ 1024
  destinations : p.counts.destinations ≤ 2048
  number : p.number ≤ 1 + p.counts.nodes + p.counts.tx + p.counts.rx + p.counts.signals + p.counts.destinations
  begins : p.number ≤ 3601 * p.stage
  source : p.row.source ≤ p.number

Early-after :
    (p : Progress) (r : Record) → Early p → is_kind r ≡ true → is_whole r ≡ true → may_stand p.stage r ≡ true
    → has_room p.counts p.row r ≡ true → Early (after p r)
unfolding may_stand has_room after counted row_after stage_of
Early-after p (Head order) e known whole stands room = let n = eqb-true p.stage 0 stands in omega arith
Early-after p (Node body) e known whole stands room = let l = ltb-true p.counts.nodes 16 room in omega arith
Early-after p (Tx x) e known whole stands room = let l = ltb-true p.counts.tx 256 room in omega arith
Early-after p (Rx x) e known whole stands room = let l = ltb-true p.counts.rx 256 room in omega arith
Early-after p (Signal body) e known whole stands room =
    let l = ltb-true p.counts.signals 1024 (and_both _ (ltb p.row.signals 64) room).0 in omega arith
Early-after p (Destination body) e known whole stands room =
    let l = ltb-true p.counts.destinations 2048 (and_both _ (ltb p.row.destinations 15) room).0 in omega arith
Early-after p (Broken fault) e known whole stands room = absurd (no_fault fault known whole)

-- a verdict that names no later record
unfoldable pub Low : Result PlanCounts BadRecord → Type 0
Low (Ok counts) = Unit {0}
Low (Err bad) = bad.record_number ≤ 3601

need_low :
    (test : Bool) (reason : Reason) (k : ℕ) (next : Result Progress BadRecord) (rest : Result PlanCounts BadRecord) → k ≤ 3601 → (test ≡ true → Low (verdict_of next rest))
    → Low (verdict_of (need test reason k next) rest)
unfolding need verdict_of Low
need_low test reason k next rest l h = cases (λ n. Low (verdict_of n rest)) test _ _ h (λ e. l)

check_low : (rs : List Record) (p : Progress) (sizes sets : List ℕ) → Early p → Low (check_on p sizes sets rs)
unfolding check_on ended judged placed verdict_of Low
check_low [] p sizes sets e = both Low _ _ _ (both Low _ _ _ (omega arith) tt) (omega arith)
check_low (r ∷ rs) p sizes sets e =
    let n : p.number ≤ 3601 = omega arith in
    need_low _ _ _ _ _ (omega arith)
    (λ follows. need_low _ _ _ _ _ n
    (λ known. need_low _ _ _ _ _ n
    (λ whole. need_low _ _ _ _ _ n
    (λ stands. need_low _ _ _ _ _ n
    (λ first. need_low _ _ _ _ _ n
    (λ room. need_low _ _ _ _ _ n
    (λ range. need_low _ _ _ _ _ n
    (λ fits. need_low _ _ _ _ _ n
    (λ order. need_low _ _ _ _ _ n
    (λ inside. need_low _ _ _ _ _ n
    (λ free. need_low _ _ _ _ _ n
    (λ indicated. need_low _ _ _ _ _ n
    (λ indicator. check_low rs (after p r) _ _ (Early-after p r e known whole stands room))))))))))))))

pub plan_low : (plan : List ℕ) → Low (check_plan plan)
unfolding check_plan start
plan_low plan = check_low (records plan) start _ _ (omega arith)
