-- The order that the records leave is the head's: only a head is stored there, and it is the first record.
use mathlib.Core.Path.{◌≡◌, refl, sym, ◌∙◌}
use mathlib.Core.List.{List, [], ◌∷◌}
use Prim.Native.Nat.{ℕ, ◌<◌, ◌≤◌, ◌+◌}
use native.Mathlib.Omega.{arith}
use lib.ListN.{length}
use lib.Seq.{get_or-set_same}
use Rattle.records.specs.declared.record.Record.{Record}
use Rattle.records.specs.declared.record.Record.TheVariants.{Head, Node, Tx, Rx, Signal, Destination, Broken}
use Rattle.records.specs.Kinds.{stage_of}
use Rattle.plan.specs.Rows.{order_in}
use Rattle.facts.specs.Good.{InPlace}
use Rattle.facts.proofs.Places.{later}
use Rattle.area.specs.Layout.{order_byte, order}
use Rattle.opening.specs.Opened.{with_record, with_records}
use Rattle.opening.proofs.Kept.{same_node, Same-tx, Same-rx}
use Rattle.records.specs.Records.{size_of}

-- of a record: one that is no head leaves the order, and the first one makes it
record Orders (r : Record) (a b : List ℕ) : Type 0 where
  kept : 2 ≤ stage_of r → order b ≡ order a
  made : (rs : List Record) → order_byte < length a → order a ≡ 0 → order b ≡ order_in (r ∷ rs)

leaves : (r : Record) (a b : List ℕ) → ((rs : List Record) → order_in (r ∷ rs) ≡ 0) → order b ≡ order a → Orders r a b
leaves r a b none e = record { kept = λ h. e; made = λ rs l z. e ∙ z ∙ sym (none rs) }

orders : (at : ℕ) (r : Record) (a : List ℕ) → Orders r a (with_record at r a)
unfolding with_record order_in stage_of
orders at (Head o) a = record { kept = λ h. absurd (omega arith); made = λ rs l z. get_or-set_same a 3 o 0 l }
orders at (Node body) a = leaves (Node body) a _ (λ rs. refl) ((same_node (λ j. j ≡ 3) body.of a (omega arith) (omega arith)).at 3 refl)
orders at (Tx x) a = leaves (Tx x) a _ (λ rs. refl) ((Same-tx (λ j. j ≡ 3) (omega arith) at x a (omega arith) (omega arith)).at 3 refl)
orders at (Rx x) a = leaves (Rx x) a _ (λ rs. refl) ((Same-rx (λ j. j ≡ 3) (omega arith) at x a (omega arith) (omega arith)).at 3 refl)
orders at (Signal body) a = leaves (Signal body) a a (λ rs. refl) refl
orders at (Destination body) a = leaves (Destination body) a a (λ rs. refl) refl
orders at (Broken fault) a = leaves (Broken fault) a a (λ rs. refl) refl

-- no head follows a record
order_kept : (at : ℕ) (rs : List Record) (last : ℕ) (a : List ℕ) → 1 ≤ last → InPlace last rs → order (with_records at rs a) ≡ order a
unfolding with_records InPlace
order_kept at [] last a h place = refl
order_kept at (r ∷ rs) last a h place =
    let l = later last r place.0 in
    order_kept (at + size_of r) rs (stage_of r) _ l.kind place.1 ∙ (orders at r a).kept (l.body h)

pub order_records :
    (at : ℕ) (rs : List Record) (a : List ℕ) → InPlace 0 rs → order_byte < length a → order a ≡ 0 → order (with_records at rs a) ≡ order_in rs
unfolding with_records InPlace order_in
order_records at [] a place l z = z
order_records at (r ∷ rs) a place l z =
    order_kept _ rs (stage_of r) _ (later 0 r place.0).kind place.1 ∙ (orders at r a).made rs l z
