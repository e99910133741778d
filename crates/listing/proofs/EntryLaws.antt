-- An event record is read as it is written, wherever it stands.
use mathlib.Core.Path.{◌≡◌, refl, sym, ap, ◌∙◌}
use mathlib.Core.Bool.{Bool, true, false}
use mathlib.Core.List.{List, [], ◌∷◌, ◌++◌, append_assoc}
use Prim.Native.Nat.{ℕ, suc, ◌+◌, ◌-◌, ◌/◌, ◌%◌, ◌≤◌, ◌<◌}
use native.Mathlib.Nat.{zero-add, suc-add}
use native.Mathlib.Decide.{ℕ_discrete}
use native.Mathlib.Omega.{arith}
use borrow.Author.Tests.{ltb-false}
use lib.Dec.{ltb}
use lib.ListN.{length, drop, length-append}
use lib.Seq.{take-append-le}
use Rattle.base.specs.Pick.{pick}
use Rattle.base.specs.Numbers.{byte_at, two_at, four_at}
use Rattle.records.specs.declared.record.Id.{Id}
use Rattle.records.specs.declared.record.Id.TheVariants.{Standard, Extended}
use Rattle.records.specs.Ids.{behind_id}
use Rattle.events.specs.declared.Event.{Event}
use Rattle.events.specs.declared.Event.TheVariants as event
use Rattle.std.specs.Prelude.{Some}
use Rattle.events.specs.Events.{event_length, whole_event, event_at, payload_at}
use Rattle.events.proofs.EventLaws.{no_length, no_event, event_cut, event_whole}
use Rattle.listing.specs.Input.{Entry, reception, tick, take, response, no_response, reception_of, bytes_of, Whole, payload_of}

-- ---- what stands behind a front

behind_by : (xs ys : List ℕ) (i : ℕ) → byte_at (xs ++ ys) (length xs + i) ≡ byte_at ys i
behind_by [] ys i = rw (zero-add i) refl
behind_by (x ∷ xs) ys i = rw (suc-add (length xs) i) (behind_by xs ys i)

behind : (xs ys : List ℕ) (p i : ℕ) → p ≡ length xs + i → byte_at (xs ++ ys) p ≡ byte_at ys i
behind xs ys p i e = rw e (behind_by xs ys i)

drop_behind : (xs ys : List ℕ) (i : ℕ) → drop (length xs + i) (xs ++ ys) ≡ drop i ys
drop_behind [] ys i = rw (zero-add i) refl
drop_behind (x ∷ xs) ys i = rw (suc-add (length xs) i) (drop_behind xs ys i)

-- a choice whose second side is needed only where it is taken
same_choice : (t : Bool) (x y z : List ℕ) → (t ≡ false → y ≡ z) → pick t x y ≡ pick t x z
unfolding pick
same_choice true x y z h = refl
same_choice false x y z h = h refl

-- ---- the record that begins there

module _ (kind : ℕ) (xs rest : List ℕ) where
  abbrev input : List ℕ
  input = xs ++ kind ∷ rest

  long : length input ≡ length xs + suc (length rest)
  long = length-append xs (kind ∷ rest)

  kind_at : byte_at input (length xs) ≡ kind
  kind_at = behind xs (kind ∷ rest) (length xs) 0 (omega arith)

  whole_at : event_length kind ≤ suc (length rest) → event_at input (length xs) ≡ Some (whole_event kind input (length xs))
  whole_at h =
      let fits : event_length (byte_at input (length xs)) ≤ length input - length xs = rw kind_at (omega (arith, long)) in
      sym (event_whole input (length xs) (omega (arith, long)) fits) ∙ ap (λ (k : ℕ). Some (whole_event k input (length xs))) kind_at

  cut_at : suc (length rest) < event_length kind → event_at input (length xs) ≡ Some event.Bad
  cut_at h =
      let lacks : length input - length xs < event_length (byte_at input (length xs)) = rw kind_at (omega (arith, long)) in
      sym (event_cut input (length xs) (omega (arith, long)) lacks)

-- ---- whole records

unfoldable pub event_of : Entry → Event
event_of (reception node id size bytes) = event.Reception node id size
event_of tick = event.Tick
event_of (take node) = event.Take node
event_of (response node id size bytes sum) = event.Response node id size sum
event_of (no_response node id) = event.NoResponse node id

-- the ID of two bytes or of four, and the checksum behind eight data bytes
id_read : (kind node id : ℕ) (rest xs : List ℕ) → two_at (xs ++ kind ∷ node ∷ id / 256 ∷ id % 256 ∷ rest) (length xs + 2) ≡ id
id_read kind node id rest xs =
    let ys : List ℕ = kind ∷ node ∷ id / 256 ∷ id % 256 ∷ rest in
    rw (behind_by xs ys 2, behind xs ys (length xs + 2 + 1) 3 (omega arith)) (omega arith)

four_read : (kind node id : ℕ) (rest xs : List ℕ)
    → four_at (xs ++ kind ∷ node ∷ id / 16777216 ∷ id / 65536 % 256 ∷ id / 256 % 256 ∷ id % 256 ∷ rest) (length xs + 2) ≡ id
four_read kind node id rest xs =
    let ys : List ℕ = kind ∷ node ∷ id / 16777216 ∷ id / 65536 % 256 ∷ id / 256 % 256 ∷ id % 256 ∷ rest in
    rw (
      behind_by xs ys 2,
      behind xs ys (length xs + 2 + 1) 3 (omega arith),
      behind xs ys (length xs + 2 + 2) 4 (omega arith),
      behind xs ys (length xs + 2 + 2 + 1) 5 (omega arith),
    ) (omega arith)

sum_read : (bytes ys : List ℕ) (sum : ℕ) → length bytes ≡ 8 → byte_at ((bytes ++ sum ∷ []) ++ ys) 8 ≡ sum
sum_read bytes ys sum w = rw (append_assoc bytes (sum ∷ []) ys) (behind bytes (sum ∷ ys) 8 0 (omega arith))

pub entry_read : (e : Entry) (xs ys : List ℕ) → Whole e → event_at (xs ++ (bytes_of e ++ ys)) (length xs) ≡ Some (event_of e)
unfolding event_of reception_of bytes_of Whole event_length whole_event pick
entry_read (reception node (Standard id) size bytes) xs ys w =
    let rest : List ℕ = size ∷ (bytes ++ ys) in
    let all : List ℕ = 16 ∷ node ∷ id / 256 ∷ id % 256 ∷ rest in
    whole_at 16 xs (node ∷ id / 256 ∷ id % 256 ∷ rest) (omega (arith, length-append bytes ys))
    ∙ rw (behind_by xs all 1, id_read 16 node id rest xs, behind_by xs all 4) refl
entry_read (reception node (Extended id) size bytes) xs ys w =
    let rest : List ℕ = size ∷ (bytes ++ ys) in
    let named : List ℕ = node ∷ id / 16777216 ∷ id / 65536 % 256 ∷ id / 256 % 256 ∷ id % 256 ∷ rest in
    whole_at 19 xs named (omega (arith, length-append bytes ys))
    ∙ rw (behind_by xs (19 ∷ named) 1, four_read 19 node id rest xs, behind_by xs (19 ∷ named) 6) refl
entry_read tick xs ys w = whole_at 17 xs ys (omega arith)
entry_read (take node) xs ys w =
    whole_at 18 xs (node ∷ ys) (omega arith) ∙ ap (λ (n : ℕ). Some (event.Take n)) (behind_by xs (18 ∷ node ∷ ys) 1)
entry_read (response node id size bytes sum) xs ys w =
    let rest : List ℕ = size ∷ ((bytes ++ sum ∷ []) ++ ys) in
    let all : List ℕ = 20 ∷ node ∷ id / 256 ∷ id % 256 ∷ rest in
    whole_at 20 xs (node ∷ id / 256 ∷ id % 256 ∷ rest) (omega (arith, length-append (bytes ++ sum ∷ []) ys, length-append bytes (sum ∷ [])))
    ∙ rw (behind_by xs all 1, id_read 20 node id rest xs, behind_by xs all 4, behind_by xs all 13, sum_read bytes ys sum w) refl
entry_read (no_response node id) xs ys w =
    whole_at 21 xs (node ∷ id / 256 ∷ id % 256 ∷ ys) (omega arith)
    ∙ rw (behind_by xs (21 ∷ node ∷ id / 256 ∷ id % 256 ∷ ys) 1, id_read 21 node id ys xs) refl

-- the payload that is handed on, where its length stands behind others of the record's bytes
length_read : (size : ℕ) (bytes xs ys : List ℕ) → length bytes ≡ 8 → payload_at (xs ++ size ∷ (bytes ++ ys)) (length xs) ≡ payload_of size bytes
unfolding payload_at payload_of
length_read size bytes xs ys w =
    let all : List ℕ = size ∷ (bytes ++ ys) in
    rw (behind xs all (length xs) 0 (omega arith), drop_behind xs all 1)
    (same_choice (ltb 8 size) _ _ _ (λ t. take-append-le size bytes ys (omega (arith, ltb-false))))

pub payload_read : (front : List ℕ) (size : ℕ) (bytes xs ys : List ℕ) → length bytes ≡ 8
    → payload_at (xs ++ (front ++ size ∷ (bytes ++ ys))) (length xs + length front) ≡ payload_of size bytes
payload_read front size bytes xs ys w =
    rw (← append_assoc xs front (size ∷ (bytes ++ ys)), ← length-append xs front) (length_read size bytes (xs ++ front) ys w)

-- a reception's, by the format of its ID
pub reception_length : (node : ℕ) (id : Id) → length (reception_of node id) ≡ behind_id id
unfolding reception_of behind_id
reception_length node (Standard n) = refl
reception_length node (Extended n) = refl

pub reception_payload : (node : ℕ) (id : Id) (size : ℕ) (bytes xs ys : List ℕ) → length bytes ≡ 8
    → payload_at (xs ++ ((reception_of node id ++ size ∷ bytes) ++ ys)) (length xs + behind_id id) ≡ payload_of size bytes
reception_payload node id size bytes xs ys w =
    rw (append_assoc (reception_of node id) (size ∷ bytes) ys, ← (reception_length node id)) (payload_read (reception_of node id) size bytes xs ys w)

-- ---- broken ones

pub broken_read : (kind : ℕ) (rest xs : List ℕ) → (kind ≡ 16 → length rest < 12) → (kind ≡ 17 → ⊥) → (kind ≡ 18 → length rest < 1)
    → (kind ≡ 19 → length rest < 14) → (kind ≡ 20 → length rest < 13) → (kind ≡ 21 → length rest < 3)
    → event_at (xs ++ kind ∷ rest) (length xs) ≡ Some event.Bad
unfolding event_length pick
broken_read kind rest xs h16 h17 h18 h19 h20 h21 =
    go (ℕ_discrete kind 16) (ℕ_discrete kind 18) (ℕ_discrete kind 19) (ℕ_discrete kind 20) (ℕ_discrete kind 21)
  where
    go : Dec (kind ≡ 16) → Dec (kind ≡ 18) → Dec (kind ≡ 19) → Dec (kind ≡ 20) → Dec (kind ≡ 21)
        → event_at (xs ++ kind ∷ rest) (length xs) ≡ Some event.Bad
    go (yes e) d18 d19 d20 d21 = cut_at kind xs rest (rw e (omega (arith, h16 e)))
    go (no n16) (yes e) d19 d20 d21 = cut_at kind xs rest (rw e (omega (arith, h18 e)))
    go (no n16) (no n18) (yes e) d20 d21 = cut_at kind xs rest (rw e (omega (arith, h19 e)))
    go (no n16) (no n18) (no n19) (yes e) d21 = cut_at kind xs rest (rw e (omega (arith, h20 e)))
    go (no n16) (no n18) (no n19) (no n20) (yes e) = cut_at kind xs rest (rw e (omega (arith, h21 e)))
    go (no n16) (no n18) (no n19) (no n20) (no n21) =
        whole_at kind xs rest (omega (arith, no_length kind n16 h17 n18 n19 n20 n21))
        ∙ ap (λ (e : Event). Some e) (sym (no_event kind n16 h17 n18 n19 n20 n21 (xs ++ kind ∷ rest) (length xs)))
