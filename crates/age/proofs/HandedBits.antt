-- A bit of a payload that is handed back, where it has an owner, is the bit that the area keeps.
use mathlib.Core.Path.{◌≡◌, refl, ap, sym, ◌∙◌}
use mathlib.Core.List.{List, [], ◌∷◌}
use Prim.Native.Nat.{ℕ, zero, suc, ◌*◌, ◌/◌, ◌≤◌, ◌<◌}
use native.Mathlib.Omega.{arith}
use native.Mathlib.Decide.{dec_lt}
use lib.ListN.{length, get_or, take as first_of}
use lib.Seq.{get_or-take}
use Rattle.std.specs.Prelude.{Some, Ok}
use Rattle.base.proofs.Apart.{differ}
use Rattle.base.proofs.Picks.{cases}
use Rattle.bits.specs.Payload.{bit_at}
use Rattle.records.specs.declared.record.TxFrame.{TxFrame}
use Rattle.records.specs.declared.record.Entry.{Entry}
use Rattle.records.specs.declared.record.Entry.TheVariants as entry
use Rattle.records.specs.Views.{no_tx}
use Rattle.records.specs.Records.{records}
use Rattle.plan.specs.Rows.{Claim, claims_of, tx_of, order_in}
use Rattle.facts.specs.Good.{Each, sizes_of, Fits, GoodPlan}
use Rattle.facts.proofs.Sizes.{sizes_length}
use Rattle.facts.proofs.ByNumber.{frame_ranges}
use Rattle.answers.specs.declared.TakenFrame.{TakenFrame}
use Rattle.answers.specs.declared.Taken.TheVariants.{Frame}
use Rattle.tables.specs.Reads.{planned_tx}
use Rattle.model.specs.Plan.{said}
use Rattle.model.specs.State.{State, kept_of, queue_on}
use Rattle.model.specs.Words.{Shape}
use Rattle.model.specs.Calls.{take, taken, running}
use Rattle.model.proofs.Meets.{runs}
use Rattle.history.specs.Fresh.{Owner, nobody, holds, owner_in, owner}
use Rattle.history.specs.Statements.{kept_bit}
use Rattle.history.proofs.Bits.{Holds-is}
use Rattle.refines.proofs.Held.{Held}
use Rattle.refines.proofs.Bits.{shown_bit}

-- ---- a bit that has an owner lies in its frame's data

inside_data : (sizes : List ℕ) (cs : List Claim) → Each (Fits sizes) cs → (t b : ℕ) → (owner_in cs t b ≡ nobody → ⊥)
    → (t < length sizes) × (b < 8 * get_or sizes t 0)
unfolding owner_in Each
inside_data sizes [] fits t b = λ d. absurd (d refl)
inside_data sizes (c ∷ cs) fits t b =
    cases (λ (w : Owner). (w ≡ nobody → ⊥) → (t < length sizes) × (b < 8 * get_or sizes t 0)) (holds c t b) _ _
    (λ e d.
    let h = Holds-is c t b e in
    (rw (← h.frame) fits.0.exists, rw (← h.frame) (omega (arith, h.high, fits.0.inside))))
    (λ e. inside_data sizes cs fits.1 t b)

sizes_at : (xs : List TxFrame) (t : ℕ) → t < length xs → get_or (sizes_of xs) t 0 ≡ (get_or xs t no_tx).size
unfolding sizes_of
sizes_at [] t l = absurd (omega arith)
sizes_at (x ∷ xs) zero l = refl
sizes_at (x ∷ xs) (suc t) l = sizes_at xs t (omega arith)

owned : {plan : List ℕ} → GoodPlan plan → (t b : ℕ) → (owner plan t b ≡ nobody → ⊥) → (t < length (tx_of plan)) × (b < 8 * (planned_tx plan t).size)
unfolding owner
owned {plan} good t b d =
    let (frame, inside) = inside_data (sizes_of (tx_of plan)) (claims_of plan) good.fits t b d in
    let exists : t < length (tx_of plan) = omega (arith, sizes_length (tx_of plan)) in
    (exists, omega (arith, sizes_at (tx_of plan) t exists))

-- ---- what a take hands back is the kept payload of its frame

taken_one : {x y : TakenFrame} {xs ys : List ℕ} → taken (Ok (Some (Frame x))) xs ≡ taken (Ok (Some (Frame y))) ys → (x.tx.0 ≡ y.tx.0) × (xs ≡ ys)
taken_one {x} {y} e = let same : x ≡ y = cc in (ap (λ z. z.tx.0) same, cc)

module _ {plan : List ℕ} (good : GoodPlan plan) (s : State) (shape : Shape (said plan) s) (n : ℕ) where
  pub handed_kept : (x : TakenFrame) (payload : List ℕ) → (running (said plan)).answer s (take n) ≡ taken (Ok (Some (Frame x))) payload
      → payload ≡ first_of (planned_tx plan x.tx.0).size (kept_of s x.tx.0)
  handed_kept x payload e = go (dec_lt n (said plan).nodes) (queue_on s n) refl
    where
      go : Dec (n < (said plan).nodes) → (q : List Entry) → queue_on s n ≡ q → payload ≡ first_of (planned_tx plan x.tx.0).size (kept_of s x.tx.0)
      go (no d) q f =
          let other = (((runs plan good).take s shape n).refused (omega arith)).answer in
          absurd (differ cc)
      go (yes l) [] f =
          let other = (((runs plan good).take s shape n).none l f).answer in
          absurd (differ cc)
      go (yes l) (entry.Request r ∷ rest) f =
          let other = (((runs plan good).take s shape n).oldest_request l r.0 rest f).answer in
          absurd (differ cc)
      go (yes l) (entry.Frame u ∷ rest) f =
          let its = ((runs plan good).take s shape n).oldest_frame l u.0 rest f in
          let (same, bytes) = taken_one (sym e ∙ its.takes.answer) in
          rw same (bytes ∙ its.whole)

pub handed_bit :
    {plan a : List ℕ} {s : State} → Held plan a s → (t b : ℕ) → (owner plan t b ≡ nobody → ⊥) → (payload : List ℕ)
    → payload ≡ first_of (planned_tx plan t).size (kept_of s t)
    → (t < length (tx_of plan)) × (b < 64) × (bit_at (order_in (records plan)) payload b ≡ kept_bit plan a t b)
unfolding bit_at
handed_bit {plan} {a} {s} h t b d payload e =
    let (exists, inside) = owned h.good t b d in
    let small : (planned_tx plan t).size ≤ 8 = (frame_ranges plan h.good no_tx t exists).size in
    let o = order_in (records plan) in
    let first : bit_at o (first_of (planned_tx plan t).size (kept_of s t)) b ≡ bit_at o (kept_of s t) b =
    rw (get_or-take (planned_tx plan t).size (kept_of s t) (b / 8) 0 (omega arith)) in
    (exists, omega arith, ap (λ xs. bit_at o xs b) e ∙ first ∙ sym (shown_bit h t exists o b (omega arith)))
