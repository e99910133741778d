-- What a reception changes and what it leaves: nothing where it is not accepted; and whatever its answer, the length, the mark and the header,
-- the plan, and what is read from the tables, so long as the area holds bytes.
use mathlib.Core.Path.{◌≡◌, refl, sym, ap, ◌∙◌}
use mathlib.Core.Bool.{Bool, true, false}
use mathlib.Core.List.{List}
use Prim.Native.Nat.{ℕ, ◌≤◌, ◌<◌}
use native.Mathlib.Omega.{arith}
use lib.Dec.{leb, ltb}
use lib.ListN.{length}
use borrow.Author.Tests.{le-ltb, ltb-true, ltb-false, leb-true}
use Rattle.std.specs.Prelude.{Result, Ok, Err}
use Rattle.base.proofs.Apart.{differ}
use Rattle.base.specs.Pick.{pick}
use Rattle.base.proofs.Picks.{cases}
use Rattle.base.specs.Numbers.{byte_at}
use Rattle.bits.proofs.PayloadLaws.{Bytes}
use Rattle.records.specs.declared.record.Id.{Id}
use Rattle.records.specs.declared.record.RxNumber.{RxNumber}
use Rattle.records.specs.Nodes.{is_lin}
use Rattle.area.specs.Layout.{counter_byte, plan_start, row_bound}
use Rattle.area.specs.Layout.{marked, counter, order, node_count, type_on, tx_count, rx_count, plan_of, tx_frame, rx_frame, claims}
use Rattle.area.specs.Claims.{accepted}
use Rattle.area.proofs.Kept.{Kept, Kept-refl, Kept-then, Kept-all_done, counter-all_done, in_plan}
use Rattle.area.proofs.Kept.{marked_kept, order_kept, node_count_kept, tx_count_kept, rx_count_kept, plan_of_kept, tx_frame_kept, rx_frame_kept, claims_kept}
use Rattle.area.proofs.NarrowLaws.{narrow_claims}
use Rattle.answers.specs.declared.Refusal.{Refusal}
use Rattle.answers.specs.declared.Refusal.TheVariants.{NotOpen, NoNode, LongPayload, WrongCall}
use Rattle.answers.specs.declared.Received.{Received}
use Rattle.answers.specs.declared.Received.TheVariants.{Accepted, NoRow, TooShort}
use Rattle.reception.specs.declared.lookup.Found.{Found}
use Rattle.reception.specs.declared.lookup.Found.TheVariants.{At, Nothing}
use Rattle.reception.specs.Lookup.{looked_up}
use Rattle.reception.specs.Reception.{accepted_area, found_answer, found_area, received_answer, received_area}
use Rattle.reception.proofs.Search.{found_small}
use Rattle.reception.proofs.WalkLaws.{Kept-restarted, counter_restarted}
use Rattle.reception.proofs.Outcomes.{goes_on}

-- what a test chooses for the answer and for the area
pairs :
    (P : Result Received Refusal → List ℕ → Type 0) (t : Bool) {x y : Result Received Refusal} {b c : List ℕ} → (t ≡ true → P x b) → (t ≡ false → P y c)
    → P (pick t x y) (pick t b c)
unfolding pick
pairs P true p q = p refl
pairs P false p q = q refl

module _ (a : List ℕ) (n : ℕ) (id : Id) (payload : List ℕ) where
  -- when a payload is accepted, and for which row
  pub record For (r : RxNumber) : Type 0 where
    pub opened : marked a ≡ true
    pub known : n < node_count a
    pub can : is_lin (type_on a n) ≡ false
    pub short : length payload ≤ 8
    pub found : looked_up a n id ≡ At r
    pub whole : (rx_frame a r.0).size ≤ length payload

  -- what holds of every answer but an acceptance with the area as it was, and of an acceptance with what it does, holds of a reception
  pub by_answer :
      (P : Result Received Refusal → List ℕ → Type 0) → ((x : Result Received Refusal) → (x ≡ Ok Accepted → ⊥) → P x a)
      → ((r : RxNumber) → For r → P (Ok Accepted) (accepted_area a r.0 payload))
      → P (received_answer a n id payload) (received_area a n id payload)
  unfolding received_answer received_area
  by_answer P other taken =
      pairs P (marked a)
      (λ o. pairs P (ltb n (node_count a))
      (λ k. pairs P (is_lin (type_on a n)) (λ c. refuse WrongCall)
      (λ c. pairs P (leb (length payload) 8)
      (λ s. go o (ltb-true n (node_count a) k) c (leb-true (length payload) 8 s) (looked_up a n id) refl)
      (λ s. refuse LongPayload)))
      (λ k. refuse NoNode))
      (λ o. refuse NotOpen)
    where
      refuse : (why : Refusal) → P (Err why) a
      refuse why = other (Err why) (λ e. differ cc)

      go : marked a ≡ true → n < node_count a → is_lin (type_on a n) ≡ false → length payload ≤ 8 → (f : Found) → looked_up a n id ≡ f
          → P (found_answer a f payload) (found_area a f payload)
      go o k c s (Nothing place) e = unfold found_answer found_area in other (Ok (NoRow place)) (λ w. differ cc)
      go o k c s (At r) e = unfold found_answer found_area in
          pairs P (ltb (length payload) (rx_frame a r.0).size)
          (λ t. other (Ok TooShort) (λ w. differ cc))
          (λ t. taken r (record { opened = o; known = k; can = c; short = s; found = e; whole = ltb-false (length payload) (rx_frame a r.0).size t }))

  -- an unaccepted reception leaves every byte
  pub stays : (received_answer a n id payload ≡ Ok Accepted → ⊥) → received_area a n id payload ≡ a
  stays = by_answer (λ x b. (x ≡ Ok Accepted → ⊥) → b ≡ a) (λ x d d'. refl) (λ r f d. absurd (d refl))

  -- and an accepted one is for a row
  pub accepts : (r : RxNumber) → For r → (Ok Accepted ≡ received_answer a n id payload) × (accepted_area a r.0 payload ≡ received_area a n id payload)
  unfolding found_answer found_area pick
  accepts r f =
      let t = le-ltb (length payload) (rx_frame a r.0).size f.whole in
      goes_on a n id payload f.opened f.known f.can (At r) (Ok Accepted) (accepted_area a r.0 payload) f.short (sym f.found) (rw t) (rw t)

  -- answer 1 is what the lookup says that finds nothing
  abbrev pub Missed : ℕ → Type 0
  Missed place = (n < node_count a) × (looked_up a n id ≡ Nothing place)

  pub missed : (place : ℕ) → received_answer a n id payload ≡ Ok (NoRow place) → Missed place
  unfolding received_answer
  missed place =
      cases (λ x. x ≡ Ok (NoRow place) → Missed place) (marked a) _ _
      (λ o. cases (λ x. x ≡ Ok (NoRow place) → Missed place) (ltb n (node_count a)) _ _
      (λ k. cases (λ x. x ≡ Ok (NoRow place) → Missed place) (is_lin (type_on a n)) _ _ (λ c e. no cc)
      (λ c. cases (λ x. x ≡ Ok (NoRow place) → Missed place) (leb (length payload) 8) _ _
      (λ s. go (ltb-true n (node_count a) k) (looked_up a n id) refl)
      (λ s e. no cc)))
      (λ k e. no cc))
      (λ o e. no cc)
    where
      no : ◌≡◌ {A = ℕ} 0 1 → Missed place
      no z = absurd (omega arith)

      go : n < node_count a → (f : Found) → looked_up a n id ≡ f → found_answer a f payload ≡ Ok (NoRow place) → Missed place
      go k (Nothing q) e = unfold found_answer in λ w. let same : q ≡ place = cc in (k, e ∙ ap Nothing same)
      go k (At r) e = unfold found_answer in
          cases (λ x. x ≡ Ok (NoRow place) → Missed place) (ltb (length payload) (rx_frame a r.0).size) _ _ (λ t w. no cc) (λ t w. no cc)

-- ---- what is kept

module _ (a : List ℕ) (b : Bytes a) where
  Kept-accepted : (r : ℕ) (payload : List ℕ) → r < row_bound → Kept a (accepted_area a r payload)
  unfolding accepted_area
  Kept-accepted r payload h =
      Kept-then (Kept-restarted a r h)
      (Kept-all_done (order a) (accepted r payload) (claims a r) _ (narrow_claims a r b))

  counter_accepted : (r : ℕ) (payload : List ℕ) → counter (accepted_area a r payload) ≡ counter a
  unfolding accepted_area
  counter_accepted r payload =
      counter-all_done (order a) (accepted r payload) (claims a r) _ (narrow_claims a r b)
      ∙ (counter_restarted a r).at counter_byte refl

  module _ (n : ℕ) (id : Id) (payload : List ℕ) where
    abbrev after : List ℕ
    after = received_area a n id payload

    pub kept_received : Kept a after
    kept_received =
        by_answer a n id payload (λ x c. Kept a c) (λ x d. Kept-refl a)
        (λ r f. Kept-accepted r.0 payload (found_small a n id r f.found))

    pub counter_received : counter after ≡ counter a
    counter_received = by_answer a n id payload (λ x c. counter c ≡ counter a) (λ x d. refl) (λ r f. counter_accepted r.0 payload)

    pub length_received : length after ≡ length a
    length_received = kept_received.len

    pub marked_received : marked after ≡ marked a
    marked_received = marked_kept kept_received

    pub header_received : (order after ≡ order a) × (node_count after ≡ node_count a) × (tx_count after ≡ tx_count a) × (rx_count after ≡ rx_count a)
    header_received = (order_kept kept_received, node_count_kept kept_received, tx_count_kept kept_received, rx_count_kept kept_received)

    pub plan_received : plan_of after ≡ plan_of a
    plan_received = plan_of_kept kept_received

    pub tx_frame_received : (t : ℕ) → t < 256 → tx_frame after t ≡ tx_frame a t
    tx_frame_received = tx_frame_kept kept_received

    pub rx_frame_received : (r : ℕ) → r < 256 → rx_frame after r ≡ rx_frame a r
    rx_frame_received = rx_frame_kept kept_received

    pub claims_received : (r : ℕ) → r < 256 → claims after r ≡ claims a r
    claims_received = claims_kept kept_received

    -- bytes from the plan on are the caller's plan and what is past it
    pub past_received : (j : ℕ) → plan_start ≤ j → byte_at after j ≡ byte_at a j
    past_received j h = kept_received.at j (in_plan j (omega arith))
