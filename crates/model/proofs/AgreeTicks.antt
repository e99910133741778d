-- Two gateways that meet the rules of takes, fullness and ticks answer them alike and leave one state.
use mathlib.Core.Path.{◌≡◌, refl, sym, ap, ◌∙◌}
use mathlib.Core.Logic.{◌⊎◌, inl, inr, ⊎_elim}
use mathlib.Core.List.{List, [], ◌∷◌, ◌++◌, map}
use Prim.Native.Nat.{ℕ, ◌%◌, ◌<◌}
use native.Mathlib.Omega.{arith}
use native.Mathlib.Decide.{ℕ_discrete, dec_lt}
use lib.ListN.{length, get_or}
use lib.Seq.{ext_get_or}
use Rattle.std.specs.Prelude.{Option, Result, Ok}
use Rattle.bits.specs.Payload.{bit_at}
use Rattle.bits.proofs.PayloadLaws.{bit_at-lt, same_bits}
use Rattle.records.specs.declared.record.Id.{Id}
use Rattle.records.specs.declared.record.Entry.{Entry}
use Rattle.records.specs.declared.record.Entry.TheVariants as entry
use Rattle.records.specs.Nodes.{frame, request}
use Rattle.lin.specs.Checksum.{checksum_of}
use Rattle.answers.specs.declared.Refusal.{Refusal}
use Rattle.answers.specs.declared.Framing.TheVariants.{Lin}
use Rattle.answers.specs.declared.Taken.{Taken}
use Rattle.model.specs.Plan.{Plan, row_in}
use Rattle.model.specs.State.{State, kept_of, queue_on}
use Rattle.model.specs.Calls.{Call, tick, take, fullness, Running, ticked, taken, full}
use Rattle.model.specs.Words.{LinNode, LinRow, Names, Shape, Answers}
use Rattle.model.specs.TickRules.{TimesOut, Ticks, Reports, Done, TickRules}
use Rattle.model.specs.TakeRules.{Takes, TakesFrame, TakeRules}
use Rattle.model.specs.FullnessRules.{FullnessRules}
use Rattle.model.proofs.Ids.{dec_same}
use Rattle.model.proofs.Words.{state_same, those_same, falls_same, first_or_none, bit_same}
use Rattle.model.proofs.Nodes.{dec_lin}

-- both give one answer and one state to a call
pub record Agree (g h : Running) (s : State) (c : Call) : Type 0 where
  pub answer : g.answer s c ≡ h.answer s c
  pub next : g.next s c ≡ h.next s c

-- ---- payloads

pub payloads :
    (p : Plan)
    → (x y : State) → Shape p x → Shape p y
    → ((t b : ℕ) → t < length p.tx → b < 64 → bit_at p.order (kept_of x t) b ≡ bit_at p.order (kept_of y t) b) → x.kept ≡ y.kept
payloads p x y a b f =
    ext_get_or [] _ _ (a.kept ∙ sym b.kept)
    (λ t l.
    let m : t < length p.tx = omega (arith, a.kept) in
    let u = a.payload t m in
    let v = b.payload t m in
    same_bits p.order _ _ (u.eight ∙ sym v.eight) u.bytes v.bytes (λ i k. f t i m (omega (arith, u.eight))))

module _ (p : Plan) (g h : Running) (s : State) (shape : Shape p s) where
  pub agree : {c : Call} → {x : _} → Answers g s c x → Answers h s c x → Agree g h s c
  agree a b = record { answer = a.answer ∙ sym b.answer; next = a.stays ∙ sym b.stays }

  -- ---- take

  takes : (n : ℕ) (rest : List Entry) {x y : Result (Option Taken) Refusal} {u v : List ℕ} → Takes g s n rest x u → Takes h s n rest y v → x ≡ y → u ≡ v
      → Agree g h s (take n)
  takes n rest a b e f =
      record {
        answer = a.answer ∙ (λ i. taken (e i) (f i)) ∙ sym b.answer;
        next =
            state_same _ _ (a.number ∙ sym b.number) (a.kept ∙ sym b.kept) (a.tx_timers ∙ sym b.tx_timers)
            (a.rx_timers ∙ sym b.rx_timers) (a.longs ∙ sym b.longs)
            (ext_get_or [] _ _ (a.queues ∙ sym b.queues) (λ m l. at m (ℕ_discrete m n)));
      }
    where
      at : (m : ℕ) → Dec (m ≡ n) → queue_on (g.next s (take n)) m ≡ queue_on (h.next s (take n)) m
      at m (yes e) = rw e (a.leaves ∙ sym b.leaves)
      at m (no d) = a.others m d ∙ sym (b.others m d)

  pub take_agrees : (n : ℕ) → TakeRules p g s n → TakeRules p h s n → Agree g h s (take n)
  take_agrees n a b = go (dec_lt n p.nodes)
    where
      -- what goes with a frame, by what the node is
      framed : (t : ℕ) (rest : List Entry) (x : TakesFrame p g s n t rest) (y : TakesFrame p h s n t rest) → Dec (LinNode p n) → x.framing ≡ y.framing
      framed t rest x y (yes c) = x.lin c ∙ ap (λ z. Lin _ (checksum_of _ z)) (x.whole ∙ sym y.whole) ∙ sym (y.lin c)
      framed t rest x y (no c) = x.can c ∙ sym (y.can c)

      on : n < p.nodes → (q : List Entry) → queue_on s n ≡ q → Agree g h s (take n)
      on l [] e = agree (a.none l e) (b.none l e)
      on l (entry.Frame t ∷ rest) e =
          let x = a.oldest_frame l t.0 rest e in
          let y = b.oldest_frame l t.0 rest e in
          takes n rest x.takes y.takes (rw (framed t.0 rest x y (dec_lin p n))) (x.whole ∙ sym y.whole)
      on l (entry.Request r ∷ rest) e = takes n rest (a.oldest_request l r.0 rest e) (b.oldest_request l r.0 rest e) refl refl

      go : Dec (n < p.nodes) → Agree g h s (take n)
      go (no d) = agree (a.refused (omega arith)) (b.refused (omega arith))
      go (yes l) = on l (queue_on s n) refl

  -- ---- fullness

  pub fullness_agrees : (t : ℕ) → FullnessRules p g s t → FullnessRules p h s t → Agree g h s (fullness t)
  fullness_agrees t a b = go (dec_lt t (length p.tx))
    where
      go : Dec (t < length p.tx) → Agree g h s (fullness t)
      go (no d) = agree (a.refused (omega arith)) (b.refused (omega arith))
      go (yes l) =
          let x = a.counts l in
          let y = b.counts l in
          record {
            answer =
                x.answers.answer ∙ ap (λ bits. full (Ok (length bits))) (those_same x.those y.those) ∙ sym y.answers.answer;
            next = x.answers.stays ∙ sym y.answers.stays;
          }

  -- ---- tick

  times_out : (r : ℕ) → r < length p.rows → Dec (TimesOut p s r)
  times_out r l = go (ℕ_discrete (s.number % (row_in p r).frame.prescaler) 0) (ℕ_discrete (get_or s.rx_timers r 0) 1) (dec_lin p (row_in p r).frame.node)
    where
      go : Dec (s.number % (row_in p r).frame.prescaler ≡ 0) → Dec (get_or s.rx_timers r 0 ≡ 1) → Dec (LinRow p r) → Dec (TimesOut p s r)
      go (yes e) (yes f) (no c) = yes (record { expires = record { frame = l; handled = e; last = f }; not_lin = c })
      go (yes e) (yes f) (yes c) = no (λ x. x.not_lin c)
      go (no d) w v = no (λ x. d x.expires.handled)
      go (yes e) (no d) v = no (λ x. d x.expires.last)

  ticks : (x y : State) → Ticks p s x → Ticks p s y → x ≡ y
  ticks x y a b =
      let u = a.shape in
      let v = b.shape in
      state_same x y (a.number ∙ sym b.number)
      (payloads p x y u v (λ t i l m.
      let k = a.kept t i l m in
      let j = b.kept t i l m in
      bit_same _ _ (bit_at-lt _ _ _) (bit_at-lt _ _ _) k.0 k.1 j.0 j.1))
      (ext_get_or 0 _ _ (u.tx_timers ∙ sym v.tx_timers)
      (λ t l. let m : t < length p.tx = omega (arith, u.tx_timers) in falls_same (ℕ_discrete _ _) (a.tx_timers t m) (b.tx_timers t m)))
      (ext_get_or 0 _ _ (u.rx_timers ∙ sym v.rx_timers)
      (λ r l. let m : r < length p.rows = omega (arith, u.rx_timers) in falls_same (ℕ_discrete _ _) (a.rx_timers r m) (b.rx_timers r m)))
      (ext_get_or 0 _ _ (u.longs ∙ sym v.longs)
      (λ r l. let m : r < length p.rows = omega (arith, u.longs) in falls_same (times_out r m) (a.longs r m) (b.longs r m)))
      (ext_get_or [] _ _ (u.queues ∙ sym v.queues)
      (λ n l.
      let m : n < p.nodes = omega (arith, u.queues) in
      let j = a.queues n m in
      let k = b.queues n m in
      let e = those_same j.sent k.sent in
      let f = those_same j.asked k.asked in
      j.then ∙ (λ i. queue_on s n ++ map frame (e i) ++ map request (f i)) ∙ sym k.then))

  pub reports : (lent x y : List ℕ) → Reports p s lent x → Reports p s lent y → x ≡ y
  reports lent x y a b = ext_get_or 0 x y (a.size ∙ sym b.size) (λ r l. go r (dec_lt r (length p.rows)))
    where
      at : (r : ℕ) → r < length p.rows → Dec (TimesOut p s r) → Dec (get_or s.longs r 0 ≡ 1) → get_or x r 0 ≡ get_or y r 0
      at r l (no d) w = a.nothing r l d ∙ sym (b.nothing r l d)
      at r l (yes e) (yes f) = a.long r e f ∙ sym (b.long r e f)
      at r l (yes e) (no f) = a.short r e f ∙ sym (b.short r e f)

      go : (r : ℕ) → Dec (r < length p.rows) → get_or x r 0 ≡ get_or y r 0
      go r (yes l) = at r l (times_out r l) (ℕ_discrete _ 1)
      go r (no d) = a.further r (omega arith) ∙ sym (b.further r (omega arith))

  pub tick_agrees : (report : List ℕ) → TickRules p g s report → TickRules p h s report → Agree g h s (tick report)
  tick_agrees report a b = go (dec_lt (length report) (length p.rows))
    where
      done : Done p g s report → Done p h s report → Agree g h s (tick report)
      done x y =
          record {
            answer = x.answer ∙ ap (λ given. ticked (Ok tt) given) (reports report _ _ x.reports y.reports) ∙ sym y.answer;
            next = ticks _ _ x.ticks y.ticks;
          }

      go : Dec (length report < length p.rows) → Agree g h s (tick report)
      go (yes l) = agree (a.refused l) (b.refused l)
      go (no d) = done (a.done (omega arith)) (b.done (omega arith))

  -- ---- reception

  pub named : (n : ℕ) (i : Id) → ((r : ℕ) × Names p n i r) ⊎ ((r : ℕ) → Names p n i r → ⊥)
  named n i = ⊎_elim (λ w. inl w) (λ f. inr (λ r x. f r x.exists x)) (first_or_none (Names p n i) dec (length p.rows))
    where
      go : (r : ℕ) → Dec (r < length p.rows) → Dec ((row_in p r).frame.node ≡ n) → Dec ((row_in p r).frame.id ≡ i) → Dec (Names p n i r)
      go r (yes l) (yes e) (yes f) = yes (record { exists = l; node = e; id = f })
      go r (no d) w v = no (λ x. d x.exists)
      go r (yes l) (no d) v = no (λ x. d x.node)
      go r (yes l) (yes e) (no d) = no (λ x. d x.id)

      dec : (r : ℕ) → Dec (Names p n i r)
      dec r = go r (dec_lt r (length p.rows)) (ℕ_discrete _ n) (dec_same _ i)
