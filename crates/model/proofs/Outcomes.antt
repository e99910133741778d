-- What a call can come to, of any gateway that meets the rules: it leaves the state, or it does its work.
use mathlib.Core.Path.{◌≡◌, refl, ap, ◌∙◌}
use mathlib.Core.Logic.{◌⊎◌, inl, inr, ⊎_elim}
use mathlib.Core.List.{List, [], ◌∷◌}
use Prim.Native.Nat.{ℕ, ◌≤◌, ◌<◌}
use native.Mathlib.Omega.{arith}
use native.Mathlib.Decide.{ℕ_discrete, dec_lt}
use lib.ListN.{length}
use Rattle.std.specs.Prelude.{Option, Result, Ok, Err}
use Rattle.base.proofs.Apart.{differ}
use Rattle.records.specs.declared.record.Id.{Id}
use Rattle.records.specs.declared.record.Entry.{Entry}
use Rattle.records.specs.declared.record.Entry.TheVariants as entry
use Rattle.plan.specs.Rows.{Claim}
use Rattle.lin.specs.Identifier.{protected_of}
use Rattle.lin.specs.Checksum.{checksum_of}
use Rattle.answers.specs.declared.Refusal.{Refusal}
use Rattle.answers.specs.declared.Refusal.TheVariants.{NoNode, LongPayload, WrongCall}
use Rattle.answers.specs.declared.Received.{Received}
use Rattle.answers.specs.declared.Received.TheVariants.{Accepted, NoRow, TooShort}
use Rattle.answers.specs.declared.Responded.{Responded}
use Rattle.answers.specs.declared.Responded.TheVariants as OfResponse
use Rattle.answers.specs.declared.Taken.{Taken}
use Rattle.model.specs.Plan.{Plan, row_in}
use Rattle.model.specs.State.{State, queue_on}
use Rattle.model.specs.Calls.{Call, reception, response, no_response, tick, take, fullness, received, responded, silent, Running}
use Rattle.model.specs.Words.{LinNode, Names, Polls, NothingPolled, Shape, Answers}
use Rattle.model.specs.ReceptionRules.{Aside, InOrder, Accepts, ReceptionRules}
use Rattle.model.specs.ResponseRules.{AcceptsResponse, ResponseRules}
use Rattle.model.specs.SilenceRules.{Silences, SilenceRules}
use Rattle.model.specs.TickRules.{Done}
use Rattle.model.specs.TakeRules.{Takes, TakeRules}
use Rattle.model.specs.Rules.{Runs}
use Rattle.model.proofs.Nodes.{dec_lin}
use Rattle.model.proofs.AgreeTicks.{named}
use Rattle.model.proofs.AgreeReceptions.{order_shape, recount_shape, restart_shape}
use Rattle.model.proofs.AgreeResponses.{polled}

-- a tick is refused, or it is done
abbrev pub TickOutcome : Plan → Running → State → List ℕ → Type 0
TickOutcome p g s report =
    ((g.next s (tick report) ≡ s) × (length report < length p.rows)) ⊎ ((length p.rows ≤ length report) × Done p g s report)

-- what the destinations of an acceptance leave
pub order_aside : (p : Plan) (payload : List ℕ) (cs : List Claim) (s x : State) → InOrder p payload cs s x → Aside s x
unfolding InOrder
order_aside p payload [] s x e = rw e (record { number = refl; rx_timers = refl; longs = refl })
order_aside p payload (c ∷ cs) s x (m, a, b) =
    let more = order_aside p payload cs m x b in
    let here = a.aside in
    record { number = more.number ∙ here.number; rx_timers = more.rx_timers ∙ here.rx_timers; longs = more.longs ∙ here.longs }

module _ (p : Plan) (g : Running) (meets : Runs p g) (s : State) (k : Shape p s) where
  abbrev Left : Call → Type 0
  Left c = g.next s c ≡ s

  -- a reception is accepted for the Rx frame that it names, or it is answered otherwise and leaves the state
  abbrev pub ReceptionOutcome : ℕ → Id → List ℕ → Type 0
  ReceptionOutcome n i payload =
      ((x : Result Received Refusal) × (x ≡ Ok Accepted → ⊥) × Answers g s (reception n i payload) (received x))
      ⊎ ((r : ℕ) × Names p n i r × (LinNode p n → ⊥) × Accepts p g s n i payload r)

  pub reception_outcome : (n : ℕ) (i : Id) (payload : List ℕ) → ReceptionOutcome n i payload
  reception_outcome n i payload = go (dec_lt n p.nodes) (dec_lin p n) (dec_lt 8 (length payload)) (named p g g s k n i)
    where
      a : ReceptionRules p g s n i payload
      a = meets.reception s k n i payload

      row : n < p.nodes → (LinNode p n → ⊥) → length payload ≤ 8 → (r : ℕ) → Names p n i r → Dec (length payload < (row_in p r).frame.size)
          → ReceptionOutcome n i payload
      row l c m r x (yes d) = inl (Ok TooShort, (λ e. differ cc), a.short l c m r x d)
      row l c m r x (no d) = inr (r, x, c, a.accepted l c m r x (omega arith))

      go : Dec (n < p.nodes) → Dec (LinNode p n) → Dec (8 < length payload) → ((r : ℕ) × Names p n i r) ⊎ ((r : ℕ) → Names p n i r → ⊥)
          → ReceptionOutcome n i payload
      go (no d) c w v = inl (Err NoNode, (λ e. differ cc), a.refused (omega arith))
      go (yes l) (yes c) w v = inl (Err WrongCall, (λ e. differ cc), a.on_lin l c)
      go (yes l) (no c) (yes m) v = inl (Err LongPayload, (λ e. differ cc), a.long l c m)
      go (yes l) (no c) (no m) (inr f) = let x = a.no_row l c (omega arith) f in inl (Ok (NoRow (length x.rows)), (λ e. differ cc), x.answers)
      go (yes l) (no c) (no m) (inl (r, x)) = row l c (omega arith) r x (dec_lt _ _)

  -- a response is accepted for the Rx frame that is asked for, or it is answered otherwise and leaves the state
  abbrev pub ResponseOutcome : ℕ → ℕ → List ℕ → ℕ → Type 0
  ResponseOutcome n i payload sum =
      ((x : Result Responded Refusal) × (x ≡ Ok OfResponse.Accepted → ⊥) × Answers g s (response n i payload sum) (responded x))
      ⊎ ((r : ℕ) × Polls p n i r × AcceptsResponse p g s n i payload sum r)

  pub response_outcome : (n i : ℕ) (payload : List ℕ) (sum : ℕ) → ResponseOutcome n i payload sum
  response_outcome n i payload sum = go (dec_lt n p.nodes)
    where
      a : ResponseRules p g s n i payload sum
      a = meets.response s k n i payload sum

      whole : (r : ℕ) → Polls p n i r → length payload ≤ 8 → (row_in p r).frame.size ≤ length payload → Dec (sum ≡ checksum_of (protected_of i) payload)
          → ResponseOutcome n i payload sum
      whole r x m d (yes e) = inr (r, x, a.accepted r x m d e)
      whole r x m d (no e) = inl (Ok OfResponse.WrongSum, (λ f. differ cc), a.wrong_sum r x m d e)

      row : (r : ℕ) → Polls p n i r → Dec (8 < length payload) → Dec (length payload < (row_in p r).frame.size) → ResponseOutcome n i payload sum
      row r x (yes m) w = inl (Err LongPayload, (λ e. differ cc), a.long r x m)
      row r x (no m) (yes d) = inl (Ok OfResponse.TooShort, (λ e. differ cc), a.short r x (omega arith) d)
      row r x (no m) (no d) = whole r x (omega arith) (omega arith) (ℕ_discrete _ _)

      on : n < p.nodes → ((r : ℕ) × Polls p n i r) ⊎ NothingPolled p n i → ResponseOutcome n i payload sum
      on l (inl (r, x)) = row r x (dec_lt _ _) (dec_lt _ _)
      on l (inr f) = inl (Err WrongCall, (λ e. differ cc), a.wrong_call l f)

      go : Dec (n < p.nodes) → ResponseOutcome n i payload sum
      go (no d) = inl (Err NoNode, (λ e. differ cc), a.refused (omega arith))
      go (yes l) = on l (polled p g g s k n i l)

  -- "no response" is refused, or it is one of the Rx frame that is asked for
  abbrev pub SilenceOutcome : ℕ → ℕ → Type 0
  SilenceOutcome n i =
      ((why : Refusal) × Answers g s (no_response n i) (silent (Err why)))
      ⊎ ((r : ℕ) × Polls p n i r × Silences p r s (g.next s (no_response n i)))

  pub silence_outcome : (n i : ℕ) → SilenceOutcome n i
  silence_outcome n i = go (dec_lt n p.nodes)
    where
      a : SilenceRules p g s n i
      a = meets.no_response s k n i

      on : n < p.nodes → ((r : ℕ) × Polls p n i r) ⊎ NothingPolled p n i → SilenceOutcome n i
      on l (inl (r, x)) = inr (r, x, a.then r x)
      on l (inr f) = inl (WrongCall, a.wrong_call l f)

      go : Dec (n < p.nodes) → SilenceOutcome n i
      go (no d) = inl (NoNode, a.refused (omega arith))
      go (yes l) = on l (polled p g g s k n i l)

  pub tick_outcome : (report : List ℕ) → TickOutcome p g s report
  tick_outcome report = go (dec_lt (length report) (length p.rows))
    where
      go : Dec (length report < length p.rows) → TickOutcome p g s report
      go (yes l) = inl (((meets.tick s k report).refused l).stays, l)
      go (no d) = inr (omega arith, (meets.tick s k report).done (omega arith))

  -- a take leaves the state, or takes the oldest that waits
  abbrev pub TakeOutcome : ℕ → Type 0
  TakeOutcome n =
      Left (take n) ⊎ ((e : Entry) × (rest : List Entry) × (queue_on s n ≡ e ∷ rest) × (x : Result (Option Taken) Refusal) × (payload : List ℕ) × Takes g s n rest x payload)

  pub take_outcome : (n : ℕ) → TakeOutcome n
  take_outcome n = go (dec_lt n p.nodes)
    where
      a : TakeRules p g s n
      a = meets.take s k n

      on : n < p.nodes → (q : List Entry) → queue_on s n ≡ q → TakeOutcome n
      on l [] e = inl (a.none l e).stays
      on l (entry.Frame t ∷ rest) e = inr (_, rest, e, _, _, (a.oldest_frame l t.0 rest e).takes)
      on l (entry.Request r ∷ rest) e = inr (_, rest, e, _, _, a.oldest_request l r.0 rest e)

      go : Dec (n < p.nodes) → TakeOutcome n
      go (no d) = inl (a.refused (omega arith)).stays
      go (yes l) = on l (queue_on s n) refl

  pub fullness_outcome : (t : ℕ) → Left (fullness t)
  fullness_outcome t = go (dec_lt t (length p.tx))
    where
      go : Dec (t < length p.tx) → Left (fullness t)
      go (no d) = ((meets.fullness s k t).refused (omega arith)).stays
      go (yes l) = ((meets.fullness s k t).counts l).answers.stays

  -- ---- each leaves one thing of each kind

  same : {c : Call} → Left c → Shape p (g.next s c)
  same e = rw e k

  pub shaped : (c : Call) → Shape p (g.next s c)
  shaped (reception n i payload) =
      ⊎_elim (λ (x, d, w). same w.stays)
      (λ (r, x, c, w). order_shape p payload (row_in p r).claims w.again _ (restart_shape p r s w.again k w.restarts) w.puts)
      (reception_outcome n i payload)
  shaped (response n i payload sum) =
      ⊎_elim (λ (x, d, w). same w.stays)
      (λ (r, x, w).
      order_shape p payload (row_in p r).claims w.again _ (recount_shape p r s w.again k w.recounts (ap length w.rx_timers)) w.puts)
      (response_outcome n i payload sum)
  shaped (no_response n i) = ⊎_elim (λ (why, w). same w.stays) (λ (r, x, w). w.shape) (silence_outcome n i)
  shaped (tick report) = ⊎_elim (λ e. same e.0) (λ w. w.1.ticks.shape) (tick_outcome report)
  shaped (take n) =
      ⊎_elim same
      (λ (e, rest, q, answer, payload, x).
      record {
        kept = ap length x.kept ∙ k.kept;
        payload = λ u m. rw x.kept (k.payload u m);
        tx_timers = ap length x.tx_timers ∙ k.tx_timers;
        rx_timers = ap length x.rx_timers ∙ k.rx_timers;
        longs = ap length x.longs ∙ k.longs;
        queues = x.queues ∙ k.queues;
      })
      (take_outcome n)
  shaped (fullness t) = same (fullness_outcome t)
