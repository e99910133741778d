-- Two gateways that meet the rules of a response and of "no response" answer them alike and leave one state.
use mathlib.Core.Path.{◌≡◌, sym, ◌∙◌}
use mathlib.Core.Logic.{◌⊎◌, inl, inr}
use mathlib.Core.List.{List}
use Prim.Native.Nat.{ℕ, ◌≤◌, ◌<◌}
use native.Mathlib.Omega.{arith}
use native.Mathlib.Decide.{ℕ_discrete, dec_lt}
use lib.ListN.{length, get_or}
use lib.Seq.{ext_get_or}
use Rattle.bits.proofs.PayloadLaws.{bit_at-lt}
use Rattle.lin.specs.Identifier.{protected_of}
use Rattle.lin.specs.Checksum.{checksum_of}
use Rattle.records.specs.declared.record.Id.TheVariants.{Standard}
use Rattle.model.specs.Plan.{Plan, row_in}
use Rattle.model.specs.State.{State}
use Rattle.model.specs.Calls.{response, no_response, Running}
use Rattle.model.specs.Words.{LinNode, Names, Polls, NothingPolled, Shape}
use Rattle.model.specs.ResponseRules.{AcceptsResponse, ResponseRules}
use Rattle.model.specs.SilenceRules.{Silences, SilenceRules}
use Rattle.model.proofs.Words.{state_same, falls_same, bit_same}
use Rattle.model.proofs.Nodes.{dec_lin}
use Rattle.model.proofs.AgreeTicks.{Agree, agree, payloads, named}
use Rattle.model.proofs.AgreeReceptions.{in_order, recounts}

module _ (p : Plan) (g h : Running) (s : State) (shape : Shape p s) (n i : ℕ) where
  -- the Rx frame that is asked for there, or none
  pub polled : n < p.nodes → ((r : ℕ) × Polls p n i r) ⊎ NothingPolled p n i
  polled l = go (dec_lin p n) (named p g h s shape n (Standard i))
    where
      go : Dec (LinNode p n) → ((r : ℕ) × Names p n (Standard i) r) ⊎ ((r : ℕ) → Names p n (Standard i) r → ⊥) → ((r : ℕ) × Polls p n i r) ⊎ NothingPolled p n i
      go (no c) w = inr (inl c)
      go (yes c) (inr f) = inr (inr f)
      go (yes c) (inl (r, x)) = inl (r, record { there = l; lin = c; names = x })

  -- ---- a response

  module _ (payload : List ℕ) (sum : ℕ) where
    accepts : (r : ℕ) → AcceptsResponse p g s n i payload sum r → AcceptsResponse p h s n i payload sum r → Agree g h s (response n i payload sum)
    accepts r a b =
        record {
          answer = a.answer ∙ sym b.answer;
          next =
              let e : a.again ≡ b.again = recounts p r s _ _ a.recounts b.recounts (a.rx_timers ∙ sym b.rx_timers) in
              in_order p payload (row_in p r).claims b.again _ _ (rw e at a.puts) b.puts;
        }

    pub response_agrees : ResponseRules p g s n i payload sum → ResponseRules p h s n i payload sum → Agree g h s (response n i payload sum)
    response_agrees a b = go (dec_lt n p.nodes)
      where
        whole : (r : ℕ) → Polls p n i r → length payload ≤ 8 → (row_in p r).frame.size ≤ length payload → Dec (sum ≡ checksum_of (protected_of i) payload)
            → Agree g h s (response n i payload sum)
        whole r x m k (yes e) = accepts r (a.accepted r x m k e) (b.accepted r x m k e)
        whole r x m k (no e) = agree p g h s shape (a.wrong_sum r x m k e) (b.wrong_sum r x m k e)

        row : (r : ℕ) → Polls p n i r → Dec (8 < length payload) → Dec (length payload < (row_in p r).frame.size) → Agree g h s (response n i payload sum)
        row r x (yes m) w = agree p g h s shape (a.long r x m) (b.long r x m)
        row r x (no m) (yes k) = agree p g h s shape (a.short r x (omega arith) k) (b.short r x (omega arith) k)
        row r x (no m) (no k) = whole r x (omega arith) (omega arith) (ℕ_discrete _ _)

        on : n < p.nodes → ((r : ℕ) × Polls p n i r) ⊎ NothingPolled p n i → Agree g h s (response n i payload sum)
        on l (inl (r, x)) = row r x (dec_lt _ _) (dec_lt _ _)
        on l (inr f) = agree p g h s shape (a.wrong_call l f) (b.wrong_call l f)

        go : Dec (n < p.nodes) → Agree g h s (response n i payload sum)
        go (no d) = agree p g h s shape (a.refused (omega arith)) (b.refused (omega arith))
        go (yes l) = on l (polled l)

  -- ---- no response

  silences : (r : ℕ) (x y : State) → Silences p r s x → Silences p r s y → x ≡ y
  silences r x y a b =
      let u = a.shape in
      let v = b.shape in
      state_same x y (a.number ∙ sym b.number)
      (payloads p x y u v (λ t k l m.
      let c = a.kept t k l m in
      let d = b.kept t k l m in
      bit_same _ _ (bit_at-lt _ _ _) (bit_at-lt _ _ _) c.0 c.1 d.0 d.1))
      (a.tx_timers ∙ sym b.tx_timers) (a.rx_timers ∙ sym b.rx_timers)
      (ext_get_or 0 _ _ (u.longs ∙ sym v.longs)
      (λ q l. let m : q < length p.rows = omega (arith, u.longs) in falls_same (ℕ_discrete q r) (a.longs q m) (b.longs q m)))
      (a.queues ∙ sym b.queues)

  pub silence_agrees : SilenceRules p g s n i → SilenceRules p h s n i → Agree g h s (no_response n i)
  silence_agrees a b = go (dec_lt n p.nodes)
    where
      answers : (r : ℕ) → Polls p n i r → Dec (get_or s.longs r 0 ≡ 1) → g.answer s (no_response n i) ≡ h.answer s (no_response n i)
      answers r x (yes e) = a.long r x e ∙ sym (b.long r x e)
      answers r x (no e) = a.short r x e ∙ sym (b.short r x e)

      on : n < p.nodes → ((r : ℕ) × Polls p n i r) ⊎ NothingPolled p n i → Agree g h s (no_response n i)
      on l (inl (r, x)) = record { answer = answers r x (ℕ_discrete _ 1); next = silences r _ _ (a.then r x) (b.then r x) }
      on l (inr f) = agree p g h s shape (a.wrong_call l f) (b.wrong_call l f)

      go : Dec (n < p.nodes) → Agree g h s (no_response n i)
      go (no d) = agree p g h s shape (a.refused (omega arith)) (b.refused (omega arith))
      go (yes l) = on l (polled l)
