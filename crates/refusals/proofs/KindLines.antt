-- The tests of 9's first half, 2 and 1 fail exactly where those lines apply.
use mathlib.Core.Path.{◌≡◌, refl, sym, ◌∙◌}
use mathlib.Core.Logic.{◌≢◌}
use mathlib.Core.Bool.{true, false, true≢false}
use mathlib.Core.List.{List, [], ◌∷◌}
use Prim.Native.Nat.{ℕ, ◌<◌}
use native.Mathlib.Decide.{ℕ_discrete, dec_lt}
use native.Mathlib.Omega.{arith}
use lib.ListN.{length}
use Rattle.base.specs.Pick.{pick}
use Rattle.records.specs.declared.record.Id.{Id}
use Rattle.records.specs.declared.record.Id.TheVariants.{Standard, Extended}
use Rattle.records.specs.declared.record.Record.{Record}
use Rattle.records.specs.declared.record.Record.TheVariants.{Head, Node, Tx, Rx, Signal, Destination, Broken}
use Rattle.records.specs.declared.record.SignalBody.{SignalBody}
use Rattle.records.specs.declared.record.Fault.TheVariants.{End, BadKind, Cut}
use Rattle.records.specs.Kinds.{form_of, tx_stage, rx_stage, stage_of_kind, tx_kind, rx_kind, stage_of}
use Rattle.records.proofs.RecordLaws.{by_kind_byte, no_stage}
use Rattle.plan.specs.Tests.{followed, is_kind, is_whole}
use Rattle.facts.specs.Statements.{State}
use Rattle.refusals.specs.Before.{◌and◌, RxBefore}
use Rattle.refusals.specs.Places.{OfKind, head, node, tx_frame, rx_frame, signal, destination, cut, NotFollowed}
use Rattle.refusals.specs.Places.{no_signal, no_destination, MissingFollower, UnknownKind, RunsPast}
use Rattle.refusals.proofs.Passing.{row_in, stage_in}
use Rattle.refusals.proofs.Awaiting.{Awaiting, all, one, nothing}
use Rattle.refusals.proofs.SoFar.{SoFar}
use Rattle.refusals.proofs.Fails.{Fails, equal, either, by}

-- ---- the kind of a record, and its stage

-- of a signal and of a destination, the kind and the stage have the same number
stage_kind : (kind : ℕ) → 4 < stage_of_kind kind → stage_of_kind kind ≡ kind
unfolding stage_of_kind form_of pick
stage_kind kind =
    by_kind_byte (λ k. 4 < stage_of_kind k → stage_of_kind k ≡ k) (λ l. absurd (omega arith)) (λ l. absurd (omega arith)) (λ l. absurd (omega arith))
    (λ l. absurd (omega arith)) (λ l. refl) (λ l. refl) (λ l. absurd (omega arith)) (λ l. absurd (omega arith)) kind
    (λ none l. absurd (omega (arith, no_stage kind none)))

-- a frame has one stage in both formats
tx_stage_is : (id : Id) → tx_stage ≡ stage_of_kind (tx_kind id)
unfolding tx_kind stage_of_kind form_of pick
tx_stage_is (Standard n) = refl
tx_stage_is (Extended n) = refl

rx_stage_is : (id : Id) → rx_stage ≡ stage_of_kind (rx_kind id)
unfolding rx_kind stage_of_kind form_of pick
rx_stage_is (Standard n) = refl
rx_stage_is (Extended n) = refl

stage_of_is : {k : ℕ} {r : Record} → OfKind k r → stage_of r ≡ stage_of_kind k
unfolding stage_of stage_of_kind form_of pick
stage_of_is (head order) = refl
stage_of_is (node body) = refl
stage_of_is (tx_frame x) = tx_stage_is x.id
stage_of_is (rx_frame x) = rx_stage_is x.id
stage_of_is (signal g) = refl
stage_of_is (destination t) = refl
stage_of_is (cut kind) = refl

of_kind : (r : Record) → 4 < stage_of r → OfKind (stage_of r) r
unfolding stage_of
of_kind (Head order) l = absurd (omega arith)
of_kind (Node body) l = absurd (omega arith)
of_kind (Tx x) l = absurd (omega arith)
of_kind (Rx x) l = absurd (omega arith)
of_kind (Signal body) l = signal body
of_kind (Destination body) l = destination body
of_kind (Broken End) l = absurd (omega arith)
of_kind (Broken BadKind) l = absurd (omega arith)
of_kind (Broken (Cut kind)) l = rw (stage_kind kind l) (cut kind)

-- ---- 9, first half

missing : (since : List Record) (r : Record) (awaits : ℕ) → Awaiting awaits since → awaits ≢ 0 → awaits ≢ stage_of r → NotFollowed since r
unfolding stage_of_kind form_of pick
missing since r awaits (all e) d n = no_signal r (λ k. n (e ∙ sym (stage_of_is k)))
missing since r awaits (one g e) d n = no_destination g r (λ k. n (e ∙ sym (stage_of_is k)))
missing since r awaits (nothing x e) d n = absurd (d e)

-- a stage that is awaited, and is not r's
other : (r : Record) (awaits k : ℕ) → awaits ≡ k → 4 < k → (OfKind k r → ⊥) → (awaits ≢ 0) and (awaits ≢ stage_of r)
other r awaits k e l n = (
  (λ z. omega arith),
  (λ z. let same : stage_of r ≡ k = sym z ∙ e in n (rw same at (of_kind r (omega arith)))),
)

awaited : (since : List Record) (r : Record) (awaits : ℕ) → NotFollowed since r → (since ≡ [] → awaits ≡ 5)
    → ((g : SignalBody) → since ≡ Signal g ∷ [] → awaits ≡ 6) → (awaits ≢ 0) and (awaits ≢ stage_of r)
awaited since r awaits (no_signal x n) f g = other r awaits 5 (f refl) (omega arith) n
awaited since r awaits (no_destination y x n) f g = other r awaits 6 (g y refl) (omega arith) n

module _ (before : List Record) (s : State) (h : SoFar before s) where
  -- where something is awaited, an enabled indicator's Rx frame is being read
  pub awaits_rx : (row_in s).awaits ≢ 0 → (x : RxBefore before) × (x.frame.enable ≡ 1)
  awaits_rx d = go (dec_lt (stage_in s) 4)
    where
      on : (x : RxBefore before) → Dec (x.frame.enable ≡ 1) → (x : RxBefore before) × (x.frame.enable ≡ 1)
      on x (yes e) = (x, e)
      on x (no e) = absurd (d ((h.reading x).idle e))

      go : Dec (stage_in s < 4) → (x : RxBefore before) × (x.frame.enable ≡ 1)
      go (yes l) = absurd (d (h.stands.awaits l))
      go (no l) = let x = h.stands.rx (omega arith) in on x (ℕ_discrete x.frame.enable 1)

  pub follower : (r : Record) → Fails (followed (row_in s) (stage_of r)) (MissingFollower before r)
  unfolding followed
  follower r = by (either (equal (row_in s).awaits 0) (equal (row_in s).awaits (stage_of r))) to fro
    where
      to : ((row_in s).awaits ≢ 0) and ((row_in s).awaits ≢ stage_of r) → MissingFollower before r
      to w =
          let x = awaits_rx w.0 in
          record { rx = x.0; enabled = x.1; missing = missing x.0.since r (row_in s).awaits (h.awaits x.0 x.1) w.0 w.1 }

      fro : MissingFollower before r → ((row_in s).awaits ≢ 0) and ((row_in s).awaits ≢ stage_of r)
      fro m =
          let read = h.reading m.rx in
          awaited m.rx.since r (row_in s).awaits m.missing (read.first m.enabled) (read.second m.enabled)

  pub follower_names : (r : Record) (m : MissingFollower before r) → length m.rx.front ≡ (row_in s).source
  follower_names r m = sym (h.reading m.rx).source

-- ---- 2

pub kind_known : {k : ℕ} {r : Record} → OfKind k r → is_kind r ≡ true
unfolding is_kind
kind_known (head order) = refl
kind_known (node body) = refl
kind_known (tx_frame x) = refl
kind_known (rx_frame x) = refl
kind_known (signal g) = refl
kind_known (destination t) = refl
kind_known (cut kind) = refl

unknown : (r : Record) → UnknownKind r → is_kind r ≡ false
unfolding is_kind
unknown (Head order) u = absurd (u 1 (head order))
unknown (Node body) u = absurd (u 2 (node body))
unknown (Tx x) u = absurd (u _ (tx_frame x))
unknown (Rx x) u = absurd (u _ (rx_frame x))
unknown (Signal body) u = absurd (u 5 (signal body))
unknown (Destination body) u = absurd (u 6 (destination body))
unknown (Broken End) u = refl
unknown (Broken BadKind) u = refl
unknown (Broken (Cut kind)) u = absurd (u kind (cut kind))

pub known : (r : Record) → Fails (is_kind r) (UnknownKind r)
known r = record { says = λ e k w. true≢false (sym (kind_known w) ∙ e); back = unknown r }

-- ---- 1

is_cut : (r : Record) → is_whole r ≡ false → RunsPast r
unfolding is_whole
is_cut (Broken End) e = absurd (true≢false e)
is_cut (Broken BadKind) e = absurd (true≢false e)
is_cut (Broken (Cut kind)) e = (kind, refl)
is_cut (Head order) e = absurd (true≢false e)
is_cut (Node body) e = absurd (true≢false e)
is_cut (Tx x) e = absurd (true≢false e)
is_cut (Rx x) e = absurd (true≢false e)
is_cut (Signal body) e = absurd (true≢false e)
is_cut (Destination body) e = absurd (true≢false e)

pub cut_short : (r : Record) → Fails (is_whole r) (RunsPast r)
unfolding is_whole
cut_short r = record { says = is_cut r; back = λ w. rw w.1 }
