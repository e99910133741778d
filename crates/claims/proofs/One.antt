-- No second list of claims has the properties.
use mathlib.Core.Path.{◌≡◌, sym, ◌∙◌}
use mathlib.Core.Logic.{◌⊎◌, inl, inr}
use mathlib.Core.List.{List, [], ◌∷◌, ◌++◌}
use Prim.Native.Nat.{ℕ, zero, suc, ◌+◌, ◌<◌}
use native.Mathlib.Nat.{zero-add}
use native.Mathlib.Omega.{arith}
use native.Mathlib.Decide.{ℕ_discrete}
use lib.ListN.{length, get_or}
use Rattle.base.specs.Pick.{pick}
use Rattle.records.specs.declared.record.SignalBody.{SignalBody}
use Rattle.records.specs.declared.record.DestinationBody.{DestinationBody}
use Rattle.records.specs.declared.record.Record.{Record}
use Rattle.records.specs.declared.record.Record.TheVariants.{Signal, Destination}
use Rattle.records.specs.Kinds.{stage_of}
use Rattle.plan.specs.Rows.{copy, Claim}
use Rattle.facts.specs.Good.{Each, count_of}
use Rattle.claims.specs.Claims.{IsDestination, Own, Copies, Indicated, SignalFirst}
use Rattle.claims.specs.Statements.{OneClaims}
use Rattle.claims.proofs.OfKind.{named, own_whole}
use Rattle.claims.proofs.Splits.{behind, instead, Each-append, each_here, same_lists, SplitAt, split_at}

-- ---- the k-th destination, with its signal

pub record Signalled (before : List Record) : Type 0 where
  pub upto : List Record
  pub g : SignalBody
  pub dests : List Record
  pub split : before ≡ upto ++ Signal g ∷ dests
  pub all : Each IsDestination dests

last_signal : (before : List Record) → Each Own before → Each IsDestination before ⊎ Signalled before
unfolding Each
last_signal [] h = inl tt
last_signal (r ∷ rs) h = go (last_signal rs h.1) h.0
  where
    go : Each IsDestination rs ⊎ Signalled rs → Own r → Each IsDestination (r ∷ rs) ⊎ Signalled (r ∷ rs)
    go (inl a) (inl o) = inr (record { upto = []; g = o.0; dests = rs; split = instead [] rs o.1; all = a })
    go (inl a) (inr o) = inl (o, a)
    go (inr k) o = inr (record { upto = r ∷ k.upto; g = k.g; dests = k.dests; split = behind r k.split; all = k.all })

signalled :
    (own before after : List Record) (t : DestinationBody) → SignalFirst own → Each Own own → own ≡ before ++ Destination t ∷ after
    → Signalled before
unfolding Each
signalled own before after t n o e = go before e (last_signal before (Each-append Own before _ (rw e at o)).0)
  where
    go : (before : List Record) → own ≡ before ++ Destination t ∷ after → Each IsDestination before ⊎ Signalled before → Signalled before
    go before e (inr k) = k
    go [] e (inl a) = absurd (n t after e)
    go (r ∷ rs) e (inl a) = absurd (n a.0.0 (rs ++ Destination t ∷ after) (e ∙ instead [] _ a.0.1))

pub record CopyAt (k : ℕ) (own : List Record) : Type 0 where
  pub before : List Record
  pub after : List Record
  pub t : DestinationBody
  pub split : own ≡ before ++ Destination t ∷ after
  pub many : count_of 6 before ≡ k
  pub signal : Signalled before

pub copy_at : (own : List Record) → SignalFirst own → Each Own own → (k : ℕ) → k < count_of 6 own → CopyAt k own
copy_at own n o k l = go (split_at 6 k own l)
  where
    named_at : (at : SplitAt 6 k own) → IsDestination at.here
    named_at at =
        let here = each_here Own at.front at.here at.rest (rw at.split at o) in
        (named at.here (own_whole at.here here)).destination at.is

    at_destination : (at : SplitAt 6 k own) → IsDestination at.here → CopyAt k own
    at_destination at x =
        let e : own ≡ at.front ++ Destination x.0 ∷ at.rest = at.split ∙ instead at.front at.rest x.1 in
        record {
          before = at.front;
          after = at.rest;
          t = x.0;
          split = e;
          many = at.many;
          signal = signalled own at.front at.rest x.0 n o e;
        }

    go : SplitAt 6 k own → CopyAt k own
    go at = at_destination at (named_at at)

-- ---- one list of claims

-- what stands there
pub copied :
    (first n : ℕ) (own : List Record) (cs : List Claim) → Copies first n own cs → (k : ℕ) (c : CopyAt k own) (d : Claim)
    → get_or cs (first + k) d ≡ record { rx = n; tx = c.t.tx.0; at = c.t.position; from = copy c.signal.g.position c.signal.g.size }
copied first n own cs h k c d =
    rw (← c.many)
    (h.each c.before c.signal.upto c.signal.dests c.after c.signal.g c.t c.split c.signal.split
    c.signal.all d)

copies_same :
    (first n : ℕ) (own : List Record) → Each Own own → SignalFirst own → (cs ds : List Claim) → Copies first n own cs → Copies first n own ds
    → (d : Claim) (k : ℕ) → k < count_of 6 own → get_or cs (first + k) d ≡ get_or ds (first + k) d
copies_same first n own o z cs ds a b d k l = go (copy_at own z o k l)
  where
    go : CopyAt k own → get_or cs (first + k) d ≡ get_or ds (first + k) d
    go c = copied first n own cs a k c d ∙ sym (copied first n own ds b k c d)

pub indicated_some : (own : List Record) → Indicated own → 0 < count_of 6 own
unfolding count_of stage_of pick
indicated_some own h = rw h.3 (omega arith)

pub one_claims : OneClaims
one_claims n x own o reg cs ds a b = go (ℕ_discrete x.enable 1)
  where
    with_indicator :
        x.enable ≡ 1 → Indicated own → Copies 1 n own cs → Copies 1 n own ds → (d : Claim) (i : ℕ) → i < length cs → get_or cs i d ≡ get_or ds i d
    with_indicator on (y, t, after, e) f g d zero l = a.failing on y t after e d ∙ sym (b.failing on y t after e d)
    with_indicator on h f g d (suc i) l =
        let e : 1 + i ≡ suc i = omega arith in
        rw (← e) (copies_same 1 n own o reg.signalled cs ds f g d i (omega (arith, f.many)))

    on_indicator : x.enable ≡ 1 → Indicated own → Copies 1 n own cs → Copies 1 n own ds → cs ≡ ds
    on_indicator on h f g = same_lists cs ds (f.many ∙ sym g.many) (with_indicator on h f g)

    go : Dec (x.enable ≡ 1) → cs ≡ ds
    go (yes on) =
        let h = reg.indicated on in
        let l = indicated_some own h in
        on_indicator on h (a.enabled on l) (b.enabled on l)
    go (no off) =
        let f = a.disabled off in
        let g = b.disabled off in
        same_lists cs ds (f.many ∙ sym g.many)
        (λ d i l. rw (← (zero-add i)) (copies_same 0 n own o reg.signalled cs ds f g d i (omega (arith, f.many))))
