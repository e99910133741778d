-- The claims of an Rx frame end with its own records, and without an indicator they are one copy for each destination.
use mathlib.Core.Path.{◌≡◌, refl, sym, ap, ◌∙◌}
use mathlib.Core.Logic.{inl, inr}
use mathlib.Core.List.{List, [], ◌∷◌, ◌++◌, append_assoc}
use mathlib.Core.Option.{Option, none}
use Prim.Native.Nat.{ℕ, suc, ◌+◌}
use native.Mathlib.Nat.{zero-add}
use native.Mathlib.Omega.{arith}
use lib.ListN.{length, get_or}
use Rattle.base.specs.Pick.{pick}
use Rattle.records.specs.declared.record.SignalBody.{SignalBody}
use Rattle.records.specs.declared.record.DestinationBody.{DestinationBody}
use Rattle.records.specs.declared.record.Record.{Record}
use Rattle.records.specs.declared.record.Record.TheVariants.{Signal, Destination}
use Rattle.records.specs.Kinds.{stage_of}
use Rattle.plan.specs.Rows.{copy, Claim, with_failure, claims_from}
use Rattle.facts.specs.Good.{Each, count_of}
use Rattle.records.proofs.Variants.{by_row}
use Rattle.claims.specs.Claims.{IsDestination, Own, Beyond, Copies}
use Rattle.claims.proofs.OfKind.{for_destination, by_own}
use Rattle.claims.proofs.Splits.{Each-append, count_append}

-- ---- the claims end with the frame's own records

beyond_nothing : (n : ℕ) (w : Option ℕ) (p s : ℕ) (rest : List Record) → Beyond rest → claims_from n w p s rest ≡ []
unfolding claims_from
beyond_nothing n w p s [] b = refl
beyond_nothing n w p s (r ∷ rs) b =
    by_row (λ r. Beyond (r ∷ rs) → claims_from n w p s (r ∷ rs) ≡ []) (λ x b. refl) (λ g b. absurd (b (Signal g) rs refl (inl (g, refl))))
    (λ t b. absurd (b (Destination t) rs refl (inr (t, refl)))) (λ r no b. no.by _ _ _ _) r b

pub claims_own :
    (n : ℕ) (rest : List Record) → Beyond rest → (own : List Record) → Each Own own → (w : Option ℕ) (p s : ℕ)
    → claims_from n w p s (own ++ rest) ≡ claims_from n w p s own
unfolding claims_from
claims_own n rest b =
    by_own (λ own. (w : Option ℕ) (p s : ℕ) → claims_from n w p s (own ++ rest) ≡ claims_from n w p s own)
    (λ w p s. beyond_nothing n w p s rest b)
    (λ g rs h w p s. h w g.position g.size)
    (λ t rs h w p s.
    ap (λ (cs : List Claim). with_failure n w t.tx.0 (record { rx = n; tx = t.tx.0; at = t.position; from = copy p s } ∷ cs)) (h none p s))

-- ---- with no indicator: one copy for each destination

copies_many : (n : ℕ) (own : List Record) → Each Own own → (p s : ℕ) → length (claims_from n none p s own) ≡ count_of 6 own
unfolding claims_from with_failure count_of stage_of pick
copies_many n =
    by_own (λ own. (p s : ℕ) → length (claims_from n none p s own) ≡ count_of 6 own)
    (λ p s. refl)
    (λ g rs h p s. omega (arith, h g.position g.size))
    (λ t rs h p s. omega (arith, h p s))

-- past the records before a signal, what is read is that signal's
copies_past :
    (n : ℕ) (g : SignalBody) (since : List Record) (k : ℕ) (d : Claim) (upto : List Record) → Each Own upto → (p' s' : ℕ)
    → get_or (claims_from n none p' s' (upto ++ Signal g ∷ since)) (count_of 6 upto + k) d
    ≡ get_or (claims_from n none g.position g.size since) k d
unfolding claims_from with_failure count_of stage_of pick
copies_past n g since k d =
    by_own
    (λ upto. (p' s' : ℕ)
    → get_or (claims_from n none p' s' (upto ++ Signal g ∷ since)) (count_of 6 upto + k) d
    ≡ get_or (claims_from n none g.position g.size since) k d)
    (λ p' s'. rw (zero-add k))
    (λ y rs h p' s'. rw (zero-add (count_of 6 rs)) (h y.position y.size))
    (λ t rs h p' s'. let e : 1 + count_of 6 rs + k ≡ suc (count_of 6 rs + k) = omega arith in rw e (h p' s'))

copies_at :
    (n p s : ℕ) (t : DestinationBody) (after : List Record) (d : Claim) (dests : List Record) → Each IsDestination dests
    → get_or (claims_from n none p s (dests ++ Destination t ∷ after)) (count_of 6 dests) d ≡ record { rx = n; tx = t.tx.0; at = t.position; from = copy p s }
unfolding claims_from with_failure count_of stage_of pick Each
copies_at n p s t after d [] h = refl
copies_at n p s t after d (r ∷ rs) h =
    for_destination
    (λ (y : Record).
    get_or (claims_from n none p s (y ∷ (rs ++ Destination t ∷ after))) (count_of 6 (y ∷ rs)) d
    ≡ record { rx = n; tx = t.tx.0; at = t.position; from = copy p s })
    (λ t'. let e : 1 + count_of 6 rs ≡ suc (count_of 6 rs) = omega arith in rw e (copies_at n p s t after d rs h.1))
    r h.0

pub Copies-none : (n : ℕ) (own : List Record) → Each Own own → Copies 0 n own (claims_from n none 0 0 own)
unfolding count_of stage_of pick
Copies-none n own o =
    record {
      many = copies_many n own o 0 0 ∙ sym (zero-add _);
      each = λ before upto dests after y t e f a d.
          let since = dests ++ Destination t ∷ after in
          let g : own ≡ upto ++ Signal y ∷ since =
          e ∙ ap (λ (xs : List Record). xs ++ Destination t ∷ after) f ∙ append_assoc upto (Signal y ∷ dests) _ in
          let k : 0 + count_of 6 before ≡ count_of 6 upto + count_of 6 dests =
          zero-add _ ∙ ap (count_of 6) f ∙ count_append 6 upto (Signal y ∷ dests) ∙ omega arith in
          let o' = (Each-append Own upto (Signal y ∷ since) (rw g at o)).0 in
          rw (g, k) (copies_past n y since (count_of 6 dests) d upto o' 0 0 ∙ copies_at n y.position y.size t after d dests a);
    }
