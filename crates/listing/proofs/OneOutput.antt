-- Every input of bytes is bad from its front on, or a plan and whole event records, with nothing or a broken record behind them. So the rules of the
-- input leave no second text.
use mathlib.Core.Path.{◌≡◌, refl, sym, ap, ◌∙◌}
use mathlib.Core.Logic.{◌⊎◌, inl, inr}
use mathlib.Core.List.{List, [], ◌∷◌, ◌++◌, append_assoc, append-nil}
use Prim.Native.Nat.{ℕ, zero, suc, ◌+◌, ◌*◌, ◌/◌, ◌%◌, ◌≤◌, ◌<◌}
use native.Mathlib.Decide.{ℕ_discrete, dec_lt}
use native.Mathlib.Omega.{arith}
use lib.ListN.{length, take as first_of, drop, length-append, length-drop, take-append-drop}
use lib.Seq.{get_or-drop, length-take-le}
use Rattle.std.specs.Prelude.{Result, Ok, Err}
use Rattle.facts.specs.Good.{Each}
use Rattle.plan.specs.declared.verdict.PlanCounts.{PlanCounts}
use Rattle.answers.specs.declared.RefusedPlan.{RefusedPlan}
use Rattle.base.specs.Numbers.{Bytes}
use Rattle.records.specs.declared.record.Id.{Id}
use Rattle.records.specs.declared.record.Id.TheVariants.{Standard, Extended}
use Rattle.model.specs.Calls.{closed}
use Rattle.listing.specs.Output.{bench, model_output}
use Rattle.listing.specs.Input.{Entry, reception, tick, take, response, no_response, reception_of, bytes_of, Whole, all_bytes, Broken, input_of}
use Rattle.listing.specs.Input.{InputRules, OneOutput}
use Rattle.listing.proofs.InputRules.{output_meets}

-- ---- the events

record Split (xs : List ℕ) : Type 0 where
  entries : List Entry
  tail : List ℕ
  whole : Each Whole entries
  bytes : xs ≡ all_bytes entries ++ tail
  ends : (tail ≡ []) ⊎ Broken tail

-- a whole record before the rest
grow : (e : Entry) (xs rest : List ℕ) → Whole e → xs ≡ bytes_of e ++ rest → Split rest → Split xs
unfolding all_bytes Each
grow e xs rest w b s =
    record {
      entries = e ∷ s.entries;
      tail = s.tail;
      whole = (w, s.whole);
      bytes = b ∙ ap (λ (l : List ℕ). bytes_of e ++ l) s.bytes ∙ sym (append_assoc (bytes_of e) (all_bytes s.entries) s.tail);
      ends = s.ends;
    }

stop : (xs : List ℕ) → (xs ≡ []) ⊎ Broken xs → Split xs
unfolding all_bytes Each
stop xs e = record { entries = []; tail = xs; whole = tt; bytes = refl; ends = e }

later : (n : ℕ) (xs : List ℕ) → Bytes xs → Bytes (drop n xs)
later n xs b i = rw (get_or-drop n xs i 0) (b (n + i))

-- what is shorter is split
abbrev Shorter : List ℕ → Type 0
Shorter xs = (ys : List ℕ) → length ys < length xs → Bytes ys → Split ys

-- a record that is cut or unknown
cut : (k : ℕ) (xs : List ℕ) → (k ≡ 16 → length xs < 12) → (k ≡ 17 → ⊥) → (k ≡ 18 → length xs < 1) → (k ≡ 19 → length xs < 14)
    → (k ≡ 20 → length xs < 13) → (k ≡ 21 → length xs < 3) → Split (k ∷ xs)
cut k xs h16 h17 h18 h19 h20 h21 =
    stop (k ∷ xs)
    (inr
    (record { kind = k; rest = xs; begins = refl; reception = h16; tick = h17; take = h18; extended = h19; response = h20; no_response = h21 }))

-- a reception behind its ID
received : (n : ℕ) (id : Id) (rest : List ℕ) → 9 ≤ length rest → Bytes rest → Shorter rest → Split (reception_of n id ++ rest)
unfolding bytes_of Whole
received n id [] h b more = absurd (omega arith)
received n id (s ∷ ys) h b more =
    let front = reception_of n id in
    let shape : front ++ s ∷ ys ≡ (front ++ s ∷ first_of 8 ys) ++ drop 8 ys =
    rw (append_assoc front (s ∷ first_of 8 ys) (drop 8 ys), take-append-drop 8 ys) refl in
    grow (reception n id s (first_of 8 ys)) _ (drop 8 ys) (length-take-le 8 ys (omega arith)) shape
    (more (drop 8 ys) (omega (arith, length-drop 8 ys)) (later 8 ys (later 1 (s ∷ ys) b)))

-- the bytes of a number of four
module _ (i j k l : ℕ) (d1 : j < 256) (d2 : k < 256) (d3 : l < 256) where
  abbrev four : ℕ
  four = ((i * 256 + j) * 256 + k) * 256 + l

  four_0 : four / 16777216 ≡ i
  four_0 = omega arith

  four_1 : four / 65536 % 256 ≡ j
  four_1 = let high : four / 65536 ≡ i * 256 + j = omega arith in omega arith

  four_2 : four / 256 % 256 ≡ k
  four_2 = let high : four / 256 ≡ (i * 256 + j) * 256 + k = omega arith in omega arith

  four_3 : four % 256 ≡ l
  four_3 = omega arith

-- one whose ID has four bytes
long : (xs : List ℕ) → 14 ≤ length xs → Bytes xs → Shorter xs → Split (19 ∷ xs)
unfolding reception_of
long [] h b more = absurd (omega arith)
long (n ∷ []) h b more = absurd (omega arith)
long (n ∷ i ∷ []) h b more = absurd (omega arith)
long (n ∷ i ∷ j ∷ []) h b more = absurd (omega arith)
long (n ∷ i ∷ j ∷ k ∷ []) h b more = absurd (omega arith)
long (n ∷ i ∷ j ∷ k ∷ l ∷ ys) h b more =
    let d1 : j < 256 = b 2 in
    let d2 : k < 256 = b 3 in
    let d3 : l < 256 = b 4 in
    let shape : 19 ∷ n ∷ i ∷ j ∷ k ∷ l ∷ ys ≡ reception_of n (Extended (four i j k l d1 d2 d3)) ++ ys =
    rw (four_0 i j k l d1 d2 d3, four_1 i j k l d1 d2 d3, four_2 i j k l d1 d2 d3, four_3 i j k l d1 d2 d3) refl in
    rw shape (received n (Extended (four i j k l d1 d2 d3)) ys (omega arith) (later 5 (n ∷ i ∷ j ∷ k ∷ l ∷ ys) b) (λ zs m c. more zs (omega arith) c))

-- the node and the ID that most kinds begin with
record Headed (xs : List ℕ) : Type 0 where
  node : ℕ
  id : ℕ
  rest : List ℕ
  bytes : xs ≡ node ∷ id / 256 ∷ id % 256 ∷ rest

headed : (xs : List ℕ) → 3 ≤ length xs → Bytes xs → Headed xs
headed [] h b = absurd (omega arith)
headed (n ∷ []) h b = absurd (omega arith)
headed (n ∷ i ∷ []) h b = absurd (omega arith)
headed (n ∷ i ∷ j ∷ ys) h b =
    let low : j < 256 = b 2 in
    let high : (i * 256 + j) / 256 ≡ i = omega arith in
    let rest : (i * 256 + j) % 256 ≡ j = omega arith in
    record { node = n; id = i * 256 + j; rest = ys; bytes = rw (high, rest) refl }

-- the records behind them that are whole
module _ (n id : ℕ) where
  abbrev behind : List ℕ → List ℕ
  behind rest = n ∷ id / 256 ∷ id % 256 ∷ rest

  short : (rest : List ℕ) → 12 ≤ length (behind rest) → Bytes (behind rest) → Shorter (behind rest) → Split (16 ∷ behind rest)
  unfolding reception_of
  short rest h b more = received n (Standard id) rest (omega arith) (later 3 (behind rest) b) (λ ys l c. more ys (omega arith) c)

  -- eight data bytes, and the checksum behind them
  summed : (s : ℕ) (eight rest : List ℕ) → length eight ≡ 8 → 0 < length rest → Bytes rest → Shorter (behind (s ∷ (eight ++ rest)))
      → Split (20 ∷ behind (s ∷ (eight ++ rest)))
  unfolding bytes_of Whole
  summed s eight [] w h b more = absurd (omega arith)
  summed s eight (sum ∷ ys) w h b more =
      grow (response n id s eight sum) _ ys w (rw (append_assoc eight (sum ∷ []) ys) refl)
      (more ys (omega (arith, length-append eight (sum ∷ ys))) (later 1 (sum ∷ ys) b))

  responded : (rest : List ℕ) → 13 ≤ length (behind rest) → Bytes (behind rest) → Shorter (behind rest) → Split (20 ∷ behind rest)
  responded [] h b more = absurd (omega arith)
  responded (s ∷ ys) h b more =
      let whole = take-append-drop 8 ys in
      rw whole at
      (summed s (first_of 8 ys) (drop 8 ys) (length-take-le 8 ys (omega arith)) (omega (arith, length-drop 8 ys))
      (later 8 ys (later 4 (behind (s ∷ ys)) b)) (rw whole more))

  silent : (rest : List ℕ) → 3 ≤ length (behind rest) → Bytes (behind rest) → Shorter (behind rest) → Split (21 ∷ behind rest)
  unfolding bytes_of Whole
  silent rest h b more = grow (no_response n id) _ rest tt refl (more rest (omega arith) (later 3 (behind rest) b))

taken : (xs : List ℕ) → Bytes xs → Shorter xs → Split (18 ∷ xs)
unfolding bytes_of Whole
taken [] b more =
    cut 18 [] (λ e. absurd (omega arith)) (λ e. omega arith) (λ e. omega arith) (λ e. absurd (omega arith)) (λ e. absurd (omega arith))
    (λ e. absurd (omega arith))
taken (n ∷ ys) b more = grow (take n) _ ys tt refl (more ys (omega arith) (later 1 (n ∷ ys) b))

-- by the kind, where the record is long enough for it or is not
module _ (xs : List ℕ) (b : Bytes xs) (more : Shorter xs) where
  longer : (k least : ℕ) → 3 ≤ least → least ≤ length xs
      → ((n id : ℕ) (rest : List ℕ) → least ≤ length (behind n id rest) → Bytes (behind n id rest) → Shorter (behind n id rest)
      → Split (k ∷ behind n id rest)) → Split (k ∷ xs)
  longer k least h l make =
      let head = headed xs (omega arith) b in
      let same = head.bytes in
      rw same (make head.node head.id head.rest (rw same at l) (rw same at b) (rw same at more))

  by_16 : Dec (length xs < 12) → Split (16 ∷ xs)
  by_16 (yes l) =
      cut 16 xs (λ e. l) (λ e. omega arith) (λ e. absurd (omega arith)) (λ e. absurd (omega arith)) (λ e. absurd (omega arith)) (λ e. absurd (omega arith))
  by_16 (no l) = longer 16 12 (omega arith) (omega arith) short

  by_19 : Dec (length xs < 14) → Split (19 ∷ xs)
  by_19 (yes l) =
      cut 19 xs (λ e. absurd (omega arith)) (λ e. omega arith) (λ e. absurd (omega arith)) (λ e. l) (λ e. absurd (omega arith)) (λ e. absurd (omega arith))
  by_19 (no l) = long xs (omega arith) b more

  by_20 : Dec (length xs < 13) → Split (20 ∷ xs)
  by_20 (yes l) =
      cut 20 xs (λ e. absurd (omega arith)) (λ e. omega arith) (λ e. absurd (omega arith)) (λ e. absurd (omega arith)) (λ e. l) (λ e. absurd (omega arith))
  by_20 (no l) = longer 20 13 (omega arith) (omega arith) responded

  by_21 : Dec (length xs < 3) → Split (21 ∷ xs)
  by_21 (yes l) =
      cut 21 xs (λ e. absurd (omega arith)) (λ e. omega arith) (λ e. absurd (omega arith)) (λ e. absurd (omega arith)) (λ e. absurd (omega arith)) (λ e. l)
  by_21 (no l) = longer 21 3 (omega arith) (omega arith) silent

-- the first record, where what is shorter is split
one : (xs : List ℕ) → Bytes xs → Shorter xs → Split xs
unfolding bytes_of Whole
one [] b more = stop [] (inl refl)
one (k ∷ xs) b more =
    go (ℕ_discrete k 16) (ℕ_discrete k 17) (ℕ_discrete k 18) (ℕ_discrete k 19) (ℕ_discrete k 20) (ℕ_discrete k 21)
  where
    bytes : Bytes xs
    bytes = later 1 (k ∷ xs) b

    less : Shorter xs
    less ys l c = more ys (omega arith) c

    go : Dec (k ≡ 16) → Dec (k ≡ 17) → Dec (k ≡ 18) → Dec (k ≡ 19) → Dec (k ≡ 20) → Dec (k ≡ 21) → Split (k ∷ xs)
    go (yes e) d17 d18 d19 d20 d21 = rw e (by_16 xs bytes less (dec_lt (length xs) 12))
    go (no n16) (yes e) d18 d19 d20 d21 = grow tick _ xs tt (rw e refl) (more xs (omega arith) bytes)
    go (no n16) (no n17) (yes e) d19 d20 d21 = rw e (taken xs bytes less)
    go (no n16) (no n17) (no n18) (yes e) d20 d21 = rw e (by_19 xs bytes less (dec_lt (length xs) 14))
    go (no n16) (no n17) (no n18) (no n19) (yes e) d21 = rw e (by_20 xs bytes less (dec_lt (length xs) 13))
    go (no n16) (no n17) (no n18) (no n19) (no n20) (yes e) = rw e (by_21 xs bytes less (dec_lt (length xs) 3))
    go (no n16) (no n17) (no n18) (no n19) (no n20) (no n21) =
        cut k xs (λ f. absurd (n16 f)) n17 (λ f. absurd (n18 f)) (λ f. absurd (n19 f)) (λ f. absurd (n20 f)) (λ f. absurd (n21 f))

split : (bound : ℕ) (xs : List ℕ) → length xs ≤ bound → Bytes xs → Split xs
split zero xs h b = one xs b (λ ys l c. absurd (omega arith))
split (suc bound) xs h b = one xs b (λ ys l c. split bound ys (omega arith) c)

-- ---- the whole input

module _ (output : List ℕ → List ℕ) (rules : InputRules output) where
  -- behind a good plan
  by_ends : (plan : List ℕ) (es : List Entry) (tail : List ℕ) (nodes tx rx : ℕ) → bench.opens closed plan ≡ Ok (record { nodes = nodes; tx = tx; rx = rx }) → Each Whole es
      → (tail ≡ []) ⊎ Broken tail → length (input_of plan (all_bytes es ++ tail)) ≤ 65536
      → output (input_of plan (all_bytes es ++ tail)) ≡ model_output (input_of plan (all_bytes es ++ tail))
  by_ends plan es tail nodes tx rx o w (inr t) h =
      rules.broken plan es tail nodes tx rx o w t h ∙ sym (output_meets.broken plan es tail nodes tx rx o w t h)
  by_ends plan es tail nodes tx rx o w (inl e) h =
      let same : all_bytes es ++ tail ≡ all_bytes es = rw e (append-nil (all_bytes es)) in
      rw same (rules.whole plan es nodes tx rx o w (rw same at h) ∙ sym (output_meets.whole plan es nodes tx rx o w (rw same at h)))

  by_plan : (plan events : List ℕ) (o : Result PlanCounts RefusedPlan) → bench.opens closed plan ≡ o → Bytes events → length (input_of plan events) ≤ 65536
      → output (input_of plan events) ≡ model_output (input_of plan events)
  by_plan plan events (Err refused) o b h =
      rules.refused plan events refused.why refused.record_number o h ∙ sym (output_meets.refused plan events refused.why refused.record_number o h)
  by_plan plan events (Ok counts) o b h =
      let s = split (length events) events (omega arith) b in
      rw s.bytes (by_ends plan s.entries s.tail counts.nodes counts.tx counts.rx o s.whole s.ends (rw s.bytes at h))

  by_front : (input : List ℕ) → Bytes input → output input ≡ model_output input
  by_front [] b = rules.short [] (omega arith) ∙ sym (output_meets.short [] (omega arith))
  by_front (i ∷ []) b = rules.short (i ∷ []) (omega arith) ∙ sym (output_meets.short (i ∷ []) (omega arith))
  by_front (i ∷ j ∷ xs) b = go (dec_lt 65536 (length (i ∷ j ∷ xs))) (dec_lt (length xs) (i * 256 + j))
    where
      go : Dec (65536 < length (i ∷ j ∷ xs)) → Dec (length xs < i * 256 + j) → output (i ∷ j ∷ xs) ≡ model_output (i ∷ j ∷ xs)
      go (yes l) d = rules.long (i ∷ j ∷ xs) l ∙ sym (output_meets.long (i ∷ j ∷ xs) l)
      go (no n) (yes l) = rules.cut i j xs l ∙ sym (output_meets.cut i j xs l)
      go (no n) (no l) =
          let low : j < 256 = b 1 in
          let size : length (first_of (i * 256 + j) xs) ≡ i * 256 + j = length-take-le (i * 256 + j) xs (omega arith) in
          let high : length (first_of (i * 256 + j) xs) / 256 ≡ i = omega arith in
          let rest : length (first_of (i * 256 + j) xs) % 256 ≡ j = omega arith in
          let shape : i ∷ j ∷ xs ≡ input_of (first_of (i * 256 + j) xs) (drop (i * 256 + j) xs) =
          rw (high, rest, take-append-drop (i * 256 + j) xs) refl in
          rw shape
          (by_plan (first_of (i * 256 + j) xs) (drop (i * 256 + j) xs) _ refl (later (i * 256 + j) xs (later 2 (i ∷ j ∷ xs) b))
          (omega (arith, ap (λ (l : List ℕ). length l) shape)))

pub one_output : OneOutput
one_output output rules input b = by_front output rules input b
