-- What a response and its absence come to, by what decides them: one law for each refusal, and one for what goes on.
use mathlib.Core.Path.{◌≡◌, sym, ap, ◌∙◌}
use mathlib.Core.Bool.{true, false}
use mathlib.Core.List.{List}
use Prim.Native.Nat.{ℕ, ◌%◌, ◌≤◌, ◌<◌}
use lib.Dec.{eqb}
use lib.ListN.{length}
use borrow.Author.Tests.{lt-ltb, le-ltb, le-leb, lt-leb}
use Rattle.std.specs.Prelude.{Result, Ok, Err}
use Rattle.base.specs.Pick.{pick}
use Rattle.base.specs.Numbers.{byte_at}
use Rattle.base.proofs.Picks.{picks, into}
use Rattle.records.specs.declared.record.RxNumber.{RxNumber}
use Rattle.area.specs.Layout.{long, marked, node_count}
use Rattle.answers.specs.declared.Refusal.{Refusal}
use Rattle.answers.specs.declared.Refusal.TheVariants.{NotOpen, NoNode, LongPayload, WrongCall}
use Rattle.answers.specs.declared.Responded.{Responded}
use Rattle.answers.specs.declared.Timeout.{Timeout}
use Rattle.answers.specs.declared.Timeout.TheVariants as silence
use Rattle.reception.specs.declared.lookup.Found.TheVariants.{At, Nothing}
use Rattle.ticking.specs.Tick.{expired_area, timed_out}
use Rattle.polling.specs.Polling.{polled, row_answer, row_area, polled_answer, polled_area, responded_answer, responded_area}
use Rattle.polling.specs.Polling.{silence_of, silenced_by, silent_answer, silent_area}

module _ (a : List ℕ) (n id : ℕ) (payload : List ℕ) (sum : ℕ) where
  abbrev pub Responds : Result Responded Refusal → List ℕ → Type 0
  Responds x b = (x ≡ responded_answer a n id payload sum) × (b ≡ responded_area a n id payload sum)

  pub not_open : marked a ≡ false → Responds (Err NotOpen) a
  unfolding responded_answer responded_area pick
  not_open e = (rw e, rw e)

  module _ (opened : marked a ≡ true) where
    pub no_node : node_count a ≤ n → Responds (Err NoNode) a
    unfolding responded_answer responded_area pick
    no_node h = let t = le-ltb n (node_count a) h in (rw (opened, t), rw (opened, t))

    module _ (known : n < node_count a) where
      pub wrong_call : (place : ℕ) → polled a n id ≡ Nothing place → Responds (Err WrongCall) a
      unfolding responded_answer responded_area polled_answer polled_area pick
      wrong_call place e = let t = lt-ltb n (node_count a) known in (rw (opened, t, e), rw (opened, t, e))

      module _ (r : RxNumber) (found : polled a n id ≡ At r) where
        pub long_payload : 8 < length payload → Responds (Err LongPayload) a
        unfolding responded_answer responded_area polled_answer polled_area pick
        long_payload h =
            let t = lt-ltb n (node_count a) known in
            let u = lt-leb (length payload) 8 h in
            (rw (opened, t, found, u), rw (opened, t, found, u))

        pub goes_on :
            {x : Result Responded Refusal} {b : List ℕ} → length payload ≤ 8 → x ≡ row_answer a (r.0 % 256) id payload sum → b ≡ row_area a (r.0 % 256) id payload sum
            → Responds x b
        unfolding responded_answer responded_area polled_answer polled_area pick
        goes_on h e f =
            let t = lt-ltb n (node_count a) known in
            let u = le-leb (length payload) 8 h in
            (rw (opened, t, found, u) e, rw (opened, t, found, u) f)

module _ (a : List ℕ) (n id : ℕ) where
  abbrev pub Silences : Result Timeout Refusal → List ℕ → Type 0
  Silences x b = (x ≡ silent_answer a n id) × (b ≡ silent_area a n id)

  pub silent_not_open : marked a ≡ false → Silences (Err NotOpen) a
  unfolding silent_answer silent_area pick
  silent_not_open e = (rw e, rw e)

  module _ (opened : marked a ≡ true) where
    pub silent_no_node : node_count a ≤ n → Silences (Err NoNode) a
    unfolding silent_answer silent_area pick
    silent_no_node h = let t = le-ltb n (node_count a) h in (rw (opened, t), rw (opened, t))

    module _ (known : n < node_count a) where
      pub silent_wrong_call : (place : ℕ) → polled a n id ≡ Nothing place → Silences (Err WrongCall) a
      unfolding silent_answer silent_area silence_of silenced_by pick
      silent_wrong_call place e = let t = lt-ltb n (node_count a) known in (rw (opened, t, e), rw (opened, t, e))

      -- q is the row's number in range, and b what a timeout leaves
      module _ (r : RxNumber) (found : polled a n id ≡ At r) (q : ℕ) (within : q ≡ r.0 % 256) {b : List ℕ} (out : b ≡ expired_area a q) where
        pub times_out : {x : Timeout} → x ≡ timed_out a q → Silences (Ok x) b
        unfolding timed_out silent_answer silent_area silence_of silenced_by
        times_out e =
            let t = lt-ltb n (node_count a) known in
            let to = picks _ _ _ opened ∙ picks _ _ _ t ∙ ap (silence_of a) found in (
              rw (e, within) (into Ok (eqb (byte_at a (long (r.0 % 256))) 1) silence.Long silence.Short ∙ sym to),
              rw (out, within) (sym (picks _ _ _ opened ∙ picks _ _ _ t ∙ ap (silenced_by a) found)),
            )
