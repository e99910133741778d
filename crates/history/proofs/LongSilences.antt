-- "No response" answers 2 exactly where one expiry was left until those in a row are a multiple of the long count.
use mathlib.Core.Path.{◌≡◌, refl, sym, ◌∙◌}
use Prim.Native.Nat.{ℕ}
use lib.Dec.{eqb}
use Rattle.std.specs.Prelude.{Ok}
use Rattle.base.specs.Pick.{pick}
use Rattle.base.proofs.Apart.{differ}
use Rattle.base.proofs.Picks.{by_eqb}
use Rattle.records.specs.declared.record.Id.TheVariants.{Standard}
use Rattle.answers.specs.declared.Timeout.TheVariants.{Short, Long}
use Rattle.polling.specs.Polling.{silent_answer}
use Rattle.tables.specs.Reads.{row_at}
use Rattle.history.specs.Calls.{answer_in, after_in}
use Rattle.history.specs.Past.{past_of}
use Rattle.history.specs.LongTimeouts.{in_a_row, TellsSilence, LongSilences}
use Rattle.history.proofs.Rows.{number_named}
use Rattle.history.proofs.Named.{by_silence}
use Rattle.history.proofs.Left.{Left, last_left, too_few}
use Rattle.history.proofs.Remaining.{remaining}

silence_tells : (size n v : ℕ) → Left size n v → TellsSilence size n (pick (eqb v 1) (Ok Long) (Ok Short))
silence_tells size n v w = by_eqb (TellsSilence size n) v 1 (Ok Long) (Ok Short) last more
  where
    last : v ≡ 1 → TellsSilence size n (Ok Long)
    last e = let x = (last_left size n v w).0 e in record { exactly = (λ f. x, λ y. refl); few = λ l f. too_few size n l x.1 }

    more : (v ≡ 1 → ⊥) → TellsSilence size n (Ok Short)
    more d = record { exactly = (λ e. absurd (differ cc), λ x. absurd (d ((last_left size n v w).1 x))); few = λ l e. differ cc }

pub long_silences : LongSilences
unfolding answer_in
long_silences a calls plan is n id r x named e unrefused =
    let k = remaining a calls plan is in
    let now = after_in a calls in
    let says : silent_answer now n id ≡ x = cc in
    by_silence plan k.good now k.reads n id
    (λ y c. y ≡ x → TellsSilence (row_at plan r).frame.long (in_a_row r 0 (past_of calls a).log) x)
    (λ why f. absurd (unrefused why (sym f)))
    (λ q at f.
    let same : q ≡ r = sym (number_named plan k.good n (Standard id) q at) ∙ number_named plan k.good n (Standard id) r named in
    rw (← f, same) (silence_tells _ _ _ (k.holds r named.exists)))
    says
