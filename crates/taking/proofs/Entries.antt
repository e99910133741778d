-- What a number below that of all entries can name, and that what leaves a queue is answered the same once it has left.
use mathlib.Core.Path.{◌≡◌, refl}
use mathlib.Core.List.{List}
use Prim.Native.Nat.{ℕ, ◌-◌, ◌%◌, ◌≤◌, ◌<◌}
use native.Mathlib.Omega.{arith}
use lib.Dec.{ltb}
use borrow.Author.Tests.{ltb-true, ltb-false}
use Rattle.base.proofs.Apart.{differ}
use Rattle.base.proofs.Picks.{cases}
use Rattle.records.specs.declared.record.RxNumber.{RxNumber}
use Rattle.records.specs.declared.record.TxNumber.{TxNumber}
use Rattle.records.specs.declared.record.Entry.{Entry}
use Rattle.records.specs.declared.record.Entry.TheVariants.{Frame, Request}
use Rattle.area.specs.Layout.{payloads_start, requests_start, waiter_range, payload}
use Rattle.area.specs.Queue.{entry_of, oldest, dequeued}
use Rattle.area.proofs.Frame.{Same, Same-dequeued, same_tail}
use Rattle.area.proofs.Kept.{Kept-dequeued, type_on_kept, tx_frame_kept, rx_frame_kept}
use Rattle.taking.specs.Taken.{kept_part, framing_of, entry_answer}

pub frame_small : (k : ℕ) (t : TxNumber) → entry_of k ≡ Frame t → t.0 < 256
unfolding entry_of
frame_small k t =
    cases (λ x. x ≡ Frame t → t.0 < 256) (ltb k requests_start) _ _
    (λ h e. let same : ◌≡◌ {A = TxNumber} (record { 0 = k }) t = cc in rw (← same) (ltb-true k requests_start h))
    (λ h e. absurd (differ cc))

pub request_small : (k : ℕ) (r : RxNumber) → k < waiter_range → entry_of k ≡ Request r → r.0 < 256
unfolding entry_of
request_small k r l =
    cases (λ x. x ≡ Request r → r.0 < 256) (ltb k requests_start) _ _
    (λ h e. absurd (differ cc))
    (λ h e. let same : ◌≡◌ {A = RxNumber} (record { 0 = k - requests_start }) r = cc in rw (← same) (omega (arith, ltb-false k requests_start h)))

-- the queue gives it up: its frame, its node's type and its payload stay
module _ (a : List ℕ) (n : ℕ) (h : n < 16) where
  tail : Same (λ j. payloads_start ≤ j) a (dequeued a n)
  unfolding oldest
  tail = Same-dequeued a n (λ j l m p. omega arith) (λ p. omega arith)

  part_dequeued : (t size : ℕ) → kept_part (dequeued a n) t size ≡ kept_part a t size
  unfolding kept_part
  part_dequeued t size = rw (tail.len, same_tail (payload (t % 256)) tail (λ j l. omega arith))

  pub entry_dequeued :
      (k waiting : ℕ) → k < waiter_range → entry_answer (dequeued a n) n (entry_of k) waiting ≡ entry_answer a n (entry_of k) waiting
  unfolding entry_answer framing_of
  entry_dequeued k waiting l = go (entry_of k) (frame_small k) (λ r. request_small k r l)
    where
      go : (e : Entry) → ((t : TxNumber) → e ≡ Frame t → t.0 < 256) → ((r : RxNumber) → e ≡ Request r → r.0 < 256)
          → entry_answer (dequeued a n) n e waiting ≡ entry_answer a n e waiting
      go (Frame t) f g =
          let kept = Kept-dequeued a n h in rw (tx_frame_kept kept t.0 (f t refl), type_on_kept kept n, part_dequeued)
      go (Request r) f g = rw (rx_frame_kept (Kept-dequeued a n h) r.0 (g r refl))
