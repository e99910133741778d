-- The clock by the tick's number: the laws of the counter and of the masks say it.
use mathlib.Core.Path.{refl, sym, ◌∙◌}
use Prim.Native.Nat.{ℕ, ◌+◌, ◌%◌}
use native.Mathlib.Omega.{arith}
use borrow.Author.Tests.{eqb-true, eq-eqb, ne_eqb}
use Rattle.base.specs.Pick.{pick}
use Rattle.clock.specs.Counter.{Prescaler}
use Rattle.clock.specs.Counter.Prescaler.{one, two, ten, twenty}
use Rattle.clock.specs.Timer.{lowered, stepped, expires}
use Rattle.clock.proofs.Counters.{counter_after_is, handled_divides}
use Rattle.restated.specs.Clock.{CounterByNumber, HandledAt, HandledByNumber, Handling}

pub counter_by_number : CounterByNumber
counter_by_number = counter_after_is

handled_at : {p : ℕ} → Prescaler p → HandledAt p
handled_at {p} d n = (λ t. eqb-true (n % p) 0 (sym (handled_divides d n) ∙ t), λ z. handled_divides d n ∙ eq-eqb (n % p) 0 z)

pub handled_by_number : HandledByNumber
handled_by_number = record { one = handled_at one; two = handled_at two; ten = handled_at ten; twenty = handled_at twenty }

pub handling : Handling
unfolding lowered stepped expires pick
handling =
    record {
      stopped = λ reload. refl;
      last = λ reload. refl;
      falls = λ reload v. rw (ne_eqb (v + 2) 0 (omega arith), ne_eqb (v + 2) 1 (omega arith)) (omega arith);
      count = λ t. refl;
      reload = λ t. refl;
      expiry = λ t. (λ e. omega (arith, eqb-true t.count 1 e), λ w. eq-eqb t.count 1 (omega arith));
    }
