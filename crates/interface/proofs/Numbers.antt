-- The refusals' numbers: 1 to 16, and each stands for one refusal.
use mathlib.Core.Path.{◌≡◌, refl}
use Prim.Native.Nat.{◌≤◌}
use native.Mathlib.Omega.{arith}
use Rattle.plan.specs.declared.verdict.Reason.TheVariants.{Short, Kind, Place, Count, Range, Order, Data, Owner, Indicator}
use Rattle.plan.specs.Refusals.{number_of}
use Rattle.answers.specs.declared.Refusal.{Refusal}
use Rattle.answers.specs.declared.Refusal.TheVariants.{Plan, ShortArea, NotOpen, NoNode, LongPayload, ShortReport, NoFrame, WrongCall}
use Rattle.answers.specs.Answers.{refusal_number}
use Rattle.interface.specs.Back.{refusals, refusal_of}

pub record Numbered (why : Refusal) : Type 0 where
  pub back : refusal_of (refusal_number why) ≡ why
  pub low : 1 ≤ refusal_number why
  pub high : refusal_number why ≤ 16

pub numbered : (why : Refusal) → Numbered why
unfolding refusal_number number_of refusal_of refusals
numbered (Plan Short) = record { back = refl; low = omega arith; high = omega arith }
numbered (Plan Kind) = record { back = refl; low = omega arith; high = omega arith }
numbered (Plan Place) = record { back = refl; low = omega arith; high = omega arith }
numbered (Plan Count) = record { back = refl; low = omega arith; high = omega arith }
numbered (Plan Range) = record { back = refl; low = omega arith; high = omega arith }
numbered (Plan Order) = record { back = refl; low = omega arith; high = omega arith }
numbered (Plan Data) = record { back = refl; low = omega arith; high = omega arith }
numbered (Plan Owner) = record { back = refl; low = omega arith; high = omega arith }
numbered (Plan Indicator) = record { back = refl; low = omega arith; high = omega arith }
numbered ShortArea = record { back = refl; low = omega arith; high = omega arith }
numbered NotOpen = record { back = refl; low = omega arith; high = omega arith }
numbered NoNode = record { back = refl; low = omega arith; high = omega arith }
numbered LongPayload = record { back = refl; low = omega arith; high = omega arith }
numbered ShortReport = record { back = refl; low = omega arith; high = omega arith }
numbered NoFrame = record { back = refl; low = omega arith; high = omega arith }
numbered WrongCall = record { back = refl; low = omega arith; high = omega arith }
