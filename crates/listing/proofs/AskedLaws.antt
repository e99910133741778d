-- Laws of what an input asks for: its calls, its IDs, its plan.
use mathlib.Core.List.{List, [], ◌∷◌}
use Prim.Native.Nat.{ℕ, zero, suc, ◌+◌, ◌-◌, ◌<◌}
use native.Mathlib.Omega.{arith}
use lib.Dec.{leb, ltb, eqb}
use lib.ListN.{length, take, drop}
use lib.Seq.{get_or-drop}
use Rattle.std.specs.Prelude.{Option, Some, None, IfSome}
use Rattle.std.specs.Option.{option_map_or}
use Rattle.base.specs.Numbers.{byte_at, two_at, Bytes}
use Rattle.base.proofs.Picks.{both}
use Rattle.facts.specs.Good.{Each}
use Rattle.events.specs.declared.Event.{Event}
use Rattle.events.specs.declared.Event.TheVariants.{Reception, Tick, Take, Response, NoResponse, Bad}
use Rattle.events.specs.Events.{plan_of, event_length, whole_event, event_at, event_size}
use Rattle.model.specs.Rules.{OfBytes}
use Rattle.listing.specs.Asked.{Asked, nothing, asked_by, asked_in}

-- the ID of a LIN node's event is two bytes
unfoldable pub TwoBytes : Event → Type 0
TwoBytes (Reception node id size) = Unit {0}
TwoBytes Tick = Unit {0}
TwoBytes (Take node) = Unit {0}
TwoBytes (Response node id size sum) = id < 65536
TwoBytes (NoResponse node id) = id < 65536
TwoBytes Bad = Unit {0}

pub event_id : (input : List ℕ) (at : ℕ) → Bytes input → IfSome (event_at input at) TwoBytes
unfolding event_at whole_event TwoBytes
event_id input at b =
    let kind = byte_at input at in
    let two : two_at input (at + 2) < 65536 = omega (arith, b (at + 2), b (at + 2 + 1)) in
    both (λ read. IfSome read TwoBytes) (leb (length input) at) _ _ tt
    (both (λ read. IfSome read TwoBytes) (ltb (length input - at) (event_length kind)) _ _ tt
    (both TwoBytes (eqb kind 16) _ _ tt
    (both TwoBytes (eqb kind 17) _ _ tt
    (both TwoBytes (eqb kind 18) _ _ tt
    (both TwoBytes (eqb kind 19) _ _ tt
    (both TwoBytes (eqb kind 20) _ _ two
    (both TwoBytes (eqb kind 21) _ _ two tt)))))))

-- no opening is among the events
calls_by : (e : Event) (input : List ℕ) (at rx : ℕ) (rest : Asked) → Each OfBytes rest.steps → Each OfBytes (asked_by e input at rx rest).steps
unfolding asked_by Each OfBytes
calls_by (Reception node id size) input at rx rest h = (tt, h)
calls_by Tick input at rx rest h = (tt, h)
calls_by (Take node) input at rx rest h = (tt, h)
calls_by (Response node id size sum) input at rx rest h = (tt, h)
calls_by (NoResponse node id) input at rx rest h = (tt, h)
calls_by Bad input at rx rest h = tt

calls_at : (read : Option Event) (bound : ℕ) (input : List ℕ) (at rx : ℕ) → ((next : ℕ) → Each OfBytes (asked_in bound input next rx).steps)
    → Each OfBytes (option_map_or (λ e. asked_by e input at rx (asked_in bound input (at + event_size e) rx)) read nothing).steps
unfolding Each
calls_at None bound input at rx h = tt
calls_at (Some e) bound input at rx h = calls_by e input at rx _ (h (at + event_size e))

pub asked_calls : (bound : ℕ) (input : List ℕ) (at rx : ℕ) → Each OfBytes (asked_in bound input at rx).steps
unfolding asked_in Each
asked_calls zero input at rx = tt
asked_calls (suc bound) input at rx = calls_at (event_at input at) bound input at rx (λ next. asked_calls bound input next rx)

-- the plan is a part of the input
Bytes-take : (n : ℕ) (xs : List ℕ) → Bytes xs → Bytes (take n xs)
Bytes-take zero xs b i = omega arith
Bytes-take (suc n) [] b i = omega arith
Bytes-take (suc n) (x ∷ xs) b zero = b 0
Bytes-take (suc n) (x ∷ xs) b (suc i) = Bytes-take n xs (λ j. b (suc j)) i

pub Bytes-plan : (input : List ℕ) (end : ℕ) → Bytes input → Bytes (plan_of input end)
Bytes-plan input end b = Bytes-take (end - 2) (drop 2 input) (λ i. rw (get_or-drop 2 input i 0) (b (2 + i)))
