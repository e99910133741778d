-- The structs of a reception and a fullness, and the numbers of the other calls, give back the answer: no two answers of such a call are the same to C.
use mathlib.Core.Path.{◌≡◌, refl}
use mathlib.Core.List.{List}
use Prim.Native.Nat.{ℕ, ◌%◌, ◌≤◌, ◌<◌}
use native.Mathlib.Omega.{arith}
use borrow.Author.Tests.{ne_eqb}
use Rattle.std.specs.Prelude.{Result, Ok, Err}
use Rattle.base.specs.Pick.{pick}
use Rattle.base.specs.Numbers.{low_at}
use Rattle.base.proofs.Picks.{both}
use Rattle.base.proofs.Ranges.{at_most-le}
use Rattle.records.specs.declared.record.Id.{Id}
use Rattle.area.specs.Layout.{full}
use Rattle.answers.specs.declared.Refusal.{Refusal}
use Rattle.answers.specs.declared.Refusal.TheVariants.{NotOpen, NoNode, LongPayload, NoFrame, WrongCall}
use Rattle.answers.specs.declared.Received.{Received}
use Rattle.answers.specs.declared.Received.TheVariants as received
use Rattle.answers.specs.declared.Responded.{Responded}
use Rattle.answers.specs.declared.Responded.TheVariants as responded
use Rattle.answers.specs.declared.Timeout.{Timeout}
use Rattle.answers.specs.declared.Timeout.TheVariants as silence
use Rattle.answers.specs.Answers.{refusal_number, received_number, responded_number, silence_number}
use Rattle.reception.specs.declared.lookup.Found.{Found}
use Rattle.reception.specs.declared.lookup.Found.TheVariants.{At, Nothing}
use Rattle.reception.specs.Lookup.{looked_up}
use Rattle.reception.specs.Reception.{found_answer, received_answer}
use Rattle.reception.proofs.Search.{place_small}
use Rattle.polling.specs.Polling.{polled, row_answer, polled_answer, responded_answer, silent_answer}
use Rattle.polling.specs.Polling as polling
use Rattle.taking.specs.Taken.{fullness_answer}
use Rattle.interface.specs.Structs.{received_struct, ticked_number, fullness_struct}
use Rattle.interface.specs.Back.{received_of, responded_of, silence_of, ticked_of, fullness_of}
use Rattle.interface.proofs.Numbers.{numbered}

-- ---- reception: its refusals are above its answers 0, 1 and 2

abbrev ReceivedBack : Result Received Refusal → Type 0
ReceivedBack x = received_of (received_struct x) ≡ x

received_refused : (why : Refusal) → 3 ≤ refusal_number why → ReceivedBack (Err why)
unfolding received_of received_struct pick
received_refused why l =
    let k = refusal_number why in
    rw (ne_eqb k 0 (omega arith), ne_eqb k 1 (omega arith), ne_eqb k 2 (omega arith), (numbered why).back)

answers_back : ReceivedBack (Ok received.Accepted) × ReceivedBack (Ok received.TooShort)
unfolding received_of received_struct received_number pick
answers_back = (refl, refl)

place_back : (place : ℕ) → place < 65536 → ReceivedBack (Ok (received.NoRow place))
unfolding received_of received_struct received_number pick
place_back place l = let e : place % 65536 ≡ place = omega arith in rw e

found_back : (a : List ℕ) (n : ℕ) (id : Id) (payload : List ℕ) → ReceivedBack (found_answer a (looked_up a n id) payload)
found_back a n id payload = go (looked_up a n id) refl
  where
    go : (f : Found) → looked_up a n id ≡ f → ReceivedBack (found_answer a f payload)
    go (At r) e = unfold found_answer in both ReceivedBack _ _ _ answers_back.1 answers_back.0
    go (Nothing place) e = unfold found_answer in place_back place (omega (arith, place_small a n id place e))

pub received_back :
    (a : List ℕ) (n : ℕ) (id : Id) (payload : List ℕ) → received_of (received_struct (received_answer a n id payload)) ≡ received_answer a n id payload
unfolding received_answer refusal_number
received_back a n id payload =
    both ReceivedBack _ _ _
    (both ReceivedBack _ _ _
    (both ReceivedBack _ _ _ (received_refused WrongCall (omega arith))
    (both ReceivedBack _ _ _ (found_back a n id payload) (received_refused LongPayload (omega arith))))
    (received_refused NoNode (omega arith)))
    (received_refused NotOpen (omega arith))

-- ---- a response: its refusals are above its answers 0, 2 and 3

abbrev RespondedBack : Result Responded Refusal → Type 0
RespondedBack x = responded_of (responded_number x) ≡ x

responded_refused : (why : Refusal) → 4 ≤ refusal_number why → RespondedBack (Err why)
unfolding responded_of responded_number pick
responded_refused why l =
    let k = refusal_number why in
    rw (ne_eqb k 0 (omega arith), ne_eqb k 2 (omega arith), ne_eqb k 3 (omega arith), (numbered why).back)

responses_back : RespondedBack (Ok responded.Accepted) × RespondedBack (Ok responded.TooShort) × RespondedBack (Ok responded.WrongSum)
unfolding responded_of responded_number pick
responses_back = (refl, refl, refl)

row_back : (a : List ℕ) (r id : ℕ) (payload : List ℕ) (sum : ℕ) → RespondedBack (row_answer a r id payload sum)
unfolding row_answer
row_back a r id payload sum =
    both RespondedBack _ _ _ responses_back.1 (both RespondedBack _ _ _ responses_back.0 responses_back.2)

polled_back : (a : List ℕ) (f : Found) (id : ℕ) (payload : List ℕ) (sum : ℕ) → RespondedBack (polled_answer a f id payload sum)
unfolding polled_answer refusal_number
polled_back a (Nothing place) id payload sum = responded_refused WrongCall (omega arith)
polled_back a (At r) id payload sum = both RespondedBack _ _ _ (row_back a _ id payload sum) (responded_refused LongPayload (omega arith))

pub responded_back :
    (a : List ℕ) (n id : ℕ) (payload : List ℕ) (sum : ℕ)
    → responded_of (responded_number (responded_answer a n id payload sum)) ≡ responded_answer a n id payload sum
unfolding responded_answer refusal_number
responded_back a n id payload sum =
    both RespondedBack _ _ _
    (both RespondedBack _ _ _ (polled_back a (polled a n id) id payload sum) (responded_refused NoNode (omega arith)))
    (responded_refused NotOpen (omega arith))

-- ---- "no response": its refusals are above its answers 1 and 2

abbrev SilenceBack : Result Timeout Refusal → Type 0
SilenceBack x = silence_of (silence_number x) ≡ x

silence_refused : (why : Refusal) → 3 ≤ refusal_number why → SilenceBack (Err why)
unfolding silence_of silence_number pick
silence_refused why l =
    let k = refusal_number why in
    rw (ne_eqb k 1 (omega arith), ne_eqb k 2 (omega arith), (numbered why).back)

timeouts_back : SilenceBack (Ok silence.Short) × SilenceBack (Ok silence.Long)
unfolding silence_of silence_number pick
timeouts_back = (refl, refl)

timeout_back : (a : List ℕ) (f : Found) → SilenceBack (polling.silence_of a f)
unfolding polling.silence_of refusal_number
timeout_back a (Nothing place) = silence_refused WrongCall (omega arith)
timeout_back a (At r) = both SilenceBack _ _ _ timeouts_back.1 timeouts_back.0

pub silence_back : (a : List ℕ) (n id : ℕ) → silence_of (silence_number (silent_answer a n id)) ≡ silent_answer a n id
unfolding silent_answer refusal_number
silence_back a n id =
    both SilenceBack _ _ _
    (both SilenceBack _ _ _ (timeout_back a (polled a n id)) (silence_refused NoNode (omega arith)))
    (silence_refused NotOpen (omega arith))

-- ---- tick

pub ticked_back : (x : Result (Unit {0}) Refusal) → ticked_of (ticked_number x) ≡ x
unfolding ticked_of ticked_number pick
ticked_back (Ok done) = refl
ticked_back (Err why) = let n = numbered why in rw (ne_eqb (refusal_number why) 0 (omega arith), n.back)

-- ---- fullness

abbrev FullnessBack : Result ℕ Refusal → Type 0
FullnessBack x = fullness_of (fullness_struct x) ≡ x

fullness_refused : (why : Refusal) → FullnessBack (Err why)
unfolding fullness_of fullness_struct pick
fullness_refused why =
    let n = numbered why in
    rw (ne_eqb (refusal_number why) 0 (omega arith), n.back)

owned_back : (n : ℕ) → n < 65 → FullnessBack (Ok n)
unfolding fullness_of fullness_struct pick
owned_back n h = let e : n % 65536 ≡ n = omega arith in rw e

pub fullness_back : (a : List ℕ) (t : ℕ) → fullness_of (fullness_struct (fullness_answer a t)) ≡ fullness_answer a t
unfolding fullness_answer
fullness_back a t =
    let few = at_most-le 64 (low_at a (full t)) in
    both FullnessBack _ _ _ (both FullnessBack _ _ _ (owned_back _ (omega arith)) (fullness_refused NoFrame)) (fullness_refused NotOpen)
