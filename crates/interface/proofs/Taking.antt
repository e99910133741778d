-- A take's struct gives back its answer, so no two answers have one struct.
use mathlib.Core.Path.{◌≡◌, refl}
use mathlib.Core.List.{List}
use Prim.Native.Nat.{ℕ, ◌+◌, ◌%◌, ◌<◌}
use native.Mathlib.Omega.{arith}
use borrow.Author.Tests.{ne_eqb}
use Rattle.std.specs.Prelude.{Option, Some, None, Result, Ok, Err}
use Rattle.base.specs.Pick.{pick}
use Rattle.base.proofs.Picks.{both}
use Rattle.bits.proofs.PayloadLaws.{Bytes}
use Rattle.lin.proofs.Identifiers.{parity_bits}
use Rattle.records.specs.declared.record.Id.{Id}
use Rattle.records.specs.declared.record.Entry.{Entry}
use Rattle.records.specs.declared.record.Entry.TheVariants as entry
use Rattle.records.specs.Ids.{plain_id}
use Rattle.records.specs.Kinds.{tx_at, rx_at}
use Rattle.records.specs.Nodes.{is_lin}
use Rattle.area.specs.Layout.{requests_start, waiter_range, queue, tx_fields_place, rx_fields_place, tx_frame, rx_frame, type_on}
use Rattle.area.specs.Queue.{ends_of, entry_of, oldest}
use Rattle.area.proofs.NarrowLaws.{Bytes-stored}
use Rattle.answers.specs.declared.Refusal.{Refusal}
use Rattle.answers.specs.declared.Refusal.TheVariants.{NotOpen, NoNode}
use Rattle.answers.specs.declared.Framing.{Framing}
use Rattle.answers.specs.declared.Framing.TheVariants.{Can, Lin}
use Rattle.answers.specs.declared.TakenFrame.{TakenFrame}
use Rattle.answers.specs.declared.TakenRequest.{TakenRequest}
use Rattle.answers.specs.declared.Taken.{Taken}
use Rattle.answers.specs.declared.Taken.TheVariants.{Frame, Request}
use Rattle.answers.specs.Answers.{refusal_number}
use Rattle.taking.specs.Taken.{framing_of, entry_answer, oldest_answer, taken_answer}
use Rattle.taking.proofs.Entries.{frame_small, request_small}
use Rattle.interface.specs.Structs.{id_in, word_of, nothing_taken, protected_in, checksum_in, taken_struct}
use Rattle.interface.specs.Back as back
use Rattle.interface.specs.Back.{taken_of}
use Rattle.interface.proofs.Numbers.{numbered}
use Rattle.interface.proofs.Words.{Fits, word_back, id_fits}

abbrev Back : Result (Option Taken) Refusal → Type 0
Back x = taken_of (taken_struct x) ≡ x

nothing_back : Back (Ok None)
unfolding taken_of taken_struct nothing_taken pick
nothing_back = refl

refused_back : (why : Refusal) → Back (Err why)
unfolding taken_of taken_struct nothing_taken pick
refused_back why =
    let n = numbered why in
    rw (ne_eqb (refusal_number why) 0 (omega arith), n.back)

-- a framing whose protected identifier, where it has one, is above 0
unfoldable Told : Framing → Type 0
Told Can = Unit {0}
Told (Lin protected checksum) = 0 < protected

frame_back : (x : TakenFrame) → x.tx.0 < 256 → Fits x.id → x.size < 16 → x.waiting < 65536 → Told x.framing → Back (Ok (Some (Frame x)))
unfolding taken_of taken_struct back.framing_of protected_in checksum_in pick Told
frame_back x ht hi hs hw told = go x.framing refl told
  where
    et : x.tx.0 % 65536 ≡ x.tx.0
    et = omega arith

    es : x.size % 256 ≡ x.size
    es = omega arith

    ei : id_in (word_of x.id) ≡ x.id
    ei = word_back x.id hi

    ew : x.waiting % 65536 ≡ x.waiting
    ew = omega arith

    go : (f : Framing) → x.framing ≡ f → Told f → Back (Ok (Some (Frame x)))
    go Can e t = rw (et, es, ei, ew, e)
    go (Lin protected checksum) e t = rw (et, es, ei, ew, e, ne_eqb protected 0 (omega arith))

request_back : (x : TakenRequest) → x.rx.0 < 256 → Fits x.id → x.size < 256 → x.waiting < 65536 → Back (Ok (Some (Request x)))
unfolding taken_of taken_struct pick
request_back x hr hi hs hw =
    let er : x.rx.0 % 65536 ≡ x.rx.0 = omega arith in
    let es : x.size % 256 ≡ x.size = omega arith in
    let ew : x.waiting % 65536 ≡ x.waiting = omega arith in
    rw (er, es, word_back x.id hi, ew)

-- what goes with a frame has a protected identifier above 0
framing_told : (a : List ℕ) (n : ℕ) (id : Id) (bytes : List ℕ) → Told (framing_of a n id bytes)
unfolding framing_of Told
framing_told a n id bytes = both Told (is_lin (type_on a n)) _ _ (parity_bits.above (plain_id id)) tt

oldest_small : (a : List ℕ) (n : ℕ) → oldest a n < waiter_range
unfolding oldest
oldest_small a n = omega arith

-- a size is one byte of the area, a waiting count is two
tx_id_fits : (a : List ℕ) (t : ℕ) → Bytes a → Fits (tx_frame a t).id
unfolding tx_frame tx_at
tx_id_fits a t = id_fits a t (tx_fields_place a t)

rx_small : (a : List ℕ) (r : ℕ) → Bytes a → Fits (rx_frame a r).id × ((rx_frame a r).size < 256)
unfolding rx_frame rx_at
rx_small a r b = let at = rx_fields_place a r in (id_fits a (requests_start + r) at b, Bytes-stored a b at)

waiting_small : (a : List ℕ) (n : ℕ) → Bytes a → (ends_of a n).waiting < 65536
unfolding ends_of
waiting_small a n b = omega (arith, b (queue n + 6), b (queue n + 6 + 1))

entry_back : (a : List ℕ) (n waiting : ℕ) → Bytes a → waiting < 65536 → Back (Ok (Some (entry_answer a n (entry_of (oldest a n)) waiting)))
entry_back a n waiting b l = go (entry_of (oldest a n)) refl
  where
    go : (x : Entry) → entry_of (oldest a n) ≡ x → Back (Ok (Some (entry_answer a n x waiting)))
    go (entry.Frame t) e = unfold entry_answer in
        frame_back _ (frame_small (oldest a n) t e) (tx_id_fits a t.0 b) (omega arith) l (framing_told a n _ _)
    go (entry.Request r) e = unfold entry_answer in
        request_back _ (request_small (oldest a n) r (oldest_small a n) e) (rx_small a r.0 b).0 (rx_small a r.0 b).1 l

oldest_back : (a : List ℕ) (n : ℕ) → Bytes a → Back (oldest_answer a n)
unfolding oldest_answer
oldest_back a n b = both Back _ _ _ nothing_back (entry_back a n _ b (omega (arith, waiting_small a n b)))

pub taken_back : (a : List ℕ) (n : ℕ) → Bytes a → taken_of (taken_struct (taken_answer a n)) ≡ taken_answer a n
unfolding taken_answer
taken_back a n b = both Back _ _ _ (both Back _ _ _ (oldest_back a n b) (refused_back NoNode)) (refused_back NotOpen)
