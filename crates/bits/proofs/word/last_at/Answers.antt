use Rattle.std.proofs.Common.{rules, arith, ◌≡◌, ◌<◌, length, [], ◌∷◌, refl, sym, ◌∙◌, append_assoc, append-nil, length-append}
use Rattle.std.proofs.lemmas.List.{take_rest, nil_from_length}
use Rattle.bits.specs.Word.{low_first}
use Rattle.bits.proofs.WordLaws.{Bytes-more, low_first-more, last_room, last_low}
use Rattle.bits.proofs.word.last_at.Goals as goal

pub loop-byte-init : goal.loop-byte-init
unfolding low_first
loop-byte-init c =
    let all : c.into_iter-byte-iterator.result.iter.rest.now ≡ c.iter.result.rest.now = cc in
    ([], (λ k. search rules), rw (append-nil, all, c.iter.ensures.rest) (take_rest c.args.bytes.now c.args.at), refl)

pub overflow_mul-number : goal.overflow_mul-number
overflow_mul-number c =
    let (read, b, all, number) = c.loop-byte.invariant in
    let one : 0 < length c.loop-byte.byte-iterator.iter.rest.now = rw (c.in-Some.ensures.steps, length-append) (omega arith) in
    rw number (record { fits = omega (arith, last_room _ read c.args.bytes.now c.args.at b one all c.requires.1) })

pub overflow_add-number : goal.overflow_add-number
overflow_add-number c =
    let (read, b, all, number) = c.loop-byte.invariant in
    let one : 0 < length c.loop-byte.byte-iterator.iter.rest.now = rw (c.in-Some.ensures.steps, length-append) (omega arith) in
    let byte : c.in-Some.byte.now < 256 = search rules in
    rw (number, c.from.ensures) (record { fits = omega (arith, last_room _ read c.args.bytes.now c.args.at b one all c.requires.1) })

pub loop-byte-preserved : goal.loop-byte-preserved
unfolding low_first
loop-byte-preserved c =
    let (read, b, all, number) = c.loop-byte.invariant in
    let byte = c.in-Some.byte.now in (
      byte ∷ read,
      Bytes-more byte read (search rules) b,
      sym (append_assoc c.next.new.self.iter.rest.now (byte ∷ []) read) ∙ (rw c.in-Some.ensures.steps at all),
      rw (number, c.from.ensures, low_first-more (length read) 0 byte read),
    )

pub returns : goal.returns
returns c =
    let (read, b, all, number) = c.loop-byte.invariant in
    let none = nil_from_length _ c.in-None.ensures.steps.0 in
    rw number (last_low c.args.bytes.now read c.args.at (rw none at all) c.requires.1)
