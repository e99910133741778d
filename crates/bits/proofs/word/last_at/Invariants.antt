-- The bytes that are left and those that were read are the last ones; the number is that of those that were read.
use Rattle.std.proofs.Common.{◌≡◌, ◌++◌, length, drop, ℕ, List}
use Rattle.bits.specs.Word.{low_first}
use Rattle.bits.proofs.PayloadLaws.{Bytes}
use Rattle.bits.proofs.word.last_at.Given as goal

abbrev pub invariant-loop-byte : goal.invariant-loop-byte
invariant-loop-byte l = (read : List ℕ) × Bytes read × (l.byte-iterator.iter.rest.now ++ read ≡ drop l.at l.bytes) × (l.number ≡ low_first (length read) read 0)
