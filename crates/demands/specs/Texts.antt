-- What the model, the rules and the byte definitions all use, each said a second time in other words, and proved to be one.
use Rattle.records.specs.Keys.{KeysInOrder}
use Rattle.encoding.specs.Encode.{DecodedEight, DecodesEncoded, EncodesGood, SizesAgree, BrokenExactly}
use Rattle.encoding.specs.KindCases.{KindsHold}
use Rattle.claims.specs.Statements.{GoodSaid}
use Rattle.claims.specs.Examples.{Written}
use Rattle.refusals.specs.Statements.{RefusedExactly, GoodExactly, OneRefusal}
use Rattle.lin.specs.Statements.{ParityBits, KnownIdentifiers, KnownChecksum, FoldedSum, Appended, SameChecksum, ChangedByteFound}
use Rattle.restated.specs.Bits.{BitsAtEnds, BitsByNumbers}
use Rattle.restated.specs.Copies.{CopiesByNumbers}
use Rattle.restated.specs.Clock.{CounterByNumber, HandledByNumber, Handling}
use Rattle.restated.specs.Owners.{OwnersByDigits}
use Rattle.restated.specs.Search.{SearchByLooks}

pub record Texts : Type 0 where
  -- the records of a plan, by the encoder
  pub eight : DecodedEight
  pub decodes : DecodesEncoded
  pub encodes : EncodesGood
  pub sizes : SizesAgree
  pub broken : BrokenExactly
  pub kinds : KindsHold
  -- the key of an ID, by numbers: one for both formats
  pub keys : KeysInOrder
  -- its frames, rows, claims and owners, by splitting its records
  pub said : GoodSaid
  pub written : Written
  -- the check, by the refusal table
  pub refused : RefusedExactly
  pub good : GoodExactly
  pub one : OneRefusal
  -- bits, copies, clock, owner sets and search, by numbers
  pub ends : BitsAtEnds
  pub bits : BitsByNumbers
  pub copies : CopiesByNumbers
  pub counter : CounterByNumber
  pub handled : HandledByNumber
  pub handling : Handling
  pub owners : OwnersByDigits
  pub search : SearchByLooks
  -- the protected identifier and the checksum, by numbers, and what the checksum is worth
  pub parity : ParityBits
  pub identifiers : KnownIdentifiers
  pub checksum : KnownChecksum
  pub folded : FoldedSum
  pub appended : Appended
  pub same_checksum : SameChecksum
  pub changed_byte : ChangedByteFound
