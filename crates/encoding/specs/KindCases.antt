-- One record of each kind whose bytes all differ, with its fields: document 01's table of kinds, to be read beside it. Two fields exchanged, or
-- the two bytes of a number, would give another record.
--
--   kind           body  fields
--   1 head           1   order
--   2 node           1   type
--   3 Tx frame      16   node 1, ID 2, size 1, prescaler 1, reload 1, initial timer 1, flags 1, initial payload 8
--   4 Rx frame      10   node 1, ID 2, size 1, prescaler 1, reload 1, initial timer 1, failure enable 1, failure position 1, long count 1
--   5 signal         2   position, size
--   6 destination    3   Tx frame 2, position 1
--   7 Tx frame      18   as 3, with a four-byte ID (document 02, Ticket 6)
--   8 Rx frame      12   as 4, with a four-byte ID
use Rattle.std.specs.Prelude.{◌≡◌, Bool, true, false, not, ◌&&◌, ◌||◌, List, [], ◌∷◌, ℕ, ◌+◌, eqb, length, take}
use Rattle.records.specs.declared.record.Id.TheVariants.{Standard, Extended}
use Rattle.records.specs.declared.record.Record.{Record}
use Rattle.records.specs.declared.record.Record.TheVariants.{Head, Node, Tx, Rx, Signal, Destination, Broken}
use Rattle.records.specs.declared.record.Fault.TheVariants.{BadKind, Cut}
use Rattle.records.specs.Records.{record_at, records}
use Rattle.encoding.specs.Encode.{bytes_of}

pub record KindCase : Type 0 where
  pub kind : ℕ
  pub body : ℕ
  pub bytes : List ℕ
  pub says : Record

abbrev pub kind_cases : List KindCase
kind_cases =
    record { kind = 1; body = 1; bytes = 0x01 ∷ 0x00 ∷ []; says = Head 0x00 }
    ∷ record { kind = 2; body = 1; bytes = 0x02 ∷ 0x00 ∷ []; says = Node (record { of = 0x00 }) }
    ∷ record {
      kind = 3;
      body = 16;
      bytes =
          0x03 ∷ 0x05 ∷ 0x02 ∷ 0xA1 ∷ 0x08 ∷ 0x14 ∷ 0x64 ∷ 0x32 ∷ 0x01
          ∷ 0xF0 ∷ 0xF1 ∷ 0xF2 ∷ 0xF3 ∷ 0xF4 ∷ 0xF5 ∷ 0xF6 ∷ 0xF7 ∷ [];
      says =
          Tx
          (record {
            node = 0x05;
            id = Standard 0x02A1;
            size = 0x08;
            prescaler = 0x14;
            reload = 0x64;
            initial = 0x32;
            flags = 0x01;
            payload = 0xF0 ∷ 0xF1 ∷ 0xF2 ∷ 0xF3 ∷ 0xF4 ∷ 0xF5 ∷ 0xF6 ∷ 0xF7 ∷ [];
          });
    }
    ∷ record {
      kind = 4;
      body = 10;
      bytes = 0x04 ∷ 0x06 ∷ 0x03 ∷ 0x7B ∷ 0x07 ∷ 0x0A ∷ 0x28 ∷ 0x1E ∷ 0x01 ∷ 0x3F ∷ 0x0F ∷ [];
      says =
          Rx
          (record {
            node = 0x06;
            id = Standard 0x037B;
            size = 0x07;
            prescaler = 0x0A;
            reload = 0x28;
            initial = 0x1E;
            enable = 0x01;
            position = 0x3F;
            long = 0x0F;
          });
    }
    ∷ record { kind = 5; body = 2; bytes = 0x05 ∷ 0x3C ∷ 0x04 ∷ []; says = Signal (record { position = 0x3C; size = 0x04 }) }
    ∷ record { kind = 6; body = 3; bytes = 0x06 ∷ 0x01 ∷ 0x02 ∷ 0x09 ∷ []; says = Destination (record { tx = record { 0 = 0x0102 }; position = 0x09 }) }
    ∷ record {
      kind = 7;
      body = 18;
      bytes =
          0x07 ∷ 0x05 ∷ 0x19 ∷ 0xF8 ∷ 0x02 ∷ 0xA1 ∷ 0x08 ∷ 0x14 ∷ 0x64 ∷ 0x32 ∷ 0x01
          ∷ 0xE0 ∷ 0xE1 ∷ 0xE2 ∷ 0xE3 ∷ 0xE4 ∷ 0xE5 ∷ 0xE6 ∷ 0xE7 ∷ [];
      says =
          Tx
          (record {
            node = 0x05;
            id = Extended 0x19F802A1;
            size = 0x08;
            prescaler = 0x14;
            reload = 0x64;
            initial = 0x32;
            flags = 0x01;
            payload = 0xE0 ∷ 0xE1 ∷ 0xE2 ∷ 0xE3 ∷ 0xE4 ∷ 0xE5 ∷ 0xE6 ∷ 0xE7 ∷ [];
          });
    }
    ∷ record {
      kind = 8;
      body = 12;
      bytes = 0x08 ∷ 0x06 ∷ 0x09 ∷ 0xF8 ∷ 0x03 ∷ 0x7B ∷ 0x07 ∷ 0x0A ∷ 0x28 ∷ 0x1E ∷ 0x01 ∷ 0x3F ∷ 0x0F ∷ [];
      says =
          Rx
          (record {
            node = 0x06;
            id = Extended 0x09F8037B;
            size = 0x07;
            prescaler = 0x0A;
            reload = 0x28;
            initial = 0x1E;
            enable = 0x01;
            position = 0x3F;
            long = 0x0F;
          });
    }
    ∷ []

-- no byte stands twice
abbrev pub among : ℕ → List ℕ → Bool
among x [] = false
among x (y ∷ ys) = eqb x y || among x ys

abbrev pub all_differ : List ℕ → Bool
all_differ [] = true
all_differ (x ∷ xs) = not (among x xs) && all_differ xs

-- a case, both ways, and cut by its last byte
pub record KindCaseHolds (c : KindCase) : Type 0 where
  pub differ : all_differ c.bytes ≡ true
  pub fixed : length c.bytes ≡ 1 + c.body
  pub decoded : records c.bytes ≡ c.says ∷ []
  pub encoded : bytes_of c.says ≡ c.bytes
  pub cut : record_at (take c.body c.bytes) 0 ≡ Broken (Cut c.kind)

abbrev pub AllHold : List KindCase → Type 0
AllHold [] = Unit {0}
AllHold (c ∷ cs) = KindCaseHolds c × AllHold cs

-- the eight kinds, and bytes that are no kind: the last before them, the first after them, and the last of all
pub record KindsHold : Type 0 where
  pub kinds : AllHold kind_cases
  pub zero : record_at (0x00 ∷ 0x01 ∷ []) 0 ≡ Broken BadKind
  pub nine : record_at (0x09 ∷ 0x01 ∷ []) 0 ≡ Broken BadKind
  pub last : record_at (0xFF ∷ 0x01 ∷ []) 0 ≡ Broken BadKind
