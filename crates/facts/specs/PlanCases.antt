-- Small plans with the verdict of each: every refusal number, document 01's cases 10, 11 and 12, the plan of its listing, plans with LIN nodes, and plans
-- with 29-bit IDs.
use Rattle.std.specs.Prelude.{◌≡◌, List, [], ◌∷◌, ◌++◌, ℕ, Result}
use Rattle.plan.specs.declared.verdict.Reason.TheVariants.{Short, Kind, Place, Count, Range, Order, Data, Owner, Indicator}
use Rattle.plan.specs.declared.verdict.PlanCounts.{PlanCounts}
use Rattle.plan.specs.declared.verdict.BadRecord.{BadRecord}
use Rattle.plan.specs.Check.{good_with, refused_at, check_plan}

pub record PlanCase : Type 0 where
  pub plan : List ℕ
  pub verdict : Result PlanCounts BadRecord

-- ---- the bytes of records, with what the cases vary

abbrev pub head : List ℕ
head = 0x01 ∷ 0x00 ∷ []

abbrev pub node : List ℕ
node = 0x02 ∷ 0x00 ∷ []

-- a LIN node
abbrev pub lin : List ℕ
lin = 0x02 ∷ 0x01 ∷ []

-- a Tx frame on node 0, ID 0100
abbrev pub tx : ℕ → List ℕ
tx size = 0x03 ∷ 0x00 ∷ 0x01 ∷ 0x00 ∷ size ∷ 0x01 ∷ 0x03 ∷ 0x03 ∷ 0x02 ∷ 0x00 ∷ 0x00 ∷ 0x00 ∷ 0x00 ∷ 0x00 ∷ 0x00 ∷ 0x00 ∷ 0x00 ∷ []

-- an Rx frame: node, the two bytes of its ID, size, failure enable and failure position
abbrev pub rx : ℕ → ℕ → ℕ → ℕ → ℕ → ℕ → List ℕ
rx on high low size enable position = 0x04 ∷ on ∷ high ∷ low ∷ size ∷ 0x01 ∷ 0x02 ∷ 0x02 ∷ enable ∷ position ∷ 0x02 ∷ []

abbrev pub signal : ℕ → ℕ → List ℕ
signal position size = 0x05 ∷ position ∷ size ∷ []

abbrev pub destination : ℕ → ℕ → List ℕ
destination number position = 0x06 ∷ 0x00 ∷ number ∷ position ∷ []

-- sixteen nodes, of which the last is a LIN node
abbrev pub sixteen : List ℕ
sixteen = node ++ node ++ node ++ node ++ node ++ node ++ node ++ node ++ node ++ node ++ node ++ node ++ node ++ node ++ node ++ lin

-- a Tx frame of zeros on node 1, which the cases have as a LIN node: the last byte of its ID, and its size
abbrev pub lin_tx : ℕ → ℕ → List ℕ
lin_tx id size = 0x03 ∷ 0x01 ∷ 0x00 ∷ id ∷ size ∷ 0x01 ∷ 0x03 ∷ 0x03 ∷ 0x00 ∷ 0x00 ∷ 0x00 ∷ 0x00 ∷ 0x00 ∷ 0x00 ∷ 0x00 ∷ 0x00 ∷ 0x00 ∷ []

-- frames with a four-byte ID (document 02, Ticket 6): the node and the ID's bytes. The Tx frame has two bytes and is sent on reception, the Rx frame one byte
abbrev pub extended_tx : ℕ → ℕ → ℕ → ℕ → ℕ → List ℕ
extended_tx on a b c d =
    0x07 ∷ on ∷ a ∷ b ∷ c ∷ d ∷ 0x02 ∷ 0x01 ∷ 0x00 ∷ 0x00 ∷ 0x01 ∷ 0x00 ∷ 0x00 ∷ 0x00 ∷ 0x00 ∷ 0x00 ∷ 0x00 ∷ 0x00 ∷ 0x00 ∷ []

abbrev pub extended_rx : ℕ → ℕ → ℕ → ℕ → ℕ → List ℕ
extended_rx on a b c d = 0x08 ∷ on ∷ a ∷ b ∷ c ∷ d ∷ 0x01 ∷ 0x01 ∷ 0x02 ∷ 0x02 ∷ 0x00 ∷ 0x00 ∷ 0x02 ∷ []

-- a head, a node, a Tx frame of two bytes, and an Rx frame of one byte with no failure bit, or with one at a position
abbrev pub plain : List ℕ
plain = head ++ node ++ tx 2 ++ rx 0 0x00 0x20 1 0 0

abbrev pub failing : ℕ → List ℕ
failing position = head ++ node ++ tx 2 ++ rx 0 0x00 0x20 1 1 position

-- "Plan, 39 bytes", as it stands
abbrev pub listing : List ℕ
listing =
    0x01 ∷ 0x00 ∷ 0x02 ∷ 0x00 ∷ 0x03 ∷ 0x00 ∷ 0x01 ∷ 0x00 ∷ 0x02 ∷ 0x01 ∷ 0x03 ∷ 0x03 ∷ 0x02
    ∷ 0x00 ∷ 0x00 ∷ 0x00 ∷ 0x00 ∷ 0x00 ∷ 0x00 ∷ 0x00 ∷ 0x00
    ∷ 0x04 ∷ 0x00 ∷ 0x00 ∷ 0x20 ∷ 0x01 ∷ 0x01 ∷ 0x02 ∷ 0x02 ∷ 0x01 ∷ 0x0F ∷ 0x02 ∷ 0x05 ∷ 0x02 ∷ 0x04 ∷ 0x06 ∷ 0x00 ∷ 0x00 ∷ 0x06 ∷ []

-- ID 20 hex in both formats on one node (document 02, Ticket 6), the one copied to the first byte of a Tx frame with a 29-bit ID, the other to its second
abbrev pub bridge : List ℕ
bridge =
    head ++ node ++ extended_tx 0 0x09 0xF8 0x01 0x00 ++ rx 0 0x00 0x20 1 0 0 ++ signal 0 8 ++ destination 0 0 ++ extended_rx 0 0x00 0x00 0x00 0x20 ++ signal 0 8
    ++ destination 0 8

-- "The pumps on LIN" (document 02, Ticket 2): node 0 is a CAN node, node 1 a LIN node
abbrev pub pumps : List ℕ
pumps =
    -- the head, and the two nodes
    0x01 ∷ 0x00 ∷ 0x02 ∷ 0x00 ∷ 0x02 ∷ 0x01
    -- Tx frame 0: node 0, ID 0100, size 2, reload 2, stopped at first, send on change
    ∷ 0x03 ∷ 0x00 ∷ 0x01 ∷ 0x00 ∷ 0x02 ∷ 0x01 ∷ 0x02 ∷ 0x00 ∷ 0x02 ∷ 0x00 ∷ 0x00 ∷ 0x00 ∷ 0x00 ∷ 0x00 ∷ 0x00 ∷ 0x00 ∷ 0x00
    -- Tx frame 1: node 1, ID 02, size 2, reload 3, payload 4A 55
    ∷ 0x03 ∷ 0x01 ∷ 0x00 ∷ 0x02 ∷ 0x02 ∷ 0x01 ∷ 0x03 ∷ 0x03 ∷ 0x00 ∷ 0x4A ∷ 0x55 ∷ 0x00 ∷ 0x00 ∷ 0x00 ∷ 0x00 ∷ 0x00 ∷ 0x00
    -- Rx frame 0: node 1, ID 01, size 1, reload 2, long count 2; its signal is as that of document 01's listing
    ∷ 0x04 ∷ 0x01 ∷ 0x00 ∷ 0x01 ∷ 0x01 ∷ 0x01 ∷ 0x02 ∷ 0x02 ∷ 0x01 ∷ 0x0F ∷ 0x02 ∷ 0x05 ∷ 0x02 ∷ 0x04 ∷ 0x06 ∷ 0x00 ∷ 0x00 ∷ 0x06 ∷ []

-- ---- the cases

abbrev pub plan_cases : List PlanCase
plan_cases =
    -- 1: the input is empty (case 12), or the record runs past its end
    record { plan = []; verdict = refused_at Short 0 }
    ∷ record { plan = head ++ 0x02 ∷ []; verdict = refused_at Short 1 }
    -- 2: the kind is not 1 to 8
    ∷ record { plan = head ++ 0x09 ∷ []; verdict = refused_at Kind 1 }
    -- 3: the kind may not stand here
    ∷ record { plan = node; verdict = refused_at Place 0 }
    ∷ record { plan = head ++ head; verdict = refused_at Place 1 }
    -- 4: seventeen nodes
    ∷ record {
      plan = head ++ node ++ node ++ node ++ node ++ node ++ node ++ node ++ node ++ node ++ node ++ node ++ node ++ node ++ node ++ node ++ node ++ node;
      verdict = refused_at Count 17;
    }
    -- 5: an order of 2; a node that there is not
    ∷ record { plan = 0x01 ∷ 0x02 ∷ []; verdict = refused_at Range 0 }
    ∷ record { plan = head ++ node ++ rx 1 0x00 0x20 1 0 0; verdict = refused_at Range 2 }
    -- 6: a row twice (case 11)
    ∷ record { plan = head ++ node ++ rx 0 0x00 0x20 1 0 0 ++ rx 0 0x00 0x20 1 0 0; verdict = refused_at Order 3 }
    -- 7: a signal passes its frame's data; a destination does; the Tx frame does not exist
    ∷ record { plan = plain ++ signal 5 4; verdict = refused_at Data 4 }
    ∷ record { plan = plain ++ signal 2 4 ++ destination 0 13; verdict = refused_at Data 5 }
    ∷ record { plan = plain ++ signal 2 4 ++ destination 1 0; verdict = refused_at Data 5 }
    -- 8: a destination's bit has an owner; a failure bit's has
    ∷ record { plan = plain ++ signal 2 4 ++ destination 0 6 ++ destination 0 9; verdict = refused_at Owner 6 }
    ∷ record { plan = failing 9 ++ signal 2 4 ++ destination 0 6; verdict = refused_at Owner 5 }
    -- 9: the end, or another record, in place of the signal; in place of the destination; the position passes the Tx data
    ∷ record { plan = failing 15; verdict = refused_at Indicator 3 }
    ∷ record { plan = failing 15 ++ rx 0 0x00 0x21 1 0 0; verdict = refused_at Indicator 3 }
    ∷ record { plan = failing 15 ++ signal 2 4; verdict = refused_at Indicator 3 }
    ∷ record { plan = failing 15 ++ signal 2 4 ++ signal 2 4; verdict = refused_at Indicator 3 }
    ∷ record { plan = failing 16 ++ signal 2 4 ++ destination 0 6; verdict = refused_at Indicator 5 }
    -- case 10: position 60 in 8 bytes: size 4 fits, 5 is refusal 7
    ∷ record { plan = head ++ node ++ rx 0 0x00 0x20 8 0 0 ++ signal 60 4; verdict = good_with 1 0 1 }
    ∷ record { plan = head ++ node ++ rx 0 0x00 0x20 8 0 0 ++ signal 60 5; verdict = refused_at Data 3 }
    -- case 11: rows (0, 7FF) then (1, 000) are good
    ∷ record { plan = head ++ node ++ node ++ rx 0 0x07 0xFF 8 0 0 ++ rx 1 0x00 0x00 8 0 0; verdict = good_with 2 0 2 }
    -- case 12: a head alone is good
    ∷ record { plan = head; verdict = good_with 0 0 0 }
    -- the plan of the listing
    ∷ record { plan = listing; verdict = good_with 1 1 1 }
    ∷ record { plan = pumps; verdict = good_with 2 2 1 }
    -- document 02, Ticket 2. 3: a CAN node after a LIN node, before 4
    ∷ record { plan = head ++ lin ++ node; verdict = refused_at Place 2 }
    ∷ record { plan = head ++ sixteen ++ node; verdict = refused_at Place 17 }
    ∷ record { plan = head ++ sixteen ++ lin; verdict = refused_at Count 17 }
    -- 5: a type that there is not, also after a LIN node
    ∷ record { plan = head ++ 0x02 ∷ 0x02 ∷ []; verdict = refused_at Range 1 }
    ∷ record { plan = head ++ lin ++ 0x02 ∷ 0x02 ∷ []; verdict = refused_at Range 2 }
    -- 5: ID 60, or size 0, on a LIN node; on a CAN node both are good
    ∷ record { plan = head ++ node ++ lin ++ lin_tx 60 8; verdict = refused_at Range 3 }
    ∷ record { plan = head ++ node ++ lin ++ rx 1 0x00 60 8 0 0; verdict = refused_at Range 3 }
    ∷ record { plan = head ++ node ++ lin ++ lin_tx 59 0; verdict = refused_at Range 3 }
    ∷ record { plan = head ++ node ++ lin ++ rx 1 0x00 59 0 0 0; verdict = refused_at Range 3 }
    ∷ record { plan = head ++ node ++ lin ++ lin_tx 59 9; verdict = refused_at Range 3 }
    ∷ record { plan = head ++ node ++ node ++ lin_tx 60 0 ++ rx 1 0x00 60 0 0 0; verdict = good_with 2 1 1 }
    -- ID 59, sizes 1 and 8
    ∷ record { plan = head ++ node ++ lin ++ lin_tx 59 1 ++ lin_tx 59 8; verdict = good_with 2 2 0 }
    ∷ record { plan = head ++ node ++ lin ++ rx 1 0x00 0 1 0 0 ++ rx 1 0x00 59 8 0 0; verdict = good_with 2 0 2 }
    -- LIN nodes alone, and after CAN nodes, with frames on both
    ∷ record { plan = head ++ lin ++ lin; verdict = good_with 2 0 0 }
    ∷ record { plan = head ++ node ++ lin ++ tx 0 ++ lin_tx 0 1; verdict = good_with 2 2 0 }
    ∷ record { plan = head ++ node ++ lin ++ tx 8 ++ rx 0 0x00 60 8 0 0 ++ rx 1 0x00 59 8 1 63 ++ signal 0 8 ++ destination 0 0; verdict = good_with 2 1 2 }
    -- document 02, Ticket 6. 2: "2 begins past the new kinds"; 1: both, cut; 3: a Tx frame after an Rx frame
    ∷ record { plan = head ++ node ++ 0x09 ∷ []; verdict = refused_at Kind 2 }
    ∷ record { plan = head ++ node ++ 0x07 ∷ 0x00 ∷ []; verdict = refused_at Short 2 }
    ∷ record { plan = head ++ node ++ 0x08 ∷ 0x00 ∷ []; verdict = refused_at Short 2 }
    ∷ record { plan = head ++ node ++ rx 0 0x00 0x20 1 0 0 ++ extended_tx 0 0 0 0 0; verdict = refused_at Place 3 }
    -- 5: IDs "0 to 536,870,911"; a node that there is not; "5 for these on a LIN node"
    ∷ record { plan = head ++ node ++ extended_tx 0 0x1F 0xFF 0xFF 0xFF ++ extended_rx 0 0x1F 0xFF 0xFF 0xFF; verdict = good_with 1 1 1 }
    ∷ record { plan = head ++ node ++ extended_tx 0 0x20 0x00 0x00 0x00; verdict = refused_at Range 2 }
    ∷ record { plan = head ++ node ++ extended_rx 0 0x20 0x00 0x00 0x00; verdict = refused_at Range 2 }
    ∷ record { plan = head ++ node ++ extended_rx 0 0xFF 0xFF 0xFF 0xFF; verdict = refused_at Range 2 }
    ∷ record { plan = head ++ node ++ extended_rx 1 0 0 0 0; verdict = refused_at Range 2 }
    ∷ record { plan = head ++ lin ++ extended_tx 0 0 0 0 1; verdict = refused_at Range 2 }
    ∷ record { plan = head ++ lin ++ extended_rx 0 0 0 0 1; verdict = refused_at Range 2 }
    -- 6: "11-bit rows come before 29-bit ones, each in ascending order"
    ∷ record { plan = head ++ node ++ extended_rx 0 0 0 0 0x1F ++ rx 0 0x00 0x20 1 0 0; verdict = refused_at Order 3 }
    ∷ record { plan = head ++ node ++ extended_rx 0 0 0 0 0x20 ++ extended_rx 0 0 0 0 0x20; verdict = refused_at Order 3 }
    ∷ record { plan = head ++ node ++ extended_rx 0 0 1 0 0 ++ extended_rx 0 0 0 0xFF 0xFF; verdict = refused_at Order 3 }
    ∷ record { plan = head ++ node ++ extended_rx 0 0x1F 0xFF 0xFF 0xFE ++ extended_rx 0 0x1F 0xFF 0xFF 0xFF; verdict = good_with 1 0 2 }
    ∷ record { plan = head ++ node ++ rx 0 0x07 0xFF 1 0 0 ++ extended_rx 0 0 0 0 0; verdict = good_with 1 0 2 }
    ∷ record { plan = head ++ node ++ node ++ extended_rx 0 0x1F 0xFF 0xFF 0xFF ++ rx 1 0x00 0x00 1 0 0; verdict = good_with 2 0 2 }
    ∷ record { plan = bridge; verdict = good_with 1 1 2 }
    ∷ []

abbrev pub VerdictsHold : List PlanCase → Type 0
VerdictsHold [] = Unit {0}
VerdictsHold (c ∷ cs) = (check_plan c.plan ≡ c.verdict) × VerdictsHold cs
