-- The claims of two plans, written out.
use Rattle.std.specs.Prelude.{◌≡◌, List, [], ◌∷◌, ◌++◌, ℕ}
use Rattle.records.specs.declared.record.NodeType.TheVariants.{Can, Lin}
use Rattle.records.specs.Records.{records}
use Rattle.plan.specs.Check.{good_with, check_plan}
use Rattle.plan.specs.Rows.{copy, failure, Claim, Row, rows_of, claims_of, tx_of, nodes_in, types_in, order_in}
use Rattle.facts.specs.Good.{sizes_of}
use Rattle.facts.specs.PlanCases.{node, lin, tx, rx, signal, destination, listing}
use Rattle.claims.specs.Statements.{Said}

abbrev pub copied : ℕ → ℕ → ℕ → ℕ → ℕ → Claim
copied n p s t q = record { rx = n; tx = t; at = q; from = copy p s }

abbrev pub failed : ℕ → ℕ → ℕ → Claim
failed n t q = record { rx = n; tx = t; at = q; from = failure }

-- Order 1, a CAN and a LIN node, three Tx frames of 8, 7 and 6 bytes; three Rx frames, of which the first and the last have an indicator, and the second has a
-- signal with no destination. All positions and all signal sizes differ, and the first frame's destinations begin and end in different Tx frames.
abbrev pub several : List ℕ
several =
    0x01 ∷ 0x01 ∷ [] ++ node ++ lin ++ tx 8 ++ tx 7 ++ tx 6
    ++ rx 0 0x00 0x20 8 1 45
    ++ signal 1 3 ++ destination 2 5 ++ destination 0 9
    ++ signal 20 7 ++ destination 1 11 ++ destination 0 14
    ++ rx 1 0x00 0x21 7 0 51
    ++ signal 2 1 ++ destination 1 40
    ++ signal 30 10
    ++ signal 17 6 ++ destination 0 25 ++ destination 1 33
    ++ rx 1 0x00 0x22 6 1 47
    ++ signal 4 2 ++ destination 1 52

-- the number and the size of each row's frame
unfoldable pub numbered : List Row → List (ℕ × ℕ)
numbered [] = []
numbered (r ∷ rows) = (r.number, r.frame.size) ∷ numbered rows

pub record Written : Type 0 where
  pub document : claims_of listing ≡ failed 0 0 15 ∷ copied 0 2 4 0 6 ∷ []
  pub good : check_plan several ≡ good_with 2 3 3
  pub order : order_in (records several) ≡ 1
  pub nodes : nodes_in (records several) ≡ 2
  pub types : types_in (records several) ≡ Can ∷ Lin ∷ []
  pub frames : sizes_of (tx_of several) ≡ 8 ∷ 7 ∷ 6 ∷ []
  pub rows : numbered (rows_of several) ≡ (0, 8) ∷ (1, 7) ∷ (2, 6) ∷ []
  pub claims :
      claims_of several
      ≡ failed 0 2 45 ∷ copied 0 1 3 2 5 ∷ copied 0 1 3 0 9 ∷ copied 0 20 7 1 11 ∷ copied 0 20 7 0 14
      ∷ copied 1 2 1 1 40 ∷ copied 1 17 6 0 25 ∷ copied 1 17 6 1 33
      ∷ failed 2 1 47 ∷ copied 2 4 2 1 52
      ∷ []
  -- and all of the statements on a good plan are about it
  pub said : Said several
