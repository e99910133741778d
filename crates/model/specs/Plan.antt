-- What a plan says: how many nodes there are, their types, the order, the Tx frames, and a row for each Rx frame with the bits that it owns.
use Rattle.std.specs.Prelude.{ℕ, Bool, List, get_or}
use Rattle.records.specs.declared.record.TxFrame.{TxFrame}
use Rattle.records.specs.declared.record.NodeType.{NodeType}
use Rattle.records.specs.declared.record.NodeType.TheVariants.{Can}
use Rattle.records.specs.Views.{no_tx}
use Rattle.records.specs.Records.{records}
use Rattle.records.specs.Nodes.{is_lin}
use Rattle.plan.specs.Rows.{Row, no_row, rows_of, tx_of, nodes_in, types_in, order_in}

pub record Plan : Type 0 where
  pub nodes : ℕ
  pub types : List NodeType
  pub order : ℕ
  pub tx : List TxFrame
  pub rows : List Row

abbrev pub said : List ℕ → Plan
said bytes =
    record {
      nodes = nodes_in (records bytes);
      types = types_in (records bytes);
      order = order_in (records bytes);
      tx = tx_of bytes;
      rows = rows_of bytes;
    }

abbrev pub tx_in : Plan → ℕ → TxFrame
tx_in p t = get_or p.tx t no_tx

abbrev pub row_in : Plan → ℕ → Row
row_in p r = get_or p.rows r no_row

-- whether node n is a LIN node
abbrev pub on_lin : Plan → ℕ → Bool
on_lin p n = is_lin (get_or p.types n Can)
