-- What the check knows after a record: the number of the next one, how many there were of each kind, and the Rx frame that is being read.
use Rattle.std.specs.Prelude.{ℕ, ◌+◌, ◌*◌, eqb}
use Rattle.base.specs.Pick.{pick}
use Rattle.records.specs.declared.record.RxFrame.{RxFrame}
use Rattle.records.specs.declared.record.Record.{Record}
use Rattle.records.specs.Views.{on_node, on_tx, on_rx, on_signal, on_destination, in_row}
use Rattle.records.specs.Ids.{key_of}
use Rattle.records.specs.Kinds.{signal_stage, destination_stage, stage_of}
use Rattle.plan.specs.declared.progress.Counts.{Counts}
use Rattle.plan.specs.declared.progress.RowSoFar.{RowSoFar}
use Rattle.plan.specs.declared.progress.Progress.{Progress}

-- (node, ID) as one number, which rises with the node and then with the ID: the key of an ID is below this
abbrev pub key_range : ℕ
key_range = 4294967296

unfoldable pub row_key : RxFrame → ℕ
row_key frame = frame.node * key_range + key_of frame.id

-- type 0 is a CAN node
unfoldable pub counted : Counts → Record → Counts
counted c r =
    record {
      nodes = on_node c.nodes (λ body. c.nodes + 1) r;
      can = on_node c.can (λ body. pick (eqb body.of 0) (c.can + 1) c.can) r;
      tx = on_tx c.tx (λ frame. c.tx + 1) r;
      rx = on_rx c.rx (λ frame. c.rx + 1) r;
      signals = on_signal c.signals (λ body. c.signals + 1) r;
      destinations = on_destination c.destinations (λ body. c.destinations + 1) r;
    }

-- an Rx frame of record number n begins a row; an enabled indicator awaits a signal, and then a destination
unfoldable pub row_after : ℕ → RowSoFar → Record → RowSoFar
row_after n row r =
    in_row row
    (λ frame. record {
      floor = row_key frame + 1;
      room = 8 * frame.size;
      signals = 0;
      size = 0;
      destinations = 0;
      awaits = pick (eqb frame.enable 1) signal_stage 0;
      position = frame.position;
      source = n;
    })
    (λ body. record {
      floor = row.floor;
      room = row.room;
      signals = row.signals + 1;
      size = body.size;
      destinations = 0;
      awaits = pick (eqb row.awaits 0) 0 destination_stage;
      position = row.position;
      source = row.source;
    })
    (λ body. record {
      floor = row.floor;
      room = row.room;
      signals = row.signals;
      size = row.size;
      destinations = row.destinations + 1;
      awaits = 0;
      position = row.position;
      source = row.source;
    })
    r

unfoldable pub after : Progress → Record → Progress
after p r =
    record {
      number = p.number + 1;
      stage = stage_of r;
      counts = counted p.counts r;
      row = row_after p.number p.row r;
    }

-- before the first record
unfoldable pub start : Progress
start =
    record {
      number = 0;
      stage = 0;
      counts = record { nodes = 0; can = 0; tx = 0; rx = 0; signals = 0; destinations = 0 };
      row = record { floor = 0; room = 0; signals = 0; size = 0; destinations = 0; awaits = 0; position = 0; source = 0 };
    }
