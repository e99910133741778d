-- An opened area reads as its plan says, and begins as document 01 says: the Tx and the Rx side together.
use Rattle.opening.proofs.OpenedLaws.{opened-counter}
use Rattle.tables.specs.Statements.{OpenedReads}
use Rattle.tables.proofs.TxOpened.{opened_header, opened_tx, opened_rings, opened_payload, opened-tx_timer, opened-waits, opened_empty}
use Rattle.tables.proofs.RxOpened.{opened_rx, opened_node, opened-rx_timer, opened-long}

pub opened_reads : OpenedReads
opened_reads plan a n t r good room = (
  record {
    header = opened_header plan a n t r good room;
    tx = opened_tx plan a n t r good room;
    rx = opened_rx plan a n t r good room;
    node = opened_node plan a n t r good room;
    rings = opened_rings plan a n t r good room;
  },
  record {
    count = opened-counter plan a room;
    payload = opened_payload plan a n t r good room;
    tx_timer = opened-tx_timer plan a n t r good room;
    rx_timer = opened-rx_timer plan a n t r good room;
    long = opened-long plan a n t r good room;
    waits = opened-waits plan a n t r good room;
    empty = opened_empty plan a n t r good room;
  },
)
