-- The limits of a plan: "At most 16 nodes, 256 Tx frames, 256 Rx frames, 1,024 signals (64 in a frame), 2,048 destinations (15 for a signal)."
use Rattle.std.specs.Prelude.{ℕ}

abbrev pub most_nodes : ℕ
most_nodes = 16

abbrev pub most_tx : ℕ
most_tx = 256

abbrev pub most_rx : ℕ
most_rx = 256

abbrev pub most_signals : ℕ
most_signals = 1024

abbrev pub most_in_frame : ℕ
most_in_frame = 64

abbrev pub most_destinations : ℕ
most_destinations = 2048

abbrev pub most_of_signal : ℕ
most_of_signal = 15

-- "ID 0–2047"
abbrev pub id_range : ℕ
id_range = 2048

-- "a four-byte ID, 0 to 536,870,911" (document 02, Ticket 6)
abbrev pub extended_id_range : ℕ
extended_id_range = 536870912

-- "IDs there run 0 to 59" (document 02, Ticket 2), on a LIN node
abbrev pub lin_id_range : ℕ
lin_id_range = 60
