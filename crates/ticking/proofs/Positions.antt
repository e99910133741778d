-- Where the failure positions of an area's Rx frames are bytes, as they are in every area of bytes, no expiry sets a bit past the payloads and
-- masks.
use mathlib.Core.List.{List}
use Prim.Native.Nat.{ℕ, ◌+◌, ◌<◌}
use Rattle.bits.proofs.PayloadLaws.{Bytes}
use Rattle.records.specs.Kinds.{rx_at}
use Rattle.area.specs.Layout.{rx_fields_place, rx_frame}
use Rattle.area.proofs.Kept.{Kept, rx_frame_kept}
use Rattle.area.proofs.NarrowLaws.{Bytes-stored}

abbrev pub Positions : List ℕ → Type 0
Positions a = (r : ℕ) → r < 256 → (rx_frame a r).position < 256

pub Positions-kept : {a b : List ℕ} → Kept a b → Positions a → Positions b
Positions-kept k p r h = rw (rx_frame_kept k r h) (p r h)

pub bytes_positions : (a : List ℕ) → Bytes a → Positions a
unfolding rx_frame rx_at
bytes_positions a h r l = Bytes-stored a h (rx_fields_place a r + 5)
