-- What a writer in pieces holds: what the writer behind it has, and then what waits.
use Rattle.std.specs.Prelude.{ℕ, List, Option}
use Rattle.std.specs.Io.KnownBytes.{append_known}
use Rattle.buffered.specs.declared.Buffered.{Buffered}

abbrev pub inner : {W : Type 0} → Buffered W → W
inner b = b.out

abbrev pub waiting : {W : Type 0} → Buffered W → List ℕ
waiting b = b.bytes.items

abbrev pub held : {W : Type 0} → (W → Option (List ℕ)) → Buffered W → Option (List ℕ)
held contents b = append_known (contents b.out) b.bytes.items
