-- What the bench program's functions promise to write, on an area's bytes, is what document 01's gateway writes in lists and numbers.
use Rattle.std.specs.Prelude.{◌≡◌, List, ℕ}
use Rattle.output.specs.Output.{bench_output}
use Rattle.base.specs.Numbers.{Bytes}
use Rattle.listing.specs.Output.{model_output}

abbrev pub SameOutput : Type 0
SameOutput = (input : List ℕ) → Bytes input → bench_output input ≡ model_output input
