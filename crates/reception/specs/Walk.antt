-- The way of an accepted payload along the signals and destinations of its Rx frame, from a place of the plan on. Neither the number in an
-- acceptance nor the one in a claim bears on what is done, so 0 stands for both here.
use Rattle.std.specs.Prelude.{ℕ, List}
use Rattle.std.proofs.Math.Option.{none}
use Rattle.records.specs.Records.{records_at}
use Rattle.plan.specs.Rows.{claims_from}
use Rattle.area.specs.Claims.{accepted, all_done}

-- the copies from place k on, of the signal at p of size s until another is met
unfoldable pub walked : ℕ → List ℕ → ℕ → ℕ → List ℕ → ℕ → List ℕ → List ℕ
walked o source p s bytes k a = all_done o (accepted 0 source) (claims_from 0 none p s (records_at bytes k)) a
