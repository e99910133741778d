-- "Fullness of a Tx frame answers how many of its bits have an owner, 0 to 64", as statements about any gateway.
use Rattle.std.specs.Prelude.{List, ℕ, ◌≤◌, ◌<◌, length, Ok, Err}
use Rattle.plan.specs.Rows.{Claim, all_claims}
use Rattle.facts.specs.Good.{Holds}
use Rattle.answers.specs.declared.Refusal.TheVariants.{NoFrame}
use Rattle.model.specs.Plan.{Plan}
use Rattle.model.specs.State.{State}
use Rattle.model.specs.Calls.{fullness, full, Running}
use Rattle.model.specs.Words.{In, Those, Answers}

pub record Owned (p : Plan) (t b : ℕ) : Type 0 where
  pub below : b < 64
  pub claim : Claim
  pub there : In claim (all_claims p.rows)
  pub holds : Holds claim t b

pub record Counts (p : Plan) (g : Running) (s : State) (t : ℕ) : Type 0 where
  pub bits : List ℕ
  pub those : Those (Owned p t) bits
  pub answers : Answers g s (fullness t) (full (Ok (length bits)))

pub record FullnessRules (p : Plan) (g : Running) (s : State) (t : ℕ) : Type 0 where
  -- 15: "no such Tx frame"
  pub refused : length p.tx ≤ t → Answers g s (fullness t) (full (Err NoFrame))
  pub counts : t < length p.tx → Counts p g s t
