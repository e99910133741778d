-- Demand 3.
use Rattle.history.proofs.Demand3.{plan_stays, every_bit_fresh, calls_alter_theirs}
use Rattle.demands.specs.Demand3.{Demand3}

pub demand_3 : Demand3
demand_3 = record { fresh = every_bit_fresh; theirs = calls_alter_theirs; plan = plan_stays }
