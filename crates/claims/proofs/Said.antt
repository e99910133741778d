-- Of a good plan all is said.
use mathlib.Core.List.{List}
use Prim.Native.Nat.{ℕ}
use Rattle.records.specs.Records.{records}
use Rattle.plan.specs.Rows.{rows_of, claims_of, tx_of, types_in}
use Rattle.facts.specs.Good.{GoodPlan}
use Rattle.facts.proofs.GoodFacts.{good_facts}
use Rattle.claims.specs.Claims.{Lawful}
use Rattle.claims.specs.Statements.{Said, GoodSaid}
use Rattle.claims.proofs.Numbered.{types_by_splits, one_types, frames_by_splits, one_frames, nodes_counted, head_order}
use Rattle.claims.proofs.Claims.{claims_by_splits}
use Rattle.claims.proofs.Rows.{one_rows}
use Rattle.claims.proofs.Lawful.{lawful, head_first}
use Rattle.claims.proofs.Owners.{owners_by_splits}

said : (plan : List ℕ) → GoodPlan plan → Lawful (records plan) → Said plan
unfolding tx_of rows_of claims_of
said plan g law =
    let rs = records plan in
    let types = types_by_splits rs law.whole in
    let frames = frames_by_splits rs law.whole in
    let rows = claims_by_splits rs law.whole in
    let (order, rest, e) = head_first rs g.nonempty g.place in
    record {
      lawful = law;
      types = record { has = types; one = λ xs h. one_types rs law.whole xs (types_in rs) h types };
      frames = record { has = frames; one = λ xs h. one_frames rs law.whole xs (tx_of plan) h frames };
      rows = record { has = rows; one = λ xs h. one_rows rs law xs (rows_of plan) h rows };
      nodes = nodes_counted rs law.whole;
      order = (order, rest, e, head_order rs rest order e);
      owners = owners_by_splits rs law;
    }

pub good_said : GoodSaid
good_said plan n t r e = let g = (good_facts plan n t r e).0 in said plan g (lawful (records plan) g.place g.followed)
