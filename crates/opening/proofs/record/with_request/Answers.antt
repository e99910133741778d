-- `opening::record::with_request` meets its contract: by the node's type.
use Rattle.std.proofs.Common.{◌≡◌, ℕ, Bool, true, false, ltb, List, sym, refl, ◌∙◌}
use Rattle.base.specs.Pick.{pick}
use Rattle.base.proofs.Apart.{differ}
use Rattle.records.specs.declared.record.NodeType.TheVariants.{Can, Lin}
use Rattle.area.specs.Layout.{can_count, type_on}
use Rattle.opening.specs.Opened.{with_frame, with_request}
use Rattle.opening.proofs.record.with_request.Goals as goal

by_type : (t : Bool) (x y : List ℕ) → (pick t Can Lin ≡ Lin → pick t x y ≡ y) × (pick t Can Lin ≡ Can → pick t x y ≡ x)
unfolding pick
by_type true x y = (λ e. absurd (differ cc), λ e. refl)
by_type false x y = (λ e. refl, λ e. absurd (differ cc))

request_by_type : (n : ℕ) (a : List ℕ) → (type_on a n ≡ Lin → with_request n a ≡ with_frame n a) × (type_on a n ≡ Can → with_request n a ≡ a)
unfolding type_on with_request
request_by_type n a = by_type (ltb n (can_count a)) a (with_frame n a)

pub returns-in-Lin : goal.returns-in-Lin
returns-in-Lin c =
    let type = sym c.node_type.ensures ∙ c.in-Lin.is in
    c.with_frame.ensures ∙ sym ((request_by_type _ _).0 type)

pub returns-in_default : goal.returns-in_default
returns-in_default c = sym ((request_by_type _ _).1 (sym c.node_type.ensures ∙ c.in_default.is))
