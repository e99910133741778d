-- A list to which something was added at its end, or nothing.
use mathlib.Core.Path.{◌≡◌, sym, ◌∙◌}
use mathlib.Core.List.{List, [], ◌++◌, append-nil, append_assoc}

pub record Longer {A : Type 0} (old now : List A) : Type 0 where
  pub new : List A
  pub then : now ≡ old ++ new

module _ {A : Type 0} where
  pub Longer-same : {old now : List A} → now ≡ old → Longer old now
  Longer-same {old} e = record { new = []; then = e ∙ sym (append-nil old) }

  pub Longer-then : {x y z : List A} → Longer x y → Longer y z → Longer x z
  Longer-then g h = record { new = g.new ++ h.new; then = rw (h.then, g.then, append_assoc) }
