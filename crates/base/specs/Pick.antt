-- The choice by a test, which every definition with a case in it uses.
use Rattle.std.specs.Prelude.{Bool, true, false}

-- the first where the test holds, else the second
unfoldable pub pick {ℓ} : {A : Type ℓ} → Bool → A → A → A
pick true a b = a
pick false a b = b
