-- The order of the bits in a payload. The definitions take it as a number, that of the plan's head: 0 is big; 1, and any number that no good plan
-- has, is little.
use Rattle.std.specs.Prelude.{ℕ, zero, suc}
use Rattle.bits.specs.declared.order.Order.{Order}
use Rattle.bits.specs.declared.order.Order.TheVariants.{Big, Little}

-- an order's number
abbrev pub order_number : Order → ℕ
order_number Big = 0
order_number Little = 1

-- the number of the order that a byte tells
unfoldable pub order_told : ℕ → ℕ
order_told zero = 0
order_told (suc byte) = 1
