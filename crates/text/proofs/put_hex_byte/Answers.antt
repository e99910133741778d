-- `text::put_hex_byte` meets its contract: it puts one digit and then the other.
use mathlib.Core.Path.{◌≡◌}
use mathlib.Core.List.{[], ◌∷◌}
use Rattle.text.specs.Text.{hex_byte}
use Rattle.text.proofs.TextLaws.{Put-then}
use Rattle.text.proofs.put_hex_byte.Goals as goal

pub returns : goal.returns
unfolding hex_byte
returns c =
    let text : c.digit-high.result ∷ c.digit-low.result ∷ [] ≡ hex_byte c.args.b = cc in
    rw text at (Put-then c.put_byte-middle.ensures c.put_byte.ensures)
