-- `text::put_byte` meets its contract: it is one store.
use Rattle.text.proofs.TextLaws.{Put-one}
use Rattle.text.proofs.put_byte.Goals as goal

pub returns : goal.returns
returns c = Put-one _ _ _
