-- `bits::signal::put_signal` meets its contract: it puts in the order that the byte tells, and no definition tells that order from the byte.
use Rattle.bits.specs.Word.{fitting}
use Rattle.bits.proofs.OrderLaws.{copied_told, differs_told, ones_of_told, Bits-told}
use Rattle.bits.proofs.signal.put_signal.Goals as goal

pub put_signal_in-requires : goal.put_signal_in-requires
put_signal_in-requires c = (rw (c.from.ensures, ones_of_told c.args.order) c.requires.0, c.requires.1)

pub returns : goal.returns
returns c =
    let v = c.args in
    let put = rw c.from.ensures at c.put_signal_in.ensures in
    let n = fitting v.q v.signal.size in
    record {
      payload = λ source p has.
          rw (← copied_told v.order source p n v.kept.now v.q) (put.payload source p (Bits-told v.order v.signal.bits source p v.signal.size has));
      answer = λ source p has.
          rw (← differs_told v.order source p n v.kept.now v.q) (put.answer source p (Bits-told v.order v.signal.bits source p v.signal.size has));
    }
