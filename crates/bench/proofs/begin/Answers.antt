-- `bench::begin` meets its contract: by the input's front.
use mathlib.Core.Path.{sym, ◌∙◌}
use native.Mathlib.Omega.{arith}
use Rattle.text.proofs.TextLaws.{put_shows}
use Rattle.output.proofs.OutputLaws.{first_bad, output_plan}
use Rattle.bench.proofs.begin.Goals as goal

pub opening-requires : goal.opening-requires
opening-requires c =
    let pre = c.requires in
    let inside = c.in-Some.ensures.inside in
    (omega (arith, inside.0), omega (arith, inside.0, inside.1), pre.0, pre.1)

pub returns-in-None : goal.returns-in-None
returns-in-None c =
    let args = c.args in record {
      text = first_bad args.input.now c.bad_line.new.line args.area.now c.bad_line.result
          (sym c.front_of.ensures.front ∙ c.in-None.is) (put_shows c.bad_line.ensures.0 (omega arith));
      next = (omega arith, omega arith, omega arith);
    }

pub returns-in-Some : goal.returns-in-Some
returns-in-Some c =
    let done = c.opening.ensures in
    record { text = done.text ∙ output_plan _ _ (sym c.front_of.ensures.front ∙ c.in-Some.is); next = done.next }
