-- `output_at` is the output of the filter of gain 1: the word at the place, less all its feedback.
use mathlib.Core.Path.{◌∙◌}
use native.Mathlib.Omega.{arith}
use Rattle.filter.proofs.Turns.{taps_all}
use Rattle.filter.proofs.output.Taps.output_at.Goals as goal

pub returns : goal.returns
returns c =
    let a = c.args in
    c.less_feedback.ensures
    ∙ taps_all a.self.coefficients.now a.self.order a.lines.forth a.lines.back a.buffer.now a.place
    (omega (arith, c.type_inv.buffer a.place))
