-- `next_output_at` is the output after one that is at hand: the nearest tap is taken first, and then the others.
use mathlib.Core.Path.{ap, ◌∙◌}
use native.Mathlib.Omega.{arith}
use Rattle.word.specs.Word.{◌⊖◌}
use Rattle.buffer.specs.Lists.{word_at}
use Rattle.filter.specs.Kernel.{feedback_from}
use Rattle.filter.proofs.Turns.{taps_later}
use Rattle.filter.proofs.output.Taps.next_output_at.Goals as goal

pub returns : goal.returns
returns c =
    let a = c.args in
    let taps = a.self in
    c.less_feedback.ensures
    ∙ ap
    (λ v. feedback_from 1 taps.coefficients.now taps.order v a.lines.forth a.lines.back a.buffer.now a.place)
    (c.sub-word.ensures ∙ ap (word_at a.buffer.now a.place ⊖◌) c.mul.ensures)
    ∙ taps_later taps.coefficients.now taps.order a.lines.forth a.lines.back a.buffer.now a.place a.nearest c.requires.0
    (omega (arith, c.type_inv.buffer a.place))
