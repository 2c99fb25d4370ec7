-- `less_feedback`: after each tap the sum is the word less the feedback up to there.
use mathlib.Core.Path.{◌≡◌}
use Prim.Native.Nat.{min}
use Rattle.filter.specs.Kernel.{feedback_from}
use Rattle.filter.proofs.output.Taps.less_feedback.Given as goal

abbrev pub invariant-loop-tap : goal.invariant-loop-tap
invariant-loop-tap l =
    l.sum
    ≡ feedback_from l.taken l.self.coefficients.now (min l.self.order l.tap) l.word l.lines.forth l.lines.back l.buffer l.place
