-- `less_feedback` is the word less the feedback: after each tap the sum is the word less the feedback up to there.
use mathlib.Core.Path.{◌≡◌}
use Prim.Native.Nat.{min}
use native.Mathlib.Omega.{arith}
use Rattle.filter.proofs.Turns.{taps_none, tap_taken, tap_left}
use Rattle.filter.proofs.output.Taps.less_feedback.Goals as goal
use Rattle.filter.proofs.output.Taps.less_feedback.Goals.{then-distance-self, else-distance-self}

pub loop-tap-init : goal.loop-tap-init
loop-tap-init c = taps_none _ _ _ _ _ _ _ _

pub loop-tap-preserved : goal.loop-tap-preserved
loop-tap-preserved c =
    elim c.if-distance-self.branch [
      | then-distance-self w ↦
          rw w.sum-is
          (tap_taken _ _ _ _ _ _ _ _ c.loop-tap.tap _ _ _ (omega arith) (omega arith) c.loop-tap.invariant w.mul.ensures
          w.sub-sum.ensures)
      | else-distance-self w ↦
          rw w.sum-is (tap_left _ _ _ _ _ _ _ _ c.loop-tap.tap _ (omega arith) c.loop-tap.invariant)
    ]

pub returns : goal.returns
returns c =
    let z : min c.args.self.order c.loop-tap.tap ≡ c.args.self.order = omega (arith, c.args.self.few) in
    rw z at c.loop-tap.invariant
