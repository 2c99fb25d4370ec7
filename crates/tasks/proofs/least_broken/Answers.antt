-- After the passes that the task needs, all marks looked at were looked at.
use mathlib.Core.Path.{◌∙◌, ◌≡◌}
use Prim.Native.Nat.{min}
use native.Mathlib.Omega.{arith}
use Rattle.tasks.proofs.Verdicts.{around_is}
use Rattle.tasks.proofs.least_broken.Goals as goal

pub returns : goal.returns
returns c =
    let end : c.loop-pass.pass ≡ min c.args.task 4 = omega arith in
    rw end at c.loop-pass.invariant ∙ around_is _ _ _ c.requires.0.inside _ c.requires.1
