-- `plan_record::record_of_plan` meets its contract: four passes fill the record. Assumes nothing.
use native.Mathlib.Omega.{arith}
use mathlib.Core.Path.{◌≡◌}
use Rattle.plan_record.proofs.RecordWords.{front_all}
use Rattle.plan_record.proofs.record_of_plan.Goals as goal

pub returns : goal.returns
returns c =
    let l = c.loop-i in
    let e : l.i ≡ 4 = omega arith in
    front_all _ _ l.invariant.0 (rw e at l.invariant.1)
