-- Where a strip starts is small. Assumes nothing.
use mathlib.Core.Path.{◌≡◌}
use mathlib.Core.Bool.{true}
use Prim.Native.Nat.{ℕ, ◌*◌, ◌<◌, ◌^◌}
use native.Mathlib.Omega.{arith}
use Rattle.plan.specs.declared.Plan.{Plan}
use Rattle.plan.specs.Rules.{keeps_rules}
use Rattle.plan.specs.Sizes.{order_sum, needed_marks, slot_words}
use Rattle.plan.proofs.Needed.{bounds}
use Rattle.task_words.specs.declared.Half.{Half}
use Rattle.task_words.specs.Strips.{slot_start, half_start, strip_start}
use Rattle.task_words.proofs.Strips.{strip_in_list}

-- What the arithmetic on the start of a strip wants.
pub record StartFits (plan : Plan) (half : Half) (k pass : ℕ) : Type 0 where
  pub slot_high : slot_words plan < 2 ^ 63
  pub slot_start_high : slot_start plan k < 2 ^ 63
  pub half_start_high : half_start plan half k < 2 ^ 63
  pub before_high : plan.grid.side * order_sum plan pass < 2 ^ 63
  pub start_high : strip_start plan half k pass < 2 ^ 63

pub start_fits : (plan : Plan) (half : Half) (k pass : ℕ) → keeps_rules plan ≡ true → k < needed_marks plan → pass < 4
    → StartFits plan half k pass
start_fits plan half k pass kept here h =
    let most = bounds plan kept in
    let strip = strip_in_list plan half k pass here h in
    record {
      slot_high = omega arith;
      slot_start_high = omega arith;
      half_start_high = omega arith;
      before_high = omega arith;
      start_high = omega arith;
    }
