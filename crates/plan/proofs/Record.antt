-- What the check of a plan record says, as facts with names. Assumes nothing.
use mathlib.Core.Path.{◌≡◌}
use mathlib.Core.Bool.{true, ◌&&◌}
use Prim.Native.Nat.{ℕ, zero, suc, ◌*◌, ◌<◌, ◌≤◌}
use native.Mathlib.Omega.{arith}
use lib.Dec.{leb}
use borrow.Author.Tests.{leb-true}
use Rattle.grid.specs.Grid.{grid_kept}
use Rattle.grid.specs.Shapes.{InGrid}
use Rattle.grid.proofs.Blocks.{ranges}
use Rattle.plan.specs.declared.Pass.{Pass}
use Rattle.plan.specs.declared.Plan.{Plan}
use Rattle.plan.specs.Rules.{order_limit, in_signed28, coefficient_at, coefficient_kept, coefficients_kept, pass_kept, pass_at, passes_kept, keeps_rules}
use Rattle.number.specs.Numbers.{total}
use Rattle.plan.specs.Sizes.{order_sum, needed_marks}
use Rattle.number.proofs.Tests.{and_left, and_right, all_at}

-- What the check of one pass says.
pub record PassRules (side : ℕ) (pass : Pass) : Type 0 where
  pub order_limited : pass.order ≤ order_limit
  pub order_in_side : pass.order ≤ side
  pub gain_kept : in_signed28 pass.gain ≡ true
  pub coefficient_kept_law : (j : ℕ) → j < order_limit → coefficient_kept pass.order j (coefficient_at pass j) ≡ true

pub pass_rules : (side : ℕ) (pass : Pass) → pass_kept side pass ≡ true → PassRules side pass
unfolding pass_kept coefficients_kept
pass_rules side pass e =
    let limited = leb pass.order order_limit in
    let in_side = leb pass.order side in
    let gain = in_signed28 pass.gain in
    let kept = coefficients_kept pass in
    let after_limit = and_right limited (in_side && (gain && kept)) e in
    let after_side = and_right in_side (gain && kept) after_limit in
    record {
      order_limited = leb-true pass.order order_limit (and_left limited (in_side && (gain && kept)) e);
      order_in_side = leb-true pass.order side (and_left in_side (gain && kept) after_limit);
      gain_kept = and_left gain kept after_side;
      coefficient_kept_law = λ j h. all_at _ order_limit j (and_right gain kept after_side) h;
    }

-- What the check of the record says.
pub record Rules (plan : Plan) : Type 0 where
  pub grid_kept_law : grid_kept plan.grid ≡ true
  pub rows_low : 1 ≤ plan.grid.rows
  pub rows_high : plan.grid.rows ≤ 4096
  pub columns_low : 1 ≤ plan.grid.columns
  pub columns_high : plan.grid.columns ≤ 4096
  pub side_low : 1 ≤ plan.grid.side
  pub side_high : plan.grid.side ≤ 32
  pub pass_kept_law : (i : ℕ) → i < 4 → PassRules plan.grid.side (pass_at plan i)

pub rules : (plan : Plan) → keeps_rules plan ≡ true → Rules plan
unfolding keeps_rules passes_kept
rules plan e =
    let sizes = and_left (grid_kept plan.grid) (passes_kept plan) e in
    let known = ranges plan.grid sizes in
    record {
      grid_kept_law = sizes;
      rows_low = known.rows_low;
      rows_high = known.rows_high;
      columns_low = known.columns_low;
      columns_high = known.columns_high;
      side_low = known.side_low;
      side_high = known.side_high;
      pass_kept_law =
          λ i h. pass_rules plan.grid.side (pass_at plan i) (all_at _ 4 i (and_right (grid_kept plan.grid) (passes_kept plan) e) h);
    }

module _ (plan : Plan) (kept : keeps_rules plan ≡ true) where
  -- A block of the plan's map.
  pub in_grid : (k : ℕ) → k < needed_marks plan → InGrid plan.grid k
  in_grid k h = record { kept = (rules plan kept).grid_kept_law; inside = h }

  pub order_limited_at : (i : ℕ) → i < 4 → (pass_at plan i).order ≤ order_limit
  order_limited_at i h = ((rules plan kept).pass_kept_law i h).order_limited

  pub order_sum_limited : (count : ℕ) → count ≤ 4 → order_sum plan count ≤ order_limit * count
  unfolding total
  order_sum_limited zero h = omega arith
  order_sum_limited (suc count) h = omega (arith, order_sum_limited count (omega arith), order_limited_at count (omega arith))
