-- Bounds of what a kept record needs: each product is far below 2^64, and the task count takes off less than it has. Assumes nothing.
use mathlib.Core.Path.{◌≡◌}
use mathlib.Core.Bool.{true}
use Prim.Native.Nat.{ℕ, ◌*◌, ◌≤◌}
use native.Mathlib.Omega.{arith}
use native.Mathlib.Nat.{mul-le-mul, mul-le-mul_right, le-mul_of_pos_right}
use Rattle.plan.specs.declared.Plan.{Plan}
use Rattle.plan.specs.Rules.{order_limit, keeps_rules}
use Rattle.grid.specs.Grid.{block_rows_of, block_columns_of}
use Rattle.plan.specs.Sizes.{order_sum, needed_marks, half_words, slot_words}
use Rattle.plan.proofs.Record.{rules, order_sum_limited}
use Rattle.grid.proofs.Blocks.{ranges}

-- Of a plan, m rows and n columns of blocks, and a sum of orders.
pub record Bounds (plan : Plan) (m n orders : ℕ) : Type 0 where
  pub block_rows_low : 1 ≤ m
  pub block_rows_high : m ≤ 4096
  pub block_columns_low : 1 ≤ n
  pub block_columns_high : n ≤ 4096
  pub orders_high : orders ≤ order_limit * 4
  pub marks_high : m * n ≤ 16777216
  pub half_high : half_words plan ≤ 32 * (order_limit * 4)
  pub slot_high : slot_words plan ≤ 64 * (order_limit * 4)
  pub strips_high : m * n * slot_words plan ≤ 16777216 * (64 * (order_limit * 4))
  pub pixels_high : plan.grid.rows * plan.grid.columns ≤ 16777216
  pub block_rows_in_marks : m ≤ m * n
  pub block_columns_in_marks : n ≤ m * n

pub bounds : (plan : Plan) → keeps_rules plan ≡ true
    → Bounds plan (block_rows_of plan.grid) (block_columns_of plan.grid) (order_sum plan 4)
bounds plan kept =
    let known = ranges plan.grid (rules plan kept).grid_kept_law in
    let orders = order_sum_limited plan kept 4 (omega arith) in
    let half : half_words plan ≤ 32 * (order_limit * 4) = mul-le-mul known.side_high orders in
    let slot : slot_words plan ≤ 64 * (order_limit * 4) = omega arith in
    let once : 1 * block_columns_of plan.grid ≤ needed_marks plan = mul-le-mul_right (block_columns_of plan.grid) known.block_rows_low in
    record {
      block_rows_low = known.block_rows_low;
      block_rows_high = known.block_rows_high;
      block_columns_low = known.block_columns_low;
      block_columns_high = known.block_columns_high;
      orders_high = orders;
      marks_high = known.total_high;
      half_high = half;
      slot_high = slot;
      strips_high = mul-le-mul known.total_high slot;
      pixels_high = known.pixels_high;
      block_rows_in_marks = le-mul_of_pos_right (block_rows_of plan.grid) known.block_columns_low;
      block_columns_in_marks = omega arith;
    }
