-- Inner: what the functions of collect and finish ask of their callers. A buffer stands for its length where only that
-- counts.
use Rattle.std.specs.Prelude.{List, ◌≡◌, true, ℕ, ◌<◌, ◌≤◌, length}
use Rattle.plan.specs.declared.Plan.{Plan}
use Rattle.plan.specs.Rules.{order_limit, keeps_rules}
use Rattle.plan.specs.Sizes.{needed_marks, needed_strips, needed_pixels}
use Rattle.grid.specs.declared.BlockShape.{BlockShape}
use Rattle.grid.specs.Shapes.{shape_of}
use Rattle.collect_finish.specs.Work.{work_words, MarginClear}

-- ---- a block of a plan

-- The plan keeps its rules, and the block is in its map.
pub record BlockOf (plan : Plan) (k : ℕ) : Type 0 where
  pub kept : keeps_rules plan ≡ true
  pub counted : k < needed_marks plan

-- The same with the shape that the code has of the block.
pub record ShapedBlock (plan : Plan) (k : ℕ) (shape : BlockShape) : Type 0 where
  pub block : BlockOf plan k
  pub shaped : shape ≡ shape_of plan.grid k

-- ---- the two tasks

pub record CollectFits (plan : Plan) (k map strips : ℕ) : Type 0 where
  pub block : BlockOf plan k
  pub map_long : needed_pixels plan ≤ map
  pub strips_long : needed_strips plan ≤ strips

pub record FinishFits (plan : Plan) (k map strips output : ℕ) : Type 0 where
  pub block : BlockOf plan k
  pub map_long : needed_pixels plan ≤ map
  pub strips_long : needed_strips plan ≤ strips
  pub output_long : needed_pixels plan ≤ output

-- ---- their pieces: of a block that stands in its plan

-- A pass of an order over a block in a work array of n words.
pub record PassFits (order n : ℕ) : Type 0 where
  pub limited : order ≤ order_limit
  pub sized : n ≡ work_words

-- The first passes of finish over a block in an array whose margins are 0.
pub record ReadyToFinish (plan : Plan) (shape : BlockShape) (count strips : ℕ) (work : List ℕ) : Type 0 where
  pub counted : count ≤ 4
  pub strips_long : needed_strips plan ≤ strips
  pub sized : length work ≡ work_words
  pub clear : (pass : ℕ) → pass < 4 → MarginClear plan shape pass work

-- A strip of a pass that goes from the list of strips to the work array, or back.
pub record StripMoves (plan : Plan) (pass strips work : ℕ) : Type 0 where
  pub pass_below : pass < 4
  pub strips_long : needed_strips plan ≤ strips
  pub sized : work ≡ work_words

-- A strip that goes into a margin, which is 0 so far.
pub record MarginFits (plan : Plan) (shape : BlockShape) (pass strips : ℕ) (work : List ℕ) : Type 0 where
  pub moves : StripMoves plan pass strips (length work)
  pub clear : MarginClear plan shape pass work
