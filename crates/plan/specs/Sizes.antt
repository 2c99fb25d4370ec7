-- The needed lengths: what follows from a plan record. Document 01, 'Blocks, marks and strips'; document 02, CR 8.
use Rattle.std.specs.Prelude.{ℕ, ◌+◌, ◌-◌, ◌*◌}
use Rattle.number.specs.Numbers.{total}
use Rattle.grid.specs.Grid.{block_rows_of, block_columns_of, block_total}
use Rattle.plan.specs.declared.Plan.{Plan}
use Rattle.plan.specs.declared.Sizes.{Sizes}
use Rattle.plan.specs.Rules.{order_limit, pass_at}

-- The order of a pass.
abbrev pub order_of : Plan → ℕ → ℕ
order_of plan pass = (pass_at plan pass).order

-- The sum of the orders of the first `count` passes.
abbrev pub order_sum : Plan → ℕ → ℕ
order_sum plan count = total (order_of plan) count

-- The most that the orders of the four passes can sum up to.
abbrev pub order_sum_limit : ℕ
order_sum_limit = 4 * order_limit

-- The words that no plan is without, counted: size, block, pass and gain of four passes, and the end.
abbrev pub fixed_words : ℕ
fixed_words = 11

-- How many words a plan has: those, and one for each coefficient.
abbrev pub word_count : Plan → ℕ
word_count plan = fixed_words + order_sum plan 4

-- The most words that a plan can have: 43.
abbrev pub word_limit : ℕ
word_limit = fixed_words + order_sum_limit

-- M×N marks.
abbrev pub needed_marks : Plan → ℕ
needed_marks plan = block_total plan.grid

-- The words of half a slot, of the lone strips or of the linked ones: b×R, R the sum of the four orders.
abbrev pub half_words : Plan → ℕ
half_words plan = plan.grid.side * order_sum plan 4

-- The words of a slot, twice as many: document 02, CR 8.
abbrev pub slot_words : Plan → ℕ
slot_words plan = 2 * half_words plan

-- M×N slots: M×N×2×b×R words of strips.
abbrev pub needed_strips : Plan → ℕ
needed_strips plan = block_total plan.grid * slot_words plan

-- h×w words of map, output or table.
abbrev pub needed_pixels : Plan → ℕ
needed_pixels plan = plan.grid.rows * plan.grid.columns

-- 6MN - 2M - 2N tasks: the blocks at the map's four borders each have one link less there.
abbrev pub task_count : Plan → ℕ
task_count plan = 6 * block_total plan.grid - 2 * block_rows_of plan.grid - 2 * block_columns_of plan.grid

-- All the sizes of a plan in one record.
unfoldable pub sizes_of : Plan → Sizes
sizes_of plan =
    record {
      words = word_count plan;
      block_rows = block_rows_of plan.grid;
      block_columns = block_columns_of plan.grid;
      marks = needed_marks plan;
      strips = needed_strips plan;
      pixels = needed_pixels plan;
      tasks = task_count plan;
    }
