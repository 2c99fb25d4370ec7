-- What is true of the whole map: document 01, 'the words of demand 3'; and when two maps have the same pixels in a block.
use Rattle.std.specs.Prelude.{◌≡◌, ℕ, suc, ◌<◌}
use Rattle.plan.specs.declared.Plan.{Plan}
use Rattle.filter.specs.PlanFilters.{serial_result}
use Rattle.grid.specs.Grid.{rows_of, columns_of, part_of}
use Rattle.task_words.specs.Strips.{edge_word}

-- The matching strip of the link of a pass: at each place inside block k the word that the result of that pass has at
-- that pixel, 0 at all other places.
unfoldable pub matching_word : Plan → (ℕ → ℕ → ℕ) → ℕ → ℕ → ℕ → ℕ → ℕ
matching_word plan X k pass line place =
    edge_word plan k pass (part_of plan.grid k (serial_result plan X (suc pass))) line place

-- Two maps have the same pixels in block k.
abbrev pub SameBlock : Plan → ℕ → (X Y : ℕ → ℕ → ℕ) → Type 0
SameBlock plan k X Y =
    (y x : ℕ) → y < rows_of plan.grid k → x < columns_of plan.grid k
    → part_of plan.grid k X y x ≡ part_of plan.grid k Y y x
