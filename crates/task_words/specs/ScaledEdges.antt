-- Inner: where all passes of a task run with gain 1 from some pass on, what stands past a block's edges takes the gains of
-- the passes after its own.
use Rattle.std.specs.Prelude.{List, ℕ}
use Rattle.word.specs.Word.{◌⊗◌}
use Rattle.plan.specs.declared.Plan.{Plan}
use Rattle.filter.specs.FilterWords.{gains_after}
use Rattle.task_words.specs.Strips.{past_edges}

-- The words past the edges of block k, each times the gains of the passes after its own, up to the last.
unfoldable pub scaled_edges : Plan → List ℕ → (k last pass line distance : ℕ) → ℕ
scaled_edges plan strips k last pass line distance = gains_after plan pass last ⊗ past_edges plan strips k pass line distance
