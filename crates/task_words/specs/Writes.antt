-- What each task writes: document 01, the table of tasks and the text below it; document 02, CR 8. A map X is a function of
-- row and column.
use Rattle.std.specs.Prelude.{cond, List, ℕ, suc}
use Rattle.word.specs.Word.{◌⊕◌}
use Rattle.plan.specs.declared.Plan.{Plan}
use Rattle.passes.specs.Passes.{passes_over}
use Rattle.filter.specs.PlanFilters.{filters_of}
use Rattle.buffer.specs.Written.{rectangle_written}
use Rattle.grid.specs.Grid.{rows_of, columns_of, block_pixel_place, part_of, goes_on}
use Rattle.task_words.specs.declared.Half.TheVariants.{Lone, Linked}
use Rattle.task_words.specs.Strips.{edge_word, strip_word, past_edges, strip_written, half_written}

-- Block k after the first t passes, with H past its edges, on the words Z.
abbrev pub block_passes : Plan → ℕ → (H : ℕ → ℕ → ℕ → ℕ) → (Z : ℕ → ℕ → ℕ) → ℕ → ℕ → ℕ → ℕ
block_passes plan k H Z t = passes_over (filters_of plan) (rows_of plan.grid k) (columns_of plan.grid k) H Z t

-- ---- collect

-- The strip of a pass of the block filtered alone, zeros around it; 0 in a strip that no neighbour needs.
unfoldable pub alone_word : Plan → (ℕ → ℕ → ℕ) → ℕ → ℕ → ℕ → ℕ → ℕ
alone_word plan X k pass line place =
    cond (goes_on plan.grid k pass)
    (edge_word plan k pass (block_passes plan k (λ u l i. 0) (part_of plan.grid k X) (suc pass)) line place)
    0

-- The strips after collect of block k, which writes the lone half of its slot only.
unfoldable pub collected : Plan → (ℕ → ℕ → ℕ) → ℕ → List ℕ → List ℕ
collected plan X k strips = half_written plan Lone k (alone_word plan X k) 4 strips

-- ---- links

-- What the link of a pass writes: the lone strip in its own slot, plus what the passes give at that place for zero heights
-- with the strips of its needs past the block's edges. The passes up to this one enter, and the strips that they come
-- from are its needs.
unfoldable pub link_word : Plan → List ℕ → ℕ → ℕ → ℕ → ℕ → ℕ
link_word plan strips k pass line place =
    strip_word plan strips Lone k pass line place
    ⊕ edge_word plan k pass (block_passes plan k (past_edges plan strips k) (λ y x. 0) (suc pass)) line place

-- The strips after the link of a pass of block k, which writes that strip of the linked half.
unfoldable pub linked : Plan → ℕ → ℕ → List ℕ → List ℕ
linked plan k pass strips = strip_written plan Linked k pass (link_word plan strips k pass) strips

-- ---- finish

-- Pixel (y, x) of block k after the four passes over its own heights, the neighbours' linked strips past its edges.
unfoldable pub finish_word : Plan → (ℕ → ℕ → ℕ) → List ℕ → ℕ → ℕ → ℕ → ℕ
finish_word plan X strips k y x = block_passes plan k (past_edges plan strips k) (part_of plan.grid k X) 4 y x

-- A row-major list of h×w words after the pixels of block k have been replaced.
unfoldable pub block_written : Plan → ℕ → (ℕ → ℕ → ℕ) → List ℕ → List ℕ
block_written plan k words output =
    rectangle_written (block_pixel_place plan.grid k) words (columns_of plan.grid k) (rows_of plan.grid k) output

-- The output after finish of block k.
unfoldable pub finished : Plan → (ℕ → ℕ → ℕ) → List ℕ → ℕ → List ℕ → List ℕ
finished plan X strips k output =
    block_written plan k (finish_word plan X strips k) output
