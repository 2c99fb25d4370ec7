-- Marks: one word for each block, kind 7 in the top four bits and bit t set once task t is done. Bits 6 to 27, and the bit of
-- a task that the block does not have, are spare and zero.
use Rattle.std.specs.Prelude.{Bool, true, not, ◌&&◌, cond, List, ◌≡◌, ℕ, ◌+◌, ◌*◌, ◌/◌, ◌%◌, ◌^◌, ◌<◌, ltb, eqb, set}
use Rattle.number.specs.Numbers.{all_below, total, one}
use Rattle.number.specs.KindWords.{kind_of, payload_of, word_of}
use Rattle.buffer.specs.Lists.{word_at}
use Rattle.grid.specs.declared.Grid.{Grid}
use Rattle.grid.specs.Grid.{block_total, block_row, block_column}
use Rattle.tasks.specs.Tasks.{has_task}

-- The kind of a mark.
abbrev pub mark_kind : ℕ
mark_kind = 7

-- Bit t of a mark is set.
unfoldable pub has_bit : ℕ → ℕ → Bool
has_bit mark t = eqb (mark / 2 ^ t % 2) 1

-- Task t of block k is marked in a list of marks.
unfoldable pub is_marked : List ℕ → ℕ → ℕ → Bool
is_marked marks t k = has_bit (word_at marks k) t

-- Bit t of a mark of block (m, n) is clear, unless the block has task t.
unfoldable pub spare_clear : Grid → ℕ → ℕ → ℕ → ℕ → Bool
spare_clear grid m n mark t = cond (has_task grid t m n) true (not (has_bit mark t))

-- A mark of block k has the right kind and no spare bit: 7 in bits 28 to 31, none of bits 6 to 27, and of bits 0 to 5 only
-- those of the block's tasks.
unfoldable pub mark_valid : Grid → ℕ → ℕ → Bool
mark_valid grid k mark =
    eqb (kind_of mark) mark_kind
    && (ltb (payload_of mark) (2 ^ 6) && all_below (spare_clear grid (block_row grid k) (block_column grid k) mark) 6)

-- Mark k of a list has the right kind and no spare bit.
abbrev pub mark_valid_at : Grid → List ℕ → ℕ → Bool
mark_valid_at grid marks k = mark_valid grid k (word_at marks k)

-- The bit of task t in the mark of block k, as a number.
abbrev pub bit_at : (ℕ → ℕ → Bool) → ℕ → ℕ → ℕ
bit_at done k t = one (done t k) * 2 ^ t

-- The mark of block k that shows what is done.
unfoldable pub mark_of : (ℕ → ℕ → Bool) → ℕ → ℕ
mark_of done k = word_of mark_kind (total (bit_at done k) 6)

-- The needed marks of a list are those of what is done.
abbrev pub Shows : Grid → (ℕ → ℕ → Bool) → List ℕ → Type 0
Shows grid done marks = (k : ℕ) → k < block_total grid → word_at marks k ≡ mark_of done k

-- The marks after task t of block k, which was not marked: its bit is set.
unfoldable pub with_bit : List ℕ → ℕ → ℕ → List ℕ
with_bit marks t k = set marks k (word_at marks k + 2 ^ t)
