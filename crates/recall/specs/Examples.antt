-- A recall of block 6 of four by four blocks, worked by hand.
use Rattle.std.specs.Prelude.{◌≡◌, Bool, cond, List, [], ◌∷◌, ◌++◌, map, ℕ, zero, suc}
use Rattle.number.specs.KindWords.{word_of}
use Rattle.grid.specs.declared.Grid.{Grid}
use Rattle.grid.specs.Grid.{block_total}
use Rattle.tasks.specs.Marks.{mark_kind}
use Rattle.recall.specs.Recall.{clears}
use Rattle.recall.specs.RecallCall.{marks_recalled}

-- Blocks 0 1 2 3 / 4 5 6 7 / 8 9 10 11 / 12 13 14 15.
abbrev four_by_four : Grid
four_by_four = record { rows = 4; columns = 4; side = 1 }

-- The numbers below n of which a test holds.
unfoldable pub numbers_where : (ℕ → Bool) → (n : ℕ) → List ℕ
numbers_where test zero = []
numbers_where test (suc n) = numbers_where test n ++ cond (test n) (n ∷ []) []

-- The blocks at which the recall clears a task.
abbrev cleared_at : ℕ → List ℕ
cleared_at t = numbers_where (clears four_by_four 6 t) (block_total four_by_four)

-- Its own collect; its down link and that of the block below, as the last row has none; the up links of its column, where the
-- top row has none; the right links of its column, as the last column has none; all left links; all finishes.
abbrev pub ClearedByHand : Type 0
ClearedByHand =
    cleared_at 0 ∷ cleared_at 1 ∷ cleared_at 2 ∷ cleared_at 3 ∷ cleared_at 4 ∷ cleared_at 5 ∷ []
    ≡ (6 ∷ [])
    ∷ (6 ∷ 10 ∷ [])
    ∷ (6 ∷ 10 ∷ 14 ∷ [])
    ∷ (2 ∷ 6 ∷ 10 ∷ 14 ∷ [])
    ∷ (1 ∷ 2 ∷ 3 ∷ 5 ∷ 6 ∷ 7 ∷ 9 ∷ 10 ∷ 11 ∷ 13 ∷ 14 ∷ 15 ∷ [])
    ∷ (0 ∷ 1 ∷ 2 ∷ 3 ∷ 4 ∷ 5 ∷ 6 ∷ 7 ∷ 8 ∷ 9 ∷ 10 ∷ 11 ∷ 12 ∷ 13 ∷ 14 ∷ 15 ∷ [])
    ∷ []

-- Marks by their task bits, and a word past the needed marks.
abbrev with_bits : List ℕ → List ℕ
with_bits bits = map (word_of mark_kind) bits ++ (7 ∷ [])

-- With all tasks done, the marks before the recall, row by row, and after it.
abbrev pub MarksByHand : Type 0
MarksByHand =
    marks_recalled four_by_four 6
    (with_bits
    ((0b101011 ∷ 0b111011 ∷ 0b111011 ∷ 0b110011 ∷ [])
    ++ ((0b101111 ∷ 0b111111 ∷ 0b111111 ∷ 0b110111 ∷ [])
    ++ ((0b101111 ∷ 0b111111 ∷ 0b111111 ∷ 0b110111 ∷ []) ++ (0b101101 ∷ 0b111101 ∷ 0b111101 ∷ 0b110101 ∷ [])))))
    ≡ with_bits
    ((0b001011 ∷ 0b001011 ∷ 0b000011 ∷ 0b000011 ∷ [])
    ++ ((0b001111 ∷ 0b001111 ∷ 0b000000 ∷ 0b000111 ∷ [])
    ++ ((0b001111 ∷ 0b001111 ∷ 0b000001 ∷ 0b000111 ∷ []) ++ (0b001101 ∷ 0b001101 ∷ 0b000001 ∷ 0b000101 ∷ []))))
