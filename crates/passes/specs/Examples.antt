-- A few examples that hold the definitions of this crate, as one list of what they compute and what document 01's words
-- give, worked by hand. The starred examples of document 01 stand in worked_examples.
use Rattle.std.specs.Prelude.{List, [], ◌∷◌, map, ℕ, zero, suc, ◌*◌, length, ℤ, pos, neg_ℤ}
use Rattle.word.specs.Word.{residue}
use Rattle.passes.specs.Filter.{Filter, filter_of_numbers}
use Rattle.passes.specs.Passes.{serial_passes}
use Rattle.buffer.specs.Lists.{list_of, by_place}
use Rattle.buffer.specs.Pixel.{height_map}
use Rattle.passes.specs.Table.{running_sum, unchanged, summed_area_table, rectangle_sum}

-- What the definitions compute, and what they should.
pub record Example (A : Type 0) : Type 0 where
  pub computed : A
  pub expected : A

-- The filter with a gain and the coefficients d1 to dr, given as signed numbers.
unfoldable pub filter_of : ℤ → List ℤ → Filter
filter_of gain coefficients = filter_of_numbers gain (length coefficients) coefficients

-- The filters of the four passes.
unfoldable pub passes_of : (down up right left : Filter) → ℕ → Filter
passes_of down up right left zero = down
passes_of down up right left (suc zero) = up
passes_of down up right left (suc (suc zero)) = right
passes_of down up right left (suc (suc (suc t))) = left

-- A map of h rows and w columns after the first t passes.
unfoldable pub passes_example : (ℕ → Filter) → (h w : ℕ) → List ℤ → (t : ℕ) → List ℤ → Example (List ℕ)
passes_example filters h w heights t words =
    record {
      computed = list_of (by_place w (serial_passes filters h w (height_map w heights) t)) (h * w);
      expected = map residue words;
    }

-- A rectangle of the summed-area table of a map.
unfoldable pub rectangle_example : (h w : ℕ) → List ℤ → (top left bottom right : ℕ) → ℕ → Example (List ℕ)
rectangle_example h w heights top left bottom right sum =
    record {
      computed = rectangle_sum (serial_passes summed_area_table h w (height_map w heights) 4) top left bottom right ∷ [];
      expected = sum ∷ [];
    }

-- -n.
abbrev pub minus : ℕ → ℤ
minus n = neg_ℤ (pos n)

-- Gain 1, d1 = 1, d2 = 2.
abbrev forth : Filter
forth = filter_of (pos 1) (pos 1 ∷ pos 2 ∷ [])

-- Gain 2, d1 = -1, d2 = 3.
abbrev back : Filter
back = filter_of (pos 2) (minus 1 ∷ pos 3 ∷ [])

-- 1, 0, 2, 1
abbrev column : List ℤ
column = pos 1 ∷ pos 0 ∷ pos 2 ∷ pos 1 ∷ []

-- 1 0 2 1 / 0 1 1 3
abbrev two_rows : List ℤ
two_rows = pos 1 ∷ pos 0 ∷ pos 2 ∷ pos 1 ∷ pos 0 ∷ pos 1 ∷ pos 1 ∷ pos 3 ∷ []

-- 1 2 3 / 4 5 6
abbrev one_to_six : List ℤ
one_to_six = pos 1 ∷ pos 2 ∷ pos 3 ∷ pos 4 ∷ pos 5 ∷ pos 6 ∷ []

-- The column after down and after up; the rows after right and after left; document 01's row 1, 0, 0; its rectangle
-- (0,1,2,3), and (1,1,2,3), whose corners all count.
unfoldable pub passes_examples : List (Example (List ℕ))
passes_examples =
    passes_example (passes_of forth back unchanged unchanged) 4 1 column 1 (pos 1 ∷ minus 1 ∷ pos 1 ∷ pos 2 ∷ [])
    ∷ passes_example (passes_of forth back unchanged unchanged) 4 1 column 2 (minus 24 ∷ minus 8 ∷ pos 6 ∷ pos 4 ∷ [])
    ∷ passes_example (passes_of unchanged unchanged forth back) 2 4 two_rows 3
    (pos 1 ∷ minus 1 ∷ pos 1 ∷ pos 2 ∷ pos 0 ∷ pos 1 ∷ pos 0 ∷ pos 1 ∷ [])
    ∷ passes_example (passes_of unchanged unchanged forth back) 2 4 two_rows 4
    (minus 24 ∷ minus 8 ∷ pos 6 ∷ pos 4 ∷ minus 8 ∷ minus 2 ∷ pos 2 ∷ pos 2 ∷ [])
    ∷ passes_example (passes_of unchanged unchanged running_sum running_sum) 1 3 (pos 1 ∷ pos 0 ∷ pos 0 ∷ []) 4
    (pos 3 ∷ pos 2 ∷ pos 1 ∷ [])
    ∷ rectangle_example 2 3 one_to_six 0 1 2 3 16
    ∷ rectangle_example 2 3 one_to_six 1 1 2 3 11
    ∷ []
