-- Adding and subtracting maps: document 02, CR 10.
use Rattle.std.specs.Prelude.{◌≡◌, ℕ}
use Rattle.word.specs.Word.{◌⊕◌, ◌⊖◌}
use Rattle.passes.specs.Filter.{Filter}
use Rattle.passes.specs.Passes.{serial_passes}

-- The wordwise sum of two maps, modulo 2^64,
abbrev pub map_sum : (X Y : ℕ → ℕ → ℕ) → ℕ → ℕ → ℕ
map_sum X Y row column = X row column ⊕ Y row column

-- and their wordwise difference: the first less the second.
abbrev pub map_difference : (X Y : ℕ → ℕ → ℕ) → ℕ → ℕ → ℕ
map_difference X Y row column = X row column ⊖ Y row column

-- Filtering the sum of two maps gives the sum of their outputs, after each pass and at every pixel, whatever the filters
-- and the map's size;
pub record AddsMaps : Type 0 where
  pub sums : (filters : ℕ → Filter) (h w : ℕ) (X Y : ℕ → ℕ → ℕ) (t row column : ℕ)
      → serial_passes filters h w (map_sum X Y) t row column
      ≡ serial_passes filters h w X t row column ⊕ serial_passes filters h w Y t row column
  -- and filtering their difference gives the difference of their outputs.
  pub differences : (filters : ℕ → Filter) (h w : ℕ) (X Y : ℕ → ℕ → ℕ) (t row column : ℕ)
      → serial_passes filters h w (map_difference X Y) t row column
      ≡ serial_passes filters h w X t row column ⊖ serial_passes filters h w Y t row column
