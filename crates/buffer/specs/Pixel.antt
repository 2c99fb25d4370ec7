-- The reading of one pixel, and of a map: document 01, 'The four passes'; document 02, CR 7.
use Rattle.std.specs.Prelude.{◌≡◌, Bool, true, false, cond, List, map, ℕ, ℤ, pos, neg_ℤ}
use Rattle.number.specs.Numbers.{row_major}
use Rattle.number.specs.SignedBits.{eq_z}
use Rattle.word.specs.Word.{residue}
use Rattle.buffer.specs.Lists.{number_at}

-- The test for a dropout, what the laser's head writes for a height where the beam gets no return.
unfoldable pub is_dropout : ℤ → Bool
is_dropout height = eq_z height (neg_ℤ (pos 2147483648))

-- The reading of one pixel: 0 for a dropout, the height otherwise.
unfoldable pub reading : ℤ → ℤ
reading height = cond (is_dropout height) (pos 0) height

-- It enters the passes as its residue modulo 2^64.
unfoldable pub pixel : ℤ → ℕ
pixel height = residue (reading height)

-- The height at a row and a column of a map whose heights stand in a list, row after row, `width` in a row,
abbrev pub height_at : (width : ℕ) → List ℤ → (row column : ℕ) → ℤ
height_at width heights row column = number_at heights (row_major width row column)

-- its reading: so the map with dropouts replaced by 0,
abbrev pub reading_at : (width : ℕ) → List ℤ → (row column : ℕ) → ℤ
reading_at width heights row column = reading (height_at width heights row column)

-- and the map of the pixels.
unfoldable pub height_map : (width : ℕ) → List ℤ → (row column : ℕ) → ℕ
height_map width heights row column = pixel (height_at width heights row column)

-- So -2147483648 is a dropout, read as 0; no other height is one, and each is read as it is;
pub record DropoutsReplaced : Type 0 where
  pub dropout_told : is_dropout (neg_ℤ (pos 2147483648)) ≡ true
  pub dropout_read : reading (neg_ℤ (pos 2147483648)) ≡ pos 0
  pub others_told : (height : ℤ) → (height ≡ neg_ℤ (pos 2147483648) → ⊥) → is_dropout height ≡ false
  pub others_kept : (height : ℤ) → (height ≡ neg_ℤ (pos 2147483648) → ⊥) → reading height ≡ height
  -- and the map of the pixels is the same where dropouts are replaced by 0 beforehand.
  pub same_replaced : (width : ℕ) (heights : List ℤ) → height_map width (map reading heights) ≡ height_map width heights
