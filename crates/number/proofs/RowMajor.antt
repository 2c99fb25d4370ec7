-- Rows of w words one after another: place row × w + column, and the row and the column of a place.
-- Assumes nothing.
use mathlib.Core.Path.{◌≡◌, ap, sym, ◌∙◌}
use Prim.Native.Nat.{ℕ, zero, suc, ◌+◌, ◌*◌, ◌/◌, ◌%◌, ◌≤◌, ◌<◌}
use native.Mathlib.Nat.{
  mul-le-mul_right,
  mul-add-mod_self_right,
  mul-add-div_right,
  mod-eq_of_lt,
  div-eq_of_lt,
  div-lt_iff_lt-mul,
  mod-lt,
}
use native.Mathlib.Omega.{arith}

pub row_of : (w row column : ℕ) → column < w → (row * w + column) / w ≡ row
row_of w row column h =
    mul-add-div_right (omega arith) row column ∙ ap (row +◌) (div-eq_of_lt h) ∙ omega arith

pub column_of : (w row column : ℕ) → column < w → (row * w + column) % w ≡ column
column_of w row column h = mul-add-mod_self_right row w column ∙ mod-eq_of_lt h

-- h rows have h × w places.
pub place_below : (h w row column : ℕ) → row < h → column < w → row * w + column < h * w
place_below h w row column a b = let e : suc row * w ≤ h * w = mul-le-mul_right w a in omega arith

-- One place has one row and one column.
pub same_row_column : (w row column r c : ℕ) → column < w → c < w → row * w + column ≡ r * w + c
    → (row ≡ r) × (column ≡ c)
same_row_column w row column r c h g e = (
  sym (row_of w row column h) ∙ ap (◌/ w) e ∙ row_of w r c g,
  sym (column_of w row column h) ∙ ap (◌% w) e ∙ column_of w r c g,
)

-- Where there is a place there is a column.
pub width_positive : (h w q : ℕ) → q < h * w → 0 < w
width_positive h zero q a = absurd (omega arith)
width_positive h (suc w) q a = omega arith

pub row_below : (h w q : ℕ) → q < h * w → q / w < h
row_below h w q a = (div-lt_iff_lt-mul (width_positive h w q a)).1 a

pub column_below : (h w q : ℕ) → q < h * w → q % w < w
column_below h w q a = mod-lt q (width_positive h w q a)
