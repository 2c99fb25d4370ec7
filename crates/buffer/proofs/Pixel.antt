-- What the reading of a pixel gives. Assumes nothing.
use mathlib.Core.Path.{◌≡◌, refl, sym, ap, ◌∙◌, fun_ext}
use mathlib.Core.Bool.{Bool, true, false}
use mathlib.Core.List.{List, map}
use Prim.Native.Nat.{ℕ}
use lib.IntN.{ℤ, pos, neg_ℤ}
use lib.ListN.{get_or, get_or-map}
use mir.ValLaws.{to_z-of_z}
use Rattle.number.specs.Numbers.{row_major}
use Rattle.number.proofs.SignedBits.{eq_z_true, eq_z_refl, eq_z_false}
use Rattle.word.specs.Word.{residue}
use Rattle.word.proofs.Residues.{residue_zero}
use Rattle.buffer.specs.Lists.{word_at, number_at, word_map}
use Rattle.buffer.specs.Pixel.{is_dropout, reading, pixel, height_map, DropoutsReplaced}

pub dropout_is : (height : ℤ) → is_dropout height ≡ true → height ≡ neg_ℤ (pos 2147483648)
unfolding is_dropout
dropout_is height e = eq_z_true height (neg_ℤ (pos 2147483648)) e

pub is_dropout_law : (height : ℤ) → height ≡ neg_ℤ (pos 2147483648) → is_dropout height ≡ true
unfolding is_dropout
is_dropout_law height e = rw e (eq_z_refl (neg_ℤ (pos 2147483648)))

pub reading_dropout : (height : ℤ) → is_dropout height ≡ true → reading height ≡ pos 0
unfolding reading
reading_dropout height e = rw e

pub reading_other : (height : ℤ) → is_dropout height ≡ false → reading height ≡ height
unfolding reading
reading_other height e = rw e

pub pixel_dropout : (height : ℤ) → is_dropout height ≡ true → pixel height ≡ 0
unfolding pixel
pixel_dropout height e = ap residue (reading_dropout height e) ∙ residue_zero

pub pixel_other : (height : ℤ) → is_dropout height ≡ false → pixel height ≡ residue height
unfolding pixel
pixel_other height e = ap residue (reading_other height e)

-- What `read_pixel` needs: the two, at the height itself and not at its bits.
pub ruleset pixels = (pixel_dropout, pixel_other, to_z-of_z)

not_dropout : (height : ℤ) → (height ≡ neg_ℤ (pos 2147483648) → ⊥) → is_dropout height ≡ false
unfolding is_dropout
not_dropout height other = eq_z_false height (neg_ℤ (pos 2147483648)) other

reading_zero : reading (pos 0) ≡ pos 0
unfolding is_dropout
reading_zero = reading_other (pos 0) refl

reading_again : (height : ℤ) → reading (reading height) ≡ reading height
reading_again height = by (is_dropout height) refl
  where
    by : (dropped : Bool) → is_dropout height ≡ dropped → reading (reading height) ≡ reading height
    by true e = rw (reading_dropout height e) reading_zero
    by false e = ap reading (reading_other height e)

replaced_at : (heights : List ℤ) (place : ℕ) → number_at (map reading heights) place ≡ reading (number_at heights place)
replaced_at heights place =
    ap (get_or (map reading heights) place) (sym reading_zero) ∙ get_or-map reading heights place (pos 0)

same_replaced : (width : ℕ) (heights : List ℤ) → height_map width (map reading heights) ≡ height_map width heights
unfolding height_map pixel
same_replaced width heights =
    fun_ext (λ row. fun_ext (λ column.
    ap residue (ap reading (replaced_at heights (row_major width row column)) ∙ reading_again _)))

pub dropouts_replaced : DropoutsReplaced
dropouts_replaced =
    record {
      dropout_told = is_dropout_law _ refl;
      dropout_read = reading_dropout _ (is_dropout_law _ refl);
      others_told = not_dropout;
      others_kept = λ height other. reading_other height (not_dropout height other);
      same_replaced = same_replaced;
    }

-- ---- the words of heights

pub pixels_at : (heights : List ℤ) (place : ℕ) → word_at (map pixel heights) place ≡ pixel (number_at heights place)
unfolding pixel
pixels_at heights place =
    ap (get_or (map pixel heights) place) (sym (ap residue reading_zero ∙ residue_zero)) ∙ get_or-map pixel heights place (pos 0)

-- The map of the pixels is that of their words.
pub pixels_map : (width : ℕ) (heights : List ℤ) → word_map width (map pixel heights) ≡ height_map width heights
unfolding height_map
pixels_map width heights = fun_ext (λ row. fun_ext (λ column. pixels_at heights (row_major width row column)))
