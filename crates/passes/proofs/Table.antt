-- The summed-area table: a pixel of it is the sum of those above and left of it, and the rectangle sum over it is the
-- sum of the map's words in the rectangle, for heights the residue of their sum.
-- Assumes nothing.
use mathlib.Core.Path.{◌≡◌, refl, ap, ap₂, sym, ◌∙◌, fun_ext}
use Prim.Native.Nat.{ℕ, zero, suc, ◌+◌, ◌-◌, ◌%◌, ◌≤◌, ◌<◌, ◌^◌}
use native.Mathlib.Nat.{add-suc, add-zero, zero-mod}
use native.Mathlib.Omega.{arith}
use lib.IntN.{ℤ}
use Rattle.word.specs.Word.{modulus, minus_one, ◌⊕◌, ◌⊖◌, ◌⊗◌, residue}
use Rattle.word.proofs.Ring.{feedback_adds, corners, corners_cancel, add_then_sub, add_reduced, add_sub, add_small, zero_add, zero_sub, zero_right, add_assoc}
use Rattle.passes.specs.Line.{history, output}
use Rattle.passes.specs.Filter.{less_feedback, filter_step}
use Rattle.axis.specs.Axis.{forward, backward}
use Rattle.passes.specs.Passes.{filter_line, filter_lines, passes_over, serial_passes}
use Rattle.passes.specs.Table.{running_sum, unchanged, summed_area_table, sum_of, sum_inside, corner_of, rectangle_sum, signed_sum_of, heights_inside}
use Rattle.passes.proofs.Passes.{filter_line_unchanged}
use Rattle.word.proofs.Residues.{residue_add, residue_zero}

-- ---- sums

sum_of_reduced : (n : ℕ) (f : ℕ → ℕ) → sum_of n f % modulus ≡ sum_of n f
unfolding sum_of
sum_of_reduced zero f = zero-mod modulus
sum_of_reduced (suc n) f = add_reduced _ _

sum_of_zero : (n : ℕ) → sum_of n (λ k. 0) ≡ 0
unfolding sum_of
sum_of_zero zero = refl
sum_of_zero (suc n) = ap (◌⊕ 0) (sum_of_zero n) ∙ zero_add

sum_of_split : (a n : ℕ) (f : ℕ → ℕ) → sum_of (a + n) f ≡ sum_of a f ⊕ sum_of n (λ k. f (a + k))
unfolding sum_of
sum_of_split a zero f = rw (add-zero, zero_right) (sym (sum_of_reduced a f))
sum_of_split a (suc n) f = rw (add-suc, sum_of_split a n f) (add_assoc _ _ _)

sum_of_minus : (n : ℕ) (f g : ℕ → ℕ) → sum_of n f ⊖ sum_of n g ≡ sum_of n (λ k. f k ⊖ g k)
unfolding sum_of
sum_of_minus zero f g = zero_sub
sum_of_minus (suc n) f g = sym (add_sub _ _ _ _) ∙ ap (◌⊕ (f n ⊖ g n)) (sum_of_minus n f g)

-- ---- the passes of the table

running_sum_history : (x : ℕ → ℕ) (i : ℕ) → history (filter_step running_sum) (λ k. 0) x i 0 ≡ sum_of i x
unfolding history sum_of filter_step less_feedback
running_sum_history x zero = refl
running_sum_history x (suc i) =
    ap (λ z. 1 ⊗ x i ⊖ minus_one ⊗ z) (running_sum_history x i) ∙ feedback_adds (sum_of i x) (x i)

running_sum_is : (n : ℕ) (x : ℕ → ℕ) (i : ℕ) → filter_line forward running_sum n (λ k. 0) x i ≡ sum_of (suc i) x
unfolding filter_line history output
running_sum_is n x i = running_sum_history x (suc i)

unchanged_is : (n : ℕ) (x : ℕ → ℕ) (i : ℕ) → i < n → filter_line backward unchanged n (λ k. 0) x i ≡ x i % modulus
unchanged_is n x i h = filter_line_unchanged backward unchanged n (λ k. 0) x i refl refl h

-- The sum of the map's words above row y and left of column x.
abbrev sum_above_left : (ℕ → ℕ → ℕ) → ℕ → ℕ → ℕ
sum_above_left X y x = sum_of x (λ k. sum_of y (λ j. X j k))

-- A pixel of the table is the sum of those above and left of it, its own row and column included.
pub table_pixel : (h w : ℕ) (X : ℕ → ℕ → ℕ) (y x : ℕ) → y < h → x < w
    → serial_passes summed_area_table h w X 4 y x ≡ sum_of (suc x) (λ k. sum_of (suc y) (λ j. X j k))
unfolding serial_passes passes_over filter_lines
table_pixel h w X y x a c =
    unchanged_is w _ x c
    ∙ ap (◌% modulus) (running_sum_is w _ x)
    ∙ sum_of_reduced (suc x) _
    ∙ ap (sum_of (suc x))
    (fun_ext (λ k.
    unchanged_is h _ y a ∙ ap (◌% modulus) (running_sum_is h (λ j. X j k) y) ∙ sum_of_reduced (suc y) _))

-- ---- the rectangle

-- A corner of a table that has the sums of the map is the sum above and left of it.
corner_is : (h w : ℕ) (S X : ℕ → ℕ → ℕ)
    → ((y x : ℕ) → y < h → x < w → S y x ≡ serial_passes summed_area_table h w X 4 y x)
    → (y x : ℕ) → y ≤ h → x ≤ w → corner_of S y x ≡ sum_above_left X y x
unfolding corner_of sum_of
corner_is h w S X e zero x a b = sym (sum_of_zero x)
corner_is h w S X e (suc y) zero a b = refl
corner_is h w S X e (suc y) (suc x) a b =
    e y x (omega arith) (omega arith) ∙ table_pixel h w X y x (omega arith) (omega arith)

corners_sum : (X : ℕ → ℕ → ℕ) (t l m n : ℕ)
    → sum_above_left X (t + m) (l + n) ⊖ sum_above_left X t (l + n) ⊖ sum_above_left X (t + m) l ⊕ sum_above_left X t l
    ≡ sum_of n (λ k. sum_of m (λ j. X (t + j) (l + k)))
corners_sum X t l m n =
    ap₂ (λ u v. u ⊖ v ⊖ sum_above_left X (t + m) l ⊕ sum_above_left X t l) (sum_of_split l n _) (sum_of_split l n _)
    ∙ corners _ _ _ _
    ∙ sum_of_minus n _ _
    ∙ ap (sum_of n)
    (fun_ext (λ k.
    ap (◌⊖ sum_of t (λ j. X j (l + k))) (sum_of_split t m _) ∙ add_then_sub _ _ ∙ sum_of_reduced m _))

-- On a summed-area table the rectangle sum is the sum of the map's words in the rectangle.
pub rectangle_true : (h w : ℕ) (S X : ℕ → ℕ → ℕ)
    → ((y x : ℕ) → y < h → x < w → S y x ≡ serial_passes summed_area_table h w X 4 y x)
    → (top left bottom right : ℕ) → top ≤ bottom → left ≤ right → bottom ≤ h → right ≤ w
    → rectangle_sum S top left bottom right ≡ sum_inside sum_of X top left bottom right
unfolding rectangle_sum
rectangle_true h w S X e t l b r p q u v =
    let y : b ≡ t + (b - t) = omega arith in
    let x : r ≡ l + (r - l) = omega arith in
    rw (
      corner_is h w S X e b r u v,
      corner_is h w S X e t r (omega arith) v,
      corner_is h w S X e b l u (omega arith),
      corner_is h w S X e t l (omega arith) (omega arith),
    )
    (ap₂ (λ y x. sum_above_left X y x ⊖ sum_above_left X t x ⊖ sum_above_left X y l ⊕ sum_above_left X t l) y x
    ∙ corners_sum X t l (b - t) (r - l))

-- On any table a rectangle without rows or without columns has the sum 0.
module _ (S : ℕ → ℕ → ℕ) where
  pub no_row_sum : (top left bottom right : ℕ) → top ≡ bottom → rectangle_sum S top left bottom right ≡ 0
  unfolding rectangle_sum
  no_row_sum t l b r e = rw e (corners_cancel (corner_of S b r) _ _ (corner_of S b l) refl)

  pub no_column_sum : (top left bottom right : ℕ) → left ≡ right → rectangle_sum S top left bottom right ≡ 0
  unfolding rectangle_sum
  no_column_sum t l b r e = rw e (corners_cancel (corner_of S b r) _ _ (corner_of S t r) (omega arith))

-- ---- heights

sum_of_residue : (n : ℕ) (z : ℕ → ℤ) → sum_of n (λ k. residue (z k)) ≡ residue (signed_sum_of n z)
unfolding sum_of signed_sum_of
sum_of_residue zero z = sym residue_zero
sum_of_residue (suc n) z = ap (◌⊕ residue (z n)) (sum_of_residue n z) ∙ sym (residue_add _ _)

-- On the summed-area table of the residues of heights the rectangle sum is the residue of the heights' sum.
pub rectangle_heights : (h w : ℕ) (S : ℕ → ℕ → ℕ) (heights : ℕ → ℕ → ℤ)
    → ((y x : ℕ) → y < h → x < w → S y x ≡ serial_passes summed_area_table h w (λ y x. residue (heights y x)) 4 y x)
    → (top left bottom right : ℕ) → top ≤ bottom → left ≤ right → bottom ≤ h → right ≤ w
    → rectangle_sum S top left bottom right ≡ residue (heights_inside heights top left bottom right)
unfolding heights_inside
rectangle_heights h w S heights e t l b r p q u v =
    rectangle_true h w S _ e t l b r p q u v
    ∙ ap (sum_of (r - l)) (fun_ext (λ k. sum_of_residue (b - t) (λ j. heights (t + j) (l + k))))
    ∙ sum_of_residue (r - l) _

pub rectangle_sum_small : (S : ℕ → ℕ → ℕ) (top left bottom right : ℕ) → rectangle_sum S top left bottom right < 2 ^ 64
unfolding rectangle_sum
rectangle_sum_small S t l b r = add_small _ _
