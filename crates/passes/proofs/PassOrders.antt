-- One pass over a whole map; and rows first: a pass along the rows and one along the columns may be exchanged, two along
-- one axis may not.
-- Assumes nothing.
use mathlib.Core.Path.{◌≡◌, refl, ap, sym, ◌∙◌}
use mathlib.Core.List.{[], ◌∷◌}
use Prim.Native.Nat.{ℕ, ◌<◌, ◌^◌}
use native.Mathlib.Omega.{arith}
use Rattle.word.specs.Word.{modulus, minus_one, ◌⊖◌, ◌⊗◌}
use Rattle.word.proofs.Ring.{one_mul, reduced_small}
use Rattle.axis.specs.Axis.{axis_of, direction_of}
use Rattle.passes.specs.Line.{history, output}
use Rattle.passes.specs.Filter.{Filter, less_feedback, filter_step}
use Rattle.passes.specs.Passes.{filter_line, filter_lines, passes_over, serial_passes}
use Rattle.passes.specs.PassOrders.{one_pass, passes_in_order, columns_first, rows_first, SameOutput, PairsExchange}
use Rattle.passes.specs.Table.{first_alone, running_sum}
use Rattle.passes.proofs.Passes.{filter_lines_reads, filter_lines_scales, filter_lines_small}
use Rattle.passes.proofs.Exchange.{rows_first as rows_before_columns}

-- ---- one pass over a whole map

module _ (filters : ℕ → Filter) (h w t : ℕ) where
  pub one_reads : (X Y : ℕ → ℕ → ℕ) → ((y x : ℕ) → y < h → x < w → X y x ≡ Y y x)
      → (y x : ℕ) → y < h → x < w → one_pass filters h w t X y x ≡ one_pass filters h w t Y y x
  unfolding one_pass
  one_reads X Y same = filter_lines_reads (axis_of t) (direction_of t) (filters t) h w _ _ X Y (λ l k a b. refl) same

  pub one_small : (X : ℕ → ℕ → ℕ) (y x : ℕ) → one_pass filters h w t X y x < 2 ^ 64
  unfolding one_pass
  one_small X y x = filter_lines_small (axis_of t) _ _ _ _ X y x

  -- A pass of order 0 and gain 1 leaves words as they are.
  pub one_unchanged : (filters t).order ≡ 0 → (filters t).gain ≡ 1 → (X : ℕ → ℕ → ℕ) (y x : ℕ) → X y x < 2 ^ 64 → y < h
      → x < w → one_pass filters h w t X y x ≡ X y x
  unfolding one_pass
  one_unchanged none one X y x small a b =
      filter_lines_scales (axis_of t) (direction_of t) (filters t) h w _ X y x none a b
      ∙ ap (◌⊗ X y x) one
      ∙ one_mul (X y x)
      ∙ reduced_small (X y x) small

-- ---- rows first

in_order : SameOutput columns_first
unfolding one_pass passes_in_order serial_passes passes_over
in_order filters h w X row column = refl

-- Both row passes may be taken before both column passes.
exchanged : (filters : ℕ → Filter) (h w : ℕ) (X : ℕ → ℕ → ℕ)
    → serial_passes filters h w X 4 ≡ passes_in_order filters h w rows_first X
unfolding one_pass passes_in_order
exchanged filters h w X = rows_before_columns filters h w X

rows_first_law : SameOutput rows_first
rows_first_law filters h w X row column = ap (λ (Y : ℕ → ℕ → ℕ). Y row column) (sym (exchanged filters h w X))

-- ---- each pair keeps its order

-- 1 at row 0 and column 0, and 0 elsewhere.
abbrev one : ℕ → ℕ → ℕ
one row column = first_alone (first_alone 1 row) column

-- Running sums of the line 1, 0 forward and then backward are 2, 1; backward and then forward they are 1, 1.
one_is_not_two : (a b : ℕ) → a ≡ 1 → b ≡ 2 → a ≡ b → ⊥
one_is_not_two a b e f g = omega arith

up_after_down : SameOutput (2 ∷ 3 ∷ 1 ∷ 0 ∷ []) → ⊥
unfolding one_pass passes_in_order serial_passes passes_over filter_lines filter_line output history filter_step less_feedback modulus minus_one ◌⊖◌ ◌⊗◌
up_after_down same = one_is_not_two _ _ refl refl (same (λ t. running_sum) 2 1 one 0 0)

left_after_right : SameOutput (3 ∷ 2 ∷ 0 ∷ 1 ∷ []) → ⊥
unfolding one_pass passes_in_order serial_passes passes_over filter_lines filter_line output history filter_step less_feedback modulus minus_one ◌⊖◌ ◌⊗◌
left_after_right same = one_is_not_two _ _ refl refl (same (λ t. running_sum) 1 2 one 0 0)

pub pairs_exchange : PairsExchange
pairs_exchange =
    record {
      in_order = in_order;
      rows_first_law = rows_first_law;
      up_after_down = up_after_down;
      left_after_right = left_after_right;
    }
