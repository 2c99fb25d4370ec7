-- What a link adds to a strip, by short passes: document 01's formula with zero heights, taken apart into passes over
-- single lines. Assumes nothing.
use mathlib.Core.Path.{◌≡◌, refl, ap, ◌∙◌}
use Prim.Native.Nat.{ℕ, zero, suc, ◌<◌}
use native.Mathlib.Omega.{arith}
use Rattle.passes.proofs.Linear.{Linear, linear_zero}
use Rattle.passes.proofs.Square.{linear_none, linear_place}
use Rattle.passes.specs.Filter.{Filter}
use Rattle.axis.specs.Axis.{axis_of, along, across, line_of}
use Rattle.passes.specs.Passes.{filter_lines, passes_over}
use Rattle.squares.specs.LinePasses.{axis_start, axis_passes, line_passes, with_histories, row_end, crossed, response}
use Rattle.squares.proofs.LinePasses.{line_passes_linear, linear_line_passes, line_passes_by_histories}

module _ (filters : ℕ → Filter) (h w : ℕ) (H : ℕ → ℕ → ℕ → ℕ) where
  -- A line of a pass is a line through the passes of its axis.
  own_axis : (u : ℕ) → u < 4 → (l i : ℕ)
      → line_of (axis_of u) (passes_over filters h w H (λ y x. 0) (suc u)) l i
      ≡ line_passes filters (along (axis_of u) h w) (λ v. H v l)
      (line_of (axis_of u) (passes_over filters h w H (λ y x. 0) (axis_start u)) l) (axis_start u) (axis_passes u) i
  unfolding passes_over filter_lines line_passes
  own_axis zero b l i = refl
  own_axis (suc zero) b l i = refl
  own_axis (suc (suc zero)) b l i = refl
  own_axis (suc (suc (suc zero))) b l i = refl
  own_axis (suc (suc (suc (suc u)))) b l i = absurd (omega arith)

  row_end_linear : (u n i : ℕ) → Linear (λ x. row_end filters n u i x)
  unfolding row_end
  row_end_linear u n i = linear_line_passes (λ u k. linear_none) linear_place filters n (axis_start u) (axis_passes u) i

  -- The column passes, and a row pass over them.
  rows_crossed : (u l i : ℕ)
      → row_end filters w u i (passes_over filters h w H (λ y x. 0) 2 l)
      ≡ line_passes filters h (λ v k. row_end filters w u i (λ j. H v j k)) (λ y. 0) 0 2 l
  unfolding passes_over filter_lines line_passes
  rows_crossed u l i =
      line_passes_linear (row_end_linear u w i) filters h (λ j v. H v j) (λ j y. 0) 0 2 l
      ∙ ap
      (λ z. line_passes filters h (λ v k. row_end filters w u i (λ j. H v j k)) (λ y. z) 0 2 l)
      (linear_zero (row_end_linear u w i))

  -- The passes of the other axis come before those of the link's own, and may be made of their ends alone.
  crossed_is : (u : ℕ) → u < 4 → (l i : ℕ)
      → row_end filters (along (axis_of u) h w) u i (line_of (axis_of u) (passes_over filters h w H (λ y x. 0) (axis_start u)) l)
      ≡ crossed filters (across (axis_of u) h w) (along (axis_of u) h w) H u i l
  unfolding passes_over line_passes crossed
  crossed_is zero b l i = linear_zero (row_end_linear 0 h i)
  crossed_is (suc zero) b l i = linear_zero (row_end_linear 1 h i)
  crossed_is (suc (suc u)) b l i = rows_crossed (suc (suc u)) l i

  -- What stands after a pass over a block of zeros, made of short passes.
  pub response_is : (u : ℕ) → u < 4 → (l i : ℕ)
      → line_of (axis_of u) (passes_over filters h w H (λ y x. 0) (suc u)) l i
      ≡ response filters (across (axis_of u) h w) (along (axis_of u) h w) H u l i
  unfolding response row_end
  response_is u b l i =
      own_axis u b l i
      ∙ line_passes_by_histories filters (along (axis_of u) h w) (λ v. H v l) _ (axis_start u) (axis_passes u) i
      (omega arith)
      ∙ ap
      (with_histories filters (along (axis_of u) h w) (λ v. H v l) (axis_start u) (axis_passes u) 0 i)
      (crossed_is u b l i)
