-- A linear way of combining whole maps commutes with the serial passes: so do sum and difference.
-- Assumes nothing.
use mathlib.Core.Path.{◌≡◌, sym, ap, ◌∙◌}
use Prim.Native.Nat.{ℕ}
use Rattle.passes.specs.Filter.{Filter}
use Rattle.passes.specs.Passes.{passes_over, serial_passes}
use Rattle.passes.specs.Adding.{AddsMaps}
use Rattle.passes.proofs.Linear.{Linear, linear_zero, pair, linear_add, linear_sub}
use Rattle.passes.proofs.Blocks.{passes_over_linear}

pub serial_passes_linear : {J : Type 0} {F : (J → ℕ) → ℕ} → Linear F → (filters : ℕ → Filter) (h w : ℕ)
    (X : J → ℕ → ℕ → ℕ) (t row column : ℕ)
    → serial_passes filters h w (λ y x. F (λ j. X j y x)) t row column
    ≡ F (λ j. serial_passes filters h w (X j) t row column)
unfolding serial_passes
serial_passes_linear {F = F} L filters h w X t row column =
    sym
    (passes_over_linear L filters h w (λ j u l k. 0) X t row column
    ∙ ap (λ z. passes_over filters h w (λ u l k. z) (λ y x. F (λ j. X j y x)) t row column) (linear_zero L))

pub adds_maps : AddsMaps
adds_maps =
    record {
      sums = λ filters h w X Y t row column. serial_passes_linear linear_add filters h w (pair X Y) t row column;
      differences = λ filters h w X Y t row column. serial_passes_linear linear_sub filters h w (pair X Y) t row column;
    }
