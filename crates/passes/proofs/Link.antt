-- The link: a block filtered alone, plus what zero heights with the neighbours' strips past its edges give, is the
-- block with both; and where those strips are the map's, these are the map's words.
-- Assumes nothing.
use mathlib.Core.Path.{◌≡◌, ap₂, sym, ◌∙◌, fun_ext}
use Prim.Native.Nat.{ℕ, suc, ◌<◌}
use Rattle.word.specs.Word.{◌⊕◌}
use Rattle.word.proofs.Ring.{zero_left, zero_right, reduced_small}
use Rattle.passes.specs.Filter.{Filter}
use Rattle.axis.specs.Axis.{axis_of, direction_of, across}
use Rattle.passes.specs.Passes.{passes_over, serial_passes}
use Rattle.passes.proofs.Linear.{pair, linear_add, linear_reduce}
use Rattle.passes.proofs.Passes.{passes_over_small}
use Rattle.passes.proofs.Blocks.{BlockPlace, block_of, words_beside, passes_over_linear, passes_over_part}

pub alone_plus_strips : (filters : ℕ → Filter) (h w : ℕ) (H : ℕ → ℕ → ℕ → ℕ) (X : ℕ → ℕ → ℕ) (t y x : ℕ)
    → passes_over filters h w (λ u l k. 0) X (suc t) y x ⊕ passes_over filters h w H (λ y x. 0) (suc t) y x
    ≡ passes_over filters h w H X (suc t) y x
alone_plus_strips filters h w H X t y x =
    passes_over_linear linear_add filters h w (pair (λ u l k. 0) H) (pair X (λ y x. 0)) (suc t) y x
    ∙ ap₂
    (λ G Z. passes_over filters h w G Z (suc t) y x)
    (fun_ext (λ u. fun_ext (λ l. fun_ext (λ k. zero_left _))))
    (fun_ext (λ y. fun_ext (λ x. zero_right _)))
    ∙ sym (passes_over_linear linear_reduce filters h w (λ j. H) (λ j. X) (suc t) y x)
    ∙ reduced_small _ (passes_over_small filters h w H X t y x)

pub link_true : (filters : ℕ → Filter) (B : BlockPlace) (H : ℕ → ℕ → ℕ → ℕ) (X : ℕ → ℕ → ℕ) (t : ℕ)
    → ((u l k : ℕ) → u < suc t → l < across (axis_of u) B.height B.width → k < (filters u).order
    → H u l k
    ≡ words_beside (axis_of u) (direction_of u) B (serial_passes filters B.map_height B.map_width X (suc u)) l k)
    → (y x : ℕ) → y < B.height → x < B.width
    → passes_over filters B.height B.width (λ u l k. 0) (block_of B X) (suc t) y x
    ⊕ passes_over filters B.height B.width H (λ y x. 0) (suc t) y x
    ≡ block_of B (serial_passes filters B.map_height B.map_width X (suc t)) y x
link_true filters B H X t e y x p q =
    alone_plus_strips filters _ _ H _ t y x ∙ passes_over_part filters B H X (suc t) e y x p q
