-- What an accepted call writes over a sum or a difference of maps is that of the outputs: by the law of the passes, and
-- pixel by pixel. Assumes nothing.
use mathlib.Core.Path.{◌≡◌, sym, ap₂, ◌∙◌}
use mathlib.Core.List.{List}
use Prim.Native.Nat.{ℕ, ◌/◌, ◌%◌, ◌<◌}
use native.Mathlib.Nat.{div-add-mod'}
use lib.IntN.{ℤ, ◌+ℤ◌, ◌-ℤ◌}
use lib.ListN.{length}
use Rattle.number.specs.Numbers.{row_major}
use Rattle.number.proofs.RowMajor.{place_below, row_below, column_below}
use Rattle.word.specs.Word.{residue, ◌⊕◌, ◌⊖◌}
use Rattle.word.proofs.Residues.{residue_add, residue_sub}
use Rattle.buffer.specs.Pixel.{pixel, height_map}
use Rattle.plan.specs.declared.Plan.{Plan}
use Rattle.passes.specs.Filter.{Filter}
use Rattle.passes.specs.Passes.{serial_passes}
use Rattle.passes.proofs.Passes.{serial_passes_reads}
use Rattle.passes.proofs.Adding.{adds_maps}
use Rattle.filter.specs.PlanFilters.{filters_of, map_of, word_map_of, serial_result}
use Rattle.serial.specs.Serial.{passes_output}
use Rattle.serial.proofs.Outputs.{heights_output, output_at_law}
use Rattle.linearity.specs.Adding.{Accepted, Wordwise, KeptByPasses, KeptOfHeights, AddsOutputs}

-- An operation on words that the serial passes keep, map by map.
abbrev Kept : (ℕ → ℕ → ℕ) → Type 0
Kept operation =
    (filters : ℕ → Filter) (h w : ℕ) (X Y : ℕ → ℕ → ℕ) (t row column : ℕ)
    → serial_passes filters h w (λ y x. operation (X y x) (Y y x)) t row column
    ≡ operation (serial_passes filters h w X t row column) (serial_passes filters h w Y t row column)

module _ (operation : ℕ → ℕ → ℕ) (kept : Kept operation) (plan : Plan) (X Y Z : ℕ → ℕ → ℕ)
    (is : (y x : ℕ) → y < plan.grid.rows → x < plan.grid.columns → Z y x ≡ operation (X y x) (Y y x)) where
  -- Where a map is so at each pixel, the result of left is so too,
  result_at : (y x : ℕ) → y < plan.grid.rows → x < plan.grid.columns
      → serial_result plan Z 4 y x ≡ operation (serial_result plan X 4 y x) (serial_result plan Y 4 y x)
  result_at y x a b =
      serial_passes_reads (filters_of plan) plan.grid.rows plan.grid.columns Z (λ y x. operation (X y x) (Y y x)) 4 is y x
      a b
      ∙ kept (filters_of plan) plan.grid.rows plan.grid.columns X Y 4 y x

  -- and so are the outputs of accepted calls.
  outputs_are : (k m n : ℕ) (p q r : List ℕ) → Accepted plan k p → Accepted plan m q → Accepted plan n r
      → Wordwise plan operation (passes_output plan X k p) (passes_output plan Y m q) (passes_output plan Z n r)
  outputs_are k m n p q r e f g place h =
      let w : ℕ = plan.grid.columns in
      let y : ℕ = place / w in
      let x : ℕ = place % w in
      let a : y < plan.grid.rows = row_below plan.grid.rows w place h in
      let b : x < w = column_below plan.grid.rows w place h in
      let at : row_major w y x ≡ place = div-add-mod' place w in
      let third = output_at_law plan Z n r g y x a b in
      let first = output_at_law plan X k p e y x a b in
      let second = output_at_law plan Y m q f y x a b in
      rw at at (third ∙ result_at y x a b ∙ sym (ap₂ operation first second))

pub kept_by_passes : (operation : ℕ → ℕ → ℕ) → Kept operation → KeptByPasses operation
kept_by_passes operation kept plan a b c p q r e f g is =
    outputs_are operation kept plan (word_map_of plan a) (word_map_of plan b) (word_map_of plan c)
    (λ y x h k. is _ (place_below plan.grid.rows plan.grid.columns y x h k)) (length a) (length b) (length c) p q r e
    f g

pub kept_of_heights : (whole : ℤ → ℤ → ℤ) (operation : ℕ → ℕ → ℕ) → Kept operation
    → ((a b : ℤ) → residue (whole a b) ≡ operation (residue a) (residue b)) → KeptOfHeights whole operation
unfolding height_map pixel
kept_of_heights whole operation kept residues plan a b c p q r e f g is =
    rw (← heights_output plan a p, ← heights_output plan b q)
    (outputs_are operation kept plan (map_of plan a) (map_of plan b) (word_map_of plan c)
    (λ y x h k. is _ (place_below plan.grid.rows plan.grid.columns y x h k) ∙ residues _ _) (length a) (length b)
    (length c) p q r e f g)

pub adds_outputs : AddsOutputs
adds_outputs =
    record {
      sums = kept_by_passes ◌⊕◌ adds_maps.sums;
      differences = kept_by_passes ◌⊖◌ adds_maps.differences;
      sums_of_heights = kept_of_heights ◌+ℤ◌ ◌⊕◌ adds_maps.sums residue_add;
      differences_of_heights = kept_of_heights ◌-ℤ◌ ◌⊖◌ adds_maps.differences residue_sub;
    }
