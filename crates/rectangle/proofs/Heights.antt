-- On a summed-area table the call's sum is the heights' sum; on any table it is the word of the corners, read as
-- signed. Assumes nothing.
use mathlib.Core.Path.{◌≡◌, refl, sym, ap, ◌∙◌, fun_ext}
use mathlib.Core.Bool.{true}
use mathlib.Core.List.{List, []}
use Prim.Native.Nat.{ℕ, zero, suc, ◌-◌, ◌<◌, ◌≤◌}
use native.Mathlib.Omega.{arith}
use lib.IntN.{ℤ, pos, negsuc}
use lib.ListN.{length, get_or, replicate}
use Rattle.refusal.specs.Refusals.{accepted}
use Rattle.word.specs.Word.{modulus, minus_one, residue, signed}
use Rattle.plan.specs.declared.Pass.{Pass}
use Rattle.plan.specs.declared.Plan.{Plan}
use Rattle.plan.specs.Rules.{order_limit, coefficient_at, pass_at, keeps_rules}
use Rattle.plan.specs.Sizes.{needed_pixels}
use Rattle.word.proofs.Residues.{residue_zero}
use Rattle.word.proofs.SignedReading.{signed_reading}
use Rattle.buffer.specs.Lists.{number_at}
use Rattle.passes.specs.Filter.{Filter}
use Rattle.passes.specs.Passes.{passes_over, serial_passes}
use Rattle.buffer.specs.Pixel.{reading_at, pixel, height_map}
use Rattle.passes.specs.Table.{running_sum, unchanged, first_alone, summed_area_table, rectangle_sum}
use Rattle.passes.proofs.Table.{rectangle_heights}
use Rattle.filter.specs.PlanFilters.{filter_of, filters_of, map_of, serial_result, running_sum_pass, unchanged_pass, summed_area_passes}
use Rattle.serial.specs.Serial.{serial_answer, serial_output}
use Rattle.serial.proofs.SerialAnswers.{long_enough}
use Rattle.serial.proofs.Outputs.{heights_output, output_length, output_at_law}
use Rattle.rectangle.specs.Rectangle.{table_of, Inside}
use Rattle.rectangle.specs.Heights.{height_sum, SumsHeights, GivesAtWord, SumsAtEnds}
use Rattle.rectangle.proofs.SumAnswers.{accepted_when, given_accepted}
use Rattle.rectangle.proofs.Bound.{sum_in_range}

-- ---- the filters

residue_one : residue (pos 1) ≡ 1
unfolding residue modulus
residue_one = refl

residue_minus_one : residue (negsuc 0) ≡ minus_one
unfolding residue modulus minus_one
residue_minus_one = refl

-- A coefficient place past those of a list of zeros reads 0 as well.
zeros : (n k : ℕ) → residue (number_at (replicate n (pos 0)) k) ≡ 0
zeros zero k = residue_zero
zeros (suc n) zero = residue_zero
zeros (suc n) (suc k) = zeros n k

same_filter : {g g' r r' : ℕ} {d d' : ℕ → ℕ} → g ≡ g' → r ≡ r' → d ≡ d'
    → ◌≡◌ {A = Filter} (record { gain = g; order = r; coefficient = d }) (record { gain = g'; order = r'; coefficient = d' })
same_filter e f h = cc

running_sum_law : filter_of running_sum_pass ≡ running_sum
unfolding filter_of
running_sum_law = same_filter residue_one refl (fun_ext at)
  where
    at : (k : ℕ) → residue (coefficient_at running_sum_pass k) ≡ first_alone minus_one k
    at zero = residue_minus_one
    at (suc k) = zeros (order_limit - 1) k

unchanged_pass_law : filter_of unchanged_pass ≡ unchanged
unfolding filter_of
unchanged_pass_law = same_filter residue_one refl (fun_ext (zeros order_limit))

module _ (plan : Plan) (passes : plan.passes ≡ summed_area_passes) where
  pass_is : (i : ℕ) → pass_at plan i ≡ get_or summed_area_passes i (record { order = 0; gain = pos 0; coefficients = [] })
  pass_is i = ap (λ (l : List Pass). get_or l i (record { order = 0; gain = pos 0; coefficients = [] })) passes

  filter_is : (i : ℕ) → i < 4 → filters_of plan i ≡ summed_area_table i
  filter_is zero h = ap filter_of (pass_is 0) ∙ running_sum_law
  filter_is (suc zero) h = ap filter_of (pass_is 1) ∙ unchanged_pass_law
  filter_is (suc (suc zero)) h = ap filter_of (pass_is 2) ∙ running_sum_law
  filter_is (suc (suc (suc zero))) h = ap filter_of (pass_is 3) ∙ unchanged_pass_law
  filter_is (suc (suc (suc (suc i)))) h = absurd (omega arith)

  -- The four passes of the plan are those of the table.
  passes_are : (h w : ℕ) (X : ℕ → ℕ → ℕ) → serial_passes (filters_of plan) h w X 4 ≡ serial_passes summed_area_table h w X 4
  unfolding serial_passes passes_over
  passes_are h w X =
      rw (filter_is 0 (omega arith), filter_is 1 (omega arith), filter_is 2 (omega arith), filter_is 3 (omega arith))

-- ---- the table

module _ (plan : Plan) (kept : keeps_rules plan ≡ true) (heights : List ℤ) (output : List ℕ)
    (long : needed_pixels plan ≤ length heights) (room : needed_pixels plan ≤ length output) where
  passes_accept : serial_answer plan (length heights) (length output) ≡ accepted
  passes_accept = long_enough plan (length heights) (length output) kept long room

  table_long : needed_pixels plan ≤ length (serial_output plan heights output)
  table_long =
      rw (← heights_output plan heights output, output_length plan (map_of plan heights) (length heights) output passes_accept)
      room

  table_at : (y x : ℕ) → y < plan.grid.rows → x < plan.grid.columns
      → table_of plan (serial_output plan heights output) y x
      ≡ serial_result plan (map_of plan heights) 4 y x
  table_at = rw (← heights_output plan heights output) (output_at_law plan (map_of plan heights) (length heights) output passes_accept)

-- ---- the sums

-- An accepted call gives what the word of the four corners is read as.
gives_at_word : {word : ℕ} {sum : ℤ} → signed word ≡ sum → GivesAtWord word sum
gives_at_word reads plan table kept long top left bottom right inside e =
    sym
    (given_accepted plan table top left bottom right
    (accepted_when plan table top left bottom right kept long inside) (sym (ap signed e ∙ reads)))

pub sums_at_ends : SumsAtEnds
sums_at_ends =
    record {
      at_zero = gives_at_word signed_reading.at_zero;
      at_greatest = gives_at_word signed_reading.at_greatest;
      at_least = gives_at_word signed_reading.at_least;
    }

-- The word of the four corners is the residue of the heights' sum,
module _ (plan : Plan) (kept : keeps_rules plan ≡ true) (passes : plan.passes ≡ summed_area_passes) (heights : List ℤ)
    (output : List ℕ) (long : needed_pixels plan ≤ length heights) (room : needed_pixels plan ≤ length output) where
  corners_word : (top left bottom right : ℕ) → Inside plan top left bottom right
      → rectangle_sum (table_of plan (serial_output plan heights output)) top left bottom right
      ≡ residue (height_sum plan heights top left bottom right)
  unfolding pixel height_map
  corners_word top left bottom right inside =
      rectangle_heights plan.grid.rows plan.grid.columns _ (reading_at plan.grid.columns heights)
      (λ y x a b.
      table_at plan kept heights output long room y x a b
      ∙ ap (λ (Z : ℕ → ℕ → ℕ). Z y x)
      (passes_are plan passes plan.grid.rows plan.grid.columns (map_of plan heights)))
      top left bottom right inside.top_bottom inside.left_right inside.bottom_low inside.right_low

-- and read as signed it is that sum, which is small enough.
pub sums_heights : SumsHeights
sums_heights plan kept passes heights output fit long room top left bottom right inside =
    gives_at_word (signed_reading.no_other _ (sum_in_range plan kept heights fit top left bottom right inside)) plan _ kept
    (table_long plan kept heights output long room) top left bottom right inside
    (corners_word plan kept passes heights output long room top left bottom right inside)
