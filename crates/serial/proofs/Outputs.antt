-- What an accepted call of the serial passes leaves at each pixel, and that heights are filtered as the words of their
-- pixels. Assumes nothing.
use mathlib.Core.Path.{◌≡◌, refl, sym, ap, ap₂, ◌∙◌}
use mathlib.Core.List.{List, ◌++◌, map}
use Prim.Native.Nat.{ℕ, ◌<◌}
use native.Mathlib.Omega.{arith}
use lib.IntN.{ℤ}
use lib.ListN.{length, drop, length-map, length-append, length-drop, get_or-append}
use Rattle.number.specs.Numbers.{row_major}
use Rattle.number.proofs.RowMajor.{place_below, row_of, column_of}
use Rattle.refusal.specs.Refusals.{Answer, accepted}
use Rattle.plan.specs.declared.Plan.{Plan}
use Rattle.plan.specs.Sizes.{needed_pixels}
use Rattle.buffer.specs.Lists.{word_at, word_map}
use Rattle.buffer.specs.Pixel.{pixel}
use Rattle.buffer.proofs.Listed.{listed_length, listed_at}
use Rattle.buffer.proofs.Pixel.{pixels_map}
use Rattle.filter.specs.PlanFilters.{map_of, serial_result}
use Rattle.serial.specs.Serial.{serial_answer, result_words, passes_output, serial_words, serial_output, serial_words_output}
use Rattle.serial.proofs.SerialAnswers.{accepted_fits, output_of_accepted}

-- ---- an accepted call

module _ (plan : Plan) (X : ℕ → ℕ → ℕ) (map_length : ℕ) (output : List ℕ)
    (accepts : serial_answer plan map_length (length output) ≡ accepted) where
  written_is : result_words plan X ++ drop (needed_pixels plan) output ≡ passes_output plan X map_length output
  written_is = output_of_accepted plan X map_length output accepts

  words_length : length (result_words plan X) ≡ needed_pixels plan
  unfolding result_words
  words_length = listed_length _ (needed_pixels plan)

  -- The output is as long as it was,
  pub output_length : length (passes_output plan X map_length output) ≡ length output
  output_length =
      rw (← written_is)
      (simp (length-append, length-drop)
      (omega (arith, words_length, (accepted_fits plan map_length (length output) accepts).output_long)))

  -- and at each pixel it has the word of the result of left.
  pub output_at_law : (y x : ℕ) → y < plan.grid.rows → x < plan.grid.columns
      → word_map plan.grid.columns (passes_output plan X map_length output) y x ≡ serial_result plan X 4 y x
  unfolding result_words
  output_at_law y x a b =
      let place : ℕ = row_major plan.grid.columns y x in
      let q : place < needed_pixels plan = place_below plan.grid.rows plan.grid.columns y x a b in
      ap (λ (l : List ℕ). word_at l place) (sym written_is)
      ∙ get_or-append (result_words plan X) (drop (needed_pixels plan) output) 0 place (rw words_length q)
      ∙ listed_at _ (needed_pixels plan) place 0 q
      ∙ rw (row_of plan.grid.columns y x b, column_of plan.grid.columns y x b)

-- ---- heights as words

module _ (plan : Plan) (heights : List ℤ) (output : List ℕ) where
  -- The output over heights is that of a call over their map.
  pub heights_output : passes_output plan (map_of plan heights) (length heights) output ≡ serial_output plan heights output
  unfolding passes_output result_words serial_output serial_words
  heights_output = refl

  pub heights_as_words : serial_output plan heights output ≡ serial_words_output plan (map pixel heights) output
  heights_as_words =
      sym
      (ap₂ (λ X n. passes_output plan X n output) (pixels_map plan.grid.columns heights) (length-map heights pixel)
      ∙ heights_output)

  -- A call over the pixels' words is the call over the heights.
  pub over_heights : {answer : Answer} {after : List ℕ}
      → (answer ≡ serial_answer plan (length (map pixel heights)) (length output))
      × (after ≡ serial_words_output plan (map pixel heights) output)
      → (answer ≡ serial_answer plan (length heights) (length output)) × (after ≡ serial_output plan heights output)
  over_heights told = (
    told.0 ∙ ap (λ n. serial_answer plan n (length output)) (length-map heights pixel),
    told.1 ∙ sym heights_as_words,
  )
