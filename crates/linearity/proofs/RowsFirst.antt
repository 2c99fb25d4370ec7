-- Rows first, in one call and in two. Assumes nothing.
use mathlib.Core.Path.{◌≡◌, refl, sym, ap, ◌∙◌}
use mathlib.Core.Bool.{Bool, true}
use mathlib.Core.List.{List, [], ◌∷◌, ◌++◌}
use Prim.Native.Nat.{ℕ, ◌<◌, ◌≤◌}
use native.Mathlib.Omega.{arith}
use lib.Dec.{leb-zero}
use lib.ListN.{length, drop}
use Rattle.number.specs.Numbers.{all_below}
use Rattle.number.proofs.RowMajor.{row_below, column_below}
use Rattle.number.proofs.Tests.{and_left, and_right, and_both, all_none, all_more, all_at}
use Rattle.word.specs.Word.{modulus, residue}
use Rattle.buffer.specs.Lists.{word_map}
use Rattle.buffer.proofs.Listed.{listed_same}
use Rattle.grid.specs.Grid.{grid_kept}
use Rattle.plan.specs.declared.Pass.{Pass}
use Rattle.plan.specs.declared.Plan.{Plan}
use Rattle.plan.specs.Rules.{coefficients_kept, pass_kept, pass_at, passes_kept, keeps_rules}
use Rattle.plan.specs.Sizes.{needed_pixels}
use Rattle.passes.specs.Filter.{Filter}
use Rattle.passes.specs.PassOrders.{one_pass, passes_in_order}
use Rattle.passes.proofs.PassOrders.{one_reads, one_small, one_unchanged, pairs_exchange}
use Rattle.filter.specs.PlanFilters.{unchanged_pass, filter_of, filters_of, serial_result}
use Rattle.serial.specs.Serial.{result_words, passes_output}
use Rattle.serial.specs.Stages.{MapFits}
use Rattle.serial.proofs.SerialAnswers.{long_enough, accepted_fits, output_of_accepted}
use Rattle.serial.proofs.Outputs.{output_length, output_at_law}
use Rattle.linearity.specs.Adding.{Accepted}
use Rattle.linearity.specs.RowsFirst.{rows_alone, columns_alone, InTwoCalls, RowsFirst}

-- ---- half plans

module _ (plan : Plan) where
  abbrev h : ℕ
  h = plan.grid.rows

  abbrev w : ℕ
  w = plan.grid.columns

  -- With order 0 and gain 1 for down and up the result is that of right and left,
  rows_result : (X : ℕ → ℕ → ℕ) (y x : ℕ) → y < h → x < w
      → serial_result (rows_alone plan) X 4 y x ≡ passes_in_order (filters_of plan) h w (2 ∷ 3 ∷ []) X y x
  unfolding passes_in_order one_pass filter_of residue modulus
  rows_result X y x a b =
      let filters : ℕ → Filter = filters_of (rows_alone plan) in
      let rows : ℕ → ℕ → ℕ = one_pass filters h w 3 (one_pass filters h w 2 X) in
      sym (pairs_exchange.rows_first_law filters h w X y x)
      ∙ one_unchanged filters h w 1 refl refl (one_pass filters h w 0 rows) y x (one_small filters h w 0 rows y x) a b
      ∙ one_unchanged filters h w 0 refl refl rows y x (one_small filters h w 3 _ y x) a b

  -- and with order 0 and gain 1 for right and left that of down and up.
  columns_result : (X : ℕ → ℕ → ℕ) (y x : ℕ) → y < h → x < w
      → serial_result (columns_alone plan) X 4 y x ≡ passes_in_order (filters_of plan) h w (0 ∷ 1 ∷ []) X y x
  unfolding passes_in_order one_pass filter_of residue modulus
  columns_result X y x a b =
      let filters : ℕ → Filter = filters_of (columns_alone plan) in
      let columns : ℕ → ℕ → ℕ = one_pass filters h w 1 (one_pass filters h w 0 X) in
      sym (pairs_exchange.in_order filters h w X y x)
      ∙ one_unchanged filters h w 3 refl refl (one_pass filters h w 2 columns) y x (one_small filters h w 2 columns y x) a b
      ∙ one_unchanged filters h w 2 refl refl columns y x (one_small filters h w 1 _ y x) a b

  -- Down and up over the pixels that right and left give of X are all passes over X,
  rows_then_columns : (X Y : ℕ → ℕ → ℕ) → ((y x : ℕ) → y < h → x < w → Y y x ≡ serial_result (rows_alone plan) X 4 y x)
      → (y x : ℕ) → y < h → x < w → serial_result (columns_alone plan) Y 4 y x ≡ serial_result plan X 4 y x
  unfolding passes_in_order
  rows_then_columns X Y same y x a b =
      let filters : ℕ → Filter = filters_of plan in
      columns_result Y y x a b
      ∙ one_reads filters h w 1 _ _
      (one_reads filters h w 0 Y _ (λ y x c d. same y x c d ∙ rows_result X y x c d)) y x a b
      ∙ pairs_exchange.rows_first_law filters h w X y x

  -- and so are right and left over the pixels that down and up give.
  columns_then_rows : (X Y : ℕ → ℕ → ℕ) → ((y x : ℕ) → y < h → x < w → Y y x ≡ serial_result (columns_alone plan) X 4 y x)
      → (y x : ℕ) → y < h → x < w → serial_result (rows_alone plan) Y 4 y x ≡ serial_result plan X 4 y x
  unfolding passes_in_order
  columns_then_rows X Y same y x a b =
      let filters : ℕ → Filter = filters_of plan in
      rows_result Y y x a b
      ∙ one_reads filters h w 3 _ _
      (one_reads filters h w 2 Y _ (λ y x c d. same y x c d ∙ columns_result X y x c d)) y x a b
      ∙ pairs_exchange.in_order filters h w X y x

-- ---- half plans keep the rules

-- The plan with other passes.
abbrev with_passes : Plan → List Pass → Plan
with_passes plan passes = record { grid = plan.grid; passes = passes }

unchanged_kept : (side : ℕ) → pass_kept side unchanged_pass ≡ true
unfolding pass_kept coefficients_kept all_below
unchanged_kept side = rw (leb-zero side)

-- A plan with other passes keeps the rules if its size and each of these do.
module _ (plan : Plan) (kept : keeps_rules plan ≡ true) where
  four_kept : (a b c d : Pass) → pass_kept plan.grid.side a ≡ true → pass_kept plan.grid.side b ≡ true
      → pass_kept plan.grid.side c ≡ true → pass_kept plan.grid.side d ≡ true
      → keeps_rules (with_passes plan (a ∷ b ∷ c ∷ d ∷ [])) ≡ true
  unfolding keeps_rules passes_kept
  four_kept a b c d e f g h =
      let test : ℕ → Bool = λ i. pass_kept plan.grid.side (pass_at (with_passes plan (a ∷ b ∷ c ∷ d ∷ [])) i) in
      and_both (and_left (grid_kept plan.grid) (passes_kept plan) kept)
      (all_more test 3 (all_more test 2 (all_more test 1 (all_more test 0 (all_none test) e) f) g) h)

  pass_kept_law : (i : ℕ) → i < 4 → pass_kept plan.grid.side (pass_at plan i) ≡ true
  unfolding keeps_rules passes_kept
  pass_kept_law i l = all_at _ 4 i (and_right (grid_kept plan.grid) (passes_kept plan) kept) l

  rows_kept : keeps_rules (rows_alone plan) ≡ true
  rows_kept =
      four_kept _ _ _ _ (unchanged_kept _) (unchanged_kept _) (pass_kept_law 2 (omega arith)) (pass_kept_law 3 (omega arith))

  columns_kept : keeps_rules (columns_alone plan) ≡ true
  columns_kept =
      four_kept _ _ _ _ (pass_kept_law 0 (omega arith)) (pass_kept_law 1 (omega arith)) (unchanged_kept _) (unchanged_kept _)

-- ---- two calls

-- Passes p and q of which q, over the pixels that p gives of X, gives what the plan gives of X.
module _ (plan : Plan) (X : ℕ → ℕ → ℕ) (p q : List Pass)
    (both : (Y : ℕ → ℕ → ℕ)
    → ((y x : ℕ) → y < plan.grid.rows → x < plan.grid.columns → Y y x ≡ serial_result (with_passes plan p) X 4 y x)
    → (y x : ℕ) → y < plan.grid.rows → x < plan.grid.columns
    → serial_result (with_passes plan q) Y 4 y x ≡ serial_result plan X 4 y x)
    (p_kept : keeps_rules (with_passes plan p) ≡ true) (q_kept : keeps_rules (with_passes plan q) ≡ true) (map_length : ℕ)
    (between output : List ℕ) (accepts : Accepted plan map_length output) (room : needed_pixels plan ≤ length between) where
  fits : MapFits plan map_length (length output)
  fits = accepted_fits plan map_length (length output) accepts

  first_accepted : Accepted (with_passes plan p) map_length between
  first_accepted = long_enough (with_passes plan p) map_length (length between) p_kept fits.map_long room

  -- What the first call leaves.
  abbrev words : List ℕ
  words = passes_output (with_passes plan p) X map_length between

  second_accepted : Accepted (with_passes plan q) (length words) output
  second_accepted =
      long_enough (with_passes plan q) (length words) (length output) q_kept
      (rw (output_length (with_passes plan p) X map_length between first_accepted) room) fits.output_long

  same_words : result_words (with_passes plan q) (word_map plan.grid.columns words) ≡ result_words plan X
  unfolding result_words
  same_words =
      listed_same _ _ (needed_pixels plan) 0
      (λ i c.
      both (word_map plan.grid.columns words) (output_at_law (with_passes plan p) X map_length between first_accepted) _ _
      (row_below plan.grid.rows plan.grid.columns i c)
      (column_below plan.grid.rows plan.grid.columns i c))

  two_calls : InTwoCalls plan (with_passes plan p) (with_passes plan q) X map_length between output
  two_calls =
      record {
        first_accepted = first_accepted;
        second_accepted = second_accepted;
        same_output =
            sym (output_of_accepted (with_passes plan q) _ (length words) output second_accepted)
            ∙ ap (◌++ drop (needed_pixels plan) output) same_words
            ∙ output_of_accepted plan X map_length output accepts;
      }

pub rows_first_holds : RowsFirst
rows_first_holds =
    record {
      each_pixel = λ plan X map_length output accepts y x a b.
          output_at_law plan X map_length output accepts y x a b
          ∙ sym (pairs_exchange.rows_first_law (filters_of plan) plan.grid.rows plan.grid.columns X y x);
      rows_then_columns = λ plan X map_length between output accepts room.
          let kept = (accepted_fits plan map_length (length output) accepts).kept in
          two_calls plan X _ _ (rows_then_columns plan X) (rows_kept plan kept) (columns_kept plan kept) map_length between output
          accepts room;
      columns_then_rows = λ plan X map_length between output accepts room.
          let kept = (accepted_fits plan map_length (length output) accepts).kept in
          two_calls plan X _ _ (columns_then_rows plan X) (columns_kept plan kept) (rows_kept plan kept) map_length between output
          accepts room;
    }
