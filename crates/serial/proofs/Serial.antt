-- The steps of the serial passes lead to the words of the serial passes. Assumes nothing.
use mathlib.Core.Path.{◌≡◌, refl, sym, ap, ◌∙◌, fun_ext}
use mathlib.Core.Bool.{true}
use mathlib.Core.List.{List, ◌++◌}
use Prim.Native.Nat.{ℕ, zero, suc, ◌+◌, ◌-◌, ◌/◌, ◌%◌, ◌<◌, ◌≤◌, min}
use native.Mathlib.Nat.{div-add-mod'}
use native.Mathlib.Decide.{dec_lt}
use native.Mathlib.Omega.{arith}
use lib.ListN.{length, drop}
use Rattle.plan.specs.declared.Plan.{Plan}
use Rattle.plan.specs.Rules.{keeps_rules}
use Rattle.plan.specs.Sizes.{needed_pixels}
use Rattle.grid.specs.Grid.{block_extent}
use Rattle.grid.proofs.Extents.{length_covered, counted_start, extent_positive, extent_inside}
use Rattle.plan.proofs.Record.{order_limited_at}
use Rattle.word.proofs.Ring.{mul_zero}
use Rattle.buffer.specs.Lists.{word_at}
use Rattle.passes.specs.Passes.{passes_over, serial_passes}
use Rattle.passes.proofs.Gains.{gains_first_law}
use Rattle.filter.specs.PlanFilters.{filter_of, filters_of, word_map_of, serial_result}
use Rattle.number.proofs.RowMajor.{row_below, column_below}
use Rattle.serial.specs.Serial.{result_words}
use Rattle.filter.specs.FilterWords.{gains_first_filters}
use Rattle.serial.specs.Stages.{rows_read, band_rows, band_count, band_top, band_height, band_passed, bands_read_down, band_finished, last_band, bands_passed_up, bands_finished}
use Rattle.serial.proofs.FirstWords.{first_words}
use Rattle.serial.proofs.Stages.{some_bands}
use Rattle.serial.proofs.MapRows.{after, RowIs, SameRest, Step, read_step, pass_step}

-- The passes with all gains in the first are the serial passes.
gains_moved : (plan : Plan) (words : List ℕ) (y x : ℕ) → after plan words 4 y x ≡ serial_result plan (word_map_of plan words) 4 y x
unfolding serial_passes
gains_moved plan words y x =
    sym
    (gains_first_law (filters_of plan) plan.grid.rows plan.grid.columns (λ u l k. 0) (word_map_of plan words) 3 y x
    ∙ ap
    (λ H. passes_over (gains_first_filters plan) plan.grid.rows plan.grid.columns H (word_map_of plan words) 4 y x)
    (fun_ext λ u. fun_ext λ l. fun_ext λ k. mul_zero _))

module _ (plan : Plan) (words : List ℕ) (kept : keeps_rules plan ≡ true) (output : List ℕ)
    (long : needed_pixels plan ≤ length output) where
  -- A buffer of the output's length, with the output's words past the map.
  abbrev Same : List ℕ → Type 0
  Same b = SameRest plan words output b

  -- The rows from a first one to before another hold the words after the first t passes.
  record RowsAre (b : List ℕ) (t first end : ℕ) : Type 0 where
    pub row : (y : ℕ) → first ≤ y → y < end → y < plan.grid.rows → RowIs plan words b t y

  -- Some of these rows,
  part : {b : List ℕ} {t first end : ℕ} (f e : ℕ) → first ≤ f → e ≤ end → RowsAre b t first end → RowsAre b t f e
  part f e h k rows = record { row = λ y c d i. rows.row y (omega arith) (omega arith) i }

  -- and rows one after another.
  joined : {b : List ℕ} {t first middle end : ℕ} → RowsAre b t first middle → RowsAre b t middle end
      → RowsAre b t first end
  joined {middle = middle} upper lower =
      record {
        row = λ y h k e. elim (dec_lt y middle) [ yes l ↦ upper.row y h l e | no l ↦ lower.row y (omega arith) k e ];
      }

  as_long : {b : List ℕ} → Same b → needed_pixels plan ≤ length b
  as_long same = omega (arith, same.length_same)

  -- ---- one band

  module _ (n : ℕ) (n_in : n < band_count plan) where
    band_tall : 1 ≤ band_height plan n
    band_tall = extent_positive plan.grid.rows band_rows n n_in

    band_inside : band_top n + band_height plan n ≤ plan.grid.rows
    band_inside = extent_inside plan.grid.rows band_rows n n_in

    -- The band ends where the next begins, or where the map ends.
    band_end : band_top n + band_height plan n ≡ min (band_top (n + 1)) plan.grid.rows
    unfolding block_extent
    band_end = omega (arith, counted_start plan.grid.rows band_rows n n_in)

    -- A step over the rows of band n.
    abbrev BandStep : ℕ → List ℕ → List ℕ → Type 0
    BandStep t b c = Step plan words (band_top n) (band_height plan n) t b c

    band_read : (b : List ℕ) → Same b
        → BandStep 0 b (rows_read plan words (band_top n) (band_height plan n) b)
    band_read b same = read_step plan words (band_top n) (band_height plan n) band_inside b (as_long same)

    -- The rows of the band after a step,
    band_rows_law : {t : ℕ} {b c : List ℕ} → BandStep t b c → RowsAre c t (band_top n) (band_top (n + 1))
    band_rows_law step = record { row = λ y h k e. step.these y h (omega (arith, band_end)) }

    -- those above it,
    rows_above : {t s first end : ℕ} {b c : List ℕ} → BandStep t b c → end ≤ band_top n → RowsAre b s first end
        → RowsAre c s first end
    rows_above step above rows =
        record { row = λ y h k e. step.others _ y (λ p. absurd (omega arith)) (rows.row y h k e) }

    -- and those below it.
    rows_below : {t s first end : ℕ} {b c : List ℕ} → BandStep t b c → band_top (n + 1) ≤ first → RowsAre b s first end
        → RowsAre c s first end
    rows_below step below rows = record { row = λ y h k e. step.others _ y (λ p. omega (arith, band_end)) (rows.row y h k e) }

    band_down : (b : List ℕ) → Same b → RowsAre b 1 0 (band_top n) → RowsAre b 0 (band_top n) (band_top (n + 1))
        → BandStep 1 b (band_passed plan n 0 b)
    band_down b same above rows =
        pass_step plan words kept (band_top n) (band_height plan n) band_tall band_inside 0 b (as_long same)
        (λ k h l. above.row (band_top n - suc k) (omega arith) (omega arith) (omega (arith, band_inside)))
        (λ y h k. rows.row y h (omega (arith, band_end)) (omega (arith, band_inside)))

    -- The pass up reads no more rows below a band than the next band has.
    band_up : (b : List ℕ) → Same b → RowsAre b 2 (band_top (n + 1)) (band_top (n + 1 + 1))
        → RowsAre b 1 (band_top n) (band_top (n + 1)) → BandStep 2 b (band_passed plan n 1 b)
    unfolding filter_of
    band_up b same below rows =
        pass_step plan words kept (band_top n) (band_height plan n) band_tall band_inside 1 b (as_long same)
        (λ k h l.
        let limited = order_limited_at plan kept 1 (omega arith) in
        below.row (band_top n + band_height plan n + k) (omega (arith, band_end)) (omega (arith, band_end, limited, l))
        (omega arith))
        (λ y h k. rows.row y h (omega (arith, band_end)) (omega (arith, band_inside)))

    band_finished_law : (b : List ℕ) → Same b → RowsAre b 2 (band_top n) (band_top (n + 1))
        → BandStep 4 b (band_finished plan n b)
    unfolding band_finished
    band_finished_law b same rows =
        let right : BandStep 3 b (band_passed plan n 2 b) =
        pass_step plan words kept (band_top n) (band_height plan n) band_tall band_inside 2 b (as_long same)
        (λ k h l. absurd (omega arith))
        (λ y h k. rows.row y h (omega (arith, band_end)) (omega (arith, band_inside))) in
        let left : BandStep 4 (band_passed plan n 2 b) (band_finished plan n b) =
        pass_step plan words kept (band_top n) (band_height plan n) band_tall band_inside 3 (band_passed plan n 2 b)
        (as_long (right.same output same)) (λ k h l. absurd (omega arith)) right.these in
        record {
          same = λ o s. left.same o (right.same o s);
          others = λ s y out row. left.others s y out (right.others s y out row);
          these = left.these;
        }

  -- ---- down from the top

  -- The first n bands have been read and have had the pass down.
  record ReadDown (n : ℕ) (b : List ℕ) : Type 0 where
    pub same : Same b
    pub done : RowsAre b 1 0 (band_top n)

  bands_read_down_law : (n : ℕ) → n ≤ band_count plan → ReadDown n (bands_read_down plan words n output)
  unfolding bands_read_down
  bands_read_down_law zero h =
      record {
        same = record { length_same = refl; rest = λ z c. refl };
        done = record { row = λ y c k e. absurd (omega arith) };
      }
  bands_read_down_law (suc n) h =
      let n_in : n < band_count plan = omega arith in
      let u : ReadDown n (bands_read_down plan words n output) = bands_read_down_law n (omega arith) in
      let read = band_read n n_in _ u.same in
      let same_read = read.same output u.same in
      let above = rows_above n n_in read (omega arith) u.done in
      let down = band_down n n_in _ same_read above (band_rows_law n n_in read) in
      record {
        same = down.same output same_read;
        done = part 0 (band_top (suc n)) (omega arith) (omega arith)
            (joined (rows_above n n_in down (omega arith) above) (band_rows_law n n_in down));
      }

  -- ---- up from the bottom

  bands_cover : plan.grid.rows ≤ band_top (band_count plan)
  bands_cover = length_covered plan.grid.rows band_rows (omega arith)

  -- The bands below a band have had all passes, it has had the passes along columns, and those above it the pass down.
  record PassedUp (band : ℕ) (b : List ℕ) : Type 0 where
    pub same : Same b
    pub above : RowsAre b 1 0 (band_top band)
    pub here : RowsAre b 2 (band_top band) (band_top (band + 1))
    pub below : RowsAre b 4 (band_top (band + 1)) plan.grid.rows

  last_passed_up : (b : List ℕ) → Same b → RowsAre b 1 0 plan.grid.rows
      → PassedUp (last_band plan) (band_passed plan (last_band plan) 1 b)
  last_passed_up b same rows =
      let last : ℕ = last_band plan in
      let last_in : last < band_count plan = omega (arith, some_bands plan kept) in
      let up = band_up last last_in b same (record { row = λ y c k e. absurd (omega (arith, bands_cover)) })
      (record { row = λ y c k e. rows.row y (omega arith) e e }) in
      record {
        same = up.same output same;
        above = rows_above last last_in up (omega arith) (record { row = λ y c k e. rows.row y c e e });
        here = band_rows_law last last_in up;
        below = record { row = λ y c k e. absurd (omega (arith, bands_cover)) };
      }

  bands_passed_up_law : (b : List ℕ) → PassedUp (last_band plan) b → (n : ℕ) → n ≤ last_band plan
      → PassedUp (last_band plan - n) (bands_passed_up plan n b)
  unfolding bands_passed_up
  bands_passed_up_law b start zero h = let e : last_band plan - 0 ≡ last_band plan = omega arith in rw e start
  bands_passed_up_law b start (suc n) h =
      let band : ℕ = last_band plan - suc n in
      let e : last_band plan - n ≡ band + 1 = omega arith in
      let u : PassedUp (band + 1) (bands_passed_up plan n b) = rw e at (bands_passed_up_law b start n (omega arith)) in
      let band_in : band < band_count plan = omega arith in
      let next_in : band + 1 < band_count plan = omega arith in
      let up = band_up band band_in _ u.same u.here (part _ _ (omega arith) (omega arith) u.above) in
      let same_up = up.same output u.same in
      let left = band_finished_law (band + 1) next_in _ same_up (rows_below band band_in up (omega arith) u.here) in
      record {
        same = left.same output same_up;
        above =
            rows_above (band + 1) next_in left (omega arith)
            (rows_above band band_in up (omega arith) (part _ _ (omega arith) (omega arith) u.above));
        here = rows_above (band + 1) next_in left (omega arith) (band_rows_law band band_in up);
        below =
            joined (band_rows_law (band + 1) next_in left)
            (rows_below (band + 1) next_in left (omega arith) (rows_below band band_in up (omega arith) u.below));
      }

  steps_are_serial : bands_finished plan (bands_read_down plan words (band_count plan) output)
      ≡ result_words plan (word_map_of plan words) ++ drop (needed_pixels plan) output
  unfolding result_words bands_finished
  steps_are_serial =
      let h : ℕ = plan.grid.rows in
      let w : ℕ = plan.grid.columns in
      let d = bands_read_down_law (band_count plan) (omega arith) in
      let e : last_band plan - last_band plan ≡ 0 = omega arith in
      let start = last_passed_up (bands_read_down plan words (band_count plan) output) d.same
      (part 0 h (omega arith) bands_cover d.done) in
      let up : List ℕ = bands_passed_up plan (last_band plan)
      (band_passed plan (last_band plan) 1 (bands_read_down plan words (band_count plan) output)) in
      let u : PassedUp 0 up = rw e at (bands_passed_up_law _ start (last_band plan) (omega arith)) in
      let first : 0 < band_count plan = some_bands plan kept in
      let step = band_finished_law 0 first up u.same u.here in
      let same = step.same output u.same in
      let all = joined (band_rows_law 0 first step) (rows_below 0 first step (omega arith) u.below) in
      first_words (needed_pixels plan) _ output (band_finished plan 0 up) long same.length_same
      (λ i c.
      let y : i / w < h = row_below h w i c in
      ap (word_at (band_finished plan 0 up)) (sym (div-add-mod' i w))
      ∙ all.row (i / w) (omega arith) y y (i % w) (column_below h w i c)
      ∙ gains_moved plan words (i / w) (i % w))
      same.rest

  -- The same of the buffers that the steps leave, one after another.
  pub steps_reach : {down left : List ℕ} → down ≡ bands_read_down plan words (band_count plan) output
      → left ≡ bands_finished plan down → left ≡ result_words plan (word_map_of plan words) ++ drop (needed_pixels plan) output
  steps_reach d l = l ∙ ap (bands_finished plan) d ∙ steps_are_serial
