-- The steps of the serial passes. Assumes nothing.
use mathlib.Core.Path.{◌≡◌, ap, ◌∙◌}
use mathlib.Core.Bool.{true}
use mathlib.Core.List.{List}
use Prim.Native.Nat.{ℕ, ◌+◌, ◌-◌, ◌*◌, ◌<◌, ◌≤◌}
use native.Mathlib.Nat.{add-mul, mul-le-mul_right}
use native.Mathlib.Omega.{arith}
use Rattle.grid.proofs.Extents.{count_positive, extent_positive, extent_inside}
use Rattle.plan.specs.declared.Plan.{Plan}
use Rattle.plan.specs.Rules.{keeps_rules}
use Rattle.plan.specs.Sizes.{needed_pixels}
use Rattle.plan.proofs.Record.{rules}
use Rattle.plan.proofs.Needed.{bounds}
use Rattle.axis.specs.Axis.{Axis, columns, rows, Direction, forward, backward, axis_of, direction_of}
use Rattle.filter.specs.declared.FilterWords.{FilterWords}
use Rattle.filter.specs.FilterWords.{filter_with, gains_first_words}
use Rattle.filter.specs.Windows.{window_pass, WindowFits}
use Rattle.filter.proofs.Filters.{gains_first_words_filter}
use Rattle.filter.proofs.WindowWords.{fits_alone}
use Rattle.serial.specs.declared.Band.{Band}
use Rattle.serial.specs.Stages.{RowsFit, map_rows, history_rows, rows_passed, band_rows, band_count, band_of}

-- ---- windows of the map

-- Some rows of a map have no more pixels than the map.
pub rows_in_map : (plan : Plan) (top height : ℕ) → top + height ≤ plan.grid.rows
    → top * plan.grid.columns + height * plan.grid.columns ≤ needed_pixels plan
rows_in_map plan top height inside =
    omega (arith, add-mul top height plan.grid.columns, mul-le-mul_right plan.grid.columns inside)

-- ---- the bands of a map

pub some_bands : (plan : Plan) → keeps_rules plan ≡ true → 1 ≤ band_count plan
some_bands plan kept = count_positive plan.grid.rows band_rows (omega arith) (rules plan kept).rows_low

-- The rows of a band are in the map,
pub band_fits : (plan : Plan) (n : ℕ) {band : Band} {m pass : ℕ} → band ≡ band_of plan n → n < band_count plan
    → keeps_rules plan ≡ true → pass < 4 → needed_pixels plan ≤ m → RowsFit plan m band.top band.height pass
band_fits plan n e counted kept is_pass long =
    rw e
    (record {
      kept = kept;
      is_pass = is_pass;
      tall = extent_positive plan.grid.rows band_rows n counted;
      in_map = extent_inside plan.grid.rows band_rows n counted;
      output_long = long;
    })

-- and have no more pixels than it,
pub band_in_map : (plan : Plan) (n : ℕ) {band : Band} → band ≡ band_of plan n → n < band_count plan
    → band.top * plan.grid.columns + band.height * plan.grid.columns ≤ needed_pixels plan
band_in_map plan n e counted =
    rw e (rows_in_map plan _ _ (extent_inside plan.grid.rows band_rows n counted))

-- which are few.
pub band_small : (plan : Plan) (n : ℕ) {band : Band} → band ≡ band_of plan n → n < band_count plan → keeps_rules plan ≡ true
    → (band.height * plan.grid.columns ≤ 16777216) × (band.top * plan.grid.columns ≤ 16777216)
band_small plan n e counted kept =
    let inside = band_in_map plan n e counted in
    let few = (bounds plan kept).pixels_high in
    (omega arith, omega arith)

-- What the functions that go over bands need of them.
pub ruleset bands = (band_fits, band_in_map, band_small)

-- ---- passes over rows

module _ (plan : Plan) (kept : keeps_rules plan ≡ true) (n top height : ℕ) (tall : 0 < height)
    (inside : top + height ≤ plan.grid.rows) (long : needed_pixels plan ≤ n) where
  rows_in_law : (top + height) * plan.grid.columns ≤ n
  rows_in_law = omega (arith, mul-le-mul_right plan.grid.columns inside)

  pub rows_fit : (a : Axis) (d : Direction)
      → WindowFits n a d (map_rows plan top height) (history_rows a d plan.grid.rows top height)
  rows_fit columns forward =
      record {
        tall = tall;
        wide = (rules plan kept).columns_low;
        start = omega arith;
        in_row = omega arith;
        in_buffer = omega (arith, rows_in_law);
      }
  rows_fit columns backward =
      let e : top + height + (plan.grid.rows - (top + height)) ≡ plan.grid.rows = omega arith in
      record {
        tall = tall;
        wide = (rules plan kept).columns_low;
        start = omega arith;
        in_row = omega arith;
        in_buffer = rw e long;
      }
  rows_fit rows d =
      fits_alone rows d (map_rows plan top height) tall (rules plan kept).columns_low (omega arith) rows_in_law

-- With the words of the plan's filter and the rows before, a pass is that of the plan.
pub rows_passed_law : (plan : Plan) (top height pass : ℕ) (output : List ℕ) {words : FilterWords} {history : ℕ} {b : List ℕ}
    → words ≡ gains_first_words plan pass
    → history ≡ history_rows (axis_of pass) (direction_of pass) plan.grid.rows top height
    → b ≡ window_pass pass (map_rows plan top height) history (filter_with words) output
    → b ≡ rows_passed plan top height pass output
unfolding rows_passed
rows_passed_law plan top height pass output {words} {history} e g f =
    f
    ∙ ap (λ q. window_pass pass (map_rows plan top height) q (filter_with words) output) g
    ∙ ap
    (λ z.
    window_pass pass (map_rows plan top height)
    (history_rows (axis_of pass) (direction_of pass) plan.grid.rows top height) z output)
    (ap filter_with e ∙ gains_first_words_filter plan pass)
