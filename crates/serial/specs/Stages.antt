-- Inner: what the steps of the serial passes require, and the folds that they are.
use Rattle.std.specs.Prelude.{◌≡◌, true, List, map, ℕ, zero, suc, ◌+◌, ◌-◌, ◌*◌, ◌<◌, ◌≤◌}
use Rattle.grid.specs.Grid.{block_count, block_extent}
use Rattle.plan.specs.declared.Plan.{Plan}
use Rattle.plan.specs.Rules.{order_limit, keeps_rules}
use Rattle.plan.specs.Sizes.{needed_pixels}
use Rattle.axis.specs.Axis.{Axis, columns, rows, Direction, forward, backward, axis_of, direction_of}
use Rattle.filter.specs.declared.Window.{Window}
use Rattle.buffer.specs.Copies.{words_from}
use Rattle.buffer.specs.Written.{row_written}
use Rattle.filter.specs.FilterWords.{gains_first_filters}
use Rattle.filter.specs.Windows.{window_pass}
use Rattle.serial.specs.declared.Band.{Band}

-- The words of a map, as the passes take them: the word of each pixel.
abbrev pub map_words : {P : Type 0} → (word : P → ℕ) → (map_pixels : List P) → List ℕ
map_words word map_pixels = map word map_pixels

-- The output with so many words of the map read into it from a place on.
abbrev pub words_read : (from count : ℕ) → (words output : List ℕ) → List ℕ
words_read from count words output = row_written from (words_from words from) count output

-- The output with some rows of the map read into it.
abbrev pub rows_read : Plan → (words : List ℕ) → (top height : ℕ) → List ℕ → List ℕ
rows_read plan words top height output = words_read (top * plan.grid.columns) (height * plan.grid.columns) words output

-- What the passes want of a map of m places and an output of n words.
pub record MapFits (plan : Plan) (m n : ℕ) : Type 0 where
  pub kept : keeps_rules plan ≡ true
  pub map_long : needed_pixels plan ≤ m
  pub output_long : needed_pixels plan ≤ n

-- What a pass over some rows of the map wants of an output of n words.
pub record RowsFit (plan : Plan) (n top height pass : ℕ) : Type 0 where
  pub kept : keeps_rules plan ≡ true
  pub is_pass : pass < 4
  pub tall : 0 < height
  pub in_map : top + height ≤ plan.grid.rows
  pub output_long : needed_pixels plan ≤ n

-- The window of `height` rows of the map from row `top` on.
abbrev pub map_rows : Plan → (top height : ℕ) → Window
map_rows plan top height =
    record { stride = plan.grid.columns; top = top; left = 0; height = height; width = plan.grid.columns }

-- How many of a map's rows a pass along columns does before it comes to those rows; a pass along rows begins with each.
abbrev pub history_rows : Axis → Direction → (map_height top height : ℕ) → ℕ
history_rows columns forward map_height top height = top
history_rows columns backward map_height top height = map_height - (top + height)
history_rows rows d map_height top height = 0

-- The output after a pass over these rows, with all rows before them for history.
unfoldable pub rows_passed : Plan → (top height pass : ℕ) → List ℕ → List ℕ
rows_passed plan top height pass output =
    window_pass pass (map_rows plan top height) (history_rows (axis_of pass) (direction_of pass) plan.grid.rows top height)
    (gains_first_filters plan pass) output

-- The side of a band, which is a block of the map's rows: `BAND` of src/lib.rt is the same number.
abbrev pub band_rows : ℕ
band_rows = order_limit

-- How many bands a map has,
abbrev pub band_count : Plan → ℕ
band_count plan = block_count plan.grid.rows band_rows

-- the first row of band n,
abbrev pub band_top : ℕ → ℕ
band_top n = n * band_rows

-- its height,
abbrev pub band_height : Plan → ℕ → ℕ
band_height plan n = block_extent plan.grid.rows band_rows n

-- and both.
abbrev pub band_of : Plan → ℕ → Band
band_of plan n = record { top = band_top n; height = band_height plan n }

-- What a pass over a band wants of an output of n words.
pub record BandFits (plan : Plan) (n band pass : ℕ) : Type 0 where
  pub kept : keeps_rules plan ≡ true
  pub is_pass : pass < 4
  pub counted : band < band_count plan
  pub output_long : needed_pixels plan ≤ n

-- The output after a pass over band n.
abbrev pub band_passed : Plan → (n pass : ℕ) → List ℕ → List ℕ
band_passed plan n pass output = rows_passed plan (band_top n) (band_height plan n) pass output

-- The output after the reading of the first n bands, and the pass down over each once it is read.
unfoldable pub bands_read_down : Plan → (words : List ℕ) → ℕ → List ℕ → List ℕ
bands_read_down plan words zero output = output
bands_read_down plan words (suc n) output =
    band_passed plan n 0 (rows_read plan words (band_top n) (band_height plan n) (bands_read_down plan words n output))

-- The output after both row passes over band n.
unfoldable pub band_finished : Plan → ℕ → List ℕ → List ℕ
band_finished plan n output = band_passed plan n 3 (band_passed plan n 2 output)

-- The last band of a map.
abbrev pub last_band : Plan → ℕ
last_band plan = band_count plan - 1

-- The output after the pass up over n bands above the last, and both row passes over the band below each: the pass up
-- over a band reads the band below it as it left it.
unfoldable pub bands_passed_up : Plan → ℕ → List ℕ → List ℕ
bands_passed_up plan zero output = output
bands_passed_up plan (suc n) output =
    let band : ℕ = last_band plan - suc n in
    band_finished plan (band + 1) (band_passed plan band 1 (bands_passed_up plan n output))

-- The output after the pass up and both row passes over all bands.
unfoldable pub bands_finished : Plan → List ℕ → List ℕ
bands_finished plan output =
    band_finished plan 0 (bands_passed_up plan (last_band plan) (band_passed plan (last_band plan) 1 output))
