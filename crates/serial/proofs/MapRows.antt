-- Rows of a map in a buffer: what the reading of some of them, and a pass over some of them, leaves in each row.
-- Assumes nothing.
use mathlib.Core.Path.{◌≡◌, refl, sym, ap, ◌∙◌}
use mathlib.Core.Bool.{true}
use mathlib.Core.List.{List}
use Prim.Native.Nat.{ℕ, suc, ◌+◌, ◌-◌, ◌*◌, ◌<◌, ◌≤◌}
use native.Mathlib.Nat.{add-mul, mul-le-mul_right}
use native.Mathlib.Decide.{dec_lt}
use native.Mathlib.Omega.{arith}
use lib.ListN.{length}
use Rattle.plan.specs.declared.Plan.{Plan}
use Rattle.plan.specs.Rules.{keeps_rules}
use Rattle.plan.specs.Sizes.{needed_pixels}
use Rattle.buffer.specs.Lists.{word_at}
use Rattle.passes.specs.Filter.{Filter}
use Rattle.axis.specs.Axis.{Axis, columns, rows, Direction, forward, backward, axis_of, direction_of, along}
use Rattle.passes.specs.Passes.{reflect, filter_lines, passes_over, serial_passes}
use Rattle.passes.proofs.Line.{words_before_inside, words_before_past}
use Rattle.passes.proofs.Passes.{filter_line_reads}
use Rattle.passes.proofs.Blocks.{places_before, words_beyond, filter_line_part}
use Rattle.number.specs.Numbers.{row_major}
use Rattle.filter.specs.Windows.{window_of, beyond}
use Rattle.number.proofs.RowMajor.{place_below, same_row_column}
use Rattle.filter.proofs.Windows.{Passed, Histories, window_pass_passed, no_history_law}
use Rattle.buffer.specs.Written.{row_written}
use Rattle.buffer.proofs.Written.{written_length, written_other, written_at}
use Rattle.filter.specs.FilterWords.{gains_first_filters}
use Rattle.filter.specs.PlanFilters.{word_map_of}
use Rattle.serial.specs.Stages.{rows_read, map_rows, history_rows, rows_passed}
use Rattle.serial.proofs.Stages.{rows_in_map, rows_fit}

module _ (plan : Plan) (words : List ℕ) where
  -- The words after the first t passes, all gains in the first.
  abbrev pub after : ℕ → ℕ → ℕ → ℕ
  after t =
      serial_passes (gains_first_filters plan) plan.grid.rows plan.grid.columns (word_map_of plan words) t

  -- Row y of a buffer holds the words after the first t passes.
  abbrev pub RowIs : List ℕ → ℕ → ℕ → Type 0
  RowIs b t y = (x : ℕ) → x < plan.grid.columns → word_at b (row_major plan.grid.columns y x) ≡ after t y x

  -- A buffer has the length of another, and its words past the map.
  pub record SameRest (output b : List ℕ) : Type 0 where
    pub length_same : length b ≡ length output
    pub rest : (z : ℕ) → needed_pixels plan ≤ z → word_at b z ≡ word_at output z

  -- A step from buffer b to buffer c that leaves the words after the first t passes in `height` rows from row `top` on,
  -- and everything else as it was.
  pub record Step (top height t : ℕ) (b c : List ℕ) : Type 0 where
    pub same : (output : List ℕ) → SameRest output b → SameRest output c
    pub others : (s y : ℕ) → (top ≤ y → top + height ≤ y) → RowIs b s y → RowIs c s y
    pub these : (y : ℕ) → top ≤ y → y < top + height → RowIs c t y

  window_word : (b : List ℕ) (top height y x : ℕ)
      → window_of (map_rows plan top height) b y x ≡ word_at b (row_major plan.grid.columns (top + y) x)
  window_word b top height y x = ap (word_at b) (omega arith)

  -- A row from row `top` on, counted from there.
  counted : (b : List ℕ) (t top y : ℕ) → top ≤ y → RowIs b t (top + (y - top)) → RowIs b t y
  counted b t top y h row = let e : top + (y - top) ≡ y = omega arith in rw e at row

  module _ (top height : ℕ) (inside : top + height ≤ plan.grid.rows) where
    -- The place of the first pixel of these rows.
    abbrev from : ℕ
    from = top * plan.grid.columns

    read_row : (b : List ℕ) → needed_pixels plan ≤ length b → (j : ℕ) → j < height
        → RowIs (rows_read plan words top height b) 0 (top + j)
    unfolding row_written serial_passes passes_over
    read_row b long j h x k =
        let place : row_major plan.grid.columns (top + j) x ≡ from + row_major plan.grid.columns j x =
        omega (arith, add-mul top j plan.grid.columns) in
        rw place
        (written_at (λ i. from + i) _ (height * plan.grid.columns) b (λ i j l m e. absurd (omega arith))
        (λ i l. omega (arith, rows_in_map plan top height inside))
        (row_major plan.grid.columns j x) (place_below height plan.grid.columns j x h k))

    -- Reading rows of the map.
    pub read_step : (b : List ℕ) → needed_pixels plan ≤ length b
        → Step top height 0 b (rows_read plan words top height b)
    unfolding row_written
    read_step b long =
        record {
          same = λ output same.
              record {
                length_same = written_length _ _ _ b ∙ same.length_same;
                rest = λ z h.
                    written_other (λ i. from + i) _ (height * plan.grid.columns) b z
                    (λ i l e. absurd (omega (arith, rows_in_map plan top height inside)))
                    ∙ same.rest z h;
              };
          others = λ s y out row x k.
              written_other (λ i. from + i) _ (height * plan.grid.columns) b (row_major plan.grid.columns y x)
              (λ i l e. absurd (outside y x i out k l e))
              ∙ row x k;
          these = λ y h k.
              counted (rows_read plan words top height b) 0 top y h
              (read_row b long (y - top) (omega arith));
        }
      where
        outside : (y x i : ℕ) → (top ≤ y → top + height ≤ y) → x < plan.grid.columns → i < height * plan.grid.columns
            → row_major plan.grid.columns y x ≡ from + i → ⊥
        outside y x i out k l e =
            elim (dec_lt y top) [
              | yes c ↦ omega (arith, place_below top plan.grid.columns y x c k)
              | no c ↦
                  omega (
                    arith,
                    mul-le-mul_right plan.grid.columns (out (omega arith)),
                    add-mul top height plan.grid.columns,
                  )
            ]

  module _ (kept : keeps_rules plan ≡ true) (top height : ℕ) (tall : 0 < height) (inside : top + height ≤ plan.grid.rows) where
    -- What a pass finds beyond each line of these rows, where the rows that it has done before are those of X.
    abbrev beyond_rows : Axis → Direction → (ℕ → ℕ → ℕ) → ℕ → ℕ → ℕ
    beyond_rows columns d X l = words_beyond d plan.grid.rows top height (λ i. X i l)
    beyond_rows rows d X l = λ k. 0

    -- The index of a row that the pass has done before.
    before_index : (d : Direction) (k : ℕ) → k < history_rows columns d plan.grid.rows top height
        → reflect d plan.grid.rows (places_before d plan.grid.rows top height - suc k) ≡ beyond d top height k
    before_index forward k h = refl
    before_index backward k h = omega arith

    before_count : (d : Direction)
        → places_before d plan.grid.rows top height ≡ history_rows columns d plan.grid.rows top height
    before_count forward = refl
    before_count backward = refl

    -- The rows before them that the filter reads hold the words after the first t passes.
    abbrev pub HistoryIs : Axis → Direction → Filter → List ℕ → ℕ → Type 0
    HistoryIs a d f b t =
        (k : ℕ) → k < history_rows a d plan.grid.rows top height → k < f.order → RowIs b t (beyond d top height k)

    histories : (a : Axis) (d : Direction) (f : Filter) (b : List ℕ) (t : ℕ) → HistoryIs a d f b t
        → Histories a d (map_rows plan top height) f (history_rows a d plan.grid.rows top height) (beyond_rows a d (after t)) b
    unfolding words_beyond
    histories columns d f b t done =
        record {
          near = λ l k h e g.
              ap (word_at b) (omega arith)
              ∙ done k e g l h
              ∙ sym
              (words_before_inside (λ k. 0) _ (places_before d plan.grid.rows top height) k (rw before_count e)
              ∙ ap (λ i. after t i l) (before_index d k e));
          far = λ l k h e g.
              sym (words_before_past (λ k. 0) _ (places_before d plan.grid.rows top height) k (rw before_count e));
        }
    histories rows d f b t done = no_history_law rows d (map_rows plan top height) f b

    passed : (pass : ℕ) (b : List ℕ) → needed_pixels plan ≤ length b
        → HistoryIs (axis_of pass) (direction_of pass) (gains_first_filters plan pass) b (suc pass)
        → Passed (axis_of pass) (direction_of pass) (map_rows plan top height) (gains_first_filters plan pass)
        (beyond_rows (axis_of pass) (direction_of pass) (after (suc pass))) b (rows_passed plan top height pass b)
    unfolding rows_passed
    passed pass b long done =
        window_pass_passed pass (map_rows plan top height) (gains_first_filters plan pass) _ b
        (rows_fit plan kept (length b) top height tall inside long _ _) _
        (histories (axis_of pass) (direction_of pass) (gains_first_filters plan pass) b (suc pass) done)

    -- A filter over the lines of these rows, after the rows before them, is the filter over the lines of the map.
    rows_part : (a : Axis) (d : Direction) (f : Filter) (X Y : ℕ → ℕ → ℕ)
        → ((j x : ℕ) → j < height → x < plan.grid.columns → Y j x ≡ X (top + j) x)
        → (j x : ℕ) → j < height → x < plan.grid.columns
        → filter_lines a d f (along a height plan.grid.columns)
        (beyond_rows a d (filter_lines a d f (along a plan.grid.rows plan.grid.columns) (λ l k. 0) X)) Y j x
        ≡ filter_lines a d f (along a plan.grid.rows plan.grid.columns) (λ l k. 0) X (top + j) x
    unfolding filter_lines
    rows_part columns d f X Y e j x h k =
        filter_line_part d f plan.grid.rows top height inside _ (λ i. X i x) (λ i. Y i x) (λ i c. refl)
        (λ i c. e i x c k) j h
    rows_part rows d f X Y e j x h k =
        filter_line_reads d f plan.grid.columns (λ i. 0) (λ i. 0) (Y j) (X (top + j)) (λ i c. refl) (λ i c. e j i h c) x k

    row_done : (pass : ℕ) (b : List ℕ) → needed_pixels plan ≤ length b
        → HistoryIs (axis_of pass) (direction_of pass) (gains_first_filters plan pass) b (suc pass)
        → ((y : ℕ) → top ≤ y → y < top + height → RowIs b pass y) → (j : ℕ) → j < height
        → RowIs (rows_passed plan top height pass b) (suc pass) (top + j)
    unfolding serial_passes passes_over
    row_done pass b long done ready j h x k =
        sym (window_word (rows_passed plan top height pass b) top height j x)
        ∙ (passed pass b long done).at j x h k
        ∙ rows_part (axis_of pass) (direction_of pass) (gains_first_filters plan pass) (after pass)
        (window_of (map_rows plan top height) b)
        (λ j x h k. window_word b top height j x ∙ ready (top + j) (omega arith) (omega arith) x k) j x h k

    -- A pass over rows that the passes before it have left.
    pub pass_step : (pass : ℕ) (b : List ℕ) → needed_pixels plan ≤ length b
        → HistoryIs (axis_of pass) (direction_of pass) (gains_first_filters plan pass) b (suc pass)
        → ((y : ℕ) → top ≤ y → y < top + height → RowIs b pass y)
        → Step top height (suc pass) b (rows_passed plan top height pass b)
    pass_step pass b long done ready =
        let u = passed pass b long done in
        record {
          same = λ output same.
              record {
                length_same = u.length_kept ∙ same.length_same;
                rest = λ z h.
                    u.elsewhere z
                    (λ y x p q e.
                    absurd (omega (arith, place_below plan.grid.rows plan.grid.columns (top + y) x (omega arith) q)))
                    ∙ same.rest z h;
              };
          others = λ s y out row x k.
              u.elsewhere (row_major plan.grid.columns y x)
              (λ j i p q e.
              let r : y ≡ top + j = (same_row_column plan.grid.columns y x (top + j) i k q (e ∙ omega arith)).0 in
              absurd (omega (arith, out (omega arith))))
              ∙ row x k;
          these = λ y h k.
              counted (rows_passed plan top height pass b) (suc pass) top y h
              (row_done pass b long done ready (y - top) (omega arith));
        }
