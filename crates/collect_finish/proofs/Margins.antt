-- The margins of the work array: they lie apart from each other and from the block, and the rectangle of a strip that
-- is copied into one makes it what stands past the block's edge. Assumes nothing.
use mathlib.Core.Path.{◌≡◌, refl, sym, ap, ap₂, ◌∙◌}
use mathlib.Core.Bool.{Bool, true, false, cond, false≢true}
use mathlib.Core.List.{List}
use mathlib.Core.Logic.{◌≢◌}
use Prim.Native.Nat.{ℕ, zero, suc, ◌+◌, ◌-◌, ◌≤◌, ◌<◌}
use native.Mathlib.Omega.{arith}
use lib.Dec.{ltb, leb}
use lib.ListN.{length}
use borrow.Author.Tests.{ltb-true, leb-true, lt-ltb, le-leb}
use Rattle.word.specs.Word.{◌⊗◌}
use Rattle.word.proofs.Ring.{mul_zero}
use Rattle.plan.specs.declared.Plan.{Plan}
use Rattle.plan.specs.Rules.{order_limit}
use Rattle.buffer.specs.Lists.{word_at}
use Rattle.number.proofs.Tests.{and_left, and_right}
use Rattle.axis.specs.Axis.{Axis, columns, rows, Direction, forward, backward, axis_of, direction_of, along, across, is_backward}
use Rattle.filter.specs.Windows.{beyond, words_beside_window}
use Rattle.number.proofs.RowMajor.{same_row_column}
use Rattle.axis.proofs.Passes.{axis_columns}
use Rattle.plan.specs.Sizes.{order_of}
use Rattle.task_words.specs.Strips.{from_edge}
use Rattle.grid.specs.declared.BlockShape.{BlockShape}
use Rattle.strips.specs.declared.Strip.{Strip}
use Rattle.strips.specs.StripRecord.{place_held, word_held, address_in, strip_read}
use Rattle.buffer.specs.Copies.{stride_place, stride_scaled, stride_written}
use Rattle.collect_finish.specs.Work.{work_stride, work_words, work_window, pixel_in, work_place, ShapeFits, margin_start, margin_first, margin_place, MarginClear, MarginLoaded}
use Rattle.buffer.proofs.Copies.{rectangle_length, rectangle_at, rectangle_other}
use Rattle.collect_finish.proofs.WorkPlaces.{line_place_law, work_apart, work_below, lines_small, extent_small, across_below, along_below, outside_block}
use Rattle.collect_finish.proofs.WorkCells.{ClearOutside}
use Rattle.collect_finish.proofs.StripRectangles.{StripLies}
use Rattle.grid.specs.Shapes.{shape_extent, shape_lines}

-- The words beside a window are those of the work array's margin.
pub beside_place : (a : Axis) (d : Direction) (h w : ℕ) (work : List ℕ) (l i : ℕ)
    → words_beside_window a d (work_window h w) work l i ≡ word_at work (work_place a l (beyond d order_limit (along a h w) i))
beside_place columns d h w work l i = refl
beside_place rows d h w work l i = refl

-- A distance past the edge is a place of the strip.
beyond_place : (d : Direction) (order n i : ℕ) → order ≤ order_limit → i < order
    → beyond d order_limit n i ≡ margin_start d order n + from_edge d order i
beyond_place forward order n i h b = omega arith
beyond_place backward order n i h b = refl

-- A margin lies in the array, outside the block.
pub margin_room : (d : Direction) (order n : ℕ) → order ≤ order_limit → n ≤ 32 → margin_start d order n + order ≤ work_stride
margin_room forward order n h s = omega arith
margin_room backward order n h s = omega arith

margin_index : (d : Direction) (order n i : ℕ) → order ≤ order_limit → n ≤ 32 → i < order
    → margin_start d order n + i < work_stride
margin_index d order n i h s b = omega (arith, margin_room d order n h s)

margin_outside : (d : Direction) (order n i : ℕ) → order ≤ order_limit → i < order
    → order_limit ≤ margin_start d order n + i → margin_start d order n + i < order_limit + n → ⊥
margin_outside forward order n i h b p q = omega arith
margin_outside backward order n i h b p q = omega arith

-- ---- margins lie apart

axes_differ : columns ≢ rows
axes_differ e = false≢true (ap is_rows e)
  where
    is_rows : Axis → Bool
    is_rows columns = false
    is_rows rows = true

passes_differ : (t u : ℕ) → t < u → u < 4 → axis_of t ≡ axis_of u → direction_of t ≡ direction_of u → ⊥
passes_differ zero zero h g e f = omega arith
passes_differ zero (suc zero) h g e f = false≢true (ap is_backward f)
passes_differ zero (suc (suc u)) h g e f = axes_differ e
passes_differ (suc zero) zero h g e f = omega arith
passes_differ (suc zero) (suc zero) h g e f = omega arith
passes_differ (suc zero) (suc (suc u)) h g e f = axes_differ e
passes_differ (suc (suc t)) zero h g e f = omega arith
passes_differ (suc (suc t)) (suc zero) h g e f = omega arith
passes_differ (suc (suc t)) (suc (suc u)) h g e f =
    passes_differ t u (omega arith) (omega arith) (axis_columns t (omega arith) ∙ sym (axis_columns u (omega arith))) f

-- At the two ends of a line,
ends_apart : (d e : Direction) (o p n i j : ℕ) → (d ≡ e → ⊥) → o ≤ order_limit → p ≤ order_limit → i < o → j < p
    → margin_start d o n + i ≡ margin_start e p n + j → ⊥
ends_apart forward forward o p n i j q a b c f g = q refl
ends_apart forward backward o p n i j q a b c f g = omega arith
ends_apart backward forward o p n i j q a b c f g = omega arith
ends_apart backward backward o p n i j q a b c f g = q refl

-- and at the ends of columns and of rows.
crossed : (d e : Direction) (o p h w l i m j : ℕ) → h ≤ 32 → w ≤ 32 → o ≤ order_limit → p ≤ order_limit → l < w → i < o
    → m < h → j < p → work_place columns l (margin_start d o h + i) ≡ work_place rows m (margin_start e p w + j) → ⊥
crossed d e o p h w l i m j hh hw ho hp hl hi hm hj g =
    let s =
    same_row_column work_stride (margin_start d o h + i) (order_limit + l) (order_limit + m) (margin_start e p w + j)
    (omega arith) (margin_index e p w j hp hw hj) g in
    margin_outside d o h i ho hi (omega (arith, s.0)) (omega (arith, s.0))

apart : (a b : Axis) (d e : Direction) (o p h w l i m j : ℕ) → (a ≡ b → d ≡ e → ⊥) → h ≤ 32 → w ≤ 32 → o ≤ order_limit
    → p ≤ order_limit → l < across a h w → i < o → m < across b h w → j < p
    → work_place a l (margin_start d o (along a h w) + i) ≡ work_place b m (margin_start e p (along b h w) + j) → ⊥
apart columns columns d e o p h w l i m j q hh hw ho hp hl hi hm hj g =
    ends_apart d e o p h i j (q refl) ho hp hi hj
    (work_apart columns l _ m _ (omega arith) (margin_index d o h i ho hh hi) (omega arith) (margin_index e p h j hp hh hj) g).1
apart rows rows d e o p h w l i m j q hh hw ho hp hl hi hm hj g =
    ends_apart d e o p w i j (q refl) ho hp hi hj
    (work_apart rows l _ m _ (omega arith) (margin_index d o w i ho hw hi) (omega arith) (margin_index e p w j hp hw hj) g).1
apart columns rows d e o p h w l i m j q hh hw ho hp hl hi hm hj g =
    crossed d e o p h w l i m j hh hw ho hp hl hi hm hj g
apart rows columns d e o p h w l i m j q hh hw ho hp hl hi hm hj g =
    crossed e d p o h w m j l i hh hw hp ho hm hj hl hi (sym g)

pub margins_apart : (plan : Plan) (shape : BlockShape) → ShapeFits shape → (t u : ℕ) → t < u → u < 4
    → order_of plan t ≤ order_limit → order_of plan u ≤ order_limit → (l i m j : ℕ)
    → l < shape_lines shape t → i < order_of plan t → m < shape_lines shape u → j < order_of plan u
    → margin_place plan shape u m j ≢ margin_place plan shape t l i
margins_apart plan shape fits t u later counted low high l i m j hl hi hm hj g =
    apart (axis_of t) (axis_of u) (direction_of t) (direction_of u) (order_of plan t) (order_of plan u) shape.rows
    shape.columns l i m j (passes_differ t u later counted) fits.rows_high fits.columns_high low high hl hi hm hj
    (sym g)

-- ---- one margin

turned : (a : Axis) (i l : ℕ)
    → (across a (along a i l) (across a i l) ≡ l) × (along a (along a i l) (across a i l) ≡ i)
turned columns i l = (refl, refl)
turned rows i l = (refl, refl)

turned_below : (a : Axis) (places lines y x : ℕ) → y < along a places lines → x < across a places lines
    → (across a y x < lines) × (along a y x < places)
turned_below columns places lines y x p q = (q, p)
turned_below rows places lines y x p q = (p, q)

module _ (plan : Plan) (shape : BlockShape) (fits : ShapeFits shape) (pass : ℕ) (limited : order_of plan pass ≤ order_limit) where
  abbrev a : Axis
  a = axis_of pass

  abbrev d : Direction
  d = direction_of pass

  abbrev order : ℕ
  order = order_of plan pass

  abbrev place : ℕ → ℕ → ℕ
  place l i = margin_place plan shape pass l i

  line_in_law : (l : ℕ) → l < shape_lines shape pass → order_limit + l < work_stride
  line_in_law l b = omega (arith, lines_small fits pass)

  index_in_law : (i : ℕ) → i < order → margin_first plan shape pass + i < work_stride
  index_in_law i b = margin_index d order (shape_extent shape pass) i limited (extent_small fits pass) b

  pub margin_not_block : (l i : ℕ) → l < shape_lines shape pass → i < order → (y x : ℕ) → y < shape.rows → x < shape.columns
      → place l i ≢ pixel_in y x
  margin_not_block l i b c =
      outside_block fits pass l (margin_first plan shape pass + i) (line_in_law l b) (index_in_law i c)
      (λ _ low high. margin_outside d order (shape_extent shape pass) i limited c low high)

  -- Zeros around the block are zeros in the margin.
  pub margin_clear : (work : List ℕ) → ClearOutside shape work → MarginClear plan shape pass work
  margin_clear work clear = record { at = λ l i b c. clear.around _ (margin_not_block l i b c) }

  -- The words past the edge, nearest first.
  pub margin_beside : (work : List ℕ) (l i : ℕ) → i < order
      → words_beside_window a d (work_window shape.rows shape.columns) work l i ≡ word_at work (place l (from_edge d order i))
  margin_beside work l i c =
      beside_place a d shape.rows shape.columns work l i
      ∙ ap (λ z. word_at work (work_place a l z)) (beyond_place d order (shape_extent shape pass) i limited c)

  -- ---- the strip's rectangle copied

  module _ (gain n : ℕ) (strip : Strip) (strips before after : List ℕ) (lies : StripLies a n order (shape_lines shape pass) strip)
      (sized : length before ≡ work_words) where
    abbrev places : ℕ
    places = strip.past - strip.first

    abbrev h : ℕ
    h = along a places strip.lines

    abbrev w : ℕ
    w = across a places strip.lines

    abbrev to : ℕ
    to = work_place a 0 (margin_first plan shape pass + strip.first)

    abbrev words : ℕ → ℕ → ℕ
    words =
        stride_scaled gain strips (address_in strip 0 strip.first)
        (along a strip.place_step strip.line_step)

    -- A place of the rectangle is one of the margin.
    cell_is : (y x : ℕ) → stride_place to work_stride y x ≡ place (across a y x) (strip.first + along a y x)
    cell_is y x =
        line_place_law a (margin_first plan shape pass + strip.first) y x ∙ ap (work_place a (across a y x)) (omega arith)

    cell_line : (y x : ℕ) → y < h → x < w → across a y x < strip.lines
    cell_line y x p q = (turned_below a places strip.lines y x p q).0

    cell_place : (y x : ℕ) → y < h → x < w → strip.first + along a y x < strip.past
    cell_place y x p q = omega (arith, (turned_below a places strip.lines y x p q).1, lies.ordered)

    cell_line_in : (y x : ℕ) → y < h → x < w → across a y x < shape_lines shape pass
    cell_line_in y x p q = omega (arith, cell_line y x p q, lies.few_lines)

    cell_place_in : (y x : ℕ) → y < h → x < w → strip.first + along a y x < order
    cell_place_in y x p q = omega (arith, cell_place y x p q, lies.few_places)

    -- The rectangle lies in the array.
    pub cells_fit : (y x : ℕ) → y < h → x < w → stride_place to work_stride y x < work_words
    cells_fit y x p q =
        rw (cell_is y x)
        (work_below a (across a y x) _ (line_in_law _ (cell_line_in y x p q)) (index_in_law _ (cell_place_in y x p q)))

    cells_apart : (y x v u : ℕ) → y < h → x < w → v < h → u < w → stride_place to work_stride y x ≡ stride_place to work_stride v u
        → (y ≡ v) × (x ≡ u)
    cells_apart y x v u p q r s e =
        let t =
        work_apart a (across a y x) _ (across a v u) _ (line_in_law _ (cell_line_in y x p q)) (index_in_law _ (cell_place_in y x p q))
        (line_in_law _ (cell_line_in v u r s)) (index_in_law _ (cell_place_in v u r s)) (sym (cell_is y x) ∙ e ∙ cell_is v u) in
        by a t.0 (omega (arith, t.1))
      where
        by : (a : Axis) → across a y x ≡ across a v u → along a y x ≡ along a v u → (y ≡ v) × (x ≡ u)
        by columns f g = (g, f)
        by rows f g = (f, g)

    module _ (copied : after ≡ stride_written to work_stride w words h before) (clear : MarginClear plan shape pass before) where
      -- A word of the strip,
      word_copied : (l i : ℕ) → word_held strip l i ≡ true → word_at after (place l i) ≡ gain ⊗ word_at strips (address_in strip l i)
      word_copied l i e =
          let line = ltb-true l strip.lines (and_left _ (place_held strip i) e) in
          let rest = and_right (ltb l strip.lines) (place_held strip i) e in
          let low = leb-true strip.first i (and_left _ (ltb i strip.past) rest) in
          let high = ltb-true i strip.past (and_right (leb strip.first i) _ rest) in
          let j : ℕ = i - strip.first in
          let y : ℕ = along a j l in
          let x : ℕ = across a j l in
          let back : strip.first + j ≡ i = omega arith in
          let at : (across a y x ≡ l) × (strip.first + along a y x ≡ i) =
          ((turned a j l).0, ap (strip.first +◌) (turned a j l).1 ∙ back) in
          let p : y < h = along_below a places strip.lines j l (omega arith) line in
          let q : x < w = across_below a places strip.lines j l (omega arith) line in
          ap₂ word_at copied (sym (cell_is y x ∙ ap₂ place at.0 at.1))
          ∙ rectangle_at (stride_place to work_stride) words w h before cells_apart
          (λ v u r s. rw sized (cells_fit v u r s)) y x p q
          ∙ ap (λ z. gain ⊗ word_at strips z) (lies.addressed y x (cell_line y x p q) ∙ ap₂ (address_in strip) at.0 at.1)

      -- and a place that has none.
      nothing_copied : (l i : ℕ) → l < shape_lines shape pass → i < order → word_held strip l i ≡ false → word_at after (place l i) ≡ 0
      nothing_copied l i b c e =
          ap (λ z. word_at z (place l i)) copied
          ∙ rectangle_other (stride_place to work_stride) words w h before _
          (λ y x p q f.
          let s =
          work_apart a l _ (across a y x) _ (line_in_law l b) (index_in_law i c) (line_in_law _ (cell_line_in y x p q))
          (index_in_law _ (cell_place_in y x p q)) (f ∙ cell_is y x) in
          let same : i ≡ strip.first + along a y x = omega (arith, s.1) in
          false≢true
          (sym e
          ∙ rw (
            s.0,
            same,
            lt-ltb (across a y x) strip.lines (cell_line y x p q),
            le-leb strip.first (strip.first + along a y x) (omega arith),
            lt-ltb (strip.first + along a y x) strip.past (cell_place y x p q),
          )))
          ∙ clear.at l i b c

      pub margin_loaded : MarginLoaded plan shape pass gain strip strips before after
      unfolding strip_read
      margin_loaded =
          record {
            length_kept = ap length copied ∙ rectangle_length (stride_place to work_stride) words w h before;
            at = λ l i b c. by l i b c (word_held strip l i) refl;
            elsewhere =
                λ z out.
                ap (λ y. word_at y z) copied
                ∙ rectangle_other (stride_place to work_stride) words w h before z
                (λ y x p q e. out _ _ (cell_line_in y x p q) (cell_place_in y x p q) (e ∙ cell_is y x));
          }
        where
          by : (l i : ℕ) → l < shape_lines shape pass → i < order → (t : Bool) → word_held strip l i ≡ t
              → word_at after (place l i) ≡ gain ⊗ cond t (word_at strips (address_in strip l i)) 0
          by l i b c true e = word_copied l i e
          by l i b c false e = nothing_copied l i b c e ∙ sym (mul_zero gain)
