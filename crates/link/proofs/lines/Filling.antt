-- The rows of the passes: filled with the lines past a block's edges and with the unit histories, and passed along the link's
-- axis. Assumes nothing.
use mathlib.Core.Bool.{cond}
use mathlib.Core.List.{List}
use mathlib.Core.Path.{◌≡◌, refl, ap, ap₂, sym, ◌∙◌}
use Prim.Native.Nat.{ℕ, ◌+◌, ◌-◌, ◌*◌, ◌<◌, ◌≤◌}
use native.Mathlib.Decide.{dec_lt}
use native.Mathlib.Omega.{arith}
use native.Mathlib.Nat.{add-zero, sub-zero, mul-le-mul_right}
use borrow.Author.Tests.{lt-ltb, le-ltb}
use lib.ListN.{length}
use Rattle.number.proofs.Sums.{total_grows}
use Rattle.plan.specs.Rules.{order_limit}
use Rattle.buffer.specs.Lists.{word_at}
use Rattle.passes.specs.Filter.{Filter}
use Rattle.axis.specs.Axis.{direction_of}
use Rattle.passes.specs.Square.{unit_history}
use Rattle.number.specs.Numbers.{row_major}
use Rattle.squares.proofs.Lines.{margin_below}
use Rattle.squares.proofs.LineRows.{row_passed, rows_next, rows_in_law}
use Rattle.squares.proofs.Units.{units_filled}
use Rattle.squares.specs.LinePasses.{only_at, line_passes, pass_square, row_end}
use Rattle.squares.specs.LineBuffers.{row_words, line_rows, filter_at, rows_before, unit_lines, OrdersFit}
use Rattle.squares.specs.Rows.{JoinsAt, LinesPassed, RowsFilled}
use Rattle.link.specs.Courses.{CourseFits, edges_of, edge_of}
use Rattle.link.specs.Lines.{strip_lines, row_history, row_input, PassFilled, PassToFill, LinesFilled, LinesReady}
use Rattle.link.specs.declared.Course.{Course}
use Rattle.link.specs.declared.BlockLink.{BlockLink}
use Rattle.link.specs.declared.Edge.{Edge}
use Rattle.link.proofs.Courses.{link_orders, scaled_edges_law}
use Rattle.link.proofs.lines.StripRows.{strips_filled}

-- ---- the rows of a pass

module _ (course : Course) (H : ℕ → ℕ → ℕ → ℕ) (pass k : ℕ) where
  strip_history : pass < course.first → row_history course pass k ≡ (λ u i. 0)
  unfolding row_history
  strip_history h = ap (λ z. cond z (λ u i. 0) (only_at pass (unit_history k))) (lt-ltb pass course.first h)

  strip_input : pass < course.first → row_input course H pass k ≡ (λ j. H pass j k)
  unfolding row_input
  strip_input h = ap (λ z. cond z (λ j. H pass j k) (λ i. 0)) (lt-ltb pass course.first h)

  unit_history_law : course.first ≤ pass → row_history course pass k ≡ only_at pass (unit_history k)
  unfolding row_history
  unit_history_law h = ap (λ z. cond z (λ u i. 0) (only_at pass (unit_history k))) (le-ltb pass course.first h)

  unit_input : course.first ≤ pass → row_input course H pass k ≡ (λ i. 0)
  unfolding row_input
  unit_input h = ap (λ z. cond z (λ j. H pass j k) (λ i. 0)) (le-ltb pass course.first h)

-- Rows of other lines, place by place.
rows_as : {places t m row n : ℕ} {P Q : ℕ → ℕ → ℕ → ℕ} {x y : ℕ → ℕ → ℕ} {before after : List ℕ}
    → RowsFilled places t m row n P x before after → ((k u i : ℕ) → P k u i ≡ Q k u i)
    → ((k j : ℕ) → k < n → x k j ≡ y k j) → RowsFilled places t m row n Q y before after
rows_as rows e f =
    record {
      length_kept = rows.length_kept;
      below = rows.below;
      above = rows.above;
      lines = λ k b.
          record {
            inside = λ j c. (rows.lines k b).inside j c ∙ f k j b;
            beside = λ u i a c d. (rows.lines k b).beside u i a c d ∙ e k u i;
          };
    }

-- A pass of the other axis: the lines past the block's edge.
strip_rows : (course : Course) (H : ℕ → ℕ → ℕ → ℕ) (pass row order : ℕ) → pass < course.first → {words : ℕ → ℕ → ℕ}
    {before after : List ℕ}
    → RowsFilled course.places course.first course.passes row order (λ k u i. 0) words before after
    → ((k j : ℕ) → k < order → words k j ≡ H pass j k)
    → RowsFilled course.places course.first course.passes row order (row_history course pass)
    (row_input course H pass) before after
strip_rows course H pass row order h rows e =
    rows_as rows (λ k u i. ap (λ f. f u i) (sym (strip_history course H pass k h)))
    (λ k j b. e k j b ∙ ap (λ f. f j) (sym (strip_input course H pass k h)))

-- A pass of the link's axis: the unit histories.
unit_rows : (course : Course) (H : ℕ → ℕ → ℕ → ℕ) (pass row order : ℕ) → course.first ≤ pass → {before after : List ℕ}
    → RowsFilled course.places course.first course.passes row order (λ j. only_at pass (unit_history j)) (λ j i. 0)
    before after
    → RowsFilled course.places course.first course.passes row order (row_history course pass)
    (row_input course H pass) before after
unit_rows course H pass row order h rows =
    rows_as rows (λ k u i. ap (λ f. f u i) (sym (unit_history_law course H pass k h)))
    (λ k j b. ap (λ f. f j) (sym (unit_input course H pass k h)))

module _ {link : BlockLink} {n pass : ℕ} {before : List ℕ} (fill : PassToFill link n pass before) where
  abbrev order : ℕ
  order = (filter_at link.filters pass).order

  abbrev row : ℕ
  row = rows_before (filter_at link.filters) pass

  pub fill_pass_below : pass < 4
  fill_pass_below = omega (arith, fill.in_course, fill.link_fits.course_fits.passes_counted)

  pub fill_order_limited : order ≤ order_limit
  fill_order_limited = (link_orders fill.link_fits).order_limited pass fill_pass_below

  pub fill_rows_in : row + order ≤ line_rows
  fill_rows_in = rows_in_law (filter_at link.filters) (link_orders fill.link_fits) pass fill_pass_below

  pub fill_long : (row + order) * row_words ≤ length before
  fill_long = omega (arith, mul-le-mul_right row_words fill_rows_in, fill.long)

  pub pass_strips : {at : ℕ} {after : List ℕ} → at ≡ row → {edge : Edge} → edge ≡ edge_of link pass → (strips : List ℕ)
      → pass < link.course.first
      → after ≡ strip_lines edge.gain (direction_of edge.pass) edge.order edge.strip strips at link.course.places edge.order before
      → PassFilled (filter_at link.filters) link.course (edges_of link strips) pass before after
  pass_strips at_is edge_is strips h e =
      strip_rows link.course (edges_of link strips) pass row order h
      (rw (rw edge_is at e, at_is)
      (strips_filled link.course.places row fill.link_fits.course_fits.few_places (edge_of link pass).gain (direction_of pass) order
      (edge_of link pass).strip strips before fill_long fill.zeros link.course.first link.course.passes))
      (λ k j. scaled_edges_law fill.link_fits strips pass fill_pass_below refl refl j k)

  module _ (H : ℕ → ℕ → ℕ → ℕ) where
    pub pass_units : {at : ℕ} {after : List ℕ} → at ≡ row → link.course.first ≤ pass
        → after ≡ unit_lines (direction_of pass) at link.course.places order before
        → PassFilled (filter_at link.filters) link.course H pass before after
    pass_units at_is h e =
        let fits = fill.link_fits.course_fits in
        unit_rows link.course H pass row order h
        (rw (e, at_is)
        (units_filled link.course.places link.course.first link.course.passes pass row order h fill.in_course fits.few_passes
        fits.few_places fill_order_limited before fill_long fill.zeros))

-- ---- the rows of all passes

pub filled_more : (filters : ℕ → Filter) (course : Course) (H : ℕ → ℕ → ℕ → ℕ) (pass : ℕ) → CourseFits course
    → {before after : List ℕ} → LinesFilled filters course H pass before → PassFilled filters course H pass before after
    → LinesFilled filters course H (pass + 1) after
unfolding rows_before
filled_more filters course H pass fits held filled =
    let more = rows_next filters pass refl in
    let few = fits.few_places in
    record {
      length_is = filled.length_kept ∙ held.length_is;
      zeros = λ z h.
          filled.above z (omega (arith, ap (◌* row_words) more)) ∙ held.zeros z (omega (arith, ap (◌* row_words) more));
      lines = λ u k h b.
          elim (dec_lt u pass) [
            | yes l ↦
                let below = total_grows (λ i. (filters i).order) u pass l in
                record {
                  inside = λ j c. filled.below _ (omega arith) ∙ (held.lines u k l b).inside j c;
                  beside = λ v i a d c.
                      filled.below _ (omega (arith, margin_below (direction_of v) course.places i few c))
                      ∙ (held.lines u k l b).beside v i a d c;
                }
            | no l ↦ let e : u ≡ pass = omega arith in rw e (filled.lines k (rw e at b))
          ];
    }

-- ---- after the passes

rows_rise : (filters : ℕ → Filter) (u v : ℕ) → u ≤ v → rows_before filters u ≤ rows_before filters v
unfolding rows_before
rows_rise filters u v h =
    elim (dec_lt u v) [
      | yes l ↦ omega (arith, total_grows (λ i. (filters i).order) u v l)
      | no l ↦ let e : u ≡ v = omega arith in rw e (omega arith)
    ]

-- What `link_lines` makes.
pub lines_ready : (filters : ℕ → Filter) (course : Course) (H : ℕ → ℕ → ℕ → ℕ) → CourseFits course → OrdersFit filters
    → {before after : List ℕ} → LinesFilled filters course H (course.first + course.passes) before
    → LinesPassed filters course.places course.first course.passes before after → LinesReady filters course H after
unfolding row_end pass_square rows_before
lines_ready filters course H fits orders {before} {after} filled lined =
    record {
      length_is = lined.length_kept ∙ filled.length_is;
      ends = λ pass k i h b c.
          passed pass 0 k i (omega (arith, fits.some_passes)) (omega arith) b c
          (record {
            not_before = λ v a. absurd (omega arith);
            from_there = λ v a d. omega (arith, total_grows (λ i. (filters i).order) pass (course.first + v + 1) (omega arith));
          })
          ∙ ap₂ (λ P x. line_passes filters course.places P x (course.first + 0) (course.passes - 0) i)
          (strip_history course H pass k h) (strip_input course H pass k h)
          ∙ ap₂ (λ t m. line_passes filters course.places (λ v k. 0) (λ j. H pass j k) t m i)
          (add-zero course.first ∙ fits.first_is) (sub-zero course.passes ∙ fits.passes_are);
      squares = λ pass k i h b c d.
          let s : ℕ = pass - course.first in
          let at : course.first + s ≡ pass = omega arith in
          let count : course.passes - s ≡ (course.first + course.passes) - pass = omega arith in
          passed pass s k i b (omega arith) c d
          (record {
            not_before = λ v a. omega (arith, rows_rise filters (course.first + v + 1) pass (omega arith));
            from_there = λ v a e. omega (arith, total_grows (λ i. (filters i).order) pass (course.first + v + 1) (omega arith));
          })
          ∙ ap₂ (λ P x. line_passes filters course.places P x (course.first + s) (course.passes - s) i)
          (unit_history_law course H pass k h) (unit_input course H pass k h)
          ∙ ap₂ (λ t m. line_passes filters course.places (only_at pass (unit_history k)) (λ i. 0) t m i) at count;
    }
  where
    passed : (pass s k i : ℕ) → pass < course.first + course.passes → s ≤ course.passes → k < (filters pass).order
        → i < course.places → JoinsAt filters course.first s course.passes (rows_before filters pass + k)
        → word_at after (row_major row_words (rows_before filters pass + k) (order_limit + i))
        ≡ line_passes filters course.places (row_history course pass k) (row_input course H pass k) (course.first + s)
        (course.passes - s) i
    passed pass s k i h a b c joins =
        row_passed filters course.places course.first s course.passes orders fits.passes_counted a lined
        (row_history course pass k) (row_input course H pass k) (rows_before filters pass + k) joins (filled.lines pass k h b) i c
