-- What a link writes is the link of the definitions. Assumes nothing.
use mathlib.Core.Bool.{Bool, true, false, ◌&&◌, cond}
use mathlib.Core.List.{List}
use mathlib.Core.Path.{◌≡◌, refl, ap, ap₂, sym, ◌∙◌, fun_ext}
use mathlib.Core.Logic.{◌≢◌}
use Prim.Native.Nat.{ℕ, zero, suc, ◌+◌, ◌-◌, ◌<◌, ◌≤◌}
use native.Mathlib.Decide.{dec_lt}
use native.Mathlib.Omega.{arith}
use borrow.Author.Tests.{ltb-true}
use lib.Dec.{ltb}
use lib.ListN.{length, set, length-set}
use lib.Seq.{ext_get_or, get_or-set_other}
use Rattle.buffer.specs.Written.{row_written}
use Rattle.word.proofs.Ring.{zero_add, mul_zero}
use Rattle.word.specs.Word.{◌⊕◌, ◌⊗◌}
use Rattle.plan.proofs.Record.{order_limited_at}
use Rattle.number.proofs.Tests.{and_left, and_right}
use Rattle.plan.specs.Sizes.{needed_strips, half_words, order_of}
use Rattle.plan.specs.declared.Plan.{Plan}
use Rattle.buffer.specs.Lists.{word_at}
use Rattle.buffer.proofs.Written.{written_none, written_other}
use Rattle.passes.proofs.Gains.{gains_after_law}
use Rattle.passes.specs.Filter.{Filter}
use Rattle.passes.specs.Gains.{unit_gain, gains_from}
use Rattle.axis.specs.Axis.{axis_of, direction_of, along, line_of}
use Rattle.passes.specs.Passes.{filter_lines, passes_over}
use Rattle.filter.specs.PlanFilters.{filters_of}
use Rattle.filter.specs.declared.FilterWords.{FilterWords}
use Rattle.task_words.proofs.Strips.{in_strip, cell_of}
use Rattle.task_words.proofs.Tasks.{linked_length, linked_holds}
use Rattle.grid.specs.Grid.{rows_of, columns_of}
use Rattle.task_words.specs.declared.Half.TheVariants.{Lone, Linked}
use Rattle.task_words.specs.Strips.{strip_start, strip_words, place_in_strip, strip_place, place_inside, index_of_place, inside_block, edge_word, strip_word, past_edges, strip_written_to}
use Rattle.task_words.specs.Writes.{block_passes, link_word, linked}
use Rattle.strips.proofs.StripRecords.{inside_test, address_is}
use Rattle.strips.specs.StripRecord.{strip_with, strip_of}
use Rattle.strips.specs.declared.Strip.{Strip}
use Rattle.squares.proofs.Response.{response_is}
use Rattle.squares.specs.LinePasses.{response}
use Rattle.squares.specs.LineBuffers.{filter_at}
use Rattle.link.specs.Courses.{unit_gain_filters, course_of, LinkAt, LinkFits}
use Rattle.link.specs.Crossing.{response_words, response_place, Held}
use Rattle.link.specs.Carrying.{response_of}
use Rattle.link.specs.Writing.{linked_word, StripLaid, PlacesWritten}
use Rattle.link.specs.declared.Course.{Course}
use Rattle.link.proofs.Courses.{filter_is, course_fits}
use Rattle.link.proofs.OwnStrip.{places, lines, linked_address_law, strip_laid}
use Rattle.filter.specs.FilterWords.{gains_after}
use Rattle.task_words.specs.ScaledEdges.{scaled_edges}
use Rattle.strips.proofs.Edges.{edge_index}
use Rattle.task_words.proofs.StripReads.{index_below}

-- ---- the passes with their gains

-- Passes with gains over zeros are passes of gain 1 over zeros: the outputs past the edge of each pass take the gains of the
-- passes after it.
gains_past_edges : (filters : ℕ → Filter) (h w : ℕ) (H : ℕ → ℕ → ℕ → ℕ) (s : ℕ)
    → passes_over filters h w H (λ y x. 0) (suc s)
    ≡ passes_over (λ u. unit_gain (filters u)) h w (λ u l k. gains_from filters (suc u) (s - u) ⊗ H u l k) (λ y x. 0) (suc s)
gains_past_edges filters h w H s = fun_ext λ y. fun_ext λ x.
    gains_after_law filters h w H (λ y x. 0) s y x
    ∙ ap
    (λ Z. passes_over (λ u. unit_gain (filters u)) h w (λ u l k. gains_from filters (suc u) (s - u) ⊗ H u l k) Z (suc s) y x)
    (fun_ext λ y. fun_ext λ x. mul_zero (gains_from filters 0 (suc s)))

-- The passes depend on the filters of the passes alone.
passes_filters : (f g : ℕ → Filter) (h w : ℕ) (H : ℕ → ℕ → ℕ → ℕ) (X : ℕ → ℕ → ℕ) (t : ℕ)
    → ((u : ℕ) → u < t → f u ≡ g u) → passes_over f h w H X t ≡ passes_over g h w H X t
unfolding passes_over
passes_filters f g h w H X zero e = refl
passes_filters f g h w H X (suc t) e =
    ap₂ (λ v Z. filter_lines (axis_of t) (direction_of t) v (along (axis_of t) h w) (H t) Z) (e t (omega arith))
    (passes_filters f g h w H X t (λ u b. e u (omega arith)))

-- ---- the words of block k's strip

-- A sum inside the block, by one test or the other.
sum_inside_law : (s t : Bool) {a b v w : ℕ} → s ≡ t → a ≡ b → (s ≡ true → v ≡ w)
    → cond s (a ⊕ v) 0 ≡ cond t b 0 ⊕ cond t w 0
sum_inside_law true t e f g = rw (← e) (ap₂ ◌⊕◌ f (g refl))
sum_inside_law false t e f g = rw (← e) (sym zero_add)

module _ (plan : Plan) (k pass : ℕ) {n : ℕ} (at : LinkAt plan k pass n) (strips responses : List ℕ) (filters : List FilterWords)
    (filters_are : filters ≡ unit_gain_filters plan)
    (held : Held (course_of plan k pass) (response_of (filter_at filters) (course_of plan k pass) (scaled_edges plan strips k pass))
    responses) where
  -- What the passes over zeros give is the response.
  response_word : (line place : ℕ) → line < lines plan k pass → place < order_of plan pass
      → place_inside (direction_of pass) (places plan k pass) (order_of plan pass) place ≡ true
      → line_of (axis_of pass) (block_passes plan k (past_edges plan strips k) (λ y x. 0) (suc pass)) line
      (index_of_place (direction_of pass) (places plan k pass) (order_of plan pass) place)
      ≡ word_at responses (response_place line place)
  unfolding course_of scaled_edges gains_after
  response_word line place h b e =
      let asked = at.strip_at in
      let stands = edge_index (direction_of pass) (order_of plan pass) (places plan k pass) place
      (order_limited_at plan asked.kept pass asked.pass_below) e in
      let inside = index_below (direction_of pass) (places plan k pass) (order_of plan pass) place b e in
      ap
      (λ Z.
      line_of (axis_of pass) Z line (index_of_place (direction_of pass) (places plan k pass) (order_of plan pass) place))
      (gains_past_edges (filters_of plan) (rows_of plan.grid k) (columns_of plan.grid k) (past_edges plan strips k) pass
      ∙ passes_filters (λ u. unit_gain (filters_of plan u)) (filter_at filters) (rows_of plan.grid k) (columns_of plan.grid k)
      (scaled_edges plan strips k pass) (λ y x. 0) (suc pass)
      (λ u c. rw filters_are (sym (filter_is plan u (omega (arith, asked.pass_below))))))
      ∙ response_is (filter_at filters) (rows_of plan.grid k) (columns_of plan.grid k) (scaled_edges plan strips k pass) pass
      asked.pass_below line _
      ∙ ap (response (filter_at filters) (lines plan k pass) (places plan k pass) (scaled_edges plan strips k pass) pass line)
      (omega arith)
      ∙ sym (held.at line place h (record { below = b; low = omega arith; high = omega arith }))

  linked_word_law : (line place : ℕ) → place < order_of plan pass
      → linked_word (strip_of plan Lone k pass) strips responses line place ≡ link_word plan strips k pass line place
  unfolding linked_word link_word strip_word edge_word inside_block strip_of strip_with
  linked_word_law line place h =
      let same = inside_test (direction_of pass) (order_of plan pass) (places plan k pass) place h in
      let in_line = ltb line (lines plan k pass) in
      sum_inside_law _ _ (ap (in_line &&◌) same) (ap (word_at strips) (address_is plan Lone k pass line place))
      (λ t.
      sym
      (response_word line place (ltb-true line (lines plan k pass) (and_left in_line _ t)) h (sym same ∙ and_right in_line _ t)))

  module _ (long : needed_strips plan ≤ length strips) {after : List ℕ}
      (done : PlacesWritten (strip_of plan Lone k pass) (half_words plan) plan.grid.side (order_of plan pass)
      (linked_word (strip_of plan Lone k pass) strips responses) strips after) where
    at_place : (line place : ℕ) → line < plan.grid.side → place < order_of plan pass
        → word_at after (strip_place plan Linked k pass line place)
        ≡ word_at (linked plan k pass strips) (strip_place plan Linked k pass line place)
    at_place line place h b =
        (rw (linked_address_law plan k pass line place) at (done.here line place h b))
        ∙ linked_word_law line place b
        ∙ sym (linked_holds plan k pass at.strip_at.pass_below strips at.strip_at.counted long line place h b)

    inside : (q : ℕ) → q < strip_words plan pass
        → word_at after (strip_start plan Linked k pass + q)
        ≡ word_at (linked plan k pass strips) (strip_start plan Linked k pass + q)
    unfolding strip_place
    inside q h =
        let c = cell_of plan.grid.side (order_of plan pass) (axis_of pass) q h in
        rw c.stands at (at_place c.line c.place c.in_lines c.in_places)

    outside : (z : ℕ) → ((q : ℕ) → q < strip_words plan pass → z ≢ strip_start plan Linked k pass + q)
        → word_at after z ≡ word_at (linked plan k pass strips) z
    unfolding linked strip_written_to row_written strip_place
    outside z out =
        done.rest z
        (λ line place h b e.
        out (place_in_strip (axis_of pass) plan.grid.side (order_of plan pass) line place)
        (in_strip plan.grid.side (order_of plan pass) (axis_of pass) line place h b) (e ∙ linked_address_law plan k pass line place))
        ∙ sym (written_other (λ q. strip_start plan Linked k pass + q) _ (strip_words plan pass) strips z out)

    -- The strips with all places of the strip written are those of the link.
    strip_linked : after ≡ linked plan k pass strips
    strip_linked =
        ext_get_or 0 after (linked plan k pass strips)
        (done.length_kept ∙ sym (linked_length plan k pass at.strip_at.pass_below strips))
        (λ z h.
        elim (dec_lt z (strip_start plan Linked k pass)) [
          | yes l ↦ outside z (λ q c e. omega arith)
          | no l ↦
              elim (dec_lt z (strip_start plan Linked k pass + strip_words plan pass)) [
                | yes b ↦
                    let there : strip_start plan Linked k pass + (z - strip_start plan Linked k pass) ≡ z = omega arith in
                    rw there at (inside (z - strip_start plan Linked k pass) (omega arith))
                | no b ↦ outside z (λ q c e. omega arith)
              ]
        ])

-- ---- the whole link

-- The responses stand after a margin: the first word of the buffer may be any.
pub held_after_margin : {course : Course} {words : ℕ → ℕ → ℕ} {responses : List ℕ} → Held course words responses
    → (word : ℕ) → Held course words (set responses 0 word)
held_after_margin {responses = responses} held word =
    record {
      length_is = length-set responses 0 word ∙ held.length_is;
      at = λ line place l i.
          get_or-set_other responses 0 (response_place line place) word 0 (λ e. omega arith) ∙ held.at line place l i;
    }

module _ (plan : Plan) (k pass : ℕ) {n : ℕ} (at : LinkAt plan k pass n) {course : Course}
    (course_is : course ≡ course_of plan k pass) where
  order_of_course : course.order ≡ order_of plan pass
  unfolding course_of
  order_of_course = ap (λ (c : Course). c.order) course_is

  -- A strip of order 0 has no words.
  pub link_none : (strips : List ℕ) → course.order ≡ 0 → strips ≡ linked plan k pass strips
  unfolding linked strip_written_to row_written
  link_none strips e =
      let none : strip_words plan pass ≡ 0 = rw (← order_of_course, e) (omega arith) in
      rw none (sym (written_none _ _ strips))

  pub link_fits : {filters : List FilterWords} → (course.order ≡ 0 → ⊥) → filters ≡ unit_gain_filters plan
      → LinkFits (record { plan = plan; k = k; course = course; filters = filters }) n
  link_fits some filters_are =
      let asked = at.strip_at in
      let some_order : 0 < order_of plan pass = omega (arith, order_of_course) in
      record {
        kept = asked.kept;
        counted = asked.counted;
        course_fits =
            rw course_is (course_fits plan k pass asked.kept asked.counted asked.pass_below some_order);
        filters_are = filters_are;
        strips_long = at.strips_long;
      }

  pub link_laid : (course.order ≡ 0 → ⊥) → {lone : Strip} → lone ≡ strip_of plan Lone k pass → {shift : ℕ} → shift ≡ half_words plan
      → {r : ℕ} → r ≡ response_words → StripLaid n lone shift course.order plan.grid.side r
  link_laid some lone_is shift_is long =
      rw (lone_is, shift_is, order_of_course) (strip_laid plan k pass at (omega (arith, order_of_course)) long)

  -- What `link` writes.
  pub link_is : {filters : List FilterWords} → filters ≡ unit_gain_filters plan → (strips responses : List ℕ) → length strips ≡ n
      → Held course (response_of (filter_at filters) course (scaled_edges plan strips k course.pass)) responses
      → {lone : Strip} → lone ≡ strip_of plan Lone k pass → {shift : ℕ} → shift ≡ half_words plan → {after : List ℕ}
      → PlacesWritten lone shift plan.grid.side course.order (linked_word lone strips responses) strips after
      → after ≡ linked plan k pass strips
  unfolding course_of
  link_is {filters} filters_are strips responses long held lone_is shift_is done =
      strip_linked plan k pass at strips responses filters filters_are (rw course_is at held) (rw long at.strips_long)
      (rw (lone_is, shift_is, order_of_course) at done)
