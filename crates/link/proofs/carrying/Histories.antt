-- The histories of the lines, weighted by the squares and added to the responses. Assumes nothing.
use mathlib.Core.Path.{◌≡◌, refl, ap, ap₂, sym, ◌∙◌}
use mathlib.Core.List.{List}
use Prim.Native.Nat.{ℕ, zero, suc, ◌+◌, ◌-◌, ◌^◌, ◌<◌}
use native.Mathlib.Omega.{arith}
use native.Mathlib.Numerals.{add-one}
use Rattle.word.proofs.Ring.{add_assoc, zero_right, reduced_small}
use Rattle.word.specs.Word.{◌⊕◌, ◌⊗◌}
use Rattle.plan.specs.Rules.{order_limit}
use Rattle.buffer.specs.Lists.{word_at}
use Rattle.passes.specs.Filter.{Filter}
use Rattle.axis.specs.Axis.{direction_of}
use Rattle.passes.specs.Square.{weighted_sum}
use Rattle.squares.specs.LinePasses.{pass_square, with_histories, crossed, response}
use Rattle.squares.specs.LineBuffers.{row_words, rows_before, filter_at, square_at}
use Rattle.link.specs.Courses.{index_at, CourseFits, edges_of, edge_of}
use Rattle.link.specs.Crossing.{response_place, crossed_words, Held}
use Rattle.link.specs.Carrying.{DistanceAdded, history_word, HistoriesAdded, CarryFits, PassToCarry, Carried, response_of}
use Rattle.link.specs.declared.Course.{Course}
use Rattle.link.specs.declared.BlockLink.{BlockLink}
use Rattle.link.specs.declared.Edge.{Edge}
use Rattle.link.proofs.Courses.{scaled_edges_law}
use Rattle.passes.specs.Table.{sum_of}
use Rattle.number.specs.Numbers.{row_major}

-- ---- the histories of the lines

-- No distance yet.
pub histories_none : (lines places : ℕ) (H : ℕ → ℕ → ℕ) (square : List (List ℕ)) (before : List ℕ)
    → ((z : ℕ) → word_at before z < 2 ^ 64) → HistoriesAdded lines places 0 H square before before
unfolding weighted_sum sum_of
histories_none lines places H square before small =
    record { length_kept = refl; at = λ line p h b. sym (zero_right _ ∙ reduced_small _ (small _)) }

-- One distance more.
pub histories_more : (lines places n : ℕ) (H : ℕ → ℕ → ℕ) (square : List (List ℕ)) (before : List ℕ) {b after : List ℕ}
    {words : ℕ → ℕ} → HistoriesAdded lines places n H square before b → ((line : ℕ) → words line ≡ H line n)
    → DistanceAdded lines places words (square_at square n) b after
    → HistoriesAdded lines places (n + 1) H square before after
unfolding weighted_sum sum_of
histories_more lines places n H square before held e added =
    rw (add-one n)
    (record {
      length_kept = added.length_kept ∙ held.length_kept;
      at = λ line p h b.
          added.at line p h b
          ∙ ap₂ (λ s t. s ⊕ t ⊗ square_at square n p) (held.at line p h b) (e line)
          ∙ add_assoc _ _ _;
    })

-- ---- the histories of a pass, weighted by its square

-- What a weighted sum reads.
sum_reads : (p q v w : ℕ → ℕ) (n : ℕ) → ((j : ℕ) → j < n → p j ≡ q j) → ((j : ℕ) → j < n → v j ≡ w j)
    → weighted_sum n p v ≡ weighted_sum n q w
unfolding weighted_sum sum_of
sum_reads p q v w zero e f = refl
sum_reads p q v w (suc n) e f =
    ap₂ ◌⊕◌ (sum_reads p q v w n (λ j h. e j (omega arith)) (λ j h. f j (omega arith)))
    (ap₂ ◌⊗◌ (e n (omega arith)) (f n (omega arith)))

-- What `carry_pass` does.
pub histories_carried : {link : BlockLink} {strips lines : List ℕ} → CarryFits link strips lines → (pass : ℕ) {responses : ℕ}
    → PassToCarry link.course pass responses → {edge : Edge} → edge ≡ edge_of link pass → {row : ℕ}
    → row ≡ rows_before (filter_at link.filters) pass → {square : List (List ℕ)} {before after : List ℕ}
    → ((j p : ℕ) → j < edge.order → p < order_limit
    → square_at square j p ≡ word_at lines (row_major row_words (row + j) (link.course.from + p)))
    → HistoriesAdded link.course.lines link.course.order edge.order
    (history_word edge.gain (direction_of edge.pass) edge.order edge.strip strips) square before after
    → Carried (filter_at link.filters) link.course pass (edges_of link strips pass) before after
histories_carried {link} {strips} {lines} held pass here edge_is {row} r {square} {before} q added =
    let fits = held.link_fits in
    let h : pass < 4 = omega (arith, here.in_course, fits.course_fits.passes_counted) in
    let order = (filter_at link.filters pass).order in
    let weights = rw edge_is at q in
    let sums = rw edge_is at added in
    record {
      length_kept = sums.length_kept;
      at = λ line place l i.
          sums.at line place l i.below
          ∙ ap (word_at before (response_place line place) ⊕◌)
          (sum_reads _ _ _ _ order (scaled_edges_law fits strips pass h refl refl line)
          (λ j c.
          let low = i.low in
          let high = i.high in
          weights j place c (omega (arith, i.below, fits.course_fits.order_limited))
          ∙ ap (λ z. word_at lines (row_major row_words (z + j) (link.course.from + place))) r
          ∙ ap (word_at lines) (omega arith)
          ∙ held.ready.squares pass j (index_at link.course place) here.from_first here.in_course c (omega arith)));
    }

-- ---- the passes of the link's axis, one after another

-- One history more.
histories_next : (filters : ℕ → Filter) (n : ℕ) (P : ℕ → ℕ → ℕ) (t done passes i word : ℕ) → done < passes
    → with_histories filters n P t (done + 1) (passes - (done + 1)) i word
    ≡ with_histories filters n P t done (passes - done) i word
    ⊕ weighted_sum (filters (t + done)).order (P (t + done))
    (pass_square filters n (t + done) ((t + passes) - (t + done)) i)
unfolding with_histories
histories_next filters n P t done passes i word h =
    let here : (t + passes) - (t + done) ≡ suc (passes - (done + 1)) = omega arith in
    let rest : passes - done ≡ suc (passes - (done + 1)) = omega arith in
    rw (here, rest, add-one done)

module _ (filters : ℕ → Filter) (course : Course) (H : ℕ → ℕ → ℕ → ℕ) where
  -- The responses after the histories of the first passes.
  unfoldable pub carried_to : ℕ → ℕ → ℕ → ℕ
  carried_to done l i =
      with_histories filters course.places (λ v. H v l) course.first done (course.passes - done) i
      (crossed filters course.lines course.places H course.pass i l)

  pub carry_none : {buffer : List ℕ} → Held course (crossed_words filters course H) buffer → Held course (carried_to 0) buffer
  unfolding carried_to with_histories
  carry_none held = record { length_is = held.length_is; at = λ line place h i. held.at line place h i }

  pub carry_next : (done : ℕ) → done < course.passes → {before after : List ℕ} → Held course (carried_to done) before
      → Carried filters course (course.first + done) (H (course.first + done)) before after
      → Held course (carried_to (done + 1)) after
  unfolding carried_to
  carry_next done h held carried =
      record {
        length_is = carried.length_kept ∙ held.length_is;
        at = λ line place b i.
            carried.at line place b i
            ∙ ap
            (◌⊕ weighted_sum (filters (course.first + done)).order (H (course.first + done) line)
            (pass_square filters course.places (course.first + done)
            ((course.first + course.passes) - (course.first + done)) (index_at course place)))
            (held.at line place b i)
            ∙ sym
            (histories_next filters course.places (λ v. H v line) course.first done course.passes
            (index_at course place) _ h);
      }

  pub carry_all : {done : ℕ} {buffer : List ℕ} → CourseFits course → Held course (carried_to done) buffer
      → done ≡ course.passes → Held course (response_of filters course H) buffer
  unfolding carried_to response
  carry_all {done} fits held e =
      let none : course.passes - done ≡ 0 = omega arith in
      record {
        length_is = held.length_is;
        at = λ line place b i.
            held.at line place b i
            ∙ ap
            (λ m.
            with_histories filters course.places (λ v. H v line) course.first done m (index_at course place)
            (crossed filters course.lines course.places H course.pass (index_at course place) line))
            none
            ∙ ap₂
            (λ t s.
            with_histories filters course.places (λ v. H v line) t s 0 (index_at course place)
            (crossed filters course.lines course.places H course.pass (index_at course place) line))
            fits.first_is (e ∙ fits.passes_are);
      }
