-- Demand 3 with recalls: the claim holds of every list of steps. Assumes nothing.
use mathlib.Core.Path.{◌≡◌, refl, ap, ap₂, sym, ◌∙◌}
use mathlib.Core.Bool.{Bool, true, false, not, ◌&&◌, ◌||◌, cond, and-false}
use mathlib.Core.List.{List, [], ◌∷◌}
use mathlib.Core.Logic.{⊎_elim}
use Prim.Native.Nat.{ℕ, suc, ◌≤◌, ◌<◌}
use native.Mathlib.Decide.{ℕ_discrete}
use lib.IntN.{ℤ}
use lib.Dec.{ltb}
use lib.ListN.{length}
use lib.Seq.{ext_get_or}
use borrow.Author.Tests.{le-ltb, ltb-true, eq-eqb}
use Rattle.number.proofs.Tests.{lt_or_ge, and_left, and_right}
use Rattle.refusal.specs.Refusals.{Answer, accepted, refused}
use Rattle.refusal.specs.Table.{if_accepted}
use Rattle.grid.specs.Grid.{block_total, rows_of, columns_of, block_pixel_place}
use Rattle.plan.specs.declared.Plan.{Plan}
use Rattle.plan.specs.Rules.{keeps_rules}
use Rattle.plan.specs.Sizes.{needed_marks, needed_strips, needed_pixels, task_count, order_of}
use Rattle.plan.proofs.Needed.{bounds}
use Rattle.buffer.specs.Lists.{word_at}
use Rattle.tasks.specs.Tasks.{BlockTask, has_task, exists, ready, nothing_done}
use Rattle.tasks.specs.Counts.{done_count}
use Rattle.tasks.proofs.Existence.{has_exists}
use Rattle.tasks.proofs.Needs.{needs_none, ready_undone}
use Rattle.tasks.proofs.Counting.{task_count_law, all_of_count}
use Rattle.tasks.proofs.Marking.{mark_same}
use Rattle.tasks.proofs.Verdicts.{ready_accepted}
use Rattle.tasks.proofs.Progress.{also_new, Sound}
use Rattle.report.specs.Report.{progress_of, report}
use Rattle.report.specs.Values.{values_of}
use Rattle.report.proofs.Claims.{told, reported}
use Rattle.filter.specs.PlanFilters.{map_of, serial_result}
use Rattle.serial.specs.Serial.{result_words, serial_output}
use Rattle.serial.proofs.Outputs.{heights_output}
use Rattle.serial.proofs.SerialAnswers.{long_enough as serial-accepts, output_of_accepted}
use Rattle.serial.proofs.FirstWords.{first_words}
use Rattle.task_words.specs.declared.Half.TheVariants.{Lone, Linked}
use Rattle.task_words.specs.Strips.{strip_place}
use Rattle.task_words.proofs.Places.{side_fits}
use Rattle.recall.specs.Recall.{reaches, clears, done_without}
use Rattle.recall.proofs.Closure.{clears_what_needs_it}
use Rattle.job_spec.specs.Calls.{Buffers, start_answer, started, task_answer, after_calls}
use Rattle.job_spec.specs.Demand3.{Finished, done_after}
use Rattle.job_spec.specs.Steps.{Step, perform, after_steps, step_answer, step_answers, is_long, accepts, done_by_step, done_by_steps, done_now, due_to_step, was_made, was_cleared, ClearedDoneAgain, on_map}
use Rattle.job_spec.specs.Rescan.{Unchanged, RightFor, KeptFrom, RescanClaim, Rescan, AcceptedStep, RecallClears, AcceptedTwice}
use Rattle.job_spec.proofs.Cover.{pixel_of}
use Rattle.job_spec.proofs.Done.{clash, made_is_done, fresh_done}
use Rattle.job_spec.proofs.Invariant.{Kept, only_sound, by_accepts, step_answered, kept_steps, steps_answered}
use Rattle.job_spec.proofs.KeptWords.{words_kept}
use Rattle.job_spec.proofs.JudgedSteps.{judged_all, judged_one}
use Rattle.job_spec.proofs.OnMap.{after_on_map, done_on_map, unchanged_on_map, nothing_cleared}
use Rattle.job_spec.proofs.Start.{start_tells}
use Rattle.job_spec.proofs.Started.{start_kept}

-- ---- all tasks done

-- With all tasks done every block is finished.
all_finished : (plan : Plan) → keeps_rules plan ≡ true → (done : ℕ → ℕ → Bool) → Sound plan.grid done
    → done_count plan.grid done ≡ task_count plan → (k : ℕ) → k < needed_marks plan → Finished done k
unfolding has_task
all_finished plan kept done sound all k h =
    let known = bounds plan kept in
    all_of_count plan.grid done (only_sound plan done sound)
    (all ∙ sym (task_count_law plan.grid known.block_rows_low known.block_columns_low))
    5 k (has_exists plan.grid k h 5 refl)

-- With every block finished the output is that of the serial call: its words below h×w are the result of left, and the others are
-- as they were.
whole_output : (plan : Plan) → keeps_rules plan ≡ true → (lent : Buffers) → needed_pixels plan ≤ length lent.output
    → (done : ℕ → ℕ → Bool) (now : Buffers) → Kept plan lent done now → (X : List ℤ) → needed_pixels plan ≤ length X
    → RightFor plan X done now → done_count plan.grid done ≡ task_count plan → now.output ≡ serial_output plan X lent.output
unfolding result_words
whole_output plan rules lent long done now kept X map_long right all =
    first_words (needed_pixels plan) _ lent.output now.output long kept.output_length
    (λ q h.
    let pixel = pixel_of plan (side_fits plan rules).side_low q h in
    ap (word_at now.output) (sym pixel.place_is)
    ∙ right.finished_blocks pixel.block pixel.y pixel.x
    (all_finished plan rules done kept.sound all pixel.block pixel.block_below) pixel.row_below pixel.column_below
    ∙ ap₂ (serial_result plan (map_of plan X) 4) pixel.row_is pixel.column_is)
    kept.output_past
    ∙ output_of_accepted plan _ (length X) lent.output (serial-accepts plan (length X) (length lent.output) rules map_long long)
    ∙ heights_output plan X lent.output

-- ---- the same tasks done

-- Two states that began on one, both right for one map, with the same tasks done and those alone ever made, are equal as lists:
-- a word that differed would be one of a done task, where both are right, or of none, where both are as at the beginning.
module _ (plan : Plan) (X : List ℤ) (lent start : Buffers) (done other : ℕ → ℕ → Bool) (now then : Buffers)
    (kept : Kept plan lent done now) (kept_then : Kept plan lent other then) (right : RightFor plan X done now)
    (right_then : RightFor plan X other then) (words : KeptFrom plan start done now) (words_then : KeptFrom plan start other then)
    (agree : (t k : ℕ) → done t k ≡ other t k) where
  same_there : (t k : ℕ) → done t k ≡ true → other t k ≡ true
  same_there t k e = sym (agree t k) ∙ e

  same_back : (t k : ℕ) → other t k ≡ true → done t k ≡ true
  same_back t k e = agree t k ∙ e

  marks_same : now.marks ≡ then.marks
  marks_same =
      ext_get_or 0 now.marks then.marks (kept.marks_length ∙ sym kept_then.marks_length)
      (λ k _.
      ⊎_elim
      (λ (h : k < needed_marks plan). kept.shows k h ∙ mark_same done other k (λ t _. agree t k) ∙ sym (kept_then.shows k h))
      (λ (h : needed_marks plan ≤ k). kept.marks_past k h ∙ sym (kept_then.marks_past k h))
      (lt_or_ge k (needed_marks plan)))

  lone_same : (k pass line place : ℕ) → pass < 4 → done 0 k ≡ true → line < plan.grid.side → place < order_of plan pass
      → word_at now.strips (strip_place plan Lone k pass line place) ≡ word_at then.strips (strip_place plan Lone k pass line place)
  lone_same k pass line place h d l p =
      right.lone_strips k pass line place h d l p ∙ sym (right_then.lone_strips k pass line place h (same_there 0 k d) l p)

  linked_same : (k pass line place : ℕ) → pass < 4 → done (suc pass) k ≡ true → line < plan.grid.side → place < order_of plan pass
      → word_at now.strips (strip_place plan Linked k pass line place) ≡ word_at then.strips (strip_place plan Linked k pass line place)
  linked_same k pass line place h d l p =
      right.linked_strips_law k pass line place h d l p ∙ sym (right_then.linked_strips_law k pass line place h (same_there (suc pass) k d) l p)

  strip_word_same : (q : ℕ) → word_at now.strips q ≡ word_at then.strips q
  strip_word_same q = by (ℕ_discrete (word_at now.strips q) (word_at then.strips q))
    where
      by : Dec (word_at now.strips q ≡ word_at then.strips q) → word_at now.strips q ≡ word_at then.strips q
      by (yes e) = e
      by (no differ) =
          words.other_strips q
          (λ k pass line place h l p. (
            λ d e. differ (rw e (lone_same k pass line place h d l p)),
            λ d e. differ (rw e (linked_same k pass line place h d l p)),
          ))
          ∙ sym
          (words_then.other_strips q
          (λ k pass line place h l p. (
            λ d e. differ (rw e (lone_same k pass line place h (same_back 0 k d) l p)),
            λ d e. differ (rw e (linked_same k pass line place h (same_back (suc pass) k d) l p)),
          )))

  output_word_same : (q : ℕ) → word_at now.output q ≡ word_at then.output q
  output_word_same q = by (ℕ_discrete (word_at now.output q) (word_at then.output q))
    where
      block_same : (k y x : ℕ) → done 5 k ≡ true → y < rows_of plan.grid k → x < columns_of plan.grid k
          → word_at now.output (block_pixel_place plan.grid k y x) ≡ word_at then.output (block_pixel_place plan.grid k y x)
      block_same k y x d a b = right.finished_blocks k y x d a b ∙ sym (right_then.finished_blocks k y x (same_there 5 k d) a b)

      by : Dec (word_at now.output q ≡ word_at then.output q) → word_at now.output q ≡ word_at then.output q
      by (yes e) = e
      by (no differ) =
          words.other_output q (λ k y x d a b e. differ (rw e (block_same k y x d a b)))
          ∙ sym (words_then.other_output q (λ k y x d a b e. differ (rw e (block_same k y x (same_back 5 k d) a b))))

  lists_same : now ≡ then
  lists_same =
      let strips : now.strips ≡ then.strips =
      ext_get_or 0 now.strips then.strips (kept.strips_length ∙ sym kept_then.strips_length) (λ q _. strip_word_same q) in
      let output : now.output ≡ then.output =
      ext_get_or 0 now.output then.output (kept.output_length ∙ sym kept_then.output_length) (λ q _. output_word_same q) in
      λ i. record { marks = marks_same i; strips = strips i; output = output i }

-- What was made is what is done, where that is so.
kept_by_done : (plan : Plan) (start now : Buffers) (made done : ℕ → ℕ → Bool) → KeptFrom plan start made now
    → ((t k : ℕ) → made t k ≡ done t k) → KeptFrom plan start done now
kept_by_done plan start now made done words same =
    record {
      lone_kept = λ k pass line place h e. words.lone_kept k pass line place h (same 0 k ∙ e);
      linked_kept = λ k pass line place h e. words.linked_kept k pass line place h (same (suc pass) k ∙ e);
      block_kept = λ k y x e. words.block_kept k y x (same 5 k ∙ e);
      other_strips = λ q out.
          words.other_strips q
          (λ k pass line place h l p. (
            λ c. (out k pass line place h l p).0 (sym (same 0 k) ∙ c),
            λ d. (out k pass line place h l p).1 (sym (same (suc pass) k) ∙ d),
          ));
      other_output = λ q out. words.other_output q (λ k y x f. out k y x (sym (same 5 k) ∙ f));
    }

-- ---- what is accepted

pub accepted_step : AcceptedStep
accepted_step plan done step = (
  λ e. by_test (accepts plan done step) (rw e at (by_accepts plan done step true false)),
  λ e. by_answer (due_to_step plan done step) (rw e at (by_accepts plan done step true false)),
)
  where
    by_test : (r : Bool) → true ≡ cond r true false → r ≡ true
    by_test true e = refl
    by_test false e = sym e

    by_answer : (answer : Answer) → if_accepted answer true false ≡ true → answer ≡ accepted
    by_answer accepted e = refl
    by_answer (refused number place) e = clash e refl

-- ---- the claim

module _ (plan : Plan) (lent : Buffers) (start_accepted : start_answer plan lent.marks lent.strips ≡ accepted)
    (output_long : needed_pixels plan ≤ length lent.output) where
  abbrev start : Buffers
  start = started plan lent

  rules : keeps_rules plan ≡ true
  rules = (start_tells plan lent.marks lent.strips start_accepted).rules

  marks_long : needed_marks plan ≤ length lent.marks
  marks_long = (start_tells plan lent.marks lent.strips start_accepted).of7_long

  strips_long : needed_strips plan ≤ length lent.strips
  strips_long = (start_tells plan lent.marks lent.strips start_accepted).strips_long

  kept_after : (steps : List Step) → Kept plan lent (done_now plan steps) (after_steps plan steps start)
  kept_after steps =
      kept_steps plan rules lent marks_long strips_long output_long nothing_done start (start_kept plan lent start_accepted) steps

  words_after : (steps : List Step) → KeptFrom plan start (was_made plan nothing_done steps) (after_steps plan steps start)
  words_after steps =
      words_kept plan rules lent marks_long strips_long output_long nothing_done start (start_kept plan lent start_accepted) steps

  right_after : (X : List ℤ) (steps : List Step) → Unchanged plan X steps
      → RightFor plan X (done_now plan steps) (after_steps plan steps start)
  right_after X steps same =
      judged_all plan rules lent marks_long strips_long output_long X start (start_kept plan lent start_accepted) steps same

  -- A task that is ready by what is done is accepted next, with a map that is long enough.
  pub accepted_next : (X : List ℤ) → needed_pixels plan ≤ length X → (steps : List Step) (t k : ℕ)
      → ready plan.grid (done_now plan steps) t k ≡ true → task_answer plan X (after_steps plan steps start) t k ≡ accepted
  unfolding step_answer due_to_step
  accepted_next X long steps t k r =
      let due : due_to_step plan (done_now plan steps) (perform X t k) ≡ accepted =
      rw (le-ltb (length X) (needed_pixels plan) long) (ready_accepted plan.grid (done_now plan steps) t k r) in
      step_answered plan rules lent marks_long strips_long output_long (done_now plan steps) _ (kept_after steps) (perform X t k) ∙ due

  -- and a task that is accepted next is ready by what is done.
  pub ready_next : (X : List ℤ) (steps : List Step) (t k : ℕ)
      → task_answer plan X (after_steps plan steps start) t k ≡ accepted → ready plan.grid (done_now plan steps) t k ≡ true
  unfolding step_answer accepts
  ready_next X steps t k e =
      and_right (is_long plan X) (ready plan.grid (done_now plan steps) t k)
      ((accepted_step plan (done_now plan steps) (perform X t k)).0
      (sym (step_answered plan rules lent marks_long strips_long output_long (done_now plan steps) _ (kept_after steps) (perform X t k)) ∙ e))

  fresh : (X : List ℤ) → needed_pixels plan ≤ length X → (steps : List Step) → Unchanged plan X steps → ClearedDoneAgain plan steps
      → (calls : List BlockTask) → ((t k : ℕ) → done_now plan steps t k ≡ done_after plan calls t k)
      → after_steps plan steps start ≡ after_calls plan X calls start
  unfolding done_after
  fresh X long steps same again calls agree =
      let others = on_map X calls in
      lists_same plan X lent start (done_now plan steps) (done_now plan others) _ _ (kept_after steps) (kept_after others)
      (right_after X steps same) (right_after X others (λ i h. unchanged_on_map plan X i nothing_done calls))
      (kept_by_done plan start _ _ _ (words_after steps) (made_is_done plan steps again))
      (kept_by_done plan start _ _ _ (words_after others) (made_is_done plan others (nothing_cleared plan X calls)))
      (λ t k. agree t k ∙ ap (λ done. done t k) (sym (done_on_map plan X long nothing_done calls)))
      ∙ after_on_map plan X calls start

  claim : (steps : List Step) → RescanClaim plan lent steps (after_steps plan steps start) (step_answers plan steps start)
  unfolding progress_of
  claim steps =
      let done = done_now plan steps in
      let now = after_steps plan steps start in
      let kept = kept_after steps in
      let only = only_sound plan done kept.sound in
      let made : report plan now.marks ≡ record { answer = accepted; value = values_of (progress_of plan.grid done) } =
      reported plan rules done only now.marks (rw kept.marks_length marks_long) kept.shows in
      let says = told plan rules done only in
      record {
        answers_are =
            steps_answered plan rules lent marks_long strips_long output_long nothing_done start (start_kept plan lent start_accepted) steps;
        marks_are = kept.shows;
        report_is = made;
        never_more = says.most;
        names_next = λ X long l.
            let (next, e, first) = says.names l in
            rw (made, e) (refl, accepted_next X long steps next.task next.block first.holds);
        names_none = λ all. let (none, tally) = says.none all in rw (made, none, tally, all);
        marks_past = kept.marks_past;
        strips_past = kept.strips_past;
        output_past = kept.output_past;
        marks_length = kept.marks_length;
        strips_length = kept.strips_length;
        output_length = kept.output_length;
        never_written = words_after steps;
        kept_until_done_again = words_kept plan rules lent marks_long strips_long output_long done now kept;
        judged = λ X same. right_after X steps same;
        judged_task = λ X t k same.
            judged_one plan rules lent marks_long strips_long output_long X start (start_kept plan lent start_accepted) steps t k same;
        whole_job = λ X long same all. whole_output plan rules lent output_long done now kept X long (right_after X steps same) all;
        as_fresh = λ X long same again calls agree. fresh X long steps same again calls agree;
        fresh_exists = λ again. fresh_done plan steps again;
      }

pub rescan : Rescan
rescan plan lent start_accepted output_long steps = claim plan lent start_accepted output_long steps

-- ---- cleared tasks

pub recall_clears : RecallClears
unfolding accepts done_by_step done_without ready clears reaches has_task
recall_clears plan done k e =
    let here = ltb-true k (block_total plan.grid) (and_left (ltb k (block_total plan.grid)) (done 0 k) e) in
    record {
      no_longer_done = λ t j needs. rw (e, (clears_what_needs_it plan.grid k t j here).0 needs) (and-false (done t j));
      others_stay = λ t j needless. rw e (by (clears plan.grid k t j) (done t j) (λ c. needless ((clears_what_needs_it plan.grid k t j here).1 c)));
      collect_ready =
          rw (e, has_exists plan.grid k here 0 refl, and_right (ltb k (block_total plan.grid)) (done 0 k) e, eq-eqb k k refl)
          (needs_none (done_without plan.grid done k) plan.grid k);
      ready_again = λ t j needs later undone met.
          let there =
          and_left (exists plan.grid t j) (reaches plan.grid k t j) ((clears_what_needs_it plan.grid k t j here).0 needs) in
          rw (there, undone, met);
    }
  where
    by : (c d : Bool) → (c ≡ true → ⊥) → (d && not c) ≡ d
    by true d f = absurd (f refl)
    by false true f = refl
    by false false f = refl

-- ---- accepted twice

stays_or_cleared : (plan : Plan) (done : ℕ → ℕ → Bool) (steps : List Step) (t k : ℕ) → done t k ≡ true
    → done_by_steps plan done steps t k ≡ false → was_cleared plan done steps t k ≡ true
unfolding done_by_steps was_cleared
stays_or_cleared plan done [] t k e f = clash e f
stays_or_cleared plan done (step ∷ steps) t k e f =
    rw e
    (by (done_by_step plan done step t k) (was_cleared plan (done_by_step plan done step) steps t k)
    (λ i. stays_or_cleared plan (done_by_step plan done step) steps t k i f))
  where
    by : (then cleared : Bool) → (then ≡ true → cleared ≡ true) → (not then || cleared) ≡ true
    by true cleared later = later refl
    by false cleared later = refl

pub accepted_twice : AcceptedTwice
unfolding accepts done_by_step
accepted_twice plan done first second t k steps e f =
    let new : done_by_step plan done (perform first t k) t k ≡ true = rw e (also_new done t k) in
    let again = done_by_steps plan (done_by_step plan done (perform first t k)) steps in
    stays_or_cleared plan (done_by_step plan done (perform first t k)) steps t k new
    (ready_undone plan.grid again t k (and_right (is_long plan second) (ready plan.grid again t k) f))
