-- What task calls and recalls keep: marks that show what is done, every length, and the words past the needed lengths; and how
-- they are answered by what is done. Assumes nothing.
use mathlib.Core.Path.{◌≡◌, refl, ap₂, ◌∙◌}
use mathlib.Core.Bool.{Bool, true, false, not, ◌&&◌, cond}
use mathlib.Core.List.{List, [], ◌∷◌}
use Prim.Native.Nat.{ℕ, ◌≤◌}
use native.Mathlib.Omega.{arith}
use lib.IntN.{ℤ}
use lib.Dec.{ltb}
use lib.ListN.{length}
use borrow.Author.Tests.{le-ltb}
use Rattle.number.proofs.Tests.{and_right}
use Rattle.refusal.specs.Table.{◌at◌when◌, first_due, if_accepted}
use Rattle.grid.specs.Grid.{block_total}
use Rattle.grid.proofs.Blocks.{pixel_below}
use Rattle.plan.specs.declared.Plan.{Plan}
use Rattle.plan.specs.Rules.{keeps_rules}
use Rattle.plan.specs.Sizes.{needed_marks, needed_strips, needed_pixels, sizes_of}
use Rattle.plan.specs.FirstTests.{lent_rows}
use Rattle.buffer.specs.Lists.{word_at}
use Rattle.tasks.specs.Tasks.{exists, needs_of, all_done, ready, also_done}
use Rattle.tasks.specs.Marks.{Shows}
use Rattle.tasks.specs.Verdict.{done_rows}
use Rattle.tasks.proofs.Existence.{exists_block, exists_task}
use Rattle.tasks.proofs.Needs.{ready_exists, ready_undone}
use Rattle.tasks.proofs.Counting.{Only}
use Rattle.tasks.proofs.Verdicts.{verdict_shown}
use Rattle.tasks.proofs.Progress.{bit_length, bit_other, shows_bit, Sound}
use Rattle.task_words.specs.declared.Half.TheVariants.{Lone, Linked}
use Rattle.task_words.proofs.Strips.{strip_place_below}
use Rattle.recall.specs.RecallCall.{marks_recalled, marks_after_recall}
use Rattle.recall.proofs.Recalled.{recall_answered, recalled_length, recalled_past, recalled_shows}
use Rattle.job_spec.specs.Calls.{Buffers, lists, task_answer, performed, after_task}
use Rattle.job_spec.specs.Steps.{Step, perform, recall, after_step, after_steps, step_answer, step_answers, is_long, accepts, done_with, done_by_step, done_by_steps, due_to_step, due_to_steps}
use Rattle.job_spec.proofs.Done.{sound_step}
use Rattle.job_spec.proofs.Wrote.{strips_wrote, output_wrote}

-- The marks show what is done, which could be done; no list has changed its length or a word past the needed ones.
pub record Kept (plan : Plan) (before : Buffers) (done : ℕ → ℕ → Bool) (now : Buffers) : Type 0 where
  pub sound : Sound plan.grid done
  pub shows : Shows plan.grid done now.marks
  pub marks_length : length now.marks ≡ length before.marks
  pub strips_length : length now.strips ≡ length before.strips
  pub output_length : length now.output ≡ length before.output
  pub marks_past : (k : ℕ) → needed_marks plan ≤ k → word_at now.marks k ≡ word_at before.marks k
  pub strips_past : (q : ℕ) → needed_strips plan ≤ q → word_at now.strips q ≡ word_at before.strips q
  pub output_past : (q : ℕ) → needed_pixels plan ≤ q → word_at now.output q ≡ word_at before.output q

pub only_sound : (plan : Plan) (done : ℕ → ℕ → Bool) → Sound plan.grid done → Only plan.grid done
only_sound plan done sound t k _ _ e = sound.exist t k e

-- The lists after an accepted step.
abbrev pub stepped : Plan → Step → Buffers → Buffers
stepped plan (perform heights t k) now = performed plan heights t k now
stepped plan (recall k) now = lists (marks_recalled plan.grid k now.marks) now.strips now.output

-- A step is answered 'accepted' exactly where it is accepted by what is done.
pub by_accepts : {A : Type 0} (plan : Plan) (done : ℕ → ℕ → Bool) (step : Step) (a b : A)
    → if_accepted (due_to_step plan done step) a b ≡ cond (accepts plan done step) a b
unfolding due_to_step accepts done_rows ready
by_accepts plan done (perform heights t k) a b =
    by (ltb (length heights) (needed_pixels plan)) (exists plan.grid t k) (done t k) (all_done done (needs_of plan.grid t k))
  where
    by : (s x d y : Bool)
        → if_accepted (first_due (15 at 0 when s ∷ 8 at 0 when not x ∷ 10 at 0 when d ∷ 11 at 0 when not y ∷ [])) a b
        ≡ cond (not s && (x && (not d && y))) a b
    by true x d y = refl
    by false true true y = refl
    by false true false true = refl
    by false true false false = refl
    by false false d y = refl
by_accepts plan done (recall k) a b = by (ltb k (block_total plan.grid)) (done 0 k)
  where
    by : (x d : Bool) → if_accepted (first_due (8 at 0 when not x ∷ 17 at 0 when not d ∷ [])) a b ≡ cond (x && d) a b
    by true true = refl
    by true false = refl
    by false d = refl

module _ (plan : Plan) (rules : keeps_rules plan ≡ true) (before : Buffers) (marks_long : needed_marks plan ≤ length before.marks)
    (strips_long : needed_strips plan ≤ length before.strips) (output_long : needed_pixels plan ≤ length before.output) where
  -- ---- one step

  module _ (done : ℕ → ℕ → Bool) (now : Buffers) (kept : Kept plan before done now) where
    marks_enough : needed_marks plan ≤ length now.marks
    marks_enough = rw kept.marks_length marks_long

    pub strips_enough : needed_strips plan ≤ length now.strips
    strips_enough = rw kept.strips_length strips_long

    pub output_enough : needed_pixels plan ≤ length now.output
    output_enough = rw kept.output_length output_long

    pub step_answered : (step : Step) → step_answer plan step now ≡ due_to_step plan done step
    unfolding step_answer task_answer due_to_step lent_rows sizes_of
    step_answered (perform heights t k) =
        rw (
          rules,
          le-ltb (length now.marks) (needed_marks plan) marks_enough,
          le-ltb (length now.strips) (needed_strips plan) strips_enough,
          le-ltb (length now.output) (needed_pixels plan) output_enough,
          verdict_shown plan.grid done now.marks kept.shows (only_sound plan done kept.sound) t k,
        )
    step_answered (recall k) =
        recall_answered plan rules done (only_sound plan done kept.sound) now.marks marks_enough kept.shows k

    -- The lists after a step: those of an accepted one where it is accepted by what is done, else as they were.
    pub after_step_law : (step : Step) → after_step plan step now ≡ cond (accepts plan done step) (stepped plan step now) now
    unfolding after_step after_task marks_after_recall step_answer
    after_step_law (perform heights t k) =
        rw (step_answered (perform heights t k)) (by_accepts plan done (perform heights t k) (performed plan heights t k now) now)
    after_step_law (recall k) =
        rw (
          step_answered (recall k),
          by_accepts plan done (recall k) (marks_recalled plan.grid k now.marks) now.marks,
        )
        (by (accepts plan done (recall k)))
      where
        by : (r : Bool)
            → lists (cond r (marks_recalled plan.grid k now.marks) now.marks) now.strips now.output
            ≡ cond r (stepped plan (recall k) now) now
        by true = refl
        by false = refl

    kept_performed : (heights : List ℤ) (t k : ℕ) → ready plan.grid done t k ≡ true → Sound plan.grid (also_done done t k)
        → Kept plan before (also_done done t k) (performed plan heights t k now)
    unfolding performed
    kept_performed heights t k r sound =
        let there = ready_exists plan.grid done t k r in
        let here = exists_block plan.grid t k there in
        let strips = strips_wrote plan heights t k now.strips here strips_enough in
        let output = output_wrote plan heights t k now.strips now.output output_enough in
        record {
          sound = sound;
          shows =
              shows_bit now.marks t k plan.grid done (exists_task plan.grid t k there) here marks_enough
              (ready_undone plan.grid done t k r) kept.shows;
          marks_length = bit_length now.marks t k ∙ kept.marks_length;
          strips_length = strips.same_length ∙ kept.strips_length;
          output_length = output.same_length ∙ kept.output_length;
          marks_past = λ j h. bit_other now.marks t k j (λ e. omega arith) ∙ kept.marks_past j h;
          strips_past = λ q h.
              strips.others q
              (λ e pass b line place c d f. omega (arith, strip_place_below plan Lone k pass line place here b c d))
              (λ pass b e line place c d f. omega (arith, strip_place_below plan Linked k pass line place here b c d))
              ∙ kept.strips_past q h;
          output_past = λ q h.
              output.others q (λ e y x a b f. omega (arith, pixel_below plan.grid k y x a b)) ∙ kept.output_past q h;
        }

    kept_recalled : (k : ℕ) → Sound plan.grid (done_with plan done (recall k))
        → Kept plan before (done_with plan done (recall k)) (stepped plan (recall k) now)
    kept_recalled k sound =
        record {
          sound = sound;
          shows = recalled_shows plan.grid done now.marks marks_enough kept.shows k;
          marks_length = recalled_length plan.grid k now.marks ∙ kept.marks_length;
          strips_length = kept.strips_length;
          output_length = kept.output_length;
          marks_past = λ j h. recalled_past plan.grid k now.marks j h ∙ kept.marks_past j h;
          strips_past = kept.strips_past;
          output_past = kept.output_past;
        }

    pub kept_step : (step : Step) → Kept plan before (done_by_step plan done step) (after_step plan step now)
    unfolding done_by_step accepts
    kept_step step = rw (after_step_law step) (by step (accepts plan done step) refl (sound_step plan done step kept.sound))
      where
        by : (step : Step) (r : Bool) → accepts plan done step ≡ r → Sound plan.grid (cond r (done_with plan done step) done)
            → Kept plan before (cond r (done_with plan done step) done) (cond r (stepped plan step now) now)
        by (perform heights t k) true r sound = kept_performed heights t k (and_right (is_long plan heights) _ r) sound
        by (recall k) true r sound = kept_recalled k sound
        by step false r sound = kept

  -- ---- a list of steps

  pub kept_steps : (done : ℕ → ℕ → Bool) (now : Buffers) → Kept plan before done now → (steps : List Step)
      → Kept plan before (done_by_steps plan done steps) (after_steps plan steps now)
  unfolding done_by_steps after_steps
  kept_steps done now kept [] = kept
  kept_steps done now kept (step ∷ steps) =
      kept_steps (done_by_step plan done step) (after_step plan step now) (kept_step done now kept step) steps

  pub steps_answered : (done : ℕ → ℕ → Bool) (now : Buffers) → Kept plan before done now → (steps : List Step)
      → step_answers plan steps now ≡ due_to_steps plan done steps
  unfolding step_answers due_to_steps
  steps_answered done now kept [] = refl
  steps_answered done now kept (step ∷ steps) =
      ap₂ ◌∷◌ (step_answered done now kept step)
      (steps_answered (done_by_step plan done step) (after_step plan step now) (kept_step done now kept step) steps)
