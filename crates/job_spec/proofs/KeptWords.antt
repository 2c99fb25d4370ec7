-- Steps leave the words of every task that none of them makes done. Assumes nothing.
use mathlib.Core.Path.{◌≡◌, refl, sym, ◌∙◌}
use mathlib.Core.Bool.{Bool, true, false, not, ◌&&◌, ◌||◌, cond}
use mathlib.Core.List.{List, [], ◌∷◌}
use Prim.Native.Nat.{ℕ, suc, ◌≤◌}
use lib.ListN.{length}
use Rattle.number.proofs.Tests.{and_right}
use Rattle.grid.proofs.Blocks.{same_pixel}
use Rattle.plan.specs.declared.Plan.{Plan}
use Rattle.plan.specs.Rules.{keeps_rules}
use Rattle.plan.specs.Sizes.{needed_marks, needed_strips, needed_pixels}
use Rattle.buffer.specs.Lists.{word_at}
use Rattle.tasks.proofs.Existence.{exists_block}
use Rattle.tasks.proofs.Needs.{ready_exists, ready_undone}
use Rattle.tasks.proofs.Progress.{also_new}
use Rattle.tasks.specs.Tasks.{ready, also_done}
use Rattle.task_words.specs.declared.Half.TheVariants.{Lone, Linked}
use Rattle.task_words.proofs.Strips.{lone_not_linked, places_apart}
use Rattle.job_spec.specs.Calls.{Buffers, performed}
use Rattle.job_spec.specs.Demand3.{OutsideFinished, OutsideStrips}
use Rattle.job_spec.specs.Rescan.{KeptFrom}
use Rattle.job_spec.specs.Steps.{Step, perform, recall, after_step, after_steps, is_long, accepts, done_with, done_by_step, was_made}
use Rattle.job_spec.proofs.Done.{clash}
use Rattle.job_spec.proofs.Wrote.{strips_wrote, output_wrote}
use Rattle.job_spec.proofs.Judged.{Within}
use Rattle.job_spec.proofs.Invariant.{Kept, stepped, strips_enough, output_enough, after_step_law, kept_step}

-- Every word outside what the made tasks write is as before.
abbrev WordsLeft : Plan → Buffers → (made : ℕ → ℕ → Bool) → Buffers → Type 0
WordsLeft plan before made now =
    ((q : ℕ) → OutsideStrips plan made q → word_at now.strips q ≡ word_at before.strips q)
    × ((q : ℕ) → OutsideFinished plan made q → word_at now.output q ≡ word_at before.output q)

-- With more tasks made fewer words are outside.
left_more : (plan : Plan) (before : Buffers) (made more : ℕ → ℕ → Bool) (now : Buffers) → Within made more
    → WordsLeft plan before made now → WordsLeft plan before more now
left_more plan before made more now within left = (
  λ q out.
      left.0 q
      (λ k pass line place h l p. (
        λ c. (out k pass line place h l p).0 (within 0 k c),
        λ d. (out k pass line place h l p).1 (within (suc pass) k d),
      )),
  λ q out. left.1 q (λ k y x f. out k y x (within 5 k f)),
)

-- The words of a task that is not made are outside what the others write.
kept_from : (plan : Plan) (before : Buffers) (made : ℕ → ℕ → Bool) (now : Buffers) → WordsLeft plan before made now
    → KeptFrom plan before made now
kept_from plan before made now left =
    record {
      lone_kept = λ k pass line place h not_made l p.
          left.0 _
          (λ j v i c b d e. (
            λ collected. places_apart plan Lone Lone k pass j v line place i c h b (λ _ same _. clash collected (rw (← same) not_made)) l p d e,
            λ linked. places_apart plan Lone Linked k pass j v line place i c h b (λ same. absurd (lone_not_linked same)) l p d e,
          ));
      linked_kept = λ k pass line place h not_made l p.
          left.0 _
          (λ j v i c b d e. (
            λ collected. places_apart plan Linked Lone k pass j v line place i c h b (λ same. absurd (lone_not_linked (sym same))) l p d e,
            λ linked.
                places_apart plan Linked Linked k pass j v line place i c h b
                (λ _ same pass_same. clash linked (rw (← same, ← pass_same) not_made)) l p d e,
          ));
      block_kept = λ k y x not_made a b.
          left.1 _ (λ j v u finished c d e. clash finished (rw (← (same_pixel plan.grid k y x j v u a b c d e).0) not_made));
      other_strips = left.0;
      other_output = left.1;
    }

-- ---- steps

-- Some task is made by a step.
abbrev made_by : Plan → (ℕ → ℕ → Bool) → Step → ℕ → ℕ → Bool
made_by plan done step t k = not (done t k) && done_by_step plan done step t k

new_task : (plan : Plan) (done : ℕ → ℕ → Bool) (t k : ℕ) → ready plan.grid done t k ≡ true → (u : ℕ) → t ≡ u
    → (not (done u k) && also_done done t k u k) ≡ true
new_task plan done t k r u e = rw (← e, ready_undone plan.grid done t k r) (also_new done t k)

or_first : (a b : Bool) → a ≡ true → (a || b) ≡ true
or_first a b e = rw e

or_second : (a b : Bool) → b ≡ true → (a || b) ≡ true
or_second true b e = refl
or_second false b e = e

module _ (plan : Plan) (rules : keeps_rules plan ≡ true) (before : Buffers) (marks_long : needed_marks plan ≤ length before.marks)
    (strips_long : needed_strips plan ≤ length before.strips) (output_long : needed_pixels plan ≤ length before.output) where
  step_left : (done : ℕ → ℕ → Bool) (now : Buffers) → Kept plan before done now → (step : Step)
      → WordsLeft plan now (made_by plan done step) (after_step plan step now)
  unfolding done_by_step accepts performed
  step_left done now kept step =
      rw (after_step_law plan rules before marks_long strips_long output_long done now kept step) (by step (accepts plan done step) refl)
    where
      by : (step : Step) (r : Bool) → accepts plan done step ≡ r
          → WordsLeft plan now (λ t k. not (done t k) && cond r (done_with plan done step) done t k) (cond r (stepped plan step now) now)
      by (perform heights t k) true e =
          let r = and_right (is_long plan heights) (ready plan.grid done t k) e in
          let new = new_task plan done t k r in
          let here = exists_block plan.grid t k (ready_exists plan.grid done t k r) in (
            λ q out.
                (strips_wrote plan heights t k now.strips here
                (strips_enough plan rules before marks_long strips_long output_long done now kept)).others q
                (λ zero_is pass b line place c d. (out k pass line place b c d).0 (new 0 zero_is))
                (λ pass b link_is line place c d. (out k pass line place b c d).1 (new (suc pass) link_is)),
            λ q out.
                (output_wrote plan heights t k now.strips now.output
                (output_enough plan rules before marks_long strips_long output_long done now kept)).others q
                (λ five y x. out k y x (new 5 five)),
          )
      by (recall k) true e = (λ q out. refl, λ q out. refl)
      by step false e = (λ q out. refl, λ q out. refl)

  steps_left : (done : ℕ → ℕ → Bool) (now : Buffers) → Kept plan before done now → (steps : List Step)
      → WordsLeft plan now (was_made plan done steps) (after_steps plan steps now)
  unfolding after_steps was_made
  steps_left done now kept [] = (λ q out. refl, λ q out. refl)
  steps_left done now kept (step ∷ steps) =
      let then = done_by_step plan done step in
      let later = was_made plan then steps in
      let all : ℕ → ℕ → Bool = λ t k. made_by plan done step t k || later t k in
      let first : WordsLeft plan now all (after_step plan step now) =
      left_more plan now (made_by plan done step) all (after_step plan step now) (λ t k. or_first (made_by plan done step t k) (later t k)) (step_left done now kept step) in
      let rest : WordsLeft plan (after_step plan step now) all (after_steps plan steps (after_step plan step now)) =
      left_more plan (after_step plan step now) later all (after_steps plan steps (after_step plan step now)) (λ t k. or_second (made_by plan done step t k) (later t k))
      (steps_left then (after_step plan step now) (kept_step plan rules before marks_long strips_long output_long done now kept step) steps) in
      (λ q out. rest.0 q out ∙ first.0 q out, λ q out. rest.1 q out ∙ first.1 q out)

  pub words_kept : (done : ℕ → ℕ → Bool) (now : Buffers) → Kept plan before done now → (steps : List Step)
      → KeptFrom plan now (was_made plan done steps) (after_steps plan steps now)
  words_kept done now kept steps =
      kept_from plan now (was_made plan done steps) (after_steps plan steps now) (steps_left done now kept steps)
