-- After any steps, the words of done tasks are those of the map at the end: where no block now collected has changed, and task by
-- task where the blocks that a task needs have not. Assumes nothing.
use mathlib.Core.Path.{◌≡◌, refl}
use mathlib.Core.Bool.{Bool, true, false, not, ◌&&◌, ◌||◌, cond}
use mathlib.Core.List.{List, [], ◌∷◌}
use Prim.Native.Nat.{ℕ, suc, ◌≤◌, ◌<◌}
use lib.IntN.{ℤ}
use lib.Dec.{eqb, ltb}
use lib.ListN.{length}
use borrow.Author.Tests.{eqb-true, eq-eqb, ltb-false, not-true}
use Rattle.number.specs.Numbers.{all_below}
use Rattle.number.proofs.Tests.{and_left, and_right, and_both, all_at}
use Rattle.number.proofs.Sums.{all_below_law}
use Rattle.grid.specs.declared.Grid.{Grid}
use Rattle.grid.specs.Grid.{block_total}
use Rattle.plan.specs.declared.Plan.{Plan}
use Rattle.plan.specs.Rules.{keeps_rules}
use Rattle.plan.specs.Sizes.{needed_marks, needed_strips, needed_pixels}
use Rattle.tasks.specs.Tasks.{BlockTask, has_task, exists, needs_of, all_done, ready, nothing_done}
use Rattle.tasks.proofs.Existence.{has_exists, exists_block}
use Rattle.tasks.proofs.Needs.{ready_exists}
use Rattle.tasks.proofs.NeedLists.{all_kept, all_and}
use Rattle.task_words.proofs.Places.{side_fits}
use Rattle.recall.specs.Recall.{NeedsBlock, reaches, clears, done_without}
use Rattle.recall.proofs.Closure.{spared_needs_spared, clears_what_needs_it}
use Rattle.job_spec.specs.Calls.{Buffers, performed}
use Rattle.job_spec.specs.Steps.{Step, perform, recall, after_step, after_steps, is_long, accepts, done_with, done_by_step, done_by_steps, done_now, stays_done}
use Rattle.job_spec.specs.Rescan.{LentSame, UnchangedFrom, UnchangedBlock, Unchanged, RightFor, only_task}
use Rattle.job_spec.proofs.Done.{clash, sound_step, stays_now, stays_needs}
use Rattle.job_spec.proofs.Wrote.{strips_wrote, output_wrote}
use Rattle.job_spec.proofs.Judged.{both, Closed, Within, right_fewer, performed_right}
use Rattle.job_spec.proofs.Invariant.{Kept, stepped, strips_enough, output_enough, after_step_law, kept_step}

-- ---- tables of tasks that are judged

-- A table that has with each task that exists its needs.
abbrev ClosedWhere : Plan → (ℕ → ℕ → Bool) → Type 0
ClosedWhere plan trusted =
    (t k : ℕ) → exists plan.grid t k ≡ true → trusted t k ≡ true → all_done trusted (needs_of plan.grid t k) ≡ true

abbrev implies : Bool → Bool → Bool
implies a b = not a || b

-- The tasks that need no block that task t of block k does not need.
unfoldable needs_no_more : Grid → ℕ → ℕ → ℕ → ℕ → Bool
needs_no_more grid t k u j = all_below (λ i. implies (clears grid i u j) (clears grid i t k)) (block_total grid)

module _ (grid : Grid) (t k : ℕ) where
  no_more_itself : needs_no_more grid t k t k ≡ true
  unfolding needs_no_more
  no_more_itself = all_below_law _ (block_total grid) (λ i l. by (clears grid i t k))
    where
      by : (a : Bool) → (not a || a) ≡ true
      by true = refl
      by false = refl

  no_more_at : (i u j : ℕ) → i < block_total grid → needs_no_more grid t k u j ≡ true → clears grid i u j ≡ true → clears grid i t k ≡ true
  unfolding needs_no_more
  no_more_at i u j l e c = by (clears grid i u j) (clears grid i t k) (all_at _ (block_total grid) i e l) c
    where
      by : (a b : Bool) → (not a || b) ≡ true → a ≡ true → b ≡ true
      by true b f c = f
      by false b f c = clash c refl

  no_more_closed : (u j : ℕ) → exists grid u j ≡ true → needs_no_more grid t k u j ≡ true
      → all_done (needs_no_more grid t k) (needs_of grid u j) ≡ true
  unfolding needs_no_more all_done
  no_more_closed u j there e = over (needs_of grid u j) (λ i l. by_block i l)
    where
      needs_less : ℕ → ℕ → ℕ → Bool
      needs_less i v h = implies (clears grid i v h) (clears grid i t k)

      all_less : (i : ℕ) → clears grid i t k ≡ true → (needs : List BlockTask) → all_done (needs_less i) needs ≡ true
      all_less i c [] = refl
      all_less i c (x ∷ xs) = rw c (and_both (or_last (clears grid i x.task x.block)) (all_less i c xs))
        where
          or_last : (a : Bool) → (not a || true) ≡ true
          or_last true = refl
          or_last false = refl

      by_block : (i : ℕ) → i < block_total grid → all_done (needs_less i) (needs_of grid u j) ≡ true
      by_block i l = on (clears grid i u j) (clears grid i t k) refl refl (all_at _ (block_total grid) i e l)
        where
          on : (a b : Bool) → clears grid i u j ≡ a → clears grid i t k ≡ b → (not a || b) ≡ true
              → all_done (needs_less i) (needs_of grid u j) ≡ true
          on a true c d f = all_less i d (needs_of grid u j)
          on true false c d f = clash f refl
          on false false c d f =
              all_kept (λ v h. not (clears grid i v h)) (needs_less i) (λ v h s. rw s) (needs_of grid u j)
              (spared_needs_spared grid i u j there c)

      over : (needs : List BlockTask) → ((i : ℕ) → i < block_total grid → all_done (needs_less i) needs ≡ true)
          → all_done (needs_no_more grid t k) needs ≡ true
      over [] f = refl
      over (x ∷ xs) f =
          and_both (all_below_law _ (block_total grid) (λ i l. and_left (needs_less i x.task x.block) _ (f i l)))
          (over xs (λ i l. and_right (needs_less i x.task x.block) _ (f i l)))

-- ---- steps

module _ (plan : Plan) (rules : keeps_rules plan ≡ true) (before : Buffers) (marks_long : needed_marks plan ≤ length before.marks)
    (strips_long : needed_strips plan ≤ length before.strips) (output_long : needed_pixels plan ≤ length before.output)
    (X : List ℤ) where
  -- A step keeps the words of the tasks that are alive after it right.
  step_right : (done alive : ℕ → ℕ → Bool) (now : Buffers) → Kept plan before done now → (step : Step)
      → RightFor plan X (both done alive) now → Closed plan alive → Within alive (done_by_step plan done step)
      → ((k : ℕ) → alive 0 k ≡ true → LentSame plan X k step) → RightFor plan X alive (after_step plan step now)
  unfolding done_by_step accepts performed done_without
  step_right done alive now kept step right closed now_done same =
      rw (after_step_law plan rules before marks_long strips_long output_long done now kept step)
      (by step (accepts plan done step) refl now_done same)
    where
      -- Tasks that are alive and were done before.
      as_before : Within alive done → RightFor plan X alive now
      as_before was = right_fewer plan X (both done alive) alive now right (λ t k a. and_both (was t k a) a)

      by : (step : Step) (r : Bool) → accepts plan done step ≡ r → Within alive (cond r (done_with plan done step) done)
          → ((k : ℕ) → alive 0 k ≡ true → LentSame plan X k step) → RightFor plan X alive (cond r (stepped plan step now) now)
      by (perform heights t k) true e now_done same =
          let r = and_right (is_long plan heights) (ready plan.grid done t k) e in
          let long = ltb-false (length heights) (needed_pixels plan) (not-true (ltb (length heights) (needed_pixels plan)) (and_left (is_long plan heights) (ready plan.grid done t k) e)) in
          performed_right plan (side_fits plan rules) X heights done alive now right closed (λ k a. same k a long) t k r _ _
          (strips_wrote plan heights t k now.strips (exists_block plan.grid t k (ready_exists plan.grid done t k r))
          (strips_enough plan rules before marks_long strips_long output_long done now kept))
          (output_wrote plan heights t k now.strips now.output
          (output_enough plan rules before marks_long strips_long output_long done now kept))
          _ now_done
      by (recall k) true e now_done same =
          let right_now = as_before (λ t j a. and_left (done t j) (not (clears plan.grid k t j)) (now_done t j a)) in
          record {
            lone_strips = right_now.lone_strips;
            linked_strips_law = right_now.linked_strips_law;
            finished_blocks = right_now.finished_blocks;
          }
      by step false e now_done same = as_before now_done

  steps_right : (trusted : ℕ → ℕ → Bool) → ClosedWhere plan trusted → (done : ℕ → ℕ → Bool) (now : Buffers) → Kept plan before done now
      → (steps : List Step) → RightFor plan X (both (stays_done plan done steps) trusted) now
      → ((i : ℕ) → i < needed_marks plan → trusted 0 i ≡ true → UnchangedFrom plan X i done steps)
      → RightFor plan X (both (done_by_steps plan done steps) trusted) (after_steps plan steps now)
  unfolding after_steps stays_done done_by_steps UnchangedFrom
  steps_right trusted closed done now kept [] right same = right
  steps_right trusted closed done now kept (step ∷ steps) right same =
      let then = done_by_step plan done step in
      let sound_then = sound_step plan done step kept.sound in
      let stays = stays_done plan then steps in
      steps_right trusted closed then (after_step plan step now)
      (kept_step plan rules before marks_long strips_long output_long done now kept step) steps
      (step_right done (both stays trusted) now kept step
      (right_fewer plan X (both (both done stays) trusted) (both done (both stays trusted)) now right
      (λ t k e.
      let d = and_left (done t k) (both stays trusted t k) e in
      let a = and_right (done t k) (both stays trusted t k) e in
      and_both (and_both d (and_left (stays t k) (trusted t k) a)) (and_right (stays t k) (trusted t k) a)))
      (λ t k a.
      let s = and_left (stays t k) (trusted t k) a in
      all_and stays trusted (needs_of plan.grid t k) (stays_needs plan then steps sound_then t k s)
      (closed t k (sound_then.exist t k (stays_now plan then steps t k s)) (and_right (stays t k) (trusted t k) a)))
      (λ t k a. stays_now plan then steps t k (and_left (stays t k) (trusted t k) a))
      (λ k a.
      let s = and_left (stays 0 k) (trusted 0 k) a in
      (same k (exists_block plan.grid 0 k (sound_then.exist 0 k (stays_now plan then steps 0 k s)))
      (and_right (stays 0 k) (trusted 0 k) a)).0 s))
      (λ i h e. (same i h e).1)

  module _ (start : Buffers) (kept : Kept plan before nothing_done start) (steps : List Step) where
    from_start : (trusted : ℕ → ℕ → Bool) → ClosedWhere plan trusted
        → ((i : ℕ) → i < needed_marks plan → trusted 0 i ≡ true → UnchangedBlock plan X i steps)
        → RightFor plan X (both (done_now plan steps) trusted) (after_steps plan steps start)
    from_start trusted closed same =
        steps_right trusted closed nothing_done start kept steps
        (record {
          lone_strips = λ k pass line place h a. none 0 k a;
          linked_strips_law = λ k pass line place h a. none (suc pass) k a;
          finished_blocks = λ k y x a. none 5 k a;
        })
        same
      where
        none : {A : Type 0} (t k : ℕ) → both (stays_done plan nothing_done steps) trusted t k ≡ true → A
        none t k a = clash (stays_now plan nothing_done steps t k (and_left (stays_done plan nothing_done steps t k) (trusted t k) a)) refl

    pub judged_all : Unchanged plan X steps → RightFor plan X (done_now plan steps) (after_steps plan steps start)
    unfolding all_done
    judged_all same =
        right_fewer plan X (both (done_now plan steps) (λ t k. true)) (done_now plan steps) _
        (from_start (λ t k. true) (λ t k _ _. all_true (needs_of plan.grid t k)) (λ i h _. same i h))
        (λ t k e. and_both e refl)
      where
        all_true : (needs : List BlockTask) → all_done (λ t k. true) needs ≡ true
        all_true [] = refl
        all_true (x ∷ xs) = all_true xs

    pub judged_one : (t k : ℕ) → ((i : ℕ) → NeedsBlock plan.grid i t k → UnchangedBlock plan X i steps)
        → RightFor plan X (only_task (done_now plan steps) t k) (after_steps plan steps start)
    unfolding clears reaches has_task
    judged_one t k same =
        let grid = plan.grid in
        right_fewer plan X (both (done_now plan steps) (needs_no_more grid t k)) (only_task (done_now plan steps) t k) _
        (from_start (needs_no_more grid t k) (no_more_closed grid t k)
        (λ i h e.
        same i
        ((clears_what_needs_it grid i t k h).1
        (no_more_at grid t k i 0 i h e (and_both (has_exists grid i h 0 refl) (eq-eqb i i refl))))))
        (λ u j e.
        let is = and_right (done_now plan steps u j) (eqb u t && eqb j k) e in
        and_both (and_left (done_now plan steps u j) (eqb u t && eqb j k) e)
        (rw (eqb-true u t (and_left (eqb u t) (eqb j k) is), eqb-true j k (and_right (eqb u t) (eqb j k) is)) (no_more_itself grid t k)))
