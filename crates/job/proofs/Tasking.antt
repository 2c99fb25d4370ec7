-- The ways out of the task call, and what an accepted call may rely on.
-- Assumes nothing.
use mathlib.Core.Path.{◌≡◌, refl, sym, ◌∙◌}
use mathlib.Core.List.{List}
use Prim.Native.Nat.{ℕ, zero, suc, ◌+◌, ◌-◌, ◌^◌, ◌<◌}
use native.Mathlib.Omega.{arith}
use lib.IntN.{ℤ}
use lib.ListN.{length, get_or}
use borrow.Author.Tests.{lt-ltb, ne_eqb}
use Rattle.std.specs.Prelude.{Result, Ok, Err}
use Rattle.refusal.specs.declared.Refusal.{Refusal}
use Rattle.refusal.specs.Refusals.{accepted, refused_for}
use Rattle.refusal.specs.Table.{Row, first_due, answer_of}
use Rattle.refusal.proofs.Table.{refused_before, accepted_before, rows_accepted}
use Rattle.plan.specs.declared.Lengths.{Lengths}
use Rattle.plan.specs.declared.Plan.{Plan}
use Rattle.plan.specs.declared.Sizes.{Sizes}
use Rattle.plan.specs.FirstTests.{lent_rows, sizes_for, sizes_given}
use Rattle.plan.proofs.FirstTests.{suffices}
use Rattle.plan.proofs.Known.{sizes_known, sizes_refused}
use Rattle.plan.proofs.Record.{rules}
use Rattle.tasks.specs.Lent.{Lent}
use Rattle.tasks.specs.Marks.{with_bit}
use Rattle.tasks.specs.Verdict.{verdict_rows}
use Rattle.tasks.proofs.Verdicts.{accepted_settable}
use Rattle.filter.specs.PlanFilters.{map_of}
use Rattle.task_words.specs.Writes.{collected, linked, finished}
use Rattle.job_spec.specs.Calls.{Buffers, lists, lent_to_task, task_answer, strips_after, output_after, performed, after_task}
use Rattle.job.specs.Fits.{Fits}

-- ---- the answer

module _ (plan : Plan) (heights : List ℤ) (marks strips output : List ℕ) (t k : ℕ) where
  -- What the call is lent, and what the marks say.
  abbrev lent : Lengths
  lent = lent_to_task heights (lists marks strips output)

  abbrev verdict : List Row
  verdict = verdict_rows plan.grid marks t k

  module _ (known : Result Sizes Refusal) (is : sizes_given known ≡ sizes_for plan lent) where
    pub answer_lent : (refusal : Refusal) → known ≡ Err refusal
        → refused_for refusal ≡ task_answer plan heights (lists marks strips output) t k
    unfolding task_answer
    answer_lent refusal e = refused_before (lent_rows plan lent) verdict (sizes_refused plan lent known is refusal e)

    module _ (sizes : Sizes) (e : known ≡ Ok sizes) where
      accepts : first_due (lent_rows plan lent) ≡ accepted
      accepts = (sizes_known plan lent known is sizes e).0

      pub answer_marks : (outcome : Result Unit Refusal) → answer_of outcome ≡ first_due verdict
          → answer_of outcome ≡ task_answer plan heights (lists marks strips output) t k
      unfolding task_answer
      answer_marks outcome v = v ∙ sym (accepted_before (lent_rows plan lent) verdict (sym accepts))

      pub marks_lent : Lent plan.grid (length marks)
      marks_lent =
          let enough = suffices plan lent accepts in
          record { kept = (rules plan enough.rules).grid_kept_law; enough = enough.of7_long }

-- ---- an accepted call

-- What an accepted call may rely on.
pub record Performable (plan : Plan) (heights : List ℤ) (marks strips output : List ℕ) (t k : ℕ) : Type 0 where
  pub fits : Fits plan t k (length heights) (length strips) (length output)
  pub mark_there : k < length marks
  pub room : get_or marks k 0 + 2 ^ t < 2 ^ 32

pub performable : (plan : Plan) (heights : List ℤ) (marks strips output : List ℕ) (t k : ℕ)
    → task_answer plan heights (lists marks strips output) t k ≡ accepted → Performable plan heights marks strips output t k
unfolding task_answer
performable plan heights marks strips output t k e =
    let lent = lent_to_task heights (lists marks strips output) in
    let verdict = verdict_rows plan.grid marks t k in
    let (tested, judged) = rows_accepted (lent_rows plan lent) verdict e in
    let enough = suffices plan lent tested in
    let settable = accepted_settable plan.grid marks t k judged in
    record {
      fits =
          record {
            rules = enough.rules;
            task_below = settable.task;
            block_below = settable.block;
            map_long = enough.map_long;
            strips_long = enough.strips_long;
            output_long = enough.output_long;
          };
      mark_there = omega (arith, settable.block, enough.of7_long);
      room = settable.room;
    }

-- ---- what a task writes

module _ (plan : Plan) (heights : List ℤ) (k : ℕ) (strips output : List ℕ) where
  -- What is promised of the strips and the output that a task leaves.
  abbrev Left : ℕ → List ℕ → List ℕ → Type 0
  Left t s o = (s ≡ strips_after plan heights t k strips) × (o ≡ output_after plan heights t k strips output)

  pub left_collect : (t : ℕ) (s : List ℕ) → t ≡ 0 → s ≡ collected plan (map_of plan heights) k strips → Left t s output
  unfolding strips_after output_after
  left_collect t s z e = rw z (e, refl)

  pub left_finish : (t : ℕ) (o : List ℕ) → t ≡ 5 → o ≡ finished plan (map_of plan heights) strips k output
      → Left t strips o
  unfolding strips_after output_after
  left_finish t o z e = rw z (refl, e)

  pub left_link : (t : ℕ) (s : List ℕ) → t < 6 → (t ≡ 0 → ⊥) → (t ≡ 5 → ⊥) → s ≡ linked plan k (t - 1) strips
      → Left t s output
  unfolding strips_after output_after
  left_link zero s h a b e = absurd (a refl)
  left_link (suc pass) s h a b e =
      let first : suc pass - 1 ≡ pass = omega arith in
      let last : pass ≡ 4 → ⊥ = λ z. b (omega arith) in
      rw (lt-ltb pass 4 (omega arith), ne_eqb (suc pass) 5 b) (rw first at e, refl)

-- ---- the lists after the call

pub performed_lists : (plan : Plan) (heights : List ℤ) (t k : ℕ) (marks strips output m s o : List ℕ)
    → m ≡ with_bit marks t k → s ≡ strips_after plan heights t k strips → o ≡ output_after plan heights t k strips output
    → lists m s o ≡ performed plan heights t k (lists marks strips output)
unfolding performed
performed_lists plan heights t k marks strips output m s o a b c = rw (a, b, c)

module _ (plan : Plan) (heights : List ℤ) (before : Buffers) (t k : ℕ) (outcome : Result Unit Refusal)
    (is : answer_of outcome ≡ task_answer plan heights before t k) where
  pub task_accepted : outcome ≡ Ok tt → (after : Buffers) → after ≡ performed plan heights t k before
      → (accepted ≡ task_answer plan heights before t k) × (after ≡ after_task plan heights t k before)
  unfolding after_task
  task_accepted e after p = let accepts = rw e at is in (accepts, rw (← accepts) p)

  pub task_refused : (refusal : Refusal) → outcome ≡ Err refusal
      → (refused_for refusal ≡ task_answer plan heights before t k) × (before ≡ after_task plan heights t k before)
  unfolding after_task
  task_refused refusal e = let refuses = rw e at is in (refuses, rw (← refuses))
