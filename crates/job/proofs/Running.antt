-- Steps one after another: what is left of them after i steps gives the same lists and the same count as all. Calls on one map
-- are such steps. Assumes nothing.
use mathlib.Core.Path.{◌≡◌, refl, sym, ap, ◌∙◌}
use mathlib.Core.List.{List, ◌∷◌, ◌++◌}
use Prim.Native.Nat.{ℕ, zero, suc, ◌+◌, ◌-◌, ◌≤◌, ◌<◌, min}
use native.Mathlib.Omega.{arith}
use lib.IntN.{ℤ}
use lib.ListN.{length}
use mir.Val.{bool_byte}
use Rattle.std.specs.Result.{is_ok}
use Rattle.std.specs.Prelude.{Result, Ok, Err}
use Rattle.refusal.specs.declared.Refusal.{Refusal}
use Rattle.refusal.specs.Table.{answer_of, if_accepted}
use Rattle.plan.specs.declared.Plan.{Plan}
use Rattle.buffer.specs.Lists.{word_at}
use Rattle.job_spec.specs.Calls.{Buffers, accepted_count, calls_from, calls_of}
use Rattle.job_spec.specs.Steps.{Step, after_step, after_steps, step_answer, step_answers, on_map}
use Rattle.job_spec.proofs.Demand3.{demand3}
use Rattle.job_spec.proofs.OnMap.{after_on_map, answers_on_map}
use Rattle.job_spec.proofs.Rescan.{rescan}
use Rattle.job_spec.proofs.InTurn.{after_in_turn}
use Rattle.job.specs.RunCalls.{Ran}
use Rattle.job.specs.RunList.{task_at, numbered_from, steps_by, StepsRun}
use Rattle.job.specs.RunSteps.{RanSteps, steps_of}

-- A step adds at most one accepted step.
pub one_most : (outcome : Result Unit Refusal) → if_accepted (answer_of outcome) 1 0 ≤ 1
one_most (Ok tt) = omega arith
one_most (Err refusal) = omega arith

-- What the code counts of an answer.
pub one_counted : (outcome : Result Unit Refusal) → bool_byte (is_ok outcome) ≡ if_accepted (answer_of outcome) 1 0
one_counted (Ok tt) = refl
one_counted (Err refusal) = refl

-- ---- the steps of two lists, as a number stands for one at a block

module _ (plan : Plan) (step : List ℤ → ℕ → ℕ → Step) (heights : List ℤ) (numbers blocks : List ℕ) (count : ℕ)
    (start : Buffers) where
  abbrev steps : ℕ → ℕ → List Step
  steps = numbered_from step heights numbers blocks

  -- After i steps, of which `accepted` were accepted, the lists are `now`.
  pub record Running (i accepted : ℕ) (now : Buffers) : Type 0 where
    pub few : accepted ≤ i
    pub left : after_steps plan (steps i (count - i)) now ≡ after_steps plan (steps 0 count) start
    pub counted : accepted + accepted_count (step_answers plan (steps i (count - i)) now)
        ≡ accepted_count (step_answers plan (steps 0 count) start)

  pub running_start : Running 0 0 start
  running_start =
      let all : count - 0 ≡ count = omega arith in
      record { few = omega arith; left = rw all; counted = rw all (omega arith) }

  pub running_next : (i accepted : ℕ) (now : Buffers) → Running i accepted now → i < count
      → (outcome : Result Unit Refusal)
      → answer_of outcome ≡ step_answer plan (step heights (word_at numbers i) (word_at blocks i)) now → (one : ℕ)
      → one ≡ if_accepted (answer_of outcome) 1 0 → (after : Buffers)
      → after ≡ after_step plan (step heights (word_at numbers i) (word_at blocks i)) now → Running (i + 1) (accepted + one) after
  unfolding after_steps step_answers accepted_count numbered_from
  running_next i accepted now run h outcome p one q after r =
      let more : count - i ≡ suc (count - (i + 1)) = omega arith in
      let next : suc i ≡ i + 1 = omega arith in
      record {
        few = omega (arith, run.few, one_most outcome);
        left = rw r (rw (more, next) at run.left);
        counted = let whole = rw (more, next) at run.counted in rw (r, q, p) (omega (arith, whole));
      }

  pub running_end : (i accepted : ℕ) (now : Buffers) → Running i accepted now → i ≡ count
      → StepsRun plan (steps 0 count) start now accepted
  unfolding after_steps step_answers accepted_count numbered_from
  running_end i accepted now run h =
      let none : count - i ≡ 0 = omega arith in
      let whole = rw none at run.counted in
      record { counted = omega (arith, whole); lists_after = rw none at run.left }

-- ---- task calls and recalls: demand 3 with recalls is a law of the lists that they leave

pub steps_ran : (plan : Plan) (heights : List ℤ) (numbers blocks : List ℕ) (start now : Buffers) (accepted : ℕ)
    → StepsRun plan (steps_of heights numbers blocks) start now accepted
    → RanSteps plan (steps_of heights numbers blocks) start now accepted
steps_ran plan heights numbers blocks start now accepted run =
    let steps = steps_of heights numbers blocks in
    record {
      counted = run.counted;
      lists_after = run.lists_after;
      claimed = λ lent earlier start_accepted begun output_long.
          let now_is = run.lists_after ∙ ap (after_steps plan steps) begun ∙ sym (after_in_turn plan earlier steps _) in
          rw now_is (rescan plan lent start_accepted output_long (earlier ++ steps));
    }

-- ---- task calls on one map: they are such steps, and demand 3 is a law of the lists that they leave

as_steps : (heights : List ℤ) (numbers blocks : List ℕ) (i n : ℕ)
    → numbered_from task_at heights numbers blocks i n ≡ on_map heights (calls_from numbers blocks i n)
unfolding numbered_from on_map calls_from
as_steps heights numbers blocks i zero = refl
as_steps heights numbers blocks i (suc n) =
    ap (λ rest. task_at heights (word_at numbers i) (word_at blocks i) ∷ rest) (as_steps heights numbers blocks (suc i) n)

pub calls_ran : (plan : Plan) (heights : List ℤ) (numbers blocks : List ℕ) (start now : Buffers) (accepted : ℕ)
    → StepsRun plan (steps_by task_at heights numbers blocks) start now accepted
    → Ran plan heights (calls_of numbers blocks) start now accepted
calls_ran plan heights numbers blocks start now accepted run =
    let calls = calls_of numbers blocks in
    let same = as_steps heights numbers blocks 0 (min (length numbers) (length blocks)) in
    let counted = rw same at run.counted in
    let left = rw same at run.lists_after in
    let now_is = left ∙ after_on_map plan heights calls start in
    record {
      counted = counted ∙ ap accepted_count (answers_on_map plan heights calls start);
      lists_after = now_is;
      claimed = λ lent start_accepted begun map_long output_long.
          rw (now_is, begun) (demand3 plan heights lent start_accepted map_long output_long calls);
    }
