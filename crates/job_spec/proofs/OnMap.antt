-- Task calls on one map as steps: they do, leave and answer the same, clear nothing, and change no height. Assumes nothing.
use mathlib.Core.Path.{◌≡◌, refl, ap, ap₂, ◌∙◌}
use mathlib.Core.Bool.{Bool, true, false, not, ◌&&◌, ◌||◌, cond}
use mathlib.Core.List.{List, [], ◌∷◌}
use Prim.Native.Nat.{ℕ, ◌≤◌}
use lib.IntN.{ℤ}
use lib.ListN.{length}
use borrow.Author.Tests.{le-ltb}
use Rattle.plan.specs.declared.Plan.{Plan}
use Rattle.plan.specs.Sizes.{needed_pixels}
use Rattle.tasks.specs.Tasks.{BlockTask, nothing_done, also_done}
use Rattle.tasks.proofs.Progress.{also_kept}
use Rattle.job_spec.specs.Calls.{Buffers, after_calls, answers_of}
use Rattle.job_spec.specs.Demand3.{done_by, done_from, due_answer, due_from}
use Rattle.job_spec.specs.Rescan.{UnchangedFrom}
use Rattle.job_spec.specs.Steps.{perform, after_step, after_steps, step_answer, step_answers, accepts, done_by_step, done_by_steps, due_to_step, due_to_steps, was_cleared, ClearedDoneAgain, on_map}
use Rattle.job_spec.proofs.Done.{clash}

module _ (plan : Plan) (heights : List ℤ) where
  pub after_on_map : (calls : List BlockTask) (now : Buffers)
      → after_steps plan (on_map heights calls) now ≡ after_calls plan heights calls now
  unfolding after_steps after_step on_map after_calls
  after_on_map [] now = refl
  after_on_map (call ∷ calls) now = after_on_map calls _

  pub answers_on_map : (calls : List BlockTask) (now : Buffers)
      → step_answers plan (on_map heights calls) now ≡ answers_of plan heights calls now
  unfolding step_answers step_answer after_step on_map answers_of
  answers_on_map [] now = refl
  answers_on_map (call ∷ calls) now = ap₂ ◌∷◌ refl (answers_on_map calls _)

  pub unchanged_on_map : (i : ℕ) (done : ℕ → ℕ → Bool) (calls : List BlockTask) → UnchangedFrom plan heights i done (on_map heights calls)
  unfolding UnchangedFrom on_map
  unchanged_on_map i done [] = tt
  unchanged_on_map i done (call ∷ calls) = (λ stays long y x a b. refl, unchanged_on_map i (done_by_step plan done (perform heights call.task call.block)) calls)

  -- A call takes nothing away.
  call_keeps : (done : ℕ → ℕ → Bool) (t k u j : ℕ) → done u j ≡ true → done_by_step plan done (perform heights t k) u j ≡ true
  unfolding done_by_step
  call_keeps done t k u j e = by (accepts plan done (perform heights t k))
    where
      by : (r : Bool) → cond r (also_done done t k) done u j ≡ true
      by true = also_kept done t k u j e
      by false = e

  pub nothing_cleared : (calls : List BlockTask) → ClearedDoneAgain plan (on_map heights calls)
  unfolding was_cleared on_map
  nothing_cleared calls t k e = clash e (none nothing_done calls)
    where
      none : (done : ℕ → ℕ → Bool) (calls : List BlockTask) → was_cleared plan done (on_map heights calls) t k ≡ false
      none done [] = refl
      none done (call ∷ calls) =
          rw (none (done_by_step plan done (perform heights call.task call.block)) calls)
          (by (done t k) (done_by_step plan done (perform heights call.task call.block) t k)
          (call_keeps done call.task call.block t k))
        where
          by : (a b : Bool) → (a ≡ true → b ≡ true) → ((a && not b) || false) ≡ false
          by true true f = refl
          by true false f = clash (f refl) refl
          by false b f = refl

  -- With a map that is long enough, by what is done as without recalls.
  module _ (long : needed_pixels plan ≤ length heights) where
    done_by_call : (done : ℕ → ℕ → Bool) (call : BlockTask)
        → done_by_step plan done (perform heights call.task call.block) ≡ done_by plan done call
    unfolding done_by_step accepts done_by
    done_by_call done call = rw (le-ltb (length heights) (needed_pixels plan) long)

    pub done_on_map : (done : ℕ → ℕ → Bool) (calls : List BlockTask) → done_by_steps plan done (on_map heights calls) ≡ done_from plan done calls
    unfolding done_by_steps on_map done_from
    done_on_map done [] = refl
    done_on_map done (call ∷ calls) =
        ap (λ then. done_by_steps plan then (on_map heights calls)) (done_by_call done call)
        ∙ done_on_map (done_by plan done call) calls

    due_to_call : (done : ℕ → ℕ → Bool) (call : BlockTask)
        → due_to_step plan done (perform heights call.task call.block) ≡ due_answer plan done call
    unfolding due_to_step due_answer
    due_to_call done call = rw (le-ltb (length heights) (needed_pixels plan) long)

    pub due_on_map : (done : ℕ → ℕ → Bool) (calls : List BlockTask) → due_to_steps plan done (on_map heights calls) ≡ due_from plan done calls
    unfolding due_to_steps on_map due_from
    due_on_map done [] = refl
    due_on_map done (call ∷ calls) =
        ap₂ ◌∷◌ (due_to_call done call)
        (ap (λ then. due_to_steps plan then (on_map heights calls)) (done_by_call done call)
        ∙ due_on_map (done_by plan done call) calls)
