-- As many calls are accepted as tasks are done after them, and no task is accepted twice. Assumes nothing.
use mathlib.Core.Path.{◌≡◌, refl, sym, ap, ap₂, ◌∙◌}
use mathlib.Core.Logic.{◌≢◌}
use mathlib.Core.Bool.{Bool, true, false, cond}
use mathlib.Core.List.{List, [], ◌∷◌}
use Prim.Native.Nat.{ℕ, zero, suc, ◌+◌, ◌<◌}
use native.Mathlib.Omega.{arith}
use Rattle.refusal.specs.Refusals.{accepted}
use Rattle.refusal.specs.Table.{if_accepted}
use Rattle.refusal.proofs.Table.{not_accepted}
use Rattle.plan.specs.declared.Plan.{Plan}
use Rattle.tasks.specs.Tasks.{BlockTask, ready, nothing_done, also_done}
use Rattle.tasks.specs.Counts.{done_count}
use Rattle.tasks.proofs.Counting.{count_nothing}
use Rattle.tasks.proofs.Needs.{ready_undone}
use Rattle.tasks.proofs.Progress.{count_ready, also_new, also_kept}
use Rattle.job_spec.specs.Calls.{accepted_count}
use Rattle.job_spec.specs.Demand3.{done_by, done_from, done_after, due_answer, due_from, count_after, AcceptedAt, call_at}
use Rattle.job_spec.proofs.CallAnswers.{by_ready, accepted_if_ready}
use Rattle.job_spec.proofs.Done.{clash}

module _ (plan : Plan) where
  -- An accepted call makes one task more done, a refused one none.
  one_more : (done : ℕ → ℕ → Bool) (call : BlockTask)
      → done_count plan.grid (done_by plan done call)
      ≡ done_count plan.grid done
      + if_accepted (due_answer plan done call) 1 0
  unfolding done_by
  one_more done call =
      rw (by_ready {A = ℕ} plan done call 1 0)
      (by (ready plan.grid done call.task call.block) refl)
    where
      by : (test : Bool) → ready plan.grid done call.task call.block ≡ test
          → done_count plan.grid (cond test (also_done done call.task call.block) done)
          ≡ done_count plan.grid done + cond test 1 0
      by true r = count_ready plan.grid done call.task call.block r
      by false r = omega arith

  count_from : (done : ℕ → ℕ → Bool) (calls : List BlockTask)
      → done_count plan.grid (done_from plan done calls)
      ≡ done_count plan.grid done + accepted_count (due_from plan done calls)
  unfolding done_from due_from accepted_count
  count_from done [] = omega arith
  count_from done (call ∷ calls) =
      let first = one_more done call in
      let rest = count_from (done_by plan done call) calls in
      omega arith

  pub accepted_done : (calls : List BlockTask) → accepted_count (due_from plan nothing_done calls) ≡ count_after plan calls
  unfolding done_after
  accepted_done calls =
      let all = count_from nothing_done calls in
      let none = count_nothing plan.grid in
      omega arith

  -- ---- no task is accepted twice

  -- A task that is done stays done.
  stays_done_law : (done : ℕ → ℕ → Bool) (call : BlockTask) (t k : ℕ) → done t k ≡ true → done_by plan done call t k ≡ true
  unfolding done_by
  stays_done_law done call t k d = by (ready plan.grid done call.task call.block)
    where
      by : (test : Bool) → cond test (also_done done call.task call.block) done t k ≡ true
      by true = also_kept done call.task call.block t k d
      by false = d

  -- An accepted call makes its task done,
  makes_done : (done : ℕ → ℕ → Bool) (call : BlockTask) → due_answer plan done call ≡ accepted
      → done_by plan done call call.task call.block ≡ true
  unfolding done_by
  makes_done done call e = rw ((accepted_if_ready plan done call).0 e) (also_new done call.task call.block)

  -- and a call of a task that is done is not accepted,
  not_again : (done : ℕ → ℕ → Bool) (call : BlockTask) → done call.task call.block ≡ true
      → due_answer plan done call ≡ accepted → ⊥
  not_again done call d e =
      clash d
      (ready_undone plan.grid done call.task call.block
      ((accepted_if_ready plan done call).0 e))

  -- nor is any later one of it.
  never_again : (done : ℕ → ℕ → Bool) (calls : List BlockTask) (t k : ℕ) → done t k ≡ true → (j : ℕ)
      → AcceptedAt (due_from plan done calls) j → call_at calls j ≢ record { task = t; block = k }
  unfolding due_from
  never_again done [] t k d j e same = not_accepted e
  never_again done (call ∷ calls) t k d zero e same =
      not_again done call (ap₂ done (ap (λ (c : BlockTask). c.task) same) (ap (λ (c : BlockTask). c.block) same) ∙ d) e
  never_again done (call ∷ calls) t k d (suc j) e same =
      never_again (done_by plan done call) calls t k (stays_done_law done call t k d) j e same

  pub once : (done : ℕ → ℕ → Bool) (calls : List BlockTask) (i j : ℕ) → i < j → AcceptedAt (due_from plan done calls) i
      → AcceptedAt (due_from plan done calls) j → call_at calls i ≢ call_at calls j
  unfolding due_from
  once done [] i j h e f same = not_accepted e
  once done (call ∷ calls) zero zero h e f same = absurd (omega arith)
  once done (call ∷ calls) zero (suc j) h e f same =
      never_again (done_by plan done call) calls call.task call.block (makes_done done call e) j f (sym same)
  once done (call ∷ calls) (suc i) zero h e f same = absurd (omega arith)
  once done (call ∷ calls) (suc i) (suc j) h e f same =
      once (done_by plan done call) calls i j (omega arith) e f same
