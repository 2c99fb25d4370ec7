-- A call is accepted exactly where its task is ready by what is done. Assumes nothing.
use mathlib.Core.Path.{◌≡◌, refl}
use mathlib.Core.Bool.{Bool, true, false, not, ◌&&◌, cond}
use mathlib.Core.List.{[], ◌∷◌}
use Prim.Native.Nat.{ℕ}
use Rattle.refusal.specs.Table.{◌at◌when◌, first_due, if_accepted}
use Rattle.plan.specs.declared.Plan.{Plan}
use Rattle.tasks.specs.Tasks.{BlockTask, exists, needs_of, all_done, ready}
use Rattle.tasks.specs.Verdict.{done_rows}
use Rattle.tasks.proofs.Verdicts.{accepted_ready, ready_accepted}
use Rattle.job_spec.specs.Demand3.{due_answer, AcceptedIfReady}

pub by_ready : {A : Type 0} (plan : Plan) (done : ℕ → ℕ → Bool) (call : BlockTask) (accepted refused : A)
    → if_accepted (due_answer plan done call) accepted refused
    ≡ cond (ready plan.grid done call.task call.block) accepted refused
unfolding due_answer done_rows ready
by_ready plan done call a b =
    by (exists plan.grid call.task call.block) (done call.task call.block)
    (all_done done (needs_of plan.grid call.task call.block))
  where
    by : (x d y : Bool)
        → if_accepted (first_due (8 at 0 when not x ∷ 10 at 0 when d ∷ 11 at 0 when not y ∷ [])) a b
        ≡ cond (x && (not d && y)) a b
    by true true y = refl
    by true false true = refl
    by true false false = refl
    by false d y = refl

pub accepted_if_ready : AcceptedIfReady
unfolding due_answer
accepted_if_ready plan done call = (
  accepted_ready plan.grid done call.task call.block,
  ready_accepted plan.grid done call.task call.block,
)
