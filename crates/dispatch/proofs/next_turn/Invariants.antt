-- `next_turn` goes round: the jobs passed so far are done.
use mathlib.Core.Path.{◌≡◌}
use mathlib.Core.Bool.{true}
use Prim.Native.Nat.{ℕ, ◌<◌}
use Rattle.turns.specs.Jobs.{job_at}
use Rattle.turns.specs.Turn.{job_done, going_round}
use Rattle.dispatch.proofs.next_turn.Given as goal

abbrev pub invariant-loop-passed : goal.invariant-loop-passed
invariant-loop-passed l = (d : ℕ) → d < l.passed → job_done (job_at l.jobs (going_round l.jobs l.last d)) l.marks ≡ true
