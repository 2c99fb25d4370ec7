-- `plan::Plan::passes_kept` meets its contract: every pass passed keeps its rules. Assumes nothing.
use mathlib.Core.Path.{◌≡◌}
use mathlib.Core.Bool.{true}
use Prim.Native.Nat.{ℕ}
use Rattle.number.specs.Numbers.{all_below}
use Rattle.plan.specs.Rules.{pass_at, pass_kept}
use Rattle.plan.proofs.Plan.passes_kept.Given as goal

abbrev pub invariant-loop-pass : goal.invariant-loop-pass
invariant-loop-pass l =
    all_below (λ (k : ℕ). pass_kept l.fn.self.grid.side (pass_at l.fn.self k)) l.pass-index ≡ true
