-- `gains_from` has the product of those of the gains passed so far that count.
use mathlib.Core.Path.{◌≡◌}
use Prim.Native.Nat.{◌-◌, min}
use Rattle.passes.specs.Gains.{gains_from}
use Rattle.filter.specs.PlanFilters.{filters_of}
use Rattle.filter.proofs.gains_from.Given as goal

abbrev pub invariant-loop-i : goal.invariant-loop-i
invariant-loop-i l =
    l.product ≡ gains_from (filters_of l.fn.plan) l.fn.first (min (l.i-counter - l.fn.first) l.fn.count)
