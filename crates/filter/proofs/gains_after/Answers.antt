-- `gains_after` has the product of the gains of the passes after a pass.
use mathlib.Core.Path.{ap, ◌∙◌}
use Prim.Native.Nat.{◌-◌}
use native.Mathlib.Numerals.{add-one}
use Rattle.passes.specs.Gains.{gains_from}
use Rattle.filter.specs.PlanFilters.{filters_of}
use Rattle.filter.specs.FilterWords.{gains_after}
use Rattle.filter.proofs.gains_after.Goals as goal

pub returns : goal.returns
unfolding gains_after
returns c =
    let a = c.args in
    c.gains_from.ensures ∙ ap (λ u. gains_from (filters_of a.plan) u (a.last - a.pass)) (add-one a.pass)
