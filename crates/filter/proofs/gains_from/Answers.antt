-- `gains_from` has the product of those of the gains passed so far that count.
use mathlib.Core.Path.{◌≡◌, ap, ap₂, sym, ◌∙◌}
use Prim.Native.Nat.{◌+◌, ◌-◌, ◌<◌, ◌≤◌, min}
use native.Mathlib.Omega.{arith}
use Rattle.word.specs.Word.{◌⊗◌}
use Rattle.passes.proofs.Gains.{gains_from_none}
use Rattle.filter.specs.PlanFilters.{filter_of, filters_of}
use Rattle.filter.proofs.GainsWithin.{gains_inside, gains_outside}
use Rattle.filter.proofs.gains_from.Goals as goal
use Rattle.filter.proofs.gains_from.Goals.{then-contains, else-contains}
use borrow.Author.Rules.{rules}
use mir.Syntax.{w64}
use mir.ValLaws.{to_z-of_z}
use Rattle.word.specs.Word.{residue}

pub loop-i-init : goal.loop-i-init
loop-i-init c =
    let none : min (0 - c.args.first) c.args.count ≡ 0 = omega arith in
    rw none (sym (gains_from_none _ _))

pub loop-i-preserved : goal.loop-i-preserved
unfolding filter_of
loop-i-preserved c =
    let a = c.args in
    let l = c.loop-i in
    elim c.if-contains.branch [
      | then-contains w ↦
          let low : a.first ≤ l.i-counter = search rules in
          let high : l.i-counter < a.first + a.count = search rules in
          rw w.product-is
          (w.mul-product.ensures
          ∙ ap₂ ◌⊗◌ l.invariant (w.residue.ensures ∙ ap residue (to_z-of_z w64 _ (search rules)))
          ∙ gains_inside (filters_of a.plan) a.first a.count l.i-counter low high)
      | else-contains w ↦
          rw w.product-is (l.invariant ∙ gains_outside (filters_of a.plan) a.first a.count l.i-counter (search rules))
    ]

pub returns : goal.returns
returns c =
    let a = c.args in
    let e : min (c.loop-i.i-counter - a.first) a.count ≡ a.count = omega (arith, c.requires) in
    rw e at c.loop-i.invariant
