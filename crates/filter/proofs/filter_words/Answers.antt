-- `filter_words` has the residues of the pass's gain and of its coefficients.
use mathlib.Core.Path.{◌≡◌, refl, ap, ap₂, ◌∙◌}
use native.Mathlib.Omega.{arith}
use borrow.Author.Rules.{rules}
use lib.ListN.{length, length-set}
use mir.Syntax.{w64}
use mir.ValLaws.{to_z-of_z}
use Rattle.std.proofs.lemmas.Grind.{common_steps}
use Rattle.word.specs.Word.{residue}
use Rattle.plan.specs.Rules.{order_limit, coefficient_at}
use Rattle.filter.specs.FilterWords.{filter_words}
use Rattle.filter.proofs.Filters.{residues_are}
use Rattle.filter.proofs.filter_words.Goals as goal

pub loop-place-init : goal.loop-place-init
loop-place-init c = (refl, λ k h. absurd (omega arith))

pub loop-place-preserved : goal.loop-place-preserved
loop-place-preserved c =
    let coefficient = coefficient_at c.args.pass c.loop-place.place in
    let word_is : c.residue.result ≡ residue coefficient =
    c.residue.ensures ∙ ap residue (to_z-of_z w64 coefficient (search rules)) in (
      length-set c.loop-place.coefficients _ _ ∙ c.loop-place.invariant.0,
      λ k. grind (arith, common_steps, c.loop-place.invariant.1 k),
    )

pub returns : goal.returns
unfolding filter_words
returns c =
    let pass = c.args.pass in
    let count : length pass.coefficients ≡ order_limit = search rules in
    ap₂ (λ g d. record { gain = g; order = pass.order; coefficients = d })
    (c.residue-2.ensures ∙ ap residue (to_z-of_z w64 pass.gain (search rules)))
    (residues_are order_limit pass.coefficients c.loop-place.coefficients count c.loop-place.invariant.0
    (λ k h. c.loop-place.invariant.1 k (omega arith)))
