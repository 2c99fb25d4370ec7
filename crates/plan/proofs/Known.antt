-- What the answer of `sizes_for` tells of the record and of the lent lengths. Assumes nothing.
use mathlib.Core.Path.{◌≡◌, refl, ap, sym}
use Rattle.std.specs.Prelude.{Result, Ok, Err}
use Rattle.refusal.specs.declared.Refusal.{Refusal}
use Rattle.refusal.specs.Refusals.{Answer, refused_for, accepted, refused}
use Rattle.refusal.specs.Table.{first_due, Given, given}
use Rattle.refusal.proofs.Table.{not_accepted}
use Rattle.plan.specs.declared.Lengths.{Lengths}
use Rattle.plan.specs.declared.Plan.{Plan}
use Rattle.plan.specs.declared.Sizes.{Sizes}
use Rattle.plan.specs.Sizes.{sizes_of}
use Rattle.plan.specs.FirstTests.{lent_rows, zero_sizes, sizes_for, sizes_given}

module _ (plan : Plan) (lent : Lengths) (answer : Result Sizes Refusal) (is : sizes_given answer ≡ sizes_for plan lent) where
  -- Where sizes are known the tests accept, and they are the plan's.
  pub sizes_known : (sizes : Sizes) → answer ≡ Ok sizes
      → (first_due (lent_rows plan lent) ≡ accepted) × (sizes ≡ sizes_of plan)
  unfolding sizes_for
  sizes_known sizes e = by (first_due (lent_rows plan lent)) refl (rw e at is)
    where
      by : (tested : Answer) → first_due (lent_rows plan lent) ≡ tested
          → ◌≡◌ {A = Given Sizes} (record { answer = accepted; value = sizes }) (given tested (sizes_of plan) zero_sizes)
          → (first_due (lent_rows plan lent) ≡ accepted) × (sizes ≡ sizes_of plan)
      by accepted t g = (t, ap (λ (h : Given Sizes). h.value) g)
      by (refused number place) t g = absurd (not_accepted (sym (ap (λ (h : Given Sizes). h.answer) g)))

  -- Where they are refused, the tests refuse.
  pub sizes_refused : (refusal : Refusal) → answer ≡ Err refusal → refused_for refusal ≡ first_due (lent_rows plan lent)
  unfolding sizes_for
  sizes_refused refusal e = ap (λ (h : Given Sizes). h.answer) (rw e at is)
