-- The marks that start leaves, one after another; and the ways out of start.
-- Assumes nothing.
use mathlib.Core.Path.{◌≡◌, ap, sym, ◌∙◌}
use mathlib.Core.List.{List, ◌++◌}
use Prim.Native.Nat.{ℕ, zero, suc, ◌+◌, ◌≤◌}
use native.Mathlib.Omega.{arith}
use Rattle.std.proofs.lemmas.List.Edits.{fill_more}
use lib.ListN.{length, set, drop, replicate}
use Rattle.std.specs.Prelude.{Result, Ok, Err}
use Rattle.refusal.specs.declared.Refusal.{Refusal}
use Rattle.refusal.specs.Refusals.{Answer, accepted, refused_for}
use Rattle.plan.specs.declared.Plan.{Plan}
use Rattle.plan.specs.declared.Sizes.{Sizes}
use Rattle.plan.specs.Sizes.{sizes_of}
use Rattle.plan.specs.FirstTests.{sizes_for, sizes_given}
use Rattle.plan.proofs.Known.{sizes_known, sizes_refused}
use Rattle.tasks.proofs.Marking.{mark_nothing}
use Rattle.buffer.specs.Written.{cleared}
use Rattle.buffer.proofs.Written.{written_none, written_next}
use Rattle.job_spec.specs.Calls.{lent_to_start, start_answer, unmarked, marks_after_start, strips_after_start}
use Rattle.job_spec.proofs.Start.{start_tells}

module _ (words : List ℕ) where
  pub unmarked_none : unmarked 0 words ≡ words
  unfolding unmarked
  unmarked_none = written_none _ _ words

  pub unmarked_next : (n : ℕ) → set (unmarked n words) n 1879048192 ≡ unmarked (n + 1) words
  unfolding unmarked
  unmarked_next n = ap (set (unmarked n words) n) (sym (mark_nothing n)) ∙ written_next _ _ n words

  -- Words filled with the mark of no task are unmarked.
  pub filled : (n : ℕ) → n ≤ length words → replicate n 1879048192 ++ drop n words ≡ unmarked n words
  filled zero h = sym unmarked_none
  filled (suc n) h =
      let next : n + 1 ≡ suc n = omega arith in
      rw next at (sym (fill_more n 1879048192 words (omega arith))
      ∙ ap (λ list. set list n 1879048192) (filled n (omega arith)) ∙ unmarked_next n)

-- ---- the ways out of start

module _ (plan : Plan) (marks strips : List ℕ) where
  -- What start promises of an answer and of the lists that it leaves.
  abbrev Promised : Answer → List ℕ → List ℕ → Type 0
  Promised answer m s =
      (answer ≡ start_answer plan marks strips)
      × ((m ≡ marks_after_start plan marks strips) × (s ≡ strips_after_start plan marks strips))

  module _ (known : Result Sizes Refusal) (is : sizes_given known ≡ sizes_for plan (lent_to_start marks strips)) where
    pub start_refused : (refusal : Refusal) → known ≡ Err refusal → Promised (refused_for refusal) marks strips
    unfolding start_answer marks_after_start strips_after_start
    start_refused refusal e =
        let refuses = sizes_refused plan (lent_to_start marks strips) known is refusal e in
        (refuses, (rw (← refuses), rw (← refuses)))

    module _ (sizes : Sizes) (e : known ≡ Ok sizes) where
      accepts : start_answer plan marks strips ≡ accepted
      unfolding start_answer
      accepts = (sizes_known plan (lent_to_start marks strips) known is sizes e).0

      are : sizes ≡ sizes_of plan
      are = (sizes_known plan (lent_to_start marks strips) known is sizes e).1

      pub long_enough : (sizes.marks ≤ length marks) × (sizes.strips ≤ length strips)
      unfolding sizes_of
      long_enough = let enough = start_tells plan marks strips accepts in rw are (enough.of7_long, enough.strips_long)

      pub start_accepted : (m s : List ℕ) → m ≡ unmarked sizes.marks marks → s ≡ cleared 0 1 sizes.strips strips
          → Promised accepted m s
      unfolding sizes_of marks_after_start strips_after_start
      start_accepted m s p q = (sym accepts, (rw accepts (rw are at p), rw accepts (rw are at q)))
