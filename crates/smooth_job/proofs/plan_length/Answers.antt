-- `smooth_job::plan_length` meets its contract: what is left of the search is the search. Assumes nothing.
use native.Mathlib.Omega.{arith}
use Rattle.smooth_job.proofs.Input.{search_start, search_found, search_on, search_none}
use Rattle.smooth_job.proofs.plan_length.Goals as goal

pub loop-i-init : goal.loop-i-init
loop-i-init c = (omega (arith, c.min-most.ensures), search_start _ _ c.min-most.ensures)

pub returns-then-kind_of-eq-END_KIND : goal.returns-then-kind_of-eq-END_KIND
returns-then-kind_of-eq-END_KIND c =
    search_found _ _ _ c.loop-i.invariant.1 c.loop-i-test.true _ c.word_at.ensures
    (rw c.kind_of.ensures at c.if-kind_of-eq-END_KIND.true)

pub loop-i-preserved : goal.loop-i-preserved
loop-i-preserved c = (
  c.loop-i.invariant.0,
  search_on _ _ _ c.loop-i.invariant.1 c.loop-i-test.true _ c.word_at.ensures
      (rw c.kind_of.ensures at c.if-kind_of-eq-END_KIND.false),
)

pub returns : goal.returns
returns c = search_none _ _ _ c.loop-i.invariant.1 (omega arith) c.loop-i-test.false
