-- `smooth_job::plan_in` meets its contract: the first i words are filled in. Assumes nothing.
use mathlib.Core.Path.{sym}
use native.Mathlib.Omega.{arith}
use lib.ListN.{length-set}
use Rattle.buffer.proofs.Listed.{listed_none, filled_more}
use borrow.Author.Rules.{rules}
use Rattle.smooth_job.proofs.plan_in.Goals as goal

pub loop-i-init : goal.loop-i-init
loop-i-init c = (search rules, sym (listed_none _))

pub loop-i-preserved : goal.loop-i-preserved
loop-i-preserved c = (
  simp length-set (omega arith),
  filled_more _ _ _ _ (omega arith) c.word_at.ensures c.loop-i.invariant.1,
)
