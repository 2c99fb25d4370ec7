-- `smooth_job::smooth_map` meets its contract: the first q heights are filled in. Assumes nothing.
use Rattle.std.proofs.Common.{w32}
use mathlib.Core.Path.{sym}
use native.Mathlib.Omega.{arith}
use lib.ListN.{length-set}
use Rattle.buffer.proofs.Listed.{listed_none, filled_more}
use Rattle.smooth_job.specs.Program.{heights_in}
use Rattle.number.proofs.SignedBits.{read_back_law}
use borrow.Author.Rules.{rules}
use Rattle.smooth_job.proofs.smooth_map.Goals as goal

pub loop-q-init : goal.loop-q-init
unfolding heights_in
loop-q-init c = (search rules, sym (listed_none _))

pub loop-q-preserved : goal.loop-q-preserved
unfolding heights_in
loop-q-preserved c = (
  simp length-set (omega arith),
  filled_more _ _ _ _ (omega arith) (read_back_law {w = w32} (search rules) c.height_at.ensures) c.loop-q.invariant.1,
)
