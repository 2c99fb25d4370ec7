-- Invariant: the marks before this block are without the bits that the recall clears.
use mathlib.Core.List.{◌++◌}
use mathlib.Core.Path.{◌≡◌}
use lib.ListN.{drop}
use Rattle.recall.proofs.Clearing.{recalled_to}
use Rattle.recall.proofs.clear_marks.Given as goal

abbrev pub invariant-loop-block : goal.invariant-loop-block
invariant-loop-block l =
    l.mark-items ++ drop l.blocks l.fn.marks ≡ recalled_to l.grid l.recalled l.fn.marks l.block
