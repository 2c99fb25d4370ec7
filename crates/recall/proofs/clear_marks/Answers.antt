-- Invariant: the marks before this block are without the bits that the recall clears.
use mathlib.Core.Path.{◌≡◌, sym, ap₂, ◌∙◌}
use native.Mathlib.Omega.{arith}
use lib.ListN.{length, take}
use Rattle.std.proofs.lemmas.List.{take-append-drop, length-take-le}
use Rattle.buffer.proofs.Written.{written_none}
use Rattle.grid.specs.Grid.{block_total}
use Rattle.grid.specs.Shapes.{position_of}
use Rattle.recall.specs.Clearing.{first_reached}
use Rattle.recall.specs.RecallCall.{marks_recalled}
use Rattle.recall.proofs.Clearing.{first_link, recalled_next}
use Rattle.recall.proofs.clear_marks.Goals as goal
use Rattle.recall.proofs.clear_marks.Goals.{After-first_reached-first, At-loop-block}

-- The loop goes over one mark for each block.
one_each : (c : At-loop-block) → length (take c.blocks-blocks.result c.args.marks.now) ≡ block_total c.args.grid
one_each c =
    length-take-le _ c.args.marks.now (omega (arith, c.blocks-blocks.ensures, c.requires.lent_at.lent.enough))
    ∙ c.blocks-blocks.ensures

-- Which task is the first that is reached.
first_known : (c : After-first_reached-first)
    → c.first_reached-first.result
    ≡ first_reached (position_of c.args.grid c.args.recalled) (position_of c.args.grid c.loop-block.block)
first_known c = c.first_reached-first.ensures ∙ ap₂ first_reached c.position-from.ensures c.position.ensures

pub loop-block-init : goal.loop-block-init
loop-block-init c = take-append-drop _ c.args.marks.now ∙ sym (written_none _ _ _)

pub first_tasks_of-requires : goal.first_tasks_of-requires
first_tasks_of-requires c =
    rw (first_known (goal.at.first_tasks_of-requires c).After-first_reached-first) (first_link _ _ _)

pub loop-block-preserved : goal.loop-block-preserved
loop-block-preserved c =
    recalled_next _ _ c.args.marks.now c.requires.valid _
    (omega (arith, one_each (goal.at.loop-block-preserved c).At-loop-block)) _ _ (omega arith) c.loop-block.invariant
    (first_known (goal.at.loop-block-preserved c).After-first_reached-first) c.first_tasks_of.ensures

pub returns : goal.returns
unfolding marks_recalled
returns c =
    let end : c.loop-block.block ≡ block_total c.args.grid =
    omega (arith, one_each (goal.at.returns c).At-loop-block)
    in
    rw end at c.loop-block.invariant
