-- The bit and the block's words make the lists of a performed task.
use Rattle.job.proofs.Tasking.{performable, performed_lists}
use Rattle.job.proofs.perform.Goals as goal

pub set_bit-requires : goal.set_bit-requires
set_bit-requires c =
    let able = performable _ _ _ _ _ _ _ c.requires in (able.fits.task_below, able.mark_there, able.room)

pub write_block-requires : goal.write_block-requires
write_block-requires c = (performable _ _ _ _ _ _ _ c.requires).fits

pub returns : goal.returns
returns c =
    performed_lists _ _ _ _ _ _ _ _ _ _ c.set_bit.ensures c.write_block.ensures.strip c.write_block.ensures.words
