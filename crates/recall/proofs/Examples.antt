-- The definitions compute what was worked by hand. Assumes nothing.
use mathlib.Core.Path.{refl}
use Rattle.number.specs.Numbers.{total}
use Rattle.buffer.specs.Written.{written}
use Rattle.grid.specs.Grid.{block_count, block_row, block_column}
use Rattle.tasks.specs.Tasks.{has_task, exists}
use Rattle.tasks.specs.Marks.{has_bit, is_marked, mark_of}
use Rattle.recall.specs.Recall.{reaches, clears, done_without}
use Rattle.recall.specs.RecallCall.{marks_recalled}
use Rattle.recall.specs.Examples.{numbers_where, ClearedByHand, MarksByHand}

pub cleared_by_hand : ClearedByHand
unfolding block_count block_row block_column has_task exists reaches clears numbers_where
cleared_by_hand = refl

pub marks_by_hand : MarksByHand
unfolding total written block_count block_row block_column has_task exists has_bit is_marked mark_of reaches clears done_without marks_recalled
marks_by_hand = refl
