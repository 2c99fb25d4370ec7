-- `copy_row` multiplies words that lie 1 apart, which are a row.
use mathlib.Core.Path.{◌∙◌}
use Rattle.buffer.proofs.Copies.{row_apart}
use Rattle.collect_finish.proofs.copy_row.Goals as goal

pub returns-else-gain-eq1 : goal.returns-else-gain-eq1
returns-else-gain-eq1 c = c.scale_words.ensures ∙ row_apart _ _ _ _
