-- The definitions compute what document 01 gives in its starred examples, and the words of the jobs worked by hand.
-- Assumes nothing.
use mathlib.Core.Path.{refl}
use Rattle.word.specs.Word.{modulus, minus_one, ◌⊕◌, ◌⊖◌, ◌⊗◌, residue, signed}
use Rattle.number.specs.Numbers.{all_below, total}
use Rattle.number.specs.SignedBits.{twos_complement}
use Rattle.plan.specs.Rules.{coefficients_kept, pass_kept, passes_kept, keeps_rules}
use Rattle.grid.specs.Grid.{grid_kept, block_count, block_extent, block_row, block_column, block_area, block_pixel_place, neighbour, goes_on}
use Rattle.plan.specs.Sizes.{sizes_of}
use Rattle.plan.specs.FirstTests.{lent_rows}
use Rattle.buffer.specs.Written.{rectangle_written, row_written, written, cleared}
use Rattle.buffer.specs.Lists.{list_of, joined}
use Rattle.plan_reader.specs.ReadPlan.{pass_place, word_rows, head_rows, coefficient_rows, pass_rows, passes_rows, end_rows, side_rows, plan_rows, read_plan}
use Rattle.passes.specs.Line.{history, output}
use Rattle.passes.specs.Filter.{less_feedback, filter_step}
use Rattle.passes.specs.Passes.{filter_line, filter_lines, passes_over, serial_passes}
use Rattle.buffer.specs.Pixel.{is_dropout, reading, pixel, height_map}
use Rattle.passes.specs.Table.{corner_of, rectangle_sum}
use Rattle.filter.specs.PlanFilters.{filter_of}
use Rattle.serial.specs.Serial.{serial_answer, serial_words, serial_output, result_words, passes_output}
use Rattle.rectangle.specs.Rectangle.{rectangle_call}
use Rattle.dropouts.specs.Dropouts.{dropouts_inside, dropouts_call}
use Rattle.tasks.specs.Tasks.{has_task, exists, needs_of, all_done}
use Rattle.tasks.specs.Marks.{has_bit, is_marked, spare_clear, mark_valid, mark_of, with_bit}
use Rattle.tasks.specs.Verdict.{blocks_of, looked_at, all_blocks, least_broken_of, least_broken, verdict_rows}
use Rattle.report.specs.Report.{first_broken}
use Rattle.recall.specs.Recall.{reaches, clears, done_without}
use Rattle.recall.specs.RecallCall.{recall_answer, marks_recalled, marks_after_recall}
use Rattle.task_words.specs.Strips.{strip_place, inside_block, edge_word, strip_word, nearest_first, past_edges, strip_written_to, half_written}
use Rattle.task_words.specs.Writes.{alone_word, collected, link_word, linked, finish_word, block_written, finished}
use Rattle.job_spec.specs.Calls.{start_answer, unmarked, marks_after_start, strips_after_start, started, task_answer, strips_after, output_after, performed, after_task, after_calls}
use Rattle.job_spec.specs.Steps.{after_step, after_steps, step_answer, step_answers, on_map}
use Rattle.worked_examples.specs.Examples.{serial_example, serial_words_example, rectangle_example, dropouts_example, after_job, output_example, strips_example, job_examples, starred, further_rectangles, dropouts, faces, after_history, numbers_said, rescan_examples, ExamplesHold}

pub examples_hold : ExamplesHold
unfolding modulus minus_one ◌⊕◌ ◌⊖◌ ◌⊗◌ residue twos_complement signed all_below coefficients_kept pass_kept passes_kept keeps_rules block_count
    block_extent grid_kept block_area sizes_of list_of joined pass_place word_rows head_rows coefficient_rows pass_rows passes_rows end_rows side_rows plan_rows read_plan history
    output less_feedback filter_step filter_line filter_lines passes_over serial_passes is_dropout reading pixel height_map corner_of rectangle_sum filter_of
    written serial_answer serial_words serial_output result_words passes_output rectangle_call dropouts_inside dropouts_call has_task exists needs_of all_done total has_bit is_marked spare_clear
    mark_valid mark_of with_bit blocks_of looked_at least_broken_of least_broken verdict_rows block_row block_column block_pixel_place neighbour
    goes_on strip_place inside_block edge_word strip_word nearest_first past_edges strip_written_to row_written half_written alone_word
    collected link_word linked finish_word block_written rectangle_written finished start_answer unmarked cleared marks_after_start strips_after_start
    started lent_rows task_answer strips_after output_after performed after_task after_calls serial_example rectangle_example dropouts_example
    after_job output_example strips_example job_examples starred further_rectangles dropouts all_blocks first_broken reaches clears done_without
    recall_answer marks_recalled marks_after_recall after_step after_steps step_answer step_answers on_map after_history numbers_said rescan_examples
    serial_words_example faces
examples_hold = refl
