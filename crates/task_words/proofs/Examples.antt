-- The definitions compute the words of the jobs worked by hand.
-- Assumes nothing.
use mathlib.Core.Path.{◌≡◌, refl}
use mathlib.Core.List.{map}
use Rattle.word.specs.Word.{modulus, minus_one, ◌⊕◌, ◌⊖◌, ◌⊗◌, residue}
use Rattle.grid.specs.Grid.{block_count, block_extent, block_row, block_column, block_area, block_pixel_place, neighbour, goes_on}
use Rattle.number.specs.Numbers.{total}
use Rattle.passes.specs.Line.{history, output}
use Rattle.passes.specs.Filter.{less_feedback, filter_step}
use Rattle.passes.specs.Passes.{filter_line, filter_lines, passes_over}
use Rattle.buffer.specs.Written.{rectangle_written, row_written, written}
use Rattle.buffer.specs.Pixel.{is_dropout, reading, pixel, height_map}
use Rattle.filter.specs.PlanFilters.{filter_of}
use Rattle.task_words.specs.Strips.{strip_place, inside_block, edge_word, strip_word, nearest_first, past_edges, strip_written_to, half_written}
use Rattle.task_words.specs.Writes.{alone_word, collected, link_word, linked, finish_word, block_written, finished}
use Rattle.task_words.specs.Examples.{after_collects, after_links, after_finishes, collected_strips, linked_strips, finished_output, job_examples, blocks_examples}

pub examples_hold : map (λ e. e.computed) blocks_examples ≡ map (λ e. e.expected) blocks_examples
unfolding modulus minus_one ◌⊕◌ ◌⊖◌ ◌⊗◌ residue block_count block_extent total history output less_feedback filter_step filter_line
    filter_lines passes_over is_dropout reading pixel height_map filter_of written block_row block_column block_area block_pixel_place neighbour goes_on strip_place
    inside_block edge_word strip_word nearest_first past_edges strip_written_to row_written half_written alone_word collected link_word linked
    finish_word block_written rectangle_written finished after_collects after_links after_finishes collected_strips linked_strips finished_output
    job_examples blocks_examples
examples_hold = refl
