-- The definitions compute the words of the examples.
-- Assumes nothing.
use mathlib.Core.Path.{◌≡◌, refl}
use mathlib.Core.List.{map}
use Rattle.word.specs.Word.{modulus, minus_one, ◌⊕◌, ◌⊖◌, ◌⊗◌, residue}
use Rattle.passes.specs.Line.{history, output}
use Rattle.passes.specs.Filter.{less_feedback, filter_step}
use Rattle.passes.specs.Passes.{filter_line, filter_lines, passes_over, serial_passes}
use Rattle.buffer.specs.Lists.{list_of}
use Rattle.buffer.specs.Pixel.{is_dropout, reading, pixel, height_map}
use Rattle.passes.specs.Table.{corner_of, rectangle_sum}
use Rattle.passes.specs.Examples.{filter_of, passes_of, passes_example, rectangle_example, passes_examples}

pub examples_hold : map (λ e. e.computed) passes_examples ≡ map (λ e. e.expected) passes_examples
unfolding modulus minus_one ◌⊕◌ ◌⊖◌ ◌⊗◌ residue history output less_feedback filter_step filter_line filter_lines
    passes_over serial_passes is_dropout reading pixel corner_of rectangle_sum filter_of passes_of height_map list_of
    passes_example rectangle_example passes_examples
examples_hold = refl
