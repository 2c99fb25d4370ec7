-- Strips: document 01, 'Blocks, marks and strips'; document 02, CR 8. The strip of a pass has a line for each of the b columns
-- (down, up) or rows (right, left), and in each line as many places as the order. Places stand in map order.
use Rattle.std.specs.Prelude.{Bool, ◌&&◌, cond, List, ℕ, zero, suc, ◌+◌, ◌-◌, ◌*◌, ltb, leb}
use Rattle.number.specs.Numbers.{row_major}
use Rattle.plan.specs.declared.Plan.{Plan}
use Rattle.plan.specs.Sizes.{order_of, order_sum, half_words, slot_words}
use Rattle.buffer.specs.Lists.{word_at, by_place}
use Rattle.axis.specs.Axis.{Axis, Direction, forward, backward, axis_of, direction_of, along, across, line_of}
use Rattle.buffer.specs.Written.{row_written}
use Rattle.grid.specs.Grid.{neighbour, or_zero, extent_along, lines_across}
use Rattle.task_words.specs.declared.Half.{Half}
use Rattle.task_words.specs.declared.Half.TheVariants.{Lone, Linked}

-- ---- where a strip lies

-- The first word of the slot of block k: k×2×b×R.
abbrev pub slot_start : Plan → ℕ → ℕ
slot_start plan k = k * slot_words plan

-- The words of a slot before a half of it: the lone strips come first, then the linked ones.
abbrev pub words_before_half : Plan → Half → ℕ
words_before_half plan Lone = 0
words_before_half plan Linked = half_words plan

-- The words of the strip of a pass: b×order.
abbrev pub strip_words : Plan → ℕ → ℕ
strip_words plan pass = plan.grid.side * order_of plan pass

-- The first word of a half of block k's slot.
abbrev pub half_start : Plan → Half → ℕ → ℕ
half_start plan half k = slot_start plan k + words_before_half plan half

-- The first word of block k's strip of a pass in a half: the strips of the passes before it come first in the half.
abbrev pub strip_start : Plan → Half → ℕ → ℕ → ℕ
strip_start plan half k pass = half_start plan half k + plan.grid.side * order_sum plan pass

-- The words of a row of a strip: b (down, up), or as many as the order (right, left).
abbrev pub strip_width : Axis → (side order : ℕ) → ℕ
strip_width a side order = across a order side

-- The word of a strip at a line and a place: the strip is rows of b words (down, up), or b rows of `order` words
-- (right, left), one after another.
abbrev pub place_in_strip : Axis → (side order line place : ℕ) → ℕ
place_in_strip a side order line place = line_of a (row_major (strip_width a side order)) line place

-- Where a line and a place of block k's strip of a pass, in a half, stand in the list of strips.
unfoldable pub strip_place : Plan → Half → ℕ → ℕ → ℕ → ℕ → ℕ
strip_place plan half k pass line place =
    strip_start plan half k pass + place_in_strip (axis_of pass) plan.grid.side (order_of plan pass) line place

-- ---- which pixels a strip stands for

-- Whether a place of the strip of an order lies in a block of n places along the pass: the strip has the block's last
-- places where the pass runs forward, its first where the pass runs backward.
abbrev pub place_inside : Direction → (n order place : ℕ) → Bool
place_inside forward n order place = leb order (n + place)
place_inside backward n order place = ltb place n

-- The block's index that such a place stands for.
abbrev pub index_of_place : Direction → (n order place : ℕ) → ℕ
index_of_place forward n order place = n + place - order
index_of_place backward n order place = place

-- Whether a line and a place of block k's strip of a pass lie in the block.
unfoldable pub inside_block : Plan → ℕ → ℕ → ℕ → ℕ → Bool
inside_block plan k pass line place =
    ltb line (lines_across plan.grid k pass)
    && place_inside (direction_of pass) (extent_along plan.grid k pass) (order_of plan pass) place

-- The strip of a pass where block k has the words Z: 0 at places outside the block.
unfoldable pub edge_word : Plan → ℕ → ℕ → (ℕ → ℕ → ℕ) → ℕ → ℕ → ℕ
edge_word plan k pass Z line place =
    cond (inside_block plan k pass line place)
    (line_of (axis_of pass) Z line
    (index_of_place (direction_of pass) (extent_along plan.grid k pass) (order_of plan pass)
    place))
    0

-- ---- reading a strip

-- The word that is read at a line and a place of block k's strip of a pass, in a half: 0 outside the block, whatever stands
-- there. A strip that no neighbour needs is read by no task.
unfoldable pub strip_word : Plan → List ℕ → Half → ℕ → ℕ → ℕ → ℕ → ℕ
strip_word plan strips half k pass line place =
    cond (inside_block plan k pass line place) (word_at strips (strip_place plan half k pass line place)) 0

-- The place at a distance from the edge that a pass leaves by, of n places: the last is the nearest where the pass runs
-- forward, the first where it runs backward.
abbrev pub from_edge : Direction → (n distance : ℕ) → ℕ
from_edge forward n distance = n - suc distance
from_edge backward n distance = distance

-- Places of a strip by their distance from the edge, nearest first, 0 past the order.
unfoldable pub nearest_first : Plan → ℕ → (ℕ → ℕ → ℕ) → ℕ → ℕ → ℕ
nearest_first plan pass words line distance =
    cond (ltb distance (order_of plan pass))
    (words line (from_edge (direction_of pass) (order_of plan pass) distance))
    0

-- What stands past block k's edges for each pass: the linked strip of the neighbour that the pass comes from, nearest first; 0
-- where the map ends.
unfoldable pub past_edges : Plan → List ℕ → ℕ → ℕ → ℕ → ℕ → ℕ
past_edges plan strips k pass line distance =
    or_zero (λ j. nearest_first plan pass (strip_word plan strips Linked j pass) line distance) (neighbour plan.grid k pass)

-- ---- writing a strip

-- The words of a strip in the order of their addresses, row after row; `words` gives the word for a line and a place.
abbrev pub laid_in_rows : Axis → (side order : ℕ) → (words : ℕ → ℕ → ℕ) → ℕ → ℕ
laid_in_rows a side order words =
    by_place (strip_width a side order) (λ row column. words (across a row column) (along a row column))

-- The strips after the first n words of block k's strip of a pass, in a half, have been replaced, in the order of their
-- addresses.
unfoldable pub strip_written_to : Plan → Half → ℕ → ℕ → (ℕ → ℕ → ℕ) → ℕ → List ℕ → List ℕ
strip_written_to plan half k pass words n strips =
    row_written (strip_start plan half k pass) (laid_in_rows (axis_of pass) plan.grid.side (order_of plan pass) words) n strips

-- The strips with block k's strip of a pass, in a half, replaced whole.
abbrev pub strip_written : Plan → Half → ℕ → ℕ → (ℕ → ℕ → ℕ) → List ℕ → List ℕ
strip_written plan half k pass words strips = strip_written_to plan half k pass words (strip_words plan pass) strips

-- The strips with the first n strips of a half of block k's slot replaced; `words` gives the words of each pass's strip.
unfoldable pub half_written : Plan → Half → ℕ → (ℕ → ℕ → ℕ → ℕ) → ℕ → List ℕ → List ℕ
half_written plan half k words zero strips = strips
half_written plan half k words (suc pass) strips =
    strip_written plan half k pass (words pass) (half_written plan half k words pass strips)
