-- Inner: a strip in code, where its words stand, and which of them are read.
use Rattle.std.specs.Prelude.{◌≡◌, Bool, true, ◌&&◌, cond, List, ℕ, ◌+◌, ◌-◌, ◌*◌, ◌<◌, ◌≤◌, min, ltb, leb, Option, None, Some}
use Rattle.plan.specs.declared.Plan.{Plan}
use Rattle.buffer.specs.Lists.{word_at}
use Rattle.axis.specs.Axis.{Direction, forward, backward, axis_of, direction_of, along}
use Rattle.grid.specs.Grid.{side_limit, neighbour, extent_along, lines_across}
use Rattle.plan.specs.Rules.{order_limit, keeps_rules}
use Rattle.plan.specs.Sizes.{order_of, needed_marks}
use Rattle.task_words.specs.declared.Half.{Half}
use Rattle.task_words.specs.declared.Half.TheVariants.{Linked}
use Rattle.task_words.specs.Strips.{strip_start}
use Rattle.strips.specs.declared.Strip.{Strip}

-- What is asked of a plan, a block and a pass whose strip is meant.
pub record StripAt (plan : Plan) (k pass : ℕ) : Type 0 where
  pub kept : keeps_rules plan ≡ true
  pub counted : k < needed_marks plan
  pub pass_below : pass < 4

-- The first of the places of a strip that lie in a block of n places along the pass,
abbrev pub first_inside : Direction → (order n : ℕ) → ℕ
first_inside forward order n = order - min order n
first_inside backward order n = 0

-- and the place past the last of them.
abbrev pub past_inside : Direction → (order n : ℕ) → ℕ
past_inside forward order n = order
past_inside backward order n = min order n

-- An order, and the places of a block along a pass, no more than a plan may have.
pub record EdgeFits (order extent : ℕ) : Type 0 where
  pub limited : order ≤ order_limit
  pub extent_small : extent ≤ side_limit

-- The first index of a strip of a block of n places along the pass, counted from the edge of an array that has a margin of
-- order_limit places around the block.
abbrev pub edge_start : Direction → (order n : ℕ) → ℕ
edge_start forward order n = (order_limit + n) - order
edge_start backward order n = order_limit

-- A strip of a block of n places along the pass.
unfoldable pub strip_with : Direction → (order n start line_step_of place_step lines : ℕ) → Strip
strip_with d order n start line_step_of place_step lines =
    record {
      start = start;
      line_step = line_step_of;
      place_step = place_step;
      lines = lines;
      first = first_inside d order n;
      past = past_inside d order n;
    }

-- Block k's strip of a pass in a half: rows of b words (down, up), or b rows of `order` words (right, left).
unfoldable pub strip_of : Plan → Half → ℕ → ℕ → Strip
strip_of plan half k pass =
    strip_with (direction_of pass) (order_of plan pass) (extent_along plan.grid k pass)
    (strip_start plan half k pass) (along (axis_of pass) 1 (order_of plan pass)) (along (axis_of pass) plan.grid.side 1)
    (lines_across plan.grid k pass)

-- The strip without lines, which is 0 everywhere.
abbrev pub empty_strip : Strip
empty_strip = record { start = 0; line_step = 0; place_step = 0; lines = 0; first = 0; past = 0 }

-- The linked strip of a pass of a block that may be beyond the map.
abbrev pub strip_in : Plan → ℕ → Option ℕ → Strip
strip_in plan pass None = empty_strip
strip_in plan pass (Some j) = strip_of plan Linked j pass

-- The linked strip of the block that a pass comes from.
unfoldable pub strip_before : Plan → ℕ → ℕ → Strip
strip_before plan k pass = strip_in plan pass (neighbour plan.grid k pass)

-- Whether a place of a strip's lines lies in the block.
abbrev pub place_held : Strip → (place : ℕ) → Bool
place_held strip place = leb strip.first place && ltb place strip.past

-- Whether a line and a place of a strip both lie in the block.
abbrev pub word_held : Strip → (line place : ℕ) → Bool
word_held strip line place = ltb line strip.lines && place_held strip place

-- Where the word at a line and a place of a strip stands.
abbrev pub address_in : Strip → ℕ → ℕ → ℕ
address_in strip line place = strip.start + line * strip.line_step + place * strip.place_step

-- The word that is read there: 0 outside the block.
unfoldable pub strip_read : Strip → List ℕ → ℕ → ℕ → ℕ
strip_read strip strips line place =
    cond (word_held strip line place) (word_at strips (address_in strip line place)) 0

-- The words of a strip that lie in the block stand in a list of n words.
pub record StripFits (n : ℕ) (strip : Strip) : Type 0 where
  pub inside : (line place : ℕ) → line < strip.lines → place < strip.past → address_in strip line place < n
