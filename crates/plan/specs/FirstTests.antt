-- What every call with a plan tests before all else, and in which order: the record, then the length of each buffer
-- that it is lent; and the sizes that it is given after these. Document 01, 'Refused calls'; document 02, CR 4.
use Rattle.std.specs.Prelude.{◌≡◌, Bool, true, false, not, List, [], ◌∷◌, ◌++◌, ℕ, ◌≤◌, ◌<◌, ltb, Option, None, Some, Result}
use Rattle.refusal.specs.declared.Refusal.{Refusal}
use Rattle.refusal.specs.Refusals.{refused}
use Rattle.refusal.specs.Table.{Row, ◌at◌when◌, first_due, Given, given, given_by}
use Rattle.plan.specs.declared.BufferOf7.{BufferOf7}
use Rattle.plan.specs.declared.BufferOf7.TheVariants.{Words, Marks, Table}
use Rattle.plan.specs.declared.Lengths.{Lengths}
use Rattle.plan.specs.declared.Plan.{Plan}
use Rattle.plan.specs.declared.Sizes.{Sizes}
use Rattle.plan.specs.Rules.{keeps_rules}
use Rattle.plan.specs.Sizes.{word_count, needed_marks, needed_strips, needed_pixels, sizes_of}

-- ---- the order of the tests

-- A lent buffer has fewer places than are needed; one that is not lent is never too short.
abbrev pub too_short : Option ℕ → (needed : ℕ) → Bool
too_short None needed = false
too_short (Some length) needed = ltb length needed

-- The same of the buffer that 7 is for: the words that a plan is written to, the marks, the table of a rectangle, or
-- none of them.
abbrev pub of7_too_short : Option BufferOf7 → Sizes → Bool
of7_too_short None sizes = false
of7_too_short (Some (Words length)) sizes = ltb length sizes.words
of7_too_short (Some (Marks length)) sizes = ltb length sizes.marks
of7_too_short (Some (Table length)) sizes = ltb length sizes.pixels

-- The lengths: 7 for words, marks or table, then 14 for the strips, 15 for the map, 16 for the output.
abbrev pub length_rows : Sizes → Lengths → List Row
length_rows sizes lent =
    7 at 0 when of7_too_short lent.of7 sizes
    ∷ 14 at 0 when too_short lent.strips sizes.strips
    ∷ 15 at 0 when too_short lent.map sizes.pixels
    ∷ 16 at 0 when too_short lent.output sizes.pixels
    ∷ []

-- The tests of a call that is lent buffers of these lengths: 6 for the record, then the lengths. What a call tests of
-- its own comes after all of these.
unfoldable pub lent_rows : Plan → Lengths → List Row
lent_rows plan lent = 6 at 0 when not (keeps_rules plan) ∷ length_rows (sizes_of plan) lent

-- The lengths of a call that is lent no strips, map or output, and of the buffers that 7 is for this one or none,
abbrev pub only_of7 : Option BufferOf7 → Lengths
only_of7 buffer = record { of7 = buffer; strips = None; map = None; output = None }

-- and of one that is lent nothing.
abbrev pub nothing_lent : Lengths
nothing_lent = record { of7 = None; strips = None; map = None; output = None }

-- ---- the sizes of a plan

-- All sizes 0.
abbrev pub zero_sizes : Sizes
zero_sizes =
    record { words = 0; block_rows = 0; block_columns = 0; marks = 0; strips = 0; pixels = 0; tasks = 0 }

-- The sizes of a record, for a call that is lent buffers of these lengths; zeros beside a refusal.
unfoldable pub sizes_for : Plan → Lengths → Given Sizes
sizes_for plan lent = given (first_due (lent_rows plan lent)) (sizes_of plan) zero_sizes

-- The sizes of a record, for a call that is lent nothing; zeros beside refusal 6.
abbrev pub plan_sizes : Plan → Given Sizes
plan_sizes plan = sizes_for plan nothing_lent

-- The number and place, and the sizes, of what `Plan::sizes` and `Plan::sizes_for` answer.
abbrev pub sizes_given : Result Sizes Refusal → Given Sizes
sizes_given = given_by zero_sizes

-- ---- which buffer was short

-- A buffer is lent, and its length is below the needed one.
abbrev pub Shorter : Option ℕ → (needed : ℕ) → Type 0
Shorter None needed = ⊥
Shorter (Some length) needed = length < needed

-- The same of the words for a plan, the marks or the table, each with its own need.
abbrev pub Of7Shorter : Plan → Option BufferOf7 → Type 0
Of7Shorter plan None = ⊥
Of7Shorter plan (Some (Words length)) = length < word_count plan
Of7Shorter plan (Some (Marks length)) = length < needed_marks plan
Of7Shorter plan (Some (Table length)) = length < needed_pixels plan

-- The buffers that are too short, by the number that is each one's.
pub data ShortBuffer (plan : Plan) (lent : Lengths) : ℕ → Type 0 where
  of7_short : Of7Shorter plan lent.of7 → ShortBuffer plan lent 7
  strips_short : Shorter lent.strips (needed_strips plan) → ShortBuffer plan lent 14
  map_short : Shorter lent.map (needed_pixels plan) → ShortBuffer plan lent 15
  output_short : Shorter lent.output (needed_pixels plan) → ShortBuffer plan lent 16

-- Beside a record that keeps the rules, the least number of a buffer that is too short is the answer, at place 0,
-- whatever a call tests after these;
abbrev pub LeastShortDecides : Type 0
LeastShortDecides =
    (plan : Plan) (lent : Lengths) (later : List Row) (number : ℕ) → keeps_rules plan ≡ true → ShortBuffer plan lent number
    → ((other : ℕ) → ShortBuffer plan lent other → number ≤ other)
    → first_due (lent_rows plan lent ++ later) ≡ refused number 0

-- and where no buffer is too short, what a call tests after these decides.
abbrev pub NoneShortGoesOn : Type 0
NoneShortGoesOn =
    (plan : Plan) (lent : Lengths) (later : List Row) → keeps_rules plan ≡ true
    → ((number : ℕ) → ShortBuffer plan lent number → ⊥) → first_due (lent_rows plan lent ++ later) ≡ first_due later
