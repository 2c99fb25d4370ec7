-- The serial passes over a whole map as a call, over heights and over words: document 01, 'The four passes' and 'Refused
-- calls'; document 02, CR 4, CR 7 through `map_of`, and CR 10.
use Rattle.std.specs.Prelude.{◌≡◌, true, List, ◌++◌, ℕ, ◌≤◌, ◌<◌, ℤ, length, drop, None, Some}
use Rattle.refusal.specs.Refusals.{Answer, refused}
use Rattle.refusal.specs.Table.{first_due, if_accepted}
use Rattle.plan.specs.declared.Lengths.{Lengths}
use Rattle.plan.specs.declared.Plan.{Plan}
use Rattle.plan.specs.Rules.{keeps_rules}
use Rattle.plan.specs.Sizes.{needed_pixels}
use Rattle.plan.specs.FirstTests.{lent_rows}
use Rattle.buffer.specs.Lists.{list_of, by_place}
use Rattle.filter.specs.PlanFilters.{map_of, word_map_of, serial_result}

-- The passes are lent a map and an output.
abbrev pub lent_to_passes : (map_length output_length : ℕ) → Lengths
lent_to_passes map_length output_length =
    record { of7 = None; strips = None; map = Some map_length; output = Some output_length }

-- The answer: 6 where the record breaks a rule, then 15 where the map, 16 where the output has fewer than h×w places.
unfoldable pub serial_answer : Plan → (map_length output_length : ℕ) → Answer
serial_answer plan map_length output_length = first_due (lent_rows plan (lent_to_passes map_length output_length))

-- So beside a record that keeps the rules a map of fewer than h×w places is 15, whatever the output; and with a map of
-- enough an output of fewer than h×w words is 16.
abbrev pub ShortPasses : Type 0
ShortPasses =
    (plan : Plan) (map_length output_length : ℕ) → keeps_rules plan ≡ true
    → (map_length < needed_pixels plan → serial_answer plan map_length output_length ≡ refused 15 0)
    × (needed_pixels plan ≤ map_length → output_length < needed_pixels plan
    → serial_answer plan map_length output_length ≡ refused 16 0)

-- The h×w words of the result of left, row after row.
unfoldable pub serial_words : Plan → List ℤ → List ℕ
serial_words plan heights =
    list_of (by_place plan.grid.columns (serial_result plan (map_of plan heights) 4)) (needed_pixels plan)

-- The output after a call: of an accepted call the words of the passes, and past these the words that were there; of a
-- refused call all words that were there.
unfoldable pub serial_output : Plan → List ℤ → List ℕ → List ℕ
serial_output plan heights output =
    if_accepted (serial_answer plan (length heights) (length output))
    (serial_words plan heights ++ drop (needed_pixels plan) output)
    output

-- The same over a map X of either kind (`heights_output` of proofs/Outputs: over that of heights it is the same output):
-- the h×w words of the result of left,
unfoldable pub result_words : Plan → (X : ℕ → ℕ → ℕ) → List ℕ
result_words plan X = list_of (by_place plan.grid.columns (serial_result plan X 4)) (needed_pixels plan)

-- the output after a call that was lent the map with so many places,
unfoldable pub passes_output : Plan → (X : ℕ → ℕ → ℕ) → (map_length : ℕ) → List ℕ → List ℕ
passes_output plan X map_length output =
    if_accepted (serial_answer plan map_length (length output)) (result_words plan X ++ drop (needed_pixels plan) output) output

-- and after a call over words, none of which is taken for a dropout.
abbrev pub serial_words_output : Plan → (words output : List ℕ) → List ℕ
serial_words_output plan words output = passes_output plan (word_map_of plan words) (length words) output
