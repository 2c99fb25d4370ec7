-- What a call answers in C: one number, and beside it the words and floats that it writes through pointers.
use Rattle.std.specs.Prelude.{◌≡◌, List, [], ◌∷◌, ℕ, ◌+◌, ◌-◌, ◌*◌, min, Float}
use Rattle.std.specs.Float.{binary64}
use Rattle.std.specs.Float.Ieee.{of_bits}
use Rattle.refusal.specs.Refusals.{Answer, number_in, place_in}
use Rattle.refusal.specs.Table.{Given}
use Rattle.plan.specs.declared.Sizes.{Sizes}
use Rattle.report.specs.Values.{Values}
use Rattle.turns.specs.Dispatch.{TurnValues}
use Rattle.macro_values.specs.declared.Quantity.TheVariants as wanted
use Rattle.macro_values.specs.MacroValues.{Variable, vacant, holding, VariablePair}

-- 2^32: the lower half of a code is below it.
abbrev pub code_half : ℕ
code_half = 4294967296

-- The documents' number in the upper half, its place in the lower (`PlacesFit`); 0 where the call is accepted.
abbrev pub code_of : Answer → ℕ
code_of answer = number_in answer * code_half + place_in answer

-- The same for a call whose place may be past the lower half, as in a list of more than 2^32 marks: it is answered as
-- 2^32 - 1 then.
abbrev pub capped_code : Answer → ℕ
capped_code answer = number_in answer * code_half + min (place_in answer) (code_half - 1)

-- The seven sizes in the order of the C record.
abbrev pub sizes_record : Sizes → List ℕ
sizes_record sizes =
    sizes.words
    ∷ sizes.block_rows ∷ sizes.block_columns ∷ sizes.marks ∷ sizes.strips ∷ sizes.pixels ∷ sizes.tasks ∷ []

-- The five values of a report in the order of the C record.
abbrev pub progress_record : Values → List ℕ
progress_record values = values.count ∷ values.tally ∷ values.ready ∷ values.task ∷ values.block ∷ []

-- The four values of a turn in the order of its words in C.
abbrev pub turn_record : TurnValues → List ℕ
turn_record values = values.named ∷ values.job ∷ values.task ∷ values.block ∷ []

-- The state of a macro variable: 0 vacant, 1 a total, 2 a number of pixels;
abbrev pub state_of : Variable → ℕ
state_of vacant = 0
state_of (holding wanted.Total float) = 1
state_of (holding wanted.Pixels float) = 2

-- and its value: +0.0, whose bits are all 0, beside vacant.
abbrev pub float_in : Variable → Float
float_in vacant = of_bits binary64 0
float_in (holding quantity float) = float

-- What a call that answers a macro variable leaves: its code, and through pointers state and value.
pub record VariableWritten (answered : Given Variable) (code state : ℕ) (value : Float) : Type 0 where
  pub code_is : code ≡ code_of answered.answer
  pub state_is : state ≡ state_of answered.value
  pub value_is : value ≡ float_in answered.value

-- The states of a pair, the total's first,
abbrev pub pair_states : VariablePair → List ℕ
pair_states pair = state_of pair.total ∷ state_of pair.pixels ∷ []

-- and its values.
abbrev pub pair_floats : VariablePair → List Float
pair_floats pair = float_in pair.total ∷ float_in pair.pixels ∷ []

-- What the call that answers a pair leaves.
pub record PairWritten (answered : Given VariablePair) (code : ℕ) (states : List ℕ) (values : List Float) : Type 0 where
  pub code_is : code ≡ code_of answered.answer
  pub states_are : states ≡ pair_states answered.value
  pub values_are : values ≡ pair_floats answered.value
