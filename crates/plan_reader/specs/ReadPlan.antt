-- Reading a plan: which word is due at which place, the table of refusals, and the record that the words hold.
-- Places count from 0. Size stands at 0, block at 1, and then pass, gain and coefficients of four passes, and the end.
use Rattle.std.specs.Prelude.{Bool, true, not, cond, List, [], ◌∷◌, ◌++◌, ℕ, zero, suc, ◌+◌, ℤ, pos, ltb, leb, eqb, length, replicate, Result}
use Rattle.refusal.specs.declared.Refusal.{Refusal}
use Rattle.refusal.specs.Table.{Row, ◌at◌when◌, first_due, Given, given, given_by}
use Rattle.plan.specs.declared.Pass.{Pass}
use Rattle.plan.specs.declared.Plan.{Plan}
use Rattle.plan.specs.Rules.{order_limit}
use Rattle.number.specs.Numbers.{all_below}
use Rattle.buffer.specs.Lists.{word_at, list_of, joined}
use Rattle.plan_reader.specs.PlanWords.{rows_in, columns_in, size_allowed, side_allowed, order_in, pass_allowed, end_allowed, signed28, end_kind}
use Rattle.number.specs.KindWords.{kind_of, payload_of}

-- The payload of the word at a place.
abbrev pub payload_at : List ℕ → ℕ → ℕ
payload_at words place = payload_of (word_at words place)

-- The order that the pass word at a place says.
abbrev pub order_at : List ℕ → ℕ → ℕ
order_at words place = order_in (payload_at words place)

-- The place after a pass whose pass word stands at a place: the pass word, its gain and its coefficients lie between.
abbrev pub after_pass : List ℕ → ℕ → ℕ
after_pass words place = place + 2 + order_at words place

-- The place of the pass word of pass i; that of the end word for i = 4.
unfoldable pub pass_place : List ℕ → ℕ → ℕ
pass_place words zero = 2
pass_place words (suc i) = after_pass words (pass_place words i)

-- ---- the refusals

-- A word of a kind is due at a place: 1 if the words end before it, 2 if another kind stands there, 3 if the payload is not
-- allowed.
unfoldable pub word_rows : List ℕ → (place kind : ℕ) → (allowed : Bool) → List Row
word_rows words place kind allowed =
    1 at length words when leb (length words) place
    ∷ 2 at place when not (eqb (kind_of (word_at words place)) kind)
    ∷ 3 at place when not allowed
    ∷ []

-- The size word and the block word.
unfoldable pub head_rows : List ℕ → List Row
head_rows words =
    word_rows words 0 1 (size_allowed (payload_at words 0)) ++ word_rows words 1 2 (side_allowed (payload_at words 1))

-- The first `count` coefficient words, from a place on.
unfoldable pub coefficient_rows : List ℕ → (place count : ℕ) → List Row
coefficient_rows words place count = joined (λ j. word_rows words (place + j) 5 true) count

-- Pass i, its pass word at a place: pass word, gain word, and as many coefficient words as the order says.
unfoldable pub pass_rows : List ℕ → (i place : ℕ) → List Row
pass_rows words i place =
    word_rows words place 3 (pass_allowed i (payload_at words place))
    ++ (word_rows words (place + 1) 4 true ++ coefficient_rows words (place + 2) (order_at words place))

-- The first `count` passes.
unfoldable pub passes_rows : List ℕ → (count : ℕ) → List Row
passes_rows words count = joined (λ i. pass_rows words i (pass_place words i)) count

-- The end word stands at a place, and then: 5 if a word follows it.
unfoldable pub end_rows : List ℕ → (place : ℕ) → List Row
end_rows words place =
    word_rows words place end_kind (end_allowed (payload_at words place))
    ++ (5 at place + 1 when ltb (place + 1) (length words) ∷ [])

-- The block side is at least the order of pass i.
abbrev pub side_reaches : List ℕ → ℕ → Bool
side_reaches words i = leb (order_at words (pass_place words i)) (payload_at words 1)

-- 4 if the block side is below an order.
unfoldable pub side_rows : List ℕ → List Row
side_rows words = 4 at 1 when not (all_below (side_reaches words) 4) ∷ []

-- All words from left to right; then 5, then 4.
unfoldable pub plan_rows : List ℕ → List Row
plan_rows words = head_rows words ++ (passes_rows words 4 ++ (end_rows words (pass_place words 4) ++ side_rows words))

-- ---- the record

-- Coefficient place j of the pass whose pass word stands at a place; 0 past the order.
abbrev pub coefficient_in : List ℕ → ℕ → ℕ → ℤ
coefficient_in words place j =
    cond (ltb j (order_at words place)) (signed28 (payload_at words (place + 2 + j))) (pos 0)

-- The pass whose pass word stands at a place.
unfoldable pub pass_from : List ℕ → ℕ → Pass
pass_from words place =
    record {
      order = order_at words place;
      gain = signed28 (payload_at words (place + 1));
      coefficients = list_of (coefficient_in words place) order_limit;
    }

-- The record that the words hold.
unfoldable pub plan_from : List ℕ → Plan
plan_from words =
    record {
      grid =
          record {
            rows = rows_in (payload_at words 0);
            columns = columns_in (payload_at words 0);
            side = payload_at words 1;
          };
      passes = list_of (λ i. pass_from words (pass_place words i)) 4;
    }

-- A pass of zeros.
abbrev pub zero_pass : Pass
zero_pass = record { order = 0; gain = pos 0; coefficients = replicate order_limit (pos 0) }

-- A record of zeros.
abbrev pub zero_plan : Plan
zero_plan = record { grid = record { rows = 0; columns = 0; side = 0 }; passes = replicate 4 zero_pass }

-- The record that a list of plan words holds, or the first refusal and a record of zeros.
unfoldable pub read_plan : List ℕ → Given Plan
read_plan words = given (first_due (plan_rows words)) (plan_from words) zero_plan

-- Document 01's number and place, and the record, of what `read_plan` answers; a record of zeros beside a refusal.
abbrev pub read_given : Result Plan Refusal → Given Plan
read_given = given_by zero_plan
