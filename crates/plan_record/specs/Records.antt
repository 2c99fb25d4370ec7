-- The C record of a plan: rows, columns and side, and then of each pass its order, its gain and its coefficients, each a
-- signed number of 64 bits.
use Rattle.std.specs.Prelude.{cond, List, ◌∷◌, ℕ, ◌+◌, ◌*◌, ℤ, pos, negsuc, ltb}
use Rattle.plan.specs.declared.Pass.{Pass}
use Rattle.plan.specs.declared.Plan.{Plan}
use Rattle.plan.specs.Rules.{order_limit, pass_at}
use Rattle.buffer.specs.Lists.{list_of, joined, number_at}

-- The words of a pass in the record: order, gain, and a place for each coefficient.
abbrev pub pass_length : ℕ
pass_length = 2 + order_limit

-- The place of the first word of pass i: rows, columns and side stand before the passes.
abbrev pub pass_start : ℕ → ℕ
pass_start i = 3 + i * pass_length

-- The words of a record: up to the end of four passes.
abbrev pub record_length : ℕ
record_length = pass_start 4

-- ---- from the C record

-- A size, a side or an order: a number below 0, which none of them can be, is read as 2^64 - 1, which breaks their rules.
abbrev pub size_from : ℤ → ℕ
size_from (pos n) = n
size_from (negsuc n) = 18446744073709551615

-- The pass whose words begin at a place.
unfoldable pub pass_of_record : List ℤ → ℕ → Pass
pass_of_record words place =
    record {
      order = size_from (number_at words place);
      gain = number_at words (place + 1);
      coefficients = list_of (λ j. number_at words (place + 2 + j)) order_limit;
    }

-- The plan record that a C record stands for.
unfoldable pub plan_of_record : List ℤ → Plan
plan_of_record words =
    record {
      grid =
          record {
            rows = size_from (number_at words 0);
            columns = size_from (number_at words 1);
            side = size_from (number_at words 2);
          };
      passes = list_of (λ i. pass_of_record words (pass_start i)) 4;
    }

-- ---- to the C record

-- A size, a side or an order: one that a signed number of 64 bits cannot hold is written as -1, which breaks their rules.
abbrev pub number_from : ℕ → ℤ
number_from size = cond (ltb size 9223372036854775808) (pos size) (negsuc 0)

-- The words of a pass.
unfoldable pub record_of_pass : Pass → List ℤ
record_of_pass pass = number_from pass.order ∷ pass.gain ∷ pass.coefficients

-- The words of the first `count` passes.
unfoldable pub record_of_passes : Plan → ℕ → List ℤ
record_of_passes plan count = joined (λ i. record_of_pass (pass_at plan i)) count

-- The C record of a plan.
unfoldable pub record_of_plan : Plan → List ℤ
record_of_plan plan =
    number_from plan.grid.rows ∷ number_from plan.grid.columns ∷ number_from plan.grid.side ∷ record_of_passes plan 4
