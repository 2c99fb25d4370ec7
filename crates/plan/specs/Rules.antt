-- The rules that a plan record keeps. Document 01, 'Plan words'.
use Rattle.std.specs.Prelude.{Bool, false, ◌&&◌, cond, [], ℕ, ℤ, pos, negsuc, ltb, leb, eqb, get_or}
use Rattle.number.specs.Numbers.{all_below}
use Rattle.number.specs.SignedBits.{in_signed}
use Rattle.buffer.specs.Lists.{number_at}
use Rattle.grid.specs.Grid.{grid_kept}
use Rattle.plan.specs.declared.Pass.{Pass}
use Rattle.plan.specs.declared.Plan.{Plan}

-- The largest order of a pass.
abbrev pub order_limit : ℕ
order_limit = 8

-- From -134217728 to 134217727, the numbers of signed 28 bits.
abbrev pub in_signed28 : ℤ → Bool
in_signed28 value = in_signed 28 value

-- Equal to 0.
abbrev pub is_zero : ℤ → Bool
is_zero (pos n) = eqb n 0
is_zero (negsuc n) = false

-- Coefficient d(j+1) of a pass.
abbrev pub coefficient_at : Pass → ℕ → ℤ
coefficient_at pass j = number_at pass.coefficients j

-- A coefficient place holds a number of signed 28 bits below the order, and 0 from there on.
abbrev pub coefficient_kept : ℕ → ℕ → ℤ → Bool
coefficient_kept order j value = cond (ltb j order) (in_signed28 value) (is_zero value)

-- Every coefficient place of a pass is as it may be.
unfoldable pub coefficients_kept : Pass → Bool
coefficients_kept pass = all_below (λ j. coefficient_kept pass.order j (coefficient_at pass j)) order_limit

-- A pass has an order up to the limit and up to the block side, and a gain and coefficients of signed 28 bits.
unfoldable pub pass_kept : ℕ → Pass → Bool
pass_kept side pass =
    leb pass.order order_limit && (leb pass.order side && (in_signed28 pass.gain && coefficients_kept pass))

-- Pass i of a plan: 0 down, 1 up, 2 right, 3 left.
abbrev pub pass_at : Plan → ℕ → Pass
pass_at plan i = get_or plan.passes i (record { order = 0; gain = pos 0; coefficients = [] })

-- All four passes are as they may be.
unfoldable pub passes_kept : Plan → Bool
passes_kept plan = all_below (λ i. pass_kept plan.grid.side (pass_at plan i)) 4

-- 1 to 4,096 rows and columns, a block side of 1 to 32, and four passes that keep their rules.
unfoldable pub keeps_rules : Plan → Bool
keeps_rules plan = grid_kept plan.grid && passes_kept plan
