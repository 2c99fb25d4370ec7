-- Lines that stand in rows of a buffer, and what the passes make of each. Assumes nothing.
use mathlib.Core.List.{List}
use mathlib.Core.Path.{◌≡◌, refl, ◌∙◌}
use Prim.Native.Nat.{ℕ, ◌+◌, ◌-◌, ◌*◌, ◌<◌, ◌≤◌}
use native.Mathlib.Omega.{arith}
use Rattle.number.proofs.Sums.{sum_on, total_most}
use Rattle.plan.specs.Rules.{order_limit}
use Rattle.buffer.specs.Lists.{word_at}
use Rattle.passes.specs.Filter.{Filter}
use Rattle.number.specs.Numbers.{row_major}
use Rattle.squares.specs.LinePasses.{line_passes}
use Rattle.squares.specs.LineBuffers.{row_words, line_rows, OrdersFit, rows_before}
use Rattle.squares.specs.Rows.{LineIs, JoinsAt, LinesPassed}
use Rattle.squares.proofs.LinePasses.{line_passes_reads}

-- After the passes t, .. t+m-1 a row has those that it takes part in, over its line.
pub row_passed : (filters : ℕ → Filter) (places t s m : ℕ) → OrdersFit filters → t + m ≤ 4 → s ≤ m → {before after : List ℕ}
    → LinesPassed filters places t m before after → (P : ℕ → ℕ → ℕ) (x : ℕ → ℕ) (l : ℕ) → JoinsAt filters t s m l
    → LineIs places t m P x before l → (i : ℕ) → i < places
    → word_at after (row_major row_words l (order_limit + i)) ≡ line_passes filters places P x (t + s) (m - s) i
row_passed filters places t s m orders e h passed P x l joins line i b =
    passed.at s l i h joins b
    ∙ line_passes_reads filters places _ P _ x (t + s) (m - s)
    (λ u k p q r.
    line.beside u k (omega arith) (omega arith) (omega (arith, orders.order_limited u (omega arith))))
    (λ j p. line.inside j p) i b

-- The rows of one pass more.
pub rows_next : (filters : ℕ → Filter) (pass : ℕ) {rows : ℕ} → rows ≡ rows_before filters pass
    → rows + (filters pass).order ≡ rows_before filters (pass + 1)
unfolding rows_before
rows_next filters pass e = sum_on _ pass _ _ e refl

-- They are at most the limit for each pass.
pub rows_few : (filters : ℕ → Filter) → OrdersFit filters → (pass : ℕ) → pass ≤ 4 → rows_before filters pass ≤ pass * order_limit
unfolding rows_before
rows_few filters fit pass h = total_most _ order_limit pass (λ i l. fit.order_limited i (omega arith))

-- The rows of a pass are in the buffer.
pub rows_in_law : (filters : ℕ → Filter) → OrdersFit filters → (pass : ℕ) → pass < 4
    → rows_before filters pass + (filters pass).order ≤ line_rows
rows_in_law filters fit pass h = omega (arith, rows_few filters fit pass (omega arith), fit.order_limited pass h)
