-- What the rows of a due word and of the block side answer, and those of several words or passes, one behind another.
-- Assumes nothing.
use mathlib.Core.Path.{◌≡◌, refl, sym, ◌∙◌}
use mathlib.Core.Bool.{Bool, true}
use mathlib.Core.List.{List}
use mathlib.Core.Logic.{⊎_elim}
use Prim.Native.Nat.{ℕ, zero, suc, ◌+◌, ◌<◌}
use native.Mathlib.Omega.{arith}
use native.Mathlib.Nat.{eq-or-lt_of_le}
use native.Mathlib.Numerals.{add-one}
use lib.ListN.{length}
use borrow.Author.Tests.{lt-leb, eq-eqb, ne_eqb}
use Rattle.refusal.specs.Refusals.{Answer, accepted, refused}
use Rattle.refusal.specs.Table.{Row, first_due, first_of}
use Rattle.refusal.proofs.Table.{first_append, tests_rows, both_accepted, rows_accepted, refused_before, accepted_before}
use Rattle.number.specs.Numbers.{all_below}
use Rattle.buffer.specs.Lists.{word_at, joined}
use Rattle.number.proofs.Tests.{all_none, all_more, all_fails}
use Rattle.plan_reader.specs.PlanWords.{size_allowed, side_allowed, pass_allowed}
use Rattle.plan_reader.specs.ReadPlan.{payload_at, order_at, pass_place, word_rows, head_rows, coefficient_rows, pass_rows, passes_rows, end_rows, side_reaches, side_rows, plan_rows}
use Rattle.number.specs.KindWords.{kind_of}

-- For tests one after another.
pub ruleset in_turn = (refused_before, accepted_before)

module _ (words : List ℕ) (place kind : ℕ) (present : place < length words) where
  pub word_of_another_kind :
      (allowed : Bool) → (kind_of (word_at words place) ≡ kind → ⊥)
      → first_due (word_rows words place kind allowed) ≡ refused 2 place
  unfolding word_rows
  word_of_another_kind allowed other = simp (lt-leb _ _ present, ne_eqb _ _ other)

  pub word_accepted : kind_of (word_at words place) ≡ kind → first_due (word_rows words place kind true) ≡ accepted
  unfolding word_rows
  word_accepted due = simp (lt-leb _ _ present, eq-eqb _ _ due)

module _ (words : List ℕ) where
  pub side_below : (i : ℕ) → i < 4 → payload_at words 1 < order_at words (pass_place words i)
      → first_due (side_rows words) ≡ refused 4 1
  unfolding side_rows
  side_below i h below = rw (all_fails (side_reaches words) 4 i h (lt-leb _ _ below))

  pub side_accepted : all_below (side_reaches words) 4 ≡ true → first_due (side_rows words) ≡ accepted
  unfolding side_rows
  side_accepted all = rw all

-- For the test of the side against each order.
pub ruleset side_tested = (all_none, all_more, side_below, side_accepted)

-- ---- rows one behind another: the first that refuse decide

module _ (rows : ℕ → List Row) where
  pub joined_none : accepted ≡ first_due (joined rows 0)
  unfolding joined
  joined_none = refl

  pub joined_more : {answer earlier later : Answer} → answer ≡ first_of earlier later → (count : ℕ)
      → earlier ≡ first_due (joined rows count) → later ≡ first_due (rows count) → answer ≡ first_due (joined rows (count + 1))
  unfolding joined
  joined_more decided count e f = rw (add-one count) (tests_rows (joined rows count) (rows count) decided e f)

  pub joined_one_more : (count : ℕ) → accepted ≡ first_due (joined rows count) → accepted ≡ first_due (rows count)
      → accepted ≡ first_due (joined rows (count + 1))
  joined_one_more count before here = joined_more refl count before here

  pub joined_refused : (count i : ℕ) {number place : ℕ} → accepted ≡ first_due (joined rows i)
      → refused number place ≡ first_due (rows i) → i < count → refused number place ≡ first_due (joined rows count)
  unfolding joined
  joined_refused zero i before here h = absurd (omega arith)
  joined_refused (suc count) i before here h =
      ⊎_elim (λ (e : i ≡ count). rw e at (here ∙ sym (accepted_before (joined rows i) (rows i) before)))
      (λ (l : i < count). refused_before (joined rows count) (rows count) (joined_refused count i before here l))
      (eq-or-lt_of_le {n = i} {m = count} (omega arith))

-- For a loop of tests.
pub ruleset each_in_turn = (joined_none, joined_one_more)

module _ (rows : ℕ → List Row) where
  -- All are accepted where each is, and each where all are.
  pub joined_accepted : (count : ℕ) → ((i : ℕ) → i < count → first_due (rows i) ≡ accepted)
      → first_due (joined rows count) ≡ accepted
  unfolding joined
  joined_accepted zero each = refl
  joined_accepted (suc count) each =
      rw first_append (both_accepted (joined_accepted count (λ i h. each i (omega arith))) (each count (omega arith)))

  pub each_accepted : (count i : ℕ) → first_due (joined rows count) ≡ accepted → i < count → first_due (rows i) ≡ accepted
  unfolding joined
  each_accepted zero i all h = absurd (omega arith)
  each_accepted (suc count) i all h =
      let both = rows_accepted (joined rows count) (rows count) all in
      ⊎_elim (λ (e : i ≡ count). rw e both.1) (λ (l : i < count). each_accepted count i both.0 l)
      (eq-or-lt_of_le {n = i} {m = count} (omega arith))

-- ---- tests one after another answer as their rows do

module _ (words : List ℕ) {answer earlier later : Answer} (decided : answer ≡ first_of earlier later) where
  pub head_rows_law : earlier ≡ first_due (word_rows words 0 1 (size_allowed (payload_at words 0)))
      → later ≡ first_due (word_rows words 1 2 (side_allowed (payload_at words 1))) → answer ≡ first_due (head_rows words)
  unfolding head_rows
  head_rows_law e f = rw (decided, e, f, first_append)

  pub pass_rows_law : {gain coefficients : Answer} (i place : ℕ) → later ≡ first_of gain coefficients
      → earlier ≡ first_due (word_rows words place 3 (pass_allowed i (payload_at words place)))
      → gain ≡ first_due (word_rows words (place + 1) 4 true)
      → coefficients ≡ first_due (coefficient_rows words (place + 2) (order_at words place))
      → answer ≡ first_due (pass_rows words i place)
  unfolding pass_rows
  pass_rows_law i place then e f g = rw (decided, then, e, f, g, first_append, first_append)

  pub plan_rows_law : {passes last end side : Answer} → later ≡ first_of passes last → last ≡ first_of end side
      → earlier ≡ first_due (head_rows words) → passes ≡ first_due (passes_rows words 4)
      → end ≡ first_due (end_rows words (pass_place words 4)) → side ≡ first_due (side_rows words)
      → answer ≡ first_due (plan_rows words)
  unfolding plan_rows
  plan_rows_law then at_last e f g h = rw (decided, then, at_last, e, f, g, h, first_append, first_append, first_append)
