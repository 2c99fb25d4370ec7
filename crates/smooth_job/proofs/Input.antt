-- The search for the end of the plan, and that the plan has no more words than the limit and the input.
-- Assumes nothing.
use mathlib.Core.Path.{◌≡◌, sym, ◌∙◌}
use mathlib.Core.Bool.{Bool, true, false, cond}
use mathlib.Core.List.{List}
use Prim.Native.Nat.{ℕ, zero, suc, ◌+◌, ◌-◌, ◌/◌, ◌%◌, ◌≤◌, ◌<◌, min}
use native.Mathlib.Numerals.{add-one}
use native.Mathlib.Omega.{arith}
use lib.Dec.{eqb}
use lib.ListN.{length}
use borrow.Author.Tests.{eq-eqb, ne_eqb, le-leb, lt-leb}
use Rattle.plan.specs.Sizes.{word_limit}
use Rattle.smooth_job.specs.Program.{word_in, after_end, plan_length, input_limit, cut_length}
use Rattle.number.specs.KindWords.{kind_of}
use Rattle.plan_reader.specs.PlanWords.{end_kind}

module _ (word : ℕ → ℕ) where
  -- One word is looked at.
  end_step : (i n : ℕ) → i < n
      → after_end word i (n - i) ≡ cond (eqb (kind_of (word i)) end_kind) (i + 1) (after_end word (i + 1) (n - (i + 1)))
  unfolding after_end
  end_step i n h = let e : n - i ≡ suc (n - (i + 1)) = omega arith in rw (e, add-one i)

  end_found : (i n : ℕ) → i < n → kind_of (word i) ≡ end_kind → i + 1 ≡ after_end word i (n - i)
  end_found i n h k = sym (end_step i n h ∙ rw (eq-eqb (kind_of (word i)) end_kind k))

  end_other : (i n : ℕ) → i < n → (kind_of (word i) ≡ end_kind → ⊥)
      → after_end word i (n - i) ≡ after_end word (i + 1) (n - (i + 1))
  end_other i n h k = end_step i n h ∙ rw (ne_eqb (kind_of (word i)) end_kind k)

  end_none : (i n : ℕ) → n ≤ i → i ≡ after_end word i (n - i)
  unfolding after_end
  end_none i n h = let e : n - i ≡ 0 = omega arith in rw e

  end_within : (i n : ℕ) → after_end word i n ≤ i + n
  unfolding after_end
  end_within i zero = omega arith
  end_within i (suc n) = by (eqb (kind_of (word i)) end_kind) (end_within (suc i) n)
    where
      by : (test : Bool) → after_end word (suc i) n ≤ suc i + n → cond test (suc i) (after_end word (suc i) n) ≤ i + suc n
      by true later = omega arith
      by false later = omega arith

module _ (input : List ℕ) where
  pub search_start : (most : ℕ) → most ≡ min (length input / 4) word_limit
      → plan_length input ≡ after_end (word_in input) 0 (most - 0)
  unfolding plan_length
  search_start most e = let z : most - 0 ≡ most = omega arith in rw (z, e)

  pub length_limited : plan_length input ≤ word_limit
  unfolding plan_length
  length_limited = omega (arith, end_within (word_in input) 0 (min (length input / 4) word_limit))

  pub length_inside : plan_length input ≤ length input / 4
  unfolding plan_length
  length_inside = omega (arith, end_within (word_in input) 0 (min (length input / 4) word_limit))

  module _ (most i : ℕ) (left : plan_length input ≡ after_end (word_in input) i (most - i)) where
    module _ (below : i < most) (word : ℕ) (here : word ≡ word_in input i) where
      pub search_found : kind_of word ≡ end_kind → i + 1 ≡ plan_length input
      search_found k = end_found (word_in input) i most below (rw here at k) ∙ sym left

      pub search_on : (kind_of word ≡ end_kind → ⊥) → plan_length input ≡ after_end (word_in input) (i + 1) (most - (i + 1))
      search_on k = left ∙ end_other (word_in input) i most below (rw here at k)

    pub search_none : i ≤ most → most ≤ i → most ≡ plan_length input
    search_none low high =
        let e : most ≡ i = omega arith in
        e ∙ end_none (word_in input) i most high ∙ sym left

-- ---- long inputs

pub cut_whole : (length : ℕ) → length ≤ input_limit → length ≡ cut_length length
unfolding cut_length
cut_whole length h = rw (le-leb length input_limit h)

pub cut_long : (length : ℕ) → input_limit < length → input_limit + 4 + length % 4 ≡ cut_length length
unfolding cut_length
cut_long length h = rw (lt-leb length input_limit h)
