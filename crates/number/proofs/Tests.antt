-- Laws of conjunction and disjunction, of comparing, of a range, and of a test of every number below a bound. Assumes nothing.
use mathlib.Core.Path.{◌≡◌, refl, sym, ap, ◌∙◌}
use mathlib.Core.Logic.{◌⊎◌, inl, inr, ⊎_elim}
use mathlib.Core.Bool.{Bool, true, false, ◌&&◌, ◌||◌, and-false, true≢false}
use Prim.Native.Nat.{ℕ, zero, suc, ◌+◌, ◌<◌, ◌≤◌}
use native.Mathlib.Omega.{arith}
use native.Mathlib.Nat.{eq-or-lt_of_le}
use native.Mathlib.Numerals.{add-one}
use lib.Dec.{ltb, leb}
use borrow.Author.Tests.{ltb-true, ltb-false, leb-true}
use Rattle.number.specs.Numbers.{within, all_below}

pub and_left : (a b : Bool) → (a && b) ≡ true → a ≡ true
and_left true b e = refl
and_left false b e = e

pub and_right : (a b : Bool) → (a && b) ≡ true → b ≡ true
and_right true b e = e
and_right false b e = cc

pub and_both : {a b : Bool} → a ≡ true → b ≡ true → (a && b) ≡ true
and_both e f = rw (e, f)

pub or_left : (a b : Bool) → (a || b) ≡ false → a ≡ false
or_left true b e = e
or_left false b e = refl

pub or_right : (a b : Bool) → (a || b) ≡ false → b ≡ false
or_right true b e = absurd (true≢false e)
or_right false b e = e

-- Two tests that hold together are one.
pub same_test : (a b : Bool) → (a ≡ true → b ≡ true) → (b ≡ true → a ≡ true) → a ≡ b
same_test true b f g = sym (f refl)
same_test false true f g = g refl
same_test false false f g = refl

-- What a range says.
pub within_bounds : (number most : ℕ) → within number most ≡ true → (1 ≤ number) × (number ≤ most)
within_bounds number most e =
    (leb-true 1 number (and_left (leb 1 number) (leb number most) e), leb-true number most (and_right (leb 1 number) (leb number most) e))

pub lt_or_ge : (m n : ℕ) → (m < n) ⊎ (n ≤ m)
lt_or_ge m n = by (ltb m n) refl where
  by : (t : Bool) → ltb m n ≡ t → (m < n) ⊎ (n ≤ m)
  by true e = inl (ltb-true m n e)
  by false e = inr (ltb-false m n e)

-- The code's test of an answer, as the value of what the answer is.
module _ {answer value : Bool} (e : answer ≡ value) where
  pub failed : answer ≡ false → value ≡ false
  failed t = sym e ∙ t

  pub passed : answer ≡ true → value ≡ true
  passed t = sym e ∙ t

module _ (test : ℕ → Bool) where
  pub all_none : all_below test 0 ≡ true
  unfolding all_below
  all_none = refl

  pub all_more : (i : ℕ) → all_below test i ≡ true → test i ≡ true → all_below test (i + 1) ≡ true
  unfolding all_below
  all_more i h k = rw (add-one i) (rw h k)

  pub all_fails : (n i : ℕ) → i < n → test i ≡ false → all_below test n ≡ false
  unfolding all_below
  all_fails zero i h k = absurd (omega arith)
  all_fails (suc n) i h k =
      ⊎_elim (λ (e : i ≡ n). rw (sym (ap test e) ∙ k) (and-false (all_below test n))) (λ (l : i < n). rw (all_fails n i l k))
      (eq-or-lt_of_le {n = i} {m = n} (omega arith))

  pub all_at : (n i : ℕ) → all_below test n ≡ true → i < n → test i ≡ true
  unfolding all_below
  all_at zero i e h = absurd (omega arith)
  all_at (suc n) i e h =
      ⊎_elim (λ (p : i ≡ n). ap test p ∙ and_right (all_below test n) (test n) e)
      (λ (l : i < n). all_at n i (and_left (all_below test n) (test n) e) l)
      (eq-or-lt_of_le {n = i} {m = n} (omega arith))
