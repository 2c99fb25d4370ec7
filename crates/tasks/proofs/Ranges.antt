-- A test of each number of a range, as the library's `all` gives it. Assumes nothing.
use mathlib.Core.Path.{◌≡◌, refl, ap, ap₂, sym, ◌∙◌}
use mathlib.Core.Bool.{Bool, ◌&&◌, and_assoc, and-true}
use Prim.Native.Nat.{ℕ, zero, suc, ◌+◌}
use native.Mathlib.Omega.{arith}
use Rattle.std.specs.List.{list_all, range_with_len}
use Rattle.number.specs.Numbers.{all_below}

same_below : (p q : ℕ → Bool) → ((i : ℕ) → p i ≡ q i) → (n : ℕ) → all_below p n ≡ all_below q n
unfolding all_below
same_below p q same zero = refl
same_below p q same (suc n) = rw (same_below p q same n, same n)

-- The first number before the others.
first_below : (test : ℕ → Bool) (n : ℕ) → all_below test (suc n) ≡ (test 0 && all_below (λ i. test (suc i)) n)
unfolding all_below
first_below test zero = sym (and-true (test 0))
first_below test (suc n) = rw (first_below test n) (and_assoc (test 0) (all_below (λ i. test (suc i)) n) (test (suc n)))

range_below : (test : ℕ → Bool) (a n : ℕ) → list_all test (range_with_len a n) ≡ all_below (λ i. test (a + i)) n
unfolding all_below
range_below test a zero = refl
range_below test a (suc n) =
    ap₂ ◌&&◌ (ap test (omega arith)) (range_below test (a + 1) n ∙ same_below _ _ (λ i. ap test (omega arith)) n)
    ∙ sym (first_below (λ i. test (a + i)) n)

pub all_of_range : (test : ℕ → Bool) (n : ℕ) → list_all test (range_with_len 0 n) ≡ all_below test n
all_of_range test n = range_below test 0 n ∙ same_below _ _ (λ i. ap test (omega arith)) n
