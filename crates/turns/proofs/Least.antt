-- The search for the least number of which a test holds: what it finds, for one test and for either of two. Assumes nothing.
use mathlib.Core.Path.{◌≡◌, sym, ◌∙◌}
use mathlib.Core.Bool.{Bool, true, false, ◌||◌, true≢false}
use Prim.Native.Nat.{ℕ, zero, suc, ◌+◌, ◌<◌, ◌≤◌, min}
use native.Mathlib.Omega.{arith}
use lib.Dec.{ltb}
use Rattle.std.proofs.lemmas.Bool.Decides.{nat_tests}
use Rattle.turns.specs.Jobs.{least_from}

-- A test that holds and does not.
pub clash : {A : Type 0} {a : Bool} → a ≡ true → a ≡ false → A
clash p q = absurd (true≢false (sym p ∙ q))

module _ (test : ℕ → Bool) where
  -- The search ends at i or later,
  pub least_from_law : (i n : ℕ) → i ≤ least_from test i n
  unfolding least_from
  least_from_law i zero = omega arith
  least_from_law i (suc n) = grind (arith, nat_tests, least_from_law (suc i) n)

  -- and at the bound or before.
  pub least_most : (i n : ℕ) → least_from test i n ≤ i + n
  unfolding least_from
  least_most i zero = omega arith
  least_most i (suc n) = grind (arith, nat_tests, least_most (suc i) n)

  -- The test holds of no number before it.
  pub least_below_law : (i n j : ℕ) → i ≤ j → j < least_from test i n → test j ≡ false
  unfolding least_from
  least_below_law i zero j l h = absurd (omega arith)
  least_below_law i (suc n) j l h = grind (arith, nat_tests, least_below_law (suc i) n j)

  -- It holds of the one that is found.
  pub least_holds : (i n : ℕ) → least_from test i n < i + n → test (least_from test i n) ≡ true
  unfolding least_from
  least_holds i zero h = absurd (omega arith)
  least_holds i (suc n) h = grind (arith, nat_tests, least_holds (suc i) n)

  -- Where it holds of none, the search ends at the bound.
  pub least_none : (i n : ℕ) → ((j : ℕ) → i ≤ j → j < i + n → test j ≡ false) → least_from test i n ≡ i + n
  least_none i n none =
      grind (arith, least_most i n, least_from_law i n, least_holds i n, none (least_from test i n))

  -- Where none below the bound is found, it ends there too.
  pub least_bound : (n : ℕ) → ltb (least_from test 0 n) n ≡ false → least_from test 0 n ≡ n
  least_bound n e = grind (arith, nat_tests, least_most 0 n)

  -- The least by what it is: the test holds of no number below x, and of x unless x is the bound.
  pub least_is : (n x : ℕ) → x ≤ n → ((y : ℕ) → y < x → test y ≡ false) → (x < n → test x ≡ true)
      → least_from test 0 n ≡ x
  least_is n x h below at =
      grind (arith, least_most 0 n, least_holds 0 n, least_below_law 0 n x, below (least_from test 0 n))

-- The least number of which one of two tests holds is the lesser of the least of each.
pub least_either : (f g either : ℕ → Bool) (n : ℕ) → ((k : ℕ) → either k ≡ (f k || g k))
    → min (least_from f 0 n) (least_from g 0 n) ≡ least_from either 0 n
least_either f g either n is =
    let a = least_from f 0 n in
    let b = least_from g 0 n in
    let c = least_from either 0 n in
    grind (
      arith,
      nat_tests,
      least_most f 0 n,
      least_most g 0 n,
      least_most either 0 n,
      least_holds f 0 n,
      least_holds g 0 n,
      least_holds either 0 n,
      least_below_law f 0 n c,
      least_below_law g 0 n c,
      least_below_law either 0 n a,
      least_below_law either 0 n b,
      is a,
      is b,
      is c,
    )
