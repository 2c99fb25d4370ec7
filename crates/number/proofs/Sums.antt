-- Laws of sums over the numbers below a bound, and of a test of each of them. Assumes nothing.
use mathlib.Core.Path.{◌≡◌, refl, sym, ap, ap₂, ◌∙◌}
use mathlib.Core.Logic.{⊎_elim, ◌≢◌}
use mathlib.Core.Bool.{Bool, true, false, cond}
use Prim.Native.Nat.{ℕ, zero, suc, ◌+◌, ◌-◌, ◌*◌, ◌<◌, ◌≤◌, min}
use native.Mathlib.Omega.{arith}
use native.Mathlib.Nat.{eq-or-lt_of_le, add-suc, add-zero, min-eq_left, min-eq_right}
use native.Mathlib.Numerals.{add-one}
use lib.Dec.{ltb, eqb}
use borrow.Author.Tests.{lt-ltb, le-ltb, ltb-true, ltb-false, eq-eqb, ne_eqb}
use Rattle.number.specs.Numbers.{all_below, total, one}
use Rattle.number.proofs.Tests.{lt_or_ge}

pub all_below_law : (test : ℕ → Bool) (n : ℕ) → ((i : ℕ) → i < n → test i ≡ true) → all_below test n ≡ true
unfolding all_below
all_below_law test zero h = refl
all_below_law test (suc n) h = rw (all_below_law test n (λ i l. h i (omega arith)), h n (omega arith))

pub one_most : (b : Bool) → one b ≤ 1
one_most true = omega arith
one_most false = omega arith

pub total_none : (f : ℕ → ℕ) → total f 0 ≡ 0
unfolding total
total_none f = refl

-- One more turn of a loop that adds up.
pub sum_on : (f : ℕ → ℕ) (i s v : ℕ) → s ≡ total f i → v ≡ f i → s + v ≡ total f (i + 1)
unfolding total
sum_on f i s v p q = rw (add-one i) (ap₂ ◌+◌ p q)

-- The same where the loop goes on past the last of them.
pub sum_below : (f : ℕ → ℕ) (i count : ℕ) → total f (min i count) + cond (ltb i count) (f i) 0 ≡ total f (min (i + 1) count)
unfolding total
sum_below f i count =
    ⊎_elim
    (λ (l : i < count).
    rw (min-eq_left {n = i} {m = count} (omega arith), min-eq_left {n = i + 1} {m = count} (omega arith), lt-ltb i count l, add-one i))
    (λ (g : count ≤ i).
    rw (min-eq_right {n = count} {m = i} g, min-eq_right {n = count} {m = i + 1} (omega arith), le-ltb i count g) (omega arith))
    (lt_or_ge i count)

-- One more turn of a loop that looks for the number at a place.
pub found_on : (f : ℕ → ℕ) (i place : ℕ)
    → cond (ltb place i) (f place) 0 + cond (eqb i place) (f i) 0 ≡ cond (ltb place (i + 1)) (f place) 0
found_on f i place = ⊎_elim before (λ (g : place ≤ i). ⊎_elim here after (eq-or-lt_of_le {n = place} {m = i} g)) (lt_or_ge i place)
  where
    turn : Type 0
    turn = cond (ltb place i) (f place) 0 + cond (eqb i place) (f i) 0 ≡ cond (ltb place (i + 1)) (f place) 0

    before : i < place → turn
    before l = rw (le-ltb place i (omega arith), ne_eqb i place (λ e. omega (arith, e)), le-ltb place (i + 1) (omega arith)) (omega arith)

    here : place ≡ i → turn
    here e = rw (le-ltb place i (omega (arith, e)), eq-eqb i place (sym e), lt-ltb place (i + 1) (omega (arith, e)), e) (omega arith)

    after : place < i → turn
    after l = rw (lt-ltb place i l, ne_eqb i place (λ e. omega (arith, e)), lt-ltb place (i + 1) (omega arith)) (omega arith)

pub total_same : (f g : ℕ → ℕ) (n : ℕ) → ((i : ℕ) → i < n → f i ≡ g i) → total f n ≡ total g n
unfolding total
total_same f g zero e = refl
total_same f g (suc n) e = ap₂ ◌+◌ (total_same f g n (λ i h. e i (omega arith))) (e n (omega arith))

pub total_le : (f g : ℕ → ℕ) (n : ℕ) → ((i : ℕ) → i < n → f i ≤ g i) → total f n ≤ total g n
unfolding total
total_le f g zero e = omega arith
total_le f g (suc n) e = omega (arith, total_le f g n (λ i h. e i (omega arith)), e n (omega arith))

pub total_most : (f : ℕ → ℕ) (c n : ℕ) → ((i : ℕ) → i < n → f i ≤ c) → total f n ≤ n * c
unfolding total
total_most f c zero e = omega arith
total_most f c (suc n) e = omega (arith, total_most f c n (λ i h. e i (omega arith)), e n (omega arith))

-- A sum holds the terms of every shorter sum, and the term after them.
pub total_grows : (f : ℕ → ℕ) (u v : ℕ) → u < v → total f u + f u ≤ total f v
unfolding total
total_grows f u zero h = absurd (omega arith)
total_grows f u (suc v) h =
    ⊎_elim (λ (e : u ≡ v). rw e (omega arith)) (λ (l : u < v). omega (arith, total_grows f u v l))
    (eq-or-lt_of_le {n = u} {m = v} (omega arith))

-- Where a sum is 0, so is each of its terms.
pub total_nothing : (f : ℕ → ℕ) (n : ℕ) → total f n ≡ 0 → (i : ℕ) → i < n → f i ≡ 0
total_nothing f n e i h = omega (arith, total_grows f i n h)

-- Where each is at most its fellow and the sums are equal, each is its fellow.
pub total_tight : (f g : ℕ → ℕ) (n : ℕ) → ((i : ℕ) → i < n → f i ≤ g i) → total f n ≡ total g n → (i : ℕ) → i < n → f i ≡ g i
unfolding total
total_tight f g zero e q i h = absurd (omega arith)
total_tight f g (suc n) e q i h =
    let l = total_le f g n (λ i h. e i (omega arith)) in
    let m = e n (omega arith) in
    ⊎_elim (λ (p : i ≡ n). rw p (omega arith)) (λ (p : i < n). total_tight f g n (λ i h. e i (omega arith)) (omega arith) i p)
    (eq-or-lt_of_le {n = i} {m = n} (omega arith))

pub total_constant : (c n : ℕ) → total (λ i. c) n ≡ n * c
unfolding total
total_constant c zero = omega arith
total_constant c (suc n) = omega (arith, total_constant c n)

-- Where each is at most a number and the sum is as many times it, each is it.
pub total_full : (f : ℕ → ℕ) (c n : ℕ) → ((i : ℕ) → i < n → f i ≤ c) → total f n ≡ n * c → (i : ℕ) → i < n → f i ≡ c
total_full f c n e q = total_tight f (λ i. c) n e (q ∙ sym (total_constant c n))

-- Sums that differ in one place.
pub total_bump : (f g : ℕ → ℕ) (j d n : ℕ) → j < n → ((i : ℕ) → i ≢ j → g i ≡ f i) → g j ≡ f j + d → total g n ≡ total f n + d
unfolding total
total_bump f g j d zero l e q = absurd (omega arith)
total_bump f g j d (suc n) l e q =
    ⊎_elim
    (λ (p : j ≡ n). let r = total_same g f n (λ i h. e i (omega arith)) in let s : g n ≡ f n + d = rw p at q in omega arith)
    (λ (p : j < n). let r = total_bump f g j d n p e q in let s = e n (omega arith) in omega arith)
    (eq-or-lt_of_le {n = j} {m = n} (omega arith))

pub total_zero : (f : ℕ → ℕ) (n : ℕ) → ((i : ℕ) → i < n → f i ≡ 0) → total f n ≡ 0
unfolding total
total_zero f zero e = refl
total_zero f (suc n) e = omega (arith, total_zero f n (λ i h. e i (omega arith)), e n (omega arith))

-- A sum whose terms are 0 from m on is the sum of the first m.
pub total_cut : (f g : ℕ → ℕ) (m n : ℕ) → m ≤ n → ((i : ℕ) → i < m → g i ≡ f i) → ((i : ℕ) → m ≤ i → i < n → g i ≡ 0)
    → total g n ≡ total f m
unfolding total
total_cut f g m zero h same none = let z : m ≡ 0 = omega arith in rw z
total_cut f g m (suc n) h same none =
    ⊎_elim (λ (e : m ≡ suc n). rw e (total_same g f (suc n) (λ i l. same i (omega arith))))
    (λ (l : m < suc n).
    omega (arith, total_cut f g m n (omega arith) same (λ i a b. none i a (omega arith)), none n (omega arith) (omega arith)))
    (eq-or-lt_of_le {n = m} {m = suc n} h)

pub total_affine : (a c : ℕ) (f : ℕ → ℕ) (n : ℕ) → total (λ i. a + c * f i) n ≡ n * a + c * total f n
unfolding total
total_affine a c f zero = omega arith
total_affine a c f (suc n) = let h = total_affine a c f n in omega arith

pub total_add : (f g : ℕ → ℕ) (n : ℕ) → total (λ i. f i + g i) n ≡ total f n + total g n
unfolding total
total_add f g zero = refl
total_add f g (suc n) = let h = total_add f g n in omega arith

-- The columns of a rectangle added up, or its rows.
pub total_exchange : (f : ℕ → ℕ → ℕ) (m n : ℕ) → total (λ k. total (λ j. f j k) m) n ≡ total (λ j. total (f j) n) m
unfolding total
total_exchange f m zero = sym (total_zero (λ j. 0) m (λ j h. refl))
total_exchange f m (suc n) =
    ap (λ s. s + total (λ j. f j n) m) (total_exchange f m n) ∙ sym (total_add (λ j. total (f j) n) (λ j. f j n) m)

total_split : (f : ℕ → ℕ) (a n : ℕ) → total f (a + n) ≡ total f a + total (λ i. f (a + i)) n
unfolding total
total_split f a zero = rw (add-zero a) (omega arith)
total_split f a (suc n) = rw add-suc (let h = total_split f a n in omega arith)

-- A sum over all blocks, row after row.
pub total_grid : (f : ℕ → ℕ) (M N : ℕ) → total f (M * N) ≡ total (λ m. total (λ n. f (m * N + n)) N) M
unfolding total
total_grid f zero N = let z : zero * N ≡ 0 = omega arith in rw z
total_grid f (suc M) N =
    let z : suc M * N ≡ M * N + N = omega arith in
    rw z (total_split f (M * N) N ∙ ap (λ s. s + total (λ n. f (M * N + n)) N) (total_grid f M N))

-- All but the first.
pub count_not_first : (n : ℕ) → total (λ i. one (ltb 0 i)) n ≡ n - 1
unfolding total
count_not_first zero = refl
count_not_first (suc zero) = refl
count_not_first (suc (suc n)) = let h = count_not_first (suc n) in rw (lt-ltb 0 (suc n) (omega arith)) (omega arith)

count_not_last_to : (N i : ℕ) → total (λ i. one (ltb (i + 1) N)) i ≡ min i (N - 1)
unfolding total
count_not_last_to N zero = omega arith
count_not_last_to N (suc i) = let h = count_not_last_to N i in by (ltb (i + 1) N) refl h
  where
    by : (b : Bool) → ltb (i + 1) N ≡ b → total (λ i. one (ltb (i + 1) N)) i ≡ min i (N - 1)
        → total (λ i. one (ltb (i + 1) N)) i + one b ≡ min (suc i) (N - 1)
    by true e h = omega (arith, ltb-true (i + 1) N e)
    by false e h = omega (arith, ltb-false (i + 1) N e)

-- All but the last.
pub count_not_last : (N : ℕ) → total (λ i. one (ltb (i + 1) N)) N ≡ N - 1
count_not_last N = count_not_last_to N N ∙ omega arith
