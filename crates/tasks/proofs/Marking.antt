-- Marks: a mark that shows what is done passes the test of a mark and says of each task whether it is done, and one that
-- passes the test shows what it says. Assumes nothing.
use mathlib.Core.Path.{◌≡◌, refl, ap, ◌∙◌}
use mathlib.Core.Bool.{Bool, true, false, not, cond}
use mathlib.Core.List.{List}
use Prim.Native.Nat.{ℕ, zero, suc, ◌+◌, ◌*◌, ◌/◌, ◌%◌, ◌^◌, ◌<◌, ◌≤◌}
use native.Mathlib.Nat.{div-add-mod', div-div-eq-div-mul, pow-le-pow_right}
use native.Mathlib.Omega.{arith}
use lib.Dec.{ltb, eqb}
use borrow.Author.Tests.{eq-eqb, lt-ltb, ltb-true, eqb-true}
use Rattle.number.specs.Numbers.{total, one}
use Rattle.number.proofs.Tests.{and_left, and_right, and_both, all_at}
use Rattle.number.proofs.Sums.{all_below_law, one_most, total_same}
use Rattle.buffer.specs.Lists.{word_at}
use Rattle.grid.specs.declared.Grid.{Grid}
use Rattle.grid.specs.Grid.{block_total, block_row, block_column}
use Rattle.tasks.specs.Tasks.{has_task, exists, nothing_done}
use Rattle.tasks.specs.Counts.{one_at}
use Rattle.tasks.specs.Marks.{has_bit, is_marked, spare_clear, mark_valid, mark_valid_at, mark_of, Shows, mark_kind}
use Rattle.tasks.proofs.Existence.{has_exists, exists_has}
use Rattle.tasks.proofs.Counting.{Only}
use Rattle.number.specs.KindWords.{kind_of, payload_of, word_of}

one_is : (b : Bool) → eqb (one b) 1 ≡ b
one_is true = refl
one_is false = refl

-- Six numbers 0 or 1 as the low bits of a word of kind 7.
module _ (f : ℕ → ℕ) (h : (t : ℕ) → f t ≤ 1) where
  abbrev word : ℕ
  word = 1879048192 + (0 + f 0 * 1 + f 1 * 2 + f 2 * 4 + f 3 * 8 + f 4 * 16 + f 5 * 32)

  small : (f 0 ≤ 1) × (f 1 ≤ 1) × (f 2 ≤ 1) × (f 3 ≤ 1) × (f 4 ≤ 1) × (f 5 ≤ 1)
  small = (h 0, h 1, h 2, h 3, h 4, h 5)

  word_bit : (t : ℕ) → t < 6 → word / 2 ^ t % 2 ≡ f t
  word_bit zero l = omega (arith, small)
  word_bit (suc zero) l = omega (arith, small)
  word_bit (suc (suc zero)) l = omega (arith, small)
  word_bit (suc (suc (suc zero))) l = omega (arith, small)
  word_bit (suc (suc (suc (suc zero)))) l = omega (arith, small)
  word_bit (suc (suc (suc (suc (suc zero))))) l = omega (arith, small)
  word_bit (suc (suc (suc (suc (suc (suc t)))))) l = absurd (omega arith)

  word_kind : kind_of word ≡ mark_kind
  word_kind = omega (arith, small)

  word_low : payload_of word < 64
  word_low = omega (arith, small)

-- Bit t of the mark of what is done says whether task t is.
mark_bit : (done : ℕ → ℕ → Bool) (k t : ℕ) → t < 6 → has_bit (mark_of done k) t ≡ done t k
unfolding has_bit mark_of total
mark_bit done k t h = ap (λ x. eqb x 1) (word_bit (one_at done k) (λ t. one_most (done t k)) t h) ∙ one_is (done t k)

-- The mark of what is done depends only on tasks 0 to 5 of its block.
pub mark_same : (p q : ℕ → ℕ → Bool) (k : ℕ) → ((t : ℕ) → t < 6 → p t k ≡ q t k) → mark_of p k ≡ mark_of q k
unfolding mark_of
mark_same p q k same = ap (word_of mark_kind) (total_same _ _ 6 (λ t h. ap (λ x. one x * 2 ^ t) (same t h)))

power_small : (t : ℕ) → t < 6 → 2 ^ t ≤ 32
power_small t l = pow-le-pow_right {n = 2} (omega arith) {i = t} {j = 5} (omega arith)

-- 1 shifted by t in a word of 32 bits.
pub shifted_one : (t : ℕ) → t < 6 → 1 * 2 ^ t % 4294967296 ≡ 2 ^ t
shifted_one t l = let p = power_small t l in omega arith

-- Setting one more of bits 0 to 5 of a mark that passes the test leaves a word of 32 bits.
pub valid_room : (grid : Grid) (k w : ℕ) → mark_valid grid k w ≡ true → (t : ℕ) → t < 6 → w + 2 ^ t < 2 ^ 32
unfolding mark_valid
valid_room grid k w valid t l =
    let kind : kind_of w ≡ mark_kind = eqb-true (kind_of w) mark_kind (and_left (eqb (kind_of w) mark_kind) _ valid) in
    omega (arith, power_small t l)

-- All needed marks pass the test.
abbrev pub Valid : Grid → List ℕ → Type 0
Valid grid marks = (k : ℕ) → k < block_total grid → mark_valid_at grid marks k ≡ true

bit_one : (w t : ℕ) → one (has_bit w t) ≡ w / 2 ^ t % 2
unfolding has_bit
bit_one w t = by (w / 2 ^ t % 2) (omega arith)
  where
    by : (x : ℕ) → x < 2 → one (eqb x 1) ≡ x
    by zero h = refl
    by (suc zero) h = refl
    by (suc (suc x)) h = absurd (omega arith)

-- A word is its low n bits and what stands above them.
low_bits : (w n : ℕ) → w ≡ total (λ t. one (has_bit w t) * 2 ^ t) n + w / 2 ^ n * 2 ^ n
unfolding total
low_bits w zero = omega arith
low_bits w (suc n) =
    let double : 2 ^ suc n ≡ 2 ^ n * 2 = omega arith in
    let halved : w / (2 ^ n * 2) * 2 + w / 2 ^ n % 2 ≡ w / 2 ^ n =
    rw (← div-div-eq-div-mul w (2 ^ n) 2) (div-add-mod' (w / 2 ^ n) 2) in
    rw (double, bit_one w n) (low_bits w n ∙ one_more _ (w / 2 ^ n) _ _ (2 ^ n) halved)
  where
    one_more : (s q half bit p : ℕ) → half * 2 + bit ≡ q → s + q * p ≡ s + bit * p + half * (p * 2)
    one_more s q half bit p e = rw (← e) (omega arith)

-- What a word leaves when it is divided by a power of 2 are its low bits.
pub low_part : (w n : ℕ) → w % 2 ^ n ≡ total (λ t. one (has_bit w t) * 2 ^ t) n
low_part w n = omega (arith, low_bits w n, div-add-mod' w (2 ^ n))

-- A mark that passes the test is the mark of the tasks that it shows,
pub valid_shows : (grid : Grid) (marks : List ℕ) → Valid grid marks → Shows grid (is_marked marks) marks
unfolding mark_valid mark_of is_marked
valid_shows grid marks valid k h =
    let w = word_at marks k in
    let kind : kind_of w ≡ mark_kind = eqb-true (kind_of w) mark_kind (and_left (eqb (kind_of w) mark_kind) _ (valid k h)) in
    let low : payload_of w < 64 =
    ltb-true (payload_of w) 64
    (and_left (ltb (payload_of w) 64) _ (and_right (eqb (kind_of w) mark_kind) _ (valid k h)))
    in
    low_bits w 6 ∙ omega arith

-- and these exist.
pub valid_only : (grid : Grid) (marks : List ℕ) → Valid grid marks → Only grid (is_marked marks)
unfolding mark_valid spare_clear is_marked
valid_only grid marks valid t k l h e =
    let w = word_at marks k in
    let spare = spare_clear grid (block_row grid k) (block_column grid k) w in
    let clear : spare t ≡ true =
    all_at spare 6 t (and_right (ltb (payload_of w) 64) _ (and_right (eqb (kind_of w) mark_kind) _ (valid k h))) l
    in
    has_exists grid k h t (by (has_task grid t (block_row grid k) (block_column grid k)) (rw e at clear))
  where
    by : (x : Bool) → cond x true (not true) ≡ true → x ≡ true
    by true q = refl
    by false q = q

spare_of : (grid : Grid) (done : ℕ → ℕ → Bool) (k : ℕ) → ((t : ℕ) → t < 6 → done t k ≡ true → exists grid t k ≡ true)
    → (t : ℕ) → t < 6 → spare_clear grid (block_row grid k) (block_column grid k) (mark_of done k) t ≡ true
unfolding spare_clear
spare_of grid done k only t l =
    rw (mark_bit done k t l) (by _ (done t k) (λ e. exists_has grid t k (only t l e)))
  where
    by : (x d : Bool) → (d ≡ true → x ≡ true) → cond x true (not d) ≡ true
    by true d f = refl
    by false true f = f refl
    by false false f = refl

-- Marks that show what is done.
module _ (grid : Grid) (done : ℕ → ℕ → Bool) (marks : List ℕ) (shows : Shows grid done marks) where
  pub shows_marked : (t k : ℕ) → t < 6 → k < block_total grid → is_marked marks t k ≡ done t k
  unfolding is_marked
  shows_marked t k l h = rw (shows k h) (mark_bit done k t l)

  pub shows_valid : Only grid done → Valid grid marks
  unfolding mark_valid mark_of total
  shows_valid only k h =
      rw (shows k h)
      (and_both (eq-eqb _ 7 (word_kind (one_at done k) (λ t. one_most (done t k))))
      (and_both (lt-ltb _ 64 (word_low (one_at done k) (λ t. one_most (done t k))))
      (all_below_law (spare_clear grid (block_row grid k) (block_column grid k) (mark_of done k)) 6
      (spare_of grid done k (λ t l. only t k l h)))))

-- The mark that the start sets: kind 7 and no bit.
pub mark_nothing : (k : ℕ) → mark_of nothing_done k ≡ word_of mark_kind 0
unfolding mark_of total
mark_nothing k = refl
