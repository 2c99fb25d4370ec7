-- One line: in two parts; what an output reads; and what commutes with the step commutes with the filter.
-- Assumes nothing.
use mathlib.Core.Path.{◌≡◌, refl, ap, sym, ◌∙◌, fun_ext}
use Prim.Native.Nat.{ℕ, zero, suc, ◌+◌, ◌-◌, ◌≤◌, ◌<◌}
use native.Mathlib.Nat.{add-suc, add-zero}
use native.Mathlib.Omega.{arith}
use Rattle.passes.specs.Line.{history, output, words_before}

-- ---- a line in two parts

-- The line from place a on, filtered with the outputs before a for its history.
pub history_split : {A : Type 0} (s : A → (ℕ → A) → A) (p x : ℕ → A) (a i k : ℕ)
    → history s p x (a + i) k ≡ history s (history s p x a) (λ (j : ℕ). x (a + j)) i k
unfolding history
history_split s p x a zero k = rw add-zero
history_split s p x a (suc i) zero = rw add-suc (ap (s (x (a + i))) (fun_ext (history_split s p x a i)))
history_split s p x a (suc i) (suc k) = rw add-suc (history_split s p x a i k)

-- ---- what an output reads

-- A step that reads r outputs before it.
abbrev pub Reads : {A : Type 0} → ℕ → (A → (ℕ → A) → A) → Type 0
Reads {A} r s = (v : A) (h h' : ℕ → A) → ((k : ℕ) → k < r → h k ≡ h' k) → s v h ≡ s v h'

pub history_reads : {A : Type 0} (s : A → (ℕ → A) → A) (r : ℕ) → Reads r s → (p q x y : ℕ → A)
    → ((k : ℕ) → k < r → p k ≡ q k) → (i : ℕ) → ((j : ℕ) → j < i → x j ≡ y j)
    → (k : ℕ) → k < r → history s p x i k ≡ history s q y i k
unfolding history
history_reads s r l p q x y e zero f k h = e k h
history_reads s r l p q x y e (suc i) f zero h =
    ap (λ v. s v (history s p x i)) (f i (omega arith))
    ∙ l (y i) _ _ (history_reads s r l p q x y e i (λ j b. f j (omega arith)))
history_reads s r l p q x y e (suc i) f (suc k) h =
    history_reads s r l p q x y e i (λ j b. f j (omega arith)) k (omega arith)

-- An output depends on r places of the history and on the input up to it.
pub output_reads : {A : Type 0} (s : A → (ℕ → A) → A) (r : ℕ) → Reads r s → (p q x y : ℕ → A)
    → ((k : ℕ) → k < r → p k ≡ q k) → (i : ℕ) → ((j : ℕ) → j < suc i → x j ≡ y j) → output s p x i ≡ output s q y i
unfolding output
output_reads s r l p q x y e i f =
    ap (λ v. s v (history s p x i)) (f i (omega arith))
    ∙ l (y i) _ _ (history_reads s r l p q x y e i (λ j b. f j (omega arith)))

-- m outputs from place a on are those of the part, if its history is what stands before a.
pub output_part : {A : Type 0} (s : A → (ℕ → A) → A) (r : ℕ) → Reads r s → (p q x y : ℕ → A) (a m : ℕ)
    → ((k : ℕ) → k < r → q k ≡ history s p x a k) → ((j : ℕ) → j < m → y j ≡ x (a + j))
    → (i : ℕ) → i < m → output s q y i ≡ output s p x (a + i)
unfolding output
output_part s r l p q x y a m e f i b =
    ap (λ v. s v (history s q y i)) (f i b)
    ∙ l _ _ _ (history_reads s r l q (history s p x a) y (λ j. x (a + j)) e i (λ j c. f j (omega arith)))
    ∙ ap (s (x (a + i))) (sym (fun_ext (history_split s p x a i)))

-- ---- what commutes with the step commutes with the filter

abbrev pub Commutes : {A J : Type 0} → ((J → A) → A) → (A → (ℕ → A) → A) → Type 0
Commutes {A} {J} F s = (v : J → A) (h : J → ℕ → A) → F (λ j. s (v j) (h j)) ≡ s (F v) (λ k. F (λ j. h j k))

pub history_commutes : {A J : Type 0} (F : (J → A) → A) (s : A → (ℕ → A) → A) → Commutes F s
    → (p x : J → ℕ → A) (i k : ℕ)
    → F (λ j. history s (p j) (x j) i k) ≡ history s (λ k. F (λ j. p j k)) (λ i. F (λ j. x j i)) i k
unfolding history
history_commutes F s c p x zero k = refl
history_commutes F s c p x (suc i) zero = c _ _ ∙ ap (s _) (fun_ext (history_commutes F s c p x i))
history_commutes F s c p x (suc i) (suc k) = history_commutes F s c p x i k

pub output_commutes : {A J : Type 0} (F : (J → A) → A) (s : A → (ℕ → A) → A) → Commutes F s
    → (p x : J → ℕ → A) (i : ℕ)
    → F (λ j. output s (p j) (x j) i) ≡ output s (λ k. F (λ j. p j k)) (λ i. F (λ j. x j i)) i
unfolding history output
output_commutes F s c p x i = history_commutes F s c p x (suc i) zero

-- ---- the words before a place of a line that is given

-- Where the places before i hold the outputs, the words before i are the history.
pub words_before_history : {A : Type 0} (s : A → (ℕ → A) → A) (p x y : ℕ → A) (i : ℕ)
    → ((j : ℕ) → j < i → y j ≡ output s p x j) → (k : ℕ) → words_before p y i k ≡ history s p x i k
unfolding words_before history output
words_before_history s p x y zero e k = refl
words_before_history s p x y (suc i) e zero = e i (omega arith)
words_before_history s p x y (suc i) e (suc k) = words_before_history s p x y i (λ j b. e j (omega arith)) k

pub words_before_inside : {A : Type 0} (p y : ℕ → A) (i k : ℕ) → k < i → words_before p y i k ≡ y (i - suc k)
unfolding words_before
words_before_inside p y zero k h = absurd (omega arith)
words_before_inside p y (suc i) zero h = ap y (omega arith)
words_before_inside p y (suc i) (suc k) h = words_before_inside p y i k (omega arith) ∙ ap y (omega arith)

pub words_before_past : {A : Type 0} (p y : ℕ → A) (i k : ℕ) → i ≤ k → words_before p y i k ≡ p (k - i)
unfolding words_before
words_before_past p y zero k h = ap p (omega arith)
words_before_past p y (suc i) zero h = absurd (omega arith)
words_before_past p y (suc i) (suc k) h = words_before_past p y i k (omega arith) ∙ ap p (omega arith)
