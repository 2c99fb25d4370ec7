-- The list of a function's values: its length, its elements, that no other list has both, and how an array is filled
-- with it; and a list of zeros. Assumes nothing.
use mathlib.Core.Path.{◌≡◌, refl, sym, ap, ◌∙◌}
use mathlib.Core.List.{List, [], ◌∷◌, ◌++◌}
use mathlib.Core.Logic.{⊎_elim}
use Prim.Native.Nat.{ℕ, zero, suc, ◌+◌, ◌<◌}
use native.Mathlib.Omega.{arith}
use native.Mathlib.Nat.{eq-or-lt_of_le}
use native.Mathlib.Numerals.{add-one}
use lib.ListN.{length, get_or, take, set, replicate, length-append, get_or-append}
use lib.Seq.{get_or_at, ext_get_or, take-suc-set, take-length}
use Rattle.buffer.specs.Lists.{word_at, list_of}

module _ {A : Type 0} (f : ℕ → A) where
  pub listed_none : list_of f 0 ≡ []
  unfolding list_of
  listed_none = refl

  pub listed_more : (count : ℕ) → list_of f (count + 1) ≡ list_of f count ++ (f count ∷ [])
  unfolding list_of
  listed_more count = rw (add-one count)

  pub listed_length : (count : ℕ) → length (list_of f count) ≡ count
  unfolding list_of
  listed_length zero = refl
  listed_length (suc count) = simp length-append (omega (arith, listed_length count))

  pub listed_at : (count i : ℕ) (d : A) → i < count → get_or (list_of f count) i d ≡ f i
  unfolding list_of
  listed_at zero i d h = absurd (omega arith)
  listed_at (suc count) i d h =
      ⊎_elim
      (λ (e : i ≡ count). rw e (get_or_at (list_of f count) (f count) [] d count (listed_length count)))
      (λ (l : i < count).
      let k : i < length (list_of f count) = omega (arith, listed_length count) in
      get_or-append (list_of f count) (f count ∷ []) d i k ∙ listed_at count i d l)
      (eq-or-lt_of_le {n = i} {m = count} (omega arith))

  pub listed_only :
      (l : List A) (count : ℕ) (d : A) → length l ≡ count → ((i : ℕ) → i < count → get_or l i d ≡ f i) → l ≡ list_of f count
  listed_only l count d e h =
      ext_get_or d l (list_of f count) (e ∙ sym (listed_length count))
      (λ i k. let b : i < count = omega arith in h i b ∙ sym (listed_at count i d b))

  -- An array that is filled from its start: one element more, and all of it.
  pub filled_more :
      (l : List A) (i : ℕ) (a : A) → i < length l → a ≡ f i → take i l ≡ list_of f i → take (i + 1) (set l i a) ≡ list_of f (i + 1)
  filled_more l i a h e k = rw (listed_more i, add-one i, take-suc-set l i a h, e, k)

  pub filled_all : (l : List A) (count : ℕ) → length l ≡ count → take count l ≡ list_of f count → l ≡ list_of f count
  filled_all l count e k = sym (take-length l) ∙ ap (λ (n : ℕ). take n l) e ∙ k

-- The lists of two functions that agree.
pub listed_same : {A : Type 0} (f g : ℕ → A) (count : ℕ) (d : A) → ((i : ℕ) → i < count → f i ≡ g i)
    → list_of f count ≡ list_of g count
listed_same f g count d same =
    listed_only g (list_of f count) count d (listed_length f count) (λ i h. listed_at f count i d h ∙ same i h)

-- A list of zeros.
pub zeros_at : (n z : ℕ) → word_at (replicate n 0) z ≡ 0
zeros_at zero z = refl
zeros_at (suc n) zero = refl
zeros_at (suc n) (suc z) = zeros_at n z
