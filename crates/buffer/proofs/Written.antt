-- A list after words have gone to places: its length, what stands at those places, what stands elsewhere, and when the
-- order does not count. Assumes nothing.
use mathlib.Core.Path.{◌≡◌, refl, ap, ap₂, sym, ◌∙◌}
use mathlib.Core.List.{List}
use mathlib.Core.Logic.{◌≢◌, ⊎_elim}
use Prim.Native.Nat.{ℕ, zero, suc, ◌+◌, ◌<◌}
use native.Mathlib.Nat.{eq-or-lt_of_le, add-zero, add-suc}
use native.Mathlib.Numerals.{add-one}
use native.Mathlib.Omega.{arith}
use lib.ListN.{length, set, length-set}
use lib.Seq.{get_or-set_same, get_or-set_other, set-get_or, set_comm}
use Rattle.buffer.specs.Lists.{word_at}
use Rattle.buffer.specs.Written.{written}

-- Nothing written yet.
pub written_none : (p w : ℕ → ℕ) (list : List ℕ) → written p w 0 list ≡ list
unfolding written
written_none p w list = refl

-- One word more.
pub written_next : (p w : ℕ → ℕ) (n : ℕ) (list : List ℕ)
    → set (written p w n list) (p n) (w n) ≡ written p w (n + 1) list
unfolding written
written_next p w n list = rw (add-one n)

pub written_length : (p w : ℕ → ℕ) (n : ℕ) (list : List ℕ) → length (written p w n list) ≡ length list
unfolding written
written_length p w zero list = refl
written_length p w (suc n) list = length-set (written p w n list) (p n) (w n) ∙ written_length p w n list

-- A place that none of them is.
pub written_other : (p w : ℕ → ℕ) (n : ℕ) (list : List ℕ) (q : ℕ) → ((i : ℕ) → i < n → q ≢ p i)
    → word_at (written p w n list) q ≡ word_at list q
unfolding written
written_other p w zero list q e = refl
written_other p w (suc n) list q e =
    get_or-set_other (written p w n list) (p n) q (w n) 0 (e n (omega arith))
    ∙ written_other p w n list q (λ i h. e i (omega arith))

-- One of the places, where all of them differ and lie in the list.
pub written_at : (p w : ℕ → ℕ) (n : ℕ) (list : List ℕ) → ((i j : ℕ) → j < i → i < n → p i ≢ p j)
    → ((i : ℕ) → i < n → p i < length list) → (j : ℕ) → j < n → word_at (written p w n list) (p j) ≡ w j
unfolding written
written_at p w zero list e f j h = absurd (omega arith)
written_at p w (suc n) list e f j h =
    ⊎_elim
    (λ (q : suc j ≡ suc n).
    let same : j ≡ n = omega arith in
    rw same
    (get_or-set_same (written p w n list) (p n) (w n) 0 (rw (written_length p w n list) (f n (omega arith)))))
    (λ (q : suc j < suc n).
    get_or-set_other (written p w n list) (p n) (p j) (w n) 0 (λ z. e n j (omega arith) (omega arith) (sym z))
    ∙ written_at p w n list (λ i k b c. e i k b (omega arith)) (λ i b. f i (omega arith)) j (omega arith))
    (eq-or-lt_of_le h)

-- The same words at the same places.
pub written_same : (p r w v : ℕ → ℕ) (n : ℕ) (list : List ℕ) → ((i : ℕ) → i < n → p i ≡ r i)
    → ((i : ℕ) → i < n → w i ≡ v i) → written p w n list ≡ written r v n list
unfolding written
written_same p r w v zero list e f = refl
written_same p r w v (suc n) list e f =
    ap₂ (set (written p w n list)) (e n (omega arith)) (f n (omega arith))
    ∙ ap (λ z. set z (r n) (v n)) (written_same p r w v n list (λ i h. e i (omega arith)) (λ i h. f i (omega arith)))

-- Each place gets the word that stands there.
pub written_unchanged : (p w : ℕ → ℕ) (n : ℕ) (list : List ℕ) → ((i : ℕ) → i < n → w i ≡ word_at list (p i))
    → written p w n list ≡ list
unfolding written
written_unchanged p w zero list e = refl
written_unchanged p w (suc n) list e =
    ap₂ (λ l v. set l (p n) v) (written_unchanged p w n list (λ i h. e i (omega arith))) (e n (omega arith))
    ∙ set-get_or list (p n) 0

-- Some words, and then others.
pub written_parts : (p w : ℕ → ℕ) (n m : ℕ) (list : List ℕ)
    → written p w (n + m) list ≡ written (λ i. p (n + i)) (λ i. w (n + i)) m (written p w n list)
unfolding written
written_parts p w n zero list = rw add-zero
written_parts p w n (suc m) list = rw add-suc (ap (λ z. set z (p (n + m)) (w (n + m))) (written_parts p w n m list))

-- A place that none of them is, set before or after,
written_set : (p w : ℕ → ℕ) (n : ℕ) (list : List ℕ) (q v : ℕ) → ((i : ℕ) → i < n → q ≢ p i)
    → written p w n (set list q v) ≡ set (written p w n list) q v
unfolding written
written_set p w zero list q v e = refl
written_set p w (suc n) list q v e =
    ap (λ z. set z (p n) (w n)) (written_set p w n list q v (λ i h. e i (omega arith)))
    ∙ set_comm (written p w n list) q (p n) v (w n) (e n (omega arith))

-- and words at other places, written before or after.
pub written_swap : (p w : ℕ → ℕ) (n : ℕ) (r v : ℕ → ℕ) (m : ℕ) (list : List ℕ)
    → ((i j : ℕ) → i < n → j < m → r j ≢ p i)
    → written p w n (written r v m list) ≡ written r v m (written p w n list)
unfolding written
written_swap p w n r v zero list e = refl
written_swap p w n r v (suc m) list e =
    written_set p w n (written r v m list) (r m) (v m) (λ i h. e i m h (omega arith))
    ∙ ap (λ z. set z (r m) (v m)) (written_swap p w n r v m list (λ i j h g. e i j h (omega arith)))

pub written_more : (p w : ℕ → ℕ) (n : ℕ) (a b : List ℕ) (v : ℕ) → b ≡ written p w n a → v ≡ w n
    → set b (p n) v ≡ written p w (n + 1) a
written_more p w n a b v e f = ap₂ (λ l z. set l (p n) z) e f ∙ written_next p w n a
