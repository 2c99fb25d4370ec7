-- A function's lists one behind another: where an element of one of them stands. Assumes nothing.
use mathlib.Core.Path.{◌≡◌, ◌∙◌}
use mathlib.Core.List.{List, ◌++◌, append_assoc}
use mathlib.Core.Logic.{⊎_elim}
use Prim.Native.Nat.{ℕ, zero, suc, ◌+◌, ◌<◌}
use native.Mathlib.Omega.{arith}
use native.Mathlib.Nat.{eq-or-lt_of_le}
use lib.ListN.{length, get_or, get_or-append}
use lib.Seq.{get_or-append-add}
use Rattle.buffer.specs.Lists.{joined}

module _ {A : Type 0} (f : ℕ → List A) where
  -- Element k of list i, where the lists before it have n elements; anything may stand behind the last list.
  pub joined_at : (count i k n : ℕ) (tail : List A) (d : A) → i < count → k < length (f i) → length (joined f i) ≡ n
      → get_or (joined f count ++ tail) (n + k) d ≡ get_or (f i) k d
  unfolding joined
  joined_at zero i k n tail d h b e = absurd (omega arith)
  joined_at (suc count) i k n tail d h b e =
      rw append_assoc
      (⊎_elim
      (λ (p : i ≡ count).
      rw (← p, ← e) (get_or-append-add (joined f i) (f i ++ tail) k d ∙ get_or-append (f i) tail d k b))
      (λ (l : i < count). joined_at count i k n (f count ++ tail) d l b e)
      (eq-or-lt_of_le {n = i} {m = count} (omega arith)))
