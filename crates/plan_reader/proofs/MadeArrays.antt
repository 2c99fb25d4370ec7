-- The array that `std::array::from_fn` makes by calls at 0, 1, .. is the list of a function's values, where each call answers the
-- function's value and leaves the closure as it was. Assumes nothing.
use mathlib.Core.Path.{◌≡◌, subst, ◌∙◌}
use mathlib.Core.List.{List}
use mathlib.Core.Logic.{⊎_elim}
use Prim.Native.Nat.{ℕ, zero, suc, ◌+◌, ◌<◌, ◌≤◌}
use native.Mathlib.Omega.{arith}
use native.Mathlib.Nat.{eq-or-lt_of_le}
use denote.Param.Members.{Mut, Called}
use Rattle.std.specs.Prelude.{slice_index_or}
use Rattle.std.specs.Array.{IsFromFnResultFrom, IsFromFnResult}
use Rattle.buffer.specs.Lists.{list_of}
use Rattle.buffer.proofs.Listed.{listed_only}

module _ {F B : Type 0} {g : Mut F (ℕ × Unit {0}) B} {f : F} (made : List B) (value : ℕ → B) (n : ℕ)
    (calls : (i : ℕ) (answer : B) (after : F) → i < n → Called g f (i, tt) answer after → (after ≡ f) × (answer ≡ value i)) where
  made_from : (i count : ℕ) → i + count ≡ n → IsFromFnResultFrom g f made i count
      → (k : ℕ) (d : B) → i ≤ k → k < n → slice_index_or made k d ≡ value k
  made_from i zero e each k d low high = absurd (omega arith)
  made_from i (suc count) e each k d low high =
      let call = calls i each.1 each.0 (omega arith) each.3 in
      ⊎_elim
      (λ (same : i ≡ k). rw (← same) (each.2.1 d ∙ call.1))
      (λ (past : i < k).
      made_from (i + 1) count (omega arith) (subst (λ (q : F). IsFromFnResultFrom g q made (i + 1) count) call.0 each.4) k d (omega arith) high)
      (eq-or-lt_of_le {n = i} {m = k} low)

  pub made_listed : (default : B) → IsFromFnResult g f made n → made ≡ list_of value n
  made_listed d result =
      listed_only value made n d result.long (λ i h. made_from 0 n (omega arith) result.each i d (omega arith) h)
