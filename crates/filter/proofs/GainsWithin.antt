-- The product of the gains of some passes, by a loop over all of them. Assumes nothing.
use mathlib.Core.Path.{◌≡◌, ap, sym, ◌∙◌}
use mathlib.Core.Logic.{◌⊎◌, ⊎_elim}
use Prim.Native.Nat.{ℕ, suc, ◌+◌, ◌-◌, ◌<◌, ◌≤◌, min}
use native.Mathlib.Omega.{arith}
use Rattle.word.specs.Word.{◌⊗◌}
use Rattle.passes.specs.Filter.{Filter}
use Rattle.passes.specs.Gains.{gains_from}
use Rattle.passes.proofs.Gains.{gains_from_last}

-- A pass that is one of the n from u on takes part;
pub gains_inside : (filters : ℕ → Filter) (u n i : ℕ) → u ≤ i → i < u + n
    → gains_from filters u (min (i - u) n) ⊗ (filters i).gain ≡ gains_from filters u (min ((i + 1) - u) n)
gains_inside filters u n i g l =
    let counted : min (i - u) n ≡ i - u = omega arith in
    let next : min ((i + 1) - u) n ≡ suc (i - u) = omega arith in
    let here : u + (i - u) ≡ i = omega arith in
    rw (counted, next)
    (ap (λ v. gains_from filters u (i - u) ⊗ (filters v).gain) (sym here) ∙ sym (gains_from_last filters u (i - u)))

-- any other does not.
pub gains_outside : (filters : ℕ → Filter) (u n i : ℕ) → i < u ⊎ u + n ≤ i
    → gains_from filters u (min (i - u) n) ≡ gains_from filters u (min ((i + 1) - u) n)
gains_outside filters u n i out =
    ⊎_elim (λ (l : i < u). ap (gains_from filters u) (omega arith)) (λ (g : u + n ≤ i). ap (gains_from filters u) (omega arith)) out
