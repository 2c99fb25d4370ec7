-- Lists of needs: what holds of each of them. Assumes nothing.
use mathlib.Core.Path.{◌≡◌, refl}
use mathlib.Core.Logic.{⊎_elim}
use mathlib.Core.Bool.{Bool, true, ◌&&◌}
use mathlib.Core.List.Memᴰ
use mathlib.Core.List.{List, [], ◌∷◌, Memᴰ}
use Prim.Native.Nat.{ℕ}
use Rattle.number.proofs.Tests.{and_left, and_right, and_both}
use Rattle.tasks.specs.Tasks.{BlockTask, all_done}

-- What is done stays done where more is.
pub all_kept : (p q : ℕ → ℕ → Bool) → ((t k : ℕ) → p t k ≡ true → q t k ≡ true) → (needs : List BlockTask)
    → all_done p needs ≡ true → all_done q needs ≡ true
unfolding all_done
all_kept p q f [] e = refl
all_kept p q f (x ∷ xs) e =
    and_both (f x.task x.block (and_left (p x.task x.block) (all_done p xs) e))
    (all_kept p q f xs (and_right (p x.task x.block) (all_done p xs) e))

-- Two tests at once.
pub all_and : (p q : ℕ → ℕ → Bool) (needs : List BlockTask) → all_done p needs ≡ true → all_done q needs ≡ true
    → all_done (λ t k. p t k && q t k) needs ≡ true
unfolding all_done
all_and p q [] e f = refl
all_and p q (x ∷ xs) e f =
    and_both
    (and_both (and_left (p x.task x.block) (all_done p xs) e) (and_left (q x.task x.block) (all_done q xs) f))
    (all_and p q xs (and_right (p x.task x.block) (all_done p xs) e) (and_right (q x.task x.block) (all_done q xs) f))

-- One need of a list.
pub all_member : (p : ℕ → ℕ → Bool) (needs : List BlockTask) → all_done p needs ≡ true → (need : BlockTask)
    → Memᴰ need needs → p need.task need.block ≡ true
unfolding all_done
all_member p [] e need m = absurd (Memᴰ.not-nil m)
all_member p (x ∷ xs) e need m =
    ⊎_elim (λ (i : need ≡ x). rw i (and_left (p x.task x.block) (all_done p xs) e))
    (λ (i : Memᴰ need xs). all_member p xs (and_right (p x.task x.block) (all_done p xs) e) need i)
    (Memᴰ.cases_cons m)
