-- What accepted rows say: each due word stands at its place. Assumes nothing.
use mathlib.Core.Path.{◌≡◌, ap, ◌∙◌}
use mathlib.Core.Bool.{Bool, true}
use mathlib.Core.List.{List, ◌∷◌}
use Prim.Native.Nat.{ℕ, suc, ◌<◌}
use native.Mathlib.Omega.{arith}
use lib.ListN.{length, drop}
use lib.Seq.{drop-cons}
use borrow.Author.Tests.{leb-false, eqb-true, not-false}
use Rattle.refusal.specs.Refusals.{accepted}
use Rattle.refusal.specs.Table.{first_due}
use Rattle.refusal.proofs.Table.{none_of}
use Rattle.buffer.specs.Lists.{word_at}
use Rattle.plan_reader.specs.ReadPlan.{payload_at, word_rows}
use Rattle.plan_reader.proofs.RefusalRows.{word_accepted}
use Rattle.number.specs.KindWords.{kind_of, word_of}

-- ---- a word that was accepted

-- A word of a kind stands at a place, and its payload is allowed.
pub record Due (words : List ℕ) (place kind : ℕ) (allowed : Bool) : Type 0 where
  pub present : place < length words
  pub kind_is : kind_of (word_at words place) ≡ kind
  pub payload_allowed : allowed ≡ true

module _ (words : List ℕ) (place kind : ℕ) (allowed : Bool) (e : first_due (word_rows words place kind allowed) ≡ accepted) where
  pub word_due : Due words place kind allowed
  unfolding word_rows
  word_due =
      let n = none_of (word_rows words place kind allowed) e in
      record {
        present = leb-false _ _ n.0;
        kind_is = eqb-true _ _ (not-false _ n.1.0);
        payload_allowed = not-false _ n.1.1.0;
      }

  -- The words from the place on begin with it.
  pub word_first : drop place words ≡ word_of kind (payload_at words place) ∷ drop (suc place) words
  word_first =
      let d = word_due in
      let w : word_at words place ≡ word_of kind (payload_at words place) = omega (arith, d.kind_is) in
      drop-cons words place 0 d.present ∙ ap (λ (x : ℕ). x ∷ drop (suc place) words) w

-- ---- a word that is accepted

module _ (words : List ℕ) (place kind payload : ℕ) (e : word_at words place ≡ word_of kind payload)
    (below : payload < 268435456) where
  pub payload_written : payload_at words place ≡ payload
  payload_written = omega (arith, e)

  pub word_written : place < length words → (allowed : Bool) → allowed ≡ true
      → first_due (word_rows words place kind allowed) ≡ accepted
  word_written present allowed a =
      let k : kind_of (word_at words place) ≡ kind = omega (arith, e) in
      rw a (word_accepted words place kind present k)
