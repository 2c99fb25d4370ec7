-- A list is known from its words: so many first words, and the rest of another list. Assumes nothing.
use mathlib.Core.Path.{◌≡◌, ap, sym, ◌∙◌}
use mathlib.Core.List.{List, ◌++◌}
use Prim.Native.Nat.{ℕ, ◌+◌, ◌-◌, ◌<◌, ◌≤◌}
use native.Mathlib.Decide.{dec_lt}
use native.Mathlib.Omega.{arith}
use lib.ListN.{length, drop, length-append, length-drop, get_or-append}
use lib.Seq.{ext_get_or, get_or-append-add, get_or-drop}
use Rattle.buffer.specs.Lists.{word_at, list_of}
use Rattle.buffer.proofs.Listed.{listed_length, listed_at}

pub first_words : (n : ℕ) (f : ℕ → ℕ) (l m : List ℕ) → n ≤ length l → length m ≡ length l
    → ((i : ℕ) → i < n → word_at m i ≡ f i) → ((i : ℕ) → n ≤ i → word_at m i ≡ word_at l i)
    → m ≡ list_of f n ++ drop n l
first_words n f l m long same first rest =
    ext_get_or 0 m (list_of f n ++ drop n l)
    (rw (length-append, listed_length f n, length-drop) (omega arith))
    (λ i b.
    elim (dec_lt i n) [
      | yes c ↦
          first i c ∙ sym (get_or-append (list_of f n) (drop n l) 0 i (rw (listed_length f n) c) ∙ listed_at f n i 0 c)
      | no c ↦
          rest i (omega arith)
          ∙ sym
          (ap (word_at (list_of f n ++ drop n l)) {y = length (list_of f n) + (i - n)} (rw (listed_length f n) (omega arith))
          ∙ get_or-append-add (list_of f n) (drop n l) (i - n) 0
          ∙ get_or-drop n l (i - n) 0
          ∙ ap (word_at l) (omega arith))
    ])
