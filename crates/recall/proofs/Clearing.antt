-- Clearing a mark: a recall reaches the tasks of a block from one on, so that what stays of its mark are its low bits.
-- Assumes nothing.
use mathlib.Core.Path.{◌≡◌, refl, sym, ap, ◌∙◌}
use mathlib.Core.Bool.{Bool, true, false, not, ◌&&◌, and-true}
use mathlib.Core.List.{List, ◌++◌}
use Prim.Native.Nat.{ℕ, ◌+◌, ◌*◌, ◌%◌, ◌^◌, ◌≤◌, ◌<◌}
use native.Mathlib.Omega.{arith}
use lib.ListN.{length, set, get_or-append}
use Rattle.std.proofs.lemmas.List.{set-append_left}
use Rattle.number.specs.Numbers.{one}
use Rattle.number.specs.KindWords.{word_of}
use Rattle.number.proofs.Sums.{total_cut}
use Rattle.buffer.specs.Lists.{word_at}
use Rattle.buffer.specs.Written.{written}
use Rattle.buffer.proofs.Written.{written_more, written_other}
use Rattle.grid.specs.declared.Grid.{Grid}
use Rattle.grid.specs.Grid.{block_total}
use Rattle.grid.specs.Shapes.{position_of}
use Rattle.tasks.specs.Tasks.{exists}
use Rattle.tasks.specs.Marks.{is_marked, mark_kind, bit_at, mark_of}
use Rattle.tasks.proofs.Marking.{Valid, low_part, valid_only}
use Rattle.recall.specs.Recall.{reaches, clears, done_without}
use Rattle.recall.specs.Clearing.{first_reached}
use Rattle.recall.proofs.Reached.{reaches_reached, reached_reaches, reached_later, reached_from}

pub first_link : (grid : Grid) (k j : ℕ) → first_reached (position_of grid k) (position_of grid j) ≤ 4
first_link grid k j = (reached_from grid k j).least 4 tt

-- What stays of a mark that passes the test.
module _ (grid : Grid) (k : ℕ) (marks : List ℕ) (valid : Valid grid marks) (j : ℕ) (h : j < block_total grid) where
  abbrev first : ℕ
  first = first_reached (position_of grid k) (position_of grid j)

  -- From the first task that is reached on none is marked,
  cleared : (t : ℕ) → first ≤ t → t < 6 → done_without grid (is_marked marks) k t j ≡ false
  unfolding done_without clears
  cleared t l b =
      rw (reached_reaches grid k t j (reached_later grid k first t j l (reached_from grid k j).reached))
      (by (is_marked marks t j) (exists grid t j) (valid_only grid marks valid t j b h))
    where
      by : (marked exist : Bool) → (marked ≡ true → exist ≡ true) → (marked && not (exist && true)) ≡ false
      by true exist f = rw (f refl)
      by false exist f = refl

  -- and before it each task stays as it was.
  stays : (t : ℕ) → t < first → done_without grid (is_marked marks) k t j ≡ is_marked marks t j
  unfolding done_without clears
  stays t l =
      by (exists grid t j) (reaches grid k t j)
      (λ e. let least = (reached_from grid k j).least t (reaches_reached grid k t j e) in omega arith)
    where
      by : (exist reach : Bool) → (reach ≡ true → ⊥) → (is_marked marks t j && not (exist && reach)) ≡ is_marked marks t j
      by exist true u = absurd (u refl)
      by true false u = and-true (is_marked marks t j)
      by false false u = and-true (is_marked marks t j)

  pub spared_mark : word_of mark_kind (word_at marks j % 2 ^ first) ≡ mark_of (done_without grid (is_marked marks) k) j
  unfolding mark_of is_marked
  spared_mark =
      ap (word_of mark_kind)
      (low_part (word_at marks j) first
      ∙ sym (total_cut (bit_at (is_marked marks) j) (bit_at (done_without grid (is_marked marks) k) j) first 6
      (omega (arith, first_link grid k j)) (λ t l. ap (λ x. one x * 2 ^ t) (stays t l))
      (λ t l b. rw (cleared t l b) (omega arith))))

-- ---- mark after mark

-- The marks of which the first n are without the bits that a recall clears.
abbrev pub recalled_to : Grid → (k : ℕ) → List ℕ → (n : ℕ) → List ℕ
recalled_to grid k marks n = written (λ j. j) (mark_of (done_without grid (is_marked marks) k)) n marks

-- One turn more of the loop: of the marks that it goes over, before the rest, it comes to one that is as it was.
pub recalled_next : (grid : Grid) (k : ℕ) (marks : List ℕ) → Valid grid marks → (n : ℕ) → n < block_total grid
    → (items rest : List ℕ) → n < length items → items ++ rest ≡ recalled_to grid k marks n → {first mark : ℕ}
    → first ≡ first_reached (position_of grid k) (position_of grid n)
    → mark ≡ word_of mark_kind (word_at items n % 2 ^ first) → set items n mark ++ rest ≡ recalled_to grid k marks (n + 1)
recalled_next grid k marks valid n h items rest here is {first} {mark} reach e =
    let kept : word_at items n ≡ word_at marks n =
    sym (get_or-append items rest 0 n here)
    ∙ ap (λ words. word_at words n) is
    ∙ written_other (λ j. j) (mark_of (done_without grid (is_marked marks) k)) n marks n (λ i l. omega arith)
    in
    sym (set-append_left items rest n mark here)
    ∙ written_more (λ j. j) (mark_of (done_without grid (is_marked marks) k)) n marks (items ++ rest) mark is
    (e ∙ rw (reach, kept) (spared_mark grid k marks valid n h))
