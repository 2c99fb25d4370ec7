-- Inner: the passes along one axis over one line, by their histories: how a link comes by its words.
use Rattle.std.specs.Prelude.{cond, ℕ, zero, suc, ◌+◌, eqb}
use Rattle.word.specs.Word.{◌⊕◌}
use Rattle.passes.specs.Filter.{Filter}
use Rattle.axis.specs.Axis.{axis_of, direction_of, along, is_backward, if_backward}
use Rattle.passes.specs.Passes.{filter_line}
use Rattle.passes.specs.Square.{unit_history, weighted_sum}

-- Of the passes, the first that runs along the same axis as a pass,
abbrev pub axis_start : ℕ → ℕ
axis_start pass = along (axis_of pass) 0 2

-- and how many there are from that one to the pass itself: the forward pass of an axis comes before its backward one.
abbrev pub axis_passes : ℕ → ℕ
axis_passes pass = 1 + if_backward (is_backward (direction_of pass)) 1

-- The passes t, t+1, .. t+m-1 over a line x of n places; P u stands for the outputs of pass u past the line's end.
unfoldable pub line_passes : (ℕ → Filter) → (n : ℕ) → (P : ℕ → ℕ → ℕ) → (x : ℕ → ℕ) → (t m : ℕ) → ℕ → ℕ
line_passes filters n P x t zero = x
line_passes filters n P x t (suc m) =
    filter_line (direction_of (t + m)) (filters (t + m)) n (P (t + m)) (line_passes filters n P x t m)

-- The outputs past the line's end that are p for pass u and 0 for all others.
unfoldable pub only_at : ℕ → (ℕ → ℕ) → ℕ → ℕ → ℕ
only_at u p v k = cond (eqb u v) (p k) 0

-- What place j of the history of pass t counts at place i after the passes t, t+1, .. t+m-1: the square of a link.
unfoldable pub pass_square : (ℕ → Filter) → (n t m i j : ℕ) → ℕ
pass_square filters n t m i j = line_passes filters n (only_at t (unit_history j)) (λ i. 0) t m i

-- A word with the histories of the passes t, .. t+s-1 added, each weighted by its square at place i; the passes end before
-- pass t+m.
unfoldable pub with_histories : (ℕ → Filter) → (n : ℕ) → (P : ℕ → ℕ → ℕ) → (t s m i word : ℕ) → ℕ
with_histories filters n P t zero m i word = word
with_histories filters n P t (suc s) m i word =
    with_histories filters n P t s (suc m) i word
    ⊕ weighted_sum (filters (t + s)).order (P (t + s)) (pass_square filters n (t + s) (suc m) i)

-- ---- what a link adds to a strip

-- The end of a line: a line x of n places, at place i, after the passes along the axis of pass u, up to that pass, with
-- nothing past its ends.
unfoldable pub row_end : (ℕ → Filter) → (n u i : ℕ) → (ℕ → ℕ) → ℕ
row_end filters n u i x = line_passes filters n (λ v k. 0) x (axis_start u) (axis_passes u) i

-- What the strips of the other axis, which the earlier passes come from, bring to place i of line l of a block of zeros. Each
-- line of such a strip counts by its end at place i; with these ends past it, the earlier passes run over one line that
-- has a place for each of the block's lines.
unfoldable pub crossed : (ℕ → Filter) → (lines n : ℕ) → (H : ℕ → ℕ → ℕ → ℕ) → (u i l : ℕ) → ℕ
crossed filters lines n H u i l =
    line_passes filters lines (λ v k. row_end filters n u i (λ j. H v j k)) (λ y. 0) 0 (axis_start u) l

-- What stands at place i of line l after pass u over a block of zeros with H past its edges: what the strips of the other
-- axis bring, and the histories of the line itself, each moved by its square.
unfoldable pub response : (ℕ → Filter) → (lines n : ℕ) → (H : ℕ → ℕ → ℕ → ℕ) → (u l i : ℕ) → ℕ
response filters lines n H u l i =
    with_histories filters n (λ v. H v l) (axis_start u) (axis_passes u) 0 i (crossed filters lines n H u i l)
