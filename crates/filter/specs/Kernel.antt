-- Inner: what the kernel computes: the folds that its loops are, and what fits a buffer.
use Rattle.std.specs.Prelude.{◌≡◌, List, ◌≢◌, ℕ, zero, suc, ◌+◌, ◌-◌, ◌*◌, ◌<◌, ◌≤◌, min, set}
use Rattle.buffer.specs.Lists.{word_at}
use Rattle.passes.specs.Filter.{Filter, less_feedback, filter_step}
use Rattle.filter.specs.declared.in_place.Lines.{Lines}

-- ---- one output

-- The place k + 1 places before place c of a line: each lies `forth` below the next, or `back` above it.
abbrev pub tap_place : ℕ → ℕ → ℕ → ℕ → ℕ
tap_place forth back c k = (c + (k + 1) * back) - (k + 1) * forth

-- A word v less the feedback of the coefficients from q on, up to order r, the outputs standing before place c.
unfoldable pub feedback_from : ℕ → List ℕ → ℕ → ℕ → ℕ → ℕ → List ℕ → ℕ → ℕ
feedback_from q coefficients r v forth back buffer c =
    less_feedback (λ k. word_at coefficients (q + k)) (r - q) v (λ k. word_at buffer (tap_place forth back c (q + k)))

-- The output at place c, from the words that stand there and before it.
unfoldable pub output_at : Filter → ℕ → ℕ → List ℕ → ℕ → ℕ
output_at f forth back buffer c = filter_step f (word_at buffer c) (λ k. word_at buffer (tap_place forth back c k))

-- Outputs y before a place, nearest first, but for the nearest, which is w.
abbrev pub with_nearest : ℕ → (ℕ → ℕ) → ℕ → ℕ
with_nearest w y zero = w
with_nearest w y (suc k) = y (suc k)

-- The output at place c where w is the output before it, which the buffer does not hold yet.
unfoldable pub next_output_at : Filter → ℕ → ℕ → List ℕ → ℕ → ℕ → ℕ
next_output_at f forth back buffer c w =
    filter_step f (word_at buffer c) (with_nearest w (λ k. word_at buffer (tap_place forth back c k)))

-- Place c and the r places before it lie in a buffer of n words.
pub record TapsFit (n c forth back r : ℕ) : Type 0 where
  pub low : r * forth ≤ c
  pub high : c + r * back < n

-- ---- one place of many lines

-- The buffer after the outputs at place c of a first line and at the same place of m lines in all, each `apart` above
-- the line before.
unfoldable pub outputs_at : Filter → ℕ → ℕ → ℕ → ℕ → ℕ → List ℕ → List ℕ
outputs_at f forth back apart c zero buffer = buffer
outputs_at f forth back apart c (suc m) buffer =
    set (outputs_at f forth back apart c m buffer) (c + m * apart)
    (output_at f forth back (outputs_at f forth back apart c m buffer) (c + m * apart))

-- These places and the r places before each lie in a buffer of n words.
pub record PlacesFit (n c forth back apart m r : ℕ) : Type 0 where
  pub low : r * forth ≤ c
  pub high : (l : ℕ) → l < m → c + l * apart + r * back < n

-- ---- two places of many lines

-- The place after place c of a line.
abbrev pub next_place : ℕ → ℕ → ℕ → ℕ
next_place forth back c = (c + forth) - back

-- The buffer after the outputs at place c of m lines, and then at the place after it.
abbrev pub outputs_at_two : Filter → ℕ → ℕ → ℕ → ℕ → ℕ → List ℕ → List ℕ
outputs_at_two f forth back apart c m buffer =
    outputs_at f forth back apart (next_place forth back c) m (outputs_at f forth back apart c m buffer)

-- Place c of a first line, the place after it, and the r places before each lie in a buffer of n words, for m lines;
-- and no line's places are another's.
pub record TwoPlacesFit (n c forth back apart m r : ℕ) : Type 0 where
  pub here : PlacesFit n c forth back apart m r
  pub next : PlacesFit n (next_place forth back c) forth back apart m r
  pub low : back ≤ c + forth
  pub lines_apart : (l j : ℕ) → l < m → j < m → c + l * apart ≡ c + j * apart → l ≡ j
  pub next_apart : (l j : ℕ) → l < m → j < m → c + l * apart ≢ next_place forth back c + j * apart
  pub taps_apart : (l j k : ℕ) → l < m → j < m → k < r
      → (tap_place forth back (c + l * apart) k ≢ c + j * apart)
      × (tap_place forth back (c + l * apart) k ≢ next_place forth back c + j * apart)

-- ---- all places of many lines

-- Place t of line 0.
abbrev pub lead_place : Lines → ℕ → ℕ
lead_place L t = (L.first + t * L.forth) - t * L.back

-- Place t of line l.
abbrev pub line_place : Lines → ℕ → ℕ → ℕ
line_place L l t = lead_place L t + l * L.apart

-- The filter with its first t coefficients alone: no more words than t stand before place t.
abbrev pub first_taps : ℕ → Filter → Filter
first_taps t f = record { gain = f.gain; order = min f.order t; coefficient = f.coefficient }

-- The buffer after the outputs at place t of all lines.
abbrev pub outputs_at_time : Lines → Filter → ℕ → List ℕ → List ℕ
outputs_at_time L f t buffer = outputs_at f L.forth L.back L.apart (lead_place L t) L.count buffer

-- The buffer after the outputs at n places of each line, from place q on; what stands at the q places before is their
-- history.
unfoldable pub filter_in_place : Lines → Filter → ℕ → ℕ → List ℕ → List ℕ
filter_in_place L f q zero buffer = buffer
filter_in_place L f q (suc n) buffer = outputs_at_time L (first_taps (q + n) f) (q + n) (filter_in_place L f q n buffer)

-- There are lines, and their first `places` places, no more than n, lie in a buffer of n words.
pub record LinesFit (n : ℕ) (L : Lines) (places : ℕ) : Type 0 where
  pub some : 0 < L.count
  pub enough : places ≤ n
  pub low : (t : ℕ) → t < places → t * L.back ≤ L.first
  pub high : (l t : ℕ) → l < L.count → t < places → L.first + t * L.forth + l * L.apart < n

-- The first `places` places of all lines are apart.
abbrev pub Apart : Lines → ℕ → Type 0
Apart L places =
    (l j t u : ℕ) → l < L.count → j < L.count → t < places → u < places
    → line_place L l t ≡ line_place L j u → (l ≡ j) × (t ≡ u)
