-- The fold that the kernel is, is the filter: at each place the word of the definition, elsewhere the word that was
-- there. Assumes nothing.
use mathlib.Core.Path.{◌≡◌, refl, sym, ap, ◌∙◌}
use mathlib.Core.List.{List}
use mathlib.Core.Logic.{◌≢◌, ⊎_elim}
use Prim.Native.Nat.{ℕ, zero, suc, ◌+◌, ◌-◌, ◌*◌, ◌<◌, ◌≤◌, min}
use native.Mathlib.Nat.{add-mul, add-zero, add-suc, eq-or-lt_of_le}
use native.Mathlib.Decide.{dec_lt}
use native.Mathlib.Omega.{arith}
use lib.ListN.{set, length}
use Rattle.word.proofs.Ring.{mul_zero, sub_zero, reduced_small}
use Rattle.buffer.specs.Lists.{word_at}
use Rattle.passes.specs.Line.{history, output, words_before}
use Rattle.passes.specs.Filter.{Filter, less_feedback, filter_step}
use Rattle.passes.proofs.Line.{words_before_history, words_before_inside, words_before_past}
use Rattle.passes.proofs.Linear.{filter_step_reads, filter_step_small}
use Rattle.filter.specs.declared.in_place.Lines.{Lines}
use Rattle.buffer.specs.Written.{written}
use Rattle.filter.specs.Kernel.{tap_place, output_at, outputs_at, outputs_at_time, lead_place, line_place, first_taps, filter_in_place, LinesFit, Apart}
use Rattle.buffer.proofs.Written.{written_length, written_other, written_at}

-- ---- taps that read 0 may as well be left out

abbrev with_order : ℕ → Filter → Filter
with_order r f = record { gain = f.gain; order = r; coefficient = f.coefficient }

feedback_more : (f : Filter) (t v : ℕ) (y : ℕ → ℕ) → ((k : ℕ) → t ≤ k → y k ≡ 0) → (j : ℕ)
    → filter_step (with_order (t + j) f) v y ≡ filter_step (with_order t f) v y
unfolding filter_step less_feedback
feedback_more f t v y e zero = rw add-zero
feedback_more f t v y e (suc j) =
    rw (add-suc, e (t + j) (omega arith), mul_zero, sub_zero)
    (reduced_small _ (filter_step_small (with_order (t + j) f) v y) ∙ feedback_more f t v y e j)

-- Where 0 stands past the first t words, the first t taps are enough.
pub first_taps_step : (f : Filter) (t v : ℕ) (y : ℕ → ℕ) → ((k : ℕ) → t ≤ k → y k ≡ 0)
    → filter_step (first_taps t f) v y ≡ filter_step f v y
first_taps_step f t v y e =
    let r : ℕ = f.order in
    let g : ℕ → ℕ = λ k. filter_step (with_order k f) v y in
    elim (dec_lt r t) [
      | yes l ↦ ap g {y = r} (omega arith)
      | no l ↦ ap g {y = t} (omega arith) ∙ sym (feedback_more f t v y e (r - t)) ∙ ap g (omega arith)
    ]

-- ---- what stands before a place

words_before_split : (p y : ℕ → ℕ) (o n k : ℕ)
    → words_before p y (o + n) k ≡ words_before (words_before p y o) (λ i. y (o + i)) n k
unfolding words_before
words_before_split p y o zero k = rw add-zero
words_before_split p y o (suc n) zero = rw add-suc
words_before_split p y o (suc n) (suc k) = rw add-suc (words_before_split p y o n k)

words_before_reads : (p q y z : ℕ → ℕ) (o : ℕ) → ((k : ℕ) → p k ≡ q k) → ((i : ℕ) → i < o → y i ≡ z i) → (k : ℕ)
    → words_before p y o k ≡ words_before q z o k
unfolding words_before
words_before_reads p q y z zero e f k = e k
words_before_reads p q y z (suc o) e f zero = f o (omega arith)
words_before_reads p q y z (suc o) e f (suc k) = words_before_reads p q y z o e (λ i b. f i (omega arith)) k

-- ---- one place of many lines

pub output_at_reads : (f : Filter) (forth back : ℕ) (a b : List ℕ) (c : ℕ) → word_at a c ≡ word_at b c
    → ((k : ℕ) → k < f.order → word_at a (tap_place forth back c k) ≡ word_at b (tap_place forth back c k))
    → output_at f forth back a c ≡ output_at f forth back b c
unfolding output_at
output_at_reads f forth back a b c e g =
    ap (λ v. filter_step f v (λ k. word_at a (tap_place forth back c k))) e ∙ filter_step_reads f (word_at b c) _ _ g

module _ (f : Filter) (forth back apart c m : ℕ) (b : List ℕ)
    (lines : (l j : ℕ) → j < l → l < m → c + l * apart ≢ c + j * apart)
    (taps : (l j k : ℕ) → j < l → l < m → k < f.order → tap_place forth back (c + l * apart) k ≢ c + j * apart) where
  outputs_at_written : (j : ℕ) → j ≤ m
      → outputs_at f forth back apart c j b
      ≡ written (λ l. c + l * apart) (λ l. output_at f forth back b (c + l * apart)) j b
  unfolding outputs_at written
  outputs_at_written zero h = refl
  outputs_at_written (suc j) h =
      let w : List ℕ = written (λ l. c + l * apart) (λ l. output_at f forth back b (c + l * apart)) j b in
      ap (λ z. set z (c + j * apart) (output_at f forth back z (c + j * apart))) (outputs_at_written j (omega arith))
      ∙ ap (set w (c + j * apart))
      (output_at_reads f forth back w b (c + j * apart)
      (written_other _ _ j b (c + j * apart) (λ i l. lines j i l (omega arith)))
      (λ k e. written_other _ _ j b (tap_place forth back (c + j * apart) k) (λ i l. taps j i k l (omega arith) e)))

-- ---- all places

pub tap_is : (L : Lines) (t k x : ℕ) → t * L.back ≤ L.first → k < t
    → tap_place L.forth L.back (lead_place L t + x) k ≡ lead_place L (t - suc k) + x
tap_is L t k x h l =
    let u : ℕ = t - suc k in
    let e : t ≡ u + (k + 1) = omega arith in
    let i : t * L.back ≡ u * L.back + (k + 1) * L.back = ap (◌* L.back) e ∙ add-mul u (k + 1) L.back in
    let j : t * L.forth ≡ u * L.forth + (k + 1) * L.forth = ap (◌* L.forth) e ∙ add-mul u (k + 1) L.forth in
    omega arith

-- Buffer b has the filter's words at n places of each line, from place q on, and the words of buffer a everywhere else.
pub record Filtered (L : Lines) (f : Filter) (q : ℕ) (a : List ℕ) (n : ℕ) (b : List ℕ) : Type 0 where
  pub length_kept : length b ≡ length a
  pub at : (l i : ℕ) → l < L.count → i < n
      → word_at b (line_place L l (q + i))
      ≡ output (filter_step f) (words_before (λ k. 0) (λ t. word_at a (line_place L l t)) q)
      (λ i. word_at a (line_place L l (q + i))) i
  pub elsewhere : (z : ℕ) → ((l i : ℕ) → l < L.count → i < n → z ≢ line_place L l (q + i)) → word_at b z ≡ word_at a z

module _ (L : Lines) (f : Filter) (q places : ℕ) (a : List ℕ) (fits : LinesFit (length a) L places)
    (apart : Apart L places) where
  -- The output that the code computes at the next place is the filter's.
  next_output : (n : ℕ) (b : List ℕ) → q + n < places → Filtered L f q a n b → (l : ℕ) → l < L.count
      → output_at (first_taps (q + n) f) L.forth L.back b (line_place L l (q + n))
      ≡ output (filter_step f) (words_before (λ k. 0) (λ t. word_at a (line_place L l t)) q)
      (λ i. word_at a (line_place L l (q + i))) n
  unfolding output_at output
  next_output n b h u l e =
      let t : ℕ = q + n in
      let place : ℕ → ℕ = line_place L l in
      let y : ℕ → ℕ = λ t. word_at b (place t) in
      let x : ℕ → ℕ = λ i. word_at a (place (q + i)) in
      let old : ℕ → ℕ = words_before (λ k. 0) (λ t. word_at a (place t)) q in
      let taps : ℕ → ℕ = λ i. word_at b (tap_place L.forth L.back (place t) i) in
      let none : ℕ → ℕ = λ k. 0 in
      let new : ℕ → ℕ = λ i. y (q + i) in
      let here : y t ≡ word_at a (place t) =
      u.elsewhere (place t) (λ j i g c z. absurd (omega (arith, (apart l j t (q + i) e g h (omega arith) z).1))) in
      let before : (i : ℕ) → i < q → y i ≡ word_at a (place i) =
      λ i c.
      u.elsewhere (place i)
      (λ j o g v z. absurd (omega (arith, (apart l j i (q + o) e g (omega arith) (omega arith) z).1))) in
      let past : (i : ℕ) → words_before none y t i ≡ history (filter_step f) old x n i =
      λ i.
      words_before_split none y q n i
      ∙ words_before_reads _ old new new n (words_before_reads none none y _ q (λ k. refl) before) (λ i c. refl) i
      ∙ words_before_history (filter_step f) old x new n (λ i c. u.at l i e c) i in
      ap (λ v. filter_step (first_taps t f) v taps) here
      ∙ filter_step_reads (first_taps t f) (word_at a (place t)) taps (words_before none y t)
      (λ i c.
      let z : i < t = omega arith in
      ap (word_at b) (tap_is L t i (l * L.apart) (fits.low t h) z) ∙ sym (words_before_inside none y t i z))
      ∙ first_taps_step f t (word_at a (place t)) (words_before none y t) (words_before_past none y t)
      ∙ filter_step_reads f (word_at a (place t)) (words_before none y t) (history (filter_step f) old x n) (λ i c. past i)

  pub filtered : (n : ℕ) → q + n ≤ places → Filtered L f q a n (filter_in_place L f q n a)
  unfolding filter_in_place
  filtered zero h = record { length_kept = refl; at = λ l i e c. absurd (omega arith); elsewhere = λ z e. refl }
  filtered (suc n) h =
      let t : ℕ = q + n in
      let lt : t < places = omega arith in
      let b : List ℕ = filter_in_place L f q n a in
      let u : Filtered L f q a n b = filtered n (omega arith) in
      let k : ℕ = min f.order t in
      let p : ℕ → ℕ = λ l. line_place L l t in
      let v : ℕ → ℕ = λ l. output_at (first_taps t f) L.forth L.back b (p l) in
      let lines : (l j : ℕ) → j < l → l < L.count → p l ≢ p j =
      λ l j c e z. absurd (omega (arith, (apart l j t t e (omega arith) lt lt z).0)) in
      let taps : (l j i : ℕ) → j < l → l < L.count → i < k → tap_place L.forth L.back (p l) i ≢ p j =
      λ l j i c e g z.
      let o : i < t = omega arith in
      let y : line_place L l (t - suc i) ≡ p j = sym (tap_is L t i (l * L.apart) (fits.low t lt) o) ∙ z in
      absurd (omega (arith, (apart l j (t - suc i) t e (omega arith) (omega arith) lt y).0)) in
      let w : outputs_at_time L (first_taps t f) t b ≡ written p v L.count b =
      outputs_at_written (first_taps t f) L.forth L.back L.apart (lead_place L t) L.count b lines taps
      L.count (omega arith) in
      let inside : (l : ℕ) → l < L.count → p l < length b =
      λ l e. rw u.length_kept (omega (arith, fits.high l t e lt)) in
      rw w record {
        length_kept = written_length p v L.count b ∙ u.length_kept;
        at = λ l i e c.
            ⊎_elim
            (λ (z : suc i ≡ suc n).
            let j : i ≡ n = omega arith in
            rw j (written_at p v L.count b lines inside l e ∙ next_output n b lt u l e))
            (λ (z : suc i < suc n).
            written_other p v L.count b (line_place L l (q + i))
            (λ j g y. absurd (omega (arith, (apart l j (q + i) t e g (omega arith) lt y).1)))
            ∙ u.at l i e (omega arith))
            (eq-or-lt_of_le c);
        elsewhere = λ z e.
            written_other p v L.count b z (λ j g. e j n g (omega arith))
            ∙ u.elsewhere z (λ l i g c. e l i g (omega arith));
      }
