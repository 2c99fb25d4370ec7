-- Two places of each line at once are the one place of all lines and then the other, since no line's places are
-- another's. Assumes nothing.
use mathlib.Core.Path.{◌≡◌, refl, sym, ap, ap₂, ◌∙◌}
use mathlib.Core.List.{List}
use mathlib.Core.Logic.{◌≢◌}
use Prim.Native.Nat.{ℕ, zero, suc, ◌+◌, ◌-◌, ◌*◌, ◌<◌, ◌≤◌}
use native.Mathlib.Nat.{mul-le-mul_right}
use native.Mathlib.Numerals.{add-one}
use native.Mathlib.Omega.{arith}
use lib.ListN.{set, length}
use lib.Seq.{get_or-set_same, get_or-set_other, set_comm}
use Rattle.buffer.specs.Lists.{word_at}
use Rattle.passes.specs.Filter.{Filter, filter_step}
use Rattle.passes.proofs.Linear.{filter_step_reads}
use Rattle.filter.specs.declared.in_place.Lines.{Lines}
use Rattle.filter.specs.Kernel.{tap_place, output_at, with_nearest, next_output_at, outputs_at, next_place, outputs_at_two, TwoPlacesFit, lead_place, line_place, first_taps, outputs_at_time, filter_in_place, LinesFit, Apart}
use Rattle.filter.proofs.Turns.{places_fit}
use Rattle.filter.proofs.InPlace.{output_at_reads, tap_is}

-- ---- the outputs at one place, and another place

module _ (f : Filter) (forth back apart c : ℕ) where
  -- They leave it as it is,
  outputs_other : (m : ℕ) (b : List ℕ) (z : ℕ) → ((l : ℕ) → l < m → z ≢ c + l * apart)
      → word_at (outputs_at f forth back apart c m b) z ≡ word_at b z
  unfolding outputs_at
  outputs_other zero b z e = refl
  outputs_other (suc m) b z e =
      get_or-set_other (outputs_at f forth back apart c m b) (c + m * apart) z _ 0 (e m (omega arith))
      ∙ outputs_other m b z (λ l h. e l (omega arith))

  -- and where none of them reads it, a word may as well be stored there after them.
  outputs_set : (m : ℕ) (b : List ℕ) (z u : ℕ) → ((l : ℕ) → l < m → z ≢ c + l * apart)
      → ((l k : ℕ) → l < m → k < f.order → tap_place forth back (c + l * apart) k ≢ z)
      → outputs_at f forth back apart c m (set b z u) ≡ set (outputs_at f forth back apart c m b) z u
  unfolding outputs_at
  outputs_set zero b z u e g = refl
  outputs_set (suc m) b z u e g =
      let x : List ℕ = outputs_at f forth back apart c m b in
      let p : ℕ = c + m * apart in
      ap (λ y. set y p (output_at f forth back y p))
      (outputs_set m b z u (λ l h. e l (omega arith)) (λ l k h. g l k (omega arith)))
      ∙ ap (set (set x z u) p)
      (output_at_reads f forth back (set x z u) x p
      (get_or-set_other x z p u 0 (λ q. e m (omega arith) (sym q)))
      (λ k h. get_or-set_other x z (tap_place forth back p k) u 0 (g m k (omega arith) h)))
      ∙ set_comm x z p u (output_at f forth back x p) (e m (omega arith))

-- ---- one turn of the loop

-- Place p, the place after it, and the r places before each lie in a buffer of n words.
pub record TurnFits (n p forth back r : ℕ) : Type 0 where
  pub low : r * forth ≤ p
  pub high : p + r * back < n
  pub step : back ≤ p + forth
  pub over : p + forth < n
  pub next_low : r * forth ≤ next_place forth back p
  pub next_high : next_place forth back p + r * back < n

pub turn_fits : {n c forth back r : ℕ} (apart m : ℕ) → 0 < r → TwoPlacesFit n c forth back apart m r → (l : ℕ) → l < m
    → TurnFits n (c + l * apart) forth back r
turn_fits {n} {c} {forth} {back} {r} apart m some fits l h =
    let e : next_place forth back (c + l * apart) ≡ next_place forth back c + l * apart = omega (arith, fits.low) in
    let last : next_place forth back c + l * apart + r * back < n = fits.next.high l h in
    let one : 1 * back ≤ r * back = mul-le-mul_right back some in
    record {
      low = omega (arith, fits.here.low);
      high = fits.here.high l h;
      step = omega (arith, fits.low);
      over = omega (arith, fits.low);
      next_low = omega (arith, fits.next.low);
      next_high = rw e last;
    }

-- What stands before the next place is this place,
next_nearest : (forth back c x : ℕ) → back ≤ c + forth → tap_place forth back (next_place forth back c + x) 0 ≡ c + x
next_nearest forth back c x h = omega arith

-- and before that, what stands before this place.
next_tap : (forth back c x k : ℕ) → back ≤ c + forth
    → tap_place forth back (next_place forth back c + x) (suc k) ≡ tap_place forth back (c + x) k
next_tap forth back c x k h =
    let i : (suc k + 1) * back ≡ (k + 1) * back + back = omega arith in
    let j : (suc k + 1) * forth ≡ (k + 1) * forth + forth = omega arith in
    omega arith

module _ {n : ℕ} (f : Filter) (forth back apart c m : ℕ) (fits : TwoPlacesFit n c forth back apart m f.order)
    (j : ℕ) (h : j < m) where
  -- The places before the next place of another line are not this line's place.
  next_taps : (l k : ℕ) → l < j → k < f.order
      → tap_place forth back (next_place forth back c + l * apart) k ≢ c + j * apart
  next_taps l zero b g e =
      absurd (omega (arith, fits.lines_apart l j (omega arith) h (sym (next_nearest forth back c (l * apart) fits.low) ∙ e)))
  next_taps l (suc k) b g e =
      (fits.taps_apart l j k (omega arith) h (omega arith)).0 (sym (next_tap forth back c (l * apart) k fits.low) ∙ e)

  -- The next output, with this place's output at hand or stored.
  next_stored : (b : List ℕ) (u : ℕ) → c + j * apart < length b
      → next_output_at f forth back b (next_place forth back c + j * apart) u
      ≡ output_at f forth back (set b (c + j * apart) u) (next_place forth back c + j * apart)
  unfolding next_output_at output_at
  next_stored b u inside =
      let p : ℕ = c + j * apart in
      let q : ℕ = next_place forth back c + j * apart in
      let before : ℕ → ℕ = λ k. word_at b (tap_place forth back q k) in
      ap (λ v. filter_step f v (with_nearest u before))
      (sym (get_or-set_other b p q u 0 (λ e. fits.next_apart j j h h (sym e))))
      ∙ filter_step_reads f (word_at (set b p u) q) (with_nearest u before) _ stored
    where
      stored : (k : ℕ) → k < f.order
          → with_nearest u (λ k. word_at b (tap_place forth back (next_place forth back c + j * apart) k)) k
          ≡ word_at (set b (c + j * apart) u) (tap_place forth back (next_place forth back c + j * apart) k)
      stored zero g =
          sym
          (ap (word_at (set b (c + j * apart) u)) (next_nearest forth back c (j * apart) fits.low)
          ∙ get_or-set_same b (c + j * apart) u 0 inside)
      stored (suc k) g =
          sym
          (get_or-set_other b (c + j * apart) (tap_place forth back (next_place forth back c + j * apart) (suc k)) u 0
          (λ e.
          (fits.taps_apart j j k h h (omega arith)).0
          (sym (next_tap forth back c (j * apart) k fits.low) ∙ e)))

  line_two : (a : List ℕ) → let b = outputs_at_two f forth back apart c j a in
      let p = c + j * apart in
      let q = next_place forth back c + j * apart in
      p < length b
      → set (set b p (output_at f forth back b p)) q (next_output_at f forth back b q (output_at f forth back b p))
      ≡ outputs_at_two f forth back apart c (suc j) a
  unfolding outputs_at
  line_two a inside =
      let s : ℕ = next_place forth back c in
      let p : ℕ = c + j * apart in
      let q : ℕ = s + j * apart in
      let one : List ℕ = outputs_at f forth back apart c j a in
      let b : List ℕ = outputs_at f forth back apart s j one in
      let u : ℕ = output_at f forth back one p in
      let same : output_at f forth back b p ≡ u =
      output_at_reads f forth back b one p
      (outputs_other f forth back apart s j one p (λ l g. fits.next_apart j l h (omega arith)))
      (λ k e.
      outputs_other f forth back apart s j one (tap_place forth back p k)
      (λ l g. (fits.taps_apart j l k h (omega arith) e).1)) in
      let moved : outputs_at f forth back apart s j (set one p u) ≡ set b p u =
      outputs_set f forth back apart s j one p u (λ l g. fits.next_apart j l h (omega arith)) (λ l k g. next_taps l k g) in
      ap (λ v. set (set b p v) q (next_output_at f forth back b q v)) same
      ∙ ap (set (set b p u) q) (next_stored b u inside)
      ∙ ap (λ z. set z q (output_at f forth back z q)) (sym moved)

  pub line_two_more : (a : List ℕ) {b : List ℕ} {v w : ℕ} → b ≡ outputs_at_two f forth back apart c j a
      → c + j * apart < length b → v ≡ output_at f forth back b (c + j * apart)
      → w ≡ next_output_at f forth back b (next_place forth back (c + j * apart)) v
      → set (set b (c + j * apart) v) (next_place forth back (c + j * apart)) w
      ≡ outputs_at_two f forth back apart c (j + 1) a
  line_two_more a e inside g k =
      let place : next_place forth back (c + j * apart) ≡ next_place forth back c + j * apart = omega (arith, fits.low) in
      let i = rw e at inside in
      rw add-one (cc (line_two a i))

-- ---- they fit, and are apart

next_lead : (L : Lines) (t : ℕ) → (t + 1) * L.back ≤ L.first
    → next_place L.forth L.back (lead_place L t) ≡ lead_place L (t + 1)
next_lead L t h = omega arith

pub two_places_fit : {n : ℕ} (L : Lines) {places : ℕ} → LinesFit n L places → Apart L places → (t k : ℕ)
    → t + 1 < places → k ≤ t → TwoPlacesFit n (lead_place L t) L.forth L.back L.apart L.count k
two_places_fit L fits apart t k h e =
    let room : (t + 1) * L.back ≤ L.first = fits.low (t + 1) h in
    let next : next_place L.forth L.back (lead_place L t) ≡ lead_place L (t + 1) = next_lead L t room in
    let tap : (l i : ℕ) → i < k
    → tap_place L.forth L.back (line_place L l t) i ≡ line_place L l (t - suc i) =
    λ l i g. tap_is L t i (l * L.apart) (omega arith) (omega arith) in
    record {
      here = places_fit fits t k (omega arith) e;
      next = rw next (places_fit fits (t + 1) k h (omega arith));
      low = omega arith;
      lines_apart = λ l j a b z. (apart l j t t a b (omega arith) (omega arith) z).0;
      next_apart = λ l j a b z.
          absurd (omega (arith, (apart l j t (t + 1) a b (omega arith) h (z ∙ ap (◌+ j * L.apart) next)).1));
      taps_apart = λ l j i a b g. (
        λ z. absurd (omega (arith, (apart l j (t - suc i) t a b (omega arith) (omega arith) (sym (tap l i g) ∙ z)).1)),
        λ z.
            absurd
            (omega (
              arith,
              (apart l j (t - suc i) (t + 1) a b (omega arith) h (sym (tap l i g) ∙ z ∙ ap (◌+ j * L.apart) next)).1,
            )),
      );
    }

-- ---- they are two places of the fold, where the first has all its taps

pub two_places : {n : ℕ} (L : Lines) {places : ℕ} → LinesFit n L places → (f : Filter) (t : ℕ) (b : List ℕ)
    → t + 1 < places → f.order ≤ t
    → outputs_at_two f L.forth L.back L.apart (lead_place L t) L.count b ≡ filter_in_place L f t 2 b
unfolding filter_in_place
two_places L fits f t b h l =
    let all : (u : ℕ) → f.order ≤ u → f ≡ first_taps u f =
    λ u e. ap (λ r. record { gain = f.gain; order = r; coefficient = f.coefficient }) (omega arith) in
    ap (λ c. outputs_at f L.forth L.back L.apart c L.count (outputs_at_time L f t b))
    (next_lead L t (fits.low (t + 1) h))
    ∙ ap₂ (λ g k. outputs_at_time L g (t + 1) (outputs_at_time L k t b)) (all (t + 1) (omega arith)) (all t l)
    ∙ ap (λ u. outputs_at_time L (first_taps (t + 1) f) (t + 1) (outputs_at_time L (first_taps u f) u b)) (omega arith)
