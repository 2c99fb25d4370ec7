-- One turn of each loop of the kernel, and what fits. Assumes nothing.
use mathlib.Core.Path.{◌≡◌, refl, ap, ap₂, sym, ◌∙◌, fun_ext}
use mathlib.Core.List.{List}
use Prim.Native.Nat.{ℕ, zero, suc, ◌+◌, ◌-◌, ◌*◌, ◌^◌, ◌<◌, ◌≤◌, min}
use native.Mathlib.Nat.{add-zero, add-suc, mul-le-mul_right}
use native.Mathlib.Numerals.{add-one}
use native.Mathlib.Omega.{arith}
use lib.ListN.{set}
use Rattle.word.specs.Word.{◌⊖◌, ◌⊗◌}
use Rattle.word.proofs.Ring.{one_mul, reduced_small}
use Rattle.buffer.specs.Lists.{word_at}
use Rattle.passes.specs.Filter.{Filter, less_feedback, filter_step}
use Rattle.filter.specs.declared.in_place.Lines.{Lines}
use Rattle.filter.specs.FilterWords.{filter_by}
use Rattle.filter.specs.Kernel.{tap_place, feedback_from, PlacesFit, LinesFit, Apart, lead_place, first_taps, output_at, with_nearest, next_output_at, outputs_at, outputs_at_time, filter_in_place}

-- ---- one output

module _ (q : ℕ) (d : List ℕ) (r v forth back : ℕ) (buffer : List ℕ) (c : ℕ) where
  -- No tap yet,
  pub taps_none : v ≡ feedback_from q d (min r q) v forth back buffer c
  unfolding feedback_from less_feedback
  taps_none = let z : min r q - q ≡ 0 = omega arith in rw z

  -- one below the order,
  pub tap_taken : (k s m t : ℕ) → q ≤ k → k + 1 ≤ r → s ≡ feedback_from q d (min r k) v forth back buffer c
      → m ≡ word_at d k ⊗ word_at buffer (tap_place forth back c k) → t ≡ s ⊖ m
      → t ≡ feedback_from q d (min r (k + 1)) v forth back buffer c
  unfolding feedback_from less_feedback
  tap_taken k s m t h l p g e =
      let n : ℕ = k - q in
      let more : min r (k + 1) - q ≡ suc n = omega arith in
      let same : min r k - q ≡ n = omega arith in
      let here : q + n ≡ k = omega arith in
      let z = rw same at p in
      rw (more, here) (cc)

  -- and one past it.
  pub tap_left : (k s : ℕ) → r < k + 1 → s ≡ feedback_from q d (min r k) v forth back buffer c
      → s ≡ feedback_from q d (min r (k + 1)) v forth back buffer c
  tap_left k s l p =
      let a : min r k ≡ min r (k + 1) = omega arith in
      rw a at p

-- All taps, of a filter of gain 1.
pub taps_all : (d : List ℕ) (r forth back : ℕ) (buffer : List ℕ) (c : ℕ) → word_at buffer c < 2 ^ 64
    → feedback_from 0 d r (word_at buffer c) forth back buffer c ≡ output_at (filter_by 1 r d) forth back buffer c
unfolding feedback_from output_at filter_step
taps_all d r forth back buffer c h =
    let y : ℕ → ℕ = λ k. word_at buffer (tap_place forth back c k) in
    ap₂ (λ d y. less_feedback d (r - 0) (word_at buffer c) y)
    (fun_ext λ k. ap (word_at d) {x = 0 + k} (omega arith)) (fun_ext λ k. ap y {x = 0 + k} (omega arith))
    ∙ ap₂ (λ r v. less_feedback (word_at d) r v y) (omega arith)
    (sym (one_mul (word_at buffer c) ∙ reduced_small (word_at buffer c) h))

-- The first tap of a sum is the first to be taken.
first_tap : (d y : ℕ → ℕ) (n v : ℕ)
    → less_feedback (λ k. d (suc k)) n (v ⊖ d 0 ⊗ y 0) (λ k. y (suc k)) ≡ less_feedback d (suc n) v y
unfolding less_feedback
first_tap d y zero v = refl
first_tap d y (suc n) v = ap (◌⊖ d (suc n) ⊗ y (suc n)) (first_tap d y n v)

-- All taps but the nearest, which has been taken.
pub taps_later : (d : List ℕ) (r forth back : ℕ) (buffer : List ℕ) (c w : ℕ) → 0 < r → word_at buffer c < 2 ^ 64
    → feedback_from 1 d r (word_at buffer c ⊖ word_at d 0 ⊗ w) forth back buffer c
    ≡ next_output_at (filter_by 1 r d) forth back buffer c w
unfolding feedback_from next_output_at filter_step
taps_later d r forth back buffer c w some h =
    let v : ℕ = word_at buffer c in
    let y : ℕ → ℕ = λ k. word_at buffer (tap_place forth back c k) in
    let z : ℕ → ℕ = with_nearest w y in
    ap₂ (λ e y. less_feedback e (r - 1) (v ⊖ word_at d 0 ⊗ w) y)
    (fun_ext λ k. ap (word_at d) {x = 1 + k} {y = suc k} (omega arith))
    (fun_ext λ k. ap y {x = 1 + k} {y = suc k} (omega arith))
    ∙ first_tap (word_at d) z (r - 1) v
    ∙ ap₂ (λ r v. less_feedback (word_at d) r v z) {x = suc (r - 1)} (omega arith) (sym (one_mul v ∙ reduced_small v h))

-- ---- one place of many lines

pub line_more : (f : Filter) (forth back apart c m : ℕ) (a : List ℕ) {b : List ℕ} {v : ℕ}
    → b ≡ outputs_at f forth back apart c m a → v ≡ output_at f forth back b (c + m * apart)
    → set b (c + m * apart) v ≡ outputs_at f forth back apart c (m + 1) a
unfolding outputs_at
line_more f forth back apart c m a e g = rw add-one (cc)

-- ---- all places

pub places_fit : {n : ℕ} {L : Lines} {places : ℕ} → LinesFit n L places → (t k : ℕ) → t < places → k ≤ t
    → PlacesFit n (lead_place L t) L.forth L.back L.apart L.count k
places_fit {n} {L} h t k l e =
    let i : k * L.forth ≤ t * L.forth = mul-le-mul_right L.forth e in
    let j : k * L.back ≤ t * L.back = mul-le-mul_right L.back e in
    let q : t * L.back ≤ L.first = h.low t l in
    record {
      low = omega arith;
      high = λ x f. let y : L.first + t * L.forth + x * L.apart < n = h.high x t f l in omega arith;
    }

-- The arithmetic of a place of the first line fits a word.
pub lead_fits : {n : ℕ} {L : Lines} {places : ℕ} → LinesFit n L places → n ≤ 2 ^ 64 → (t : ℕ) → t < places
    → (L.first + t * L.forth < 2 ^ 64) × (t * L.back ≤ L.first)
lead_fits h small t l = (omega (arith, h.high 0 t h.some l), h.low t l)

pub lines_fit_fewer : {n : ℕ} {L : Lines} {places : ℕ} → LinesFit n L places → (p : ℕ) → p ≤ places → LinesFit n L p
lines_fit_fewer h p l =
    record {
      some = h.some;
      enough = omega (arith, h.enough);
      low = λ t e. h.low t (omega arith);
      high = λ x t f e. h.high x t f (omega arith);
    }

pub apart_fewer : (L : Lines) (places : ℕ) → Apart L places → (p : ℕ) → p ≤ places → Apart L p
apart_fewer L places apart p h l j t u a b c d = apart l j t u a b (omega arith) (omega arith)

-- One place more of all lines,
pub place_more : (L : Lines) (f : Filter) (q n : ℕ) (a b : List ℕ) {e : List ℕ}
    → b ≡ filter_in_place L f q n a → e ≡ outputs_at_time L (first_taps (q + n) f) (q + n) b
    → e ≡ filter_in_place L f q (n + 1) a
unfolding filter_in_place
place_more L f q n a b p e = rw add-one (cc)

-- and any number of places more.
pub places_more : (L : Lines) (f : Filter) (q n : ℕ) (a : List ℕ) {b : List ℕ} → b ≡ filter_in_place L f q n a → (m : ℕ)
    → filter_in_place L f (q + n) m b ≡ filter_in_place L f q (n + m) a
unfolding filter_in_place
places_more L f q n a p zero = rw add-zero p
places_more L f q n a p (suc m) =
    let e : q + n + m ≡ q + (n + m) = omega arith in
    rw (add-suc, e) (ap (outputs_at_time L (first_taps (q + (n + m)) f) (q + (n + m))) (places_more L f q n a p m))
