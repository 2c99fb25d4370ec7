-- A cut input asks for what the whole input does: the tests look at the first bytes, at the bytes over, and at whether there are
-- more words than any input that asks for a job has. Assumes nothing.
use mathlib.Core.Path.{◌≡◌, refl, sym, ap, ◌∙◌}
use mathlib.Core.Bool.{Bool, true, false, not}
use mathlib.Core.List.{List, [], ◌∷◌}
use Prim.Native.Nat.{ℕ, zero, suc, ◌+◌, ◌*◌, ◌/◌, ◌%◌, ◌≤◌, ◌<◌, min}
use native.Mathlib.Omega.{arith}
use lib.IntN.{ℤ}
use lib.Dec.{ltb, eqb}
use lib.ListN.{length, get_or, take}
use lib.Seq.{get_or-take, take_all}
use borrow.Author.Tests.{ltb-true, ltb-false, eq-eqb, ne_eqb, eqb-true}
use Rattle.refusal.specs.Refusals.{Answer, accepted, refused}
use Rattle.refusal.specs.Table.{◌at◌when◌, first_due, first_of}
use Rattle.refusal.proofs.Table.{first_append}
use Rattle.plan.specs.declared.Plan.{Plan}
use Rattle.plan.specs.Sizes.{needed_pixels, word_limit}
use Rattle.buffer.proofs.Listed.{listed_same}
use Rattle.plan_reader.specs.ReadPlan.{plan_rows}
use Rattle.smooth_job.specs.Promises.{CutAsksTheSame}
use Rattle.smooth_job.specs.Program.{pixel_limit, word_in, after_end, plan_length, plan_words, plan_in, count_rows, input_rows, Asked, refused_input, asked_by, asked, input_limit}
use Rattle.smooth_job.proofs.Input.{length_limited, cut_whole, cut_long}

end_same : (f g : ℕ → ℕ) (i n : ℕ) → ((j : ℕ) → i ≤ j → j < i + n → f j ≡ g j) → after_end f i n ≡ after_end g i n
unfolding after_end
end_same f g i zero same = refl
end_same f g i (suc n) same =
    rw (same i (omega arith) (omega arith), end_same f g (suc i) n (λ j a b. same j (omega arith) (omega arith)))

-- What is asked for with more words than any input that asks for a job has.
abbrev no_job : Answer → Asked
no_job accepted = refused_input 13 0
no_job (refused number place) = refused_input number place

no_job_law : (answer : Answer) (plan : Plan) (heights : List ℤ) → asked_by (first_of answer (refused 13 0)) plan heights ≡ no_job answer
no_job_law accepted plan heights = refl
no_job_law (refused number place) plan heights = refl

module _ (input : List ℕ) (long : input_limit < length input) (whole : length input % 4 ≡ 0) where
  long_counts : (plan : Plan) → first_due (count_rows input plan) ≡ refused 13 0
  unfolding count_rows
  long_counts plan = by (ltb pixel_limit (needed_pixels plan)) refl
    where
      by : (many : Bool) → ltb pixel_limit (needed_pixels plan) ≡ many
          → first_due
          (13 at 0 when many
          ∷ 13 at 0 when not (eqb (length input / 4) (plan_length input + needed_pixels plan))
          ∷ [])
          ≡ refused 13 0
      by true e = refl
      by false e =
          let few = ltb-false pixel_limit (needed_pixels plan) e in
          rw (ne_eqb (length input / 4) (plan_length input + needed_pixels plan) (λ same. omega (arith, length_limited input)))

  long_asked : asked input ≡ no_job (first_due (plan_rows (plan_words input)))
  unfolding asked input_rows
  long_asked =
      rw (
        eq-eqb (length input % 4) 0 whole,
        first_append (plan_rows (plan_words input)) (count_rows input (plan_in input)),
        long_counts (plan_in input),
      )
      (no_job_law (first_due (plan_rows (plan_words input))) _ _)

-- Two inputs that are longer than any that asks for a job, with the same first bytes and as many bytes over.
module _ (a b : List ℕ) (a_long : input_limit < length a) (b_long : input_limit < length b)
    (same : take input_limit a ≡ take input_limit b) (over : length a % 4 ≡ length b % 4) where
  same_byte : (j : ℕ) → j < input_limit → get_or a j 0 ≡ get_or b j 0
  same_byte j h =
      sym (get_or-take input_limit a j 0 h) ∙ ap (λ (l : List ℕ). get_or l j 0) same ∙ get_or-take input_limit b j 0 h

  same_word : (i : ℕ) → i < word_limit + pixel_limit → word_in a i ≡ word_in b i
  unfolding word_in
  same_word i h =
      rw (
        same_byte (4 * i) (omega arith),
        same_byte (4 * i + 1) (omega arith),
        same_byte (4 * i + 2) (omega arith),
        same_byte (4 * i + 3) (omega arith),
      )

  same_length : plan_length a ≡ plan_length b
  unfolding plan_length
  same_length =
      let p : min (length a / 4) word_limit ≡ word_limit = omega arith in
      let q : min (length b / 4) word_limit ≡ word_limit = omega arith in
      rw (p, q) (end_same (word_in a) (word_in b) 0 word_limit (λ j _ h. same_word j (omega arith)))

  same_words : plan_words a ≡ plan_words b
  unfolding plan_words
  same_words =
      rw same_length
      (listed_same (word_in a) (word_in b) (plan_length b) 0 (λ i h. same_word i (omega (arith, length_limited b))))

  not_whole : (input : List ℕ) → eqb (length input % 4) 0 ≡ false → asked input ≡ refused_input 13 0
  unfolding asked input_rows
  not_whole input e = rw e

  same_asked : asked a ≡ asked b
  same_asked = by (eqb (length b % 4) 0) refl
    where
      by : (whole : Bool) → eqb (length b % 4) 0 ≡ whole → asked a ≡ asked b
      by false e = not_whole a (rw over e) ∙ sym (not_whole b e)
      by true e =
          let z = eqb-true (length b % 4) 0 e in
          long_asked a a_long (over ∙ z) ∙ ap (λ w. no_job (first_due (plan_rows w))) same_words ∙ sym (long_asked b b_long z)

pub cut_same : CutAsksTheSame
cut_same whole cut long same = by (ltb input_limit (length whole)) refl
  where
    by : (test : Bool) → ltb input_limit (length whole) ≡ test → asked cut ≡ asked whole
    by true t =
        let high = ltb-true _ _ t in
        let e = long ∙ sym (cut_long (length whole) high) in
        same_asked cut whole (omega arith) high same (omega arith)
    by false t =
        let low = ltb-false _ _ t in
        let e = long ∙ sym (cut_whole (length whole) low) in
        ap asked (sym (take_all input_limit cut (omega arith)) ∙ same ∙ take_all input_limit whole low)
