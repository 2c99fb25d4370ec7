-- The words of a pass's filter are that filter. Assumes nothing.
use mathlib.Core.Logic.{◌≢◌}
use mathlib.Core.Path.{◌≡◌, refl, sym, ap, ◌∙◌, fun_ext}
use mathlib.Core.List.{List, map}
use Prim.Native.Nat.{ℕ, zero, suc, ◌<◌}
use native.Mathlib.Omega.{arith}
use lib.IntN.{ℤ, pos}
use lib.ListN.{get_or, length, length-map, get_or-map}
use lib.Seq.{ext_get_or}
use Rattle.word.specs.Word.{residue}
use Rattle.word.proofs.Residues.{residue_zero}
use Rattle.plan.specs.declared.Pass.{Pass}
use Rattle.plan.specs.declared.Plan.{Plan}
use Rattle.plan.specs.Rules.{pass_at}
use Rattle.buffer.specs.Lists.{word_at, number_at}
use Rattle.passes.specs.Gains.{filter_with_gain, gains_from}
use Rattle.filter.specs.PlanFilters.{filter_of, filters_of}
use Rattle.filter.specs.FilterWords.{filter_with, filter_words, with_gain, gains_first_filters, gains_first_words}

residues_at : (l : List ℤ) (k : ℕ) → word_at (map residue l) k ≡ residue (number_at l k)
residues_at l k = ap (get_or (map residue l) k) (sym residue_zero) ∙ get_or-map residue l k (pos 0)

-- A list that holds the residues of another is the list of its residues.
pub residues_are : (n : ℕ) (l : List ℤ) (m : List ℕ) → length l ≡ n → length m ≡ n
    → ((k : ℕ) → k < n → word_at m k ≡ residue (number_at l k)) → m ≡ map residue l
residues_are n l m e f holds =
    ext_get_or 0 m (map residue l) (f ∙ sym (length-map l residue ∙ e))
    (λ k h. holds k (omega arith) ∙ sym (residues_at l k))

pub filter_words_filter : (pass : Pass) → filter_with (filter_words pass) ≡ filter_of pass
unfolding filter_words filter_of
filter_words_filter pass =
    ap (λ d. record { gain = residue pass.gain; order = pass.order; coefficient = d })
    (fun_ext (residues_at pass.coefficients))

-- A filter's words with another gain are the filter with that gain.
with_gain_filter : (gain : ℕ) (pass : Pass)
    → filter_with (with_gain gain (filter_words pass))
    ≡ filter_with_gain gain (filter_of pass)
unfolding filter_words filter_of
with_gain_filter gain pass =
    ap (λ d. record { gain = gain; order = pass.order; coefficient = d }) (fun_ext (residues_at pass.coefficients))

-- The first pass has all gains,
pub gains_first_words_first : (plan : Plan) (pass : ℕ) → pass ≡ 0
    → with_gain (gains_from (filters_of plan) 0 4) (filter_words (pass_at plan 0)) ≡ gains_first_words plan pass
unfolding gains_first_words
gains_first_words_first plan zero e = refl
gains_first_words_first plan (suc pass) e = absurd (omega arith)

-- and each other gain 1.
pub gains_first_words_other : (plan : Plan) (pass : ℕ) → pass ≢ 0
    → with_gain 1 (filter_words (pass_at plan pass)) ≡ gains_first_words plan pass
unfolding gains_first_words
gains_first_words_other plan zero e = absurd (e refl)
gains_first_words_other plan (suc pass) e = refl

pub gains_first_words_filter : (plan : Plan) (pass : ℕ)
    → filter_with (gains_first_words plan pass) ≡ gains_first_filters plan pass
unfolding gains_first_words
gains_first_words_filter plan zero = with_gain_filter _ _
gains_first_words_filter plan (suc pass) = with_gain_filter _ _

pub gains_first_words_order : (plan : Plan) (pass : ℕ) → (gains_first_words plan pass).order ≡ (pass_at plan pass).order
unfolding gains_first_words filter_words
gains_first_words_order plan pass = refl
