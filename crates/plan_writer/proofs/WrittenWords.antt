-- Laws of a plan's words: how many there are, and that parts written one after the other are the whole. Assumes nothing.
use mathlib.Core.Path.{◌≡◌, refl, sym, ap, ◌∙◌}
use mathlib.Core.Bool.{true}
use mathlib.Core.List.{List, [], ◌∷◌, ◌++◌}
use Prim.Native.Nat.{ℕ, zero, suc, ◌+◌, ◌*◌, ◌<◌, ◌≤◌}
use native.Mathlib.Omega.{arith}
use native.Mathlib.Numerals.{add-one}
use native.Mathlib.Nat.{add-zero}
use lib.Dec.{leb}
use lib.ListN.{length, set, drop, length-append}
use lib.Seq.{sets, sets-eq, length-sets}
use mir.ValLaws.{to_z-of_z}
use Rattle.std.proofs.lemmas.List.{get_or-take}
use borrow.Author.Tests.{lt-ltb}
use Rattle.grid.specs.Grid.{grid_kept}
use Rattle.plan.specs.declared.Pass.{Pass}
use Rattle.plan.specs.declared.Plan.{Plan}
use Rattle.plan.specs.Rules.{order_limit, in_signed28, coefficient_at, coefficient_kept, coefficients_kept, pass_kept, pass_at, passes_kept, keeps_rules}
use Rattle.number.specs.Numbers.{total}
use Rattle.plan.specs.Sizes.{order_of, order_sum, word_count}
use Rattle.plan.proofs.Record.{rules}
use Rattle.number.proofs.Sums.{total_none, total_grows}
use Rattle.number.proofs.Tests.{and_right, all_at}
use Rattle.buffer.specs.Lists.{list_of, joined}
use Rattle.buffer.proofs.Listed.{listed_length}
use Rattle.plan_writer.specs.Room.{PassFits}
use Rattle.plan_writer.specs.WritePlan.{payload28, coefficient_words, pass_words, passes_words, size_word, words_of}
use Rattle.number.specs.KindWords.{word_of}

sets_append : (a b l : List ℕ) (i : ℕ) → sets l i (a ++ b) ≡ sets (sets l i a) (i + length a) b
sets_append [] b l i = rw (add-zero i)
sets_append (w ∷ a) b l i =
    let e : suc i + length a ≡ i + suc (length a) = omega arith in
    sets_append a b (set l i w) (suc i) ∙ ap (λ (n : ℕ). sets (sets (set l i w) (suc i) a) n b) e

-- Two parts, the second at the place after the first.
sets_parts : (a b l : List ℕ) (i n : ℕ) → length a ≡ n → sets (sets l i a) (i + n) b ≡ sets l i (a ++ b)
sets_parts a b l i n e = rw (← e) (sym (sets_append a b l i))

-- ---- coefficients

pub coefficients_kept_law : (side : ℕ) (pass : Pass) → pass_kept side pass ≡ true → coefficients_kept pass ≡ true
unfolding pass_kept
coefficients_kept_law side pass e =
    and_right (in_signed28 pass.gain) _ (and_right (leb pass.order side) _ (and_right (leb pass.order order_limit) _ e))

pub coefficient_signed : (pass : Pass) (j : ℕ) → pass.order ≤ order_limit → coefficients_kept pass ≡ true → j < pass.order
    → in_signed28 (coefficient_at pass j) ≡ true
unfolding coefficients_kept
coefficient_signed pass j limited kept h =
    let t : coefficient_kept pass.order j (coefficient_at pass j) ≡ true = all_at _ order_limit j kept (omega arith) in
    rw (lt-ltb j pass.order h) at t

pub length_coefficients : (pass : Pass) (count : ℕ) → length (coefficient_words pass count) ≡ count
unfolding coefficient_words
length_coefficients pass count = listed_length _ count

module _ (pass : Pass) (words : List ℕ) (place : ℕ) where
  pub no_coefficients : words ≡ sets words place (coefficient_words pass 0)
  unfolding coefficient_words list_of
  no_coefficients = refl

  pub more_coefficients : (count : ℕ)
      → set (sets words place (coefficient_words pass count)) (place + count) (word_of 5 (payload28 (coefficient_at pass count)))
      ≡ sets words place (coefficient_words pass (count + 1))
  unfolding coefficient_words list_of
  more_coefficients count =
      rw (add-one count) (sets_parts (coefficient_words pass count) _ words place count (length_coefficients pass count))

pub ruleset coefficients_written = (no_coefficients, more_coefficients, coefficient_signed, to_z-of_z, length-sets, get_or-take)

-- ---- one pass

pub length_pass : (i : ℕ) (pass : Pass) → length (pass_words i pass) ≡ 2 + pass.order
unfolding pass_words
length_pass i pass = omega (arith, length_coefficients pass pass.order)

-- ---- the passes

pub pass_kept_law : (plan : Plan) → keeps_rules plan ≡ true → (i : ℕ) → i < 4 → pass_kept plan.grid.side (pass_at plan i) ≡ true
unfolding keeps_rules passes_kept
pass_kept_law plan e i h = all_at _ 4 i (and_right (grid_kept plan.grid) (passes_kept plan) e) h

-- Pass i keeps the rules, and there is room for its words where there is room for those of all passes.
pub pass_fits : (plan : Plan) (n place i : ℕ) → keeps_rules plan ≡ true → i < 4 → place + (8 + order_sum plan 4) ≤ n
    → PassFits n i (pass_at plan i) (place + (2 * i + order_sum plan i))
pass_fits plan n place i kept h room =
    let pass = (rules plan kept).pass_kept_law i h in
    record {
      pass_number = h;
      gain_kept = pass.gain_kept;
      coefficients =
          record {
            order_limited = pass.order_limited;
            kept = coefficients_kept_law plan.grid.side (pass_at plan i) (pass_kept_law plan kept i h);
            room = omega (arith, total_grows (order_of plan) i 4 h, room);
          };
    }

pub length_passes : (plan : Plan) (count : ℕ) → length (passes_words plan count) ≡ 2 * count + order_sum plan count
unfolding passes_words joined total
length_passes plan zero = refl
length_passes plan (suc count) =
    length-append (passes_words plan count) (pass_words count (pass_at plan count))
    ∙ omega (arith, length_passes plan count, length_pass count (pass_at plan count))

pub more_orders : (plan : Plan) (i : ℕ) → order_sum plan (i + 1) ≡ order_sum plan i + (pass_at plan i).order
unfolding total
more_orders plan i = rw (add-one i)

module _ (plan : Plan) (words : List ℕ) (place : ℕ) where
  pub no_passes : words ≡ sets words place (passes_words plan 0)
  unfolding passes_words joined
  no_passes = refl

  pub more_passes : (i : ℕ)
      → sets (sets words place (passes_words plan i)) (place + (2 * i + order_sum plan i)) (pass_words i (pass_at plan i))
      ≡ sets words place (passes_words plan (i + 1))
  unfolding passes_words joined
  more_passes i =
      rw (add-one i)
      (sets_parts (passes_words plan i) (pass_words i (pass_at plan i)) words place (2 * i + order_sum plan i)
      (length_passes plan i))

pub ruleset passes_written = (no_passes, more_passes, more_orders, total_none, length-sets)

-- ---- the plan

-- Size word, block word, passes and end word, each written at the place after the one before.
pub plan_parts : (words : List ℕ) (plan : Plan) {size block end place : ℕ} {after_passes : List ℕ}
    → size ≡ size_word plan → block ≡ word_of 2 plan.grid.side → end ≡ word_of 6 0
    → (place ≡ 2 + (8 + order_sum plan 4)) × (after_passes ≡ sets (set (set words 0 size) 1 block) 2 (passes_words plan 4))
    → set after_passes place end ≡ sets words 0 (words_of plan)
unfolding words_of
plan_parts words plan e f g passes =
    rw (passes.1, passes.0, e, f, g)
    (sets_parts (passes_words plan 4) (word_of 6 0 ∷ []) _ 2 (8 + order_sum plan 4) (length_passes plan 4))

pub length_words : (plan : Plan) → length (words_of plan) ≡ word_count plan
unfolding words_of
length_words plan = omega (arith, length-append (passes_words plan 4) (word_of 6 0 ∷ []), length_passes plan 4)

-- The plan's words at the front of a buffer, and behind them what stood there.
pub words_in_front : (plan : Plan) (words : List ℕ) → word_count plan ≤ length words
    → sets words 0 (words_of plan) ≡ words_of plan ++ drop (word_count plan) words
words_in_front plan words h =
    let e : 0 + length (words_of plan) ≡ word_count plan = omega (arith, length_words plan) in
    sets-eq (words_of plan) words 0 (omega (arith, length_words plan)) ∙ ap (λ (n : ℕ). words_of plan ++ drop n words) e
