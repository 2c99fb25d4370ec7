-- The lines of a strip, put into rows of zeros. Assumes nothing.
use mathlib.Core.List.{List}
use mathlib.Core.Path.{◌≡◌, refl, ap, sym, ◌∙◌}
use mathlib.Core.Logic.{◌≢◌}
use Prim.Native.Nat.{ℕ, zero, suc, ◌+◌, ◌*◌, ◌<◌, ◌≤◌}
use native.Mathlib.Decide.{dec_lt}
use native.Mathlib.Omega.{arith}
use native.Mathlib.Numerals.{add-one}
use lib.ListN.{length}
use Rattle.word.proofs.Ring.{mul_zero}
use Rattle.word.specs.Word.{◌⊗◌}
use Rattle.plan.specs.Rules.{order_limit}
use Rattle.buffer.specs.Lists.{word_at}
use Rattle.buffer.specs.Written.{row_written}
use Rattle.buffer.proofs.Written.{written_length, written_other, written_at}
use Rattle.axis.specs.Axis.{Direction, direction_of}
use Rattle.number.proofs.RowMajor.{same_row_column}
use Rattle.number.specs.Numbers.{row_major}
use Rattle.task_words.specs.Strips.{from_edge}
use Rattle.strips.specs.StripRecord.{strip_read}
use Rattle.strips.specs.declared.Strip.{Strip}
use Rattle.squares.proofs.Lines.{beside_lines}
use Rattle.squares.specs.LineBuffers.{row_words}
use Rattle.squares.specs.Rows.{ZerosFrom, RowsFilled}
use Rattle.link.specs.Lines.{lines_inside, strip_line, strip_lines}
use Rattle.link.proofs.lines.EdgeReads.{lines_few, read_outside}

module _ (gain : ℕ) (d : Direction) (order : ℕ) (strip : Strip) (strips : List ℕ) (row places : ℕ) (before : List ℕ) where
  -- No line yet.
  pub strip_lines_none : before ≡ strip_lines gain d order strip strips row places 0 before
  unfolding strip_lines
  strip_lines_none = refl

  -- One line more.
  pub strip_lines_next : (n : ℕ) {b a : List ℕ} {place : ℕ}
      → b ≡ strip_lines gain d order strip strips row places n before → place ≡ from_edge d order n
      → a ≡ strip_line gain strip strips place (row + n) places b
      → a ≡ strip_lines gain d order strip strips row places (n + 1) before
  unfolding strip_lines
  strip_lines_next n e f g = rw (add-one n) (rw (← e, ← f) g)

module _ (places row : ℕ) (few_places : places ≤ 32) (gain : ℕ) (d : Direction) (order : ℕ) (strip : Strip)
    (strips before : List ℕ) where
  abbrev line_start : ℕ → ℕ
  line_start k = row_major row_words (row + k) order_limit

  abbrev line_word : ℕ → ℕ → ℕ
  line_word k j = gain ⊗ strip_read strip strips j (from_edge d order k)

  abbrev line_width : ℕ → ℕ
  line_width k = lines_inside strip (from_edge d order k) places

  abbrev lines_to : ℕ → List ℕ
  lines_to n = strip_lines gain d order strip strips row places n before

  narrow : (k : ℕ) → line_width k ≤ places
  narrow k = lines_few strip (from_edge d order k) places

  -- Two places of the lines that are one.
  same_line : (i j l p : ℕ) → j < places → p < places → line_start i + j ≡ line_start l + p → (i ≡ l) × (j ≡ p)
  same_line i j l p a b e =
      let same = same_row_column row_words (row + i) (order_limit + j) (row + l) (order_limit + p) (omega arith) (omega arith)
      (omega arith) in
      (omega (arith, same.0), omega (arith, same.1))

  lines_length : (n : ℕ) → length (lines_to n) ≡ length before
  unfolding strip_lines strip_line row_written
  lines_length zero = refl
  lines_length (suc n) = written_length _ _ (line_width n) _ ∙ lines_length n

  lines_other : (n z : ℕ) → ((k j : ℕ) → k < n → j < line_width k → z ≢ line_start k + j)
      → word_at (lines_to n) z ≡ word_at before z
  unfolding strip_lines strip_line row_written
  lines_other zero z e = refl
  lines_other (suc n) z e =
      written_other _ _ (line_width n) _ z (λ j h. e n j (omega arith) h) ∙ lines_other n z (λ k j h. e k j (omega arith))

  lines_at : (n : ℕ) → (row + n) * row_words ≤ length before → (k j : ℕ) → k < n → j < line_width k
      → word_at (lines_to n) (line_start k + j) ≡ line_word k j
  unfolding strip_lines strip_line row_written
  lines_at zero long k j h b = absurd (omega arith)
  lines_at (suc n) long k j h b =
      elim (dec_lt k n) [
        | yes l ↦
            written_other _ _ (line_width n) _ (line_start k + j)
            (λ p c e.
            absurd (omega (arith, (same_line k j n p (omega (arith, narrow k)) (omega (arith, narrow n)) e).0)))
            ∙ lines_at n (omega arith) k j l b
        | no l ↦
            let q : k ≡ n = omega arith in
            rw q
            (written_at (λ j. line_start n + j) (line_word n) (line_width n) _ (λ i p c d e. omega arith)
            (λ i c. rw (lines_length n) (omega (arith, narrow n))) j (rw q at b))
      ]

  module _ (long : (row + order) * row_words ≤ length before) (zeros : ZerosFrom row before) where
    -- A word outside the block is 0, as the row was.
    line_inside : (k j : ℕ) → k < order → j < places → word_at (lines_to order) (line_start k + j) ≡ line_word k j
    line_inside k j h b =
        elim (dec_lt j (line_width k)) [
          | yes w ↦ lines_at order long k j h w
          | no w ↦
              lines_other order _
              (λ y x e f q.
              let same = same_line k j y x b (omega (arith, narrow y)) q in
              let here : y ≡ k = omega (arith, same.0) in
              w (omega (arith, same.1, (rw here at f))))
              ∙ zeros _ (omega arith)
              ∙ sym
              (ap (gain ⊗◌) (read_outside strip (from_edge d order k) places strips j (omega arith) b) ∙ mul_zero gain)
        ]

    pub strips_filled : (t m : ℕ) → RowsFilled places t m row order (λ k u i. 0) line_word before (lines_to order)
    strips_filled t m =
        record {
          length_kept = lines_length order;
          below = λ z h. lines_other order z (λ k j a b e. absurd (omega arith));
          above = λ z h. lines_other order z (λ k j a b e. absurd (omega (arith, narrow k)));
          lines = λ k h.
              record {
                inside = λ j b.
                    let place : row_major row_words (row + k) (order_limit + j) ≡ line_start k + j = omega arith in
                    ap (word_at (lines_to order)) place ∙ line_inside k j h b;
                beside = λ u i a b c.
                    lines_other order _
                    (λ y x e f q.
                    beside_lines (direction_of u) places (row + k) i (row + y) x few_places c (omega (arith, narrow y))
                    (q ∙ omega arith))
                    ∙ zeros _ (omega arith);
              };
        }
