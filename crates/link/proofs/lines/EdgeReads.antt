-- The words of a strip at one place of its lines: those in the block are read, the others are 0. Assumes nothing.
use mathlib.Core.Bool.{Bool, true, false, ◌&&◌, cond}
use mathlib.Core.List.{List}
use mathlib.Core.Path.{◌≡◌, refl, ap, sym, ◌∙◌}
use Prim.Native.Nat.{ℕ, ◌+◌, ◌*◌, ◌<◌, ◌≤◌, min}
use native.Mathlib.Decide.{dec_le, dec_lt}
use native.Mathlib.Omega.{arith}
use borrow.Author.Tests.{ltb-true, lt-ltb, le-ltb, le-leb, lt-leb}
use lib.Dec.{ltb}
use Rattle.word.specs.Word.{◌⊗◌}
use Rattle.plan.specs.Rules.{order_limit}
use Rattle.buffer.specs.Lists.{word_at}
use Rattle.buffer.proofs.Written.{written_none, written_same}
use Rattle.strips.specs.StripRecord.{place_held, word_held, strip_read, StripFits, address_in}
use Rattle.strips.specs.declared.Strip.{Strip}
use Rattle.squares.specs.LineBuffers.{row_words}
use Rattle.buffer.specs.Copies.{WordsFit, scaled_from}
use Rattle.buffer.specs.Written.{written, row_written}
use Rattle.link.specs.Lines.{lines_inside, strip_line}
use Rattle.number.specs.Numbers.{row_major}

-- Some of the first n lines of a strip have a word in the block at a place.
pub record SomeInside (strip : Strip) (place n : ℕ) : Type 0 where
  pub count_is : lines_inside strip place n ≡ min n strip.lines
  pub from_first : strip.first ≤ place
  pub before_past : place < strip.past

module _ (strip : Strip) (place n : ℕ) where
  -- Where there are lines, the place lies in the block.
  pub lines_some : 0 < lines_inside strip place n → SomeInside strip place n
  unfolding lines_inside
  lines_some h =
      elim (dec_le strip.first place) [
        | yes a ↦
            elim (dec_lt place strip.past) [
              | yes b ↦
                  record {
                    count_is = rw (le-leb strip.first place a, lt-ltb place strip.past b);
                    from_first = a;
                    before_past = b;
                  }
              | no b ↦
                  absurd (omega (arith, (rw (le-leb strip.first place a, le-ltb place strip.past (omega arith)) at h)))
            ]
        | no a ↦ absurd (omega (arith, (rw (lt-leb strip.first place (omega arith)) at h)))
      ]

  pub lines_few : lines_inside strip place n ≤ n
  unfolding lines_inside
  lines_few = by (place_held strip place)
    where
      by : (test : Bool) → cond test (min n strip.lines) 0 ≤ n
      by true = omega arith
      by false = omega arith

  -- The block's test of a place holds for those lines, and for no others.
  module _ (line word : ℕ) where
    pub chosen_inside : line < lines_inside strip place n
        → cond (word_held strip line place) word 0 ≡ word
    chosen_inside h =
        let some = lines_some (omega arith) in
        rw (
          lt-ltb line strip.lines (omega (arith, some.count_is)),
          le-leb strip.first place some.from_first,
          lt-ltb place strip.past some.before_past,
        )

    pub chosen_outside : lines_inside strip place n ≤ line → line < n
        → cond (word_held strip line place) word 0 ≡ 0
    unfolding lines_inside
    chosen_outside h b = by (ltb line strip.lines) (place_held strip place) refl h
      where
        by : (s t : Bool) → ltb line strip.lines ≡ s → cond t (min n strip.lines) 0 ≤ line → cond (s && t) word 0 ≡ 0
        by false t e h = refl
        by true false e h = refl
        by true true e h = absurd (omega (arith, ltb-true line strip.lines e))

  -- Those lines are read, and the others are 0.
  pub read_inside : (strips : List ℕ) (line : ℕ) → line < lines_inside strip place n
      → strip_read strip strips line place
      ≡ word_at strips (address_in strip 0 place + line * strip.line_step)
  unfolding strip_read
  read_inside strips line h = chosen_inside line _ h ∙ ap (word_at strips) (omega arith)

  pub read_outside : (strips : List ℕ) (line : ℕ) → lines_inside strip place n ≤ line → line < n
      → strip_read strip strips line place ≡ 0
  unfolding strip_read
  read_outside strips line h b = chosen_outside line _ h b

  pub words_fit : {m : ℕ} → StripFits m strip
      → WordsFit m (address_in strip 0 place) strip.line_step (lines_inside strip place n)
  words_fit fits =
      record {
        inside = λ line h.
            let some = lines_some (omega arith) in
            omega (arith, fits.inside line place (omega (arith, some.count_is)) some.before_past);
      }

  -- The first of them is in the list.
  pub first_word : {m : ℕ} → StripFits m strip → 0 < lines_inside strip place n
      → address_in strip 0 place < m
  first_word fits h = omega (arith, (words_fit fits).inside 0 h)

-- ---- a row of them

module _ (gain : ℕ) (strip : Strip) (strips : List ℕ) (place row places : ℕ) (before : List ℕ) where
  pub line_some : {n : ℕ} {after : List ℕ} → n ≡ lines_inside strip place places
      → after
      ≡ written (λ i. row_major row_words row order_limit + i * 1)
      (scaled_from gain strips (address_in strip 0 place) strip.line_step) n before
      → after ≡ strip_line gain strip strips place row places before
  unfolding row_written strip_line
  line_some e f =
      (rw e at f)
      ∙ written_same _ _ _ _ (lines_inside strip place places) before (λ j h. omega arith)
      (λ j h. ap (gain ⊗◌) (sym (read_inside strip place places strips j h)))

  pub line_none : lines_inside strip place places ≡ 0 → before ≡ strip_line gain strip strips place row places before
  unfolding row_written strip_line
  line_none e = rw e (sym (written_none _ _ before))
