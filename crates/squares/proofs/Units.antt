-- The unit histories of a pass beside lines of zeros, and arrays of arrays. Assumes nothing.
use mathlib.Core.Path.{◌≡◌, refl, sym, ap, ◌∙◌}
use mathlib.Core.Logic.{◌≢◌}
use mathlib.Core.List.{List, []}
use Prim.Native.Nat.{ℕ, zero, suc, ◌+◌, ◌*◌, ◌<◌, ◌≤◌}
use native.Mathlib.Decide.{ℕ_discrete, dec_lt}
use native.Mathlib.Omega.{arith}
use lib.ListN.{length, set}
use lib.Seq.{get_or-set_same, get_or-set_other}
use Rattle.plan.specs.Rules.{order_limit}
use Rattle.buffer.specs.Lists.{word_at}
use Rattle.axis.specs.Axis.{Direction, forward, backward, direction_of}
use Rattle.passes.specs.Square.{unit_history}
use Rattle.number.proofs.RowMajor.{same_row_column}
use Rattle.buffer.proofs.Written.{written_next, written_length, written_other, written_at}
use Rattle.number.specs.Numbers.{row_major}
use Rattle.filter.specs.Windows.{beyond}
use Rattle.squares.specs.LinePasses.{only_at}
use Rattle.squares.specs.LineBuffers.{row_words, unit_lines, square_at}
use Rattle.squares.specs.Rows.{ZerosFrom, RowsFilled}
use Rattle.squares.proofs.LinePasses.{only_at_same, only_at_other}
use Rattle.squares.proofs.Lines.{margin_below, beside_lines}

-- The other direction.
abbrev opposite : Direction → Direction
opposite forward = backward
opposite backward = forward

opposite_next : (pass : ℕ) → direction_of (suc pass) ≡ opposite (direction_of pass)
opposite_next zero = refl
opposite_next (suc zero) = refl
opposite_next (suc (suc pass)) = opposite_next pass

opposite_twice : (d : Direction) → opposite (opposite d) ≡ d
opposite_twice forward = refl
opposite_twice backward = refl

-- One unit more.
pub units_next : (d : Direction) (row places line : ℕ) (before : List ℕ) {b : List ℕ} {column : ℕ}
    → b ≡ unit_lines d row places line before → column ≡ beyond d order_limit places line
    → set b (row_major row_words (row + line) column) 1 ≡ unit_lines d row places (line + 1) before
unfolding unit_lines
units_next d row places line before e f =
    rw (e, f) (written_next (λ j. row_major row_words (row + j) (beyond d order_limit places j)) (λ j. 1) line before)

-- ---- what stands beside the lines

unit_same : (k : ℕ) → unit_history k k ≡ 1
unfolding unit_history
unit_same zero = refl
unit_same (suc k) = unit_same k

unit_apart : (j k : ℕ) → j ≢ k → unit_history j k ≡ 0
unfolding unit_history
unit_apart zero zero e = absurd (e refl)
unit_apart zero (suc k) e = refl
unit_apart (suc j) zero e = refl
unit_apart (suc j) (suc k) e = unit_apart j k (λ q. e (ap suc q))

margins_apart : (d : Direction) (places k j : ℕ) → k < order_limit → j < order_limit
    → beyond (opposite d) order_limit places k ≢ beyond d order_limit places j
margins_apart forward places k j a b e = omega arith
margins_apart backward places k j a b e = omega arith

pub margin_apart : (d : Direction) (places k l : ℕ) → k < order_limit → l < order_limit
    → beyond d order_limit places k ≡ beyond d order_limit places l → k ≡ l
margin_apart forward places k l a b e = omega arith
margin_apart backward places k l a b e = omega arith

-- Two passes of one axis run in opposite directions.
opposite_other : (u v : ℕ) → u ≢ v → u < v + 2 → v < u + 2 → direction_of u ≡ opposite (direction_of v)
opposite_other u v n a b =
    elim (dec_lt u v) [
      | yes l ↦
          let e : v ≡ suc u = omega arith in
          rw (e, opposite_next u) (sym (opposite_twice (direction_of u)))
      | no l ↦ let e : u ≡ suc v = omega arith in rw e (opposite_next v)
    ]

module _ (places t m v row order : ℕ) (first : t ≤ v) (last : v < t + m) (two : m ≤ 2) (few_places : places ≤ 32)
    (few_rows : order ≤ order_limit) (before : List ℕ) (long : (row + order) * row_words ≤ length before)
    (zeros : ZerosFrom row before) where
  abbrev d : Direction
  d = direction_of v

  abbrev unit_place : ℕ → ℕ
  unit_place j = row_major row_words (row + j) (beyond d order_limit places j)

  abbrev units : List ℕ
  units = unit_lines d row places order before

  unit_below : (j : ℕ) → j < order → beyond d order_limit places j < row_words
  unit_below j h = margin_below d places j few_places (omega arith)

  same_unit_row : (i j : ℕ) → i < order → j < order → unit_place i ≡ unit_place j → i ≡ j
  same_unit_row i j a b e =
      omega (arith, (same_row_column row_words (row + i) _ (row + j) _ (unit_below i a) (unit_below j b) e).0)

  -- The units stand where the pass comes from,
  units_beside : (l k : ℕ) → l < order → k < order_limit
      → word_at units (row_major row_words (row + l) (beyond d order_limit places k)) ≡ unit_history l k
  unfolding unit_lines
  units_beside l k h b =
      elim (ℕ_discrete l k) [
        | yes e ↦
            rw (← e, unit_same)
            (written_at unit_place (λ j. 1) order before
            (λ i j a c q. absurd (omega (arith, same_unit_row i j c (omega arith) q)))
            (λ i c. omega (arith, unit_below i c))
            l h)
        | no e ↦
            rw (unit_apart l k e)
            (written_other unit_place (λ j. 1) order before _
            (λ j c q.
            let p =
            same_row_column row_words (row + l) (beyond d order_limit places k) (row + j) _
            (margin_below d places k few_places b) (unit_below j c) q in
            e (omega (arith, p.0, margin_apart d places k j b (omega arith) p.1)))
            ∙ zeros _ (omega arith))
      ]

  -- and nowhere else.
  units_behind : (l k : ℕ) → k < order_limit
      → word_at units (row_major row_words (row + l) (beyond (opposite d) order_limit places k)) ≡ 0
  unfolding unit_lines
  units_behind l k b =
      written_other unit_place (λ j. 1) order before _
      (λ j c q.
      margins_apart d places k j b (omega arith)
      (same_row_column row_words (row + l) _ (row + j) _ (margin_below (opposite d) places k few_places b) (unit_below j c) q
      ).1)
      ∙ zeros _ (omega arith)

  pub units_filled : RowsFilled places t m row order (λ j. only_at v (unit_history j)) (λ j i. 0) before units
  unfolding unit_lines
  units_filled =
      record {
        length_kept = written_length unit_place (λ j. 1) order before;
        below = λ z h. written_other unit_place (λ j. 1) order before z (λ j c e. absurd (omega arith));
        above = λ z h.
            written_other unit_place (λ j. 1) order before z (λ j c e. absurd (omega (arith, unit_below j c)));
        lines = λ l h.
            record {
              inside = λ i b.
                  written_other unit_place (λ j. 1) order before _
                  (λ j c e. beside_lines d places (row + j) j (row + l) i few_places (omega arith) b (sym e))
                  ∙ zeros _ (omega arith);
              beside = λ u k a b c.
                  elim (ℕ_discrete u v) [
                    | yes q ↦ rw (q, only_at_same) (units_beside l k h c)
                    | no q ↦
                        rw (
                          only_at_other v (unit_history l) u k (λ z. q (sym z)),
                          opposite_other u v q (omega arith) (omega arith),
                        )
                        (units_behind l k c)
                  ];
            };
      }

-- ---- arrays of arrays

-- One row more.
pub square_next : (v : ℕ → ℕ → ℕ) (places line : ℕ) (square : List (List ℕ)) (row : List ℕ) → line < length square
    → ((p : ℕ) → p < places → word_at row p ≡ v line p)
    → ((l p : ℕ) → l < line → p < places → square_at square l p ≡ v l p)
    → (l p : ℕ) → l < line + 1 → p < places → square_at (set square line row) l p ≡ v l p
square_next v places line square row h e f l p a b =
    elim (ℕ_discrete l line) [
      | yes q ↦ rw q (ap (λ z. word_at z p) (get_or-set_same square line row [] h) ∙ e p b)
      | no q ↦ ap (λ z. word_at z p) (get_or-set_other square line l row [] q) ∙ f l p (omega arith) b
    ]
