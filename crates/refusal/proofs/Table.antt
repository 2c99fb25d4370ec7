-- Tables of refused calls: rows one after another, what an accepted answer says of the rows, and that a refusal is known by its
-- number and place. Assumes nothing.
use mathlib.Core.Path.{◌≡◌, refl, sym, ap, ◌∙◌}
use mathlib.Core.Bool.{Bool, true, false, cond}
use mathlib.Core.List.{List, [], ◌∷◌, ◌++◌}
use Prim.Native.Nat.{ℕ}
use native.Mathlib.Omega.{arith}
use lib.Dec.{eqb}
use Rattle.refusal.specs.declared.Refusal.{Refusal}
use Rattle.refusal.specs.declared.Refusal.TheVariants.{WordsEndEarly, AnotherKindDue, OutOfRange, SideBelowOrder, WordsAfterEnd, RecordBreaksRule, BufferTooShort, NoSuchTask, MarkBroken, AlreadyMarked, NeedUnmarked, RectangleOutside, InputUnfit, StripsTooShort, MapTooShort, OutputTooShort, BlockNotCollected, JobMisplaced}
use Rattle.std.specs.Prelude.{Result, Ok, Err}
use Rattle.refusal.specs.Refusals.{number_of, place_of, Answer, accepted, refused}
use Rattle.refusal.specs.Table.{Row, first_due, answer_of, first_of}

-- ---- rows one after another

pub first_append : (xs ys : List Row) → first_due (xs ++ ys) ≡ first_of (first_due xs) (first_due ys)
first_append [] ys = refl
first_append (x ∷ xs) ys = by x.due (first_append xs ys)
  where
    by : (due : Bool) → first_due (xs ++ ys) ≡ first_of (first_due xs) (first_due ys)
        → cond due (refused x.number x.place) (first_due (xs ++ ys))
        ≡ first_of (cond due (refused x.number x.place) (first_due xs)) (first_due ys)
    by true e = refl
    by false e = e

-- The answer of two tests, each that of its rows, is the answer of all rows.
pub tests_rows : {answer a b : Answer} (xs ys : List Row) → answer ≡ first_of a b → a ≡ first_due xs → b ≡ first_due ys
    → answer ≡ first_due (xs ++ ys)
tests_rows xs ys e p q = e ∙ rw (p, q) (sym (first_append xs ys))

-- Where the first rows refuse, so do all; where they accept, the others decide.
module _ (xs ys : List Row) where
  pub refused_before : {number place : ℕ} → refused number place ≡ first_due xs → refused number place ≡ first_due (xs ++ ys)
  refused_before e = rw (← e) at (sym (first_append xs ys))

  pub accepted_before : accepted ≡ first_due xs → first_due (xs ++ ys) ≡ first_due ys
  accepted_before e = rw (← e) at (first_append xs ys)

-- ---- what an accepted answer says

pub not_accepted : {number place : ℕ} → refused number place ≡ accepted → ⊥
not_accepted e = let z : ◌≡◌ {A = ℕ} 0 1 = cc in omega arith

-- One row that decides: where it refuses it is due, and where it accepts it is not.
pub due_row : (due : Bool) {number place n p : ℕ} → refused n p ≡ cond due (refused number place) accepted
    → (due ≡ true) × (refused n p ≡ refused number place)
due_row true e = (refl, e)
due_row false e = absurd (not_accepted e)

-- A row that is not due, and what the rows after it answer.
pub record NotDue (due : Bool) (rest : Answer) : Type 0 where
  pub first : due ≡ false
  pub others : rest ≡ accepted

pub not_due : (due : Bool) (number place : ℕ) (rest : Answer) → cond due (refused number place) rest ≡ accepted
    → NotDue due rest
not_due true number place rest e = absurd (not_accepted e)
not_due false number place rest e = record { first = refl; others = e }

pub both_accepted : {a b : Answer} → a ≡ accepted → b ≡ accepted → first_of a b ≡ accepted
both_accepted e f = rw (e, f)

pub first_accepted : (a b : Answer) → first_of a b ≡ accepted → a ≡ accepted
first_accepted accepted b e = refl
first_accepted (refused number place) b e = e

pub second_accepted : (a b : Answer) → first_of a b ≡ accepted → b ≡ accepted
second_accepted accepted b e = e
second_accepted (refused number place) b e = cc

pub rows_accepted : (xs ys : List Row) → first_due (xs ++ ys) ≡ accepted
    → (first_due xs ≡ accepted) × (first_due ys ≡ accepted)
rows_accepted xs ys e =
    let f = rw (first_append xs ys) at e in
    (first_accepted (first_due xs) (first_due ys) f, second_accepted (first_due xs) (first_due ys) f)

-- No row of a list is due.
abbrev pub NoneOf : List Row → Type 0
NoneOf [] = Unit {0}
NoneOf (row ∷ rows) = (row.due ≡ false) × NoneOf rows

pub none_of : (rows : List Row) → first_due rows ≡ accepted → NoneOf rows
none_of [] e = tt
none_of (row ∷ rows) e =
    let n = not_due row.due row.number row.place (first_due rows) e in
    (n.first, none_of rows n.others)

-- No row of a list has a number,
abbrev pub NoneNumbered : ℕ → List Row → Type 0
NoneNumbered number [] = Unit {0}
NoneNumbered number (row ∷ rows) = (row.number ≡ number → ⊥) × NoneNumbered number rows

-- so that they do not answer it.
pub not_answered : (number : ℕ) (rows : List Row) → NoneNumbered number rows → {place : ℕ} → first_due rows ≡ refused number place → ⊥
not_answered number [] none e = not_accepted (sym e)
not_answered number (row ∷ rows) none {place} e = by row.due (not_answered number rows none.1) e
  where
    by : (due : Bool) → (first_due rows ≡ refused number place → ⊥)
        → cond due (refused row.number row.place) (first_due rows) ≡ refused number place → ⊥
    by true others e = none.0 cc
    by false others e = others e

-- ---- a refusal is known by its number and place

named : ℕ → ℕ → Refusal
named number place =
    cond (eqb number 1) (WordsEndEarly place)
    (cond (eqb number 2) (AnotherKindDue place)
    (cond (eqb number 3) (OutOfRange place)
    (cond (eqb number 4) SideBelowOrder
    (cond (eqb number 5) (WordsAfterEnd place)
    (cond (eqb number 6) RecordBreaksRule
    (cond (eqb number 7) BufferTooShort
    (cond (eqb number 8) NoSuchTask
    (cond (eqb number 9) (MarkBroken place)
    (cond (eqb number 10) AlreadyMarked
    (cond (eqb number 11) NeedUnmarked
    (cond (eqb number 12) RectangleOutside
    (cond (eqb number 13) InputUnfit
    (cond (eqb number 14) StripsTooShort
    (cond (eqb number 15) MapTooShort
    (cond (eqb number 16) OutputTooShort
    (cond (eqb number 17) BlockNotCollected
    (JobMisplaced place)))))))))))))))))

named_back : (refusal : Refusal) → named (number_of refusal) (place_of refusal) ≡ refusal
unfolding named
named_back (WordsEndEarly place) = refl
named_back (AnotherKindDue place) = refl
named_back (OutOfRange place) = refl
named_back SideBelowOrder = refl
named_back (WordsAfterEnd place) = refl
named_back RecordBreaksRule = refl
named_back BufferTooShort = refl
named_back NoSuchTask = refl
named_back (MarkBroken place) = refl
named_back AlreadyMarked = refl
named_back NeedUnmarked = refl
named_back RectangleOutside = refl
named_back InputUnfit = refl
named_back StripsTooShort = refl
named_back MapTooShort = refl
named_back OutputTooShort = refl
named_back BlockNotCollected = refl
named_back (JobMisplaced job) = refl

-- A result without a value, as its number and place tell it.
outcome_of : Answer → Result Unit Refusal
outcome_of accepted = Ok tt
outcome_of (refused number place) = Err (named number place)

outcome_back : (outcome : Result Unit Refusal) → outcome_of (answer_of outcome) ≡ outcome
unfolding outcome_of
outcome_back (Ok tt) = refl
outcome_back (Err refusal) = ap Err (named_back refusal)

-- Two results without a value that have the same number and place are the same.
pub same_outcome : (a b : Result Unit Refusal) → answer_of a ≡ answer_of b → a ≡ b
same_outcome a b e = sym (outcome_back a) ∙ ap outcome_of e ∙ outcome_back b
