-- What a call answers: the rows of the tables of refused calls (document 01, and the requests of document 02) that it can
-- be refused by, in the order in which they are tested. The first row that is due decides.
use Rattle.std.specs.Prelude.{Bool, cond, List, [], ◌∷◌, ℕ, Result, Ok, Err}
use Rattle.refusal.specs.declared.Refusal.{Refusal}
use Rattle.refusal.specs.Refusals.{Answer, accepted, refused, refused_for}

infix 68 ◌at◌when◌
-- Of two answers, one after the other, the first that refuses decides.
abbrev pub first_of : Answer → Answer → Answer
first_of accepted later = later
first_of (refused number place) later = refused number place

-- A row of the table: the number and the place that are returned, and whether the cause is there.
pub record Row : Type 0 where
  pub number : ℕ
  pub place : ℕ
  pub due : Bool

-- `7 at 0 when cause` is a row.
abbrev pub ◌at◌when◌ : ℕ → ℕ → Bool → Row
number at place when cause = record { number = number; place = place; due = cause }

-- The answer that rows give: the first that is due, and accepted where none is.
abbrev pub first_due : List Row → Answer
first_due [] = accepted
first_due (row ∷ rows) = cond row.due (refused row.number row.place) (first_due rows)

-- The answer that a result stands for.
abbrev pub answer_of : {A : Type 0} → Result A Refusal → Answer
answer_of (Ok value) = accepted
answer_of (Err refusal) = refused_for refusal

-- Of two values, that of an accepted call or that of a refused one.
abbrev pub if_accepted : {A : Type 0} → Answer → A → A → A
if_accepted accepted value otherwise = value
if_accepted (refused number place) value otherwise = otherwise

-- An answer and the value beside it.
pub record Given (A : Type 0) : Type 0 where
  pub answer : Answer
  pub value : A

-- The value of an accepted call, or what stands beside a refusal: all zeros, for a macro variable vacant.
abbrev pub given : {A : Type 0} → Answer → (value otherwise : A) → Given A
given answer value otherwise = record { answer = answer; value = if_accepted answer value otherwise }

-- The answer that a result stands for, and its value, or what stands beside a refusal.
abbrev pub given_by : {A : Type 0} → (otherwise : A) → Result A Refusal → Given A
given_by otherwise (Ok value) = record { answer = accepted; value = value }
given_by otherwise (Err refusal) = record { answer = refused_for refusal; value = otherwise }
