-- What each refusal is in documents 01 and 02: its number and its place.
use Rattle.std.specs.Prelude.{ℕ, List, ◌++◌, codes, decimal}
use Rattle.refusal.specs.declared.Reason.{Reason}
use Rattle.refusal.specs.declared.Refusal.{Refusal}
use Rattle.refusal.specs.declared.Refusal.TheVariants.{WordsEndEarly, AnotherKindDue, OutOfRange, SideBelowOrder, WordsAfterEnd, RecordBreaksRule, BufferTooShort, NoSuchTask, MarkBroken, AlreadyMarked, NeedUnmarked, RectangleOutside, InputUnfit, StripsTooShort, MapTooShort, OutputTooShort, BlockNotCollected, JobMisplaced}

-- An answer in the documents' numbers: accepted, or refused by a number with a place.
pub data Answer : Type 0 where
  accepted : Answer
  refused : (number place : ℕ) → Answer

-- The number of an answer, 0 where the call is accepted;
abbrev pub number_in : Answer → ℕ
number_in accepted = 0
number_in (refused number place) = number

-- and the place beside it.
abbrev pub place_in : Answer → ℕ
place_in accepted = 0
place_in (refused number place) = place

-- The table of refused calls, 14 to 16 from CR 4, 17 from CR 8, 18 from CR 9: the number of each cause, and what is returned
-- beside it; of 9 it is the block's number, or the place in a common list of marks, of 18 the job's number.
abbrev pub reason_of : Refusal → Reason
reason_of (WordsEndEarly place) = record { number = 1; place = place }
reason_of (AnotherKindDue place) = record { number = 2; place = place }
reason_of (OutOfRange place) = record { number = 3; place = place }
reason_of SideBelowOrder = record { number = 4; place = 1 }
reason_of (WordsAfterEnd place) = record { number = 5; place = place }
reason_of RecordBreaksRule = record { number = 6; place = 0 }
reason_of BufferTooShort = record { number = 7; place = 0 }
reason_of NoSuchTask = record { number = 8; place = 0 }
reason_of (MarkBroken place) = record { number = 9; place = place }
reason_of AlreadyMarked = record { number = 10; place = 0 }
reason_of NeedUnmarked = record { number = 11; place = 0 }
reason_of RectangleOutside = record { number = 12; place = 0 }
reason_of InputUnfit = record { number = 13; place = 0 }
reason_of StripsTooShort = record { number = 14; place = 0 }
reason_of MapTooShort = record { number = 15; place = 0 }
reason_of OutputTooShort = record { number = 16; place = 0 }
reason_of BlockNotCollected = record { number = 17; place = 0 }
reason_of (JobMisplaced job) = record { number = 18; place = job }

-- The number of a refusal,
abbrev pub number_of : Refusal → ℕ
number_of refusal = (reason_of refusal).number

-- the place that is returned beside it,
abbrev pub place_of : Refusal → ℕ
place_of refusal = (reason_of refusal).place

-- and both as an answer.
abbrev pub refused_for : Refusal → Answer
refused_for refusal = refused (number_of refusal) (place_of refusal)

-- What is printed of a refusal: its number and its place.
abbrev pub refusal_text : Refusal → List ℕ
refusal_text refusal =
    codes "refused " ++ (decimal (number_of refusal) ++ (codes " at " ++ decimal (place_of refusal)))
