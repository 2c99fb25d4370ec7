-- The dispatcher's call: its refusals and its answer. Document 02, CR 9.
use Rattle.std.specs.Prelude.{not, List, [], ◌∷◌, ℕ, ltb, length, Option, None, Some, Result, Ok, Err}
use Rattle.refusal.specs.declared.Refusal.{Refusal}
use Rattle.refusal.specs.Refusals.{refused_for, accepted}
use Rattle.refusal.specs.Table.{Row, ◌at◌when◌, first_due, Given, given}
use Rattle.turns.specs.declared.Job.{Job}
use Rattle.turns.specs.declared.Turn.{Turn}
use Rattle.turns.specs.Jobs.{jobs_kept, first_misplaced, first_broken_place}
use Rattle.turns.specs.Turn.{turn}

-- What a turn answers: 1 where a job is named, its index in the list, the task and the block.
pub record TurnValues : Type 0 where
  pub named : ℕ
  pub job : ℕ
  pub task : ℕ
  pub block : ℕ

-- All values 0: none is named.
abbrev pub zero_turn : TurnValues
zero_turn = record { named = 0; job = 0; task = 0; block = 0 }

-- The values of a turn.
abbrev pub turn_values : Option Turn → TurnValues
turn_values (Some turn) = record { named = 1; job = turn.job; task = turn.task; block = turn.block }
turn_values None = zero_turn

-- The documents' number and place, and the values, of each case that `dispatch` answers.
abbrev pub dispatch_given : Result (Option Turn) Refusal → Given TurnValues
dispatch_given (Ok turn) = record { answer = accepted; value = turn_values turn }
dispatch_given (Err refusal) = record { answer = refused_for refusal; value = zero_turn }

-- What a call is refused by: 6 where there are too many jobs or a size is out of range, 18 with the least job whose marks run
-- past the list or overlap another's, 9 at the least place in the common list of a broken mark of any job.
unfoldable pub dispatch_rows : List Job → List ℕ → List Row
dispatch_rows jobs marks =
    6 at 0 when not (jobs_kept jobs)
    ∷ 18 at first_misplaced jobs (length marks) when ltb (first_misplaced jobs (length marks)) (length jobs)
    ∷ 9 at first_broken_place jobs marks when ltb (first_broken_place jobs marks) (length marks)
    ∷ []

-- What a call answers: refused, with zeros beside it, or the turn after the job `last`.
unfoldable pub dispatch : List Job → (last : ℕ) → List ℕ → Given TurnValues
dispatch jobs last marks = given (first_due (dispatch_rows jobs marks)) (turn_values (turn jobs last marks)) zero_turn
