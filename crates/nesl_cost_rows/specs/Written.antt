-- How a cost is written down, from left to right.
use Rattle.std.specs.Prelude.{ℕ, List, [], ◌∷◌, ◌++◌, map}
use Rattle.nesl_lex.specs.declared.token.Span.{Span}
use Rattle.nesl_eval_meaning.specs.Names.{Name}
use Rattle.nesl_cost_meaning.specs.Cost as cost
use Rattle.nesl_cost_meaning.specs.Cost.{Cost}
use Rattle.nesl_cost_rows.specs.declared.trace.Mark.{Mark}
use Rattle.nesl_cost_rows.specs.declared.trace.Mark.TheVariants as marks
use Rattle.nesl_cost_rows.specs.declared.trace.Trace.{Trace}

-- what a mark says: a node was entered; what it cost besides; a turn begins, at its place; it is over, and the turns
-- after it begin; these are over; a function's body begins, called at a span; and it is over
pub data Note : Type 0 where
  entered : Span → Note
  besides : Span → (work depth : ℕ) → Note
  turn : Span → (at : ℕ) → Note
  others : Note
  turned : Note
  called : Name → Span → Note
  returned : Note

abbrev pub note_of : Mark → Note
note_of (marks.Entered s) = entered s
note_of (marks.Besides s w d) = besides s w d
note_of (marks.Turn s i) = turn s i
note_of marks.Others = others
note_of marks.Turned = turned
note_of (marks.Called x s) = called x.now s
note_of marks.Returned = returned

abbrev pub notes_of : Trace → List Note
notes_of j = map note_of j.marks.items

-- all notes of a cost. What is between `turn` and `others` is of the turn, and what is between `others` and `turned`
-- of the turns after it
abbrev pub written : Cost → List Note
written cost.free = []
written (cost.entered s) = entered s ∷ []
written (cost.besides s w d) = besides s w d ∷ []
written (cost.after c e) = written c ++ written e
written (cost.turn s i c e) = turn s i ∷ (written c ++ (others ∷ (written e ++ turned ∷ [])))
written (cost.called x s c) = called x s ∷ (written c ++ returned ∷ [])
