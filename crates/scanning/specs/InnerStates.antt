-- What the values of the automaton stand for. No contract of an entry point cites this. Assumes nothing.
use Rattle.std.proofs.Math.Option.{Option, none, some}
use Rattle.std.specs.Prelude.{ℕ, Result, Ok, Err}
use Rattle.sheets.specs.InnerAutomaton as automaton
use Rattle.scanning.specs.declared.Part.{Part}
use Rattle.scanning.specs.declared.Part.TheVariants.{Number, Name}
use Rattle.scanning.specs.declared.State.{State}
use Rattle.scanning.specs.declared.State.TheVariants.{Opening, Bare, Quoted, Shut, Cr, Line, Dead}

-- The field of a record that a value of the code stands for.
abbrev pub part_of : Part → automaton.Column
part_of Number = automaton.number_part
part_of Name = automaton.name_part

-- The state that a value of the code stands for.
abbrev pub state_of : State → automaton.State
state_of (Opening n) = automaton.opening (part_of n)
state_of (Bare n) = automaton.bare (part_of n)
state_of (Quoted n) = automaton.quoted (part_of n)
state_of (Shut n) = automaton.shut (part_of n)
state_of Cr = automaton.cr
state_of Line = automaton.line
state_of Dead = automaton.dead

-- The offending place of a text, or none.
abbrev pub form_place : {A : Type 0} → Result A ℕ → Option ℕ
form_place (Ok x) = none
form_place (Err k) = some k
