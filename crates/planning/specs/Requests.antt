-- What RULES 17 asks to be shown of the fewest rest positions, for any table. Assumes nothing.
use Rattle.std.specs.Prelude.{◌≡◌, ◌↔◌, List, ℕ}
use Rattle.std.proofs.Math.Option.{none}
use Rattle.planning.specs.Degrees.{degree_refusal}
use Rattle.planning.specs.DegreesLaws.{DegreePasses, LeastDegreeTheorem, NoDegreeTheorem, PositionsTheorem, NextDegreeTheorem, LargerDegreeTheorem}
use Rattle.planning.specs.CallsLaws.{PositionsKept}

pub record DegreeRequests : Type 0 where
  -- RULES 17.1: the least degree from 1 to 3 whose table of transformations holds an embedding, or "none of these"; each in both directions.
  pub least_degree_law : LeastDegreeTheorem
  pub none_of_these : NoDegreeTheorem
  -- RULES 17.2: for each element "the d landing positions, a byte each from 1 to d, of its image under the first embedding", and no other bytes.
  pub positions : PositionsTheorem
  -- RULES 17.4: "A table that fits at one degree fits at every larger one up to 3", and beyond: each table of transformations embeds in the next.
  pub next_degree : NextDegreeTheorem
  pub larger_degree : LargerDegreeTheorem
  -- What passes the questions, in both directions.
  pub passes : (m : ℕ) (cells : List ℕ) (size : ℕ) → (degree_refusal m cells size ≡ none) ↔ DegreePasses m cells size
  -- RULES 17.3: "none of these" changes no byte of the position buffer, and no refusal does.
  pub kept : PositionsKept
