use Rattle.std.specs.Prelude.{Option, None, Some, MatchOption, is_some}
use Rattle.std.proofs.Common.{◌≡◌, ℕ, ◌≤◌, List, Bool, sym, ◌∙◌, arith}
use Rattle.std.proofs.lemmas.Bool.{false≢true}
use Rattle.semigroups.specs.Lists.{at}
use Rattle.rows.specs.declared.Row.{Row}
use Rattle.rows.specs.InnerRows.{row_of, Alone}
use Rattle.propagation.specs.InnerLone.{Waits}
use Rattle.propagation.proofs.waits.Goals as goal

-- An unused element waits if its row holds one element alone.
by_lone : (rows used : List ℕ) (c : ℕ) (row : Row) → row ≡ row_of rows c → at used c ≡ 0 → (o : Option ℕ) → MatchOption o (Alone row 0) (λ v. (1 ≤ v) × Alone row v) → (r : Bool) → r ≡ is_some o → Waits rows used c r
by_lone rows used c row e u None A r q =
    record {
      unused = λ t. u;
      lone = λ t. absurd (false≢true (sym q ∙ t));
      none = λ t z l. let w = A.found l.image l.element (e ∙ l.row) in let h = l.element in omega arith;
    }
by_lone rows used c row e u (Some v) A r q =
    record {
      unused = λ t. u;
      lone = λ t. let h = A.0 in let most = A.1.most in record { image = v; element = omega arith; row = sym e ∙ A.1.holds h };
      none = λ t z l. absurd (false≢true (sym t ∙ q));
    }

pub returns-then-used-c-ne0 : goal.returns-then-used-c-ne0
unfolding at
returns-then-used-c-ne0 c = record { answer = record { unused = λ e. absurd (false≢true e); lone = λ e. absurd (false≢true e); none = λ e z w. c.if-used-c-ne0.true z } }

pub returns : goal.returns
unfolding at
returns c =
    record { answer = by_lone c.args.rows.now c.args.used.now c.args.c c.row_of.result c.row_of.ensures.answer c.if-used-c-ne0.false c.lone.result c.lone.ensures.answer c.is_some.result c.is_some.ensures }
