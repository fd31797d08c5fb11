-- The cells are looked at in turn. Assumes nothing.
use Rattle.std.proofs.Common.{◌∙◌, ◌≡◌, ◌+◌, ◌-◌, ◌||◌, ℕ, Bool, not, rules, refl, sym, ap, arith, get_or, length}
use Rattle.std.specs.Prelude.{Option, Some, None, ltb}
use Rattle.std.specs.Option.{option_map}
use Rattle.std.proofs.lemmas.Bool.Decides.{nat_tests}
use Rattle.std.proofs.lemmas.Iterator.{YieldsList-from_range}
use Rattle.std.proofs.lemmas.Iterator.Search.{find_from_yields_List}
use Rattle.semigroups.specs.Lists.{at, range, elements}
use Rattle.semigroups.specs.Tables.{is_element, bad_cell}
use Rattle.semigroups.specs.Results.{optional}
use Rattle.semigroups.proofs.Chains.{find_elements}
use Rattle.semigroups.proofs.Lists.{find_same}
use Rattle.plain.proofs.wrong_cell.Goals as goal

value : (r : Option ℕ) → optional (option_map (λ x. x) r) ≡ optional r
value None = refl
value (Some x) = refl

outside : (n x : ℕ) → (ltb x 1 || ltb n x) ≡ not (is_element n x)
unfolding is_element
outside n x = grind (arith, nat_tests)

pub returns : goal.returns
unfolding bad_cell elements at
returns c =
    let a = c.args in
    let n = length a.cells.now in
    let test : ℕ → Bool = λ k. ltb (get_or a.cells.now (k - 1) 0) 1 || ltb a.n (get_or a.cells.now (k - 1) 0) in
    record {
      answer =
          sym (value c.find.result)
          ∙ ap optional (find_from_yields_List (λ k. ltb (get_or a.cells.now (k - 1) 0) 1 || ltb a.n (get_or a.cells.now (k - 1) 0)) _ _ c.find.result c.find.ensures.ran (YieldsList-from_range 1 (n + 1) n refl (omega arith)) (λ x b q k. search rules))
          ∙ find_elements test n
          ∙ find_same test (λ k. not (is_element a.n (at a.cells.now k))) (range 1 n) (λ k q. outside a.n (get_or a.cells.now (k - 1) 0));
    }
