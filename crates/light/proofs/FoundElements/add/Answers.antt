use Rattle.std.proofs.Common.{List, ℕ, ◌∙◌, sym, ap}
use Rattle.light.specs.InnerFound.{adding}
use Rattle.light.proofs.Found.{found_list, found_again, found_kept, found_space, found_added}
use Rattle.light.proofs.FoundElements.add.Goals as goal

pub bounds-self-inside-self-inside : goal.bounds-self-inside-self-inside
bounds-self-inside-self-inside c = found_space c.self.invariant c.args.x c.requires c.if-self-x-eq0.true

pub invariant_of-self : goal.invariant_of-self
invariant_of-self c = found_again (found_added c.self.invariant c.args.x c.requires c.if-self-x-eq0.true)

pub returns-then-self-x-eq0 : goal.returns-then-self-x-eq0
returns-then-self-x-eq0 c =
    record {
      answer = found_list (found_added c.self.invariant c.args.x c.requires c.if-self-x-eq0.true) ∙ ap (λ (r : List ℕ). adding r c.args.x) c.self.view_is;
    }

-- An element with a mark is found already.
pub returns-else-self-x-eq0 : goal.returns-else-self-x-eq0
returns-else-self-x-eq0 c =
    record {
      answer = sym c.self.view_is ∙ found_list (found_kept c.self.invariant c.args.x c.requires c.if-self-x-eq0.false)
          ∙ ap (λ (r : List ℕ). adding r c.args.x) c.self.view_is;
    }
