use Rattle.std.proofs.Common.{ℕ, List, ◌≡◌, ◌<◌, ◌∙◌, sym, ap, ap₂, subst, arith, length, get_or}
use Rattle.semigroups.specs.Tables.{Product, Element}
use Rattle.semigroups.specs.InnerGenerated.{Inside}
use Rattle.semigroups.proofs.NoRepeats.{place_mem}
use Rattle.products.specs.Tables.{times_of}
use Rattle.light.specs.InnerFound.{adding}
use Rattle.generated.proofs.Found.{multiplied_to, multiplied_none, multiplied_next, multiplied_place, multiplied_longer, multiplied_element, multiplied_all}
use Rattle.generated.proofs.multiply.Goals as goal

-- The element that x is multiplied with.
second : (n : ℕ) (s : Product) (r q : List ℕ) (x i y : ℕ) → Inside n r → q ≡ multiplied_to s r x i → i < length r → y ≡ get_or q i 0 → Element n y
second n s r q x i y inside e h g =
    subst (Element n) (sym (g ∙ ap (λ (l : List ℕ). get_or l i 0) e)) (multiplied_element s r x n i inside i h)

pub loop-i-init : goal.loop-i-init
loop-i-init c = sym (multiplied_none (times_of c.args.table.now) c.args.found.now c.at-x.result)

pub at-y-requires : goal.at-y-requires
at-y-requires c =
    let longer = multiplied_longer (times_of c.args.table.now) c.args.found.now c.at-x.result c.loop-i.i in
    omega (arith, ap length c.loop-i.invariant)

pub times-requires-clause-left : goal.times-requires-clause-left
times-requires-clause-left c = subst (Element c.args.table.now.order) (sym c.at-x.ensures.answer) (c.requires.inside _ (place_mem 0 _ _ c.requires.place))

pub times-requires-clause-right : goal.times-requires-clause-right
times-requires-clause-right c = second c.args.table.now.order (times_of c.args.table.now) _ _ _ _ _ c.requires.inside c.loop-i.invariant (omega arith) c.at-y.ensures.answer

pub times-requires-in-loop-i-clause-left : goal.times-requires-in-loop-i-clause-left
times-requires-in-loop-i-clause-left c = second c.args.table.now.order (times_of c.args.table.now) _ _ _ _ _ c.requires.inside c.loop-i.invariant (omega arith) c.at-y.ensures.answer

pub times-requires-in-loop-i-clause-right : goal.times-requires-in-loop-i-clause-right
times-requires-in-loop-i-clause-right c = subst (Element c.args.table.now.order) (sym c.at-x.ensures.answer) (c.requires.inside _ (place_mem 0 _ _ c.requires.place))

pub loop-i-preserved : goal.loop-i-preserved
loop-i-preserved c =
    let s = times_of c.args.table.now in
    let r = c.args.found.now in
    let l = c.loop-i in
    let y : c.at-y.result ≡ get_or r l.i 0 = c.at-y.ensures.answer ∙ ap (λ (q : List ℕ). get_or q l.i 0) l.invariant ∙ multiplied_place s r c.at-x.result l.i l.i (omega arith) in
    c.add-in-loop-i.ensures.answer ∙ ap₂ adding (c.add.ensures.answer ∙ ap₂ adding l.invariant c.times.ensures.answer) c.times-in-loop-i.ensures.answer
    ∙ multiplied_next s r c.at-x.result l.i c.at-y.result (omega arith) y

pub returns : goal.returns
returns c =
    let s = times_of c.args.table.now in
    let r = c.args.found.now in
    record {
      found = c.loop-i.invariant ∙ ap₂ (λ (x i : ℕ). multiplied_to s r x i) c.at-x.ensures.answer (omega arith) ∙ multiplied_all s r c.args.place;
    }
