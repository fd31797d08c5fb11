use Rattle.std.proofs.Common.{◌≡◌, [], refl, sym, subst, rules, arith, length}
use Rattle.std.specs.Prelude.{Some, None}
use Rattle.semigroups.proofs.Booleans.{clash}
use Rattle.products.specs.Tables.{times_of}
use Rattle.light.specs.InnerChoice.{FoundProducts}
use Rattle.light.proofs.Choice.{products_nil, next_generator, first_none, chosen_inside, chosen_next, no_generator}
use Rattle.light.proofs.choose.Goals as goal

pub loop-x-init : goal.loop-x-init
loop-x-init c =
    let s = times_of c.args.table.now in
    record {
      few = omega arith;
      rarest_first = first_none c.args.table.now.order s;
      products = subst (FoundProducts s []) (sym c.new-found.ensures.answer) (products_nil s);
    }

pub returns-then-n-count : goal.returns-then-n-count
returns-then-n-count c =
    let v = c.loop-x.invariant in
    let r = next_generator c.args.table.now.order (times_of c.args.table.now) _ _ _ (Some c.in-Some.x) c.frequencies-counts.ensures.answer v.products c.in-Some.ensures.rarest in
    record {
      choice = (
        c.loop-x.list,
        c.loop-x.count,
        record { few = v.few; rarest_first = v.rarest_first; enough = λ e. absurd (clash e refl); given_up = λ e. (omega arith, _, r.element, r.free) },
      );
    }

pub reach-requires-clause-list : goal.reach-requires-clause-list
reach-requires-clause-list c =
    let v = c.loop-x.invariant in
    let r = next_generator c.args.table.now.order (times_of c.args.table.now) _ _ _ (Some c.in-Some.x) c.frequencies-counts.ensures.answer v.products c.in-Some.ensures.rarest in
    let size : length c.loop-x.list ≡ 30 = search rules in
    chosen_inside (chosen_next v.rarest_first c.in-Some.x (omega arith) r)

pub loop-x-preserved : goal.loop-x-preserved
loop-x-preserved c =
    let v = c.loop-x.invariant in
    let r = next_generator c.args.table.now.order (times_of c.args.table.now) _ _ _ (Some c.in-Some.x) c.frequencies-counts.ensures.answer v.products c.in-Some.ensures.rarest in
    let size : length c.loop-x.list ≡ 30 = search rules in
    record { few = omega arith; rarest_first = chosen_next v.rarest_first c.in-Some.x (omega arith) r; products = c.reach.ensures.found }

pub returns : goal.returns
returns c =
    let v = c.loop-x.invariant in
    record {
      choice = record {
        few = v.few;
        rarest_first = v.rarest_first;
        enough = λ e. no_generator v.products (next_generator c.args.table.now.order (times_of c.args.table.now) _ _ _ None c.frequencies-counts.ensures.answer v.products c.in_default.ensures.rarest);
        given_up = λ e. absurd (clash refl e);
      };
    }
