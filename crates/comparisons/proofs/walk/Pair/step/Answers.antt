-- The library and the second search both say and leave what the definition does, so they agree.
use Rattle.std.proofs.Common.{List, ℕ, Bool, Ok, ◌≡◌, ◌∙◌, ◌++◌, sym, ap, take, drop, length, nat_eq, rules}
use Rattle.std.specs.Bool.{then_some}
use Rattle.std.specs.Result.{result_eq}
use Rattle.std.proofs.lemmas.Bool.Decides.{Decides-eqb}
use Rattle.std.proofs.lemmas.Slice.Eq.{slice_eq-Decides}
use Rattle.std.proofs.Math.Option.{Option, get_or}
use mathlib.Core.Bool.{beq}
use Rattle.std.proofs.lemmas.List.{take-append-drop}
use Rattle.semigroups.specs.Lists.{is_some}
use Rattle.semigroups.specs.Results.{optional}
use Rattle.semigroups.proofs.Booleans.{both}
use Rattle.plain.specs.InnerTables.{kind_of}
use Rattle.comparisons.specs.InnerSaid.{search_said}
use Rattle.comparisons.specs.InnerWalking.{walk_found}
use Rattle.comparisons.proofs.Walking.{kind_kept, kept_in, the_answer, called_says, called_map, called_found, same_answer, same_buffer, buffer_found}
use Rattle.comparisons.proofs.walk.Pair.step.Goals as goal

pub returns : goal.returns
returns c =
    let a = c.args in
    let p = a.self.now in
    let rest : List ℕ = drop p.m a.before in
    let bytes : List ℕ = take p.m a.before in
    let o : Option (List ℕ) = the_answer (kind_of a.kind) a.next p.source.now p.m p.target.now p.n a.before in
    let buffer : List ℕ = c.search-answer.new.map ++ rest in
    let long : length a.before ≡ 5 = search rules in
    let kept = kind_kept _ _ c.kind_of.ensures.answer c.search-answer.ensures.call in
    let says : c.search_said-said.result ≡ Ok (is_some o) =
    c.search_said-said.ensures.answer ∙ ap search_said kept.0
    ∙ called_says (kind_of a.kind) a.next p.source.now p.m p.target.now p.n a.before p.source_accepted p.target_accepted p.small long in
    let left : buffer ≡ get_or o bytes ++ rest =
    ap (λ (l : List ℕ). l ++ rest) (kept.1 ∙ called_map (kind_of a.kind) a.next p.source.now p.m p.target.now p.n a.before p.source_accepted p.target_accepted p.small long) in
    let found : walk_found (kind_of a.kind) a.next p.source.now p.m p.target.now p.n a.before ≡ kept_in rest o =
    called_found (kind_of a.kind) a.next p.source.now p.m p.target.now p.n a.before p.source_accepted p.target_accepted p.small long in
    let second : optional c.expected-second.result ≡ kept_in rest o = c.expected-second.ensures.answer ∙ found in
    let answers =
    c.eq-same_answer.ensures ∙ ap (λ (b : Bool). result_eq beq nat_eq c.search_said-said.result (Ok b)) c.is_some.ensures
    ∙ same_answer o bytes rest c.expected-second.result second c.search_said-said.result says in
    let buffers =
    (slice_eq-Decides Decides-eqb buffer c.unwrap_or.result c.eq-same_bytes.result c.eq-same_bytes.ensures).1
    (same_buffer o bytes rest c.expected-second.result second buffer a.before left (sym (take-append-drop p.m a.before)) ∙ sym c.unwrap_or.ensures) in
    record {
      same = both _ _ answers buffers;
      found =
          ap optional c.then_some.ensures ∙ ap (λ (b : Bool). optional (then_some b buffer)) c.eq.ensures
          ∙ buffer_found o bytes rest buffer c.search_said-said.result says left ∙ sym found;
      long = search rules;
    }
