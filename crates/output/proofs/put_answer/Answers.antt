-- `put_answer` lends accepted tables and buffers of the right length: the map is found, or there is none. Assumes nothing.
use mathlib.Core.Path.{◌≡◌, ◌∙◌}
use mathlib.Core.List.{List, ◌++◌}
use Prim.Native.Nat.{ℕ, ◌≤◌}
use native.Mathlib.Omega.{arith}
use lib.ListN.{length, take, drop, replicate, length-append}
use lib.Seq.{length-take-le, take_at}
use Rattle.semigroups.proofs.Candidates.{size_limit}
use Rattle.output.proofs.Said.{found_answer, none_answer}
use Rattle.output.proofs.put_answer.Goals as goal

-- The front of a map buffer with room for m bytes.
module _ (m : ℕ) (h : m ≤ 120) where
  abbrev map_lent : List ℕ
  map_lent = take m (replicate 120 0)

  map_size : length map_lent ≡ m
  map_size = length-take-le m (replicate 120 0) h

  -- The map that a search leaves there, of the same length, is the front of the array afterwards.
  module _ (left : List ℕ) (kept : length left ≡ length map_lent) where
    abbrev following : List ℕ
    following = drop m (replicate 120 0)

    whole : length left ≡ m
    whole = kept ∙ map_size

    front : length (take m (left ++ following)) ≡ m
    front = length-take-le m (left ++ following) (omega (arith, length-append left following, whole))

pub find-found-requires-clause-map_len : goal.find-found-requires-clause-map_len
find-found-requires-clause-map_len c =
    let order = c.requires.tables.0.filled.order.1 in
    (map_size c.args.m order, size_limit c.args.m c.args.n order c.requires.tables.1.filled.order.1)

pub returns-then-not-found : goal.returns-then-not-found
returns-then-not-found c =
    let w = none_answer _ _ _ _ (map_lent c.args.m c.requires.tables.0.filled.order.1) (replicate 1800 0) c.find-found.result c.find-found.ensures.call _ c.if-not-found.true (omega (arith, c.told-out)) c.put_first.ensures.answer c.put_first.ensures.out in
    record { answer = w.size; out = w.text }

pub returns : goal.returns
returns c =
    let order = c.requires.tables.0.filled.order.1 in
    let left = c.find-found.new.map in
    let kept = c.find-found.auto.map in
    let w = found_answer _ _ _ _ (map_lent c.args.m order) (replicate 1800 0) c.find-found.result c.find-found.ensures.call _ c.if-not-found.false _ (take_at left (following c.args.m order left kept) c.args.m (whole c.args.m order left kept)) (front c.args.m order left kept) c.put_found.ensures.answer c.put_found.ensures.out in
    record { answer = w.size; out = w.text }
