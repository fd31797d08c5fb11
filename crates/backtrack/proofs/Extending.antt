-- One call of the search over a partial map: how much of its work is left, turn by turn. Assumes nothing.
use mathlib.Core.Path.{◌≡◌, refl, sym, ap, ap₂, ◌∙◌}
use mathlib.Core.Bool.{Bool, true, false, cond, not, ◌&&◌, false≢true}
use mathlib.Core.Option.{Option, none, some}
use mathlib.Core.List.{List, [], ◌∷◌, ◌++◌}
use Prim.Native.Nat.{ℕ, suc, ◌+◌, ◌-◌, ◌≤◌, ◌<◌}
use native.Mathlib.Numerals.{add-one}
use native.Mathlib.Omega.{arith}
use borrow.Author.Tests.{not-true}
use lib.Dec.{eqb, leb}
use lib.ListN.{length, get_or, take}
use Rattle.semigroups.specs.Lists.{range, elements, all, member}
use Rattle.semigroups.specs.Tables.{Product, Element}
use Rattle.semigroups.specs.Scratch.{marked}
use Rattle.semigroups.specs.Trials.{passes, Work, work}
use Rattle.semigroups.specs.InnerTrials.{counted}
use Rattle.semigroups.proofs.Booleans.{and_left, and_right}
use Rattle.std.specs.Prelude.{None, Some, Result, Ok, Err, is_some}
use Rattle.placing.specs.declared.Partial.{Partial}
use Rattle.placing.specs.InnerPlaced.{prefix}
use Rattle.placing.proofs.Placed.{handed_on}
use Rattle.backtrack.specs.declared.asked.Search.{Search}
use Rattle.backtrack.specs.declared.Ended.{Ended}
use Rattle.backtrack.specs.declared.Stopped.{Stopped}
use Rattle.backtrack.specs.InnerState.{Ready, found_in, Remainder, exhausted, remaining, within, outcome_of, bounded, ended_of, ahead}
use Rattle.products.specs.Tables.{times_of}
use Rattle.constraints.specs.declared.Required.{Required}
use Rattle.constraints.specs.InnerTracking.{Placing, Tracks}
use Rattle.constraints.proofs.Placing.{prefix_length, image_padded, used_image}
use Rattle.backtrack.proofs.Limits.{resumed, within_nothing, within_skip, within_unpaid, within_paid, over_stopped, over_found, not_over}
use Rattle.backtrack.proofs.Steps.{lowest, left_from, whole, begin, end, is_open, tested, shut, opened, fails, goes, still_bound}

-- The search is ready to begin when nothing is placed.
pub start : (w : Search) (tight : Bool) (free : Required) (p : Partial) → p.len ≡ 0 → Placing w.target.now.order p.image p.used p.len
    → Tracks (times_of w.source.now) (times_of w.target.now) [] 0 0 free.forced free.owner → Ready w tight free p
unfolding passes all elements range
start w tight free p e P W = record { placing = P; tracks = rw e W; within = omega arith; passed = rw e; same = λ _. rw e }

-- Whether there is a map follows from the outcome of a search.
pub none_found : (o : Option (List ℕ)) → (found_in o).ok ≡ false → o ≡ none
unfolding outcome_of
none_found none e = refl
none_found (some f) e = absurd (false≢true (sym e))

-- The work that is left from x on, of the call that goes on from a partial map.
abbrev pub Rest : Search → Bool → Partial → ℕ → Work
Rest w tight p x =
    left_from (times_of w.source.now) (times_of w.target.now) (marked w.target.now.order w.scratch.now) (bounded tight w.after.now) w.target.now.order (w.source.now.order - (p.len + 1)) (prefix p) x

-- One turn of the loop: x is looked at with `left` trials left, and o says whether it is open.
pub record Turn (w : Search) (tight : Bool) (limit : ℕ) (known : Required) (p : Partial) (low left x : ℕ) (o : Bool) : Type 0 where
  pub ready : Ready w tight known p
  pub room : p.len < w.source.now.order
  pub bound : low ≡ lowest tight w.after.now p.len
  pub element : Element w.target.now.order x
  pub so_far : within limit (ahead w tight p) ≡ within left (Rest w tight p x)
  pub opened : o ≡ (leb low x && (eqb (get_or p.used x 0) 0 && marked w.target.now.order w.scratch.now (p.len + 1) x))

-- What is known once x is placed and passes: q is handed back.
pub record Verdict (w : Search) (p : Partial) (x : ℕ) (q : Partial) : Type 0 where
  pub placing : Placing w.target.now.order q.image q.used q.len
  pub longer : prefix q ≡ prefix p ++ x ∷ []
  pub before : take p.len q.image ≡ prefix p
  pub one_more : q.len ≡ p.len + 1
  pub passed : passes (times_of w.source.now) (times_of w.target.now) (prefix p ++ x ∷ []) ≡ true

module _ (w : Search) where
  abbrev m : ℕ
  m = w.source.now.order

  abbrev n : ℕ
  n = w.target.now.order

  abbrev s : Product
  s = times_of w.source.now

  abbrev t : Product
  t = times_of w.target.now

  abbrev after : List ℕ
  after = w.after.now

  abbrev marks : ℕ → ℕ → Bool
  marks = marked n w.scratch.now

  module _ {tight : Bool} {known : Required} {p : Partial} (Q : Ready w tight known p) where
    abbrev Whole : Work
    Whole = ahead w tight p

    long : length (prefix p) ≡ p.len
    long = prefix_length n p.image p.used p.len Q.placing

    same : tight ≡ true → take (length (prefix p)) after ≡ prefix p
    same e = ap (λ (k : ℕ). take k after) long ∙ Q.same e

    -- Once all elements are placed, the map is found unless it equals the bound.
    done : m ≤ p.len → (b : Bool) → tight ≡ b → work (cond (not b) (some (prefix p)) none) 0 ≡ Whole
    done h b f =
        let h0 = Q.within in
        let g = w.bound in
        let l = long in
        let e : 0 ≡ m - p.len = omega arith in
        ap (λ (c : Bool). work (cond (not c) (some (prefix p)) none) 0) (sym f)
        ∙ whole s t marks n after (prefix p) tight same (omega arith) ∙ ap (λ (d : ℕ). counted s t marks (bounded tight after) n d (prefix p)) e

    module _ (limit : ℕ) where
      pub done_bound : m ≤ p.len → tight ≡ true → Ok (record { left = limit; map = None }) ≡ ended_of (within limit Whole)
      unfolding ended_of
      done_bound h e = ap ended_of (sym (within_nothing limit none) ∙ ap (within limit) (done h true e))

      pub done_found : m ≤ p.len → tight ≡ false → Ok (record { left = limit; map = Some p.image }) ≡ ended_of (within limit Whole)
      unfolding ended_of
      done_found h e =
          ap {B = Result Ended Stopped} (λ (l : List ℕ). Ok (record { left = limit; map = Some l })) (image_padded n p.image p.used p.len Q.placing)
          ∙ ap ended_of (sym (within_nothing limit (some (prefix p))) ∙ ap (within limit) (done h false e))

    module _ (room : p.len < m) where
      short : length (prefix p) < length after
      short = let b = w.bound in let l = long in omega arith

      abbrev Left : ℕ → Work
      Left = Rest w tight p

      pub begins : Whole ≡ Left 1
      begins =
          ap (λ (d : ℕ). counted s t marks (bounded tight after) n d (prefix p)) (let e : m - p.len ≡ suc (m - (p.len + 1)) = omega arith in e)
          ∙ begin s t marks n after (prefix p) tight same (m - (p.len + 1)) short

      pub ends : (limit left x : ℕ) → n < x → within limit Whole ≡ within left (Left x)
          → Ok (record { left = left; map = None }) ≡ ended_of (within limit Whole)
      unfolding ended_of
      ends limit left x h e =
          ap ended_of (sym (e ∙ ap (within left) (end s t marks n after (prefix p) tight same (m - (p.len + 1)) short x h) ∙ within_nothing left none))

  module _ {tight : Bool} {limit : ℕ} {known : Required} {p : Partial} {low left x : ℕ} {o : Bool} (T : Turn w tight limit known p low left x o) where
    abbrev longer : List ℕ
    longer = prefix p ++ x ∷ []

    -- What the laws of one step require.
    abbrev kept : tight ≡ true → take (length (prefix p)) after ≡ prefix p
    kept = same T.ready

    abbrev shorter : length (prefix p) < length after
    shorter = short T.ready T.room

    abbrev d : ℕ
    d = m - (p.len + 1)

    -- What the code tests is whether x is open.
    low_here : low ≡ lowest tight after (length (prefix p))
    low_here = T.bound ∙ ap (lowest tight after) (sym (long T.ready))

    used_here : eqb (get_or p.used x 0) 0 ≡ not (member x (prefix p))
    used_here = used_image n p.image p.used p.len T.ready.placing x (omega arith)

    open_is : o ≡ is_open s t marks n after (prefix p) tight kept d shorter x T.element.0
    open_is =
        T.opened
        ∙ ap₂ ◌&&◌ (ap (λ (k : ℕ). leb k x) low_here)
        (ap₂ ◌&&◌ used_here (ap (λ (k : ℕ). marks k x) (add-one p.len ∙ ap suc (sym (long T.ready)))))

    -- The result of the call; after it, the result of what is left after x.
    abbrev Answer : Remainder
    Answer = within limit (ahead w tight p)

    abbrev Following : Work
    Following = Rest w tight p (x + 1)

    pub skip : o ≡ false → Answer ≡ within left Following
    skip h =
        T.so_far
        ∙ ap (within left) (shut s t marks n after (prefix p) tight kept d shorter x T.element.0 (sym open_is ∙ h) T.element.1)
        ∙ within_skip left Following

    -- If x is open, it is a trial.
    module _ (h : o ≡ true) where
      pub unused : member x (prefix p) ≡ false
      unused =
          let test = eqb (get_or p.used x 0) 0 in
          let mark = marks (p.len + 1) x in
          not-true (member x (prefix p)) (sym used_here ∙ and_left test mark (and_right (leb low x) (test && mark) (sym T.opened ∙ h)))

      -- If no trial is left for it, the search is stopped.
      pub stop : (e : Stopped) → exhausted ≡ within left (work none 1) → Err e ≡ ended_of Answer
      unfolding ended_of
      stop e h1 =
          ap ended_of (sym (T.so_far
          ∙ ap (within left) (opened s t marks n after (prefix p) tight kept d shorter x T.element.0 (sym open_is ∙ h) T.element.1)
          ∙ within_unpaid left (tested s t marks n after (prefix p) tight kept d shorter x T.element.0) Following h1))

      -- Otherwise it is paid for, and `rest` trials are left.
      module _ (rest : ℕ) (paid : remaining rest none ≡ within left (work none 1)) where
        pub refuse : passes s t longer ≡ false → Answer ≡ within rest Following
        refuse f =
            T.so_far
            ∙ ap (within left) (fails s t marks n after (prefix p) tight kept d shorter x T.element.0 (sym open_is ∙ h) f T.element.1)
            ∙ within_paid left (work none 0) Following rest paid
            ∙ ap (λ (r : Remainder). resumed r (λ i. within i Following)) (within_nothing rest none)

        -- The list passes, and q is handed back.
        module _ (q : Partial) (v : Verdict w p x q) where
          pub onward : (required : Required) → Tracks s t (prefix p) p.len 0 required.forced required.owner → Ready w (eqb x low) required q
          onward required W =
              let room = T.room in
              let l = v.one_more in
              record {
                placing = v.placing;
                tracks = handed_on s t p q v.one_more v.before required.forced required.owner W;
                within = omega arith;
                passed = ap (passes s t) v.longer ∙ v.passed;
                same = λ b.
                    ap (λ (k : ℕ). take k after) (v.one_more ∙ add-one p.len ∙ ap suc (sym (long T.ready)))
                    ∙ still_bound after (prefix p) tight kept shorter x T.element.0 (ap (eqb x) (sym low_here) ∙ b) ∙ sym v.longer;
              }

          -- What the call for the next element leaves.
          abbrev Inner : Remainder
          Inner = within rest (ahead w (eqb x low) q)

          inner : ahead w (eqb x low) q ≡ counted s t marks (bounded (eqb x (lowest tight after (length (prefix p)))) after) n d longer
          inner =
              ap (λ (k : ℕ). counted s t marks (bounded (eqb x k) after) n (m - q.len) (prefix q)) low_here
              ∙ ap₂ (λ (i : ℕ) (l : List ℕ). counted s t marks (bounded (eqb x (lowest tight after (length (prefix p)))) after) n i l) (let l = v.one_more in let e : m - q.len ≡ d = omega arith in e) v.longer

          resumes : Answer ≡ resumed Inner (λ i. within i Following)
          resumes =
              T.so_far
              ∙ ap (within left) (goes s t marks n after (prefix p) tight kept d shorter x T.element.0 (sym open_is ∙ h) v.passed T.element.1)
              ∙ within_paid left (counted s t marks (bounded (eqb x (lowest tight after (length (prefix p)))) after) n d longer) Following rest paid
              ∙ ap (λ (u : Work). resumed (within rest u) (λ i. within i Following)) (sym inner)

          pub halt : (e : Stopped) → Err e ≡ ended_of Inner → Err e ≡ ended_of Answer
          halt e i = i ∙ ap ended_of (sym (resumes ∙ over_stopped (λ i. within i Following) Inner e i))

          pub found : (r : Ended) → Ok r ≡ ended_of Inner → is_some r.map ≡ true → Ok r ≡ ended_of Answer
          found r i e = i ∙ ap ended_of (sym (resumes ∙ over_found (λ i. within i Following) Inner r i e))

          pub fail : (r : Ended) → Ok r ≡ ended_of Inner → is_some r.map ≡ false → Answer ≡ within r.left Following
          fail r i e = resumes ∙ not_over (λ i. within i Following) Inner r i e
