-- What the constraints decide of an attempt: whether the list with x passes. Assumes nothing.
use Rattle.std.proofs.Common.{◌≡◌, sym, ◌∙◌, Bool, true, false, ◌&&◌, List, ℕ, ◌+◌, get_or, arith}
use Rattle.semigroups.specs.Lists.{member}
use Rattle.semigroups.specs.Tables.{Product, Element}
use Rattle.semigroups.specs.Trials.{passes}
use Rattle.semigroups.proofs.Tables.{product_element}
use Rattle.products.specs.Tables.{times_of}
use Rattle.constraints.specs.declared.Attempt.{Attempt}
use Rattle.constraints.specs.InnerAttempt.{placed_in, longer}
use Rattle.constraints.specs.InnerConstraints.{permits, near_fits, new_fits}
use Rattle.constraints.specs.InnerTracking.{Tracks}
use Rattle.constraints.proofs.Placing.{trial_length}
use Rattle.constraints.proofs.Noting.{constraints_refuse, constraints_allow, look_refuses}

module _ (a : Attempt) (forced owner : List ℕ) (fresh : member a.x (placed_in a) ≡ false) (W : Tracks (times_of a.source.now) (times_of a.target.now) (placed_in a) a.len 0 forced owner)
    (pass : passes (times_of a.source.now) (times_of a.target.now) (placed_in a) ≡ true) where
  abbrev s : Product
  s = times_of a.source.now

  abbrev t : Product
  t = times_of a.target.now

  abbrev allowed : Bool
  allowed = permits (get_or forced (a.len + 1) 0) a.x && permits (get_or owner a.x 0) (a.len + 1)

  abbrev near : Bool
  near = near_fits s t (longer a)

  small : Element 120 a.x
  small = let n = a.target.now.filled.order in let x = a.trial.element in omega arith

  -- A look that refuses x is right to do so.
  pub look : (b : Bool) → b ≡ (allowed && near) → b ≡ false → passes s t (longer a) ≡ false
  look b e h =
      let source = a.source.now.filled in
      look_refuses a.source.now.order s t (product_element _ _ source.size source.in_range) (placed_in a) a.len (trial_length _ _ _ _ _ a.trial) a.room a.x forced owner W source.order.1 pass small fresh (sym e ∙ h)

  pub refused : allowed ≡ false → false ≡ passes s t (longer a)
  refused h =
      let source = a.source.now.filled in
      sym (constraints_refuse a.source.now.order s t (product_element _ _ source.size source.in_range) (placed_in a) a.len (trial_length _ _ _ _ _ a.trial) a.room a.x forced owner W source.order.1 pass small fresh h)

  pub tested : allowed ≡ true → new_fits s t (longer a) ≡ passes s t (longer a)
  tested h =
      let source = a.source.now.filled in
      sym (constraints_allow a.source.now.order s t (product_element _ _ source.size source.in_range) (placed_in a) a.len (trial_length _ _ _ _ _ a.trial) a.room a.x forced owner W source.order.1 pass small fresh h)
