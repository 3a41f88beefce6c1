-- Circles: what at most 16 links find is a circle of any length; and what a changed wait or holder makes of them.
use Prim.Native.Nat.{ℕ, ◌≤◌, ◌<◌}
use mathlib.Core.Path.{◌≡◌, refl, sym, ap, ◌∙◌, subst}
use mathlib.Core.Logic.{◌⊎◌, inl, inr}
use mathlib.Core.Bool.{Bool, true, false}
use mathlib.Core.List.{List}
use native.Mathlib.Omega.{arith}
use lib.Dec.{ltb}
use lib.ListN.{length, set, length-set}
use borrow.Author.Tests.{ltb-true, ltb-false, lt-ltb}
use Rattle.lists.proofs.Bools.{and_right, and_intro}
use Rattle.numbers.specs.Numbers.{task}
use Rattle.chains.specs.Chains.{Along}
use Rattle.chains.proofs.Paths.{within_along, along_within}
use Rattle.chains.proofs.Circles.{Straight, from_past, along_low, last_on, straight_ends, straight_if, if_straight, ended_straight, now_as_then, link_straight}
use Rattle.slots.specs.Values.{task_at}
use Rattle.rules.specs.Types.{TaskSlot, Wake, Free, Waiting, Task, Object, Wait}
use Rattle.rules.specs.Loans.{for_whom, waits_for}
use Rattle.rules.specs.Circles.{leads_to, no_circle}
use Rattle.rules.specs.Sentences.{Reaches, Circle, back, NoCircle}
use Rattle.rules.proofs.TableSlots.{past_tasks}
use Rattle.rules.proofs.LoanRule.{next_of, waits_for_holder, by_link, links_past, reaches_along, along_reaches}
use Rattle.rules.proofs.KeepSlot.{at_same, at_other}

-- from nobody it leads to nobody
pub nobody_leads : (ts : List Task) (os : List Object) (u : TaskSlot) → leads_to ts os (task 16) u ≡ false
unfolding leads_to
nobody_leads ts os u = refl

module _ (ts : List Task) (os : List Object) (full : length ts ≡ 16) where
  -- ── the test of a chain is the chain
  pub leads_reaches : (h u : TaskSlot) → u.0 < 16 → leads_to ts os h u ≡ true → Reaches ts os h u
  unfolding leads_to
  leads_reaches h u l e = along_reaches ts os full l (within_along (next_of ts os) 16 h.0 u.0 (and_right (ltb h.0 16) _ e))

  pub reaches_leads : (h u : TaskSlot) → u.0 < 16 → Reaches ts os h u → leads_to ts os h u ≡ true
  unfolding leads_to
  reaches_leads h u l r =
      let a = reaches_along ts os full r in
      and_intro (ltb h.0 16) _ (lt-ltb h.0 16 (along_low (next_of ts os) (links_past ts os full) l a)) (along_within (next_of ts os) (links_past ts os full) u.0 l h.0 a)

  -- ── circles by slots and by numbers
  -- who waits has a slot
  pub waits_low : (s : TaskSlot) (y : Wait) (w : Wake) → (task_at ts s).place ≡ Waiting y w → s.0 < 16
  waits_low s y w p = go (ltb s.0 16) refl
    where
      go : (b : Bool) → ltb s.0 16 ≡ b → s.0 < 16
      go true e = ltb-true s.0 16 e
      go false e =
          let g : length ts ≤ s.0 = omega (arith, ltb-false s.0 16 e) in
          let q : Free ≡ Waiting y w = sym (ap (λ (x : Task). x.place) (past_tasks ts s g)) ∙ p in
          absurd (let z : ◌≡◌ {A = ℕ} 0 1 = cc in omega arith)

  pub circle_along : {s : TaskSlot} → Circle ts os s → (s.0 < 16) × Along (next_of ts os) (next_of ts os s.0) s.0
  circle_along {s} (back {h = h} o w p q r) =
      let e : next_of ts os s.0 ≡ h.0 = ap (λ (v : TaskSlot). v.0) (waits_for_holder ts os s h o w p q) in
      (waits_low s o w p, subst (λ (n : ℕ). Along (next_of ts os) n s.0) (sym e) (reaches_along ts os full r))

  pub along_circle : (s : TaskSlot) → s.0 < 16 → Along (next_of ts os) (next_of ts os s.0) s.0 → Circle ts os s
  along_circle s l a =
      by_link ts os s (Circle ts os s)
      (λ e. absurd (from_past (next_of ts os) (links_past ts os full) (let z : 16 ≤ next_of ts os s.0 = omega (arith, ap (λ (v : TaskSlot). v.0) e) in z) l a))
      (λ o w h p q. back o w p q (subst (λ v. Reaches ts os v s) (waits_for_holder ts os s h o w p q) (along_reaches ts os full l a)))

  pub none_straight : NoCircle ts os → Straight (next_of ts os)
  none_straight f s l a = f (task s) (along_circle (task s) l a)

  pub straight_none : Straight (next_of ts os) → NoCircle ts os
  straight_none f s c = let t = circle_along c in f s.0 t.0 t.1

  -- ── the test is true exactly if there is no circle of any length
  pub circles_say : no_circle ts os ≡ true → NoCircle ts os
  unfolding no_circle leads_to
  circles_say e = straight_none (straight_if (next_of ts os) (links_past ts os full) e)

  pub says_circles : NoCircle ts os → no_circle ts os ≡ true
  unfolding no_circle leads_to
  says_circles f = if_straight (next_of ts os) (links_past ts os full) (none_straight f)

  -- every chain then ends at someone who waits for nobody
  pub chain_last : NoCircle ts os → (t : TaskSlot) → t.0 < 16 → (u : TaskSlot) × Reaches ts os t u × (16 ≤ (waits_for ts os u).0)
  chain_last f t l =
      let e = last_on (next_of ts os) (links_past ts os full) 16 t.0 (straight_ends (next_of ts os) (links_past ts os full) (none_straight f) t.0) l in
      (task e.0, along_reaches ts os full e.2 e.1, e.3)

  -- nobody waits for nobody
  pub nobody_for_nobody : waits_for ts os (task 16) ≡ task 16
  nobody_for_nobody = let g : length ts ≤ 16 = omega arith in ap (λ (x : Task). for_whom os x.place) (past_tasks ts (task 16) g)

-- ── waits and holders changed: whoever waits for another than before waits for someone who waits for nobody
pub loosened : (ts us : List Task) (os ps : List Object) → length ts ≡ 16 → length us ≡ 16 → NoCircle ts os
    → ((t : TaskSlot) → (waits_for us ps t ≡ waits_for ts os t) ⊎ (waits_for us ps (waits_for us ps t) ≡ task 16)) → NoCircle us ps
loosened ts us os ps l m f g = straight_none us ps m (ended_straight (next_of ts os) (next_of us ps) (links_past us ps m) (λ s h. go s (g (task s))) (none_straight ts os l f))
  where
    go : (s : ℕ) → (waits_for us ps (task s) ≡ waits_for ts os (task s)) ⊎ (waits_for us ps (waits_for us ps (task s)) ≡ task 16) → (next_of us ps s ≡ next_of ts os s) ⊎ (16 ≤ next_of us ps (next_of us ps s))
    go s (inl e) = inl (ap (λ (v : TaskSlot). v.0) e)
    go s (inr e) = inr (omega (arith, ap (λ (v : TaskSlot). v.0) e))

-- ── one wait changed: no circle comes of it unless the chain from whom the task now waits for leads back to it, and then one does
module _ (ts : List Task) (os : List Object) (full : length ts ≡ 16) (c : TaskSlot) (low : c.0 < 16) (x : Task) where
  abbrev us : List Task
  us = set ts c.0 x

  still_full : length us ≡ 16
  still_full = length-set ts c.0 x ∙ full

  others : (s : ℕ) → (s ≡ c.0 → ⊥) → next_of us os s ≡ next_of ts os s
  others s d = ap (λ (y : Task). (for_whom os y.place).0) (at_other ts c x (task s) d)

  new_link : next_of us os c.0 ≡ (for_whom os x.place).0
  new_link = ap (λ (y : Task). (for_whom os y.place).0) (at_same ts c x (omega (arith, full)))

  pub links_open : NoCircle ts os → (Reaches ts os (for_whom os x.place) c → ⊥) → NoCircle us os
  links_open f g =
      straight_none us os still_full
      (link_straight (next_of ts os) (next_of us os) c.0 others (none_straight ts os full f)
      (λ a. g (along_reaches ts os full low (subst (λ (n : ℕ). Along (next_of ts os) n c.0) new_link a))))

  pub links_closed : Reaches ts os (for_whom os x.place) c → Circle us os c
  links_closed r =
      along_circle us os still_full c low
      (now_as_then (next_of ts os) (next_of us os) c.0 others (subst (λ (n : ℕ). Along (next_of ts os) n c.0) (sym new_link) (reaches_along ts os full r)))
