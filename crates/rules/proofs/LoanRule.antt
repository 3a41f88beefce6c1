-- The rule of effective priorities: what at most 16 links give is the largest own priority over any number of links, of every kernel value, circles included.
use Prim.Native.Nat.{ℕ, ◌≤◌, ◌<◌}
use mathlib.Core.Path.{◌≡◌, refl, sym, ap, ◌∙◌, subst}
use mathlib.Core.Bool.{Bool, true, false}
use mathlib.Core.List.{List}
use native.Mathlib.Omega.{arith}
use lib.Dec.{ltb}
use lib.ListN.{length, get_or}
use borrow.Author.Tests.{ltb-true, ltb-false}
use Rattle.numbers.specs.Numbers.{task}
use Rattle.chains.specs.Chains.{Along, here, link}
use Rattle.chains.proofs.Lending.{level_least, level_one, levels_sixteen, levels_same}
use Rattle.slots.specs.Kinds.{kind_at, hands, by_whom, holder_of}
use Rattle.slots.specs.Values.{task_at}
use Rattle.rules.specs.Types.{TaskSlot, Wake, Place, Free, Ready, Delayed, Waiting, Suspended, Spent, Task, Holder, Nobody, By, Object, Wait}
use Rattle.rules.specs.Lines.{level}
use Rattle.rules.specs.Loans.{for_whom, waits_for, ruled, Reckoned}
use Rattle.rules.specs.Sentences.{Holds, HoldsNothing, Reaches, itself, along, LargestOwn, Levels}
use Rattle.rules.proofs.TableSlots.{past_tasks}

module _ (ts : List Task) (os : List Object) where
  abbrev pub own_of : ℕ → ℕ
  own_of n = (task_at ts (task n)).own

  abbrev pub next_of : ℕ → ℕ
  next_of n = (waits_for ts os (task n)).0

  -- ── one link
  -- who waits on a held mutex waits for its holder
  pub waits_for_holder : (s h : TaskSlot) (y : Wait) (w : Wake) → (task_at ts s).place ≡ Waiting y w → Holds os h y.object → waits_for ts os s ≡ h
  waits_for_holder s h o w p q = rw (p, q)

  -- and everyone else for nobody
  by_kind_waited : (s : TaskSlot) (y : Wait) (w : Wake) (P : Type 0) → (task_at ts s).place ≡ Waiting y w → (holder_of (kind_at os y.object) ≡ task 16 → P)
      → ((h : TaskSlot) → Holds os h y.object → P) → P
  by_kind_waited s y w P e none some = go (hands (kind_at os y.object)) refl
    where
      go : (x : Holder) → hands (kind_at os y.object) ≡ x → P
      go Nobody q = none (ap by_whom q)
      go (By h) q = some h q

  pub by_link : (s : TaskSlot) (P : Type 0) → (waits_for ts os s ≡ task 16 → P) → ((y : Wait) (w : Wake) (h : TaskSlot) → (task_at ts s).place ≡ Waiting y w → Holds os h y.object → P) → P
  by_link s P none some = go (task_at ts s).place refl
    where
      go : (p : Place) → (task_at ts s).place ≡ p → P
      go Free e = none (rw e)
      go Ready e = none (rw e)
      go (Delayed w) e = none (rw e)
      go (Waiting o w) e = by_kind_waited s o w P e (λ q. none (rw e q)) (λ h q. some o w h e q)
      go Suspended e = none (rw e)
      go Spent e = none (rw e)

  -- ── a task that holds nothing is reached by itself alone
  pub reached_alone : {s t : TaskSlot} → HoldsNothing os t → Reaches ts os s t → s ≡ t
  reached_alone f itself = refl
  reached_alone {s} {t} f (along {h = h} y w p q r) = let e : h ≡ t = reached_alone f r in absurd (f y.object (q ∙ ap By e))

  module _ (full : length ts ≡ 16) where
    pub links_past : (s : ℕ) → 16 ≤ s → 16 ≤ next_of s
    links_past s l =
        let g : length ts ≤ s = omega arith in
        let e : next_of s ≡ 16 = ap (λ (x : Task). (for_whom os x.place).0) (past_tasks ts (task s) g) in
        omega arith

    from_past : {s t : TaskSlot} → 16 ≤ s.0 → Reaches ts os s t → s ≡ t
    from_past l itself = refl
    from_past {s} l (along o w p q r) =
        let g : length ts ≤ s.0 = omega arith in
        let e : Free ≡ Waiting o w = sym (ap (λ (x : Task). x.place) (past_tasks ts s g)) ∙ p in
        absurd (let z : ◌≡◌ {A = ℕ} 0 1 = cc in omega arith)

    -- ── any number of links, by slots and by numbers
    pub reaches_along : {s t : TaskSlot} → Reaches ts os s t → Along next_of s.0 t.0
    reaches_along itself = here
    reaches_along {s} {t} (along {h = h} o w p q r) =
        let e : next_of s.0 ≡ h.0 = ap (λ (v : TaskSlot). v.0) (waits_for_holder s h o w p q) in link {u = t.0} (subst (λ (n : ℕ). Along next_of n t.0) (sym e) (reaches_along r))

    pub along_reaches : {s u : ℕ} → u < 16 → Along next_of s u → Reaches ts os (task s) (task u)
    along_reaches l here = itself
    along_reaches {s} {u} l (link a) =
        let ih = along_reaches l a in
        by_link (task s) (Reaches ts os (task s) (task u))
        (λ e. absurd (let far : 16 ≤ next_of s = omega (arith, ap (λ (v : TaskSlot). v.0) e) in let z : next_of s ≡ u = ap (λ (v : TaskSlot). v.0) (from_past far ih) in omega arith))
        (λ o w h p q. along o w p q (subst (λ v. Reaches ts os v (task u)) (waits_for_holder (task s) h o w p q) ih))

    -- ── the rule
    pub ruled_rule : (t : TaskSlot) → t.0 < 16 → LargestOwn ts os t (get_or (ruled ts os) t.0 0)
    unfolding ruled
    ruled_rule t h =
        let one = level_one own_of next_of links_past t.0 h in
        record { at_least = least; whose = task one.0; reaches = along_reaches h one.2; own = one.3 }
      where
        least : (s : TaskSlot) → Reaches ts os s t → (task_at ts s).own ≤ get_or (ruled ts os) t.0 0
        least s r = go (ltb s.0 16) refl
          where
            go : (b : Bool) → ltb s.0 16 ≡ b → (task_at ts s).own ≤ get_or (ruled ts os) t.0 0
            go true e = level_least own_of next_of links_past t.0 h s.0 (ltb-true s.0 16 e) (reaches_along r)
            go false e = let g : length ts ≤ s.0 = omega (arith, ltb-false s.0 16 e) in rw (past_tasks ts s g) (omega arith)

  -- there is no second
  pub largest_one : (t : TaskSlot) (p q : ℕ) → LargestOwn ts os t p → LargestOwn ts os t q → p ≡ q
  largest_one t p q P Q = omega (arith, P.at_least Q.whose Q.reaches, Q.at_least P.whose P.reaches, P.own, Q.own)

  pub ruled_sixteen : length (ruled ts os) ≡ 16
  unfolding ruled
  ruled_sixteen = levels_sixteen own_of next_of

  -- ── who holds nothing has its own priority
  pub alone_own : length ts ≡ 16 → (t : TaskSlot) → t.0 < 16 → HoldsNothing os t → get_or (ruled ts os) t.0 0 ≡ (task_at ts t).own
  alone_own full t h f = let R = ruled_rule full t h in sym R.own ∙ ap (λ v. (task_at ts v).own) (reached_alone f R.reaches)

-- nothing but the rule matters: the same owns, waits and holders have the same effective priorities
pub ruled_same : (ts us : List Task) (os ps : List Object) → ((t : TaskSlot) → t.0 < 16 → (task_at ts t).own ≡ (task_at us t).own)
    → ((t : TaskSlot) → t.0 < 16 → waits_for ts os t ≡ waits_for us ps t) → ruled ts os ≡ ruled us ps
unfolding ruled
ruled_same ts us os ps e f = levels_same (own_of ts os) (own_of us ps) (next_of ts os) (next_of us ps) (λ s l. e (task s) l) (λ s l. ap (λ (v : TaskSlot). v.0) (f (task s) l))

-- where no wait is new, nobody gets more
module _ (ts us : List Task) (os : List Object) (old : (t : TaskSlot) (y : Wait) (w : Wake) → (task_at us t).place ≡ Waiting y w → (task_at ts t).place ≡ Waiting y w) where
  pub fewer_reach : {s t : TaskSlot} → Reaches us os s t → Reaches ts os s t
  fewer_reach itself = itself
  fewer_reach {s} (along o w p q r) = along o w (old s o w p) q (fewer_reach r)

  pub ruled_less : length ts ≡ 16 → length us ≡ 16 → ((t : TaskSlot) → (task_at us t).own ≡ (task_at ts t).own) → (t : TaskSlot) → t.0 < 16 → get_or (ruled us os) t.0 0 ≤ get_or (ruled ts os) t.0 0
  ruled_less l m own t h =
      let U = ruled_rule us os m t h in
      let T = ruled_rule ts os l t h in
      omega (arith, T.at_least U.whose (fewer_reach U.reaches), own U.whose, U.own)

-- ── each effective priority is the rule's
pub levels_reckoned : (ts : List Task) (os : List Object) → length ts ≡ 16 → Levels ts os → Reckoned ts os
levels_reckoned ts os l L t h = largest_one ts os t (level ts t) (get_or (ruled ts os) t.0 0) (L.rule t h) (ruled_rule ts os l t h)

-- each is someone's own, and so within their range
pub level_range : (ts : List Task) (os : List Object) → length ts ≡ 16 → Levels ts os → (t : TaskSlot) → level ts t ≤ 31
level_range ts os l L t = go (ltb t.0 16) refl
  where
    go : (b : Bool) → ltb t.0 16 ≡ b → level ts t ≤ 31
    go true e = let R = L.rule t (ltb-true t.0 16 e) in omega (arith, R.own, L.range R.whose)
    go false e = let g : length ts ≤ t.0 = omega (arith, ltb-false t.0 16 e) in omega (arith, ap (λ (x : Task). x.effective) (past_tasks ts t g))

pub reckoned_levels : (ts : List Task) (os : List Object) → length ts ≡ 16 → Reckoned ts os → ((t : TaskSlot) → (task_at ts t).own ≤ 31) → Levels ts os
reckoned_levels ts os l R few = record { rule = λ t h. rw (R t h) (ruled_rule ts os l t h); range = few }
