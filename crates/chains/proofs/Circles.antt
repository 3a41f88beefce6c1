-- Circles: a chain ends exactly if it runs into none; and what a changed link makes of them.
use Prim.Native.Nat.{ℕ, zero, suc, ◌≤◌, ◌<◌}
use native.Mathlib.Omega.{arith}
use mathlib.Core.Path.{◌≡◌, refl, sym, ◌∙◌, subst}
use mathlib.Core.Logic.{◌⊎◌, inl, inr}
use mathlib.Core.Bool.{Bool, true, false, not, ◌&&◌, ◌||◌, false≢true}
use lib.Dec.{eqb, ltb, leb}
use borrow.Author.Tests.{ltb-true, ltb-false, lt-ltb, leb-true, leb-false, eqb-true, eqb-false}
use Rattle.lists.specs.Lists.{all_below}
use Rattle.lists.proofs.Bools.{and_left, and_right, and_intro, off, not_off, untrue, all_below_lem, below_all, same_test}
use Rattle.chains.specs.Chains.{within, ends, Along, here, link}
use Rattle.chains.proofs.Many.{how_many, many_at_most, many_le, many_same, many_some}
use Rattle.chains.proofs.Paths.{within_along, along_within, within_itself}

-- no chain leads back to where it began
abbrev pub Straight : (ℕ → ℕ) → Type 0
Straight next = (s : ℕ) → s < 16 → Along next (next s) s → ⊥

along_trans : {next : ℕ → ℕ} {s t u : ℕ} → Along next s t → Along next t u → Along next s u
along_trans here b = b
along_trans (link a) b = link (along_trans a b)

-- everyone on a chain moves on by one link
one_on : {next : ℕ → ℕ} {s u : ℕ} → Along next s u → Along next (next s) (next u)
one_on here = here
one_on (link a) = link (one_on a)

module _ (next : ℕ → ℕ) (past : (s : ℕ) → 16 ≤ s → 16 ≤ next s) where
  -- from past the sixteen no chain leads to one of them
  pub from_past : {s u : ℕ} → 16 ≤ s → u < 16 → Along next s u → ⊥
  from_past l h here = omega arith
  from_past {s} l h (link a) = from_past (past s l) h a

  pub along_low : {s u : ℕ} → u < 16 → Along next s u → s < 16
  along_low {s} h a = go (ltb s 16) refl
    where
      go : (b : Bool) → ltb s 16 ≡ b → s < 16
      go true e = ltb-true s 16 e
      go false e = absurd (from_past (ltb-false s 16 e) h a)

  -- ── a chain that ends does not lead back
  ends_back : (n s : ℕ) → ends next n s ≡ true → s < 16 → Along next (next s) s → ⊥
  unfolding ends
  ends_back zero s e l a = omega (arith, leb-true 16 s e)
  ends_back (suc n) s e l a = go (leb 16 s) refl e (λ f. ends_back n (next s) f (along_low l a) (one_on a))
    where
      go : (b : Bool) → leb 16 s ≡ b → (b || ends next n (next s)) ≡ true → (ends next n (next s) ≡ true → ⊥) → ⊥
      go true q f ih = omega (arith, leb-true 16 s q)
      go false q f ih = ih f

  -- it leads to a last one, who waits for nobody
  pub last_on : (n s : ℕ) → ends next n s ≡ true → s < 16 → (u : ℕ) × Along next s u × (u < 16) × (16 ≤ next u)
  unfolding ends
  last_on zero s e l = absurd (omega (arith, leb-true 16 s e))
  last_on (suc n) s e l = go (leb 16 s) refl e (ltb (next s) 16) refl (last_on n (next s))
    where
      go : (b : Bool) → leb 16 s ≡ b → (b || ends next n (next s)) ≡ true → (c : Bool) → ltb (next s) 16 ≡ c
          → (ends next n (next s) ≡ true → next s < 16 → (u : ℕ) × Along next (next s) u × (u < 16) × (16 ≤ next u)) → (u : ℕ) × Along next s u × (u < 16) × (16 ≤ next u)
      go true q f c p ih = absurd (omega (arith, leb-true 16 s q))
      go false q f true p ih = let t = ih f (ltb-true (next s) 16 p) in (t.0, link t.1, t.2, t.3)
      go false q f false p ih = (s, here, l, ltb-false (next s) 16 p)

  -- ── where none leads back each ends: with every link there is one fewer to come
  module _ (straight : Straight next) where
    abbrev lies : ℕ → ℕ → Bool
    lies s u = ltb u 16 && within next 16 s u

    -- whoever lies ahead of whom s waits for lies ahead of s, and s does not lie ahead of whom it waits for
    ahead : (s u : ℕ) → lies (next s) u ≡ true → lies s u ≡ true
    ahead s u e =
        let h = ltb-true u 16 (and_left (ltb u 16) _ e) in
        and_intro (ltb u 16) _ (and_left (ltb u 16) _ e) (along_within next past u h s (link (within_along next 16 (next s) u (and_right (ltb u 16) _ e))))

    itself : (s : ℕ) → s < 16 → lies s s ≡ true
    itself s l = and_intro (ltb s 16) _ (lt-ltb s 16 l) (within_itself next 16 s)

    fewer : (s : ℕ) → s < 16 → how_many 16 (lies (next s)) < how_many 16 (lies s)
    fewer s l = go (eqb (how_many 16 (lies (next s))) (how_many 16 (lies s))) refl
      where
        go : (b : Bool) → eqb (how_many 16 (lies (next s))) (how_many 16 (lies s)) ≡ b → how_many 16 (lies (next s)) < how_many 16 (lies s)
        go true e =
            let same = many_same (lies (next s)) (lies s) (ahead s) 16 (eqb-true _ _ e) s l in
            absurd (straight s l (within_along next 16 (next s) s (and_right (ltb s 16) _ (same ∙ itself s l))))
        go false e = omega (arith, eqb-false (how_many 16 (lies (next s))) (how_many 16 (lies s)) e, many_le (lies (next s)) (lies s) (ahead s) 16)

    ends_by : (n s : ℕ) → how_many 16 (lies s) ≤ n → ends next n s ≡ true
    unfolding ends
    ends_by zero s m = go (leb 16 s) refl
      where
        go : (b : Bool) → leb 16 s ≡ b → b ≡ true
        go true e = refl
        go false e = absurd (omega (arith, many_some 16 (lies s) s (leb-false 16 s e) (itself s (leb-false 16 s e))))
    ends_by (suc n) s m = go (leb 16 s) refl (ends_by n (next s))
      where
        go : (b : Bool) → leb 16 s ≡ b → (how_many 16 (lies (next s)) ≤ n → ends next n (next s) ≡ true) → (b || ends next n (next s)) ≡ true
        go true e ih = refl
        go false e ih = ih (omega (arith, fewer s (leb-false 16 s e)))

    pub straight_ends : (s : ℕ) → ends next 16 s ≡ true
    straight_ends s = ends_by 16 s (many_at_most 16 (lies s))

  -- ── the two tests: everyone waits for someone whose chain ends; nobody's chain leads back
  abbrev pub leads_back : ℕ → Bool
  leads_back n = ltb (next n) 16 && within next 16 (next n) n

  abbrev pub nobody_back : Bool
  nobody_back = all_below 16 (λ n. not (leads_back n))

  pub straight_if : nobody_back ≡ true → Straight next
  straight_if e s l a =
      false≢true (sym (off (leads_back s) (all_below_lem 16 _ e s l)) ∙ and_intro (ltb (next s) 16) _ (lt-ltb (next s) 16 (along_low l a)) (along_within next past s l (next s) a))

  pub if_straight : Straight next → nobody_back ≡ true
  if_straight f = below_all 16 _ (λ n l. not_off _ (untrue (leads_back n) (λ e. f n l (within_along next 16 (next n) n (and_right (ltb (next n) 16) _ e)))))

  pub all_end : all_below 16 (λ n. ends next 16 (next n)) ≡ nobody_back
  all_end =
      same_test _ _ (λ e. if_straight (λ s l a. ends_back 16 (next s) (all_below_lem 16 _ e s l) (along_low l a) (one_on a)))
      (λ e. below_all 16 _ (λ n l. straight_ends (straight_if e) (next n)))

-- ── links changed: every new one leads to someone who waits for nobody
module _ (next on : ℕ → ℕ) (past : (s : ℕ) → 16 ≤ s → 16 ≤ on s) (changed : (s : ℕ) → s < 16 → (on s ≡ next s) ⊎ (16 ≤ on (on s))) where
  -- on a circle no link is new
  old : (s : ℕ) → s < 16 → on s < 16 → (x : ℕ) → x < 16 → Along on (on x) s → on x ≡ next x
  old s h m x l a = go (changed x l) a
    where
      goes : {y : ℕ} → 16 ≤ on y → Along on y s → ⊥
      goes q here = omega arith
      goes {y} q (link b) = from_past on past q h b

      go : (on x ≡ next x) ⊎ (16 ≤ on (on x)) → Along on (on x) s → on x ≡ next x
      go (inl e) b = e
      go (inr q) b = absurd (goes q b)

  was : {s x : ℕ} → s < 16 → on s < 16 → Along on x s → Along next x s
  was h m here = here
  was {s} {x} h m (link a) =
      let e = old s h m x (along_low on past h (link a)) a in
      link (subst (λ (y : ℕ). Along next y s) e (was h m a))

  pub ended_straight : Straight next → Straight on
  ended_straight f s l a =
      let m = along_low on past l a in
      f s l (subst (λ (y : ℕ). Along next y s) (old s l m s l a) (was l m a))

-- ── the link of c alone changed
-- as far as to c the chains are what they were
as_far : {next on : ℕ → ℕ} {c : ℕ} → ((s : ℕ) → (s ≡ c → ⊥) → on s ≡ next s) → {s : ℕ} → Along on s c → Along next s c
as_far same here = here
as_far {next} {on} {c} same {s} (link a) = go (eqb s c) refl (as_far same a)
  where
    go : (b : Bool) → eqb s c ≡ b → Along next (on s) c → Along next s c
    go true e ih = subst (λ (y : ℕ). Along next y c) (sym (eqb-true s c e)) here
    go false e ih = link (subst (λ (y : ℕ). Along next y c) (same s (eqb-false s c e)) ih)

module _ (next on : ℕ → ℕ) (c : ℕ) (same : (s : ℕ) → (s ≡ c → ⊥) → on s ≡ next s) where
  then_as_now : {s : ℕ} → Along on s c → Along next s c
  then_as_now = as_far same

  pub now_as_then : {s : ℕ} → Along next s c → Along on s c
  now_as_then = as_far (λ s d. sym (same s d))

  -- a chain is what it was, or passes c
  passes : {s u : ℕ} → Along on s u → (Along next s u) ⊎ (Along on s c × Along on c u)
  passes here = inl here
  passes {s} {u} (link a) = go (eqb s c) refl (passes a)
    where
      go : (b : Bool) → eqb s c ≡ b → (Along next (on s) u) ⊎ (Along on (on s) c × Along on c u) → (Along next s u) ⊎ (Along on s c × Along on c u)
      go true e t = let z = eqb-true s c e in inr (subst (λ (y : ℕ). Along on y c) (sym z) here, subst (λ (y : ℕ). Along on y u) z (link a))
      go false e (inl p) = inl (link (subst (λ (y : ℕ). Along next y u) (same s (eqb-false s c e)) p))
      go false e (inr t) = inr (link t.0, t.1)

  -- one that comes back to c
  through : {s u : ℕ} → Along on s u → (s ≡ u → ⊥) → Along on (on u) s → Along on (on s) s
  through here d p = absurd (d refl)
  through (link q) d p = along_trans q (link p)

  -- so no circle comes of it but one through c
  pub link_straight : Straight next → (Along next (on c) c → ⊥) → Straight on
  link_straight f g s l a = go (eqb s c) refl
    where
      go : (b : Bool) → eqb s c ≡ b → ⊥
      go true e = let z = eqb-true s c e in g (then_as_now (subst (λ (y : ℕ). Along on (on y) y) z a))
      go false e = split (passes a)
        where
          split : (Along next (on s) s) ⊎ (Along on (on s) c × Along on c s) → ⊥
          split (inl p) = f s l (subst (λ (y : ℕ). Along next y s) (same s (eqb-false s c e)) p)
          split (inr t) = g (then_as_now (through t.1 (λ z. eqb-false s c e (sym z)) t.0))
