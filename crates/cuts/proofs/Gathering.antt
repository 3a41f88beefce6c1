-- The bytes of a block up to its next newline.
use Prim.Native.Nat.{ℕ, ◌+◌, ◌<◌, ◌≤◌}
use mathlib.Core.Path.{◌≡◌, refl, sym, ap, ◌∙◌}
use mathlib.Core.Bool.{Bool, true, false, false≢true}
use mathlib.Core.List.{List, [], ◌∷◌}
use native.Mathlib.Omega.{arith}
use lib.Dec.{eqb}
use lib.ListN.{length, drop, set, length-drop}
use lib.Seq.{drop-drop}
use borrow.Author.Tests.{eqb-true, lt-ltb, le-ltb}
use Rattle.cuts.specs.declared.Cut.{Cut}
use Rattle.std.proofs.Common.{if◌then◌else◌, Result, Ok, Err}
use Rattle.cuts.specs.Keeping.{cut_of, with_byte, Gathered, gathered, Gathers}

-- ---- one byte

pub kept_in : (bytes : List ℕ) (n b : ℕ) → n < 256 → cut_of (set bytes n b) (n + 1) ≡ with_byte (cut_of bytes n) b
unfolding with_byte
kept_in bytes n b h = rw (lt-ltb n 256 h)

pub kept_out : (bytes : List ℕ) (n b : ℕ) → 256 ≤ n → cut_of bytes 257 ≡ with_byte (cut_of bytes n) b
unfolding with_byte
kept_out bytes n b h = rw (le-ltb n 256 h)

-- ---- byte by byte

pub gathered_newline : (i : ℕ) (c : Cut) (b : ℕ) (l : List ℕ) → eqb b 10 ≡ true → gathered i c (b ∷ l) ≡ record { next = i; cut = c; newline = true }
unfolding gathered
gathered_newline i c b l e = rw e

pub gathered_other : (i : ℕ) (c : Cut) (b : ℕ) (l : List ℕ) → eqb b 10 ≡ false → gathered i c (b ∷ l) ≡ gathered (i + 1) (with_byte c b) l
unfolding gathered
gathered_other i c b l e = rw e

pub one_on : (block l : List ℕ) (i b : ℕ) → drop i block ≡ b ∷ l → drop (i + 1) block ≡ l
one_on block l i b d = sym (drop-drop 1 i block) ∙ ap (drop 1) d

-- ---- where it is left

-- a newline stands there, in the block and not before the place where it began; or the block has ended
pub record Left (block : List ℕ) (i : ℕ) (g : Gathered) : Type 0 where
  pub ends : g.newline ≡ true → drop g.next block ≡ 10 ∷ drop (g.next + 1) block
  pub within : g.newline ≡ true → (i ≤ g.next) × (g.next < length block)
  pub none : g.newline ≡ false → drop g.next block ≡ []
  pub last : g.newline ≡ false → i ≤ length block → g.next ≡ length block

pub left : (block l : List ℕ) (i : ℕ) (c : Cut) → drop i block ≡ l → Left block i (gathered i c l)
unfolding gathered
left block [] i c d =
    record {
      ends = λ e. absurd (false≢true e);
      within = λ e. absurd (false≢true e);
      none = λ e. d;
      last = λ e h. omega (arith, ap length d, length-drop i block);
    }
left block (b ∷ l) i c d = go (eqb b 10) refl (left block l (i + 1) (with_byte c b) (one_on block l i b d))
  where
    inside : i < length block
    inside = omega (arith, ap length d, length-drop i block)

    here : eqb b 10 ≡ true → Left block i record { next = i; cut = c; newline = true }
    here e =
        let t : b ≡ 10 = eqb-true b 10 e in
        record {
          ends = λ f. d ∙ ap (λ (x : ℕ). x ∷ l) t ∙ ap (λ (m : List ℕ). 10 ∷ m) (sym (one_on block l i b d));
          within = λ f. (omega arith, inside);
          none = λ f. absurd (false≢true (sym f));
          last = λ f. absurd (false≢true (sym f));
        }

    go : (t : Bool) → eqb b 10 ≡ t → Left block (i + 1) (gathered (i + 1) (with_byte c b) l) → Left block i (gathered i c (b ∷ l))
    go true e h = rw (gathered_newline i c b l e) (here e)
    go false e h = rw (gathered_other i c b l e) record { ends = h.ends; within = λ f. let w = h.within f in (omega arith, w.1); none = h.none; last = λ f k. h.last f (omega (arith, inside)) }

-- ---- the same of what is told of it

pub told_newline : {g : Gathered} {n : ℕ} {after : Cut} → Gathers g (Ok n) after → g ≡ record { next = n; cut = after; newline = true }
told_newline {g} {n} {after} h = go g.newline refl h.next
  where
    go : (t : Bool) → g.newline ≡ t → Ok n ≡ (if t then Ok g.next else Err g.next) → g ≡ record { next = n; cut = after; newline = true }
    go true e f = let m : n ≡ g.next = cc in sym (λ i. record { next = m i; cut = h.cut i; newline = sym e i })
    go false e f = absurd (cc)

pub told_ended : {g : Gathered} {n : ℕ} {after : Cut} → Gathers g (Err n) after → g ≡ record { next = n; cut = after; newline = false }
told_ended {g} {n} {after} h = go g.newline refl h.next
  where
    go : (t : Bool) → g.newline ≡ t → Err n ≡ (if t then Ok g.next else Err g.next) → g ≡ record { next = n; cut = after; newline = false }
    go true e f = absurd (cc)
    go false e f = let m : n ≡ g.next = cc in sym (λ i. record { next = m i; cut = h.cut i; newline = sym e i })

module _ (block : List ℕ) (i : ℕ) (c after : Cut) where
  -- at a newline
  module _ (n : ℕ) (g : Gathers (gathered i c (drop i block)) (Ok n) after) where
    lies : Left block i record { next = n; cut = after; newline = true }
    lies = rw (← told_newline g) (left block (drop i block) i c refl)

    pub stands : drop n block ≡ 10 ∷ drop (n + 1) block
    stands = lies.ends refl

    pub further : (i ≤ n) × (n < length block)
    further = lies.within refl

  -- where there is none, the block has ended
  module _ (n : ℕ) (g : Gathers (gathered i c (drop i block)) (Err n) after) where
    spent : Left block i record { next = n; cut = after; newline = false }
    spent = rw (← told_ended g) (left block (drop i block) i c refl)

    pub used_up : drop n block ≡ []
    used_up = spent.none refl

    pub at_the_end : i ≤ length block → n ≡ length block
    at_the_end = spent.last refl

-- ---- no second result

-- nor does another fit the promise of `keep`, which is an equation
pub gathers_one : {g : Gathered} {r q : Result ℕ ℕ} {a b : Cut} → Gathers g r a → Gathers g q b → (r ≡ q) × (a ≡ b)
gathers_one f h = (f.next ∙ sym h.next, f.cut ∙ sym h.cut)
