-- Bytes put into the lent store: what is read there, what is read elsewhere, and that puts to places apart may change places. And the slips, of which no two share a byte.
use Prim.Native.Nat.{ℕ, suc, ◌+◌, ◌-◌, ◌<◌, ◌≤◌}
use mathlib.Core.Path.{◌≡◌, refl, sym, ap, ◌∙◌}
use mathlib.Core.Logic.{◌⊎◌, inl, inr}
use mathlib.Core.Bool.{Bool, true, false}
use mathlib.Core.List.{List, [], ◌∷◌, ◌++◌, append_assoc}
use native.Mathlib.Omega.{arith}
use lib.Dec.{eqb}
use lib.ListN.{length, get_or, set, take, drop, length-take}
use lib.Seq.{sets, length-sets, sets-eq, set_comm, get_or-set_other, drop-set-lt, drop-set-add, take-set-le, drop_at, take_at}
use borrow.Author.Tests.{eqb-true, eqb-false}
use Rattle.lists.specs.FourBytes.{four_bytes}
use Rattle.lists.proofs.Tests.{below_or}
use Rattle.order.proofs.Passing.{one_number}
use Rattle.items.specs.Bytes.{bytes_at, put_at}
use Rattle.rules.specs.Parts.{slip_of}
use Rattle.rules.specs.Events.{slip_bits}
use Rattle.promises.specs.Types.{TaskSlot}

-- the n places from i on, and the m from j on, have none in common
abbrev pub Apart : ℕ → ℕ → ℕ → ℕ → Type 0
Apart i n j m = (i + n ≤ j) ⊎ (j + m ≤ i)

-- ── one byte, then several
-- a byte apart from all of them is none of the first, and apart from the others
differ : (n : ℕ) {i j : ℕ} → Apart i (suc n) j 1 → i ≡ j → ⊥
differ n (inl h) e = omega arith
differ n (inr h) e = omega arith

others_apart : (n : ℕ) {i j : ℕ} → Apart i (suc n) j 1 → Apart (suc i) n j 1
others_apart n (inl h) = inl (omega arith)
others_apart n (inr h) = inr (omega arith)

set_aside : (vs l : List ℕ) (i j a : ℕ) → Apart i (length vs) j 1 → set (sets l i vs) j a ≡ sets (set l j a) i vs
set_aside [] l i j a p = refl
set_aside (v ∷ vs) l i j a p = set_aside vs (set l i v) (suc i) j a (others_apart (length vs) p) ∙ rw (set_comm l i j v a (differ (length vs) p))

pub puts_aside : (vs ws l : List ℕ) (i j : ℕ) → Apart i (length vs) j (length ws) → put_at j ws (put_at i vs l) ≡ put_at i vs (put_at j ws l)
unfolding put_at
puts_aside vs [] l i j p = refl
puts_aside vs (w ∷ ws) l i j p = rw (set_aside vs l i j w (first_of p)) (puts_aside vs ws (set l j w) i (suc j) (rest_of p))
  where
    first_of : Apart i (length vs) j (suc (length ws)) → Apart i (length vs) j 1
    first_of (inl h) = inl h
    first_of (inr h) = inr (omega arith)

    rest_of : Apart i (length vs) j (suc (length ws)) → Apart i (length vs) (suc j) (length ws)
    rest_of (inl h) = inl (omega arith)
    rest_of (inr h) = inr (omega arith)

-- ── what is read
pub byte_aside : (vs l : List ℕ) (i j : ℕ) → Apart i (length vs) j 1 → get_or (put_at i vs l) j 0 ≡ get_or l j 0
unfolding put_at
byte_aside [] l i j p = refl
byte_aside (v ∷ vs) l i j p = byte_aside vs (set l i v) (suc i) j (others_apart (length vs) p) ∙ get_or-set_other l i j v 0 (λ e. differ (length vs) p (sym e))

bytes_beside : (l : List ℕ) (j n i a : ℕ) → Apart i 1 j n → bytes_at j n (set l i a) ≡ bytes_at j n l
unfolding bytes_at
bytes_beside l j n i a (inl h) = let g : i < j = omega arith in rw (drop-set-lt j l i a g)
bytes_beside l j n i a (inr h) =
    let e : i ≡ j + (i - j) = omega arith in
    let g : n ≤ i - j = omega arith in
    ap (λ m. take n (drop j (set l m a))) e ∙ rw (drop-set-add j l (i - j) a, take-set-le n (drop j l) (i - j) a g)

pub bytes_aside : (vs l : List ℕ) (i j n : ℕ) → Apart i (length vs) j n → bytes_at j n (put_at i vs l) ≡ bytes_at j n l
unfolding put_at
bytes_aside [] l i j n p = refl
bytes_aside (v ∷ vs) l i j n p = bytes_aside vs (set l i v) (suc i) j n (rest_of p) ∙ bytes_beside l j n i v (first_of p)
  where
    first_of : Apart i (suc (length vs)) j n → Apart i 1 j n
    first_of (inl h) = inl (omega arith)
    first_of (inr h) = inr h

    rest_of : Apart i (suc (length vs)) j n → Apart (suc i) (length vs) j n
    rest_of (inl h) = inl (omega arith)
    rest_of (inr h) = inr (omega arith)

pub bytes_put : (vs l : List ℕ) (i : ℕ) → i + length vs ≤ length l → bytes_at i (length vs) (put_at i vs l) ≡ vs
unfolding bytes_at put_at
bytes_put vs l i h =
    let m : length (take i l) ≡ i = rw length-take (omega arith) in
    rw (sets-eq vs l i h, append_assoc, drop_at (take i l) (vs ++ drop (i + length vs) l) i m) (take_at vs (drop (i + length vs) l) (length vs) refl)

-- ── the slips
pub slips_apart : (t u : TaskSlot) (n m : ℕ) → n ≤ 64 → m ≤ 64 → (t.0 ≡ u.0 → ⊥) → Apart (slip_of t) n (slip_of u) m
slips_apart t u n m f g d = go (below_or t.0 u.0)
  where
    go : (t.0 < u.0) ⊎ (u.0 ≤ t.0) → Apart (slip_of t) n (slip_of u) m
    go (inl h) = inl (omega arith)
    go (inr h) = inr (omega arith)

pub slips_swap : (b : ℕ) (s : List ℕ) (t u : TaskSlot) → slip_bits b u (slip_bits b t s) ≡ slip_bits b t (slip_bits b u s)
unfolding slip_bits
slips_swap b s t u = go (eqb t.0 u.0) refl
  where
    go : (y : Bool) → eqb t.0 u.0 ≡ y → put_at (slip_of u) (four_bytes b) (put_at (slip_of t) (four_bytes b) s) ≡ put_at (slip_of t) (four_bytes b) (put_at (slip_of u) (four_bytes b) s)
    go true q = rw (one_number t u (eqb-true t.0 u.0 q))
    go false q = puts_aside (four_bytes b) (four_bytes b) s (slip_of t) (slip_of u) (slips_apart t u 4 4 (omega arith) (omega arith) (eqb-false t.0 u.0 q))

pub slip_length : (b : ℕ) (s : List ℕ) (t : TaskSlot) → length (slip_bits b t s) ≡ length s
unfolding slip_bits put_at
slip_length b s t = length-sets s (slip_of t) (four_bytes b)
