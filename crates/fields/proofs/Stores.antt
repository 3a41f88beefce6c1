-- Bytes stored one after another.
use Prim.Native.Nat.{ℕ, suc, ◌+◌, ◌-◌, ◌<◌, ◌≤◌, min}
use mathlib.Core.Path.{◌≡◌, refl, sym, ap, ◌∙◌}
use mathlib.Core.Logic.{⊎_elim}
use mathlib.Core.List.{List, [], ◌∷◌, ◌++◌, append_assoc, append-nil}
use native.Mathlib.Omega.{arith}
use native.Mathlib.Numerals.{add-one}
use lib.ListN.{length, take, get_or, set, length-append}
use lib.Seq.{sets, length-sets, set_out, take-suc, take_all}
use Rattle.fields.specs.Texts.{texts}
use Rattle.fields.specs.Wrote.{Wrote}
use Rattle.lists.proofs.Tests.{below_or}

-- past the end nothing is stored
pub sets_out : (l : List ℕ) (i : ℕ) (a : List ℕ) → length l ≤ i → sets l i a ≡ l
sets_out l i [] h = refl
sets_out l i (x ∷ a) h = rw (set_out l i x h) (sets_out l (suc i) a (omega arith))

pub sets_append : (a b l : List ℕ) (i : ℕ) → sets (sets l i a) (i + length a) b ≡ sets l i (a ++ b)
sets_append [] b l i = let e : i + 0 ≡ i = omega arith in rw e
sets_append (x ∷ a) b l i =
    let e : i + suc (length a) ≡ suc i + length a = omega arith in
    rw e (sets_append a b (set l i x) (suc i))

-- a line keeps its length
pub wrote_length : {l : List ℕ} {at : ℕ} {bs : List ℕ} {r : ℕ} {m : List ℕ} → Wrote l at bs r m → length m ≡ length l
wrote_length {l} {at} {bs} w = ap length w.line ∙ length-sets l at bs

-- what is stored next goes on where the first ended, or both are past the end
after : (l : List ℕ) (at : ℕ) (a b : List ℕ) (r : ℕ) → r ≡ at + min (length a) (length l - at) → sets (sets l at a) r b ≡ sets l at (a ++ b)
after l at a b r e =
    ⊎_elim (λ (h : length l - at < length a).
    let o : length (sets l at a) ≤ r = omega (arith, length-sets l at a) in
    let p : length (sets l at a) ≤ at + length a = omega (arith, length-sets l at a) in
    sets_out (sets l at a) r b o ∙ sym (sets_out (sets l at a) (at + length a) b p) ∙ sets_append a b l at)
    (λ (h : length a ≤ length l - at). let q : r ≡ at + length a = omega arith in rw q (sets_append a b l at))
    (below_or (length l - at) (length a))

pub wrote_then : {l : List ℕ} {at : ℕ} {a : List ℕ} {r : ℕ} {m : List ℕ} {b : List ℕ} {s : ℕ} {n : List ℕ}
    → Wrote l at a r m → Wrote m r b s n → Wrote l at (a ++ b) s n
wrote_then {l} {at} {a} {r} {b = b} v w = record {
  next = omega (arith, v.next, w.next, wrote_length v, length-append a b);
  line = w.line ∙ rw v.line (after l at a b r v.next);
}

pub wrote_none : (l : List ℕ) (at : ℕ) → Wrote l at [] at l
wrote_none l at = record { next = omega arith; line = refl }

-- no second place and no second line fit
pub wrote_one : {l : List ℕ} {at : ℕ} {bs : List ℕ} {r : ℕ} {m : List ℕ} {s : ℕ} {n : List ℕ}
    → Wrote l at bs r m → Wrote l at bs s n → (r ≡ s) × (m ≡ n)
wrote_one v w = (v.next ∙ sym w.next, v.line ∙ sym w.line)

-- ---- a loop that stores the text of each element in turn

pub texts_append : (f : ℕ → List ℕ) (a b : List ℕ) → texts f (a ++ b) ≡ texts f a ++ texts f b
unfolding texts
texts_append f [] b = refl
texts_append f (x ∷ a) b = ap (λ (l : List ℕ). f x ++ l) (texts_append f a b) ∙ sym (append_assoc (f x) (texts f a) (texts f b))

texts_more : (f : ℕ → List ℕ) (xs : List ℕ) (i : ℕ) → i < length xs → texts f (take i xs) ++ f (get_or xs i 0) ≡ texts f (take (i + 1) xs)
unfolding texts
texts_more f xs i h =
    rw (add-one, take-suc xs i 0 h)
    (sym (texts_append f (take i xs) (get_or xs i 0 ∷ []) ∙ ap (λ (l : List ℕ). texts f (take i xs) ++ l) (append-nil (f (get_or xs i 0)))))

-- the texts of the first i elements were stored in l₀ from the place at on, which gave l, and the next place
pub record Stored (f : ℕ → List ℕ) (xs l₀ : List ℕ) (at : ℕ) (l : List ℕ) (next i : ℕ) : Type 0 where
  pub within : i ≤ length xs
  pub wrote : Wrote l₀ at (texts f (take i xs)) next l

module _ {f : ℕ → List ℕ} {xs l₀ : List ℕ} {at : ℕ} where
  pub begin : Stored f xs l₀ at l₀ at 0
  unfolding texts
  begin = record { within = omega arith; wrote = wrote_none l₀ at }

  pub turn : {l : List ℕ} {next i r : ℕ} {m : List ℕ} → Stored f xs l₀ at l next i → i < length xs
      → Wrote l next (f (get_or xs i 0)) r m → Stored f xs l₀ at m r (i + 1)
  turn {i = i} s h w = record { within = omega arith; wrote = rw (← texts_more f xs i h) (wrote_then s.wrote w) }

  pub done : {l : List ℕ} {next i : ℕ} → Stored f xs l₀ at l next i → length xs ≤ i → Wrote l₀ at (texts f xs) next l
  done {i = i} s h = rw (take_all i xs h) at s.wrote

-- a list's own bytes
pub texts_self : (xs : List ℕ) → texts (λ b. b ∷ []) xs ≡ xs
unfolding texts
texts_self [] = refl
texts_self (x ∷ xs) = ap (λ (l : List ℕ). x ∷ l) (texts_self xs)
