-- A place of a line stands for what is left there, `drop at line`.
use Prim.Native.Nat.{ℕ, ◌+◌, ◌-◌, ◌<◌}
use mathlib.Core.Path.{◌≡◌, sym, ap, ◌∙◌}
use mathlib.Core.List.{List, ◌∷◌, ◌++◌}
use native.Mathlib.Omega.{arith}
use lib.ListN.{length, drop, get_or, length-append, length-drop}
use lib.Seq.{drop-drop, drop-append_seam}
use Rattle.lists.proofs.Loops.{front}

-- what stands at a place
pub here : (l : List ℕ) (i : ℕ) → i < length l → drop i l ≡ get_or l i 0 ∷ drop (i + 1) l
here l i h = front l i 0 h

-- what is left past what stands at a place
pub past : (l : List ℕ) (i : ℕ) (a r : List ℕ) → drop i l ≡ a ++ r → drop (i + length a) l ≡ r
past l i a r e = sym (drop-drop (length a) i l) ∙ ap (drop (length a)) e ∙ drop-append_seam a r

-- where something is left past it, the place is within the line
pub within : (l : List ℕ) (i : ℕ) (a : List ℕ) (j : ℕ) → drop i l ≡ a ++ drop j l → j < length l → i < length l
within l i a j e h =
    let n : length l - i ≡ length a + (length l - j) = sym (length-drop i l) ∙ ap length e ∙ length-append a (drop j l) ∙ ap (λ (k : ℕ). length a + k) (length-drop j l) in
    omega arith
