-- A loop over the numbers from 0 on, whose invariant says how far it has come: none yet, and one more.
use Rattle.std.proofs.Common.{◌≡◌, refl, ℕ, ◌+◌, Bool, true, ◌&&◌, add-one}
use Rattle.lists.specs.Lists.{up_to, all_below}

pub up_to_none : {B : Type 0} (f : B → ℕ → B) (b : B) → up_to f 0 b ≡ b
unfolding up_to
up_to_none f b = refl

pub up_to_more : {B : Type 0} (f : B → ℕ → B) (b : B) (i : ℕ) → up_to f (i + 1) b ≡ f (up_to f i b) i
unfolding up_to
up_to_more f b i = rw add-one refl

pub all_below_none : (p : ℕ → Bool) → all_below 0 p ≡ true
unfolding all_below
all_below_none p = refl

pub all_below_more : (p : ℕ → Bool) (i : ℕ) → all_below (i + 1) p ≡ (all_below i p && p i)
unfolding all_below
all_below_more p i = rw add-one refl
