-- What fits in a line, number by number and as a frame.
use Prim.Native.Nat.{ℕ, zero, suc, ◌≤◌}
use mathlib.Core.Path.{◌≡◌, refl, sym, ap}
use mathlib.Core.Bool.{Bool, true, false, false≢true}
use mathlib.Core.List.{List, [], ◌∷◌, ◌++◌}
use native.Mathlib.Omega.{arith}
use lib.ListN.{length, get_or, take, drop, set}
use lib.Seq.{sets}
use mir.Syntax.{w8}
use mir.Val.{Fits}
use Rattle.std.proofs.Common.{if◌then◌else◌}
use Rattle.lists.specs.Lists.{any}
use Rattle.calls.specs.Words.{Field, a_number, bytes, fields_of, is_bytes, numbers_in, Small, no_words, frame_of}
use Rattle.fields.specs.Hex.{Bytes}
use Rattle.journal.specs.Types.{Call}
use Rattle.journal.specs.Line.{carries, its_item, AllFit, HasLine}
use Rattle.journal.proofs.ReadSteps.{ItemFits}

pub small_append : (a b : List ℕ) → Small a → Small b → Small (a ++ b)
small_append [] b v w = w
small_append (x ∷ a) b v w = (v.0, small_append a b v.1 w)

pub small_take : (k : ℕ) (a : List ℕ) → Small a → Small (take k a)
small_take zero a w = tt
small_take (suc k) [] w = tt
small_take (suc k) (x ∷ a) w = (w.0, small_take k a w.1)

pub small_drop : (k : ℕ) (a : List ℕ) → Small a → Small (drop k a)
small_drop zero a w = w
small_drop (suc k) [] w = tt
small_drop (suc k) (x ∷ a) w = small_drop k a w.1

small_set : (vs : List ℕ) (i n : ℕ) → Small vs → n ≤ 4294967295 → Small (set vs i n)
small_set [] i n v h = tt
small_set (x ∷ vs) zero n v h = (h, v.1)
small_set (x ∷ vs) (suc i) n v h = (v.0, small_set vs i n v.1 h)

small_sets : (vs : List ℕ) (i : ℕ) (a : List ℕ) → Small vs → Small a → Small (sets vs i a)
small_sets vs i [] v w = v
small_sets vs i (x ∷ a) v w = small_sets (set vs i x) (suc i) a (small_set vs i x v w.0) w.1

small_filled : (a : List ℕ) → Small a → Small (sets no_words 0 a)
small_filled a w = small_sets no_words 0 a (omega arith, (omega arith, (omega arith, (omega arith, (omega arith, tt))))) w

fits_small : (b : List ℕ) (fs : List Field) → AllFit b fs → Small (numbers_in fs)
fits_small b [] w = tt
fits_small b (a_number n ∷ fs) w = (w.0, fits_small b fs w.1)
fits_small b (bytes ∷ fs) w = fits_small b fs w.1

fits_item : (b : List ℕ) (fs : List Field) → AllFit b fs → any is_bytes fs ≡ true → (length b ≤ 64) × Bytes b
unfolding any
fits_item b [] w e = absurd (false≢true e)
fits_item b (a_number n ∷ fs) w e = fits_item b fs w.1 e
fits_item b (bytes ∷ fs) w e = w.0

all_fit : (b : List ℕ) (fs : List Field) → Small (numbers_in fs) → (any is_bytes fs ≡ true → (length b ≤ 64) × Bytes b) → AllFit b fs
unfolding any
all_fit b [] w h = tt
all_fit b (a_number n ∷ fs) w h = (w.0, all_fit b fs w.1 h)
all_fit b (bytes ∷ fs) w h = (h refl, all_fit b fs w (λ e. h refl))

item_sent : (i : Bool) (b : List ℕ) → ItemFits i b → i ≡ true → (length b ≤ 64) × Bytes b
item_sent true b w e = w
item_sent false b w e = absurd (false≢true e)

item_none : (i : Bool) (b : List ℕ) → ItemFits i b → i ≡ false → b ≡ []
item_none true b w e = absurd (false≢true (sym e))
item_none false b w e = w

item_fits : (i : Bool) (b : List ℕ) → (i ≡ true → (length b ≤ 64) × Bytes b) → (i ≡ false → b ≡ []) → ItemFits i b
item_fits true b h g = h refl
item_fits false b h g = g refl

pub has_line : (c : Call) (b : List ℕ) → Small (numbers_in (fields_of c)) → ItemFits (carries c) b → HasLine c b
unfolding carries
has_line c b w h = record { fits = all_fit b (fields_of c) w (item_sent (carries c) b h); none = item_none (carries c) b h }

-- what is known of the elements of a slice of u8
all_bytes : (b : List ℕ) → ((i : ℕ) → Fits w8 (get_or b i 0)) → Bytes b
all_bytes [] h = tt
all_bytes (x ∷ b) h = ((h 0).fits, all_bytes b (λ i. h (suc i)))

-- a call whose numbers are u32 has a line with each item of at most 64 bytes
pub its_line : (c : Call) (b : List ℕ) → Small (numbers_in (fields_of c)) → ((i : ℕ) → Fits w8 (get_or b i 0)) → length (its_item c b) ≤ 64 → HasLine c (its_item c b)
its_line c b h w k = has_line c (its_item c b) h (go (carries c) k)
  where
    go : (i : Bool) → length (if i then b else []) ≤ 64 → ItemFits i (if i then b else [])
    go true k = (k, all_bytes b w)
    go false k = refl

pub line_fits : (c : Call) (b : List ℕ) → HasLine c b → Small (frame_of c).words × ItemFits (carries c) b
unfolding carries
line_fits c b h = (small_filled (numbers_in (fields_of c)) (fits_small b (fields_of c) h.fits), item_fits (carries c) b (fits_item b (fields_of c) h.fits) h.none)

pub item_long : (c : Call) (b : List ℕ) → HasLine c b → length b ≤ 64
item_long c b h = go (carries c) (line_fits c b h).1
  where
    go : (i : Bool) → ItemFits i b → length b ≤ 64
    go true w = w.0
    go false w = omega (arith, ap length w)
