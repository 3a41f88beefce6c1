-- The table of calls, by number: each law holds of every row because two lists compute to the same.
use Prim.Native.Nat.{ℕ, ◌+◌, ◌<◌, ◌≤◌}
use mathlib.Core.Path.{◌≡◌, refl, sym, ap, ◌∙◌}
use mathlib.Core.Logic.{⊎_elim}
use mathlib.Core.Bool.{true, not, ◌||◌, false≢true}
use mathlib.Core.List.{List, [], ◌∷◌, map}
use native.Mathlib.Omega.{arith}
use lib.Dec.{eqb, leb}
use lib.ListN.{length, get_or, take, drop, get_or-map, get_or-eq_default}
use lib.Seq.{sets, length-sets}
use borrow.Author.Tests.{eqb-true, leb-true}
use Rattle.lists.specs.Lists.{any, index, every, all_below}
use Rattle.lists.proofs.Bools.{at, all_below_lem, or_second}
use Rattle.calls.specs.Types.{Call, Create, Delete, Suspend, Resume, SetPriority, Delay, Yield, Hold, Release, MakeQueue, MakeMutex, Remove, Send, Receive, Take, Give, Tick, Advance, MakeRecursive}
use Rattle.calls.specs.Types.{MakeGroup, SetBits, ClearBits, Await}
use Rattle.calls.specs.Types.{Uses, Names, Shape, Frame, Asked}
use Rattle.calls.specs.Table.{called, word, entries, call_of}
use Rattle.std.specs.Option.{IsSome}
use Rattle.std.specs.declared.option.Option.{Option}
use Rattle.std.specs.declared.option.Option.TheVariants.{None, Some}
use Rattle.calls.specs.declared.Shape.{Shape as Laid}
use Rattle.calls.specs.Shapes.{unknown, shape_told}
use Rattle.calls.specs.Behind.{asked}
use Rattle.calls.specs.Words.{fields_of, is_bytes, numbers_in, no_words, frame_of, shapes, shape_of, asked_by}
use Rattle.lists.proofs.Tests.{below_or}

-- five words
pub five : (ws : List ℕ) → length ws ≡ 5 → ws ≡ word ws 0 ∷ word ws 1 ∷ word ws 2 ∷ word ws 3 ∷ word ws 4 ∷ []
five [] h = absurd (omega arith)
five (a ∷ []) h = absurd (omega arith)
five (a ∷ b ∷ []) h = absurd (omega arith)
five (a ∷ b ∷ c ∷ []) h = absurd (omega arith)
five (a ∷ b ∷ c ∷ d ∷ []) h = absurd (omega arith)
five (a ∷ b ∷ c ∷ d ∷ e ∷ []) h = refl
five (a ∷ b ∷ c ∷ d ∷ e ∷ f ∷ ws) h = absurd (omega arith)

-- where every row says of the call what it says of the shape, so it is for each number
module _ {A : Type 0} (f : Call → A) (g : List ℕ → Shape → A)
    (same : (a b c d e : ℕ) → map f (entries (a ∷ b ∷ c ∷ d ∷ e ∷ [])) ≡ map (g (a ∷ b ∷ c ∷ d ∷ e ∷ [])) shapes) where
  pub by_row : (n : ℕ) (ws : List ℕ) → length ws ≡ 5 → f (call_of n ws) ≡ g ws (shape_of n)
  unfolding call_of shape_of
  by_row n ws h =
      let vs : List ℕ = word ws 0 ∷ word ws 1 ∷ word ws 2 ∷ word ws 3 ∷ word ws 4 ∷ [] in
      let all : map f (entries vs) ≡ map (g vs) shapes = same (word ws 0) (word ws 1) (word ws 2) (word ws 3) (word ws 4) in
      let none : f Tick ≡ g vs unknown = ap (λ (l : List A). get_or l 0 (f Tick)) all in
      sym (get_or-map f (entries ws) n Tick)
      ∙ ap (λ (l : List A). get_or l n (f Tick)) all
      ∙ ap (get_or (map (g vs) shapes) n) none
      ∙ get_or-map (g vs) shapes n unknown
      ∙ ap (λ (l : List ℕ). g l (get_or shapes n unknown)) (sym (five ws h))

-- ---- the number

-- a number past the table is no call's
pub known_below : (n : ℕ) → (shape_of n).known ≡ true → n < 24
unfolding shape_of index any
known_below n k =
    ⊎_elim (λ (l : n < 24). l)
    (λ (l : 24 ≤ n). absurd (false≢true (sym (ap (λ (s : Shape). s.known) (get_or-eq_default shapes unknown {n = n} l)) ∙ k)))
    (below_or n 24)

-- the number of a shape that is known is the call's
pub row_number : (n : ℕ) (ws : List ℕ) → (shape_of n).known ≡ true → (called (call_of n ws)).number ≡ n
unfolding shape_of call_of all_below index any
row_number n ws k =
    let t : (not (shape_of n).known || eqb (numbered n) n) ≡ true =
    all_below_lem 24 (λ m. not (shape_of m).known || eqb (numbered m) m) refl n (known_below n k) in
    sym (get_or-map (λ c. (called c).number) (entries ws) n Tick)
    ∙ eqb-true (numbered n) n (or_second (not (shape_of n).known) (eqb (numbered n) n) t (rw k refl))
  where
    numbered : ℕ → ℕ
    numbered m = get_or (map (λ c. (called c).number) (entries ws)) m 17

-- ---- the item and the words

pub row_sent : (n : ℕ) (ws : List ℕ) → length ws ≡ 5 → any is_bytes (fields_of (call_of n ws)) ≡ (shape_of n).item
unfolding any index
row_sent = by_row (λ c. any is_bytes (fields_of c)) (λ ws s. s.item) (λ a b c d e. refl)

pub row_numbers : (n : ℕ) (ws : List ℕ) → length ws ≡ 5 → numbers_in (fields_of (call_of n ws)) ≡ take ((shape_of n).before + (shape_of n).after) ws
unfolding any index
row_numbers = by_row (λ c. numbers_in (fields_of c)) (λ ws s. take (s.before + s.after) ws) (λ a b c d e. refl)

-- no call has more than five
pub shape_small : (n : ℕ) → (shape_of n).before + (shape_of n).after ≤ 5
unfolding shape_of every any index
shape_small n =
    leb-true ((shape_of n).before + (shape_of n).after) 5
    (sym (get_or-map (λ s. leb (s.before + s.after) 5) shapes n unknown) ∙ at (map (λ s. leb (s.before + s.after) 5) shapes) refl n)

-- ---- a call is found again by its words

-- the words that are read back
abbrev pub words_kept : Shape → List ℕ → List ℕ
words_kept s ws = sets (sets no_words 0 (take s.before ws)) s.before (take s.after (drop s.before ws))

pub record Again (c : Call) (n : ℕ) (ws : List ℕ) : Type 0 where
  pub known : (shape_of n).known ≡ true
  pub call : call_of n ws ≡ c
  pub read : call_of n (words_kept (shape_of n) ws) ≡ c

again : (c : Call) (n : ℕ) (ws : List ℕ) → (shape_of n).known ≡ true → call_of n ws ≡ c → call_of n (words_kept (shape_of n) ws) ≡ c → Again c n ws
again c n ws k e f = record { known = k; call = e; read = f }

pub call_again : (c : Call) → Again c (frame_of c).number (frame_of c).words
unfolding call_of shape_of any index
call_again (Create p) = again _ _ _ refl refl refl
call_again (Delete t) = again _ _ _ refl refl refl
call_again (Suspend t) = again _ _ _ refl refl refl
call_again (Resume t) = again _ _ _ refl refl refl
call_again (SetPriority t p) = again _ _ _ refl refl refl
call_again (Delay n) = again _ _ _ refl refl refl
call_again Yield = again _ _ _ refl refl refl
call_again Hold = again _ _ _ refl refl refl
call_again Release = again _ _ _ refl refl refl
call_again (MakeQueue c s) = again _ _ _ refl refl refl
call_again MakeMutex = again _ _ _ refl refl refl
call_again (Remove o) = again _ _ _ refl refl refl
call_again (Send o w) = again _ _ _ refl refl refl
call_again (Receive o w) = again _ _ _ refl refl refl
call_again (Take o w) = again _ _ _ refl refl refl
call_again (Give o) = again _ _ _ refl refl refl
call_again Tick = again _ _ _ refl refl refl
call_again (Advance n) = again _ _ _ refl refl refl
call_again MakeRecursive = again _ _ _ refl refl refl
call_again MakeGroup = again _ _ _ refl refl refl
call_again (SetBits o b) = again _ _ _ refl refl refl
call_again (ClearBits o b) = again _ _ _ refl refl refl
call_again (Await o m a c w) = again _ _ _ refl refl refl

pub frame_five : (c : Call) → length (frame_of c).words ≡ 5
frame_five c = length-sets no_words 0 (numbers_in (fields_of c))

-- what is known has a shape
pub has_shape : (s : Option Laid) → (shape_told s).known ≡ true → IsSome s
has_shape None e = absurd (false≢true e)
has_shape (Some s) e = refl

-- ---- what holds of every row holds of every call

module _ {A : Type 0} (f g : Call → A)
    (same : (a b c d e : ℕ) → map f (entries (a ∷ b ∷ c ∷ d ∷ e ∷ [])) ≡ map g (entries (a ∷ b ∷ c ∷ d ∷ e ∷ []))) where
  all_rows : (c : Call) → f c ≡ g c
  unfolding call_of
  all_rows c =
      let n = (frame_of c).number in
      let ws = (frame_of c).words in
      let all : map f (entries ws) ≡ map g (entries ws) = same (word ws 0) (word ws 1) (word ws 2) (word ws 3) (word ws 4) in
      let none : f Tick ≡ g Tick = ap (λ (l : List A). get_or l 0 (f Tick)) all in
      ap f (sym (call_again c).call)
      ∙ sym (get_or-map f (entries ws) n Tick)
      ∙ ap (λ (l : List A). get_or l n (f Tick)) all
      ∙ ap (get_or (map g (entries ws)) n) none
      ∙ get_or-map g (entries ws) n Tick
      ∙ ap g (call_again c).call

module _ (us : Uses) where
  abbrev asked_in : Frame → Asked
  asked_in f = asked_by us f.names f.number f.words

  asked_frame : (c : Call) → asked_in (frame_of c) ≡ asked us c
  unfolding asked
  asked_frame = all_rows (λ c. asked_in (frame_of c)) (asked us) (λ a b c d e. refl)

  -- by what the code found in the frame
  pub asked_by_lem : (c : Call) (f : Frame) (m : Names) → f ≡ frame_of c → f.names ≡ m
      → asked_by us m f.number f.words ≡ asked us c
  asked_by_lem c f m e h =
      ap (λ (n : Names). asked_by us n f.number f.words) (sym h) ∙ ap asked_in e ∙ asked_frame c
