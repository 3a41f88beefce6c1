-- A session gets on: the answers fit into what is lent, with 256 bytes lent a byte at least is taken, and asking again ends.
use Prim.Native.Nat.{ℕ, suc, ◌+◌, ◌<◌, ◌≤◌}
use mathlib.Core.Path.{◌≡◌, refl, ap, ◌∙◌}
use mathlib.Core.Bool.{Bool, true, false, ◌&&◌}
use mathlib.Core.List.{List, [], ◌∷◌, ◌++◌, append-nil}
use native.Mathlib.Omega.{arith}
use lib.Dec.{eqb, ltb}
use lib.ListN.{length, length-append, length-drop}
use borrow.Author.Tests.{le-ltb, ltb-true, ltb-false}
use Rattle.std.proofs.Common.{if◌then◌else◌}
use Rattle.lists.specs.Lists.{foldl}
use Rattle.calls.specs.Door.{task_no}
use Rattle.journal.proofs.LineStores.{reply_within}
use Rattle.rules.specs.State.{State}
use Rattle.cuts.specs.declared.Cut.{Cut}
use Rattle.cuts.specs.Keeping.{with_byte}
use Rattle.rules.specs.Sessions.{Run, begun, line_step, told, fed, no_room, run}
use Rattle.promises.specs.Turns.{Turn, Pause, goes_on, handed_in, after_turn, after_turns, Asking}
use Rattle.promises.proofs.AnyBlocks.{goes_through, fed_taken}

-- ---- room

-- a byte but a newline is not answered, and an answer has at most 256 bytes
fed_answers : (r : Run) (b : ℕ) → length (fed r b).answers ≤ length r.answers + (if eqb b 10 then 256 else 0)
unfolding fed
fed_answers r b = go (eqb b 10) refl
  where
    go : (t : Bool) → eqb b 10 ≡ t → length (fed r b).answers ≤ length r.answers + (if t then 256 else 0)
    go true e =
        let d = line_step r.kernel r.store (with_byte r.cut b) in
        rw e (omega (arith, length-append r.answers (told d), reply_within d.answer (task_no d.kernel.uses d.kernel.running)))
    go false e = rw e (omega arith)

-- the answers fit into the bytes lent
pub answers_fit : (n : ℕ) (r : Run) (l : List ℕ) → length r.answers ≤ n → length (run n r l).answers ≤ n
unfolding run no_room
answers_fit n r [] h = h
answers_fit n r (b ∷ l) h = go (no_room n r b) refl (answers_fit n (fed r b) l)
  where
    fits : (t : Bool) → eqb b 10 ≡ t → (t && ltb n (length r.answers + 256)) ≡ false → length (fed r b).answers ≤ n
    fits true e q = omega (arith, ltb-false n (length r.answers + 256) q, rw e at (fed_answers r b))
    fits false e q = omega (arith, rw e at (fed_answers r b))

    go : (t : Bool) → no_room n r b ≡ t → (length (fed r b).answers ≤ n → length (run n (fed r b) l).answers ≤ n) → length (run n r (b ∷ l)).answers ≤ n
    go true e ih = rw e h
    go false e ih = rw e (ih (fits (eqb b 10) refl e))

-- where 256 bytes are free, a byte is taken
pub room : (n : ℕ) (r : Run) (b : ℕ) → length r.answers + 256 ≤ n → no_room n r b ≡ false
unfolding no_room
room n r b h = rw (le-ltb n (length r.answers + 256) h) (go (eqb b 10))
  where
    go : (t : Bool) → (t && false) ≡ false
    go true = refl
    go false = refl

-- ---- at least one byte

pub one_taken : (n : ℕ) (k : State) (s : List ℕ) (c : Cut) (b : ℕ) (l : List ℕ) → 256 ≤ n → 0 < (run n (begun k s c) (b ∷ l)).taken
unfolding run
one_taken n k s c b l h =
    let r = begun k s c in
    rw (room n r b h) (omega (arith, (goes_through n (fed r b) l).taken, fed_taken r b))

no_more : (p : Pause) (t : Turn) → length (after_turn p t).waits ≤ length (p.waits ++ t.came)
unfolding after_turn
no_more p t =
    let l = p.waits ++ t.came in
    omega (arith, length-drop (run t.lent (goes_on p) l).taken l)

-- with 256 bytes lent, less waits after a turn than was handed in
pub progress : (p : Pause) (t : Turn) → 256 ≤ t.lent → 0 < length (p.waits ++ t.came) → length (after_turn p t).waits < length (p.waits ++ t.came)
unfolding after_turn
progress p t h = go (p.waits ++ t.came)
  where
    go : (l : List ℕ) → 0 < length l → length (handed_in p t.lent l).waits < length l
    go [] e = absurd (omega arith)
    go (b ∷ l) e =
        let m = (run t.lent (goes_on p) (b ∷ l)).taken in
        omega (arith, length-drop m (b ∷ l), one_taken t.lent p.kernel p.store p.cut b l h)

-- at a turn that brings nothing, what waits becomes less
less_waits : (p : Pause) (t : Turn) → t.came ≡ [] → 256 ≤ t.lent → (m : ℕ) → length p.waits ≤ suc m → length (after_turn p t).waits ≤ m
less_waits p t e h m g = go (ltb 0 (length l)) refl
  where
    l : List ℕ
    l = p.waits ++ t.came

    same : l ≡ p.waits
    same = ap (λ (x : List ℕ). p.waits ++ x) e ∙ append-nil p.waits

    go : (b : Bool) → ltb 0 (length l) ≡ b → length (after_turn p t).waits ≤ m
    go true q = omega (arith, progress p t h (ltb-true 0 (length l) q), ap length same)
    go false q = omega (arith, ltb-false 0 (length l) q, no_more p t)

-- asked as often as bytes wait, the session has taken all
pub asking_ends : (p : Pause) (ts : List Turn) → Asking ts → length p.waits ≤ length ts → (after_turns p ts).waits ≡ []
unfolding foldl
asking_ends p [] a h = none p.waits h
  where
    none : (l : List ℕ) → length l ≤ 0 → l ≡ []
    none [] e = refl
    none (b ∷ l) e = absurd (omega arith)
asking_ends p (t ∷ ts) a h = asking_ends (after_turn p t) ts a.1 (less_waits p t a.0.0 a.0.1 (length ts) h)
