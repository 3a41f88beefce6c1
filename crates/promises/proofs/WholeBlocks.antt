-- A block that is taken whole: how much room its answers need, and where it brings the program.
use Prim.Native.Nat.{ℕ, ◌+◌, ◌*◌, ◌≤◌}
use mathlib.Core.Path.{◌≡◌, refl}
use mathlib.Core.Bool.{Bool, true, false}
use mathlib.Core.List.{List, [], ◌∷◌}
use native.Mathlib.Omega.{arith}
use lib.Dec.{eqb}
use lib.ListN.{length, replicate, length-append}
use Rattle.lists.specs.Lists.{foldl}
use Rattle.calls.specs.Door.{task_no}
use Rattle.journal.proofs.LineStores.{reply_within}
use Rattle.cuts.specs.Keeping.{with_byte}
use Rattle.rules.specs.Tables.{fresh}
use Rattle.rules.specs.Sessions.{Run, line_step, told, fed, run}
use Rattle.promises.specs.Program.{program}
use Rattle.promises.specs.Turns.{goes_on, after_end, at_start, outcome, in_one}
use Rattle.promises.proofs.AnyBlocks.{fed_taken}
use Rattle.promises.proofs.Progress.{room}
use Rattle.promises.proofs.LineForLine.{ended_after, fed_so_far}

-- ---- room

-- a byte brings at most one answer
grows : (r : Run) (b : ℕ) → length (fed r b).answers ≤ length r.answers + 64
unfolding fed
grows r b = go (eqb b 10) refl
  where
    go : (t : Bool) → eqb b 10 ≡ t → length (fed r b).answers ≤ length r.answers + 64
    go true e =
        let d = line_step r.kernel r.store (with_byte r.cut b) in
        rw e (omega (arith, length-append r.answers (told d), reply_within d.answer (task_no d.kernel.uses d.kernel.running)))
    go false e = rw e (omega arith)

-- with 64 bytes lent for each byte of a block, and 256 more, it is taken whole
pub whole_taken : (n : ℕ) (r : Run) (l : List ℕ) → length r.answers + 64 * length l + 256 ≤ n → run n r l ≡ foldl fed r l
unfolding run foldl
whole_taken n r [] h = refl
whole_taken n r (b ∷ l) h = rw (room n r b (omega arith)) (whole_taken n (fed r b) l (omega (arith, grows r b)))

pub all_counted : (r : Run) (l : List ℕ) → (foldl fed r l).taken ≡ r.taken + length l
unfolding foldl
all_counted r [] = omega arith
all_counted r (b ∷ l) = omega (arith, all_counted (fed r b) l, fed_taken r b)

-- ---- the program

-- fed byte by byte, and then ended: kernel, store and answers are those of the input's lines
pub fed_then_ended : (input : List ℕ) (n : ℕ) → 256 ≤ n → outcome (after_end (in_one at_start input []) n) ≡ program input
fed_then_ended input n h = ended_after fresh (replicate 9216 0) input n h

-- before the end already, kernel and store are the program's
pub fed_kernel : (input : List ℕ) → (foldl fed (goes_on at_start) input).kernel ≡ (program input).kernel
fed_kernel input = (fed_so_far fresh (replicate 9216 0) input).0

pub fed_store : (input : List ℕ) → (foldl fed (goes_on at_start) input).store ≡ (program input).store
fed_store input = (fed_so_far fresh (replicate 9216 0) input).1
