-- Each line is answered by one line, and nothing else is written; and two sorts of session in which every line is refused.
use Prim.Native.Nat.{ℕ, suc}
use mathlib.Core.Path.{◌≡◌, refl, ap, ◌∙◌}
use mathlib.Core.Bool.{Bool, true, false}
use mathlib.Core.List.{List, [], ◌∷◌, ◌++◌, flatten}
use native.Mathlib.Omega.{arith}
use lib.Dec.{eqb, ltb}
use lib.ListN.{length, take}
use borrow.Author.Tests.{ne_eqb}
use Rattle.lists.specs.Lists.{foldl, index}
use Rattle.calls.specs.declared.Call.{Call}
use Rattle.calls.specs.Door.{task_no}
use Rattle.journal.specs.Told.{Reading}
use Rattle.std.specs.Prelude.{Ok, Err}
use Rattle.journal.specs.Reader.{read_of, no_call}
use Rattle.journal.proofs.Newlines.{Ended, reply_ended}
use Rattle.rules.specs.State.{State}
use Rattle.rules.specs.Sound.{sound}
use Rattle.rows.specs.Applies.{table}
use Rattle.rules.specs.Refusals.{later_row, refusal}
use Rattle.rules.specs.Steps.{Stepped, turned_away, step}
use Rattle.rules.specs.Sessions.{no_line, step_told, told, read_line, step_of_line}
use Rattle.rules.specs.Trace.{trace}
use Rattle.promises.specs.Program.{lines_of, Answered, answering, answers_to, newlines, all_refused}
use Rattle.promises.proofs.LineForLine.{first_line}

-- ---- one answer line for each line

told_ended : (d : Stepped) → Ended (told d)
told_ended d = reply_ended d.answer (task_no d.kernel.uses d.kernel.running)

-- the first line written is the first line's answer
pub next_answer : (k : State) (s l : List ℕ) (ls : List (List ℕ))
    → lines_of (answering k s (l ∷ ls)).answers ≡ told (step_of_line k s l) ∷ lines_of (answering (step_of_line k s l).kernel (step_of_line k s l).store ls).answers
unfolding answering trace flatten
next_answer k s l ls = first_line (told (step_of_line k s l)) _ (told_ended (step_of_line k s l))

-- as many lines are written as lines came
pub as_many_lines : (k : State) (s : List ℕ) (ls : List (List ℕ)) → length (lines_of (answering k s ls).answers) ≡ length ls
unfolding answering trace flatten lines_of
as_many_lines k s [] = refl
as_many_lines k s (l ∷ ls) = ap length (next_answer k s l ls) ∙ ap suc (as_many_lines (step_of_line k s l).kernel (step_of_line k s l).store ls)

-- an ended line has one newline
one_newline : (l m : List ℕ) → Ended l → newlines (l ++ m) ≡ suc (newlines m)
unfolding newlines index
one_newline [] m e = absurd (omega arith)
one_newline (x ∷ l) m e = go (eqb x 10) refl e (one_newline l m)
  where
    only : (l : List ℕ) → 1 ≡ suc (length l) → suc (newlines (l ++ m)) ≡ suc (newlines m)
    only [] h = refl
    only (y ∷ l) h = absurd (omega arith)

    go : (t : Bool) → eqb x 10 ≡ t → Ended (x ∷ l) → (Ended l → newlines (l ++ m) ≡ suc (newlines m)) → newlines (x ∷ (l ++ m)) ≡ suc (newlines m)
    go true q = rw q (λ h ih. only l h)
    go false q = rw q (λ h ih. ih (omega arith))

-- and each of them is ended by its newline
pub as_many_newlines : (k : State) (s : List ℕ) (ls : List (List ℕ)) → newlines (answering k s ls).answers ≡ length ls
unfolding answering trace flatten newlines
as_many_newlines k s [] = refl
as_many_newlines k s (l ∷ ls) =
    one_newline (told (step_of_line k s l)) _ (told_ended (step_of_line k s l))
    ∙ ap suc (as_many_newlines (step_of_line k s l).kernel (step_of_line k s l).store ls)

-- "one answer line for each"
pub one_answer_each : (input : List ℕ) → newlines (answers_to input) ≡ length (lines_of input)
one_answer_each input = as_many_newlines _ _ (lines_of input)

-- ---- every line refused

module _ (k : State) (s : List ℕ) (n : ℕ) where
  refused_lines : ((l : List ℕ) → step_of_line k s l ≡ turned_away k n s) → (ls : List (List ℕ)) → answering k s ls ≡ all_refused k s n (length ls)
  unfolding answering trace foldl flatten
  refused_lines f [] = refl
  refused_lines f (l ∷ ls) =
      ap (λ (d : Stepped). let r = answering d.kernel d.store ls in record { kernel = r.kernel; store = r.store; answers = told d ++ r.answers }) (f l)
      ∙ ap (λ (r : Answered). record { kernel = r.kernel; store = r.store; answers = told (turned_away k n s) ++ r.answers }) (refused_lines f ls)

  refused_step : ((c : Call) (item : List ℕ) → step k c item s ≡ turned_away k n s) → no_line k s ≡ n → (l : List ℕ) → step_of_line k s l ≡ turned_away k n s
  unfolding step_of_line read_line no_call
  refused_step f e l = go (ltb 256 (length l)) refl
    where
      none : turned_away k (no_line k s) s ≡ turned_away k n s
      none = ap (λ (m : ℕ). turned_away k m s) e

      read : (x : Reading) (item : List ℕ) → step_told k s x item ≡ turned_away k n s
      read (Ok c) item = f c item
      read (Err m) item = none

      go : (t : Bool) → ltb 256 (length l) ≡ t → step_of_line k s l ≡ turned_away k n s
      go true q = rw q none
      go false q = rw q (read (read_of l).answer (take (read_of l).len (read_of l).item))

-- "1: the kernel value is not sound": every line is answered 1, and nothing changes
pub unsound_lines : (k : State) (s : List ℕ) → sound k ≡ false → (ls : List (List ℕ)) → answering k s ls ≡ all_refused k s 1 (length ls)
unfolding step refusal no_line
unsound_lines k s e = refused_lines k s 1 (refused_step k s 1 (λ c item. rw e) (rw e))

-- "2: the store is not 9,216 bytes long"
pub other_store_lines : (k : State) (s : List ℕ) → sound k ≡ true → (length s ≡ 9216 → ⊥) → (ls : List (List ℕ)) → answering k s ls ≡ all_refused k s 2 (length ls)
unfolding step refusal later_row table no_line
other_store_lines k s e h = refused_lines k s 2 (refused_step k s 2 (λ c item. rw (e, ne_eqb (length s) 9216 h)) (rw (e, ne_eqb (length s) 9216 h)))
