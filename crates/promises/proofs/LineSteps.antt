-- The step of a line is what document 01 says: of a call's line the step of that call with its item, and of any other line one refusal.
use Prim.Native.Nat.{ℕ}
use mathlib.Core.Path.{◌≡◌, refl, ap, ◌∙◌}
use mathlib.Core.Logic.{⊎_elim}
use mathlib.Core.Bool.{Bool, true, false}
use mathlib.Core.List.{List}
use native.Mathlib.Omega.{arith}
use lib.Dec.{ltb}
use lib.ListN.{length, take}
use borrow.Author.Tests.{le-ltb}
use Rattle.lists.specs.Lists.{index}
use Rattle.calls.specs.declared.Call.{Call}
use Rattle.calls.specs.Table.{called}
use Rattle.fields.specs.Item.{filled}
use Rattle.journal.specs.declared.Read.{Read}
use Rattle.std.specs.Prelude.{Err}
use Rattle.calls.specs.declared.refusals.Refusal.TheVariants.{NoCall}
use Rattle.journal.specs.Line.{line_of, HasLine}
use Rattle.journal.specs.Told.{tells_call, refused_with, Reading, reads}
use Rattle.journal.specs.Promise.{IsLine, NoLine}
use Rattle.journal.specs.Reader.{read_as, read_of, no_call}
use Rattle.journal.proofs.Fit.{item_long}
use Rattle.journal.proofs.Newlines.{is_newline, Clear, line_ended}
use Rattle.journal.proofs.Promised.{line_read, reads_as}
use Rattle.journal.proofs.Theorems.{one_reading, told_item, line_within}
use Rattle.rules.specs.State.{State}
use Rattle.rules.specs.Steps.{turned_away, step}
use Rattle.rules.specs.Sessions.{no_line, step_told, step_read, read_line, step_of_line}

-- the line of a call with an item
pub call_line : (k : State) (s : List ℕ) (c : Call) (b : List ℕ) → HasLine c b → step_of_line k s (line_of c b) ≡ step k c b s
unfolding step_of_line read_line
call_line k s c b h =
    let r = read_as c (filled b) (length b) in
    let item : take (length b) (filled b) ≡ b = told_item r (tells_call (called c)) b record { answer = refl; bytes = refl; len = refl } (item_long c b h) in
    rw (le-ltb 256 (length (line_of c b)) (line_within c b h))
    (ap (step_read k s) (line_read c b h) ∙ ap (λ (x : List ℕ). step k c x s) item)

refused_read : (k : State) (s : List ℕ) (r : Read) → reads r.answer ≡ refused_with 3 → step_read k s r ≡ turned_away k (no_line k s) s
refused_read k s r e = ap (λ (x : Reading). step_told k s x (take r.len r.item)) (one_reading r.answer (Err NoCall) e)

-- "3: the line is no call's line", after 1 and 2
pub no_call_line : (k : State) (s l : List ℕ) → ((c : Call) (b : List ℕ) → HasLine c b → l ≡ line_of c b → ⊥) → step_of_line k s l ≡ turned_away k (no_line k s) s
unfolding step_of_line read_line no_call
no_call_line k s l none = go (ltb 256 (length l)) refl
  where
    go : (t : Bool) → ltb 256 (length l) ≡ t → step_of_line k s l ≡ turned_away k (no_line k s) s
    go true e = rw e
    go false e =
        rw e
        (⊎_elim (λ (f : IsLine l (read_of l)). absurd (none f.call f.item f.has f.line))
        (λ (f : NoLine l (read_of l)). refused_read k s (read_of l) f.tells.answer) (reads_as l))

-- "and so is a last line without a newline"
pub cut_line : (k : State) (s l : List ℕ) → Clear l → step_of_line k s l ≡ turned_away k (no_line k s) s
cut_line k s l h = no_call_line k s l (λ c b f e. absurd (omega (arith, ap (index is_newline) e, ap length e, line_ended c b)))
