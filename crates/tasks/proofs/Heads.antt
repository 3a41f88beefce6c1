-- What need not be walked: nobody waits. And who heads a line.
use Prim.Native.Nat.{ℕ, zero, suc, ◌<◌}
use mathlib.Core.Path.{◌≡◌, refl, sym, ap, ◌∙◌}
use mathlib.Core.Bool.{Bool, true, false, ◌&&◌}
use mathlib.Core.List.{List, [], ◌∷◌}
use native.Mathlib.Omega.{arith}
use lib.Dec.{eqb, ltb}
use lib.ListN.{length, get_or}
use borrow.Author.Tests.{eqb-true, ltb-true, ltb-false}
use Rattle.lists.specs.Lists.{foldl, any, kept}
use Rattle.lists.proofs.Bools.{or_off, and_left}
use Rattle.numbers.specs.declared.TaskSlot.{TaskSlot}
use Rattle.numbers.specs.declared.ObjSlot.{ObjSlot}
use Rattle.slots.specs.declared.Task.{Task}
use Rattle.slots.specs.Who.{waiters_of}
use Rattle.slots.specs.declared.Lead.{Lead}
use Rattle.std.proofs.Common.{Option, Some, None, cond, if◌then◌else◌}
use Rattle.std.specs.List.{find}
use Rattle.std.specs.Option.{unwrap_or, option_eq}
use Rattle.order.specs.Order.{ordered, appended_to}
use Rattle.order.proofs.Orders.{fold_kept}
use Rattle.slots.specs.Places.{waits_on}
use Rattle.slots.specs.Leads.{better}
use Rattle.slots.specs.Values.{free_task, in_line}
use Rattle.tasks.proofs.StateTests.{row_line}
use Rattle.tasks.specs.declared.Tasks.{Tasks}
use Rattle.tasks.specs.Columns.{row_at, rows_of}
use Rattle.tasks.specs.Walks.{lead_in, line_in, head_or, ready_at, level_at, waited_in}
use Rattle.tasks.specs.Fine.{headed, heads_in}
use Rattle.tasks.proofs.Columns.{Full, past_row, row_at_lem, rows_many}

-- where none passes, none does
pub none_passes : {A : Type 0} (p : A → Bool) (xs : List A) (d : A) → any p xs ≡ false → (i : ℕ) → i < length xs → p (get_or xs i d) ≡ false
unfolding any
none_passes p [] d e i l = absurd (omega arith)
none_passes p (x ∷ xs) d e zero l = (or_off (p x) (any p xs) e).0
none_passes p (x ∷ xs) d e (suc i) l = none_passes p xs d (or_off (p x) (any p xs) e).1 i (omega arith)

and_never : (a b : Bool) → b ≡ false → (a && b) ≡ false
and_never true b e = e
and_never false b e = refl

-- what is so of each row, and of a free slot, is so of every slot
every_slot : (ts : Tasks) → Full ts → (P : Task → Type 0) → P free_task → (n : ℕ) → (n < length ts.state → P (row_at ts n)) → P (row_at ts n)
every_slot ts full P free n at = go (ltb n 16) refl
  where
    go : (b : Bool) → ltb n 16 ≡ b → P (row_at ts n)
    go true q = at (omega (arith, ltb-true n 16 q))
    go false q = rw (past_row ts full n (ltb-false n 16 q)) free

module _ (ts : Tasks) (full : Full ts) where
  -- no row waits on the object
  module _ (o : ObjSlot) (none : waited_in ts o ≡ false) where
    not_waits : (n : ℕ) → waits_on o (row_at ts n).place ≡ false
    unfolding waited_in
    not_waits n =
        every_slot ts full (λ x. waits_on o x.place ≡ false) refl n
        (λ l. rw (← row_at_lem ts n l) (none_passes (λ (x : Task). waits_on o x.place) (rows_of ts) free_task none n (rw (rows_many ts) l)))

    pub none_waited : (l : List TaskSlot) → None ≡ lead_in ts (waiters_of o) l
    unfolding lead_in foldl better
    none_waited [] = refl
    none_waited (t ∷ l) = none_waited l ∙ ap (λ (b : Option Lead). foldl (λ c u. better (waiters_of o) c u (row_at ts u.0)) b l) (sym (rw (not_waits t.0)))

-- ── the heads of lines
-- a line is gathered from the order
pub line_gathered : (ts : Tasks) (p : ℕ) (l : List TaskSlot) → ordered (line_in ts p l) ≡ foldl (λ o t. if in_line p (row_at ts t.0) then appended_to o t else o) (ordered []) l
unfolding line_in
line_gathered ts p l = sym (fold_kept (λ t. in_line p (row_at ts t.0)) [] l)

-- a search that looks into columns
pub found_in : (ts : Tasks) (p : ℕ) (l : List TaskSlot) → find (λ t. eqb (get_or ts.state t.0 0) 1 && eqb (get_or ts.effective t.0 0) p) l ≡ find (λ t. in_line p (row_at ts t.0)) l
found_in ts p l = ap (λ (f : TaskSlot → Bool). find f l) (λ i t. sym (row_line ts t.0 p) i)

-- who stands first in a line
pub head_found : (ts : Tasks) (p : ℕ) (l : List TaskSlot) (u : TaskSlot) → head_or (line_in ts p l) u ≡ unwrap_or (find (λ t. in_line p (row_at ts t.0)) l) u
unfolding line_in kept
head_found ts p [] u = refl
head_found ts p (t ∷ l) u = go (in_line p (row_at ts t.0)) (head_found ts p l u)
  where
    r : List TaskSlot
    r = kept (λ x. in_line p (row_at ts x.0)) l

    go : (b : Bool) → head_or r u ≡ unwrap_or (find (λ x. in_line p (row_at ts x.0)) l) u
        → head_or (cond b (t ∷ r) r) u ≡ unwrap_or (cond b (Some t) (find (λ x. in_line p (row_at ts x.0)) l)) u
    go true e = refl
    go false e = e

-- the task u heads its line
module _ (ts : Tasks) (u : TaskSlot) where
  abbrev is_u : Option TaskSlot → Bool
  is_u t = option_eq (λ (a b : TaskSlot). eqb a.0 b.0) t (Some u)

  headed_is : (p : ℕ) (l : List TaskSlot) → is_u (find (λ t. in_line p (row_at ts t.0)) l) ≡ (ready_at ts u && headed (line_in ts p l) u)
  unfolding line_in kept
  headed_is p [] = sym (and_never (ready_at ts u) false refl)
  headed_is p (t ∷ l) = go (in_line p (row_at ts t.0)) refl (find (λ x. in_line p (row_at ts x.0)) l) (kept (λ x. in_line p (row_at ts x.0)) l) (headed_is p l)
    where
      it : (c : Bool) → eqb t.0 u.0 ≡ c → in_line p (row_at ts t.0) ≡ true → c ≡ (ready_at ts u && c)
      it false e q = sym (and_never (ready_at ts u) false refl)
      it true e q = let y : ready_at ts u ≡ true = rw (eqb-true t.0 u.0 e) at (and_left (ready_at ts t) _ q) in rw y

      go : (b : Bool) → in_line p (row_at ts t.0) ≡ b → (f : Option TaskSlot) (r : List TaskSlot) → is_u f ≡ (ready_at ts u && headed r u)
          → is_u (cond b (Some t) f) ≡ (ready_at ts u && headed (cond b (t ∷ r) r) u)
      go true q f r e = it (eqb t.0 u.0) refl q
      go false q f r e = e

  pub heads_is : (l : List TaskSlot) → is_u (find (λ t. in_line (level_at ts u) (row_at ts t.0)) l) ≡ heads_in ts l u
  unfolding heads_in
  heads_is l = headed_is (level_at ts u) l
