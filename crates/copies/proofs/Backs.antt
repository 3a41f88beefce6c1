-- A call comes back from its line, by the writer's and the reader's promises alone.
use Prim.Native.Nat.{ℕ, ◌≤◌}
use mathlib.Core.Path.{◌≡◌, refl, sym, ap, ◌∙◌}
use mathlib.Core.Bool.{Bool, true, false}
use mathlib.Core.List.{List, []}
use native.Mathlib.Omega.{arith}
use lib.Dec.{eqb}
use lib.ListN.{length, take}
use borrow.Author.Tests.{eqb-true}
use Rattle.std.proofs.Common.{cond, Ok, Err}
use Rattle.calls.specs.declared.Call.{Call}
use Rattle.calls.specs.declared.refusals.Refusal.{Refusal}
use Rattle.calls.specs.Refusals.{number_of}
use Rattle.journal.specs.declared.Read.{Read}
use Rattle.journal.specs.Told.{Told, tells_call, refused_with, wrote, Reading, Written, reads}
use Rattle.journal.specs.Promise.{Tells, ReadsAs, line_refusal, item_refusal, WritesCall}
use Rattle.journal.proofs.Theorems.{within_64, as_written, turned_away, written_reads_back}
use Rattle.copies.specs.Back.{Back, BackOr, ReadsBack}

-- the written bytes can be lent to the reader
pub lent_within : (c : Call) (b l : List ℕ) (w : Written) (n : ℕ) (m : List ℕ) → w ≡ Ok n → WritesCall c b l w m → n ≤ length m
lent_within c b l w n m e f = (as_written c b l n m (rw e at f)).within

-- what was written reads back
pub came_back : (c : Call) (b l : List ℕ) (w : Written) (n : ℕ) (m : List ℕ) (r : Read) → w ≡ Ok n → WritesCall c b l w m → ReadsAs (take n m) r → ReadsBack c b l r
came_back c b l w n m r e f g =
    let h : WritesCall c b l (Ok n) m = rw e at f in
    let t = written_reads_back c b l n m r h g in
    record { reads = rw (as_written c b l n m h).none record { call = t.0; tells = t.1 } }

-- what was refused is told by its number
pub refused_back : (c : Call) (b l : List ℕ) (w : Written) (n : Refusal) (m : List ℕ) (r : Read) → w ≡ Err n → WritesCall c b l w m → Tells r (refused_with (number_of n)) [] → ReadsBack c b l r
refused_back c b l w n m r e f g =
    let h : WritesCall c b l (Err n) m = rw e at f in
    let t = turned_away _ _ l n m h.written in
    record { reads = rw t.0 (rw t.1 at g) }

-- ---- what the program asks of what was read

back_or_within : (k : ℕ) (c : Call) (b : List ℕ) (r : Read) → (k ≡ 0 → length b ≤ 64) → BackOr k c b r → r.len ≤ 64
back_or_within k c b r h = go (eqb k 0) refl
  where
    go : (z : Bool) → eqb k 0 ≡ z → cond z (Back c b r) (Tells r (refused_with k) []) → r.len ≤ 64
    go true e f = omega (arith, f.tells.len, h (eqb-true k 0 e))
    go false e f = omega (arith, f.len)

pub back_within : {c : Call} {b l : List ℕ} {r : Read} → ReadsBack c b l r → r.len ≤ 64
back_within {c} {b} {l} {r} f = back_or_within (line_refusal l (item_refusal b)) c b r (within_64 l b) f.reads

refused_by : Reading → ℕ
refused_by (Ok c) = 0
refused_by (Err r) = number_of r

told_number : Told → ℕ
told_number (refused_with n) = n
told_number (tells_call w) = 0
told_number (wrote n) = 0

by_number : (x : Reading) → refused_by x ≡ told_number (reads x)
unfolding refused_by told_number
by_number (Ok c) = refl
by_number (Err r) = refl

back_or_refusal : (k : ℕ) (c : Call) (b : List ℕ) (r : Read) → BackOr k c b r → refused_by r.answer ≡ k
unfolding refused_by told_number
back_or_refusal k c b r = go (eqb k 0) refl
  where
    go : (z : Bool) → eqb k 0 ≡ z → cond z (Back c b r) (Tells r (refused_with k) []) → refused_by r.answer ≡ k
    go true e f = ap refused_by f.call ∙ sym (eqb-true k 0 e)
    go false e f = by_number r.answer ∙ ap told_number f.answer

pub says_none : {c : Call} {b l : List ℕ} {r : Read} (d : Call) → r.answer ≡ Ok d → ReadsBack c b l r → 0 ≡ line_refusal l (item_refusal b)
unfolding refused_by
says_none {c} {b} {l} {r} d e f = sym (ap refused_by e) ∙ back_or_refusal (line_refusal l (item_refusal b)) c b r f.reads

pub says_refusal : {c : Call} {b l : List ℕ} {r : Read} (n : Refusal) → r.answer ≡ Err n → ReadsBack c b l r → number_of n ≡ line_refusal l (item_refusal b)
unfolding refused_by
says_refusal {c} {b} {l} {r} n e f = sym (ap refused_by e) ∙ back_or_refusal (line_refusal l (item_refusal b)) c b r f.reads
