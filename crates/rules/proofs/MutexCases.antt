-- What a take and a give do, case by case.
use Prim.Native.Nat.{ℕ, ◌+◌, ◌-◌, ◌<◌, ◌≤◌}
use mathlib.Core.Path.{◌≡◌, refl, sym, ap, subst}
use mathlib.Core.Bool.{Bool, true, false, false≢true}
use mathlib.Core.List.{List, [], ◌∷◌}
use lib.Dec.{ltb}
use borrow.Author.Tests.{eqb-true, eqb-false, ltb-true, ltb-false}
use Rattle.std.proofs.Common.{if◌then◌else◌}
use Rattle.numbers.specs.Numbers.{same_task}
use Rattle.order.proofs.Passing.{one_number}
use Rattle.slots.specs.Kinds.{count_of, counting, is_mutex, is_by, is_taken, kind_at}
use Rattle.rules.specs.Types.{TaskSlot, ObjSlot, Ready, Holder, Nobody, By, Sort, Kind, Mutex, waiters_of, State, OwnTurn}
use Rattle.rules.specs.Tables.{with_object}
use Rattle.rules.specs.Lines.{first}
use Rattle.rules.specs.Waits.{arrives, wait_for}
use Rattle.rules.specs.Effects.{taken_from, taken, handed_to, given_back, given}
use Rattle.rules.proofs.TableSlots.{by_kind}

-- the mutex as the caller has it, with this count
abbrev pub callers_with : State → Sort → ℕ → Kind
callers_with k s n = Mutex (counting s n) (By k.running)

module _ (k : State) (o : ObjSlot) (P : State → Type 0) where
  -- it is no mutex; nobody holds it; the caller holds it; another does
  pub by_take : (w : ℕ) → (is_mutex (kind_at k.objects o) ≡ false → P k)
      → ((s : Sort) → kind_at k.objects o ≡ Mutex s Nobody → P (with_object k o (callers_with k s 1)))
      → ((s : Sort) → kind_at k.objects o ≡ Mutex s (By k.running) → P (with_object k o (callers_with k s (count_of s + 1))))
      → ((s : Sort) (h : TaskSlot) → kind_at k.objects o ≡ Mutex s (By h) → (h.0 ≡ k.running.0 → ⊥) → P (wait_for k o OwnTurn w))
      → P (taken k o w)
  unfolding taken
  by_take w none free again another =
      by_kind (kind_at k.objects o) (λ x. kind_at k.objects o ≡ x → P (taken_from k o x w)) (λ e. none (ap is_mutex e)) (λ e. none (ap is_mutex e)) (λ q e f. none (ap is_mutex e)) (λ s h e f. by_holder s h e) (λ b e f. none (ap is_mutex e)) refl
    where
      go : (s : Sort) (h : TaskSlot) → kind_at k.objects o ≡ Mutex s (By h) → (b : Bool) → same_task h k.running ≡ b
          → P (if b then with_object k o (Mutex (counting s (count_of s + 1)) (By h)) else wait_for k o OwnTurn w)
      go s h e true q =
          subst (λ t. kind_at k.objects o ≡ Mutex s (By t) → P (with_object k o (Mutex (counting s (count_of s + 1)) (By t)))) (sym (one_number h k.running (eqb-true h.0 k.running.0 q)))
          (again s) e
      go s h e false q = another s h e (eqb-false h.0 k.running.0 q)

      by_holder : (s : Sort) (h : Holder) → kind_at k.objects o ≡ Mutex s h → P (taken_from k o (Mutex s h) w)
      by_holder s Nobody e = free s e
      by_holder s (By h) e = go s h e (same_task h k.running) refl

  -- it is no mutex; its count goes down; it was given for the last time, and nobody waits, or somebody does
  pub by_give : (is_mutex (kind_at k.objects o) ≡ false → P k)
      → ((s : Sort) (h : Holder) → kind_at k.objects o ≡ Mutex s h → 1 < count_of s → P (with_object k o (Mutex (counting s (count_of s - 1)) h)))
      → ((s : Sort) (h : Holder) → kind_at k.objects o ≡ Mutex s h → count_of s ≤ 1 → first k (waiters_of o) ≡ [] → P (with_object k o (Mutex (counting s 0) Nobody)))
      → ((s : Sort) (h : Holder) → kind_at k.objects o ≡ Mutex s h → count_of s ≤ 1 → (t : TaskSlot) (l : List TaskSlot) → first k (waiters_of o) ≡ t ∷ l
      → P (with_object (arrives k t Ready 1) o (Mutex (counting s 1) (By t))))
      → P (given k o)
  unfolding given
  by_give none less freed passed =
      by_kind (kind_at k.objects o) (λ x. kind_at k.objects o ≡ x → P (given_back k o x)) (λ e. none (ap is_mutex e)) (λ e. none (ap is_mutex e)) (λ q e f. none (ap is_mutex e)) (λ s h e f. back s h e) (λ b e f. none (ap is_mutex e)) refl
    where
      last : (s : Sort) (h : Holder) → kind_at k.objects o ≡ Mutex s h → count_of s ≤ 1 → (l : List TaskSlot) → first k (waiters_of o) ≡ l → P (handed_to k o s l)
      last s h e m [] q = freed s h e m q
      last s h e m (t ∷ l) q = passed s h e m t l q

      back : (s : Sort) (h : Holder) → kind_at k.objects o ≡ Mutex s h → P (given_back k o (Mutex s h))
      back s h e = go (ltb 1 (count_of s)) refl
        where
          go : (b : Bool) → ltb 1 (count_of s) ≡ b → P (if b then with_object k o (Mutex (counting s (count_of s - 1)) h) else handed_to k o s (first k (waiters_of o)))
          go true q = less s h e (ltb-true 1 (count_of s) q)
          go false q = last s h e (ltb-false 1 (count_of s) q) (first k (waiters_of o)) refl

-- ── a take, by who holds the mutex: the caller, another, nobody
module _ (k : State) (o : ObjSlot) (s : Sort) (w : ℕ) where
  pub takes_again : (h : Holder) → is_by k.running h ≡ true → taken_from k o (Mutex s h) w ≡ with_object k o (Mutex (counting s (count_of s + 1)) h)
  takes_again Nobody e = absurd (false≢true e)
  takes_again (By t) e = rw e

  pub takes_waiting : (h : Holder) → is_by k.running h ≡ false → is_taken h ≡ true → taken_from k o (Mutex s h) w ≡ wait_for k o OwnTurn w
  takes_waiting Nobody e f = absurd (false≢true f)
  takes_waiting (By t) e f = rw e

  pub takes_unheld : (h : Holder) → is_taken h ≡ false → taken_from k o (Mutex s h) w ≡ with_object k o (callers_with k s 1)
  takes_unheld Nobody e = refl
  takes_unheld (By t) e = absurd (false≢true (sym e))
