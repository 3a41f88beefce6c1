-- Whoever waits on an object stands in the order, so a walk over the rows finds the same as its list.
use Rattle.std.proofs.Common.{◌≡◌, ℕ, ◌+◌, Bool, true, false, not, List, [], ◌∷◌, get_or, refl, ap, ◌∙◌, subst, arith, eq-eqb, if◌then◌else◌}
use Rattle.lists.specs.Lists.{any, is_none}
use Rattle.lists.proofs.Tests.{any_at, any_none}
use Rattle.numbers.specs.declared.TaskSlot.{TaskSlot}
use Rattle.numbers.specs.declared.ObjSlot.{ObjSlot}
use Rattle.numbers.specs.Numbers.{task}
use Rattle.order.specs.Order.{listed}
use Rattle.order.specs.Tidy.{count}
use Rattle.slots.specs.declared.Task.{Task}
use Rattle.slots.specs.Places.{waits_on}
use Rattle.slots.specs.Values.{free_task, task_at}
use Rattle.slots.specs.Who.{waiters_of}
use Rattle.tasks.specs.Walks.{waited_in}
use Rattle.tasks.proofs.ByList.{waited_of}
use Rattle.rules.specs.State.{State}
use Rattle.rules.specs.Tables.{with_uses}
use Rattle.rules.specs.Lines.{those}
use Rattle.rules.specs.Sentences.{Listing}
use Rattle.calls.specs.Door.{fresh_uses}
use Rattle.kernel.specs.Types.{Core}
use Rattle.kernel.specs.Does.{Firm}
use Rattle.kernel.specs.Stands.{core_of, shown_core}
use Rattle.kernel.proofs.Shown.{shown_with_lem}

off : (c : Bool) → ◌≡◌ {A = ℕ} 0 (if c then 1 else 0) → c ≡ false
off true e = absurd (omega (arith, e))
off false e = refl

on : (c : Bool) (n : ℕ) → ◌≡◌ {A = ℕ} (1 + n) (if c then 1 else 0) → c ≡ true
on true n e = refl
on false n e = absurd (omega (arith, e))

module _ (ts : List Task) (b : ObjSlot) where
  abbrev waits : Task → Bool
  waits x = waits_on b x.place

  some_listed : (l : List TaskSlot) → ((n : ℕ) → count n l ≡ (if waits (get_or ts n free_task) then 1 else 0)) → any waits ts ≡ not (is_none l)
  unfolding count
  some_listed [] h = any_none waits ts free_task (λ n. off _ (h n))
  some_listed (t ∷ l) h = any_at waits ts t.0 free_task refl (on _ (count t.0 l) (rw (eq-eqb t.0 t.0 refl) at (h t.0)))

pub waited_listed : {k : Core} → Firm k → (s : State) → k ≡ core_of s → (b : ObjSlot) → waited_in k.tasks b ≡ not (is_none (those s.tasks (waiters_of b) (listed s.order)))
unfolding core_of task_at
waited_listed {k} F s h b =
    let e : shown_core k ≡ with_uses s fresh_uses = ap shown_core h ∙ shown_with_lem s fresh_uses in
    let L : Listing s.tasks s.order = subst (λ (x : State). Listing x.tasks x.order) e F.sound.listing in
    ap (λ (c : Core). waited_in c.tasks b) h ∙ waited_of s.tasks b ∙ some_listed s.tasks b (those s.tasks (waiters_of b) (listed s.order)) (λ n. L.lists b (task n))
