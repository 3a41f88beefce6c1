-- What a move does to a line or a list, for any test on tasks: to a line (`in_line p`), to an object's waiters (`waits_on o`), to the delayed and waiting.
use mathlib.Core.Path.{◌≡◌, ap, ◌∙◌}
use mathlib.Core.Bool.{Bool, false}
use mathlib.Core.List.{List, [], ◌∷◌, ◌++◌, append-nil}
use Rattle.std.proofs.Common.{if◌then◌else◌}
use Rattle.lists.specs.Lists.{kept}
use Rattle.order.specs.Order.{without}
use Rattle.order.specs.Tidy.{count}
use Rattle.order.proofs.Passing.{kept-without, kept_tail, kept_front, kept_not}
use Rattle.rules.specs.Types.{TaskSlot, Task}
use Rattle.slots.specs.Values.{task_at}

-- the tasks of l that pass
abbrev pub passing : (Task → Bool) → List Task → List TaskSlot → List TaskSlot
passing q ts l = kept (λ u. q (task_at ts u)) l

-- the tables before and after a change that concerns the task t alone
module _ (q : Task → Bool) (ts us : List Task) (t : TaskSlot) (others : (u : TaskSlot) → (u.0 ≡ t.0 → ⊥) → task_at us u ≡ task_at ts u) where
  alike : (u : TaskSlot) → (u.0 ≡ t.0 → ⊥) → q (task_at us u) ≡ q (task_at ts u)
  alike u n = ap q (others u n)

  -- to the tail: it leaves its place in the line, and stands at the tail of it if it belongs there now
  pub passing_tail : (l : List TaskSlot) → passing q us (without t l ++ (t ∷ [])) ≡ without t (passing q ts l) ++ (if q (task_at us t) then t ∷ [] else [])
  passing_tail l = kept_tail t (λ u. q (task_at ts u)) (λ u. q (task_at us u)) alike l

  -- to the head likewise
  pub passing_head : (l : List TaskSlot) → passing q us (t ∷ without t l) ≡ (if q (task_at us t) then t ∷ [] else []) ++ without t (passing q ts l)
  passing_head l = kept_front t (λ u. q (task_at ts u)) (λ u. q (task_at us u)) alike l

  -- out of the order: it leaves every line and list
  pub passing_leaves : (l : List TaskSlot) → passing q us (without t l) ≡ without t (passing q ts l)
  passing_leaves l = kept-without t (λ u. q (task_at ts u)) (λ u. q (task_at us u)) alike l

  -- created: it stood nowhere, and stands at the tail of the line that it belongs to
  pub passing_created : (l : List TaskSlot) → count t.0 l ≡ 0 → q (task_at ts t) ≡ false → passing q us (without t l ++ (t ∷ [])) ≡ passing q ts l ++ (if q (task_at us t) then t ∷ [] else [])
  passing_created l c f = passing_tail l ∙ ap (λ (m : List TaskSlot). m ++ (if q (task_at us t) then t ∷ [] else [])) (kept_not t (λ u. q (task_at ts u)) f l)

  -- every other line and list stays
  module _ (before : q (task_at ts t) ≡ false) (after : q (task_at us t) ≡ false) (l : List TaskSlot) where
    unmoved : without t (passing q ts l) ≡ passing q ts l
    unmoved = kept_not t (λ u. q (task_at ts u)) before l

    pub other_tail : passing q us (without t l ++ (t ∷ [])) ≡ passing q ts l
    other_tail = passing_tail l ∙ rw (after, append-nil) unmoved

    pub other_head : passing q us (t ∷ without t l) ≡ passing q ts l
    other_head = passing_head l ∙ rw after unmoved

    pub other_leaves : passing q us (without t l) ≡ passing q ts l
    other_leaves = passing_leaves l ∙ unmoved
