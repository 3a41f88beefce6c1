-- The running task goes on to head its line while other tasks move, and where it moves to the head itself.
use Prim.Native.Nat.{ℕ, ◌<◌}
use mathlib.Core.Path.{◌≡◌, refl, sym, ap, ◌∙◌}
use mathlib.Core.Bool.{Bool, true, false, ◌&&◌}
use mathlib.Core.List.{List, [], ◌∷◌, ◌++◌, append-nil}
use native.Mathlib.Omega.{arith}
use lib.Dec.{eqb}
use lib.ListN.{length, set}
use borrow.Author.Tests.{eq-eqb, ne_eqb}
use Rattle.std.proofs.Common.{if◌then◌else◌}
use Rattle.lists.specs.Lists.{kept, head}
use Rattle.order.specs.Order.{listed, without}
use Rattle.slots.specs.Places.{is_ready}
use Rattle.slots.specs.Values.{in_line, task_at}
use Rattle.rules.specs.Types.{TaskSlot, Place, Ready, Task, State}
use Rattle.rules.specs.Lines.{line, level}
use Rattle.rules.proofs.LineMoves.{passing_tail, passing_head, passing_leaves}
use Rattle.rules.proofs.KeepNearly.{RunsIn}
use Rattle.rules.proofs.KeepSlot.{at_same, at_other}

-- who heads a list heads it still without another, and with more behind
without-head : (m : List TaskSlot) (r t : TaskSlot) (s : List TaskSlot) → head m ≡ r ∷ [] → (r.0 ≡ t.0 → ⊥) → head (without t m ++ s) ≡ r ∷ []
unfolding without
without-head [] r t s e n = absurd (let z : ◌≡◌ {A = ℕ} 0 1 = cc in omega arith)
without-head (u ∷ m) r t s e n =
    let q : u ≡ r = cc in
    rw (q, ne_eqb r.0 t.0 n)

-- the same line from the same tests
pub kept_same : (p q : TaskSlot → Bool) → ((u : TaskSlot) → p u ≡ q u) → (l : List TaskSlot) → kept p l ≡ kept q l
unfolding kept
kept_same p q f [] = refl
kept_same p q f (u ∷ l) = rw (f u, kept_same p q f l)

module _ (k : State) (R : RunsIn k) (t : TaskSlot) (x : Task) (j : State) (ts : j.tasks ≡ set k.tasks t.0 x) (r : j.running ≡ k.running) where
  abbrev u : TaskSlot
  u = k.running

  others : (v : TaskSlot) → (v.0 ≡ t.0 → ⊥) → task_at j.tasks v ≡ task_at k.tasks v
  others v n = rw ts (at_other k.tasks t x v n)

  -- another task was changed and moved
  module _ (n : u.0 ≡ t.0 → ⊥) where
    heads_from : (s : List TaskSlot) → ((p : ℕ) → line j.tasks p (listed j.order) ≡ without t (line k.tasks p (listed k.order)) ++ (if in_line p (task_at j.tasks t) then s else []))
        → RunsIn j
    heads_from s f =
        let same : level j.tasks j.running ≡ level k.tasks u = ap (λ v. level j.tasks v) r ∙ ap (λ (y : Task). y.effective) (others u n) in
        record {
          ready = ap (λ v. (task_at j.tasks v).place) r ∙ ap (λ (y : Task). y.place) (others u n) ∙ R.ready;
          heads = ap (λ p. head (line j.tasks p (listed j.order))) same
              ∙ ap head (f (level k.tasks u))
              ∙ without-head (line k.tasks (level k.tasks u) (listed k.order)) u t _ R.heads n
              ∙ ap (λ v. v ∷ []) (sym r);
        }

    pub runs_tail : listed j.order ≡ without t (listed k.order) ++ (t ∷ []) → RunsIn j
    unfolding line
    runs_tail e = heads_from (t ∷ []) (λ p. rw e (passing_tail (in_line p) k.tasks j.tasks t others (listed k.order)))

    pub runs_leave : listed j.order ≡ without t (listed k.order) → RunsIn j
    unfolding line
    runs_leave e = heads_from [] (λ p. rw e (passing_leaves (in_line p) k.tasks j.tasks t others (listed k.order) ∙ none (in_line p (task_at j.tasks t)) p))
      where
        none : (b : Bool) (p : ℕ) → without t (line k.tasks p (listed k.order)) ≡ without t (line k.tasks p (listed k.order)) ++ (if b then [] else [])
        none true p = sym (append-nil (without t (line k.tasks p (listed k.order))))
        none false p = sym (append-nil (without t (line k.tasks p (listed k.order))))

  -- the order stays, and so does every line
  pub runs_stay : listed j.order ≡ listed k.order → ((p : ℕ) (v : TaskSlot) → in_line p (task_at j.tasks v) ≡ in_line p (task_at k.tasks v))
      → (task_at j.tasks u).place ≡ Ready → level j.tasks u ≡ level k.tasks u → RunsIn j
  unfolding line
  runs_stay e f a b =
      let p = level k.tasks u in
      record {
        ready = rw r a;
        heads = rw (r, b, e, kept_same (λ v. in_line p (task_at j.tasks v)) (λ v. in_line p (task_at k.tasks v)) (f p) (listed k.order)) R.heads;
      }

-- the running task was changed and moved to the head
pub runs_head : (k : State) (x : Task) (j : State) → j.tasks ≡ set k.tasks k.running.0 x → j.running ≡ k.running → k.running.0 < length k.tasks
    → x.place ≡ Ready → listed j.order ≡ k.running ∷ without k.running (listed k.order) → RunsIn j
unfolding line
runs_head k x j ts r low a e =
    record {
      ready = ap (λ v. (task_at j.tasks v).place) r ∙ ap (λ (y : Task). y.place) mine ∙ a;
      heads = ap (λ v. head (line j.tasks (level j.tasks v) (listed j.order))) r
          ∙ ap (λ (m : List TaskSlot). head (line j.tasks (level j.tasks k.running) m)) e
          ∙ ap head (passing_head (in_line (level j.tasks k.running)) k.tasks j.tasks k.running (λ v n. rw ts (at_other k.tasks k.running x v n)) (listed k.order))
          ∙ ap (λ (b : Bool). head ((if b then k.running ∷ [] else []) ++ without k.running (line k.tasks (level j.tasks k.running) (listed k.order)))) belongs
          ∙ ap (λ v. v ∷ []) (sym r);
    }
  where
    mine : task_at j.tasks k.running ≡ x
    mine = rw ts (at_same k.tasks k.running x low)

    belongs : in_line (level j.tasks k.running) (task_at j.tasks k.running) ≡ true
    belongs = ap (λ (y : Task). in_line y.effective y) mine ∙ ap (λ (p : Place). is_ready p && eqb x.effective x.effective) a ∙ eq-eqb x.effective x.effective refl
