-- Of who runs the test is true exactly if every sentence holds.
use Prim.Native.Nat.{ℕ, ◌<◌}
use mathlib.Core.Path.{◌≡◌, refl, ap}
use mathlib.Core.Bool.{Bool, true, false, ◌||◌, false≢true}
use mathlib.Core.List.{List, [], ◌∷◌}
use native.Mathlib.Omega.{arith}
use lib.Dec.{eqb, ltb}
use lib.ListN.{get_or}
use borrow.Author.Tests.{eqb-true, eq-eqb, ltb-true, ltb-false, lt-ltb}
use Rattle.std.proofs.Common.{if◌then◌else◌}
use Rattle.lists.specs.Lists.{kept, head}
use Rattle.lists.proofs.Tests.{kept_none}
use Rattle.lists.proofs.Bools.{and_left, and_right, and_intro, or_second}
use Rattle.numbers.specs.Numbers.{idle}
use Rattle.order.proofs.Passing.{one_number}
use Rattle.slots.specs.Places.{is_ready}
use Rattle.slots.specs.Values.{in_line, in_higher, task_at}
use Rattle.rules.specs.Types.{TaskSlot, Task}
use Rattle.rules.specs.Lines.{line, level}
use Rattle.rules.specs.Sound.{heads, no_higher, runs_fine}
use Rattle.rules.specs.Sentences.{Runs, Running}
use Rattle.rules.proofs.TableSlots.{is_ready_lem}

heads_one : (l : List TaskSlot) (r : TaskSlot) → heads l r ≡ true → head l ≡ r ∷ []
heads_one [] r e = absurd (false≢true e)
heads_one (t ∷ l) r e = rw (one_number t r (eqb-true t.0 r.0 e))

one_heads : (l : List TaskSlot) (r : TaskSlot) → head l ≡ r ∷ [] → heads l r ≡ true
one_heads [] r e = absurd (let z : ◌≡◌ {A = ℕ} 0 1 = cc in omega arith)
one_heads (t ∷ l) r e = let q : t.0 ≡ r.0 = ap (λ (m : List TaskSlot). (get_or m 0 idle).0) e in eq-eqb t.0 r.0 q

-- no line above: no task of a higher line is listed
none_higher : (ts : List Task) (p : ℕ) (l : List TaskSlot) → ((q : ℕ) → p < q → line ts q l ≡ []) → kept (λ t. in_higher p (task_at ts t)) l ≡ []
unfolding kept line
none_higher ts p [] f = refl
none_higher ts p (t ∷ l) f = go (in_higher p (task_at ts t)) refl (none_higher ts p l)
  where
    tail_none : (q : ℕ) (b : Bool) → (if b then t ∷ kept (λ u. in_line q (task_at ts u)) l else kept (λ u. in_line q (task_at ts u)) l) ≡ []
        → kept (λ u. in_line q (task_at ts u)) l ≡ []
    tail_none q true e = absurd (let z : ◌≡◌ {A = ℕ} 0 1 = cc in omega arith)
    tail_none q false e = e

    no_cons : {u : TaskSlot} {m : List TaskSlot} → u ∷ m ≡ [] → ⊥
    no_cons e = let z : ◌≡◌ {A = ℕ} 0 1 = cc in omega arith

    go : (b : Bool) → in_higher p (task_at ts t) ≡ b
        → (((q : ℕ) → p < q → kept (λ u. in_line q (task_at ts u)) l ≡ []) → kept (λ u. in_higher p (task_at ts u)) l ≡ [])
        → (if b then t ∷ kept (λ u. in_higher p (task_at ts u)) l else kept (λ u. in_higher p (task_at ts u)) l) ≡ []
    go true e ih =
        let ready = and_left (is_ready (task_at ts t).place) _ e in
        absurd (no_cons (rw (and_intro (is_ready (task_at ts t).place) (eqb (level ts t) (level ts t)) ready (eq-eqb (level ts t) (level ts t) refl)) at
        (f (level ts t) (ltb-true p (level ts t) (and_right (is_ready (task_at ts t).place) _ e)))))
    go false e ih = ih (λ q m. tail_none q (in_line q (task_at ts t)) (f q m))

pub runs_highest : (ts : List Task) (l : List TaskSlot) (r : TaskSlot) → Running ts l r 0 → no_higher ts (level ts r) l ≡ true
unfolding no_higher
runs_highest ts l r S = rw (none_higher ts (level ts r) l (S.no_higher refl))

module _ (ts : List Task) (l : List TaskSlot) (r : TaskSlot) (hold : ℕ) where
  abbrev mine : List TaskSlot
  mine = line ts (level ts r) l

  -- ── a test that is true says every sentence
  pub runs_say : runs_fine ts l r hold ≡ true → Running ts l r hold
  unfolding runs_fine no_higher line
  runs_say e =
      let more = and_right (is_ready (task_at ts r).place) _ e in
      record {
        runs = record {
          ready = is_ready_lem (task_at ts r).place (and_left (is_ready (task_at ts r).place) _ e);
          heads = heads_one mine r (and_left (heads mine r) _ more);
        };
        no_higher = λ h p m.
            kept_none (λ t. in_higher (level ts r) (task_at ts t)) (λ t. in_line p (task_at ts t)) (higher p m) l
            (or_second (ltb 0 hold) _ (and_right (heads mine r) _ more) (rw h));
      }
    where
      higher : (p : ℕ) → level ts r < p → (t : TaskSlot) → in_line p (task_at ts t) ≡ true → in_higher (level ts r) (task_at ts t) ≡ true
      higher p m t q =
          and_intro (is_ready (task_at ts t).place) (ltb (level ts r) (level ts t)) (and_left (is_ready (task_at ts t).place) _ q)
          (rw (eqb-true (level ts t) p (and_right (is_ready (task_at ts t).place) _ q)) (lt-ltb (level ts r) p m))

  -- ── every sentence makes the test true
  hold_or : Running ts l r hold → (b : Bool) → ltb 0 hold ≡ b → b || no_higher ts (level ts r) l ≡ true
  unfolding no_higher
  hold_or S true e = refl
  hold_or S false e = rw (none_higher ts (level ts r) l (S.no_higher (omega (arith, ltb-false 0 hold e))))

  pub says_runs : Running ts l r hold → runs_fine ts l r hold ≡ true
  unfolding runs_fine
  says_runs S =
      and_intro (is_ready (task_at ts r).place) _ (rw S.runs.ready)
      (and_intro _ _ (one_heads mine r S.runs.heads) (hold_or S (ltb 0 hold) refl))

-- who heads its line, and has no higher one occupied
pub highest_runs : (ts : List Task) (l : List TaskSlot) (r : TaskSlot) → Runs ts l r → no_higher ts (level ts r) l ≡ true → Running ts l r 0
unfolding runs_fine
highest_runs ts l r R e =
    runs_say ts l r 0 (and_intro (is_ready (task_at ts r).place) _ (rw R.ready) (and_intro _ _ (one_heads (line ts (level ts r) l) r R.heads) e))
