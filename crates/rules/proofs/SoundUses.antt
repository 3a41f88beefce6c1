-- The uses: the test is true exactly if each sentence about them holds.
use Prim.Native.Nat.{ℕ, ◌≤◌}
use mathlib.Core.Path.{◌≡◌, refl}
use mathlib.Core.Bool.{true}
use mathlib.Core.List.{List}
use native.Mathlib.Omega.{arith}
use lib.Dec.{eqb, leb}
use lib.ListN.{length, get_or-eq_default}
use borrow.Author.Tests.{eqb-true, eq-eqb, leb-true, le-leb}
use Rattle.lists.specs.Lists.{every, all_below}
use Rattle.lists.proofs.Bools.{and_left, and_right, and_intro, at, also, none, all_below_lem, below_all}
use Rattle.lists.proofs.Tests.{below_or}
use Rattle.numbers.specs.Numbers.{task, object}
use Rattle.calls.specs.Door.{use_in, uses_in_range, uses_fine, fresh_uses}
use Rattle.rules.specs.Types.{Uses}
use Rattle.rules.specs.Sentences.{Used}
use mathlib.Core.Logic.{⊎_elim}
use Prim.Native.Nat.{◌<◌}

-- of every number, since past the table it is 0
in_range : (us : List ℕ) → uses_in_range us ≡ true → (n : ℕ) → use_in us n ≤ 65535
in_range us e n =
    ⊎_elim (λ (l : n < 16). leb-true (use_in us n) 65535 (all_below_lem 16 (λ i. leb (use_in us i) 65535) (and_right (eqb (length us) 16) _ e) n l))
    (λ (l : 16 ≤ n). let m : length us ≤ n = omega (arith, eqb-true (length us) 16 (and_left (eqb (length us) 16) _ e)) in rw (get_or-eq_default us 0 {n = n} m) (omega arith))
    (below_or n 16)

range_in : (us : List ℕ) → length us ≡ 16 → ((n : ℕ) → use_in us n ≤ 65535) → uses_in_range us ≡ true
range_in us l f = and_intro (eqb (length us) 16) _ (eq-eqb (length us) 16 l) (below_all 16 (λ n. leb (use_in us n) 65535) (λ n h. le-leb (use_in us n) 65535 (f n)))

pub uses_say : (us : Uses) → uses_fine us ≡ true → Used us
unfolding uses_fine
uses_say us e =
    record {
      tasks = λ t. in_range us.tasks (at _ e 0) t.0;
      objects = λ o. in_range us.objects (at _ e 1) o.0;
      idle_none = eqb-true (use_in us.tasks 0) 0 (at _ e 2);
      task_slots = eqb-true (length us.tasks) 16 (and_left (eqb (length us.tasks) 16) _ (at _ e 0));
      object_slots = eqb-true (length us.objects) 16 (and_left (eqb (length us.objects) 16) _ (at _ e 1));
    }

pub says_uses : (us : Uses) → Used us → uses_fine us ≡ true
unfolding uses_fine
says_uses us U =
    also _ _ (range_in us.tasks U.task_slots (λ n. U.tasks (task n)))
    (also _ _ (range_in us.objects U.object_slots (λ n. U.objects (object n))) (also _ _ (eq-eqb (use_in us.tasks 0) 0 U.idle_none) none))

pub fresh_fine : uses_fine fresh_uses ≡ true
unfolding uses_fine fresh_uses every all_below
fresh_fine = refl
