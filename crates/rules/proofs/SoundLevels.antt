-- Of the priorities the test is true exactly if every sentence holds.
use mathlib.Core.Path.{◌≡◌, refl}
use mathlib.Core.Bool.{true}
use mathlib.Core.List.{List}
use lib.ListN.{length, get_or}
use borrow.Author.Tests.{eqb-true, eq-eqb, leb-true, le-leb}
use Rattle.lists.proofs.Bools.{and_left, and_right, and_intro, all_below_lem, below_all}
use Rattle.numbers.specs.Numbers.{task}
use Rattle.slots.specs.SoundSlots.{priorities_fine}
use Rattle.slots.specs.Values.{task_at}
use Rattle.rules.specs.Types.{Task, Object}
use Rattle.rules.specs.Lines.{level}
use Rattle.rules.specs.Loans.{ruled}
use Rattle.rules.specs.Sound.{levels_fine}
use Rattle.rules.specs.Sentences.{Levels}
use Rattle.rules.proofs.TableSlots.{any_task}
use Rattle.rules.proofs.LoanRule.{levels_reckoned, reckoned_levels}

module _ (ts : List Task) (os : List Object) (l : length ts ≡ 16) where
  pub levels_say : levels_fine ts os ≡ true → Levels ts os
  unfolding levels_fine
  levels_say e =
      reckoned_levels ts os l
      (λ t h. eqb-true (level ts t) (get_or (ruled ts os) t.0 0) (and_right (priorities_fine (task_at ts t)) _ (all_below_lem 16 _ e t.0 h)))
      (λ t. leb-true (task_at ts t).own 31
      (any_task ts (λ u x. priorities_fine x) l (below_all 16 _ (λ n h. and_left (priorities_fine (task_at ts (task n))) _ (all_below_lem 16 _ e n h))) (λ u h. refl) t))

  pub says_levels : Levels ts os → levels_fine ts os ≡ true
  unfolding levels_fine
  says_levels L = below_all 16 _ (λ n h. and_intro _ _ (le-leb _ 31 (L.range (task n))) (eq-eqb _ _ (levels_reckoned ts os l L (task n) h)))
