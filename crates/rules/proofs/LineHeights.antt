-- The word of occupied lines: a bit is set exactly if its line is occupied, and what the count of leading zeros finds is the highest line.
use Prim.Native.Nat.{ℕ, ◌<◌}
use mathlib.Core.Path.{◌≡◌, refl, ◌∙◌}
use mathlib.Core.Bool.{Bool, true, not}
use mathlib.Core.List.{List, [], ◌∷◌}
use native.Mathlib.Omega.{arith}
use Rattle.lists.specs.Lists.{is_none}
use Rattle.lists.proofs.Tests.{some_kept}
use Rattle.order.specs.Order.{listed}
use Rattle.heights.specs.Heights.{is_lit, top, height, largest}
use Rattle.heights.proofs.Counts.{height-largest, top-largest}
use Rattle.heights.proofs.Bits.{word_bit}
use Rattle.slots.specs.Places.{is_ready}
use Rattle.slots.specs.Values.{task_at}
use Rattle.rules.specs.Types.{TaskSlot, Task, all_ready, State}
use Rattle.rules.specs.Lines.{line, those, level, highest}
use Rattle.rules.specs.Occupied.{lines_of}
use Rattle.rules.specs.Sound.{sound}
use Rattle.rules.proofs.LoanRule.{level_range}
use Rattle.rules.proofs.SoundSays.{sound_says}

-- the highest is the largest level
pub largest-highest : (ts : List Task) (l : List TaskSlot) → largest (level ts) l ≡ highest ts l
unfolding largest highest
largest-highest ts [] = refl
largest-highest ts (t ∷ l) = rw (largest-highest ts l)

module _ (k : State) where
  abbrev ready : TaskSlot → Bool
  ready t = is_ready (task_at k.tasks t).place

  abbrev highest_line : ℕ
  highest_line = highest k.tasks (those k.tasks all_ready (listed k.order))

  -- of every state
  pub bit_occupied : (p : ℕ) → p < 32 → is_lit (lines_of k).word p ≡ not (is_none (line k.tasks p (listed k.order)))
  unfolding lines_of line
  bit_occupied p l = word_bit ready (level k.tasks) p l (listed k.order) ∙ some_kept _ (listed k.order)

  pub height_highest : height (lines_of k) ≡ highest_line
  unfolding lines_of those
  height_highest = height-largest ready (level k.tasks) (listed k.order) ∙ largest-highest k.tasks _

  -- of a sound one: its priorities have lines, so the count alone finds it
  pub count_highest : sound k ≡ true → top (lines_of k).word ≡ highest_line
  unfolding lines_of those
  count_highest e =
      top-largest ready (level k.tasks) (listed k.order) (λ t r. let S = sound_says k e in omega (arith, level_range k.tasks k.objects S.tables.task_slots S.levels t)) ∙ largest-highest k.tasks _
