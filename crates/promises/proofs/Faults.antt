-- Five faults that the published models or FreeRTOS itself have, and that cannot happen here: after any calls from the fresh kernel.
use Prim.Native.Nat.{ℕ, ◌<◌, ◌≤◌}
use mathlib.Core.Path.{◌≡◌, refl, ap, ◌∙◌}
use mathlib.Core.Bool.{true, false}
use mathlib.Core.List.{List}
use native.Mathlib.Omega.{arith}
use Rattle.numbers.specs.Numbers.{idle}
use Rattle.calls.specs.declared.TaskNo.{TaskNo}
use Rattle.calls.specs.Door.{task_slot}
use Rattle.calls.specs.Behind.{asked}
use Rattle.slots.specs.Values.{owned, task_at}
use Rattle.slots.specs.Kinds.{is_unused, kind_at}
use Rattle.rules.specs.Lines.{level}
use Rattle.rules.specs.Sentences.{Holds, Exists, Reaches, MayWait, receiver, sender, taker, awaiter, Sound}
use Rattle.rules.specs.Loans.{worked_out, new_priority}
use Rattle.rules.specs.Effects.{effect}
use Rattle.rules.specs.Steps.{after, accepted, step}
use Rattle.rules.specs.Trace.{CallMade}
use Rattle.rules.proofs.TickJumps.{chosen_only}
use Rattle.rules.proofs.SoundSays.{sound_says}
use Rattle.rules.proofs.KeepSlot.{at_same}
use Rattle.rules.proofs.KeepEvery.{step_kept}
use Rattle.rules.proofs.LoanWorks.{worked_own}
use Rattle.rules.proofs.Keeps.{there_low}
use Rattle.promises.specs.Types.{TaskSlot, ObjSlot, SetPriority, Want, Wait, Wake, Ready, Waiting, Task, Kind, State}
use Rattle.promises.specs.History.{reached}
use Rattle.promises.specs.Depth.{is_accepted, depth}
use Rattle.promises.proofs.Histories.{reached-sound}
use Rattle.promises.proofs.Depths.{depth_by_calls}

module _ (ms : List CallMade) where
  abbrev k : State
  k = reached ms

  S : Sound k
  S = sound_says (reached ms) (reached-sound ms)

  -- idle deleted: it is always there, and ready
  pub idle_stays : (task_at k.tasks idle).place ≡ Ready
  idle_stays = S.tables.as_idle.ready

  -- a holder deleted: whoever holds a mutex exists
  pub holder_stays : (t : TaskSlot) (o : ObjSlot) → Holds k.objects t o → Exists k.tasks t
  holder_stays = S.tables.holders

  -- the hold's count overflowing: it is the number of accepted holds less the accepted releases, which stays within its range; so it never comes round to 0
  pub hold_counts : (k.hold ≡ depth ms) × (depth ms ≤ 255)
  hold_counts = (depth_by_calls ms, omega (arith, depth_by_calls ms, S.clock.counts.hold_range))

  -- an object in use removed: whoever waits, waits on an object that is there, in a slot neither free nor spent
  pub waited_stays : (t : TaskSlot) (y : Wait) (w : Wake) → (task_at k.tasks t).place ≡ Waiting y w → is_unused (kind_at k.objects y.object) ≡ false
  waited_stays t y w e = not_unused ((S.tables.tasks t).waits y w e)
    where
      not_unused : {u : TaskSlot} {z : Want} {x : Kind} → MayWait u z x → is_unused x ≡ false
      not_unused (receiver h) = refl
      not_unused (sender h) = refl
      not_unused (taker h) = refl
      not_unused (awaiter l h e) = refl

  -- a raised priority of a boosted holder lost: a holder whose accepted change says p owns p after it, and has at least p and at least what each owns that waits for it
  pub raise_stays : (t : TaskNo) (o : ObjSlot) (p : ℕ) (item s : List ℕ) → Holds k.objects (task_slot k.uses t) o → is_accepted k record { call = SetPriority t p; item = item; store = s } ≡ true
      → let u = task_slot k.uses t in let j = (step k (SetPriority t p) item s).kernel in
      ((task_at j.tasks u).own ≡ p) × ((v : TaskSlot) → Reaches j.tasks j.objects v u → (task_at j.tasks v).own ≤ level j.tasks u)
  unfolding step accepted after effect asked new_priority
  raise_stays t o p item s h e = (owns, λ v r. (T.levels.rule u low).at_least v r)
    where
      u : TaskSlot
      u = task_slot k.uses t

      low : u.0 < 16
      low = there_low k.tasks u S.tables.task_slots (S.tables.holders u o h)

      T : Sound (step k (SetPriority t p) item s).kernel
      T = sound_says (step k (SetPriority t p) item s).kernel (step_kept k (SetPriority t p) item s (reached-sound ms))

      owns : (task_at (step k (SetPriority t p) item s).kernel.tasks u).own ≡ p
      owns =
          let j = new_priority k u p in
          rw e
          (ap (λ ts. (task_at ts u).own) (chosen_only (worked_out j)).tasks
          ∙ worked_own j u
          ∙ ap (λ (x : Task). x.own) (at_same k.tasks u (owned (task_at k.tasks u) p) (omega (arith, low, S.tables.task_slots))))
