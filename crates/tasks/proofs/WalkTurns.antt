-- What each walk of the rows finds in numbers is what its definition says.
use Prim.Native.Nat.{ℕ, ◌<◌}
use mathlib.Core.Path.{◌≡◌, sym, ap, ◌∙◌}
use mathlib.Core.Bool.{false, ◌||◌}
use lib.Dec.{eqb}
use lib.ListN.{length, get_or}
use Rattle.lists.specs.Lists.{up_to, index}
use Rattle.numbers.specs.declared.ObjSlot.{ObjSlot}
use Rattle.slots.specs.declared.Want.TheVariants.{OwnTurn}
use Rattle.slots.specs.declared.Task.{Task}
use Rattle.slots.specs.Who.{waiters_of}
use Rattle.slots.specs.Places.{takes_task, waits_on}
use Rattle.slots.specs.Values.{free_task}
use Rattle.slots.proofs.Sweeps.{some_row, first_row}
use Rattle.tasks.specs.declared.Tasks.{Tasks}
use Rattle.tasks.specs.Columns.{row_at, rows_of, free_in}
use Rattle.tasks.specs.Walks.{waited_in, is_meant}
use Rattle.tasks.proofs.Columns.{Full, row_at_lem, rows_many}
use Rattle.tasks.proofs.StateTests.{row_meant, row_takes}

-- walks of the rows
module _ (ts : Tasks) (full : Full ts) where
  many : length (rows_of ts) ≡ 16
  many = rows_many ts ∙ full.states

  row : (i : ℕ) → i < length (rows_of ts) → get_or (rows_of ts) i free_task ≡ row_at ts i
  row i h = row_at_lem ts i (rw (← rows_many ts) h)

  pub waited_is : (o : ObjSlot) → up_to (λ b i. b || is_meant (waiters_of o) (get_or ts.state i 0) (get_or ts.object i 0) OwnTurn) 16 false ≡ waited_in ts o
  unfolding waited_in
  waited_is o = some_row (λ (x : Task). waits_on o x.place) (λ i. is_meant (waiters_of o) (get_or ts.state i 0) (get_or ts.object i 0) OwnTurn) (rows_of ts) free_task 16 many
      (λ i h. sym (row_meant ts i (waiters_of o)) ∙ sym (ap (λ (x : Task). waits_on o x.place) (row i h)))

  pub free_first : index (λ s. eqb s 0) ts.state ≡ free_in ts
  unfolding free_in
  free_first = first_row (λ (x : Task). takes_task x.place) (λ s. eqb s 0) (rows_of ts) ts.state free_task 0 (rows_many ts)
      (λ i h. ap (λ (x : Task). takes_task x.place) (row_at_lem ts i h) ∙ row_takes ts i)
