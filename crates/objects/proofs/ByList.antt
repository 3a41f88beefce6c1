-- Each walk of the columns that stand for a list is the walk of the list.
use mathlib.Core.Path.{◌≡◌}
use mathlib.Core.List.{List, map}
use Rattle.lists.specs.Lists.{any, index}
use Rattle.numbers.specs.declared.TaskSlot.{TaskSlot}
use Rattle.numbers.specs.declared.ObjSlot.{ObjSlot}
use Rattle.slots.specs.declared.Object.{Object}
use Rattle.slots.specs.Kinds.{kind_at, takes_object, held_by, holder_of}
use Rattle.objects.specs.Columns.{objects_of, kind_in, held_in, holders_in, unused_in}
use Rattle.objects.proofs.Columns.{kind_of_lem, rows_of_lem}

-- a row says the kind of that slot
pub object_of : (xs : List Object) (o : ObjSlot) → kind_in (objects_of xs) o.0 ≡ kind_at xs o
unfolding kind_at
object_of xs o = kind_of_lem xs o.0

pub holds_of : (xs : List Object) (t : TaskSlot) → held_in (objects_of xs) t ≡ any (λ (x : Object). held_by t x.kind) xs
unfolding held_in
holds_of xs t = rw (rows_of_lem xs)

pub holders_of_lem : (xs : List Object) → holders_in (objects_of xs) ≡ map (λ (x : Object). (holder_of x.kind).0) xs
unfolding holders_in
holders_of_lem xs = rw (rows_of_lem xs)

pub free_of : (xs : List Object) → unused_in (objects_of xs) ≡ index (λ (x : Object). takes_object x.kind) xs
unfolding unused_in
free_of xs = rw (rows_of_lem xs)
