-- What each make puts into the lowest free object, by the call's number.
use Rattle.std.specs.Prelude.{if◌then◌else◌}
use Rattle.calls.specs.declared.Asked.{Asked}
use Rattle.slots.specs.Types.{Nobody}
use Rattle.slots.specs.declared.Sort.TheVariants.{Ordinary, Recursive}
use Rattle.slots.specs.declared.Kind.{Kind}
use Rattle.slots.specs.declared.Kind.TheVariants.{Queue, Mutex, Group}
use Rattle.rows.specs.Asking.{is}

unfoldable pub new_object : Asked → Kind
new_object a =
    if is 10 a then Queue (record { capacity = a.capacity; size = a.size; first = 0; count = 0 })
    else if is 11 a then Mutex Ordinary Nobody
    else if is 19 a then Mutex (Recursive 0) Nobody
    else Group 0
