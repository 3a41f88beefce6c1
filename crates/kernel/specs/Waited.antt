-- Who waits for bits, as the columns say it.
use Rattle.std.specs.Prelude.{ℕ, Bool, true}
use Rattle.slots.specs.declared.Want.{Want}
use Rattle.slots.specs.declared.Want.TheVariants.{OwnTurn, Bits}
use Rattle.slots.specs.declared.Place.{Place}
use Rattle.slots.specs.declared.Kind.{Kind}
use Rattle.slots.specs.Places.{of_blocked}
use Rattle.slots.specs.SoundSlots.{awaits_bits}
use Rattle.tasks.specs.declared.Tasks.{Tasks}
use Rattle.tasks.specs.Columns.{row_at}
use Rattle.objects.specs.declared.Objects.{Objects}
use Rattle.objects.specs.Columns.{kind_in}

-- whoever waits for its turn is asked elsewhere
abbrev pub want_may : Want → Kind → Bool
want_may OwnTurn x = true
want_may (Bits m all clear) x = awaits_bits m all x

abbrev pub awaits_in : Objects → Place → Bool
awaits_in os p = of_blocked true (λ w. true) (λ y w. want_may y.want (kind_in os y.object.0)) p

abbrev pub awaits_at : Tasks → Objects → ℕ → Bool
awaits_at ts os i = awaits_in os (row_at ts i).place
