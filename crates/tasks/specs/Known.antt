-- "a number that a state does not use is 0".
use Rattle.std.specs.Prelude.{ℕ, Bool, ◌&&◌, ◌||◌, eqb, leb, get_or}
use Rattle.lists.specs.Lists.{all_below}
use Rattle.tasks.specs.declared.Tasks.{Tasks}
use Rattle.tasks.specs.Masks.{mask_fine}
use Rattle.tasks.specs.Dues.{timed}

-- the states that have an object
abbrev pub waits_state : ℕ → Bool
waits_state s = eqb s 3 || eqb s 4

-- of a state, its object and the flags of what is wanted; of a state and its wake tick
abbrev pub known : ℕ → ℕ → ℕ → Bool
known s o f = leb s 6 && (leb f 4 && (waits_state s || (eqb o 0 && eqb f 0)))

abbrev pub wake_known : ℕ → ℕ → Bool
wake_known s w = timed s || eqb w 0

-- of a row
abbrev pub known_at : Tasks → ℕ → Bool
known_at ts i = known (get_or ts.state i 0) (get_or ts.object i 0) (get_or ts.wants.flags i 0)

abbrev pub wake_at : Tasks → ℕ → Bool
wake_at ts i = wake_known (get_or ts.state i 0) (get_or ts.wake i 0)

abbrev pub mask_at : Tasks → ℕ → Bool
mask_at ts i = mask_fine (get_or ts.wants.mask i 0) (get_or ts.wants.flags i 0)

-- of every row
unfoldable pub canonical : Tasks → Bool
canonical ts = all_below 16 (λ i. known_at ts i && (wake_at ts i && mask_at ts i))
