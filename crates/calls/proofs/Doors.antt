-- The door: what the types say already of the uses.
use Prim.Native.Nat.{ℕ, ◌≤◌}
use mathlib.Core.Path.{◌≡◌, sym}
use mathlib.Core.Bool.{true}
use mathlib.Core.List.{List}
use lib.Dec.{eqb, leb}
use borrow.Author.Tests.{le-leb}
use lib.ListN.{length, get_or}
use Rattle.std.proofs.Math.Bool.{and-true}
use Rattle.lists.specs.Lists.{every}
use Rattle.lists.proofs.Bools.{below_all}
use Rattle.calls.specs.Types.{Uses}
use Rattle.calls.specs.Door.{use_in, uses_in_range, uses_fine}

in_range : (us : List ℕ) → length us ≡ 16 → ((s : ℕ) → get_or us s 0 ≤ 65535) → uses_in_range us ≡ true
in_range us l b = rw (l, below_all 16 (λ n. leb (use_in us n) 65535) (λ i k. le-leb (use_in us i) 65535 (b i)))

pub fine_if_idle : (us : Uses) → length us.tasks ≡ 16 → length us.objects ≡ 16 → ((s : ℕ) → get_or us.tasks s 0 ≤ 65535) → ((s : ℕ) → get_or us.objects s 0 ≤ 65535)
    → eqb (get_or us.tasks 0 0) 0 ≡ uses_fine us
unfolding uses_fine every
fine_if_idle us lt lo bt bo = rw (in_range us.tasks lt bt, in_range us.objects lo bo) (sym (and-true (eqb (get_or us.tasks 0 0) 0)))
