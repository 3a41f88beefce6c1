-- Four bytes say the number that they come from, and the number says them.
use Prim.Native.Nat.{ℕ, ◌<◌}
use mathlib.Core.Path.{◌≡◌}
use native.Mathlib.Omega.{arith}
use Rattle.lists.specs.FourBytes.{low_byte, second_byte, third_byte, last_byte, of_bytes}

pub bytes_back : (n : ℕ) → of_bytes (low_byte n) (second_byte n) (third_byte n) (last_byte n) ≡ n
bytes_back n = omega arith

-- the first three are bytes
pub bytes_small : (n : ℕ) → (low_byte n < 256) × (second_byte n < 256) × (third_byte n < 256)
bytes_small n = (omega arith, omega arith, omega arith)

module _ (a b c d : ℕ) (p : a < 256) (q : b < 256) (r : c < 256) where
  pub low_of : low_byte (of_bytes a b c d) ≡ a
  low_of = omega arith

  pub second_of : second_byte (of_bytes a b c d) ≡ b
  second_of = omega arith

  pub third_of : third_byte (of_bytes a b c d) ≡ c
  third_of = omega arith

  pub last_of : last_byte (of_bytes a b c d) ≡ d
  last_of = omega arith
