-- The texts of several elements, one after another.
use Rattle.std.specs.Prelude.{ℕ, List, [], ◌∷◌, ◌++◌}

unfoldable pub texts : (ℕ → List ℕ) → List ℕ → List ℕ
texts f [] = []
texts f (x ∷ xs) = f x ++ texts f xs
