-- The text of a call's words, which is how the writer writes a line. The writer's promise does not speak of it.
use Rattle.std.specs.Prelude.{ℕ, Bool, true, false, List, [], ◌∷◌, ◌++◌, take, drop}
use Rattle.calls.specs.Words.{shape_of}
use Rattle.fields.specs.Decimal.{dec}
use Rattle.fields.specs.Hex.{hex}
use Rattle.fields.specs.Texts.{texts}
use Rattle.journal.specs.Types.{Shape}

-- a tab and a number; a tab and an item, or nothing
abbrev pub tabbed : ℕ → List ℕ
tabbed n = 9 ∷ dec n

abbrev pub sent_text : Bool → List ℕ → List ℕ
sent_text true b = 9 ∷ hex b
sent_text false b = []

-- what stands after the number
abbrev pub shape_text : Shape → List ℕ → List ℕ → List ℕ
shape_text s ws b =
    texts tabbed (take s.before ws)
    ++ (sent_text s.item b ++ (texts tabbed (take s.after (drop s.before ws)) ++ (10 ∷ [])))

unfoldable pub frame_text : ℕ → List ℕ → List ℕ → List ℕ
frame_text n ws b = dec n ++ shape_text (shape_of n) ws b
