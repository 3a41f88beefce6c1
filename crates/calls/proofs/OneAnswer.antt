-- No two answers say the same.
use Prim.Native.Nat.{ℕ}
use mathlib.Core.Path.{◌≡◌, refl, sym, ap, ◌∙◌}
use Rattle.calls.specs.Types.{Answer, Done, Made, Waiting, Refused}
use Rattle.calls.specs.Said.{Word, done, made, waiting, refused, Saying, said}

-- an answer read off its saying
back : Saying → Answer
back s = of s.word s.number
  where
    of : Word → ℕ → Answer
    of done n = Done
    of made n = Made n
    of waiting n = Waiting
    of refused n = Refused n

read_back : (a : Answer) → back (said a) ≡ a
unfolding back
read_back Done = refl
read_back (Made n) = refl
read_back Waiting = refl
read_back (Refused n) = refl

pub one_answer : (a b : Answer) → said a ≡ said b → a ≡ b
one_answer a b e = sym (read_back a) ∙ ap back e ∙ read_back b
