-- The answer's line.
use Rattle.std.specs.Prelude.{ℕ, List, [], ◌∷◌, ◌++◌}
use Rattle.calls.specs.Said.{Word, Saying, done, made, waiting, refused, said}
use Rattle.fields.specs.Decimal.{dec}
use Rattle.journal.specs.Types.{Answer, TaskNo}

-- "ok, wait or no", byte by byte
abbrev pub word_of : Word → List ℕ
word_of done = 111 ∷ 107 ∷ []
word_of made = 111 ∷ 107 ∷ []
word_of waiting = 119 ∷ 97 ∷ 105 ∷ 116 ∷ []
word_of refused = 110 ∷ 111 ∷ []

-- "three fields parted by tabs, then a newline: ok, wait or no; the new number, the refusal number, or 0; the running task afterwards"
unfoldable pub reply : Saying → TaskNo → List ℕ
reply s t = word_of s.word ++ (9 ∷ (dec s.number ++ (9 ∷ (dec t.0 ++ (10 ∷ [])))))

-- the line of an answer
abbrev pub reply_of : Answer → TaskNo → List ℕ
reply_of a t = reply (said a) t
