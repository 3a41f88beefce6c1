-- What an answer says: document 01's word, and its number or 0. "An accepted call answers done, made with the new number, or waiting"; "A refusal returns the number".
use Rattle.std.specs.Prelude.{ℕ}
use Rattle.calls.specs.Types.{Answer, Done, Made, Waiting, Refused}

pub data Word : Type 0 where
  done made waiting refused : Word

pub record Saying : Type 0 where
  pub word : Word
  pub number : ℕ

abbrev pub says : Word → ℕ → Saying
says w n = record { word = w; number = n }

abbrev pub said : Answer → Saying
said Done = says done 0
said (Made n) = says made n
said Waiting = says waiting 0
said (Refused n) = says refused n
