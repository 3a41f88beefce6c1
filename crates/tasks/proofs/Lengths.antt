-- What the type of a table says: each column has its sixteen numbers.
use mathlib.Core.List.{[], ◌∷◌}
use borrow.Author.Rules.{rules}
use denote.Laws.{Is}
use denote.Struct.Declared.{row}
use denote.Struct.Laws.{val}
use Rattle.tasks.specs.declared.Tasks.{Tasks}
use Rattle.tasks.specs.contracts.Tasks.{the_type}
use Rattle.tasks.proofs.Tasks.TheLaws.{the_laws}
use Rattle.tasks.proofs.Columns.{Full}

pub full_of : (ts : Tasks) → Is (row the_type) ts (val the_type the_laws ts ∷ []) → Full ts
full_of ts g = search rules
