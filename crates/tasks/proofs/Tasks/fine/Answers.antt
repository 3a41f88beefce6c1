use Rattle.lists.specs.Lists.{all_below}
use Rattle.tasks.proofs.Columns.{Full, rows_many}
use Rattle.tasks.proofs.Lengths.{full_of}
use Rattle.tasks.proofs.Fines.{fine_whole}
use Rattle.tasks.specs.Fine.{rows_fine, wakes_fine, idle_alone}
use Rattle.tasks.specs.Columns.{row_at}
use lib.ListN.{get_or}
use mathlib.Core.Bool.{false, ◌&&◌, and_assoc}
use mathlib.Core.Path.{◌≡◌, sym, ◌∙◌}
use Rattle.tasks.proofs.Tasks.fine.Goals as goal

pub returns : goal.returns
returns c =
    let a = c.args in
    let ts = a.self in
    let f : Full ts = search full_of in
    let idle = idle_alone (get_or a.holds 0 false) (row_at ts 0) in
    let rows = all_below 16 (rows_fine ts a.stands a.holds) in
    let wakes = all_below 16 (wakes_fine ts a.tick) in
    let e : (c.rows_fine.result && c.wakes_fine.result) ≡ (idle && (rows && wakes)) = rw (c.wakes_fine.ensures, c.rows_fine.ensures) (and_assoc idle rows wakes) in
    record { many = rows_many ts ∙ f.states; said = e; whole = λ h. fine_whole ts f a.tick a.stands a.holds idle (sym e ∙ h) }
