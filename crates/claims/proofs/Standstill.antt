-- No circle arises, of kernel values as the code holds them and of its steps; and a take is refused 17 exactly where it would have made one.
use Prim.Native.Nat.{ℕ}
use mathlib.Core.Path.{◌≡◌, sym, subst}
use mathlib.Core.Bool.{true, false}
use mathlib.Core.List.{List}
use lib.ListN.{replicate}
use Rattle.lists.proofs.Bools.{untrue}
use Rattle.calls.specs.declared.ObjNo.{ObjNo}
use Rattle.calls.specs.Said.{said}
use Rattle.numbers.specs.declared.TaskSlot.{TaskSlot}
use Rattle.rules.specs.Tables.{fresh}
use Rattle.rules.specs.Sound.{sound}
use Rattle.rules.specs.Sentences.{Circle, NoCircle}
use Rattle.rules.specs.Trace.{CallMade}
use Rattle.rules.proofs.SoundSays.{sound_says}
use Rattle.kernel.specs.Stands.{kernel_of, as_rows, shown}
use Rattle.kernel.specs.Promises.{Steps}
use Rattle.promises.specs.History.{reached}
use Rattle.promises.specs.Program.{answering}
use Rattle.promises.specs.Turns.{Turn}
use Rattle.promises.specs.Reached.{program_calls}
use Rattle.promises.specs.Circles.{CirclesExactly}
use Rattle.promises.proofs.Histories.{reached-sound}
use Rattle.promises.proofs.Reaches.{program_reached}
use Rattle.promises.proofs.Circles.{circles_exactly}
use Rattle.claims.specs.Types.{Take, State, Kernel, Step}
use Rattle.claims.specs.Values.{SoundValue}
use Rattle.claims.specs.Exact.{table_for}
use Rattle.claims.specs.Runs.{Called, Port, Turned, fresh_port}
use Rattle.claims.proofs.Values.{test_says, says_test}
use Rattle.claims.proofs.Reaching.{calls_sound, session_sound}

pub take_exactly : (k : Kernel) → sound (shown k) ≡ true → (n : ObjNo) (w : ℕ) (item store : List ℕ) (r : Step) (after : List ℕ) → Steps k (Take n w) item store r after
    → CirclesExactly (shown k) n (table_for k (Take n w) item store) (said r.answer)
take_exactly k e n w item s r after f = subst (CirclesExactly (shown k) n (table_for k (Take n w) item s)) (sym f.answer) (circles_exactly (shown k) e n w item s)

-- a sound value shows none
none_shown : (k : Kernel) → SoundValue k → NoCircle (shown k).tasks (shown k).objects
none_shown k v = (sound_says (shown k) (says_test k v)).circles

pub calls_make_none : (ms : List CallMade) (k : Kernel) → Called (kernel_of fresh) ms k → NoCircle (shown k).tasks (shown k).objects
calls_make_none ms k f = none_shown k (calls_sound ms k f)

pub lines_make_none : (ls : List (List ℕ)) → let k = (answering fresh (replicate 9216 0) ls).kernel in NoCircle k.tasks k.objects
lines_make_none ls = subst (λ (k : State). NoCircle k.tasks k.objects) (sym (program_reached ls)) (sound_says (reached (program_calls ls)) (reached-sound (program_calls ls))).circles

pub session_makes_none : (ts : List Turn) (p : Port) → Turned fresh_port ts p → let k = shown p.session.kernel in NoCircle k.tasks k.objects
session_makes_none ts p f = none_shown p.session.kernel (session_sound ts p f)

pub circle_not_sound : (k : Kernel) (t : TaskSlot) → Circle (as_rows k.core k.uses).tasks (as_rows k.core k.uses).objects t → sound (shown k) ≡ false
circle_not_sound k t c = untrue (sound (shown k)) (λ e. (test_says k e).state.circles t c)
