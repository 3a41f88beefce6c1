-- Calls one after the other, and turns, come to one kernel value and to one port, from any on.
use Prim.Native.Nat.{ℕ}
use mathlib.Core.Path.{◌≡◌, refl, ap, ◌∙◌}
use mathlib.Core.List.{List, ◌++◌}
use lib.ListN.{length, take, drop}
use lib.Seq.{take-append_seam}
use Rattle.lists.specs.Lists.{foldl}
use Rattle.rules.specs.Steps.{step}
use Rattle.rules.specs.Trace.{CallMade}
use Rattle.rules.specs.Sessions.{Run, run, begun}
use Rattle.kernel.specs.Stands.{shown, standing}
use Rattle.kernel.specs.Promises.{Ran, Answers}
use Rattle.promises.specs.Turns.{Turn}
use Rattle.claims.specs.Types.{Kernel, Served}
use Rattle.claims.specs.Runs.{Called, none_called, call, Port, served_to, Turned, no_turn, turn}

-- ── calls
-- the kernel value after a call
abbrev pub value_after : Kernel → CallMade → Kernel
value_after k m = standing k (step (shown k) m.call m.item m.store).kernel

pub called_is : {k j : Kernel} {ms : List CallMade} → Called k ms j → j ≡ foldl value_after k ms
unfolding foldl
called_is none_called = refl
called_is (call {k} {j} {m} {ms} {r} S f) = called_is f ∙ ap (λ (x : Kernel). foldl value_after x ms) S.kernel

-- ── turns
-- the port after a turn that ran as d says, on what waited and came, and left the kernel value k
abbrev ran_to : Port → Kernel → Run → List ℕ → Port
ran_to p k d waits = record { session = record { kernel = k; cut = d.cut }; store = d.store; waits = waits; answers = p.answers ++ d.answers }

-- what was served does not tell what the lent output held before
pub served_is : (p : Port) (k : Kernel) (d : Run) (lent block : List ℕ) (r : Served) (s o : List ℕ) → Ran k d lent r s o
    → served_to p (drop r.taken block) r s o ≡ ran_to p k d (drop d.taken block)
served_is p k d lent block r s o R =
    let told : take r.written o ≡ d.answers =
    ap (λ (n : ℕ). take n o) R.written
    ∙ ap (take (length d.answers)) R.output
    ∙ take-append_seam d.answers (drop (length d.answers) lent) in
    λ i. record { session = record { kernel = R.kernel i; cut = R.cut i }; store = R.store i; waits = drop (R.taken i) block; answers = p.answers ++ told i }

abbrev pub turn_run : Port → Turn → Run
turn_run p t = run t.lent (begun (shown p.session.kernel) p.store p.session.cut) (p.waits ++ t.came)

abbrev pub turn_of : Port → Turn → Port
turn_of p t = let d = turn_run p t in ran_to p (standing p.session.kernel d.kernel) d (drop d.taken (p.waits ++ t.came))

-- as many bytes lent, as the same turn
pub one_turn : (p : Port) (t : Turn) (lent : List ℕ) (r : Served) (s o : List ℕ) → length lent ≡ t.lent → Answers p.session (p.waits ++ t.came) p.store lent r s o
    → served_to p (drop r.taken (p.waits ++ t.came)) r s o ≡ turn_of p t
one_turn p t lent r s o e R =
    let block = p.waits ++ t.came in
    let at : ℕ → Run = λ n. run n (begun (shown p.session.kernel) p.store p.session.cut) block in
    served_is p _ _ lent block r s o R ∙ ap (λ (n : ℕ). ran_to p (standing p.session.kernel (at n).kernel) (at n) (drop (at n).taken block)) e

pub turned_is : {p q : Port} {ts : List Turn} → Turned p ts q → q ≡ foldl turn_of p ts
unfolding foldl
turned_is no_turn = refl
turned_is (turn {p} {q} {t} {ts} {lent} {r} {after} {o} e R f) = turned_is f ∙ ap (λ (x : Port). foldl turn_of x ts) (one_turn p t lent r after o e R)
