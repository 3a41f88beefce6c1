-- A step that works the effective priorities out only after the calls that may change what is lent: of sound kernels it is the step, and it is computed sooner.
use Prim.Native.Nat.{ℕ}
use mathlib.Core.Path.{◌≡◌, refl, sym, ap}
use mathlib.Core.Bool.{Bool, true, false}
use mathlib.Core.List.{List, [], ◌∷◌, map}
use lib.Dec.{eqb}
use lib.ListN.{length, replicate}
use borrow.Author.Tests.{eqb-true}
use Rattle.std.proofs.Common.{if◌then◌else◌}
use Rattle.lists.specs.Lists.{every}
use Rattle.lists.proofs.Bools.{and_left, and_right}
use Rattle.calls.specs.Behind.{asked}
use Rattle.rules.specs.Tables.{with_uses}
use Rattle.rules.specs.Lines.{chosen}
use Rattle.rules.specs.Sound.{sound}
use Rattle.rules.specs.Refusals.{refusal}
use Rattle.rules.specs.Effects.{effect}
use Rattle.rules.specs.Steps.{Stepped, stored, answered, may_lend, after, accepted, turned_away, step}
use Rattle.rules.specs.Trace.{Moment, moment_of, trace, lending}
use Rattle.rules.proofs.SoundSays.{sound_says}
use Rattle.rules.proofs.RowPasses.{passed}
use Rattle.rules.proofs.KeepEvery.{step_kept}
use Rattle.promises.specs.Types.{Asked, Call, State}
use Rattle.promises.specs.Cases.{View, view_of, Case, ran}
use Rattle.promises.specs.Wrong.{Stepping, uses_then, step_of, step_by}
use Rattle.promises.proofs.AlikeSteps.{not_refused}
use Rattle.promises.proofs.Lendings.{nothing_to_work_out}

abbrev pub worked_if : State → Asked → State
worked_if k a = if may_lend a then after k a else effect k a

abbrev pub quickly : Stepping
quickly = step_by worked_if chosen

pub quick_step : (k : State) (c : Call) (item s : List ℕ) → sound k ≡ true → quickly k c item s ≡ step k c item s
unfolding step_of step accepted
quick_step k c item s e = go (eqb no 0) refl
  where
    a : Asked
    a = asked k.uses c

    no : ℕ
    no = refusal k a (length item) (length s)

    when : State → Stepped
    when j = record { kernel = with_uses (chosen j) (uses_then k a); answer = answered k a (chosen j); store = stored k a item s }

    same : eqb no 0 ≡ true → (b : Bool) → may_lend a ≡ b → (if b then after k a else effect k a) ≡ after k a
    same q true f = refl
    same q false f =
        sym (nothing_to_work_out k (sound_says k e) (length s) c (passed k a (length item) (length s) (not_refused k a (length item) (length s) (eqb-true no 0 q)).1) f)

    go : (b : Bool) → eqb no 0 ≡ b → (if b then when (worked_if k a) else turned_away k no s) ≡ (if b then accepted k a item s else turned_away k no s)
    go true q = ap when (same q (may_lend a) refl)
    go false q = refl

quick_trace : (k : State) (s : List ℕ) (cs : List Call) → sound k ≡ true → trace (lending quickly []) k s cs ≡ trace (lending step []) k s cs
unfolding trace
quick_trace k s [] e = refl
quick_trace k s (c ∷ cs) e =
    let d = step k c [] s in
    rw (quick_step k c [] s e) (ap (λ (ms : List (Moment Call)). moment_of (lending step []) k s c ∷ ms) (quick_trace d.kernel d.store cs (step_kept k c [] s e)))

-- so cases may be run by it
abbrev pub ran_quickly : Case → List View
ran_quickly c = map (λ m. view_of c.look m.gave) (trace (lending quickly []) c.start (replicate 9216 0) c.calls)

pub quick_cases : (cs : List Case) → every (map (λ (c : Case). sound c.start) cs) ≡ true → map ran_quickly cs ≡ map ran cs
unfolding every
quick_cases [] e = refl
quick_cases (c ∷ cs) e =
    rw (quick_trace c.start (replicate 9216 0) c.calls (and_left (sound c.start) _ e)) (ap (λ (xs : List (List View)). ran c ∷ xs) (quick_cases cs (and_right (sound c.start) _ e)))
