-- Recursive mutexes, of kernel values as the code holds them and of its steps; and their counts, over any history.
use Prim.Native.Nat.{ℕ}
use mathlib.Core.Path.{◌≡◌, sym, ap, subst, ◌∙◌}
use mathlib.Core.Bool.{true}
use mathlib.Core.List.{List}
use lib.ListN.{length}
use Rattle.calls.specs.declared.ObjNo.{ObjNo}
use Rattle.rules.specs.Tables.{fresh}
use Rattle.rules.specs.Sound.{sound}
use Rattle.rules.specs.Steps.{step}
use Rattle.rules.specs.Trace.{CallMade}
use Rattle.kernel.specs.Stands.{kernel_of, shown}
use Rattle.kernel.specs.Promises.{Steps}
use Rattle.kernel.proofs.Shown.{shown_of}
use Rattle.promises.specs.Program.{lines_of, program}
use Rattle.promises.specs.Turns.{Turn}
use Rattle.promises.specs.History.{reached}
use Rattle.promises.specs.Reached.{program_calls}
use Rattle.promises.specs.Recursive.{MakesRecursive, HasOf, Has, TakesAgain, KeepsTwelve, GivesBack, AsOrdinary}
use Rattle.promises.proofs.Histories.{reached-sound}
use Rattle.promises.proofs.Recursive.{makes_recursive_so, takes_again_so, keeps_twelve, gives_back_so}
use Rattle.promises.proofs.Ordinary.{as_ordinary_lem}
use Rattle.histories.specs.Counted.{CountsTakes, GivesByHistory}
use Rattle.histories.proofs.Counted.{counts_takes, gives_by_history, program_counts}
use Rattle.claims.specs.Types.{Ordinary, Call, MakeRecursive, Take, Give, State, Kernel, Step}
use Rattle.claims.specs.Exact.{shown_step}
use Rattle.claims.specs.Runs.{Called, Port, CameTo}
use Rattle.claims.proofs.Exact.{shows_step}
use Rattle.claims.proofs.Reaching.{calls_reach}

module _ (k : Kernel) (e : sound (shown k) ≡ true) (item store : List ℕ) (r : Step) (after : List ℕ) where
  pub ordinary_on : (c : Call) → Steps k c item store r after → AsOrdinary (shown k) c item store (shown_step r after)
  ordinary_on c g = subst (AsOrdinary (shown k) c item store) (shows_step k c item store r after e g) (as_ordinary_lem (shown k) e c item store)

  module _ (whole : length store ≡ 9216) where
    pub makes_on : Steps k MakeRecursive item store r after → MakesRecursive (shown k) store (shown_step r after)
    makes_on g = subst (MakesRecursive (shown k) store) (shows_step k MakeRecursive item store r after e g) (makes_recursive_so (shown k) e item store whole)

    pub takes_on : (n : ObjNo) (c w : ℕ) → Has (shown k) n c → Steps k (Take n w) item store r after → TakesAgain (shown k) n c w store (shown_step r after)
    takes_on n c w H g = subst (TakesAgain (shown k) n c w store) (shows_step k (Take n w) item store r after e g) (takes_again_so (shown k) e n c H item store whole w)

    pub gives_on : (n : ObjNo) (c : ℕ) → Has (shown k) n c → Steps k (Give n) item store r after → GivesBack (shown k) n c store (shown_step r after)
    gives_on n c H g = subst (GivesBack (shown k) n c store) (shows_step k (Give n) item store r after e g) (gives_back_so (shown k) e n c H item store whole)

    pub ordinary_stays : (n : ObjNo) (w : ℕ) → HasOf (shown k) n Ordinary → Steps k (Take n w) item store r after → KeepsTwelve (shown k) w store (shown_step r after)
    ordinary_stays n w H g = subst (KeepsTwelve (shown k) w store) (shows_step k (Take n w) item store r after e g) (keeps_twelve (shown k) e n H w item store whole)

module _ (ms : List CallMade) (k : Kernel) (f : Called (kernel_of fresh) ms k) where
  shows_reached : reached ms ≡ shown k
  shows_reached = sym (ap shown (calls_reach ms k f) ∙ shown_of (reached ms))

  pub calls_count : CountsTakes ms (shown k)
  calls_count = subst (λ (s : State). CountsTakes ms s) shows_reached (counts_takes ms)

  pub calls_give : (n : ObjNo) (c : ℕ) → Has (shown k) n c → (item store : List ℕ) → length store ≡ 9216 → (r : Step) (after : List ℕ) → Steps k (Give n) item store r after
      → GivesByHistory ms (shown k) n store (shown_step r after)
  calls_give n c H item store whole r after g =
      subst (GivesByHistory ms (shown k) n store) (shows_step k (Give n) item store r after (ap sound (sym shows_reached) ∙ reached-sound ms) g)
      (subst (λ (s : State). Has s n c → GivesByHistory ms s n store (step s (Give n) item store)) shows_reached (λ h. gives_by_history ms n c h item store whole) H)

pub session_counts : (ts : List Turn) (p : Port) (c : CameTo ts p) → CountsTakes (program_calls (lines_of c.taken)) (shown p.session.kernel)
session_counts ts p c =
    subst (λ (s : State). CountsTakes (program_calls (lines_of c.taken)) s) (sym (ap shown c.kernel ∙ shown_of (program c.taken).kernel)) (program_counts (lines_of c.taken))
