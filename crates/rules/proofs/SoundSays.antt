-- The test of soundness is true of a kernel value exactly if every sentence holds of it, part by part.
use mathlib.Core.Path.{◌≡◌}
use mathlib.Core.Bool.{true}
use Rattle.lists.proofs.Bools.{at, also, none}
use Rattle.calls.specs.Door.{uses_fine}
use Rattle.order.specs.Order.{listed}
use Rattle.rules.specs.Types.{State}
use Rattle.rules.specs.Circles.{no_circle}
use Rattle.rules.specs.Sound.{tables_fine, levels_fine, listing_fine, clock_fine, runs_fine, sound}
use Rattle.rules.specs.Sentences.{Tables, Sound}
use Rattle.rules.proofs.SoundTables.{tables_say, says_tables}
use Rattle.rules.proofs.SoundLevels.{levels_say, says_levels}
use Rattle.rules.proofs.SoundListing.{listing_says, says_listing}
use Rattle.rules.proofs.SoundClock.{clock_says, says_clock}
use Rattle.rules.proofs.SoundRuns.{runs_say, says_runs}
use Rattle.rules.proofs.SoundUses.{uses_say, says_uses}
use Rattle.rules.proofs.CircleRule.{circles_say, says_circles}

-- the parts' tests by their names
pub record Tested (k : State) : Type 0 where
  pub tables : tables_fine k.tasks k.objects ≡ true
  pub levels : levels_fine k.tasks k.objects ≡ true
  pub listing : listing_fine k.tasks k.order ≡ true
  pub clock : clock_fine k.tasks k.tick k.hold k.pended ≡ true
  pub runs : runs_fine k.tasks (listed k.order) k.running k.hold ≡ true
  pub uses : uses_fine k.uses ≡ true
  pub circles : no_circle k.tasks k.objects ≡ true

pub sound_tested : (k : State) → sound k ≡ true → Tested k
unfolding sound
sound_tested k e = record { tables = at _ e 0; levels = at _ e 1; listing = at _ e 2; clock = at _ e 3; runs = at _ e 4; uses = at _ e 5; circles = at _ e 6 }

pub tested_sound : (k : State) → Tested k → sound k ≡ true
unfolding sound
tested_sound k T = also _ _ T.tables (also _ _ T.levels (also _ _ T.listing (also _ _ T.clock (also _ _ T.runs (also _ _ T.uses (also _ _ T.circles none))))))

pub sound_says : (k : State) → sound k ≡ true → Sound k
sound_says k e =
    record {
      tables = tables;
      levels = levels_say k.tasks k.objects tables.task_slots T.levels;
      listing = listing_says k.tasks k.order tables.task_slots T.listing;
      clock = clock_says k.tasks k.tick k.hold k.pended tables.task_slots T.clock;
      running = runs_say k.tasks (listed k.order) k.running k.hold T.runs;
      uses = uses_say k.uses T.uses;
      circles = circles_say k.tasks k.objects tables.task_slots T.circles;
    }
  where
    T : Tested k
    T = sound_tested k e

    tables : Tables k.tasks k.objects
    tables = tables_say k.tasks k.objects T.tables

pub says_sound : (k : State) → Sound k → sound k ≡ true
says_sound k S =
    tested_sound k record {
      tables = says_tables k.tasks k.objects S.tables;
      levels = says_levels k.tasks k.objects S.tables.task_slots S.levels;
      listing = says_listing k.tasks k.order S.tables.task_slots S.listing;
      clock = says_clock k.tasks k.tick k.hold k.pended S.clock;
      runs = says_runs k.tasks (listed k.order) k.running k.hold S.running;
      uses = says_uses k.uses S.uses;
      circles = says_circles k.tasks k.objects S.tables.task_slots S.circles;
    }
