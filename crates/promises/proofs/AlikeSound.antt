-- Alike kernels are sound together; and sound ones have room in their orders.
use mathlib.Core.Path.{◌≡◌, sym, subst}
use mathlib.Core.Bool.{true}
use native.Mathlib.Omega.{arith}
use Rattle.lists.proofs.Bools.{same_test}
use Rattle.order.specs.declared.Order.{Order}
use Rattle.order.specs.Order.{listed}
use Rattle.order.proofs.Fits.{HasRoom}
use Rattle.rules.specs.State.{State}
use Rattle.slots.specs.Values.{task_at}
use Rattle.rules.specs.Tables.{with_order}
use Rattle.rules.specs.Sound.{sound}
use Rattle.rules.specs.Sentences.{Sound}
use Rattle.rules.proofs.SoundLists.{begun_agrees, listing_room}
use Rattle.rules.proofs.SoundSays.{sound_says, says_sound}
use Rattle.rules.proofs.Keeps.{ready_low}
use Rattle.promises.specs.Alike.{Alike, Ordered}
use Rattle.promises.proofs.AlikeTwins.{Twins, one_kernel}

sound_other : (k : State) (o : Order) → Alike k (with_order k o) → Ordered (with_order k o) → Sound k → Sound (with_order k o)
sound_other k o a d s =
    record {
      tables = s.tables;
      levels = s.levels;
      listing = record {
        lines = λ p t. rw (← a.lines p) (s.listing.lines p t);
        lists = λ b t. rw (← a.lists b) (s.listing.lists b t);
        remembered = λ t. rw (← a.begun) (s.listing.remembered t);
        agrees = begun_agrees k.tasks (listed o);
        one_order = d;
      };
      clock = s.clock;
      running = record {
        runs = record { ready = s.running.runs.ready; heads = rw (← a.lines (task_at k.tasks k.running).effective) s.running.runs.heads };
        no_higher = λ h p l. rw (← a.lines p) (s.running.no_higher h p l);
      };
      uses = s.uses;
      circles = s.circles;
    }

alike_back : {k j : State} → Alike k j → Alike j k
alike_back a =
    record {
      tasks = sym a.tasks;
      objects = sym a.objects;
      running = sym a.running;
      tick = sym a.tick;
      hold = sym a.hold;
      pended = sym a.pended;
      uses = sym a.uses;
      lines = λ p. sym (a.lines p);
      lists = λ o. sym (a.lists o);
      begun = sym a.begun;
    }

sound_too : (k j : State) → Alike k j → Ordered j → sound k ≡ true → sound j ≡ true
sound_too k j a d e =
    let p = one_kernel a in
    subst (λ z. sound z ≡ true) p
    (says_sound (with_order k j.order) (sound_other k j.order (subst (λ z. Alike k z) (sym p) a) (subst (λ z. Ordered z) (sym p) d) (sound_says k e)))

-- The lines, the lists and the order of those who began do not show who else stands in the one order, nor what lies behind its last: `Ordered` asks that.
pub alike_sound : (k j : State) → Alike k j → Ordered k → Ordered j → sound k ≡ sound j
alike_sound k j a c d = same_test (sound k) (sound j) (sound_too k j a d) (sound_too j k (alike_back a) c)

-- sound kernels have room
sound_fits : (k : State) → sound k ≡ true → HasRoom (listed k.order)
sound_fits k e = let s = sound_says k e in listing_room k.tasks k.order s.tables.task_slots s.listing

pub twins : (k j : State) → sound k ≡ true → sound j ≡ true → Alike k j → Twins k j
twins k j e f a =
    let S = sound_says k e in
    record {
      alike = a;
      slots = omega (arith, S.tables.task_slots);
      runs = ready_low k.tasks k.running S.tables.task_slots S.running.runs.ready;
      here = sound_fits k e;
      there = sound_fits j f;
    }
