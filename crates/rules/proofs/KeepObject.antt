-- An object changed: a nearly sound kernel stays so, if its waiters may wait on the new kind and its holder exists.
use Prim.Native.Nat.{◌<◌}
use mathlib.Core.Path.{◌≡◌, refl, ap, ◌∙◌}
use mathlib.Core.Bool.{Bool, true, false}
use mathlib.Core.List.{List}
use native.Mathlib.Omega.{arith}
use lib.ListN.{length, set, length-set}
use lib.Seq.{get_or-set_same, get_or-set_other}
use borrow.Author.Tests.{eqb-true, eqb-false}
use Rattle.numbers.specs.Numbers.{idle, same_object}
use Rattle.slots.specs.Kinds.{unused, hands, kind_at}
use Rattle.rules.specs.Types.{TaskSlot, ObjSlot, Wake, Waiting, Kind, By, Object, State, Want}
use Rattle.slots.specs.Wants.{wait_on}
use Rattle.slots.specs.Values.{task_at}
use Rattle.rules.specs.Tables.{with_object}
use Rattle.rules.specs.Sentences.{Exists, MayWait, KindFits, Tables}
use Rattle.rules.proofs.KeepNearly.{Open, Nearly}

module _ (os : List Object) (o : ObjSlot) (y : Kind) where
  abbrev pub kinds : List Object
  kinds = set os o.0 (record { kind = y })

  pub kind_same : o.0 < length os → kind_at kinds o ≡ y
  unfolding kind_at
  kind_same h = ap (λ (x : Object). x.kind) (get_or-set_same os o.0 (record { kind = y }) unused h)

  pub kind_other : (p : ObjSlot) → (p.0 ≡ o.0 → ⊥) → kind_at kinds p ≡ kind_at os p
  unfolding kind_at
  kind_other p n = ap (λ (x : Object). x.kind) (get_or-set_other os o.0 p.0 (record { kind = y }) unused n)

one_object : (x y : ObjSlot) → x.0 ≡ y.0 → x ≡ y
one_object x y e = λ i. record { 0 = e i }

module _ {w : Open} (k : State) (N : Nearly w k) (o : ObjSlot) (y : Kind) (low : o.0 < 16)
    (W : (t : TaskSlot) (x : Want) (v : Wake) → (task_at k.tasks t).place ≡ Waiting (wait_on o x) v → MayWait t x y)
    (F : KindFits y)
    (H : (t : TaskSlot) → hands y ≡ By t → Exists k.tasks t × (t.0 ≡ 0 → ⊥)) where
  abbrev qs : List Object
  qs = kinds k.objects o y

  -- the changed object, and every other
  each : (P : ObjSlot → Kind → Type 0) → P o y → ((p : ObjSlot) → (p.0 ≡ o.0 → ⊥) → P p (kind_at k.objects p)) → (p : ObjSlot) → P p (kind_at qs p)
  each P h f p = go (same_object p o) refl
    where
      go : (b : Bool) → same_object p o ≡ b → P p (kind_at qs p)
      go true e = rw (one_object p o (eqb-true p.0 o.0 e), kind_same k.objects o y (omega (arith, N.tables.object_slots))) h
      go false e = rw (kind_other k.objects o y p (eqb-false p.0 o.0 e)) (f p (eqb-false p.0 o.0 e))

  tables_now : Tables k.tasks qs
  tables_now =
      record {
        task_slots = N.tables.task_slots;
        object_slots = length-set k.objects o.0 (record { kind = y }) ∙ N.tables.object_slots;
        as_idle = N.tables.as_idle;
        tasks = λ t. let T = N.tables.tasks t in record {
          waits = λ y v e. each (λ r z. (task_at k.tasks t).place ≡ Waiting (wait_on r y.want) v → MayWait t y.want z) (W t y.want v) (λ r n f. T.waits (wait_on r y.want) v f) y.object e;
          outcome_range = T.outcome_range;
          delay_outcome = T.delay_outcome;
          wait_outcome = T.wait_outcome;
          free = T.free;
          spent = T.spent;
        };
        idle_holds = each (λ p z. hands z ≡ By idle → ⊥) (λ e. (H idle e).1 refl) (λ p n e. N.tables.idle_holds p e);
        holders = λ t. each (λ p z. hands z ≡ By t → Exists k.tasks t) (λ e. (H t e).0) (λ p n e. N.tables.holders t p e);
        ranges = each (λ p z. KindFits z) F (λ p n. N.tables.ranges p);
      }

  pub object_nearly : Nearly w (with_object k o y)
  object_nearly =
      record {
        tables = tables_now;
        range = N.range;
        listing = N.listing;
        due = N.due;
        counts = N.counts;
      }
