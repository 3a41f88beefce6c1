-- What the walks of the tables find is what the rules say of the state.
use Rattle.std.proofs.Common.{◌≡◌, ℕ, ◌<◌, ◌≤◌, Bool, true, false, leb, List, [], ◌∷◌, set, sym, refl, ap, ◌∙◌, eq-eqb, ne_eqb, le-leb, if◌then◌else◌}
use borrow.Author.Tests.{lt-leb}
use Rattle.lists.specs.Lists.{foldl, kept, head}
use Rattle.numbers.specs.declared.TaskSlot.{TaskSlot}
use Rattle.order.specs.Order.{listed}
use Rattle.slots.specs.declared.Task.{Task}
use Rattle.slots.specs.declared.Place.TheVariants.{Ready}
use Rattle.slots.specs.Who.{Who, all_ready}
use Rattle.slots.specs.Places.{is_ready, wakes_at, outcome_due}
use Rattle.slots.specs.Values.{task_at}
use Rattle.slots.specs.Leads.{leads}
use Rattle.tasks.specs.Dues.{Woken}
use Rattle.tasks.specs.Columns.{tasks_of}
use Rattle.objects.specs.Columns.{objects_of}
use Rattle.tasks.specs.Walks.{lead_in, line_in, head_or, lines_in, top_in}
use Rattle.tasks.specs.Dues.{woken, ready_of, tailed, wakes_in}
use Rattle.tasks.proofs.ByList.{lead_of, line_of, lines_of_lem, top_of, wakes_by}
use Rattle.rules.specs.State.{State}
use Rattle.rules.specs.Tables.{with_running}
use Rattle.rules.specs.Lines.{line, those, level, highest, first, runs_if, chosen, to_tail, begun}
use Rattle.rules.specs.Sound.{no_higher}
use Rattle.rules.specs.Waits.{arrives}
use Rattle.rules.specs.Ticks.{woken_if_due, wakes, turned}
use Rattle.rules.specs.Occupied.{lines_of}
use Rattle.rules.proofs.LineLeads.{finds, first_heads_highest, no_higher_by}
use Rattle.rules.proofs.LineHeights.{largest-highest}
use Rattle.rules.proofs.BegunCalls.{wakes-begun}
use Rattle.kernel.specs.Types.{Core}
use Rattle.kernel.specs.Stands.{core_of}
use Rattle.kernel.proofs.Stands.{same_running}

-- who stands first
pub first_of : (s : State) (w : Who) → leads (lead_in (tasks_of s.tasks) w (listed s.order)) ≡ first s w
unfolding first
first_of s w = ap leads (lead_of s.tasks w (listed s.order)) ∙ finds s.tasks w (listed s.order)

-- the lines that are occupied, and the highest
pub lines_are : (s : State) → lines_in (tasks_of s.tasks) (listed s.order) ≡ lines_of s
unfolding lines_of
lines_are s = lines_of_lem s.tasks (listed s.order)

pub top_highest : (ts : List Task) (l : List TaskSlot) → top_in (tasks_of ts) l ≡ highest ts (those ts all_ready l)
unfolding those
top_highest ts l = top_of ts l ∙ largest-highest ts (kept (λ t. is_ready (task_at ts t).place) l)

-- who is found runs
head_runs : (s : State) (l : List TaskSlot) → with_running s (head_or l s.running) ≡ runs_if s (head l)
head_runs s [] = refl
head_runs s (t ∷ l) = refl

pub chosen_by : (s : State) → s.hold ≡ 0
    → with_running s (head_or (line_in (tasks_of s.tasks) (top_in (tasks_of s.tasks) (listed s.order)) (listed s.order)) s.running) ≡ chosen s
unfolding chosen line
chosen_by s h =
    rw (top_highest s.tasks (listed s.order), line_of s.tasks (highest s.tasks (those s.tasks all_ready (listed s.order))) (listed s.order))
    (head_runs s (line s.tasks (highest s.tasks (those s.tasks all_ready (listed s.order))) (listed s.order))
    ∙ rw (eq-eqb s.hold 0 h, first_heads_highest s))

pub stays_running : (s : State) → (s.hold ≡ 0 → ⊥) → s ≡ chosen s
unfolding chosen
stays_running s h = rw (ne_eqb s.hold 0 h)

-- whether a higher line is occupied
module _ (k : Core) (s : State) (y : Task) (n : ℕ) (h : k ≡ core_of s) (q : y ≡ task_at s.tasks k.running) (e : n ≡ top_in k.tasks (listed k.order)) where
  pub no_higher_of : no_higher s.tasks (level s.tasks s.running) (listed s.order) ≡ leb n y.effective
  unfolding core_of
  no_higher_of =
      no_higher_by s.tasks (level s.tasks s.running) (listed s.order)
      ∙ ap (λ (m : ℕ). leb m (level s.tasks s.running)) (sym (e ∙ ap (λ (j : Core). top_in j.tasks (listed j.order)) h ∙ top_highest s.tasks (listed s.order)))
      ∙ ap (λ (x : Task). leb n x.effective) (sym (q ∙ ap (task_at s.tasks) (same_running k s h)))

  -- one is: nothing moves
  pub no_turn : y.effective < n → s ≡ turned s
  unfolding turned
  no_turn f = sym (ap (λ c. if c then to_tail s s.running else s) (no_higher_of ∙ lt-leb n y.effective f))

  -- none is
  pub turn_goes : n ≤ y.effective → to_tail s s.running ≡ turned s
  unfolding turned
  turn_goes f = sym (ap (λ c. if c then to_tail s s.running else s) (no_higher_of ∙ le-leb n y.effective f))

-- the wakes: they change tasks and order, and nothing else
module _ {A : Type 0} (f : State → A) (same : (s : State) (t : TaskSlot) → f (woken_if_due s t) ≡ f s) where
  all_same : (s : State) (l : List TaskSlot) → f (foldl woken_if_due s l) ≡ f s
  unfolding foldl
  all_same s [] = refl
  all_same s (t ∷ l) = all_same (woken_if_due s t) l ∙ same s t

woke : {A : Type 0} (f : State → A) (s : State) (t : TaskSlot) → f (arrives s t Ready (outcome_due (task_at s.tasks t).place)) ≡ f s → f (woken_if_due s t) ≡ f s
unfolding woken_if_due
woke f s t e = go (wakes_at s.tick (task_at s.tasks t).place)
  where
    go : (b : Bool) → f (if b then arrives s t Ready (outcome_due (task_at s.tasks t).place) else s) ≡ f s
    go true = e
    go false = refl

wakes_columns : (s : State) (l : List TaskSlot) → wakes_in s.tick (woken (tasks_of s.tasks) s.order) l ≡ woken (tasks_of (wakes s l).tasks) (wakes s l).order
unfolding wakes woken_if_due arrives to_tail
wakes_columns s l =
    wakes_by (λ z. z.tasks) (λ z. z.order) (λ z. z.tick) woken_if_due
    (λ z t. ticks z t (wakes_at z.tick (task_at z.tasks t).place))
    (λ z t. sets z t (wakes_at z.tick (task_at z.tasks t).place))
    (λ z t. tails z t (wakes_at z.tick (task_at z.tasks t).place)) s l
  where
    ready : State → TaskSlot → State
    ready z t = arrives z t Ready (outcome_due (task_at z.tasks t).place)

    ticks : (z : State) (t : TaskSlot) (b : Bool) → (if b then ready z t else z).tick ≡ z.tick
    ticks z t true = refl
    ticks z t false = refl

    sets : (z : State) (t : TaskSlot) (b : Bool) → (if b then ready z t else z).tasks ≡ (if b then set z.tasks t.0 (ready_of (task_at z.tasks t)) else z.tasks)
    sets z t true = refl
    sets z t false = refl

    tails : (z : State) (t : TaskSlot) (b : Bool) → (if b then ready z t else z).order ≡ (if b then tailed z.order t else z.order)
    tails z t true = refl
    tails z t false = refl

pub wakes_done : (s : State) (l : List TaskSlot) (w : Woken) → w ≡ wakes_in s.tick (woken (tasks_of s.tasks) s.order) l
    → ◌≡◌ {A = Core} (record { tasks = w.tasks; objects = objects_of s.objects; order = w.order; running = s.running; tick = s.tick; hold = s.hold; pended = s.pended })
    (core_of (wakes s l))
unfolding core_of wakes arrives to_tail
wakes_done s l w e = λ i. record {
  tasks = ((e ∙ wakes_columns s l) i).tasks;
  objects = objects_of (sym (all_same (λ z. z.objects) (λ z t. woke (λ y. y.objects) z t refl) s l) i);
  order = ((e ∙ wakes_columns s l) i).order;
  running = sym (all_same (λ z. z.running) (λ z t. woke (λ y. y.running) z t refl) s l) i;
  tick = sym (all_same (λ z. z.tick) (λ z t. woke (λ y. y.tick) z t refl) s l) i;
  hold = sym (all_same (λ z. z.hold) (λ z t. woke (λ y. y.hold) z t refl) s l) i;
  pended = sym (all_same (λ z. z.pended) (λ z t. woke (λ y. y.pended) z t refl) s l) i;
}

-- a value whose due are woken, as the state that it stands for
pub woken_core : (k : Core) (s : State) → k ≡ core_of s → (w : Woken) → w ≡ wakes_in k.tick (woken k.tasks k.order) (listed k.order)
    → ◌≡◌ {A = Core} (record { tasks = w.tasks; objects = k.objects; order = w.order; running = k.running; tick = k.tick; hold = k.hold; pended = k.pended })
    (core_of (wakes s (begun s.tasks (listed s.order))))
unfolding core_of
woken_core k s h w e = rw h (wakes_done s (listed s.order) w (e ∙ rw h) ∙ ap core_of (wakes-begun s (listed s.order)))
