-- The levels of the columns are the rule's, and working them out is working out those of the state; and values of which each effective priority is the rule's.
use Rattle.std.proofs.Common.{◌≡◌, ℕ, zero, suc, ◌<◌, Bool, true, false, not, ◌&&◌, ltb, List, map, length, get_or, set, sym, refl, ap, ◌∙◌, subst, ltb-false, lt-ltb, eqb-true, if◌then◌else◌}
use Rattle.lists.specs.Lists.{up_to, values, all_below}
use Rattle.lists.proofs.Loops.{values_same}
use Rattle.numbers.specs.declared.TaskSlot.{TaskSlot}
use Rattle.numbers.specs.Numbers.{task, same_task}
use Rattle.calls.specs.Door.{fresh_uses}
use Rattle.chains.specs.Columns.{says}
use Rattle.chains.specs.Chains.{within, largest_own}
use Rattle.chains.proofs.Says.{says_map}
use Rattle.chains.proofs.Paths.{within_past}
use Rattle.chains.proofs.Largest.{largest_same}
use Rattle.chains.proofs.Lending.{level_is}
use Rattle.slots.specs.declared.Place.{Place}
use Rattle.slots.specs.declared.Place.TheVariants.{Free, Ready, Delayed, Waiting, Suspended, Spent}
use Rattle.slots.specs.declared.Task.{Task}
use Rattle.slots.specs.declared.Object.{Object}
use Rattle.slots.specs.declared.Sort.{Sort}
use Rattle.slots.specs.Types.{Holder}
use Rattle.slots.specs.declared.Kind.{Kind}
use Rattle.slots.specs.declared.Kind.TheVariants.{Unused, Spent as SpentObject, Queue, Mutex, Group}
use Rattle.slots.specs.Places.{is_ready, waited_on}
use Rattle.slots.specs.Kinds.{unused, holder_of, kind_at}
use Rattle.slots.specs.Values.{levelled, task_at}
use Rattle.slots.proofs.Sweeps.{values_of}
use Rattle.tasks.specs.Dues.{Woken}
use Rattle.tasks.specs.Columns.{tasks_of, rows_of, row_at}
use Rattle.tasks.proofs.Columns.{rows_of_lem}
use Rattle.tasks.specs.Dues.{woken, tailed, wake_now, wait_ends}
use Rattle.tasks.specs.Loans.{levels_in, reaches_in, fronted, level_in, worked_in}
use Rattle.tasks.proofs.ByList.{levels_of, reaches_of, at_level, shifted, levels_by, none_due, none_ends}
use Rattle.objects.specs.Columns.{objects_of, rows_of as kinds_of, HoldersAre}
use Rattle.objects.proofs.ByList.{holders_of_lem}
use Rattle.objects.proofs.Columns.{rows_of_lem as kinds_of_lem}
use Rattle.rules.specs.State.{State}
use Rattle.rules.specs.Tables.{with_task, with_running, with_tick, with_uses}
use Rattle.rules.specs.Lines.{level, to_tail, to_head}
use Rattle.rules.specs.Loans.{for_whom, ruled, Reckoned, moved, moved_if, prioritized, relevelled, worked_out}
use Rattle.rules.specs.Circles.{leads_to}
use Rattle.rules.specs.Waits.{later}
use Rattle.rules.specs.Ticks.{wakes, one_tick}
use Rattle.rules.proofs.LoanStill.{wakes_reckoned}
use Rattle.rules.proofs.TickJumps.{quiet_tick}
use Rattle.rules.proofs.LoanRule.{own_of, next_of, links_past, ruled_sixteen}
use Rattle.rules.proofs.CircleRule.{nobody_leads}
use Rattle.rules.proofs.LoanWorks.{up_to_slot, slots_same, worked_same, worked_still}
use Rattle.rules.proofs.KeepBlocks.{same_level, prioritized_tasks}
use Rattle.rules.proofs.KeepChosen.{sound_reckoned}
use Rattle.kernel.specs.Types.{Core}
use Rattle.kernel.specs.Stands.{core_of, shown_core}
use Rattle.kernel.specs.Does.{Does, Firm, Reckons}
use Rattle.kernel.proofs.Shown.{shown_with_lem}
use Rattle.kernel.proofs.Stands.{same_tick, same_running}

-- ── the levels
abbrev pub holders_of : List Object → List ℕ
holders_of os = map (λ (x : Object). (holder_of x.kind).0) os

module _ (ts : List Task) (os : List Object) (full : length ts ≡ 16) (few : length os ≡ 16) where
  pub next_is : (p : Place) → says (holders_of os) (waited_on p) ≡ (for_whom os p).0
  unfolding kind_at
  next_is Free = refl
  next_is Ready = refl
  next_is (Delayed w) = refl
  next_is (Waiting y w) = says_map (λ (x : Object). (holder_of x.kind).0) unused refl os few y.object.0
  next_is Suspended = refl
  next_is Spent = refl

  pub all_values : (ls : List ℕ) → length ls ≡ 16 → values (λ u. get_or ls u 0) 16 ≡ ls
  all_values ls e = subst (λ n. values (λ u. get_or ls u 0) n ≡ ls) e (values_of (λ u. get_or ls u 0) ls 0 (λ i. refl))

  pub ruled_is : (u : ℕ) → u < 16 → get_or (ruled ts os) u 0 ≡ largest_own (own_of ts os) (next_of ts os) u
  unfolding ruled
  ruled_is u l = level_is (own_of ts os) (next_of ts os) (links_past ts os full) u l

  pub levels_ruled : levels_in (tasks_of ts) (holders_of os) ≡ ruled ts os
  levels_ruled =
      levels_of ts (holders_of os)
      ∙ values_same _ (λ u. get_or (ruled ts os) u 0) 16
      (λ u l. largest_same (own_of ts os) (own_of ts os) _ (next_of ts os) (λ s h. refl) (λ s. next_is (task_at ts (task s)).place) u ∙ sym (ruled_is u l))
      ∙ all_values (ruled ts os) (ruled_sixteen ts os)

  -- ── the chain that leads from h to u
  pub leads_led : (h u : TaskSlot) → u.0 < 16 → reaches_in (tasks_of ts) (holders_of os) h.0 u.0 ≡ leads_to ts os h u
  unfolding leads_to
  leads_led h u l =
      reaches_of ts (holders_of os) h.0 u.0
      ∙ rw (lt-ltb u.0 16 l) (ap (λ (next : ℕ → ℕ). within next 16 h.0 u.0) (λ i s. next_is (task_at ts (task s)).place i) ∙ somebody (ltb h.0 16) refl)
    where
      somebody : (b : Bool) → ltb h.0 16 ≡ b → within (next_of ts os) 16 h.0 u.0 ≡ (b && within (next_of ts os) 16 h.0 u.0)
      somebody true e = refl
      somebody false e = within_past (next_of ts os) (links_past ts os full) u.0 l 16 h.0 (ltb-false h.0 16 e)

-- ── slot by slot, with the running task at hand
module _ (ls : List ℕ) (r : TaskSlot) where
  abbrev stepped : State → ℕ → State
  stepped z n = prioritized (with_running z r) (task n) (get_or ls n 0)

  sets : (z : State) (n : ℕ) → (stepped z n).tasks ≡ (if at_level ls z.tasks n then z.tasks else set z.tasks n (levelled (task_at z.tasks (task n)) (get_or ls n 0)))
  sets z n = go (at_level ls z.tasks n) refl
    where
      go : (b : Bool) → at_level ls z.tasks n ≡ b → (stepped z n).tasks ≡ (if b then z.tasks else set z.tasks n (levelled (task_at z.tasks (task n)) (get_or ls n 0)))
      go true e = ap (λ (j : State). j.tasks) (same_level (with_running z r) (task n) (get_or ls n 0) (eqb-true (level z.tasks (task n)) (get_or ls n 0) e))
      go false e = prioritized_tasks (with_running z r) (task n) (get_or ls n 0)

  moves : (z : State) (n : ℕ) → (stepped z n).order ≡ (if at_level ls z.tasks n then z.order else shifted r z.tasks z.order n)
  unfolding prioritized moved_if moved to_head to_tail
  moves z n = go (is_ready (task_at z.tasks (task n)).place) (at_level ls z.tasks n) (same_task (task n) r)
    where
      new : State
      new = with_task (with_running z r) (task n) (levelled (task_at z.tasks (task n)) (get_or ls n 0))

      go : (a b c : Bool) → (if a then (if b then new else (if c then to_head new (task n) else to_tail new (task n))) else new).order
          ≡ (if b then z.order else (if a then (if c then fronted z.order (task n) else tailed z.order (task n)) else z.order))
      go true true c = refl
      go true false true = refl
      go true false false = refl
      go false true c = refl
      go false false c = refl

  steps_same : (s : State) → s.running ≡ r → (m : ℕ) → up_to stepped m s ≡ up_to_slot ls s m
  unfolding up_to
  steps_same s e zero = refl
  steps_same s e (suc m) =
      ap (λ (z : State). stepped z m) (steps_same s e m)
      ∙ ap (λ (v : TaskSlot). prioritized (with_running (up_to_slot ls s m) v) (task m) (get_or ls m 0)) (sym ((slots_same ls s m).running ∙ e))

module _ (s : State) (full : length s.tasks ≡ 16) (few : length s.objects ≡ 16) where
  abbrev rule : List ℕ
  rule = ruled s.tasks s.objects

  columns : worked_in s.running (holders_of s.objects) (woken (tasks_of s.tasks) s.order) ≡ woken (tasks_of (worked_out s).tasks) (worked_out s).order
  unfolding worked_in worked_out relevelled
  columns =
      ap (λ ls. up_to (level_in s.running ls) 16 (woken (tasks_of s.tasks) s.order)) (levels_ruled s.tasks s.objects full few)
      ∙ levels_by s.running rule (λ (z : State). z.tasks) (λ (z : State). z.order) (stepped rule s.running) (sets rule s.running) (moves rule s.running) s 16
      ∙ ap (λ (z : State). woken (tasks_of z.tasks) z.order) (steps_same rule s.running s refl 16)

  pub worked_done : (w : Woken) → w ≡ worked_in s.running (holders_of s.objects) (woken (tasks_of s.tasks) s.order)
      → ◌≡◌ {A = Core} (record { tasks = w.tasks; objects = objects_of s.objects; order = w.order; running = s.running; tick = s.tick; hold = s.hold; pended = s.pended })
      (core_of (worked_out s))
  unfolding core_of
  worked_done w e =
      let S = worked_same s in
      λ i. record {
        tasks = ((e ∙ columns) i).tasks;
        objects = objects_of (sym S.objects i);
        order = ((e ∙ columns) i).order;
        running = sym S.running i;
        tick = sym S.tick i;
        hold = sym S.hold i;
        pended = sym S.pended i;
      }

-- the tables of the state that a value stands for
module _ (k : Core) (s : State) (h : k ≡ core_of s) where
  pub tasks_full : length (rows_of k.tasks) ≡ 16 → length s.tasks ≡ 16
  unfolding core_of
  tasks_full e = sym (ap length (ap (λ (c : Core). rows_of c.tasks) h ∙ rows_of_lem s.tasks)) ∙ e

  pub objects_full : length (kinds_of k.objects) ≡ 16 → length s.objects ≡ 16
  unfolding core_of
  objects_full e = sym (ap length (ap (λ (c : Core). kinds_of c.objects) h ∙ kinds_of_lem s.objects)) ∙ e

-- the levels of a value worked out, as those of the state that it stands for
pub worked_core : (k : Core) (s : State) → k ≡ core_of s → length (rows_of k.tasks) ≡ 16 → (by : List ℕ) → HoldersAre k.objects by
    → (w : Woken) → w ≡ worked_in k.running by (woken k.tasks k.order)
    → ◌≡◌ {A = Core} (record { tasks = w.tasks; objects = k.objects; order = w.order; running = k.running; tick = k.tick; hold = k.hold; pended = k.pended }) (core_of (worked_out s))
unfolding core_of
worked_core k s h many by B w e =
    rw h (worked_done s (tasks_full k s h many) (objects_full k s h B.many) w (e ∙ rw (B.said, h, holders_of_lem s.objects)))

-- ── values of which each effective priority is the rule's
abbrev pub Settled : State → Type 0
Settled s = (length s.tasks ≡ 16) × Reckoned s.tasks s.objects

-- whatever state it stands for
pub reckons_of : {k : Core} → Reckons k → (s : State) → k ≡ core_of s → Settled s
reckons_of {k} R s h =
    let e : shown_core k ≡ with_uses s fresh_uses = ap shown_core h ∙ shown_with_lem s fresh_uses in
    subst Settled e (R.full, R.reckoned)

pub stands_reckons : {r : Core} (s : State) → r ≡ core_of s → Settled s → Reckons r
unfolding core_of
stands_reckons {r} s is S =
    let shows : shown_core r ≡ with_uses s fresh_uses = ap shown_core is ∙ shown_with_lem s fresh_uses in
    let T : Settled (shown_core r) = subst Settled (sym shows) S in
    record { stands = is ∙ ap core_of (sym shows); full = T.0; reckoned = T.1 }

pub reckons_next : {k r : Core} (f : State → State) → Reckons k → Does k f r → ((s : State) → k ≡ core_of s → Settled s → Settled (f s)) → Reckons r
reckons_next {k} f R d u = stands_reckons (f (shown_core k)) (d (shown_core k) R.stands) (u (shown_core k) R.stands (R.full, R.reckoned))

pub firm_reckons : {k : Core} → Firm k → Reckons k
firm_reckons {k} F = record { stands = F.stands; full = F.sound.tables.task_slots; reckoned = sound_reckoned (shown_core k) F.sound }

-- ── the chain that leads from h to the caller, as in the state that the value stands for
module _ {k : Core} (F : Firm k) (s : State) (e : k ≡ core_of s) where
  caller_low : s.running.0 < 16
  caller_low = subst (λ (t : TaskSlot). t.0 < 16) (same_running k s e) F.runs

  pub leads_core : (by : List ℕ) → HoldersAre k.objects by → (h : TaskSlot) → reaches_in k.tasks by h.0 k.running.0 ≡ leads_to s.tasks s.objects h s.running
  unfolding core_of
  leads_core by B h =
      rw (B.said, e, holders_of_lem s.objects) (leads_led s.tasks s.objects (reckons_of (firm_reckons F) s e).0 (objects_full k s e B.many) h s.running caller_low)

  pub none_leads : false ≡ leads_to s.tasks s.objects (task 16) s.running
  none_leads = sym (nobody_leads s.tasks s.objects s.running)

  -- from what is no mutex no chain leads anywhere
  pub no_mutex_leads : (x : Kind) → ((m : Sort) (h : Holder) → x ≡ Mutex m h → ⊥) → false ≡ leads_to s.tasks s.objects (holder_of x) s.running
  no_mutex_leads Unused n = none_leads
  no_mutex_leads SpentObject n = none_leads
  no_mutex_leads (Queue q) n = none_leads
  no_mutex_leads (Mutex m h) n = absurd (n m h refl)
  no_mutex_leads (Group b) n = none_leads

-- nothing is to be worked out of them
pub nothing_to_do : {k : Core} → Reckons k → Does k worked_out k
nothing_to_do R s h = h ∙ ap core_of (sym (worked_still s (reckons_of R s h).1))

-- after wakes by which no wait ends either
pub wakes_settle : {k : Core} → Reckons k → (s : State) → k ≡ core_of s → (now : ℕ) → now ≡ k.tick → all_below 16 (λ i. not (wait_ends now (row_at k.tasks i).place)) ≡ true → (l : List TaskSlot)
    → wakes s l ≡ worked_out (wakes s l)
unfolding core_of
wakes_settle {k} R s h now t e l =
    let same : now ≡ s.tick = t ∙ same_tick k s h in
    let ends : all_below 16 (λ i. not (wait_ends s.tick (row_at (tasks_of s.tasks) i).place)) ≡ true =
    ap (λ (n : ℕ). all_below 16 (λ i. not (wait_ends n (row_at (tasks_of s.tasks) i).place))) (sym same) ∙ ap (λ (c : Core). all_below 16 (λ i. not (wait_ends now (row_at c.tasks i).place))) (sym h) ∙ e in
    sym (worked_still (wakes s l) (wakes_reckoned l s (reckons_of R s h).1 (none_ends s.tasks s.tick (reckons_of R s h).0 ends)))

-- a tick on which nobody is due: only the count goes up
pub counts_quietly : {k j : Core} → Reckons k → (s : State) → k ≡ core_of s → (next : ℕ) → next ≡ later k.tick 1 → j ≡ core_of (with_tick s next) → wake_now j.tasks next ≡ false → j ≡ core_of (one_tick s)
unfolding core_of
counts_quietly {k} {j} R s h next e is none =
    let same : next ≡ later s.tick 1 = e ∙ ap (λ (n : ℕ). later n 1) (same_tick k s h) in
    let quiet : wake_now (tasks_of s.tasks) (later s.tick 1) ≡ false = ap (λ (n : ℕ). wake_now (tasks_of s.tasks) n) (sym same) ∙ ap (λ (c : Core). wake_now c.tasks next) (sym is) ∙ none in
    is ∙ ap (λ (n : ℕ). core_of (with_tick s n)) same ∙ ap core_of (sym (quiet_tick s (none_due s.tasks (later s.tick 1) quiet) (reckons_of R s h).1))
