-- The test of the code, one pass over each table's columns, is the plain one of the state that is shown_core.
use Rattle.std.proofs.Common.{◌≡◌, ℕ, ◌<◌, ◌≤◌, Bool, true, false, not, ◌&&◌, ◌||◌, eqb, ltb, leb, List, [], ◌∷◌, length, get_or, sym, refl, ap, ◌∙◌, arith, ltb-false, ltb-true, if◌then◌else◌}
use mathlib.Core.Bool.{false≢true, and_assoc, and-true}
use lib.ListN.{get_or-eq_default}
use Rattle.lists.specs.Lists.{kept, all_below}
use Rattle.lists.proofs.Bools.{and_left, and_right, and_intro, same_test, all_below_lem, below_all}
use Rattle.chains.specs.Chains.{ends}
use Rattle.chains.specs.Columns.{says}
use Rattle.chains.proofs.Circles.{all_end}
use Rattle.chains.proofs.Largest.{largest_same as Chain-same}
use Rattle.lists.proofs.Loops.{values_same}
use Rattle.slots.specs.declared.Object.{Object}
use Rattle.tasks.specs.Loans.{levels_in, ended_in}
use Rattle.rules.specs.Loans.{for_whom, ruled}
use Rattle.rules.specs.Circles.{leads_to, no_circle}
use Rattle.rules.proofs.LoanRule.{own_of, next_of, links_past, ruled_sixteen}
use Rattle.kernel.proofs.LevelWorks.{holders_of, next_is, all_values, ruled_is}
use Rattle.numbers.specs.declared.TaskSlot.{TaskSlot}
use Rattle.numbers.specs.Numbers.{task, object}
use Rattle.order.specs.Order.{listed}
use Rattle.order.specs.Tidy.{count, tidy, tallies_of}
use Rattle.order.proofs.Tallies.{tallies_count}
use Rattle.slots.specs.declared.Place.{Place}
use Rattle.slots.specs.declared.Place.TheVariants.{Free, Ready, Delayed, Waiting, Suspended}
use Rattle.heights.proofs.Counts.{largest_same}
use Rattle.slots.specs.declared.Task.{Task}
use Rattle.slots.specs.Who.{all_ready}
use Rattle.slots.specs.Places.{is_ready, waited_on}
use Rattle.slots.specs.Values.{free_task, task_at, in_line}
use Rattle.slots.specs.Kinds.{hands, kind_at, marks_of}
use Rattle.numbers.specs.declared.ObjSlot.{ObjSlot}
use Rattle.slots.specs.declared.Want.{Want}
use Rattle.slots.specs.declared.Want.TheVariants.{OwnTurn, Bits}
use Rattle.slots.specs.declared.Kind.{Kind}
use Rattle.slots.specs.declared.Kind.TheVariants.{Unused}
use Rattle.slots.specs.SoundSlots.{idle_fine, stands_fine, remembers_fine, orders_fine, awaits_turn, awaits_bits, may_wait, may_wait_on, waits_fine, priorities_fine, holder_slot, free_holds, not_due, kind_in_range, outcome_fine, fresh_if_free}
use Rattle.slots.proofs.Marks.{marks_hold}
use Rattle.slots.proofs.Holders.{holders_exist}
use Rattle.tasks.specs.declared.Tasks.{Tasks}
use Rattle.tasks.specs.Numbering.{place_of}
use Rattle.tasks.specs.Columns.{row_at, rows_of}
use Rattle.tasks.specs.Known.{known_at, wake_at, mask_at, canonical}
use Rattle.tasks.specs.Walks.{line_in, level_at, top_in}
use Rattle.tasks.specs.Fine.{alone_fine, rows_fine, wakes_fine, idle_alone, waits_turn, waits_by, waits_at, headed, heads_in, runs_in, Fine}
use Rattle.tasks.proofs.Columns.{row_at_lem, rows_many}
use Rattle.objects.specs.declared.Objects.{Objects}
use Rattle.objects.specs.declared.Holdings.{Holdings}
use Rattle.kernel.specs.Waited.{want_may, awaits_in, awaits_at}
use Rattle.objects.specs.Columns.{kind_of, kind_in, rows_of as kinds_of, holders_in, canonical as canonical_kinds}
use Rattle.objects.specs.Fine.{fine_at, HoldingsAre}
use Rattle.objects.proofs.Columns.{row_at_lem as kind_row, rows_many as kinds_many}
use Rattle.objects.proofs.Fines.{fine_canonical}
use Rattle.objects.proofs.Plain.{ranges_of, fine_of}
use Rattle.rules.specs.State.{State}
use Rattle.rules.specs.Tables.{holds}
use Rattle.rules.specs.Lines.{line, those, level, highest}
use Rattle.rules.specs.Sound.{slot_task, slot_kind, levels_fine, heads, no_higher, runs_fine, counted, pends_fine, sound}
use Rattle.rules.proofs.LineLeads.{no_higher_by}
use Rattle.rules.proofs.LineHeights.{largest-highest}
use Rattle.rules.proofs.TableSlots.{past_tasks, past_objects}
use Rattle.rules.proofs.SoundTables.{TablesTested, tables_tested, tested_tables}
use Rattle.rules.proofs.SoundListing.{ListingTested, listing_tested, tested_listing}
use Rattle.rules.proofs.SoundClock.{ClockTested, clock_tested, tested_clock}
use Rattle.rules.proofs.SoundSays.{Tested, sound_tested, tested_sound}
use Rattle.kernel.specs.Types.{Core}
use Rattle.kernel.specs.Stands.{core_of, plain, as_rows, without_tables as no_tables, shown_with, shown_core}
use Rattle.calls.specs.Door.{fresh_uses}
use Rattle.rules.proofs.SoundUses.{fresh_fine}
use Rattle.kernel.proofs.Shown.{no_tables_lem}
use Rattle.slots.specs.declared.Place.TheVariants.{Spent}

-- ── small laws
off_left : (a b : Bool) → a ≡ false → (a && b) ≡ false
off_left a b e = ap (λ (c : Bool). c && b) e

-- the tests of one row by their names
record AloneTested (n : ℕ) (held : Bool) (x : Task) : Type 0 where
  stands : stands_fine n x.place ≡ true
  remembers : remembers_fine n x.place ≡ true
  orders : orders_fine n x.place ≡ true
  range : priorities_fine x ≡ true
  outcome : outcome_fine x ≡ true
  fresh : fresh_if_free x ≡ true
  free : free_holds held x.place ≡ true

alone_tested : (n : ℕ) (held : Bool) (x : Task) → alone_fine n held x ≡ true → AloneTested n held x
alone_tested n held x e =
    let a = and_right (stands_fine n x.place) _ e in
    let b = and_right (remembers_fine n x.place) _ a in
    let c = and_right (orders_fine n x.place) _ b in
    let d = and_right (priorities_fine x) _ c in
    let f = and_right (outcome_fine x) _ d in
    record {
      stands = and_left (stands_fine n x.place) _ e;
      remembers = and_left (remembers_fine n x.place) _ a;
      orders = and_left (orders_fine n x.place) _ b;
      range = and_left (priorities_fine x) _ c;
      outcome = and_left (outcome_fine x) _ d;
      fresh = and_left (fresh_if_free x) _ f;
      free = and_right (fresh_if_free x) _ f;
    }

tested_alone : (n : ℕ) (held : Bool) (x : Task) → AloneTested n held x → alone_fine n held x ≡ true
tested_alone n held x T =
    and_intro (stands_fine n x.place) _ T.stands
    (and_intro (remembers_fine n x.place) _ T.remembers
    (and_intro (orders_fine n x.place) _ T.orders
    (and_intro (priorities_fine x) _ T.range
    (and_intro (outcome_fine x) _ T.outcome
    (and_intro (fresh_if_free x) (free_holds held x.place) T.fresh T.free)))))

-- ── rows of the columns, and of the list that they read as
module _ (ts : Tasks) (many : length (rows_of ts) ≡ 16) where
  few : length ts.state ≡ 16
  few = sym (rows_many ts) ∙ many

  pub at_row : (n : ℕ) → n < 16 → task_at (rows_of ts) (task n) ≡ row_at ts n
  unfolding task_at
  at_row n l = row_at_lem ts n (omega (arith, few))

  past_free : (n : ℕ) → 16 ≤ n → (row_at ts n).place ≡ Free
  unfolding row_at place_of
  past_free n l = rw (get_or-eq_default ts.state 0 {n = n} (omega (arith, few)))

  -- a test that no free slot passes finds the same in both
  same_row : (f : Task → Bool) → ((x : Task) → x.place ≡ Free → f x ≡ false) → (t : TaskSlot) → f (row_at ts t.0) ≡ f (task_at (rows_of ts) t)
  same_row f free t = go (ltb t.0 16) refl
    where
      go : (b : Bool) → ltb t.0 16 ≡ b → f (row_at ts t.0) ≡ f (task_at (rows_of ts) t)
      go true q = ap f (sym (at_row t.0 (ltb-true t.0 16 q)))
      go false q =
          let past : 16 ≤ t.0 = ltb-false t.0 16 q in
          free (row_at ts t.0) (past_free t.0 past) ∙ sym (ap f (past_tasks (rows_of ts) t (omega (arith, many))) ∙ free free_task refl)

  same_kept : (f : Task → Bool) → ((x : Task) → x.place ≡ Free → f x ≡ false) → (l : List TaskSlot) → kept (λ t. f (row_at ts t.0)) l ≡ kept (λ t. f (task_at (rows_of ts) t)) l
  unfolding kept
  same_kept f free [] = refl
  same_kept f free (t ∷ l) = rw (same_row f free t, same_kept f free l)

  -- ── the effective priorities
  module _ (os : Objects) (kinds : length (kinds_of os) ≡ 16) where
    abbrev xs : List Task
    xs = rows_of ts

    abbrev ys : List Object
    ys = kinds_of os

    next_at : (s : ℕ) → says (holders_in os) (waited_on (row_at ts s).place) ≡ next_of xs ys s
    unfolding holders_in
    next_at s = go (ltb s 16) refl
      where
        go : (b : Bool) → ltb s 16 ≡ b → says (holders_of ys) (waited_on (row_at ts s).place) ≡ next_of xs ys s
        go true q = ap (λ (x : Task). says (holders_of ys) (waited_on x.place)) (sym (at_row s (ltb-true s 16 q))) ∙ next_is xs ys many kinds (task_at xs (task s)).place
        go false q =
            ap (λ (p : Place). says (holders_of ys) (waited_on p)) (past_free s (ltb-false s 16 q))
            ∙ sym (ap (λ (x : Task). (for_whom ys x.place).0) (past_tasks xs (task s) (omega (arith, many, ltb-false s 16 q))))

    pub ended_rows : ended_in ts (holders_in os) ≡ no_circle xs ys
    unfolding ended_in no_circle leads_to
    ended_rows = ap (λ (next : ℕ → ℕ). all_below 16 (λ s. ends next 16 (next s))) (λ i s. next_at s i) ∙ all_end (next_of xs ys) (links_past xs ys many)

    pub levels_rows : levels_in ts (holders_in os) ≡ ruled xs ys
    unfolding levels_in
    levels_rows =
        values_same _ (λ u. get_or (ruled xs ys) u 0) 16
        (λ u l. Chain-same (λ s. (row_at ts s).own) (own_of xs ys) (λ s. says (holders_in os) (waited_on (row_at ts s).place)) (next_of xs ys)
        (λ s h. ap (λ (x : Task). x.own) (sym (at_row s h))) next_at u ∙ sym (ruled_is xs ys many kinds u l))
        ∙ all_values xs ys many kinds (ruled xs ys) (ruled_sixteen xs ys)

  -- ── who runs
  same_top : (l : List TaskSlot) → top_in ts l ≡ highest (rows_of ts) (those (rows_of ts) all_ready l)
  unfolding top_in those
  same_top l =
      rw (same_kept (λ (x : Task). is_ready x.place) (λ x e. ap is_ready e) l)
      (largest_same (level_at ts) (level (rows_of ts)) (λ t. is_ready (task_at (rows_of ts) t).place) same_level l ∙ largest-highest (rows_of ts) _)
    where
      same_level : (t : TaskSlot) → is_ready (task_at (rows_of ts) t).place ≡ true → level_at ts t ≡ level (rows_of ts) t
      same_level t r = go (ltb t.0 16) refl
        where
          go : (b : Bool) → ltb t.0 16 ≡ b → level_at ts t ≡ level (rows_of ts) t
          go true q = ap (λ (x : Task). x.effective) (sym (at_row t.0 (ltb-true t.0 16 q)))
          go false q = absurd (false≢true (sym (ap (λ (x : Task). is_ready x.place) (past_tasks (rows_of ts) t (omega (arith, many, ltb-false t.0 16 q)))) ∙ r))

  pub runs_is : (l : List TaskSlot) (u : TaskSlot) (hold : ℕ) → runs_in ts l u (ltb 0 hold) ≡ runs_fine (rows_of ts) l u hold
  unfolding heads_in runs_fine line_in line
  runs_is l u hold = go (ltb u.0 16) refl
    where
      same : (p : ℕ) (x : Task) → x.place ≡ Free → in_line p x ≡ false
      same p x e = ap (λ (q : Place). is_ready q && eqb x.effective p) e

      go : (b : Bool) → ltb u.0 16 ≡ b → runs_in ts l u (ltb 0 hold)
          ≡ (is_ready (task_at (rows_of ts) u).place && (heads (line (rows_of ts) (level (rows_of ts) u) l) u && (ltb 0 hold || no_higher (rows_of ts) (level (rows_of ts) u) l)))
      go true q =
          let low = ltb-true u.0 16 q in
          ap (λ (x : Task). (is_ready x.place && headed (kept (λ t. in_line x.effective (row_at ts t.0)) l) u) && (ltb 0 hold || leb (top_in ts l) x.effective)) (sym (at_row u.0 low))
          ∙ rw (same_kept (in_line (level (rows_of ts) u)) (same (level (rows_of ts) u)) l, same_top l, no_higher_by (rows_of ts) (level (rows_of ts) u) l)
          (and_assoc (is_ready (task_at (rows_of ts) u).place) (heads (line (rows_of ts) (level (rows_of ts) u) l) u) _)
      go false q =
          off_left _ _ (off_left _ _ (ap is_ready (past_free u.0 (ltb-false u.0 16 q))))
          ∙ sym (off_left _ _ (ap (λ (x : Task). is_ready x.place) (past_tasks (rows_of ts) u (omega (arith, many, ltb-false u.0 16 q)))))

-- ── waits
module _ (os : Objects) (hs : Holdings) (H : HoldingsAre os hs) where
  fewer : length os.state ≡ 16
  fewer = sym (kinds_many os) ∙ H.many

  pub at_kind : (n : ℕ) → n < 16 → kind_at (kinds_of os) (object n) ≡ kind_in os n
  unfolding kind_at
  at_kind n l = kind_row os n (omega (arith, fewer))

  -- past the table there is nothing to wait on
  past_kind : (n : ℕ) → 16 ≤ n → kind_in os n ≡ Unused
  unfolding kind_in kind_of
  past_kind n l = rw (get_or-eq_default os.state 0 {n = n} (omega (arith, fewer)))

  each_kind_same : (P : Kind → Bool) (o : ObjSlot) → P (kind_in os o.0) ≡ P (kind_at (kinds_of os) o)
  each_kind_same P o = go (ltb o.0 16) refl
    where
      go : (b : Bool) → ltb o.0 16 ≡ b → P (kind_in os o.0) ≡ P (kind_at (kinds_of os) o)
      go true q = ap P (sym (at_kind o.0 (ltb-true o.0 16 q)))
      go false q =
          let l = ltb-false o.0 16 q in
          ap P (past_kind o.0 l ∙ sym (past_objects (kinds_of os) o (omega (arith, H.many, l))))

  -- for its turn, and for bits
  want_is : (t : TaskSlot) (x : Want) (o : ObjSlot) → (waits_turn hs.open hs.taken hs.holder t x o.0 && want_may x (kind_in os o.0)) ≡ may_wait t x (kind_at (kinds_of os) o)
  want_is t (Bits m all clear) o = each_kind_same (awaits_bits m all) o
  want_is t OwnTurn o = and-true _ ∙ go (ltb o.0 16) refl
    where
      go : (b : Bool) → ltb o.0 16 ≡ b → (b && may_wait_on hs.open hs.taken hs.holder t o.0) ≡ awaits_turn t (kind_at (kinds_of os) o)
      go true q =
          let low = ltb-true o.0 16 q in
          H.waited t o.0 low ∙ ap (awaits_turn t) (sym (at_kind o.0 low))
      go false q = sym (ap (awaits_turn t) (past_objects (kinds_of os) o (omega (arith, H.many, ltb-false o.0 16 q))))

  pub waits_is : (t : TaskSlot) (p : Place) → (waits_by hs.open hs.taken hs.holder t p && awaits_in os p) ≡ waits_fine t (kinds_of os) p
  waits_is t Free = refl
  waits_is t Ready = refl
  waits_is t (Delayed w) = refl
  waits_is t Suspended = refl
  waits_is t Spent = refl
  waits_is t (Waiting y w) = want_is t y.want y.object

-- ── the whole test
module _ (k : Core) (stands : List ℕ) (hs : Holdings) (fine : Bool) (F : Fine k.tasks k.tick stands hs.held fine) (H : HoldingsAre k.objects hs)
    (levels : Bool) (Q : levels ≡ (ended_in k.tasks hs.by && all_below 16 (λ n. eqb (row_at k.tasks n).effective (get_or (levels_in k.tasks hs.by) n 0))))
    (tallies : stands ≡ tallies_of (listed k.order)) (places : length k.order.places ≡ 16) (ranges : counted k.tick k.hold k.pended ≡ true) where
  abbrev ts : Tasks
  ts = k.tasks

  abbrev s : State
  s = as_rows k fresh_uses

  stands_at : (n : ℕ) → n < 16 → get_or stands n 0 ≡ count n (listed k.order)
  stands_at n l = ap (λ (c : List ℕ). get_or c n 0) tallies ∙ tallies_count (listed k.order) n l

  marked : (n : ℕ) → get_or hs.held n false ≡ get_or (marks_of s.objects) n false
  marked n = ap (λ (c : List Bool). get_or c n false) H.marks

  holding_at : (n : ℕ) → n < 16 → get_or hs.held n false ≡ holds s.objects (task n)
  unfolding holds
  holding_at n l = marked n ∙ marks_hold s.objects n l

  abbrev turns : Bool
  turns = all_below 16 (waits_at ts hs.open hs.taken hs.holder)

  abbrev waits : Bool
  waits = turns && all_below 16 (awaits_at ts k.objects)

  abbrev due_at : ℕ → Bool
  due_at n = wake_at ts n && not_due k.tick (row_at ts n).place

  abbrev runs : Bool
  runs = runs_in ts (listed k.order) k.running (ltb 0 k.hold)

  abbrev pends : Bool
  pends = pends_fine k.hold k.pended

  abbrev pub quick : Bool
  quick = (fine && (waits && (levels && hs.fine))) && (runs && (tidy k.order && pends))

  rule : levels_in ts hs.by ≡ ruled s.tasks s.objects
  rule = ap (levels_in ts) H.by ∙ levels_rows ts F.many k.objects H.many

  straight : ended_in ts hs.by ≡ no_circle s.tasks s.objects
  straight = ap (ended_in ts) H.by ∙ ended_rows ts F.many k.objects H.many

  row : (n : ℕ) → n < 16 → slot_task s.tasks n ≡ row_at ts n
  row n l = at_row ts F.many n l

  kind : (n : ℕ) → n < 16 → slot_kind s.objects n ≡ kind_in k.objects n
  kind n l = at_kind k.objects hs H n l

  module _ (q : quick ≡ true) where
    tables : (fine && (waits && (levels && hs.fine))) ≡ true
    tables = and_left (fine && (waits && (levels && hs.fine))) _ q

    last : (runs && (tidy k.order && pends)) ≡ true
    last = and_right (fine && (waits && (levels && hs.fine))) _ q

    all_rows : (idle_alone (get_or hs.held 0 false) (row_at ts 0) && (all_below 16 (rows_fine ts stands hs.held) && all_below 16 (wakes_fine ts k.tick))) ≡ true
    all_rows = sym F.said ∙ and_left fine _ tables

    each : (n : ℕ) → n < 16 → rows_fine ts stands hs.held n ≡ true
    each n l = all_below_lem 16 (rows_fine ts stands hs.held) (and_left _ _ (and_right (idle_alone (get_or hs.held 0 false) (row_at ts 0)) _ all_rows)) n l

    wake : (n : ℕ) → n < 16 → wakes_fine ts k.tick n ≡ true
    wake n l =
        all_below_lem 16 (wakes_fine ts k.tick) (and_right (all_below 16 (rows_fine ts stands hs.held)) _ (and_right (idle_alone (get_or hs.held 0 false) (row_at ts 0)) _ all_rows)) n l

    kinds : all_below 16 (fine_at k.objects) ≡ true
    kinds = sym H.said ∙ and_right levels _ (and_right waits _ (and_right fine _ tables))

    -- no chain leads back, and each is at its level
    chained : (ended_in ts hs.by && all_below 16 (λ n. eqb (row_at ts n).effective (get_or (levels_in ts hs.by) n 0))) ≡ true
    chained = sym Q ∙ and_left levels _ (and_right waits _ (and_right fine _ tables))

    -- so it stands for a state
    pub is_plain : plain k ≡ true
    unfolding plain canonical
    is_plain =
        and_intro _ _ (below_all 16 _
        (λ n l. and_intro _ _ (and_left (known_at ts n) _ (each n l)) (and_intro _ _ (and_left (wake_at ts n) _ (and_left (due_at n) _ (wake n l))) (and_right (due_at n) _ (wake n l)))))
        (fine_canonical k.objects kinds)

    alone : (n : ℕ) → n < 16 → AloneTested (get_or stands n 0) (get_or hs.held n false) (slot_task s.tasks n)
    alone n l = alone_tested _ _ _ (rw (row n l) (and_right (known_at ts n) _ (each n l)))

    once : (n : ℕ) → n < 16 → stands_fine (count n (listed k.order)) (slot_task s.tasks n).place ≡ true
    once n l = rw (← stands_at n l) (alone n l).stands

    idles : idle_alone (get_or hs.held 0 false) (row_at ts 0) ≡ true
    idles = and_left (idle_alone (get_or hs.held 0 false) (row_at ts 0)) _ all_rows

    ranges_at : (n : ℕ) → n < 16 → (kind_in_range (kind_in k.objects n) && holder_slot (hands (kind_in k.objects n))) ≡ true
    ranges_at n l = ranges_of k.objects n (all_below_lem 16 (fine_at k.objects) kinds n l)

    tables_so : TablesTested s.tasks s.objects
    tables_so =
        record {
          slots = rw (F.many, H.many);
          as_idle = rw (row 0 (omega arith)) (and_left (idle_fine (row_at ts 0)) _ idles);
          waits = below_all 16 _ (λ n l. rw (row n l) (sym (waits_is k.objects hs H (task n) (row_at ts n).place)
              ∙ and_intro (waits_at ts hs.open hs.taken hs.holder n) _ (all_below_lem 16 (waits_at ts hs.open hs.taken hs.holder) (and_left turns _ (and_left waits _ (and_right fine _ tables))) n l)
              (all_below_lem 16 (awaits_at ts k.objects) (and_right turns _ (and_left waits _ (and_right fine _ tables))) n l)));
          idle_holds = rw (← holding_at 0 (omega arith)) (and_right (idle_fine (row_at ts 0)) _ idles);
          holders = sym (holders_exist s.tasks s.objects F.many H.many)
              ∙ and_intro _ _ (below_all 16 _ (λ n l. rw (kind n l) (and_right (kind_in_range (kind_in k.objects n)) _ (ranges_at n l))))
              (below_all 16 _ (λ n l. rw (← marked n) (alone n l).free));
          ranges = below_all 16 _ (λ n l. rw (kind n l) (and_left (kind_in_range (kind_in k.objects n)) _ (ranges_at n l)));
          outcomes = below_all 16 _ (λ n l. (alone n l).outcome);
          fresh = below_all 16 _ (λ n l. (alone n l).fresh);
        }

    to_plain : sound s ≡ true
    unfolding levels_fine
    to_plain =
        let orders = and_right runs _ last in
        tested_sound s record {
          tables = tested_tables _ _ tables_so;
          levels = below_all 16 _ (λ n l. and_intro (priorities_fine (slot_task s.tasks n)) _ (alone n l).range (rw (row n l, ← rule) (all_below_lem 16 _ (and_right (ended_in ts hs.by) _ chained) n l)));
          listing = tested_listing _ _ record {
            places = rw places;
            stands = below_all 16 _ once;
            remembered = below_all 16 _ (λ n l. rw (← stands_at n l) (alone n l).remembers);
            tidied = and_left (tidy k.order) pends orders;
            none_else = below_all 16 _ (λ n l. rw (← stands_at n l) (alone n l).orders);
          };
          clock = tested_clock _ _ _ _ record {
            wakes = below_all 16 _ (λ n l. rw (row n l) (and_right (wake_at ts n) _ (and_left (due_at n) _ (wake n l))));
            ranges = ranges;
            pends = and_right (tidy k.order) pends orders;
          };
          runs = sym (runs_is ts F.many (listed k.order) k.running k.hold) ∙ and_left runs _ last;
          uses = fresh_fine;
          circles = sym straight ∙ and_left (ended_in ts hs.by) _ chained;
        }

  -- and back
  module _ (e : sound s ≡ true) (p : plain k ≡ true) where
    E : Tested s
    E = sound_tested s e

    T : TablesTested s.tasks s.objects
    T = tables_tested s.tasks s.objects E.tables

    L : ListingTested s.tasks k.order
    L = listing_tested s.tasks k.order E.listing

    C : ClockTested s.tasks k.tick k.hold k.pended
    C = clock_tested s.tasks k.tick k.hold k.pended E.clock

    from_plain : quick ≡ true
    unfolding levels_fine plain canonical
    from_plain =
        and_intro _ _ (and_intro fine _ (F.said ∙ and_intro _ _ idles (and_intro _ _ (below_all 16 _ each_row) (below_all 16 _ each_wake)))
        (and_intro waits _ (and_intro turns _ (below_all 16 _ each_wait) (below_all 16 _ each_await)) (and_intro levels _ (Q ∙ and_intro (ended_in ts hs.by) _ (straight ∙ E.circles) (below_all 16 _ each_level)) (H.said ∙ below_all 16 _ each_kind))))
        (and_intro runs _ (runs_is ts F.many (listed k.order) k.running k.hold ∙ E.runs) (and_intro (tidy k.order) pends L.tidied C.pends))
      where
        cells : (n : ℕ) → n < 16 → (known_at ts n && (wake_at ts n && mask_at ts n)) ≡ true
        cells n l = all_below_lem 16 (λ i. known_at ts i && (wake_at ts i && mask_at ts i)) (and_left (canonical ts) (canonical_kinds k.objects) p) n l

        slotted : Bool
        slotted = all_below 16 (λ n. holder_slot (hands (kind_at s.objects (object n))))

        unheld : Bool
        unheld = all_below 16 (λ n. free_holds (get_or (marks_of s.objects) n false) (task_at s.tasks (task n)).place)

        halves : (slotted && unheld) ≡ true
        halves = holders_exist s.tasks s.objects F.many H.many ∙ T.holders

        idles : idle_alone (get_or hs.held 0 false) (row_at ts 0) ≡ true
        idles = and_intro (idle_fine (row_at ts 0)) (not (get_or hs.held 0 false)) (rw (← row 0 (omega arith)) T.as_idle) (rw (holding_at 0 (omega arith)) T.idle_holds)

        each_row : (n : ℕ) → n < 16 → rows_fine ts stands hs.held n ≡ true
        each_row n l =
            and_intro (known_at ts n) _ (and_left _ _ (cells n l))
            (rw (← row n l)
            (tested_alone (get_or stands n 0) (get_or hs.held n false) (slot_task s.tasks n) record {
              stands = rw (stands_at n l) (all_below_lem 16 _ L.stands n l);
              remembers = rw (stands_at n l) (all_below_lem 16 _ L.remembered n l);
              orders = rw (stands_at n l) (all_below_lem 16 _ L.none_else n l);
              range = and_left (priorities_fine (slot_task s.tasks n)) _ (all_below_lem 16 _ E.levels n l);
              outcome = all_below_lem 16 _ T.outcomes n l;
              fresh = all_below_lem 16 _ T.fresh n l;
              free = rw (marked n) (all_below_lem 16 _ (and_right slotted unheld halves) n l);
            }))

        each_level : (n : ℕ) → n < 16 → eqb (row_at ts n).effective (get_or (levels_in ts hs.by) n 0) ≡ true
        each_level n l = rw (rule, ← row n l) (and_right (priorities_fine (slot_task s.tasks n)) _ (all_below_lem 16 _ E.levels n l))

        each_wake : (n : ℕ) → n < 16 → wakes_fine ts k.tick n ≡ true
        each_wake n l =
            let numbers = and_right (known_at ts n) _ (cells n l) in
            and_intro (due_at n) _ (and_intro (wake_at ts n) (not_due k.tick (row_at ts n).place) (and_left (wake_at ts n) _ numbers) (rw (← row n l) (all_below_lem 16 _ C.wakes n l)))
            (and_right (wake_at ts n) _ numbers)

        may : (n : ℕ) → n < 16 → (waits_at ts hs.open hs.taken hs.holder n && awaits_at ts k.objects n) ≡ true
        may n l = waits_is k.objects hs H (task n) (row_at ts n).place ∙ rw (← row n l) (all_below_lem 16 _ T.waits n l)

        each_wait : (n : ℕ) → n < 16 → waits_at ts hs.open hs.taken hs.holder n ≡ true
        each_wait n l = and_left (waits_at ts hs.open hs.taken hs.holder n) _ (may n l)

        each_await : (n : ℕ) → n < 16 → awaits_at ts k.objects n ≡ true
        each_await n l = and_right (waits_at ts hs.open hs.taken hs.holder n) _ (may n l)

        each_kind : (n : ℕ) → n < 16 → fine_at k.objects n ≡ true
        each_kind n l =
            fine_of k.objects n (and_right (canonical ts) (canonical_kinds k.objects) p) l
            (rw (← kind n l) (and_intro (kind_in_range (slot_kind s.objects n)) (holder_slot (hands (slot_kind s.objects n))) (all_below_lem 16 _ T.ranges n l)
            (all_below_lem 16 _ (and_left slotted unheld halves) n l)))

  pub quick_is : quick ≡ sound (shown_core k)
  unfolding shown_with
  quick_is = same_test quick _ (λ q. rw (is_plain q) (to_plain q)) (λ e. go (plain k) refl e)
    where
      go : (b : Bool) → plain k ≡ b → sound (if b then as_rows k fresh_uses else no_tables k fresh_uses) ≡ true → quick ≡ true
      go true p e = from_plain e p
      go false p e = absurd (no_tables_lem k fresh_uses e)

  -- what passes stands for the state that it shows
  pub stands_for : quick ≡ true → k ≡ core_of (shown_core k)
  unfolding shown_with core_of
  stands_for q =
      let f = and_left fine _ (tables q) in
      let g = and_right levels _ (and_right waits _ (and_right fine _ (tables q))) in
      rw (is_plain q) (λ i. record { tasks = F.whole f i; objects = H.whole g i; order = k.order; running = k.running; tick = k.tick; hold = k.hold; pended = k.pended })

  -- what the code's one expression comes to
  pub quickly : {b : Bool} → b ≡ quick → (b ≡ sound (shown_core k)) × (b ≡ true → k ≡ core_of (shown_core k))
  quickly e = (e ∙ quick_is, λ q. stands_for (sym e ∙ q))
