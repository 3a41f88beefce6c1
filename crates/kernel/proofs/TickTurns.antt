-- Several ticks, jumped from one on which somebody is due to the next: what the loop keeps.
use Rattle.std.proofs.Common.{◌≡◌, ℕ, ◌+◌, ◌-◌, ◌<◌, ◌≤◌, Bool, true, false, eqb, List, [], ◌∷◌, sym, refl, ap, ◌∙◌, subst, arith, eq-eqb, ne_eqb, le-leb, if◌then◌else◌}
use mathlib.Core.Bool.{false≢true}
use native.Mathlib.Nat.{zero-mod}
use borrow.Author.Tests.{eqb-false}
use Rattle.lists.specs.Lists.{up_to, kept, head, is_none}
use Rattle.numbers.specs.declared.TaskSlot.{TaskSlot}
use Rattle.order.specs.declared.Order.{Order}
use Rattle.order.specs.Order.{listed, ordered}
use Rattle.order.specs.Turns.{times_turned, head_after}
use Rattle.order.proofs.Fits.{fits_listed, fits_kept}
use Rattle.slots.specs.declared.Task.{Task}
use Rattle.slots.specs.Who.{all_ready}
use Rattle.slots.specs.Values.{task_at}
use Rattle.tasks.specs.Columns.{tasks_of}
use Rattle.tasks.specs.Walks.{line_in, head_or, top_in}
use Rattle.tasks.proofs.ByList.{line_of}
use Rattle.calls.specs.Door.{fresh_uses}
use Rattle.rules.specs.State.{State}
use Rattle.rules.specs.Tables.{with_uses, with_tick, with_hold}
use Rattle.rules.specs.Lines.{line, those, level, highest, first, chosen}
use Rattle.rules.specs.Sentences.{Unheld}
use Rattle.rules.specs.Waits.{later}
use Rattle.rules.specs.Ticks.{one_tick, until_due, turned_if, turnings, ticks, released, advanced}
use Rattle.rules.proofs.TickJumps.{no_turnings, jump_all, jump_tick, turnings_only}
use Rattle.rules.proofs.SoundLists.{listing_room}
use Rattle.rules.proofs.LineLeads.{first_heads_highest}
use Rattle.rules.proofs.KeepNearly.{settled, Nearly}
use Rattle.rules.proofs.KeepChosen.{some_ready}
use Rattle.rules.proofs.KeepTicks.{one_tick_lem, unheld_nearly, tick_unheld, ticks_unheld, ticks_reckoned}
use Rattle.rules.proofs.LineTurns.{its_line, turns_at_once, its_room, tick_still}
use Rattle.kernel.specs.Types.{Core}
use Rattle.kernel.specs.Stands.{core_of, shown_core}
use Rattle.kernel.specs.Does.{Does, Turning, Reckons}
use Rattle.kernel.proofs.Stands.{same_tick, same_hold, same_pended}
use Rattle.kernel.proofs.TableWalks.{top_highest, chosen_by, no_higher_of, no_turn}
use Rattle.kernel.proofs.Shown.{shown_with_lem}
use Rattle.kernel.proofs.LevelWorks.{Settled, reckons_next, reckons_of}
use Rattle.rules.specs.Loans.{Reckoned}

-- ── a value of which the line may be turned
unheld_with : (s : State) → Unheld s → Unheld (with_uses s fresh_uses)
unheld_with s U = record { sound = U.sound; free = U.free }

-- whatever state it stands for
pub turning_of : {k : Core} → Turning k → (s : State) → k ≡ core_of s → Unheld s
turning_of T s h = let U = subst Unheld (ap shown_core h ∙ shown_with_lem s fresh_uses) T.unheld in record { sound = U.sound; free = U.free }

pub turning_next : {k r : Core} (f : State → State) → Turning k → Does k f r → ((s : State) → k ≡ core_of s → Unheld s → Unheld (f s)) → Turning r
unfolding core_of
turning_next {k} {r} f T d u =
    let next = f (shown_core k) in
    let is : r ≡ core_of next = d (shown_core k) T.stands in
    let shows : shown_core r ≡ with_uses next fresh_uses = ap shown_core is ∙ shown_with_lem next fresh_uses in
    record { stands = is ∙ ap core_of (sym shows); unheld = subst Unheld (sym shows) (unheld_with next (u (shown_core k) T.stands T.unheld)) }

-- ── the line turned in one go
-- the value with another order, and another who runs
abbrev headed : Core → Order → TaskSlot → Core
headed k o r = record { tasks = k.tasks; objects = k.objects; order = o; running = r; tick = k.tick; hold = k.hold; pended = k.pended }

pub turned_many : (k : Core) (s : State) → k ≡ core_of s → Unheld s → (n : ℕ) → 0 < n → (y : Task) → y ≡ task_at s.tasks s.running
    → (l : Order) → l ≡ ordered (line_in k.tasks y.effective (listed k.order)) → (o : Order) → o ≡ times_turned k.order (listed l) n → (r : TaskSlot) → r ≡ head_after (listed l) n
    → headed k o r ≡ core_of (turnings true n s)
unfolding core_of
turned_many k s h U n some y e l f o g r q =
    let ks = kept (its_line s) (listed s.order) in
    let same : l ≡ ordered ks = f ∙ rw (h, e) (ap ordered (line_of s.tasks (level s.tasks s.running) (listed s.order))) in
    let its : listed l ≡ ks = ap listed same ∙ fits_listed ks (its_room s U) in
    rw (g, q, its, h) (sym (ap core_of (turns_at_once s U n some)))

-- ── ticks on which nobody is due
abbrev passing : Bool → ℕ → State → State
passing turns n s = with_tick (turnings turns n s) (later s.tick n)

pub counts_on : {k j r : Core} (n next : ℕ) → next ≡ later k.tick n → (turns : Bool) → Does k (turnings turns n) j → Does j (λ s. with_tick s next) r → Does k (passing turns n) r
counts_on {k} n next e turns f g s h =
    g (turnings turns n s) (f s h) ∙ ap (λ (m : ℕ). core_of (with_tick (turnings turns n s) m)) (e ∙ ap (λ (m : ℕ). later m n) (same_tick k s h))

-- in none at all there is no turn, nor where they come without
pub no_tick_turns : (k : Core) (n : ℕ) (turns : Bool) → n ≤ 0 → Does k (turnings turns n) k
unfolding up_to
no_tick_turns k n turns z s h = h ∙ ap core_of (let y : n ≡ 0 = omega arith in ap (λ (m : ℕ). turnings turns m s) (sym y))

pub none_turns : (k : Core) (n : ℕ) (turns : Bool) → turns ≡ false → Does k (turnings turns n) k
none_turns k n turns q s h = h ∙ ap core_of (sym (no_turnings n s) ∙ ap (λ (b : Bool). turnings b n s) (sym q))

-- ── a tick on which somebody may be due
-- who heads the highest line is found by its list
module _ (s : State) (N : Nearly (settled s.tick) s) where
  abbrev tops : List TaskSlot
  tops = line_in (tasks_of s.tasks) (top_in (tasks_of s.tasks) (listed s.order)) (listed s.order)

  tops_are : tops ≡ line s.tasks (highest s.tasks (those s.tasks all_ready (listed s.order))) (listed s.order)
  unfolding line
  tops_are = rw (top_highest s.tasks (listed s.order)) (line_of s.tasks (highest s.tasks (those s.tasks all_ready (listed s.order))) (listed s.order))

  tops_fit : listed (ordered tops) ≡ tops
  unfolding line
  tops_fit = fits_listed tops (rw tops_are (fits_kept _ (listed s.order) (listing_room s.tasks s.order N.tables.task_slots N.listing)))

  pub heads_then : head_after (listed (ordered tops)) 0 ≡ head_or tops s.running
  heads_then = rw tops_fit (go tops (sym (first_heads_highest s ∙ sym (ap head tops_are))))
    where
      go : (m : List TaskSlot) → head m ≡ first s all_ready → head_after m 0 ≡ head_or m s.running
      go [] e = absurd (false≢true (sym (some_ready s N) ∙ sym (ap is_none e)))
      go (t ∷ m) e = rw zero-mod

module _ {k j : Core} (T : Turning k) (f : Does k one_tick j) (y : Task) (q : (s : State) → j ≡ core_of s → y ≡ task_at s.tasks j.running)
    (n : ℕ) (e : n ≡ top_in j.tasks (listed j.order)) where
  -- who outranks the running task runs
  pub overtaken : y.effective < n → (l : Order) → l ≡ ordered (line_in j.tasks n (listed j.order)) → (r : TaskSlot) → r ≡ head_after (listed l) 0
      → Does k (λ s. turned_if true (one_tick s)) (headed j j.order r)
  unfolding core_of
  overtaken h l m r p s g =
      let i = one_tick s in
      let U = turning_of T s g in
      let is = f s g in
      let W = one_tick_lem s (unheld_nearly s U) in
      let line_is : l ≡ ordered (tops i W.nearly) = m ∙ rw (e, is) in
      let heads : r ≡ head_or (tops i W.nearly) i.running = p ∙ ap (λ (o : Order). head_after (listed o) 0) line_is ∙ heads_then i W.nearly in
      (λ d. record { tasks = (is d).tasks; objects = (is d).objects; order = (is d).order; running = heads d; tick = (is d).tick; hold = (is d).hold; pended = (is d).pended })
      ∙ ap core_of (chosen_by i (W.after.hold ∙ U.free)) ∙ ap (λ (x : State). core_of (chosen x)) (no_turn j i y n is (q i is) e h)

  -- where nobody does, the line may be turned
  pub not_overtaken : n ≤ y.effective → Turning j
  not_overtaken h = turning_next one_tick T f (λ s g U. tick_still s U (no_higher_of j (one_tick s) y n (f s g) (q (one_tick s) (f s g)) e ∙ le-leb n y.effective h))

-- ── time passes: the last release, and an advance
unheld_plain : (s : State) → Unheld s → with_hold s 0 0 ≡ s
unheld_plain s U = λ i. with_hold s (sym U.free i) (sym (U.sound.clock.counts.pends U.free) i)

pub unheld_turning : {k j : Core} → Turning k → Does k (λ s. with_hold s 0 0) j → Turning j
unheld_turning T f = turning_next (λ s. with_hold s 0 0) T f (λ s h U. subst Unheld (sym (unheld_plain s U)) U)

inner_released : (s : State) → 1 < s.hold → with_hold s (s.hold - 1) s.pended ≡ released s
unfolding released
inner_released s m = rw (ne_eqb s.hold 1 (λ e. omega arith))

last_released : (s : State) → s.hold ≡ 1 → ticks false s.pended (with_hold s 0 0) ≡ released s
unfolding released
last_released s m = rw (eq-eqb s.hold 1 m)

module _ (k : Core) (n : ℕ) where
  abbrev TimePasses : Bool → Core → Type 0
  TimePasses b r = Does k (λ s. if b then advanced s n else released s) r

  -- an inner hold ends
  pub less_held : {r : Core} (b : Bool) → (b ≡ true → Turning k) → 1 < k.hold → Does k (λ s. with_hold s (k.hold - 1) k.pended) r → TimePasses b r
  less_held true T l f s h = absurd (omega (arith, same_hold k s h, (turning_of (T refl) s h).free))
  less_held false T l f s h = f s h ∙ rw (same_hold k s h, same_pended k s h) (ap core_of (inner_released s (rw (same_hold k s h) at l)))

  -- no hold is left, and ticks pass
  pub then_passes : {j r : Core} (b : Bool) → (b ≡ true → Turning k) → (b ≡ false → eqb k.hold 0 ≡ false) → k.hold ≤ 1 → Does k (λ s. with_hold s 0 0) j
      → Does j (ticks b (if b then n else k.pended)) r → TimePasses b r
  unfolding advanced
  then_passes true T g l f e s h = e (with_hold s 0 0) (f s h) ∙ ap (λ (x : State). core_of (ticks true n x)) (unheld_plain s (turning_of (T refl) s h))
  then_passes false T g l f e s h =
      e (with_hold s 0 0) (f s h)
      ∙ rw (same_pended k s h) (ap core_of (last_released s (omega (arith, same_hold k s h, eqb-false k.hold 0 (g refl)))))

-- ── the loop: k stands for a state from which the ticks that are left lead where all n lead from s
record Left (turns : Bool) (s : State) (n : ℕ) (k : Core) (left : ℕ) : Type 0 where
  state : State
  stands : k ≡ core_of state
  goes : ticks turns left state ≡ ticks turns n s

pub record Ticking (turns : Bool) (k₀ : Core) (n : ℕ) (k : Core) (left : ℕ) : Type 0 where
  on : (s : State) → k₀ ≡ core_of s → Left turns s n k left
  pub reckons : Reckons k
  pub may_turn : turns ≡ true → Turning k

pub ticking_begins : (turns : Bool) (k : Core) (n : ℕ) → Reckons k → (turns ≡ true → Turning k) → Ticking turns k n k n
ticking_begins turns k n R T = record { on = λ s h. record { state = s; stands = h; goes = refl }; reckons = R; may_turn = T }

-- the turns change no task and no object, and a tick works the effective priorities out
passing_settled : (turns : Bool) (d : ℕ) (e : State) → Settled e → Settled (passing turns d e)
passing_settled turns d e S = let o = turnings_only turns d e in rw (o.tasks, o.objects) S

tick_settled : (turns : Bool) (e : State) → Settled e → Settled (turned_if turns (one_tick e))
unfolding ticks up_to
tick_settled turns e S = ticks_reckoned turns 1 e S.0 S.1

module _ {turns : Bool} {k₀ : Core} {n : ℕ} {k : Core} {left : ℕ} (T : Ticking turns k₀ n k left)
    (d : ℕ) (small : k.tick ≤ 4294967295) (until : (e : State) → k ≡ core_of e → d ≡ until_due e.tick e.tasks) where
  counts : (e : State) → k ≡ core_of e → e.tick ≤ 4294967295
  counts e h = omega (arith, same_tick k e h)

  by_rule : (e : State) → k ≡ core_of e → Reckoned e.tasks e.objects
  by_rule e h = (reckons_of T.reckons e h).1

  pub jumps_reckons : {j : Core} → Does k (passing turns d) j → Reckons j
  jumps_reckons f = reckons_next (passing turns d) T.reckons f (λ e h S. passing_settled turns d e S)

  -- nobody is due any more: only the count and the turn go on
  pub jumps_all : {r : Core} → left ≤ d → Does k (passing turns left) r → Does k₀ (ticks turns n) r
  jumps_all l f s h =
      let i = T.on s h in
      f i.state i.stands ∙ ap core_of (jump_all turns i.state d left (counts i.state i.stands) (by_rule i.state i.stands) (until i.state i.stands) l ∙ i.goes)

  -- the line may be turned after a jump
  pub jumps_turning : {j : Core} → Does k (passing turns d) j → turns ≡ true → Turning j
  jumps_turning f q =
      turning_next (passing turns d) (T.may_turn q) f
      (λ e h U. subst Unheld (sym (jump_all turns e d d (counts e h) (by_rule e h) (until e h) (omega arith))) (rw q (ticks_unheld d e U)))

  -- somebody is due: the tick after the jump is a plain one
  pub jumps_on : {j r : Core} → Does k (passing turns d) j → Does j (λ e. turned_if turns (one_tick e)) r → (m : ℕ) → left ≡ d + 1 + m → Ticking turns k₀ n r m
  jumps_on f g m l = record {
    on = λ s h.
        let i = T.on s h in
        let e = i.state in
        let after = turned_if turns (one_tick (passing turns d e)) in
        record { state = after; stands = g (passing turns d e) (f e i.stands); goes = jump_tick turns e after d left m (counts e i.stands) (by_rule e i.stands) (until e i.stands) l refl ∙ i.goes };
    reckons = reckons_next (λ e. turned_if turns (one_tick e)) (jumps_reckons f) g (λ e h S. tick_settled turns e S);
    may_turn = λ q. turning_next (λ e. turned_if turns (one_tick e)) (jumps_turning f q) g (λ e h U. rw q (tick_unheld e U));
  }

pub none_left : {turns : Bool} {k₀ : Core} {n : ℕ} {k : Core} {left : ℕ} → Ticking turns k₀ n k left → left ≡ 0 → Does k₀ (ticks turns n) k
unfolding ticks up_to
none_left {turns} T z s h =
    let i = T.on s h in
    i.stands ∙ ap core_of (ap (λ (m : ℕ). ticks turns m i.state) (sym z) ∙ i.goes)
