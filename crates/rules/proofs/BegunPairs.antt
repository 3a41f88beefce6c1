-- Two who are due on one tick: who stands ahead in the order of those who began is made ready first, and goes first to the tail of the one order, with the effective
-- priority that it had. So it stands ahead where both have the same one, and keep it when the effective priorities are worked out, after the wakes.
use lib.ListN.{get_or}
use Prim.Native.Nat.{ℕ, zero, suc, ◌+◌, ◌<◌, ◌≤◌, max}
use mathlib.Core.Path.{◌≡◌, refl, sym, ap, ◌∙◌, subst}
use mathlib.Core.Bool.{Bool, true, false, ◌||◌, false≢true}
use mathlib.Core.List.{List, [], ◌∷◌, ◌++◌, append-nil}
use mathlib.Core.Logic.{◌⊎◌, inl, inr}
use native.Mathlib.Omega.{arith}
use lib.Dec.{eqb}
use borrow.Author.Tests.{eqb-true, eqb-false, eq-eqb, ne_eqb}
use Rattle.std.proofs.Common.{if◌then◌else◌}
use Rattle.lists.specs.Lists.{foldl, up_to, kept}
use Rattle.lists.proofs.Bools.{or_right}
use Rattle.lists.proofs.Tests.{kept_within}
use Rattle.numbers.specs.Numbers.{same_task, task}
use Rattle.order.specs.Order.{listed, without}
use Rattle.order.specs.Tidy.{count}
use Rattle.order.proofs.Counts.{count_one}
use Rattle.order.proofs.CountPassing.{count_kept}
use Rattle.order.proofs.Passing.{kept_tail, kept_not, one_number, kept_front}
use Rattle.order.proofs.Fits.{fits_listed, fits_tail, fits_head}
use Rattle.slots.specs.Places.{is_blocked, wakes_at, is_ready}
use Rattle.slots.specs.Values.{in_line, task_at, levelled}
use Rattle.rules.specs.Types.{TaskSlot, Never, At, Place, Free, Ready, Delayed, Waiting, Suspended, Spent, Task, State}
use Rattle.rules.specs.Tables.{with_tick, with_uses, with_task}
use Rattle.rules.specs.Lines.{line, has_begun, begun, is_one_of, Ahead, level, to_tail, to_head}
use Rattle.rules.specs.Sound.{no_higher}
use Rattle.rules.specs.Sentences.{Unheld}
use Rattle.rules.specs.Waits.{later, arrives}
use Rattle.rules.specs.Ticks.{woken_if_due, wakes, ReadyFirst, one_tick, turned, turned_if, ticks, counted_on}
use Rattle.rules.proofs.KeepSlot.{at_same, at_other}
use Rattle.rules.proofs.Keeps.{there_low, ready_low, apart}
use Rattle.rules.proofs.TickJumps.{passed_over, chosen_only, chosen_order, turn_only}
use Rattle.rules.proofs.KeepTicks.{due_there, ticks_unheld, tick_lowers, count_woke}
use Rattle.rules.proofs.Begun.{RoomyIn, worked_fades, slots_fade}
use Rattle.rules.proofs.BegunCalls.{due_blocked, woken_fades, tick_fades, turned_fades, still_ready, advanced_fades, wakes_fade}
use Rattle.rules.specs.Loans.{prioritized, worked_out, moved_if, relevelled, ruled, moved, Reckoned}
use Rattle.rules.proofs.LoanWorks.{worked_place, up_to_slot, worked_reckoned, worked_at, slots_later}
use Rattle.rules.proofs.KeepChosen.{sound_reckoned}
use Rattle.calls.specs.Door.{fresh_uses}

-- who is due at w is due at n exactly if n is w
pub due_at : (w n : ℕ) (p : Place) → wakes_at w p ≡ true → wakes_at n p ≡ eqb w n
due_at w n Free e = absurd (false≢true e)
due_at w n Ready e = absurd (false≢true e)
due_at w n (Delayed v) e = rw (eqb-true v w e)
due_at w n (Waiting o Never) e = absurd (false≢true e)
due_at w n (Waiting o (At v)) e = rw (eqb-true v w e)
due_at w n Suspended e = absurd (false≢true e)
due_at w n Spent e = absurd (false≢true e)

-- ── one wake
abbrev pub due_now : State → TaskSlot → Bool
due_now k x = wakes_at k.tick (task_at k.tasks x).place

module _ (k : State) (R : RoomyIn k) (x : TaskSlot) (e : due_now k x ≡ true) where
  low : x.0 < 16
  low = there_low k.tasks x R.many (due_there k.tick (task_at k.tasks x).place e)

  pub woken_last : listed (woken_if_due k x).order ≡ without x (listed k.order) ++ (x ∷ [])
  unfolding woken_if_due arrives to_tail
  woken_last = rw e (fits_listed (without x (listed k.order) ++ (x ∷ [])) (fits_tail x (listed k.order) R.room low))

  woken_ready : (task_at (woken_if_due k x).tasks x).place ≡ Ready
  unfolding woken_if_due arrives to_tail
  woken_ready = rw e (ap (λ (y : Task). y.place) (at_same k.tasks x _ (omega (arith, R.many, low))))

  woken_others : (v : TaskSlot) → (v.0 ≡ x.0 → ⊥) → task_at (woken_if_due k x).tasks v ≡ task_at k.tasks v
  unfolding woken_if_due arrives to_tail
  woken_others v n = rw e (at_other k.tasks x _ v n)

  woken_tick : (woken_if_due k x).tick ≡ k.tick
  unfolding woken_if_due arrives to_tail
  woken_tick = rw e

module _ (t u : TaskSlot) (differ : t.0 ≡ u.0 → ⊥) where
  abbrev pair : List TaskSlot → List TaskSlot
  pair l = kept (is_one_of t u) l

  -- ── where a task goes to the tail
  pair_tail : (x : TaskSlot) (l : List TaskSlot) → pair (without x l ++ (x ∷ [])) ≡ without x (pair l) ++ (if is_one_of t u x then x ∷ [] else [])
  pair_tail x l = kept_tail x (is_one_of t u) (is_one_of t u) (λ v n. refl) l

  not_one : (x : TaskSlot) → (x.0 ≡ t.0 → ⊥) → (x.0 ≡ u.0 → ⊥) → is_one_of t u x ≡ false
  not_one x a b = rw (ne_eqb x.0 t.0 a, ne_eqb x.0 u.0 b)

  pub other_to_tail : (x : TaskSlot) → (x.0 ≡ t.0 → ⊥) → (x.0 ≡ u.0 → ⊥) → (l : List TaskSlot) → pair (without x l ++ (x ∷ [])) ≡ pair l
  other_to_tail x a b l = pair_tail x l ∙ rw (not_one x a b, append-nil) (kept_not x (is_one_of t u) (not_one x a b) l)

  pub first_to_tail : (l : List TaskSlot) → pair l ≡ t ∷ u ∷ [] → pair (without t l ++ (t ∷ [])) ≡ u ∷ t ∷ []
  unfolding without
  first_to_tail l e = pair_tail t l ∙ rw (e, eq-eqb t.0 t.0 refl, ne_eqb u.0 t.0 (λ q. differ (sym q)))

  pub second_to_tail : (l : List TaskSlot) → pair l ≡ u ∷ t ∷ [] → pair (without u l ++ (u ∷ [])) ≡ t ∷ u ∷ []
  unfolding without
  second_to_tail l e = pair_tail u l ∙ rw (e, eq-eqb u.0 u.0 refl, ne_eqb t.0 u.0 differ, ne_eqb u.0 t.0 (λ q. differ (sym q)))

  other_to_head : (x : TaskSlot) → (x.0 ≡ t.0 → ⊥) → (x.0 ≡ u.0 → ⊥) → (l : List TaskSlot) → pair (x ∷ without x l) ≡ pair l
  other_to_head x a b l = kept_front x (is_one_of t u) (is_one_of t u) (λ v n. refl) l ∙ rw (not_one x a b) (kept_not x (is_one_of t u) (not_one x a b) l)

  -- ── the effective priorities worked out: who is not ready, or keeps its effective priority, does not move
  abbrev Unmoved : State → TaskSlot → ℕ → Type 0
  Unmoved k x eff = (is_ready (task_at k.tasks x).place ≡ false) ⊎ (level k.tasks x ≡ eff)

  levelled_pair : (k : State) → RoomyIn k → (x : TaskSlot) → x.0 < 16 → (eff : ℕ) → (x.0 ≡ t.0 → Unmoved k x eff) → (x.0 ≡ u.0 → Unmoved k x eff)
      → pair (listed (prioritized k x eff).order) ≡ pair (listed k.order)
  unfolding prioritized moved_if moved to_head to_tail
  levelled_pair k R x low eff f g = go (is_ready (task_at k.tasks x).place) refl (eqb (level k.tasks x) eff) refl (same_task x k.running)
    where
      l : List TaskSlot
      l = listed k.order

      new : State
      new = with_task k x (levelled (task_at k.tasks x) eff)

      -- a ready task whose effective priority changes is neither of the two
      neither_one : is_ready (task_at k.tasks x).place ≡ true → eqb (level k.tasks x) eff ≡ false → Unmoved k x eff → ⊥
      neither_one r c (inl n) = false≢true (sym n ∙ r)
      neither_one r c (inr n) = eqb-false (level k.tasks x) eff c n

      go : (a : Bool) → is_ready (task_at k.tasks x).place ≡ a → (b : Bool) → eqb (level k.tasks x) eff ≡ b → (c : Bool)
          → pair (listed (if a then (if b then new else (if c then to_head new x else to_tail new x)) else new).order) ≡ pair l
      go true r true e c = refl
      go true r false e true =
          rw (fits_listed (x ∷ without x l) (fits_head x l R.room low)) (other_to_head x (λ q. neither_one r e (f q)) (λ q. neither_one r e (g q)) l)
      go true r false e false =
          rw (fits_listed (without x l ++ (x ∷ [])) (fits_tail x l R.room low)) (other_to_tail x (λ q. neither_one r e (f q)) (λ q. neither_one r e (g q)) l)
      go false r b e c = refl

  module _ (k : State) (R : RoomyIn k) (ls : List ℕ) (f : Unmoved k t (get_or ls t.0 0)) (g : Unmoved k u (get_or ls u.0 0)) where
    unmoved_then : (n : ℕ) (v : TaskSlot) → Unmoved k v (get_or ls v.0 0) → n ≡ v.0 → Unmoved (up_to_slot ls k n) (task n) (get_or ls n 0)
    unmoved_then n v h e = go (subst (λ w. Unmoved k w (get_or ls w.0 0)) (one_number v (task n) (sym e)) h)
      where
        same : task_at (up_to_slot ls k n).tasks (task n) ≡ task_at k.tasks (task n)
        same = slots_later ls k n (task n) (omega arith)

        go : Unmoved k (task n) (get_or ls n 0) → Unmoved (up_to_slot ls k n) (task n) (get_or ls n 0)
        go (inl a) = inl (ap (λ (x : Task). is_ready x.place) same ∙ a)
        go (inr a) = inr (ap (λ (x : Task). x.effective) same ∙ a)

    slots_pair : (n : ℕ) → n ≤ 16 → pair (listed (up_to_slot ls k n).order) ≡ pair (listed k.order)
    unfolding up_to
    slots_pair zero h = refl
    slots_pair (suc n) h =
        levelled_pair (up_to_slot ls k n) (slots_fade ls k R n).roomy (task n) (omega arith) (get_or ls n 0) (λ e. unmoved_then n t f e) (λ e. unmoved_then n u g e)
        ∙ slots_pair n (omega arith)

  pub worked_pair : (k : State) → RoomyIn k → Unmoved k t (get_or (ruled k.tasks k.objects) t.0 0) → Unmoved k u (get_or (ruled k.tasks k.objects) u.0 0)
      → pair (listed (worked_out k).order) ≡ pair (listed k.order)
  unfolding worked_out relevelled
  worked_pair k R f g = slots_pair k R (ruled k.tasks k.objects) f g 16 (omega arith)

  -- ── neither is due: both stay as they are, and stand to each other as they stood
  record Spared (k j : State) : Type 0 where
    roomy : RoomyIn j
    tick : j.tick ≡ k.tick
    first : task_at j.tasks t ≡ task_at k.tasks t
    second : task_at j.tasks u ≡ task_at k.tasks u
    order : pair (listed j.order) ≡ pair (listed k.order)

  one_spared : (k : State) → RoomyIn k → (x : TaskSlot) → (x.0 ≡ t.0 → due_now k x ≡ false) → (x.0 ≡ u.0 → due_now k x ≡ false) → Spared k (woken_if_due k x)
  one_spared k R x f g = go (due_now k x) refl
    where
      go : (b : Bool) → due_now k x ≡ b → Spared k (woken_if_due k x)
      go false e = rw (passed_over k x e) (record { roomy = R; tick = refl; first = refl; second = refl; order = refl })
      go true e =
          let a : x.0 ≡ t.0 → ⊥ = λ q. false≢true (sym (f q) ∙ e) in
          let b : x.0 ≡ u.0 → ⊥ = λ q. false≢true (sym (g q) ∙ e) in
          record {
            roomy = (woken_fades k R x).roomy;
            tick = woken_tick k R x e;
            first = woken_others k R x e t (λ q. a (sym q));
            second = woken_others k R x e u (λ q. b (sym q));
            order = rw (woken_last k R x e) (other_to_tail x a b (listed k.order));
          }

  -- who is due before a wake that spares it is due after it
  still_due : (k j : State) (x : TaskSlot) {b : Bool} → j.tick ≡ k.tick → task_at j.tasks x ≡ task_at k.tasks x → due_now k x ≡ b → due_now j x ≡ b
  still_due k j x e f d = rw (e, f) d

  all_spared : (m : List TaskSlot) (k : State) → RoomyIn k → due_now k t ≡ false → due_now k u ≡ false → Spared k (foldl woken_if_due k m)
  unfolding foldl
  all_spared [] k R f g = record { roomy = R; tick = refl; first = refl; second = refl; order = refl }
  all_spared (x ∷ m) k R f g =
      let a = one_spared k R x (λ q. ap (due_now k) (one_number x t q) ∙ f) (λ q. ap (due_now k) (one_number x u q) ∙ g) in
      let b = all_spared m (woken_if_due k x) a.roomy (still_due k (woken_if_due k x) t a.tick a.first f) (still_due k (woken_if_due k x) u a.tick a.second g) in
      record { roomy = b.roomy; tick = b.tick ∙ a.tick; first = b.first ∙ a.first; second = b.second ∙ a.second; order = b.order ∙ a.order }

  -- ── both are ready, and t stands ahead
  pub record BothReady (j : State) : Type 0 where
    pub roomy : RoomyIn j
    pub first : (task_at j.tasks t).place ≡ Ready
    pub second : (task_at j.tasks u).place ≡ Ready
    pub ahead : Ahead t u (listed j.order)

  ready_spared : (m : List TaskSlot) (k : State) → BothReady k → BothReady (foldl woken_if_due k m)
  ready_spared m k B =
      let a = all_spared m k B.roomy (ap (wakes_at k.tick) B.first) (ap (wakes_at k.tick) B.second) in
      record {
        roomy = a.roomy;
        first = ap (λ (y : Task). y.place) a.first ∙ B.first;
        second = ap (λ (y : Task). y.place) a.second ∙ B.second;
        ahead = a.order ∙ B.ahead;
      }

  -- t is ready, and u is still due
  then_second : (m : List TaskSlot) (k : State) → RoomyIn k → (task_at k.tasks t).place ≡ Ready → due_now k u ≡ true → 1 ≤ count u.0 m → pair (listed k.order) ≡ u ∷ t ∷ []
      → BothReady (foldl woken_if_due k m)
  unfolding foldl count
  then_second [] k R f d c o = absurd (omega arith)
  then_second (x ∷ m) k R f d c o = go (eqb x.0 u.0) refl c (then_second m (woken_if_due k x))
    where
      j : State
      j = woken_if_due k x

      go : (b : Bool) → eqb x.0 u.0 ≡ b → 1 ≤ (if b then 1 else 0) + count u.0 m
          → (RoomyIn j → (task_at j.tasks t).place ≡ Ready → due_now j u ≡ true → 1 ≤ count u.0 m → pair (listed j.order) ≡ u ∷ t ∷ [] → BothReady (foldl woken_if_due j m))
          → BothReady (foldl woken_if_due j m)
      go true e n ih =
          let q : x ≡ u = one_number x u (eqb-true x.0 u.0 e) in
          let h : due_now k x ≡ true = ap (due_now k) q ∙ d in
          ready_spared m j record {
            roomy = (woken_fades k R x).roomy;
            first = ap (λ (y : Task). y.place) (woken_others k R x h t (λ z. differ (z ∙ ap (λ (v : TaskSlot). v.0) q))) ∙ f;
            second = rw (sym q) (woken_ready k R x h);
            ahead = rw (woken_last k R x h, q) (second_to_tail (listed k.order) o);
          }
      go false e n ih =
          let a = one_spared k R x (λ z. ap (wakes_at k.tick) (ap (λ v. (task_at k.tasks v).place) (one_number x t z) ∙ f)) (λ z. absurd (eqb-false x.0 u.0 e z)) in
          ih a.roomy (ap (λ (y : Task). y.place) a.first ∙ f) (still_due k j u a.tick a.second d) (omega arith) (a.order ∙ o)

  -- both are due, and t stands ahead in the list that is walked and in the order
  one_left : (m : List TaskSlot) → pair m ≡ u ∷ [] → 1 ≤ count u.0 m
  one_left m e =
      let p : is_one_of t u u ≡ true = or_right (same_task u t) (same_task u u) (eq-eqb u.0 u.0 refl) in
      let c : count u.0 (pair m) ≡ count u.0 m = count_kept (is_one_of t u) u.0 m ∙ rw p in
      let d : count u.0 (pair m) ≡ 1 = ap (count u.0) e ∙ count_one u in
      omega arith

  record Both (k : State) (m : List TaskSlot) : Type 0 where
    both : BothReady (foldl woken_if_due k m)
    order : ReadyFirst t u k m

  both_due : (m : List TaskSlot) (k : State) → RoomyIn k → due_now k t ≡ true → due_now k u ≡ true → pair m ≡ t ∷ u ∷ [] → pair (listed k.order) ≡ t ∷ u ∷ [] → Both k m
  unfolding foldl kept wakes
  both_due [] k R d e p o = absurd (let z : ◌≡◌ {A = ℕ} 0 1 = cc in omega arith)
  both_due (x ∷ m) k R d e p o = go (eqb x.0 t.0) refl (eqb x.0 u.0) refl p (both_due m (woken_if_due k x))
    where
      j : State
      j = woken_if_due k x

      go : (a : Bool) → eqb x.0 t.0 ≡ a → (b : Bool) → eqb x.0 u.0 ≡ b → (if a || b then x ∷ kept (is_one_of t u) m else kept (is_one_of t u) m) ≡ t ∷ u ∷ []
          → (RoomyIn j → due_now j t ≡ true → due_now j u ≡ true → pair m ≡ t ∷ u ∷ [] → pair (listed j.order) ≡ t ∷ u ∷ [] → Both j m)
          → Both k (x ∷ m)
      go true f b g q ih =
          let s : x ≡ t = one_number x t (eqb-true x.0 t.0 f) in
          let h : due_now k x ≡ true = ap (due_now k) s ∙ d in
          let now_ready : (task_at j.tasks t).place ≡ Ready = rw (sym s) (woken_ready k R x h) in
          let not_u : u.0 ≡ x.0 → ⊥ = λ z. differ (sym (z ∙ ap (λ (v : TaskSlot). v.0) s)) in
          let u_same : task_at j.tasks u ≡ task_at k.tasks u = woken_others k R x h u not_u in
          let left : pair m ≡ u ∷ [] = cc in
          record {
            both = then_second m j (woken_fades k R x).roomy now_ready (still_due k j u (woken_tick k R x h) u_same e) (one_left m left)
                (rw (woken_last k R x h, s) (first_to_tail (listed k.order) o));
            order = record {
              so_far = x ∷ [];
              rest = m;
              all = refl;
              ready = now_ready;
              not_yet = ap (λ (y : Task). is_blocked y.place) u_same ∙ due_blocked k.tick (task_at k.tasks u).place e;
            };
          }
      go false f true g q ih = absurd (let z : x ≡ t = cc in eqb-false x.0 t.0 f (ap (λ (v : TaskSlot). v.0) z))
      go false f false g q ih =
          let a = one_spared k R x (λ z. absurd (eqb-false x.0 t.0 f z)) (λ z. absurd (eqb-false x.0 u.0 g z)) in
          let r = ih a.roomy (still_due k j t a.tick a.first d) (still_due k j u a.tick a.second e) q (a.order ∙ o) in
          record {
            both = r.both;
            order = record { so_far = x ∷ r.order.so_far; rest = r.order.rest; all = ap (λ (l : List TaskSlot). x ∷ l) r.order.all; ready = r.order.ready; not_yet = r.order.not_yet };
          }

  -- ── those two among others that pass a test which both pass
  pub ahead_among : (q : TaskSlot → Bool) → q t ≡ true → q u ≡ true → (l : List TaskSlot) → pair (kept q l) ≡ pair l
  ahead_among q f g l = kept_within q (is_one_of t u) (λ x e. one_of x (eqb x.0 t.0) refl e) l
    where
      one_of : (x : TaskSlot) (b : Bool) → eqb x.0 t.0 ≡ b → (b || same_task x u) ≡ true → q x ≡ true
      one_of x true e h = ap q (one_number x t (eqb-true x.0 t.0 e)) ∙ f
      one_of x false e h = ap q (one_number x u (eqb-true x.0 u.0 h)) ∙ g

  pub among_begun : (ts : List Task) → has_begun ts t ≡ true → has_begun ts u ≡ true → (l : List TaskSlot) → pair (begun ts l) ≡ pair l
  unfolding begun
  among_begun ts f g l = ahead_among (has_begun ts) f g l

  -- where both stand in one line
  pub among_line : (ts : List Task) (p : ℕ) → in_line p (task_at ts t) ≡ true → in_line p (task_at ts u) ≡ true → (l : List TaskSlot) → pair (line ts p l) ≡ pair l
  unfolding line
  among_line ts p f g l = ahead_among (λ x. in_line p (task_at ts x)) f g l

  -- ── one of the two stands in a list, and the other does not
  neither : (l : List TaskSlot) → count t.0 l ≡ 0 → count u.0 l ≡ 0 → pair l ≡ []
  unfolding kept count
  neither [] a b = refl
  neither (x ∷ l) a b = go (eqb x.0 t.0) (eqb x.0 u.0) a b (neither l)
    where
      go : (f g : Bool) → (if f then 1 else 0) + count t.0 l ≡ 0 → (if g then 1 else 0) + count u.0 l ≡ 0
          → (count t.0 l ≡ 0 → count u.0 l ≡ 0 → pair l ≡ []) → (if f || g then x ∷ pair l else pair l) ≡ []
      go true g c d ih = absurd (omega arith)
      go false true c d ih = absurd (omega arith)
      go false false c d ih = ih (omega arith) (omega arith)

  pub one_alone : (l : List TaskSlot) → count t.0 l ≡ 1 → count u.0 l ≡ 0 → pair l ≡ t ∷ []
  unfolding kept count
  one_alone [] a b = absurd (omega arith)
  one_alone (x ∷ l) a b = go (eqb x.0 t.0) refl (eqb x.0 u.0) a b (one_alone l)
    where
      go : (f : Bool) → eqb x.0 t.0 ≡ f → (g : Bool) → (if f then 1 else 0) + count t.0 l ≡ 1 → (if g then 1 else 0) + count u.0 l ≡ 0
          → (count t.0 l ≡ 1 → count u.0 l ≡ 0 → pair l ≡ t ∷ []) → (if f || g then x ∷ pair l else pair l) ≡ t ∷ []
      go true e true c d ih = absurd (omega arith)
      go true e false c d ih = rw (one_number x t (eqb-true x.0 t.0 e), neither l (omega arith) (omega arith))
      go false e true c d ih = absurd (omega arith)
      go false e false c d ih = ih (omega arith) (omega arith)

  -- ── a tick
  -- both are due at w, and t stands ahead
  pub record BothDue (w : ℕ) (k : State) : Type 0 where
    pub roomy : RoomyIn k
    pub first : wakes_at w (task_at k.tasks t).place ≡ true
    pub second : wakes_at w (task_at k.tasks u).place ≡ true
    pub ahead : Ahead t u (listed k.order)

  abbrev next : State → State
  next k = with_tick k (later k.tick 1)

  tick_wakes : (w : ℕ) (k : State) → BothDue w k → later k.tick 1 ≡ w → Both (next k) (begun k.tasks (listed k.order))
  tick_wakes w k D e =
      both_due (begun k.tasks (listed k.order)) (next k) D.roomy (rw e D.first) (rw e D.second)
      (among_begun k.tasks (due_blocked w (task_at k.tasks t).place D.first) (due_blocked w (task_at k.tasks u).place D.second) (listed k.order) ∙ D.ahead)
      D.ahead

  pub tick_first : (w : ℕ) (k : State) → BothDue w k → later k.tick 1 ≡ w → ReadyFirst t u (next k) (begun k.tasks (listed k.order))
  tick_first w k D e = (tick_wakes w k D e).order

  -- from tick to tick: both are due at w, or both are ready; then t stands ahead if both have the effective priority p still
  pub record ReadyThen (p : ℕ) (k : State) : Type 0 where
    pub first : (task_at k.tasks t).place ≡ Ready
    pub second : (task_at k.tasks u).place ≡ Ready
    pub ahead : level k.tasks t ≡ p → level k.tasks u ≡ p → Ahead t u (listed k.order)

  pub record Together (p w : ℕ) (k : State) : Type 0 where
    pub roomy : RoomyIn k
    pub reckoned : Reckoned k.tasks k.objects
    -- neither has more than p
    pub first_most : level k.tasks t ≤ p
    pub second_most : level k.tasks u ≤ p
    pub so : BothDue w k ⊎ ReadyThen p k

  -- after the wakes the effective priorities are worked out
  module _ (p w : ℕ) (k : State) (T : Together p w k) (low_t : t.0 < 16) (low_u : u.0 < 16) where
    abbrev j : State
    j = counted_on k

    next_roomy : RoomyIn j
    unfolding counted_on wakes
    next_roomy = (wakes_fade (begun k.tasks (listed k.order)) (next k) T.roomy).roomy

    -- one that had at most p and has p has had it throughout
    unmoved : (v : TaskSlot) → v.0 < 16 → level k.tasks v ≤ p → level (one_tick k).tasks v ≡ p → Unmoved j v (get_or (ruled j.tasks j.objects) v.0 0)
    unfolding one_tick
    unmoved v low most e =
        let a : level (worked_out j).tasks v ≡ get_or (ruled j.tasks j.objects) v.0 0 = ap (λ (x : Task). x.effective) (worked_at j next_roomy.many v low) in
        inr (omega (arith, (count_woke k).level v, a, tick_lowers k T.roomy.many T.reckoned v low))

    ready_then : BothReady j → ReadyThen p (one_tick k)
    unfolding one_tick
    ready_then B =
        record {
          first = worked_place j t ∙ B.first;
          second = worked_place j u ∙ B.second;
          ahead = λ a b. worked_pair j next_roomy (unmoved t low_t T.first_most a) (unmoved u low_u T.second_most b) ∙ B.ahead;
        }

    still_both : Spared (next k) j → BothDue w k → BothDue w (one_tick k)
    unfolding one_tick
    still_both a D =
        record {
          roomy = (worked_fades j next_roomy).roomy;
          first = ap (wakes_at w) (worked_place j t) ∙ rw a.first D.first;
          second = ap (wakes_at w) (worked_place j u) ∙ rw a.second D.second;
          ahead = worked_pair j next_roomy (inl (blocked_unready t a.first D.first)) (inl (blocked_unready u a.second D.second)) ∙ a.order ∙ D.ahead;
        }
      where
        due_unready : (q : Place) → wakes_at w q ≡ true → is_ready q ≡ false
        due_unready Free e = refl
        due_unready Ready e = absurd (false≢true e)
        due_unready (Delayed v) e = refl
        due_unready (Waiting o v) e = refl
        due_unready Suspended e = refl
        due_unready Spent e = refl

        blocked_unready : (v : TaskSlot) → task_at j.tasks v ≡ task_at k.tasks v → wakes_at w (task_at k.tasks v).place ≡ true → is_ready (task_at j.tasks v).place ≡ false
        blocked_unready v e d = due_unready (task_at j.tasks v).place (ap (λ (x : Task). wakes_at w x.place) e ∙ d)

    spared : due_now (next k) t ≡ false → due_now (next k) u ≡ false → Spared (next k) j
    unfolding counted_on wakes
    spared f g = all_spared (begun k.tasks (listed k.order)) (next k) T.roomy f g

    woken_both : BothDue w k → later k.tick 1 ≡ w → BothReady j
    unfolding counted_on wakes
    woken_both D e = (tick_wakes w k D e).both

    -- who was ready already
    ready_again : ReadyThen p k → ReadyThen p (one_tick k)
    unfolding one_tick
    ready_again B =
        let a = spared (ap (wakes_at (next k).tick) B.first) (ap (wakes_at (next k).tick) B.second) in
        record {
          first = worked_place j t ∙ ap (λ (x : Task). x.place) a.first ∙ B.first;
          second = worked_place j u ∙ ap (λ (x : Task). x.place) a.second ∙ B.second;
          ahead = λ x y.
              worked_pair j next_roomy (unmoved t low_t T.first_most x) (unmoved u low_u T.second_most y) ∙ a.order
              ∙ B.ahead (omega (arith, T.first_most, tick_lowers k T.roomy.many T.reckoned t low_t, x)) (omega (arith, T.second_most, tick_lowers k T.roomy.many T.reckoned u low_u, y));
        }

    due_or_ready : BothDue w k ⊎ ReadyThen p k → BothDue w (one_tick k) ⊎ ReadyThen p (one_tick k)
    due_or_ready (inr B) = inr (ready_again B)
    due_or_ready (inl D) = go (eqb w (later k.tick 1)) refl
      where
        go : (b : Bool) → eqb w (later k.tick 1) ≡ b → BothDue w (one_tick k) ⊎ ReadyThen p (one_tick k)
        go true e = inr (ready_then (woken_both D (sym (eqb-true w (later k.tick 1) e))))
        go false e =
            inl (still_both (spared (due_at w (later k.tick 1) (task_at k.tasks t).place D.first ∙ e) (due_at w (later k.tick 1) (task_at k.tasks u).place D.second ∙ e)) D)

    pub tick_together : Together p w (one_tick k)
    unfolding one_tick
    tick_together =
        record {
          roomy = (worked_fades j next_roomy).roomy;
          reckoned = worked_reckoned j next_roomy.many;
          first_most = omega (arith, T.first_most, tick_lowers k T.roomy.many T.reckoned t low_t);
          second_most = omega (arith, T.second_most, tick_lowers k T.roomy.many T.reckoned u low_u);
          so = due_or_ready T.so;
        }

  pub ticks_together : (p w n : ℕ) (k : State) → Together p w k → t.0 < 16 → u.0 < 16 → Together p w (ticks false n k)
  unfolding ticks up_to
  ticks_together p w zero k T a b = T
  ticks_together p w (suc n) k T a b = tick_together p w (ticks false n k) (ticks_together p w n k T a b) a b

  -- who is due has a slot
  pub due_low : {w : ℕ} {k : State} → BothDue w k → (t.0 < 16) × (u.0 < 16)
  due_low {w} {k} D = (
    there_low k.tasks t D.roomy.many (due_there w (task_at k.tasks t).place D.first),
    there_low k.tasks u D.roomy.many (due_there w (task_at k.tasks u).place D.second),
  )

  -- both with at most the larger of their two
  pub begins_together : (w : ℕ) (k : State) → BothDue w k → Reckoned k.tasks k.objects → Together (max (level k.tasks t) (level k.tasks u)) w k
  begins_together w k D R = record { roomy = D.roomy; reckoned = R; first_most = omega arith; second_most = omega arith; so = inl D }

  -- ── the turn of the line, in which neither of them moves
  module _ (k : State) (R : RoomyIn k) (ready : (task_at k.tasks k.running).place ≡ Ready) (a : k.running.0 ≡ t.0 → ⊥) (b : k.running.0 ≡ u.0 → ⊥) where
    pub turned_pair : Ahead t u (listed k.order) → Ahead t u (listed (turned k).order)
    unfolding turned to_tail
    turned_pair h = go (no_higher k.tasks (level k.tasks k.running) (listed k.order))
      where
        go : (c : Bool) → Ahead t u (listed (if c then to_tail k k.running else k).order)
        go true =
            rw (fits_listed _ (fits_tail k.running (listed k.order) R.room (ready_low k.tasks k.running R.many ready)))
            (other_to_tail k.running a b (listed k.order) ∙ h)
        go false = h

  -- ── an advance: both are due still, as long as u has not ended
  not_running : (k : State) (v : TaskSlot) → (task_at k.tasks k.running).place ≡ Ready → has_begun k.tasks v ≡ true → k.running.0 ≡ v.0 → ⊥
  not_running k v e b q = apart k.tasks v k.running is_blocked b (ap is_blocked e) (sym q)

  due_turned : (w : ℕ) (k : State) → BothDue w k → (task_at k.tasks k.running).place ≡ Ready → BothDue w (turned_if true k)
  due_turned w k D e =
      let o = turn_only true k in
      let f = turned_fades k D.roomy e in
      let n : (v : TaskSlot) → wakes_at w (task_at k.tasks v).place ≡ true → k.running.0 ≡ v.0 → ⊥ = λ v d. not_running k v e (due_blocked w (task_at k.tasks v).place d) in
      record {
        roomy = rw ((chosen_only (turned k)).tasks, chosen_order (turned k)) f.roomy;
        first = rw o.tasks D.first;
        second = rw o.tasks D.second;
        ahead = rw (chosen_order (turned k)) (turned_pair k D.roomy e (n t D.first) (n u D.second) D.ahead);
      }

  pub ticks_due : (w n : ℕ) (k : State) → Unheld k → BothDue w k → has_begun (ticks true n k).tasks u ≡ true → BothDue w (ticks true n k)
  unfolding ticks up_to
  ticks_due w zero k U D b = D
  ticks_due w (suc n) k U D b = go (λ f. let X = ticks_due w n k U D f in (tick_together _ w j (begins_together w j X (sound_reckoned (with_uses j fresh_uses) (ticks_unheld n k U).sound)) (due_low D).0 (due_low D).1).so)
    where
      j : State
      j = ticks true n k

      now : has_begun (one_tick j).tasks u ≡ true
      now = rw (turn_only true (one_tick j)).tasks at b

      before : has_begun j.tasks u ≡ true
      before = (tick_fades j (advanced_fades n k D.roomy U).roomy).fewer u now

      either_way : {p : ℕ} → BothDue w (one_tick j) ⊎ ReadyThen p (one_tick j) → BothDue w (turned_if true (one_tick j))
      either_way (inl X) = due_turned w (one_tick j) X (still_ready j (ticks_unheld n k U).sound.running.runs.ready)
      either_way (inr B) = absurd (false≢true (sym (ap is_blocked B.second) ∙ now))

      go : {p : ℕ} → (has_begun j.tasks u ≡ true → BothDue w (one_tick j) ⊎ ReadyThen p (one_tick j)) → BothDue w (turned_if true (one_tick j))
      go f = either_way (f before)
