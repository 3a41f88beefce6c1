-- However the input is cut into blocks, and however many bytes are lent for the answers: nothing is lost, and the session takes the same way.
use Prim.Native.Nat.{ℕ, suc, ◌+◌, ◌≤◌}
use mathlib.Core.Path.{◌≡◌, refl, sym, ap, subst, ◌∙◌}
use mathlib.Core.Bool.{Bool, true, false}
use mathlib.Core.List.{List, [], ◌∷◌, ◌++◌, append-nil, append_assoc}
use native.Mathlib.Omega.{arith}
use lib.Dec.{eqb}
use lib.ListN.{length, take, drop, take-append-drop}
use Rattle.lists.proofs.Loops.{fold_append}
use Rattle.lists.specs.Lists.{foldl}
use Rattle.rules.specs.State.{State}
use Rattle.cuts.specs.declared.Cut.{Cut}
use Rattle.rules.specs.Sessions.{Run, begun, fed, no_room, run}
use Rattle.promises.specs.Turns.{Turn, Pause, goes_on, paused, handed_in, after_turn, after_turns, came_in, in_one, Through}

-- r, and then what q took and answered from where r stood
abbrev pub beyond : Run → Run → Run
beyond r q = record { taken = r.taken + q.taken; kernel = q.kernel; store = q.store; cut = q.cut; answers = r.answers ++ q.answers }

same_run : (k : State) (s : List ℕ) (c : Cut) {m n : ℕ} {a b : List ℕ} → m ≡ n → a ≡ b
    → ◌≡◌ {A = Run} record { taken = m; kernel = k; store = s; cut = c; answers = a } record { taken = n; kernel = k; store = s; cut = c; answers = b }
same_run k s c p q = λ i. record { taken = p i; kernel = k; store = s; cut = c; answers = q i }

-- what a byte does, it does whatever was taken and answered before
past_fed : (r q : Run) (b : ℕ) → fed (beyond r q) b ≡ beyond r (fed q b)
unfolding fed
past_fed r q b = go (eqb b 10) refl
  where
    more : r.taken + q.taken + 1 ≡ r.taken + (q.taken + 1)
    more = omega arith

    go : (t : Bool) → eqb b 10 ≡ t → fed (beyond r q) b ≡ beyond r (fed q b)
    go true e = rw e (same_run _ _ _ more (append_assoc r.answers q.answers _))
    go false e = rw e (same_run _ _ _ more refl)

past_all : (r q : Run) (l : List ℕ) → foldl fed (beyond r q) l ≡ beyond r (foldl fed q l)
unfolding foldl
past_all r q [] = refl
past_all r q (b ∷ l) = ap (λ (z : Run). foldl fed z l) (past_fed r q b) ∙ past_all r (fed q b) l

-- from a session under way on, or from a block that begins there
pub from_here : (r : Run) (l : List ℕ) → foldl fed r l ≡ beyond r (foldl fed (begun r.kernel r.store r.cut) l)
from_here r l =
    let none : r.taken ≡ r.taken + 0 = omega arith in
    ap (λ (z : Run). foldl fed z l) (same_run r.kernel r.store r.cut none (sym (append-nil r.answers)))
    ∙ past_all r (begun r.kernel r.store r.cut) l

-- ---- a block: its first bytes are taken

pub record Front (r : Run) (l : List ℕ) (q : Run) : Type 0 where
  pub count : ℕ
  pub within : count ≤ length l
  pub taken : q.taken ≡ r.taken + count
  pub fold : q ≡ foldl fed r (take count l)

pub fed_taken : (r : Run) (b : ℕ) → (fed r b).taken ≡ r.taken + 1
unfolding fed
fed_taken r b = go (eqb b 10) refl
  where
    go : (t : Bool) → eqb b 10 ≡ t → (fed r b).taken ≡ r.taken + 1
    go true e = rw e
    go false e = rw e

pub goes_through : (n : ℕ) (r : Run) (l : List ℕ) → Front r l (run n r l)
unfolding run foldl
goes_through n r [] = record { count = 0; within = omega arith; taken = omega arith; fold = refl }
goes_through n r (b ∷ l) = go (no_room n r b) refl (goes_through n (fed r b) l)
  where
    go : (t : Bool) → no_room n r b ≡ t → Front (fed r b) l (run n (fed r b) l) → Front r (b ∷ l) (run n r (b ∷ l))
    go true e h = rw e record { count = 0; within = omega arith; taken = omega arith; fold = refl }
    go false e h = rw e record { count = suc h.count; within = omega (arith, h.within); taken = omega (arith, h.taken, fed_taken r b); fold = h.fold }

handed : (p : Pause) (n : ℕ) (l : List ℕ) → Through p l (handed_in p n l)
handed p n l =
    let f = goes_through n (goes_on p) l in
    let m = (run n (goes_on p) l).taken in
    let e : m ≡ f.count = f.taken ∙ omega arith in
    record {
      taken = take f.count l;
      nothing_lost = ap (λ (i : ℕ). take f.count l ++ drop i l) e ∙ take-append-drop f.count l;
      as_in_one = ap (λ (z : Run). paused p z (drop m l)) f.fold;
    }

-- ---- block after block

past_one : (p : Pause) (xs ys w v : List ℕ) → in_one (in_one p xs w) ys v ≡ in_one p (xs ++ ys) v
past_one p xs ys w v =
    let r = foldl fed (goes_on p) xs in
    let q = foldl fed (begun r.kernel r.store r.cut) ys in
    let e : beyond r q ≡ foldl fed (goes_on p) (xs ++ ys) = sym (fold_append fed (goes_on p) xs ys ∙ from_here r ys) in
    ap (λ (a : List ℕ). record { kernel = q.kernel; store = q.store; cut = q.cut; waits = v; answers = a }) (append_assoc p.answers r.answers q.answers)
    ∙ ap (λ (z : Run). paused p z v) e

one_turn : {p q : Pause} {input : List ℕ} → Through p input q → (t : Turn) → Through p (input ++ t.came) (after_turn q t)
unfolding after_turn
one_turn {p} {q} {input} h t =
    let g = handed q t.lent (q.waits ++ t.came) in
    let z = handed_in q t.lent (q.waits ++ t.came) in
    record {
      taken = h.taken ++ g.taken;
      nothing_lost =
          append_assoc h.taken g.taken z.waits
          ∙ ap (λ (l : List ℕ). h.taken ++ l) g.nothing_lost
          ∙ sym (append_assoc h.taken q.waits t.came)
          ∙ ap (λ (l : List ℕ). l ++ t.came) h.nothing_lost;
      as_in_one =
          g.as_in_one
          ∙ ap (λ (x : Pause). in_one x g.taken z.waits) h.as_in_one
          ∙ past_one p h.taken g.taken q.waits z.waits;
    }

all_turns : {p q : Pause} {input : List ℕ} → Through p input q → (ts : List Turn) → Through p (input ++ came_in ts) (after_turns q ts)
unfolding foldl came_in
all_turns {p} {q} {input} h [] = subst (λ (l : List ℕ). Through p l q) (sym (append-nil input)) h
all_turns {p} {q} {input} h (t ∷ ts) =
    subst (λ (l : List ℕ). Through p l (after_turns (after_turn q t) ts)) (append_assoc input t.came (came_in ts)) (all_turns {q = after_turn q t} {input = input ++ t.came} (one_turn h t) ts)

-- whatever the turns: nothing is lost, and what was taken was taken as if it had come in one
pub turns_through : (p : Pause) (ts : List Turn) → Through p (p.waits ++ came_in ts) (after_turns p ts)
unfolding foldl
turns_through p ts =
    all_turns
    record {
      taken = [];
      nothing_lost = refl;
      as_in_one = ap (λ (a : List ℕ). record { kernel = p.kernel; store = p.store; cut = p.cut; waits = p.waits; answers = a }) (sym (append-nil p.answers));
    }
    ts

-- once all is taken, the session stands where the whole input in one would have brought it
pub all_as_in_one : (p : Pause) (ts : List Turn) → (after_turns p ts).waits ≡ [] → after_turns p ts ≡ in_one p (p.waits ++ came_in ts) []
all_as_in_one p ts e =
    let h = turns_through p ts in
    let all : h.taken ≡ p.waits ++ came_in ts = sym (append-nil h.taken) ∙ ap (λ (l : List ℕ). h.taken ++ l) (sym e) ∙ h.nothing_lost in
    h.as_in_one ∙ ap (λ (l : List ℕ). in_one p h.taken l) e ∙ ap (λ (l : List ℕ). in_one p l []) all

-- however the same input is cut into blocks, and however many bytes are lent for each: kernel, store, cut line and answers are the same
pub blocks_do_not_matter : (p : Pause) (ts us : List Turn) → came_in ts ≡ came_in us → (after_turns p ts).waits ≡ [] → (after_turns p us).waits ≡ [] → after_turns p ts ≡ after_turns p us
blocks_do_not_matter p ts us e f g =
    all_as_in_one p ts f ∙ ap (λ (l : List ℕ). in_one p (p.waits ++ l) []) e ∙ sym (all_as_in_one p us g)
