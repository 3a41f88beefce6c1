-- The session's code: a line's step, and the loop over the lines of a block.
use Rattle.std.proofs.Common.{◌≡◌, ℕ, ◌+◌, ◌-◌, ◌<◌, ◌≤◌, Bool, true, false, ◌&&◌, ◌||◌, eqb, ltb, ◌⊎◌, inl, inr, List, [], ◌∷◌, ◌++◌, length, take, drop, set, sym, refl, ap, ◌∙◌, subst, arith, length-append, length-set, Some, None, Ok, Err, le-ltb, lt-ltb, if◌then◌else◌}
use mathlib.Core.Bool.{false≢true}
use lib.ListN.{length-drop}
use lib.Seq.{sets-eq, take-length}
use Rattle.calls.specs.declared.Call.{Call}
use Rattle.calls.specs.declared.refusals.Refusal.{Refusal}
use Rattle.calls.specs.declared.refusals.Refusal.TheVariants.{Unsound}
use Rattle.calls.specs.Refusals.{number_of}
use Rattle.calls.specs.declared.Answer.TheVariants.{Refused as NotDone}
use Rattle.calls.specs.Behind.{asked}
use Rattle.calls.specs.Door.{task_no}
use Rattle.fields.specs.Wrote.{Wrote}
use Rattle.fields.proofs.Stores.{wrote_then, wrote_none, wrote_length}
use Rattle.journal.specs.declared.Read.{Read}
use Rattle.journal.specs.Told.{Reading}
use Rattle.journal.specs.Promise.{ReadsAs}
use Rattle.journal.specs.Reply.{reply, reply_of}
use Rattle.calls.specs.Words.{shape_of}
use Rattle.journal.specs.Reader.{no_call, read_of}
use Rattle.journal.proofs.LineStores.{reply_short}
use Rattle.journal.proofs.Theorems.{read_is, len_within}
use Rattle.cuts.specs.declared.Cut.{Cut}
use Rattle.cuts.specs.Keeping.{cut_of, with_byte, ended, is_blank, Gathered, gathered, Gathers}
use Rattle.cuts.proofs.Gathering.{gathered_newline, gathered_other, one_on, Left, left, told_newline, told_ended}
use Rattle.rules.specs.State.{State}
use Rattle.rules.specs.Sound.{sound}
use Rattle.rules.specs.Refusals.{later_row, refusal}
use Rattle.rules.specs.Steps.{Stepped, turned_away, stepped_by, step}
use Rattle.rules.specs.Sessions.{no_line_of, no_line, step_told, step_read, read_line, read_cut, line_step, Run, told, answered_by, fed, no_room, run, begun, closed}
use Rattle.rules.proofs.KeepEvery.{step_kept}
use Rattle.kernel.specs.Types.{Kernel, Uses, Step, Served}
use Rattle.kernel.specs.Stands.{kernel_of, shown, standing}
use Rattle.kernel.specs.Promises.{came, Is, SoundSteps, Ran}
use Rattle.kernel.proofs.Shown.{shown_running, shown_uses, stays_standing, next_shown}

-- ---- what a line says

-- an empty line is no call's line
empty_line : no_call ≡ read_of []
unfolding read_of shape_of
empty_line = refl

-- of n bytes all are read, or none, if they are too many
read_whole : (bytes : List ℕ) (n m : ℕ) (r : Read) → m ≡ (if ltb 256 n then 0 else n) → ReadsAs (take m bytes) r
    → (r ≡ (if ltb 256 n then no_call else read_of (take n bytes))) × (r.len ≤ 64)
read_whole bytes n m r e f = (read_is (take m bytes) r f ∙ go (ltb 256 n) e, len_within (take m bytes) r f)
  where
    go : (b : Bool) → m ≡ (if b then 0 else n) → read_of (take m bytes) ≡ (if b then no_call else read_of (take n bytes))
    go true q = ap (λ (i : ℕ). read_of (take i bytes)) q ∙ sym empty_line
    go false q = ap (λ (i : ℕ). read_of (take i bytes)) q

pub whole_cut : (bytes : List ℕ) (n m : ℕ) (r : Read) → m ≡ (if ltb 256 n then 0 else n) → ReadsAs (take m bytes) r
    → (r ≡ read_cut (cut_of bytes n)) × (r.len ≤ 64)
unfolding read_cut
whole_cut bytes n m r e f = read_whole bytes n m r e f

pub whole_line : (l : List ℕ) (m : ℕ) (r : Read) → m ≡ (if ltb 256 (length l) then 0 else length l) → ReadsAs (take m l) r
    → (r ≡ read_line l) × (r.len ≤ 64)
unfolding read_line
whole_line l m r e f =
    let h = read_whole l (length l) m r e f in
    (h.0 ∙ ap (λ (x : List ℕ). if ltb 256 (length l) then no_call else read_of x) (take-length l), h.1)

-- ---- a line's step

-- the step of a kernel by its soundness
step_by : (b : Bool) (k : State) (c : Call) (item s : List ℕ) → sound k ≡ b
    → step k c item s ≡ stepped_by (if b then later_row k (asked k.uses c) (length item) (length s) else 1) k (asked k.uses c) item s
unfolding step refusal
step_by b k c item s e = ap (λ (t : Bool). stepped_by (if t then later_row k (asked k.uses c) (length item) (length s) else 1) k (asked k.uses c) item s) e

abbrev item_of : Read → List ℕ
item_of r = take r.len r.item

no_line_lem : (k : State) (s : List ℕ) (b : Bool) → b ≡ sound k → no_line k s ≡ no_line_of b (length s)
unfolding no_line
no_line_lem k s b e = ap (λ (t : Bool). no_line_of t (length s)) (sym e)

-- what was read says t, by which the step goes
read_as : (k : Kernel) (s : List ℕ) (r : Read) (t : Reading) (d : Stepped) (q : Step) (after : List ℕ)
    → r.answer ≡ t → step_told (shown k) s t (item_of r) ≡ d → Is k d q after → Is k (step_read (shown k) s r) q after
read_as k s r t d q after e f = subst (λ (x : Stepped). Is k x q after) (sym (ap (λ (x : Reading). step_told (shown k) s x (item_of r)) e ∙ f))

-- a line that is no call's, and any line where the kernel is not sound, is turned away
module _ (k : Kernel) (s : List ℕ) (r : Read) (stands : sound (shown k) ≡ true → k ≡ kernel_of (shown k)) where
  away : (t : Reading) (n : Refusal) → r.answer ≡ t → step_told (shown k) s t (item_of r) ≡ turned_away (shown k) (number_of n) s
      → Is k (step_read (shown k) s r) (came k (Err n)) s
  away t n p q = read_as k s r t (turned_away (shown k) (number_of n) s) (came k (Err n)) s p q record { kernel = stays_standing k stands; answer = refl; store = refl }

  pub unsound_step : (c : Call) → r.answer ≡ Ok c → sound (shown k) ≡ false → Is k (step_read (shown k) s r) (came k (Err Unsound)) s
  unsound_step c p f = away (Ok c) Unsound p (step_by false (shown k) c (item_of r) s f)

  pub no_line_step : (m : Refusal) (b : Bool) (n : Refusal) → r.answer ≡ Err m → b ≡ sound (shown k) → number_of n ≡ no_line_of b (length s)
      → Is k (step_read (shown k) s r) (came k (Err n)) s
  no_line_step m b n p e q = away (Err m) n p (ap (λ (x : ℕ). turned_away (shown k) x s) (no_line_lem (shown k) s b e ∙ sym q))

-- else the step is the call's
pub sound_step : (k : Kernel) (s : List ℕ) (r : Read) (c : Call) (q : Step) (after : List ℕ) → r.answer ≡ Ok c → sound (shown k) ≡ true
    → SoundSteps k (asked k.uses c) (item_of r) s q after → Is k (step_read (shown k) s r) q after
sound_step k s r c q after p f d = read_as k s r (Ok c) _ q after p (step_by true (shown k) c (item_of r) s f)
    (subst (λ (us : Uses). SoundSteps k (asked us c) (item_of r) s q after) (sym (shown_uses k)) d)

-- a line's step leaves the kernel as sound as it was
told_keeps : (k : State) (s : List ℕ) (t : Reading) (item : List ℕ) (b : Bool) → sound k ≡ b → sound (step_told k s t item).kernel ≡ b
told_keeps k s (Err n) item b e = e
told_keeps k s (Ok c) item true e = step_kept k c item s e
told_keeps k s (Ok c) item false e = ap (λ (x : Stepped). sound x.kernel) (step_by false k c item s e) ∙ e

pub line_keeps : (k : State) (s : List ℕ) (r : Read) → sound (step_read k s r).kernel ≡ sound k
line_keeps k s r = told_keeps k s r.answer (item_of r) (sound k) refl

-- and one that is not sound as it was
told_stays : (k : State) (s : List ℕ) (t : Reading) (item : List ℕ) → sound k ≡ false → (step_told k s t item).kernel ≡ k
told_stays k s (Err n) item e = refl
told_stays k s (Ok c) item e = ap (λ (x : Stepped). x.kernel) (step_by false k c item s e)

-- ---- the run

abbrev under : ℕ → State → List ℕ → Cut → List ℕ → Run
under i k s c a = record { taken = i; kernel = k; store = s; cut = c; answers = a }

other_byte : (i : ℕ) (k : State) (s : List ℕ) (c : Cut) (a : List ℕ) (b : ℕ) → eqb b 10 ≡ false → fed (under i k s c a) b ≡ under (i + 1) k s (with_byte c b) a
unfolding fed
other_byte i k s c a b e = ap (λ (t : Bool). if t then answered_by (under i k s c a) (with_byte c b) (line_step k s (with_byte c b)) else under (i + 1) k s (with_byte c b) a) e

run_other : (n : ℕ) (r : Run) (b : ℕ) (l : List ℕ) → eqb b 10 ≡ false → run n r (b ∷ l) ≡ run n (fed r b) l
unfolding run no_room
run_other n r b l e = ap (λ (t : Bool). if t && ltb n (length r.answers + 256) then r else run n (fed r b) l) e

-- as far as the next newline nothing is answered
run-gathered : (block l : List ℕ) (n i : ℕ) (k : State) (s : List ℕ) (c : Cut) (a : List ℕ) → drop i block ≡ l
    → run n (under i k s c a) l ≡ run n (under (gathered i c l).next k s (gathered i c l).cut a) (drop (gathered i c l).next block)
unfolding gathered
run-gathered block [] n i k s c a d = ap (run n (under i k s c a)) (sym d)
run-gathered block (b ∷ l) n i k s c a d = go (eqb b 10) refl (run-gathered block l n (i + 1) k s (with_byte c b) a (one_on block l i b d))
  where
    from : Gathered → Run
    from g = run n (under g.next k s g.cut a) (drop g.next block)

    go : (t : Bool) → eqb b 10 ≡ t → run n (under (i + 1) k s (with_byte c b) a) l ≡ from (gathered (i + 1) (with_byte c b) l)
        → run n (under i k s c a) (b ∷ l) ≡ from (gathered i c (b ∷ l))
    go true e h = ap (run n (under i k s c a)) (sym d) ∙ ap from (sym (gathered_newline i c b l e))
    go false e h =
        run_other n (under i k s c a) b l e
        ∙ ap (λ (r : Run). run n r l) (other_byte i k s c a b e)
        ∙ h
        ∙ ap from (sym (gathered_other i c b l e))

-- at a newline for whose answer there is no room
run_full : (n : ℕ) (r : Run) (l : List ℕ) → n < length r.answers + 256 → run n r (10 ∷ l) ≡ r
unfolding run no_room
run_full n r l h = ap (λ (t : Bool). if t then r else run n (fed r 10) l) (lt-ltb n (length r.answers + 256) h)

-- at a newline that is answered
run_line : (n i : ℕ) (k : State) (s : List ℕ) (c : Cut) (a l : List ℕ) → length a + 256 ≤ n
    → run n (under i k s c a) (10 ∷ l) ≡ run n (answered_by (under i k s c a) (with_byte c 10) (line_step k s (with_byte c 10))) l
unfolding run no_room fed
run_line n i k s c a l h =
    ap (λ (t : Bool). if t then under i k s c a else run n (fed (under i k s c a) 10) l) (le-ltb n (length a + 256) h)

-- ---- tests

either_way : {A : Type 0} (a b : Bool) (x y : A) → (if a then x else (if b then x else y)) ≡ (if a || b then x else y)
either_way true b x y = refl
either_way false b x y = refl

-- ---- the loop over the lines of a block

-- a line's bytes stay as many as there is room for
kept_wide : (c : Cut) (b : ℕ) → length (with_byte c b).bytes ≡ length c.bytes
unfolding with_byte
kept_wide c b = go (ltb c.len 256)
  where
    go : (t : Bool) → length (if t then cut_of (set c.bytes c.len b) (c.len + 1) else cut_of c.bytes 257).bytes ≡ length c.bytes
    go true = length-set c.bytes c.len b
    go false = refl

gathered_wide : (i : ℕ) (c : Cut) (l : List ℕ) → length (gathered i c l).cut.bytes ≡ length c.bytes
unfolding gathered
gathered_wide i c [] = refl
gathered_wide i c (b ∷ l) = go (eqb b 10) (gathered_wide (i + 1) (with_byte c b) l ∙ kept_wide c b)
  where
    go : (t : Bool) → length (gathered (i + 1) (with_byte c b) l).cut.bytes ≡ length c.bytes
        → length (if t then record { next = i; cut = c; newline = true } else gathered (i + 1) (with_byte c b) l).cut.bytes ≡ length c.bytes
    go true h = refl
    go false h = h

pub keeps_wide : (c after : Cut) (b : ℕ) → length c.bytes ≡ 256 → after ≡ with_byte c b → length after.bytes ≡ 256
keeps_wide c after b w e = ap (λ (x : Cut). length x.bytes) e ∙ kept_wide c b ∙ w

-- what is left of the block, run on from here, gives the whole run; the answers so far stand in the output
pub record Going (k₀ : Kernel) (whole : Run) (lent block : List ℕ) (fine : Bool) (k : Kernel) (s : List ℕ) (c : Cut) (at written : ℕ) (out : List ℕ) : Type 0 where
  pub answers : List ℕ
  pub within : length answers ≤ length lent
  pub reached : at ≤ length block
  pub wide : length c.bytes ≡ 256
  pub wrote : Wrote lent 0 answers written out
  pub known : fine ≡ sound (shown k)
  pub same : sound (shown k) ≡ sound (shown k₀)
  pub stand : k ≡ standing k₀ (shown k)
  pub goes : run (length lent) (under at (shown k) s c answers) (drop at block) ≡ whole

pub set_out : (lent block : List ℕ) (fine : Bool) (k : Kernel) (s : List ℕ) (c : Cut) → length c.bytes ≡ 256 → fine ≡ sound (shown k) → (fine ≡ true → k ≡ kernel_of (shown k))
    → Going k (run (length lent) (begun (shown k) s c) block) lent block fine k s c 0 0 lent
set_out lent block fine k s c w e f =
    record { answers = []; within = omega arith; reached = omega arith; wide = w; wrote = wrote_none lent 0; known = e; same = refl; stand = stays_standing k (λ q. f (e ∙ q)); goes = refl }

-- the kernel value stands for a state, if it is sound
pub session_stands : {k₀ : Kernel} {whole : Run} {lent block : List ℕ} {fine : Bool} {k : Kernel} {s : List ℕ} {c : Cut} {at written : ℕ} {out : List ℕ}
    → Going k₀ whole lent block fine k s c at written out → sound (shown k) ≡ true → k ≡ kernel_of (shown k)
session_stands {k₀} {k = k} w e = w.stand ∙ ap (λ (b : Bool). if b then kernel_of (shown k) else k₀) (sym w.same ∙ e)

-- where the answers end
pub so_far : {k₀ : Kernel} {whole : Run} {lent block : List ℕ} {fine : Bool} {k : Kernel} {s : List ℕ} {c : Cut} {at written : ℕ} {out : List ℕ}
    → (w : Going k₀ whole lent block fine k s c at written out) → (written ≡ length w.answers) × (length out ≡ length lent)
so_far w = (omega (arith, w.wrote.next, w.within), wrote_length w.wrote)

-- the bytes up to where they are left
gathers_to : {k₀ : Kernel} {whole : Run} {lent block : List ℕ} {fine : Bool} {k : Kernel} {s : List ℕ} {c : Cut} {at written : ℕ} {out : List ℕ}
    → Going k₀ whole lent block fine k s c at written out
    → Going k₀ whole lent block fine k s (gathered at c (drop at block)).cut (gathered at c (drop at block)).next written out
gathers_to {lent = lent} {block = block} {k = k} {s = s} {c = c} {at = at} w = record {
  answers = w.answers;
  within = w.within;
  reached = go (gathered at c (drop at block)).newline refl;
  wide = gathered_wide at c (drop at block) ∙ w.wide;
  wrote = w.wrote;
  known = w.known;
  same = w.same;
  stand = w.stand;
  goes = sym (run-gathered block (drop at block) (length lent) at (shown k) s c w.answers refl) ∙ w.goes;
}
  where
    l : Left block at (gathered at c (drop at block))
    l = left block (drop at block) at c refl

    go : (t : Bool) → (gathered at c (drop at block)).newline ≡ t → (gathered at c (drop at block)).next ≤ length block
    go true e = omega (arith, (l.within e).1)
    go false e = omega (arith, l.last e w.reached)

-- a newline stands there
pub gathers_on : {k₀ : Kernel} {whole : Run} {lent block : List ℕ} {fine : Bool} {k : Kernel} {s : List ℕ} {c after : Cut} {at next written : ℕ} {out : List ℕ}
    → Going k₀ whole lent block fine k s c at written out → Gathers (gathered at c (drop at block)) (Ok next) after
    → Going k₀ whole lent block fine k s after next written out
gathers_on {k₀} {whole} {lent} {block} {fine} {k} {s} {written = written} {out = out} w g =
    subst (λ (x : Gathered). Going k₀ whole lent block fine k s x.cut x.next written out) (told_newline g) (gathers_to w)

-- a text that stands first in the output
first_text : {lent a : List ℕ} {next : ℕ} {out : List ℕ} → Wrote lent 0 a next out → length a ≤ length lent → (next ≡ length a) × (out ≡ a ++ drop (length a) lent)
first_text {lent} {a} w h =
    let z : 0 + length a ≡ length a = omega arith in
    (omega (arith, w.next), w.line ∙ sets-eq a lent 0 (omega arith) ∙ ap (λ (n : ℕ). a ++ drop n lent) z)

abbrev served_to : Kernel → Cut → ℕ → ℕ → Served
served_to k c taken written = record { session = record { kernel = k; cut = c }; taken = taken; written = written }

module _ {k₀ : Kernel} {whole : Run} {lent block : List ℕ} {fine : Bool} {k : Kernel} {s : List ℕ} {c : Cut} {at written : ℕ} {out : List ℕ}
    (w : Going k₀ whole lent block fine k s c at written out) where
  abbrev here : Run
  here = under at (shown k) s c w.answers

  ran : here ≡ whole → Ran (standing k₀ whole.kernel) whole lent (served_to k c at written) s out
  ran e =
      let f = first_text w.wrote w.within in
      record {
        kernel = w.stand ∙ ap (λ (x : Run). standing k₀ x.kernel) e;
        cut = ap (λ (x : Run). x.cut) e;
        taken = ap (λ (x : Run). x.taken) e;
        written = f.0 ∙ ap (λ (x : Run). length x.answers) e;
        store = ap (λ (x : Run). x.store) e;
        output = f.1 ∙ ap (λ (x : Run). x.answers ++ drop (length x.answers) lent) e;
      }

  -- the block is used up
  ended_here : drop at block ≡ [] → Ran (standing k₀ whole.kernel) whole lent (served_to k c at written) s out
  unfolding run
  ended_here none = ran (sym (ap (run (length lent) here) none) ∙ w.goes)

  -- a newline stands there, and there is no room for its answer
  pub no_room_left : drop at block ≡ 10 ∷ drop (at + 1) block → length out - written < 256 → Ran (standing k₀ whole.kernel) whole lent (served_to k c at written) s out
  no_room_left ends room =
      let full : length lent < length w.answers + 256 = omega (arith, (so_far w).0, (so_far w).1, w.within) in
      ran (sym (ap (run (length lent) here) ends ∙ run_full (length lent) here (drop (at + 1) block) full) ∙ w.goes)

  -- a line is answered
  module _ (cut : Cut) (q : Step) (after : List ℕ) (room_next : ℕ) (told_out : List ℕ)
      (keeps : cut ≡ with_byte c 10)
      (is : Is k (step_read (shown k) s (read_cut cut)) q after)
      (wrote : Wrote out written (reply_of q.answer (task_no q.kernel.uses q.kernel.core.running)) room_next told_out)
      (room : 256 ≤ length out - written) (ends : drop at block ≡ 10 ∷ drop (at + 1) block) where
    abbrev line : List ℕ
    line = reply_of q.answer (task_no q.kernel.uses q.kernel.core.running)

    abbrev now : Stepped
    now = step_read (shown k) s (read_cut cut)

    stepped : now ≡ line_step (shown k) s (with_byte c 10)
    unfolding line_step
    stepped = ap (λ (x : Cut). step_read (shown k) s (read_cut x)) keeps

    fits : length w.answers + 256 ≤ length lent
    fits = omega (arith, (so_far w).0, (so_far w).1, w.within)

    next : shown q.kernel ≡ now.kernel
    next = next_shown k now q after is (λ e. told_stays (shown k) s (read_cut cut).answer (item_of (read_cut cut)) e)

    runs : q.kernel.core.running ≡ now.kernel.running
    runs = sym (shown_running q.kernel) ∙ ap (λ (z : State). z.running) next

    used : q.kernel.uses ≡ now.kernel.uses
    used = sym (shown_uses q.kernel) ∙ ap (λ (z : State). z.uses) next

    as_sound : sound (shown q.kernel) ≡ sound (shown k)
    as_sound = ap sound next ∙ line_keeps (shown k) s (read_cut cut)

    same : answered_by here cut now ≡ under (at + 1) (shown q.kernel) after (cut_of cut.bytes 0) (w.answers ++ line)
    unfolding ended
    same = sym (λ i. record {
      taken = at + 1;
      kernel = next i;
      store = is.store i;
      cut = cut_of cut.bytes 0;
      answers = w.answers ++ reply (is.answer i) (task_no (used i) (runs i));
    })

    stand_on : q.kernel ≡ standing k₀ (shown q.kernel)
    stand_on = is.kernel ∙ go (sound (shown k)) (sound (shown k₀)) w.same w.stand ∙ ap (standing k₀) (sym next)
      where
        go : (a b : Bool) → a ≡ b → k ≡ (if b then kernel_of (shown k) else k₀) → (if a then kernel_of now.kernel else k) ≡ (if b then kernel_of now.kernel else k₀)
        go true true e f = refl
        go false false e f = f
        go true false e f = absurd (false≢true (sym e))
        go false true e f = absurd (false≢true e)

    pub answered_on : Going k₀ whole lent block fine q.kernel after (cut_of cut.bytes 0) (at + 1) room_next told_out
    answered_on = record {
      answers = w.answers ++ line;
      within = omega (arith, length-append w.answers line, reply_short q.answer (task_no q.kernel.uses q.kernel.core.running), fits);
      reached = omega (arith, ap length ends, length-drop at block);
      wide = keeps_wide c cut 10 w.wide keeps;
      wrote = wrote_then w.wrote wrote;
      known = w.known ∙ sym as_sound;
      same = as_sound ∙ w.same;
      stand = stand_on;
      goes = ap (λ (x : Run). run (length lent) x (drop (at + 1) block)) (sym same)
          ∙ ap (λ (x : Stepped). run (length lent) (answered_by here cut x) (drop (at + 1) block)) stepped
          ∙ ap (λ (x : Cut). run (length lent) (answered_by here x (line_step (shown k) s (with_byte c 10))) (drop (at + 1) block)) keeps
          ∙ sym (run_line (length lent) at (shown k) s c w.answers (drop (at + 1) block) fits)
          ∙ sym (ap (run (length lent) here) ends)
          ∙ w.goes;
    }

-- the block has ended before the next newline
pub ends_there : {k₀ : Kernel} {whole : Run} {lent block : List ℕ} {fine : Bool} {k : Kernel} {s : List ℕ} {c after : Cut} {at end written : ℕ} {out : List ℕ}
    → Going k₀ whole lent block fine k s c at written out → Gathers (gathered at c (drop at block)) (Err end) after
    → Ran (standing k₀ whole.kernel) whole lent (served_to k after end written) s out
ends_there {k₀} {whole} {lent} {block} {k = k} {s = s} {c = c} {at = at} {written = written} {out = out} w g =
    let l = left block (drop at block) at c refl in
    let e = told_ended g in
    subst (λ (x : Gathered). Ran (standing k₀ whole.kernel) whole lent (served_to k x.cut x.next written) s out) e
    (ended_here (gathers_to w) (l.none (ap (λ (x : Gathered). x.newline) e)))

-- ---- the end of the input

module _ (k : Kernel) (s : List ℕ) (c : Cut) (lent : List ℕ) where
  abbrev told_end : Run
  told_end = record { taken = 0; kernel = shown k; store = s; cut = ended c; answers = told (turned_away (shown k) (no_line (shown k) s) s) }

  -- what the end comes to, by what was tested
  closed_by : (empty b : Bool) → empty ≡ is_blank c → b ≡ (empty || ltb (length lent) 256) → closed (length lent) (shown k) s c ≡ (if b then begun (shown k) s c else told_end)
  unfolding closed
  closed_by empty b e f =
      ap (λ (t : Bool). if t then begun (shown k) s c else (if ltb (length lent) 256 then begun (shown k) s c else told_end)) (sym e)
      ∙ either_way empty (ltb (length lent) 256) (begun (shown k) s c) told_end
      ∙ ap (λ (t : Bool). if t then begun (shown k) s c else told_end) (sym f)

  -- nothing is answered
  pub none_left : (empty : Bool) → empty ≡ is_blank c → (empty ≡ true) ⊎ ((empty ≡ false) × (length lent < 256))
      → Ran k (closed (length lent) (shown k) s c) lent record { session = record { kernel = k; cut = c }; taken = 0; written = 0 } s lent
  none_left empty e g =
      subst (λ (x : Run). Ran k x lent record { session = record { kernel = k; cut = c }; taken = 0; written = 0 } s lent)
      (sym (closed_by empty _ e refl ∙ ap (λ (t : Bool). if t then begun (shown k) s c else told_end) (any g)))
      record { kernel = refl; cut = refl; taken = refl; written = refl; store = refl; output = refl }
    where
      any : (empty ≡ true) ⊎ ((empty ≡ false) × (length lent < 256)) → (empty || ltb (length lent) 256) ≡ true
      any (inl q) = rw q refl
      any (inr q) = rw (q.0, lt-ltb (length lent) 256 q.1) refl

  -- the line without a newline is answered
  pub last_told : (empty fine : Bool) (m : Refusal) (next : ℕ) (out : List ℕ) → empty ≡ is_blank c → empty ≡ false → 256 ≤ length lent
      → fine ≡ sound (shown k) → number_of m ≡ no_line_of fine (length s) → Wrote lent 0 (reply_of (NotDone (number_of m)) (task_no k.uses k.core.running)) next out
      → Ran k (closed (length lent) (shown k) s c) lent record { session = record { kernel = k; cut = cut_of c.bytes 0 }; taken = 0; written = next } s out
  unfolding ended
  last_told empty fine m next out e g room p q w =
      let no : number_of m ≡ no_line (shown k) s = q ∙ sym (no_line_lem (shown k) s fine p) in
      let x = first_text w (omega (arith, reply_short (NotDone (number_of m)) (task_no k.uses k.core.running))) in
      subst (λ (x : Run). Ran k x lent record { session = record { kernel = k; cut = cut_of c.bytes 0 }; taken = 0; written = next } s out)
      ((λ i. record { taken = 0; kernel = shown k; store = s; cut = ended c; answers = reply_of (NotDone (number_of m)) (task_no (sym (shown_uses k) i) (sym (shown_running k) i)) })
      ∙ ap (λ (j : ℕ). record { taken = 0; kernel = shown k; store = s; cut = ended c; answers = told (turned_away (shown k) j s) }) no
      ∙ sym (closed_by empty _ e refl ∙ rw (g, le-ltb (length lent) 256 room)))
      record { kernel = refl; cut = refl; taken = refl; written = x.0; store = refl; output = x.1 }
