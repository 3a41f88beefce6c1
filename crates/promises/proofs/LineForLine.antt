-- A session answers line for line: whatever the blocks, it writes what the lines of its input are answered.
use Prim.Native.Nat.{ℕ, suc, ◌+◌, ◌<◌, ◌≤◌, min}
use mathlib.Core.Path.{◌≡◌, refl, sym, ap, ◌∙◌}
use mathlib.Core.Bool.{Bool, true, false}
use mathlib.Core.List.{List, [], ◌∷◌, ◌++◌, append-nil, append_assoc, flatten}
use native.Mathlib.Omega.{arith}
use lib.Dec.{eqb, ltb}
use lib.ListN.{length, take, set, replicate, length-append, length-set}
use lib.Seq.{append_snoc, take-suc-set}
use borrow.Author.Tests.{ltb-true, ltb-false, lt-ltb, le-ltb, eqb-false, eq-eqb, ne_eqb}
use Rattle.std.proofs.Common.{if◌then◌else◌}
use Rattle.lists.specs.Lists.{foldl, index}
use Rattle.journal.specs.Reader.{read_of, no_call}
use Rattle.journal.proofs.Newlines.{Clear, Ended, one_clear, clear_append, ended_append}
use Rattle.cuts.specs.declared.Cut.{Cut}
use Rattle.cuts.specs.Keeping.{no_byte, with_byte, ended, is_blank}
use Rattle.rules.specs.State.{State}
use Rattle.rules.specs.Tables.{fresh}
use Rattle.rules.specs.Sessions.{Run, no_line, line_step, read_cut, step_read, told, read_line, step_of_line, answered_by, fed, begun, closed}
use Rattle.rules.specs.Steps.{Stepped, turned_away}
use Rattle.rules.specs.Trace.{trace}
use Rattle.promises.specs.Program.{in_front, lines_of, Answered, answering, program, answers_to}
use Rattle.promises.specs.Turns.{Turn, Pause, after_turns, came_in, after_end, opened, at_start, outcome, in_one}
use Rattle.promises.proofs.AnyBlocks.{all_as_in_one}
use Rattle.promises.proofs.LineSteps.{cut_line}

-- ---- the bytes of a line so far

-- up to 256 they are kept; of more it is only known that they are more
pub record CutHolds (c : Cut) (p : List ℕ) : Type 0 where
  pub size : length c.bytes ≡ 256
  pub len : c.len ≡ min 257 (length p)
  pub bytes : length p ≤ 256 → take (length p) c.bytes ≡ p

one_more : (p : List ℕ) (b : ℕ) → length (p ++ (b ∷ [])) ≡ suc (length p)
one_more p b = omega (arith, length-append p (b ∷ []))

kept_holds : {c : Cut} {p : List ℕ} → CutHolds c p → (b : ℕ) → CutHolds (with_byte c b) (p ++ (b ∷ []))
unfolding with_byte
kept_holds {c} {p} h b = go (ltb c.len 256) refl
  where
    go : (t : Bool) → ltb c.len 256 ≡ t → CutHolds (with_byte c b) (p ++ (b ∷ []))
    go true e =
        let short : c.len < 256 = ltb-true c.len 256 e in
        let n : c.len ≡ length p = omega (arith, h.len) in
        rw e
        record {
          size = length-set c.bytes c.len b ∙ h.size;
          len = omega (arith, one_more p b);
          bytes = λ g.
              ap (λ (m : ℕ). take m (set c.bytes c.len b)) (one_more p b)
              ∙ ap (λ (m : ℕ). take (suc (length p)) (set c.bytes m b)) n
              ∙ take-suc-set c.bytes (length p) b (omega (arith, h.size))
              ∙ ap (λ (l : List ℕ). l ++ (b ∷ [])) (h.bytes (omega arith));
        }
    go false e =
        let long : 256 ≤ c.len = ltb-false c.len 256 e in
        rw e record { size = h.size; len = omega (arith, h.len, one_more p b); bytes = λ g. absurd (omega (arith, h.len, one_more p b)) }

ended_holds : {c : Cut} {p : List ℕ} → CutHolds c p → CutHolds (ended c) []
unfolding ended
ended_holds h = record { size = h.size; len = refl; bytes = λ g. refl }

-- the step of what is kept is that of the line
line_held : {c : Cut} {p : List ℕ} → CutHolds c p → (k : State) (s : List ℕ) → line_step k s c ≡ step_of_line k s p
unfolding line_step read_cut no_call read_line step_of_line
line_held {c} {p} h k s = go (ltb 256 (length p)) refl
  where
    go : (t : Bool) → ltb 256 (length p) ≡ t → line_step k s c ≡ step_of_line k s p
    go true e =
        let long : 256 < length p = ltb-true 256 (length p) e in
        rw (e, lt-ltb 256 c.len (omega (arith, h.len)))
    go false e =
        let short : length p ≤ 256 = ltb-false 256 (length p) e in
        let n : c.len ≡ length p = omega (arith, h.len) in
        rw (e, le-ltb 256 c.len (omega arith)) (ap (λ (l : List ℕ). step_read k s (read_of l)) (ap (λ (m : ℕ). take m c.bytes) n ∙ h.bytes short))

-- ---- lines

-- a line that ended is the first
pub first_line : (l m : List ℕ) → Ended l → lines_of (l ++ m) ≡ l ∷ lines_of m
unfolding lines_of index
first_line [] m e = absurd (omega arith)
first_line (x ∷ l) m e = go (eqb x 10) refl e (first_line l m)
  where
    only : (l : List ℕ) → 1 ≡ suc (length l) → (x ∷ []) ∷ lines_of (l ++ m) ≡ (x ∷ l) ∷ lines_of m
    only [] h = refl
    only (y ∷ l) h = absurd (omega arith)

    go : (t : Bool) → eqb x 10 ≡ t → Ended (x ∷ l) → (Ended l → lines_of (l ++ m) ≡ l ∷ lines_of m) → lines_of (x ∷ (l ++ m)) ≡ (x ∷ l) ∷ lines_of m
    go true q = rw q (λ h ih. only l h)
    go false q = rw q (λ h ih. ap (in_front x) (ih (omega arith)))

-- the lines one after the other are the input
pub lines_whole : (input : List ℕ) → flatten (lines_of input) ≡ input
unfolding lines_of flatten
lines_whole [] = refl
lines_whole (b ∷ input) = go (eqb b 10) refl (lines_whole input)
  where
    front : (ls : List (List ℕ)) → flatten ls ≡ input → flatten (in_front b ls) ≡ b ∷ input
    front [] h = ap (λ (l : List ℕ). b ∷ l) h
    front (l ∷ ls) h = ap (λ (l : List ℕ). b ∷ l) h

    go : (t : Bool) → eqb b 10 ≡ t → flatten (lines_of input) ≡ input → flatten (lines_of (b ∷ input)) ≡ b ∷ input
    go true e h = rw e (ap (λ (l : List ℕ). b ∷ l) h)
    go false e h = rw e (front (lines_of input) h)

-- without a newline there is one line
pub last_line : (l : List ℕ) → Clear l → 0 < length l → lines_of l ≡ l ∷ []
unfolding lines_of index
last_line [] h e = absurd (omega arith)
last_line (x ∷ l) h e = go (eqb x 10) refl h (last_line l)
  where
    rest : (l : List ℕ) → (0 < length l → lines_of l ≡ l ∷ []) → in_front x (lines_of l) ≡ (x ∷ l) ∷ []
    rest [] ih = refl
    rest (y ∷ l) ih = ap (in_front x) (ih (omega arith))

    go : (t : Bool) → eqb x 10 ≡ t → Clear (x ∷ l) → (Clear l → 0 < length l → lines_of l ≡ l ∷ []) → lines_of (x ∷ l) ≡ (x ∷ l) ∷ []
    go true q = rw q (λ h ih. absurd (omega arith))
    go false q = rw q (λ h ih. rest l (ih (omega arith)))

-- ---- bytes fed, and the end

-- answers before those of x
abbrev before : List ℕ → Answered → Answered
before a x = record { kernel = x.kernel; store = x.store; answers = a ++ x.answers }

-- a session under way ends
abbrev ending : ℕ → Run → Answered
ending n r = let q = closed n r.kernel r.store r.cut in before r.answers record { kernel = q.kernel; store = q.store; answers = q.answers }

none_cut : (n : ℕ) (r : Run) → CutHolds r.cut [] → ending n r ≡ before r.answers (answering r.kernel r.store (lines_of []))
unfolding closed answering trace foldl lines_of flatten
none_cut n r h = rw (eq-eqb r.cut.len 0 h.len)

one_cut : (n : ℕ) (r : Run) (p : List ℕ) → 256 ≤ n → 0 < length p → CutHolds r.cut p → Clear p → ending n r ≡ before r.answers (answering r.kernel r.store (lines_of p))
unfolding closed answering trace foldl flatten
one_cut n r p m e h c =
    let d = step_of_line r.kernel r.store p in
    rw (ne_eqb r.cut.len 0 (λ z. absurd (omega (arith, h.len))), le-ltb n 256 m, last_line p c e)
    (ap (λ (x : Stepped). before r.answers record { kernel = x.kernel; store = x.store; answers = told x }) (sym (cut_line r.kernel r.store p c))
    ∙ ap (λ (a : List ℕ). before r.answers record { kernel = d.kernel; store = d.store; answers = a }) (sym (append-nil (told d))))

-- what a byte does: it is kept, or it ends the line
kept_byte : (r : Run) (b : ℕ) → eqb b 10 ≡ false → fed r b ≡ record { taken = r.taken + 1; kernel = r.kernel; store = r.store; cut = with_byte r.cut b; answers = r.answers }
unfolding fed
kept_byte r b e = rw e

newline : (r : Run) (p : List ℕ) (b : ℕ) → eqb b 10 ≡ true → CutHolds r.cut p → fed r b ≡ answered_by r (with_byte r.cut b) (step_of_line r.kernel r.store (p ++ (b ∷ [])))
unfolding fed
newline r p b e h = rw e (ap (answered_by r (with_byte r.cut b)) (line_held (kept_holds h b) r.kernel r.store))

one_ended : (b : ℕ) → eqb b 10 ≡ true → Ended (b ∷ [])
unfolding index
one_ended b e = rw e

-- a line's answer, and then those of the lines after it
line_before : (k : State) (s a l : List ℕ) (ls : List (List ℕ)) → let d = step_of_line k s l in before (a ++ told d) (answering d.kernel d.store ls) ≡ before a (answering k s (l ∷ ls))
unfolding answering trace foldl flatten
line_before k s a l ls =
    let d = step_of_line k s l in
    let x = answering d.kernel d.store ls in
    ap (λ (y : List ℕ). record { kernel = x.kernel; store = x.store; answers = y }) (append_assoc a (told d) x.answers)

-- after the bytes p of a line
lines_fed : (n : ℕ) → 256 ≤ n → (input : List ℕ) (r : Run) (p : List ℕ) → CutHolds r.cut p → Clear p
    → ending n (foldl fed r input) ≡ before r.answers (answering r.kernel r.store (lines_of (p ++ input)))
unfolding foldl index
lines_fed n m [] r p h c =
    go p h c
    ∙ ap (λ (l : List ℕ). before r.answers (answering r.kernel r.store (lines_of l))) (sym (append-nil p))
  where
    go : (p : List ℕ) → CutHolds r.cut p → Clear p → ending n r ≡ before r.answers (answering r.kernel r.store (lines_of p))
    go [] h c = none_cut n r h
    go (x ∷ p) h c = one_cut n r (x ∷ p) m (omega arith) h c
lines_fed n m (b ∷ input) r p h c = go (eqb b 10) refl (lines_fed n m input)
  where
    go : (t : Bool) → eqb b 10 ≡ t
        → ((r : Run) (p : List ℕ) → CutHolds r.cut p → Clear p → ending n (foldl fed r input) ≡ before r.answers (answering r.kernel r.store (lines_of (p ++ input))))
        → ending n (foldl fed (fed r b) input) ≡ before r.answers (answering r.kernel r.store (lines_of (p ++ (b ∷ input))))
    go true e ih =
        let l = p ++ (b ∷ []) in
        let d = step_of_line r.kernel r.store l in
        let lines : l ∷ lines_of input ≡ lines_of (p ++ (b ∷ input)) = sym (first_line l input (ended_append p (b ∷ []) c (one_ended b e))) ∙ ap lines_of (append_snoc p b input) in
        ap (λ (z : Run). ending n (foldl fed z input)) (newline r p b e h)
        ∙ ih (answered_by r (with_byte r.cut b) d) [] (ended_holds (kept_holds h b)) refl
        ∙ line_before r.kernel r.store r.answers l (lines_of input)
        ∙ ap (λ (ls : List (List ℕ)). before r.answers (answering r.kernel r.store ls)) lines
    go false e ih =
        ap (λ (z : Run). ending n (foldl fed z input)) (kept_byte r b e)
        ∙ ih record { taken = r.taken + 1; kernel = r.kernel; store = r.store; cut = with_byte r.cut b; answers = r.answers }
        (p ++ (b ∷ [])) (kept_holds h b) (clear_append p (b ∷ []) c (one_clear b (eqb-false b 10 e)))
        ∙ ap (λ (l : List ℕ). before r.answers (answering r.kernel r.store (lines_of l))) (append_snoc p b input)

-- the end changes neither kernel nor store
pub closed_stays : (n : ℕ) (k : State) (s : List ℕ) (c : Cut) → ((closed n k s c).kernel ≡ k) × ((closed n k s c).store ≡ s)
unfolding closed
closed_stays n k s c = go (is_blank c) (ltb n 256)
  where
    closed_by : Bool → Bool → Run
    closed_by a b = if a then begun k s c else if b then begun k s c else record { taken = 0; kernel = k; store = s; cut = ended c; answers = told (turned_away k (no_line k s) s) }

    go : (a b : Bool) → ((closed_by a b).kernel ≡ k) × ((closed_by a b).store ≡ s)
    go true b = (refl, refl)
    go false true = (refl, refl)
    go false false = (refl, refl)

-- no byte of a line
none_held : CutHolds no_byte []
unfolding no_byte
none_held = record { size = refl; len = refl; bytes = λ g. refl }

-- fed byte by byte, and then ended
pub ended_after : (k : State) (s input : List ℕ) (n : ℕ) → 256 ≤ n → outcome (after_end (in_one (opened k s no_byte) input []) n) ≡ answering k s (lines_of input)
unfolding after_end index
ended_after k s input n h = lines_fed n h input (begun k s no_byte) [] none_held refl

-- before the end, too, kernel and store are those of the lines
pub fed_so_far : (k : State) (s input : List ℕ)
    → ((foldl fed (begun k s no_byte) input).kernel ≡ (answering k s (lines_of input)).kernel) × ((foldl fed (begun k s no_byte) input).store ≡ (answering k s (lines_of input)).store)
unfolding index
fed_so_far k s input =
    let r = foldl fed (begun k s no_byte) input in
    let e = lines_fed 256 (omega arith) input (begun k s no_byte) [] none_held refl in
    let c = closed_stays 256 r.kernel r.store r.cut in
    (sym c.0 ∙ ap (λ (x : Answered). x.kernel) e, sym c.1 ∙ ap (λ (x : Answered). x.store) e)

-- ---- the session

-- from any kernel and store, with the bytes p of a line: whatever the blocks and the bytes lent, kernel, store and answers are those of the lines
pub line_for_line : (k : State) (s : List ℕ) (c : Cut) (p : List ℕ) → CutHolds c p → Clear p → (ts : List Turn) → (after_turns (opened k s c) ts).waits ≡ [] → (n : ℕ) → 256 ≤ n
    → outcome (after_end (after_turns (opened k s c) ts) n) ≡ answering k s (lines_of (p ++ came_in ts))
unfolding after_end
line_for_line k s c p h g ts e n m =
    ap (λ (z : Pause). outcome (after_end z n)) (all_as_in_one (opened k s c) ts e) ∙ lines_fed n m (came_in ts) (begun k s c) p h g

-- with no byte of a line: kernel, store and answers are those of the lines that came
pub session_answers_lines : (k : State) (s : List ℕ) (ts : List Turn) → (after_turns (opened k s no_byte) ts).waits ≡ [] → (n : ℕ) → 256 ≤ n
    → outcome (after_end (after_turns (opened k s no_byte) ts) n) ≡ answering k s (lines_of (came_in ts))
unfolding index
session_answers_lines k s = line_for_line k s no_byte [] none_held refl

-- "The program starts from the fresh kernel and a store of zeros": a session begun so writes all that the program is to write, and no more
pub session_is_the_program : (ts : List Turn) → (after_turns at_start ts).waits ≡ [] → (n : ℕ) → 256 ≤ n → outcome (after_end (after_turns at_start ts) n) ≡ program (came_in ts)
session_is_the_program = session_answers_lines fresh (replicate 9216 0)

-- nothing for empty input
pub nothing_for_nothing : answers_to [] ≡ []
unfolding lines_of answering trace flatten
nothing_for_nothing = refl
