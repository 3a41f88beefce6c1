-- What the writers store is the line, and there is room for it.
use Prim.Native.Nat.{ℕ, ◌+◌, ◌*◌, ◌<◌, ◌≤◌}
use mathlib.Core.Path.{◌≡◌, refl, sym, ap, ◌∙◌}
use mathlib.Core.Bool.{Bool, true, false}
use mathlib.Core.List.{List, [], ◌∷◌, ◌++◌}
use native.Mathlib.Omega.{arith}
use lib.Dec.{ltb}
use lib.ListN.{length, take, drop, length-append, length-take, length-drop}
use lib.Seq.{sets-eq}
use borrow.Author.Tests.{lt-ltb, le-ltb, eq-eqb, ne_eqb}
use Rattle.std.proofs.Common.{if◌then◌else◌}
use Rattle.std.specs.Prelude.{Ok, Err}
use Rattle.calls.specs.Said.{Word, done, made, waiting, refused, Saying, said}
use Rattle.calls.specs.Words.{shape_of, frame_of}
use Rattle.calls.proofs.CallAgain.{frame_five}
use Rattle.fields.specs.Decimal.{dec}
use Rattle.fields.specs.Texts.{texts}
use Rattle.fields.specs.Wrote.{Wrote}
use Rattle.fields.proofs.Digits.{dec-length}
use Rattle.fields.proofs.Pairs.{hex-length}
use Rattle.fields.proofs.Stores.{wrote_then}
use Rattle.journal.specs.Types.{Call, Answer, TaskNo, Shape, Frame, StoreLength, WrongSize}
use Rattle.journal.specs.Line.{line_of, carries, its_item}
use Rattle.journal.specs.Reply.{word_of, reply, reply_of}
use Rattle.journal.specs.Told.{wrote}
use Rattle.journal.specs.Promise.{Writes, line_refusal, item_refusal, WritesAnswer}
use Rattle.journal.specs.Writer.{tabbed, sent_text, shape_text, frame_text}
use Rattle.journal.proofs.LineWords.{line_frame, item_frame}

-- ---- room

texts-length : (ns : List ℕ) → length (texts tabbed ns) ≤ 21 * length ns
unfolding texts
texts-length [] = omega arith
texts-length (n ∷ ns) = omega (arith, length-append (dec n) (texts tabbed ns), dec-length n, texts-length ns)

sent_length : (i : Bool) (b : List ℕ) → (i ≡ true → length b ≤ 64) → length (sent_text i b) ≤ 129
sent_length true b h = omega (arith, hex-length b, h refl)
sent_length false b h = omega arith

shape_length : (s : Shape) (vs b : List ℕ) → length vs ≡ 5 → (s.item ≡ true → length b ≤ 64) → length (shape_text s vs b) ≤ 235
shape_length s vs b h i =
    let m = take s.before vs in
    let n = take s.after (drop s.before vs) in
    let x = texts tabbed m in
    let y = sent_text s.item b in
    let z = texts tabbed n in
    let q : length m + length n ≤ 5 =
    omega (arith, length-take s.before vs, length-take s.after (drop s.before vs), length-drop s.before vs) in
    let r : length x + length z ≤ 105 = omega (arith, texts-length m, texts-length n, q) in
    omega (
      arith,
      length-append x (y ++ (z ++ (10 ∷ []))),
      length-append y (z ++ (10 ∷ [])),
      length-append z (10 ∷ []),
      sent_length s.item b i,
      r,
    )

-- "A line has at most 256 bytes with its newline"
pub line_short : (c : Call) (b : List ℕ) → (carries c ≡ true → length b ≤ 64) → length (line_of c b) ≤ 256
line_short c b h =
    let n = (frame_of c).number in
    let vs = (frame_of c).words in
    let i : (shape_of n).item ≡ true → length b ≤ 64 = λ e. h (item_frame c ∙ e) in
    let t = shape_text (shape_of n) vs b in
    rw (line_frame c b) (omega (arith, length-append (dec n) t, dec-length n, shape_length (shape_of n) vs b (frame_five c) i))

word_length : (w : Word) → length (word_of w) ≤ 4
word_length done = omega arith
word_length made = omega arith
word_length waiting = omega arith
word_length refused = omega arith

pub reply_within : (s : Saying) (t : TaskNo) → length (reply s t) ≤ 64
unfolding reply
reply_within s t =
    let w = word_of s.word in
    let m = dec s.number in
    let n = dec t.0 in
    omega (
      arith,
      length-append w (9 ∷ (m ++ (9 ∷ (n ++ (10 ∷ []))))),
      length-append m (9 ∷ (n ++ (10 ∷ []))),
      length-append n (10 ∷ []),
      word_length s.word,
      dec-length s.number,
      dec-length t.0,
    )

pub reply_short : (a : Answer) (t : TaskNo) → length (reply_of a t) ≤ 64
reply_short a t = reply_within (said a) t

-- ---- the texts, put together from what was stored in turn

pub frame_wrote : (n : ℕ) (vs b : List ℕ) (s : Shape) {l : List ℕ} {r₁ r₂ r₃ r₄ r : ℕ} {m₁ m₂ m₃ m₄ m : List ℕ} → s ≡ shape_of n
    → Wrote l 0 (dec n) r₁ m₁ → Wrote m₁ r₁ (texts tabbed (take s.before vs)) r₂ m₂ → Wrote m₂ r₂ (sent_text s.item b) r₃ m₃
    → Wrote m₃ r₃ (texts tabbed (take s.after (drop s.before vs))) r₄ m₄ → Wrote m₄ r₄ (10 ∷ []) r m → Wrote l 0 (frame_text n vs b) r m
unfolding frame_text
frame_wrote n vs b s e u v w x y = rw (← e) (wrote_then u (wrote_then v (wrote_then w (wrote_then x y))))

-- ---- the answers

pub line_refused : (n : ℕ) (text l : List ℕ) → (length l ≡ 256 → ⊥) → Writes (line_refusal l n) text l (Err StoreLength) l
line_refused n text l h = rw (ne_eqb (length l) 256 h) record { answer = refl; line = refl }

written : (text l m : List ℕ) (r : ℕ) → length l ≡ 256 → length text ≤ 256 → Wrote l 0 text r m → Writes 0 text l (Ok r) m
written text l m r h k w =
    let z : 0 + length text ≡ length text = omega arith in
    record {
      answer = ap wrote (omega (arith, w.next));
      line = w.line ∙ sets-eq text l 0 (omega arith) ∙ ap (λ (n : ℕ). text ++ drop n l) z;
    }

-- what is lent beside a call that has no item leaves no trace in its line
sent_passed : (i : Bool) (b : List ℕ) → sent_text i (if i then b else []) ≡ sent_text i b
sent_passed true b = refl
sent_passed false b = refl

passed_over : (c : Call) (b : List ℕ) → line_of c (its_item c b) ≡ line_of c b
passed_over c b =
    let n = (frame_of c).number in
    let vs = (frame_of c).words in
    let e : sent_text (shape_of n).item (its_item c b) ≡ sent_text (shape_of n).item b = rw (item_frame c) (sent_passed (shape_of n).item b) in
    line_frame c (its_item c b) ∙ rw e (sym (line_frame c b))

-- what the code tested is that the call's item is too long
module _ (c : Call) (b l : List ℕ) (h : length l ≡ 256) (f : Frame) (s : Shape) (ef : f ≡ frame_of c) (es : s ≡ shape_of f.number) where
  carried : carries c ≡ s.item
  carried = rw (es, ef) (item_frame c)

  pub item_refused : s.item ≡ true → 64 < length b → Writes (line_refusal l (item_refusal (its_item c b))) (line_of c (its_item c b)) l (Err WrongSize) l
  item_refused e k =
      let t : ltb 64 (length (its_item c b)) ≡ true = rw (carried ∙ e) (lt-ltb 64 (length b) k) in
      rw (eq-eqb (length l) 256 h, t) record { answer = refl; line = refl }

  short : (s.item ≡ true → length b ≤ 64) → length (its_item c b) ≤ 64
  short k = go (carries c) refl
    where
      go : (i : Bool) → carries c ≡ i → length (if i then b else []) ≤ 64
      go true e = k (sym carried ∙ e)
      go false e = omega arith

  pub call_written : (m : List ℕ) (r : ℕ) → (s.item ≡ true → length b ≤ 64) → Wrote l 0 (frame_text f.number f.words b) r m
      → Writes (line_refusal l (item_refusal (its_item c b))) (line_of c (its_item c b)) l (Ok r) m
  unfolding frame_text
  call_written m r k w =
      let q : frame_text f.number f.words b ≡ line_of c (its_item c b) = rw ef (sym (line_frame c b)) ∙ sym (passed_over c b) in
      rw (eq-eqb (length l) 256 h, le-ltb 64 (length (its_item c b)) (short k))
      (written (line_of c (its_item c b)) l m r h (line_short c (its_item c b) (λ e. short k)) (rw q at w))

pub reply_written : (a : Answer) (t : TaskNo) (l m : List ℕ) (r : ℕ) → length l ≡ 256 → Wrote l 0 (reply_of a t) r m → WritesAnswer a t l (Ok r) m
reply_written a t l m r h w = rw (eq-eqb (length l) 256 h) (written (reply_of a t) l m r h (omega (arith, reply_short a t)) w)
