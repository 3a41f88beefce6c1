-- What follows from the promises: no second result fits, the round trip, one call to a line, of whatever call code holds, and a line's length.
use Prim.Native.Nat.{ℕ, ◌+◌, ◌<◌, ◌≤◌}
use mathlib.Core.Path.{◌≡◌, refl, sym, ap, ◌∙◌}
use mathlib.Core.Logic.{inl, inr, ⊎_elim}
use mathlib.Core.Bool.{Bool, true, false, false≢true}
use mathlib.Core.List.{List, [], ◌∷◌, ◌++◌, map}
use native.Mathlib.Omega.{arith}
use lib.ListN.{length, get_or, take, drop, replicate, length-append}
use lib.Seq.{sets, sets-eq, take_at}
use lib.Dec.{eqb, ltb}
use borrow.Author.Tests.{eqb-true, eq-eqb, le-ltb, ltb-false}
use Rattle.std.proofs.Common.{if◌then◌else◌}
use Rattle.std.specs.Prelude.{Ok, Err}
use Rattle.calls.specs.declared.refusals.Refusal.TheVariants.{Unsound, StoreLength, NoCall, OutOfRange, NamesNone, WrongSize, NotForIdle, NotWithHold, NoneFree}
use Rattle.calls.specs.declared.refusals.Refusal.TheVariants.{InUse, NotHis, HisAlready, NotSuspended, MustWait, NoDepth, NoTick, Circle, CountFull}
use Rattle.calls.specs.Refusals.{number_of}
use Rattle.calls.specs.Table.{called, call_of}
use Rattle.calls.specs.Words.{field_of, numbers_in, no_words}
use Rattle.calls.proofs.CallAgain.{call_again}
use Rattle.fields.specs.Item.{filled}
use Rattle.journal.specs.Types.{Call, Answer, TaskNo, Refusal, Read}
use Rattle.journal.specs.Line.{line_of, HasLine}
use Rattle.journal.specs.Told.{Told, tells_call, refused_with, wrote, Reading, Written, reads, writes}
use Rattle.journal.specs.Promise.{Tells, IsLine, NoLine, ReadsAs, Writes, line_refusal, item_refusal, WritesCall, WritesAnswer}
use Rattle.journal.specs.Reader.{read_as, read_of}
use Rattle.journal.proofs.Fit.{item_long}
use Rattle.journal.proofs.Promised.{line_read, reads_as}
use Rattle.journal.proofs.LineStores.{line_short}

-- ---- the answers by what they say

-- the refusal that has a number; a number that none has is not asked of
pub refusal_of : ℕ → Refusal
refusal_of n =
    get_or
    (Unsound ∷ Unsound ∷ StoreLength ∷ NoCall ∷ OutOfRange ∷ NamesNone ∷ WrongSize ∷ NotForIdle ∷ NotWithHold ∷ NoneFree ∷ InUse ∷ NotHis ∷ HisAlready ∷ NotSuspended ∷ MustWait ∷ NoDepth ∷ NoTick ∷ Circle ∷ CountFull ∷ [])
    n Unsound

pub refusal_again : (r : Refusal) → refusal_of (number_of r) ≡ r
unfolding refusal_of
refusal_again Unsound = refl
refusal_again StoreLength = refl
refusal_again NoCall = refl
refusal_again OutOfRange = refl
refusal_again NamesNone = refl
refusal_again WrongSize = refl
refusal_again NotForIdle = refl
refusal_again NotWithHold = refl
refusal_again NoneFree = refl
refusal_again InUse = refl
refusal_again NotHis = refl
refusal_again HisAlready = refl
refusal_again NotSuspended = refl
refusal_again MustWait = refl
refusal_again NoDepth = refl
refusal_again NoTick = refl
refusal_again Circle = refl
refusal_again CountFull = refl

reading : Told → Reading
reading (tells_call w) = Ok (call_of w.number (sets no_words 0 (numbers_in (map field_of w.arguments))))
reading (refused_with n) = Err (refusal_of n)
reading (wrote n) = Err (refusal_of n)

reading_again : (x : Reading) → reading (reads x) ≡ x
unfolding reading
reading_again (Ok c) = ap Ok (call_again c).call
reading_again (Err r) = ap Err (refusal_again r)

pub one_reading : (x y : Reading) → reads x ≡ reads y → x ≡ y
one_reading x y e = sym (reading_again x) ∙ ap reading e ∙ reading_again y

written : Told → Written
written (tells_call w) = Ok 0
written (refused_with n) = Err (refusal_of n)
written (wrote n) = Ok n

written_again : (x : Written) → written (writes x) ≡ x
unfolding written
written_again (Ok n) = refl
written_again (Err r) = ap Err (refusal_again r)

pub one_written : (x y : Written) → writes x ≡ writes y → x ≡ y
one_written x y e = sym (written_again x) ∙ ap written e ∙ written_again y

-- ---- no second result

abbrev made : Reading → List ℕ → ℕ → Read
made x b n = record { answer = x; item = b; len = n }

tells_one : (r s : Read) (t : Told) (b : List ℕ) → Tells r t b → Tells s t b → r ≡ s
tells_one r s t b f g =
    ap (λ (x : Reading). made x r.item r.len) (one_reading r.answer s.answer (f.answer ∙ sym g.answer))
    ∙ ap (λ (x : List ℕ). made s.answer x r.len) (f.bytes ∙ sym g.bytes)
    ∙ ap (made s.answer s.item) (f.len ∙ sym g.len)

-- the reader's promise gives the one answer that the steps compute
pub read_is : (l : List ℕ) (r : Read) → ReadsAs l r → r ≡ read_of l
read_is l r (inl f) =
    tells_one r (read_as f.call (filled f.item) (length f.item)) (tells_call (called f.call)) f.item f.tells record { answer = refl; bytes = refl; len = refl }
    ∙ sym (line_read f.call f.item f.has)
    ∙ ap read_of (sym f.line)
read_is l r (inr f) =
    ⊎_elim (λ (g : IsLine l (read_of l)). absurd (f.none g.call g.item g.has g.line))
    (λ (g : NoLine l (read_of l)). tells_one r (read_of l) (refused_with 3) [] f.tells g.tells)
    (reads_as l)

pub no_second_reading : (l : List ℕ) (r s : Read) → ReadsAs l r → ReadsAs l s → r ≡ s
no_second_reading l r s f g = read_is l r f ∙ sym (read_is l s g)

no_second : (n : ℕ) (text l : List ℕ) (w v : Written) (m k : List ℕ) → Writes n text l w m → Writes n text l v k → (w ≡ v) × (m ≡ k)
no_second n text l w v m k f g = (one_written w v (f.answer ∙ sym g.answer), f.line ∙ sym g.line)

pub no_second_call : (c : Call) (b l : List ℕ) (w v : Written) (m k : List ℕ) → WritesCall c b l w m → WritesCall c b l v k → (w ≡ v) × (m ≡ k)
no_second_call c b l w v m k f g = no_second _ _ l w v m k f.written g.written

pub no_second_answer : (a : Answer) (t : TaskNo) (l : List ℕ) (w v : Written) (m k : List ℕ) → WritesAnswer a t l w m → WritesAnswer a t l v k → (w ≡ v) × (m ≡ k)
no_second_answer a t l = no_second _ _ l

-- ---- the round trip

-- reading the line of a call gives the call and its item
pub round_trip : (c : Call) (b : List ℕ) (r : Read) → HasLine c b → ReadsAs (line_of c b) r → Tells r (tells_call (called c)) b
round_trip c b r h f = rw (read_is (line_of c b) r f ∙ line_read c b h) record { answer = refl; bytes = refl; len = refl }

taken_back : (z b : List ℕ) → length b ≤ length z → take (length b) (sets z 0 b) ≡ b
taken_back z b h = ap (take (length b)) (sets-eq b z 0 (omega arith)) ∙ take_at b (drop (0 + length b) z) (length b) refl

-- the item is the first bytes of what was read
pub told_item : (r : Read) (t : Told) (b : List ℕ) → Tells r t b → length b ≤ 64 → take r.len r.item ≡ b
told_item r t b f h = rw (f.len, f.bytes) (taken_back (replicate 64 0) b h)

pub len_within : (l : List ℕ) (r : Read) → ReadsAs l r → r.len ≤ 64
len_within l r (inl f) = omega (arith, f.tells.len, item_long f.call f.item f.has)
len_within l r (inr f) = omega (arith, f.tells.len)

same_call : (c d : Call) → ◌≡◌ {A = Reading} (Ok c) (Ok d) → c ≡ d
same_call c d e = ap back e
  where
    back : Reading → Call
    back (Ok x) = x
    back (Err r) = c

-- no two calls have one line
pub one_call : (c d : Call) (a b : List ℕ) → HasLine c a → HasLine d b → line_of c a ≡ line_of d b → (c ≡ d) × (a ≡ b)
one_call c d a b h k e =
    let r : read_as c (filled a) (length a) ≡ read_as d (filled b) (length b) = sym (line_read c a h) ∙ ap read_of e ∙ line_read d b k in
    let n : length a ≡ length b = ap (λ (x : Read). x.len) r in
    let f : filled a ≡ filled b = ap (λ (x : Read). x.item) r in
    let g : ◌≡◌ {A = Reading} (Ok c) (Ok d) = ap (λ (x : Read). x.answer) r in (
      same_call c d g,
      sym (taken_back (replicate 64 0) a (item_long c a h))
          ∙ ap (λ (m : ℕ). take m (filled a)) n
          ∙ ap (take (length b)) f
          ∙ taken_back (replicate 64 0) b (item_long d b k),
    )

-- ---- a call that code holds: the writer's promise says that it has a line, so nothing is left to assume

is_call : Told → Bool
is_call (tells_call w) = true
is_call (refused_with n) = false
is_call (wrote n) = false

is_count : Told → Bool
is_count (wrote n) = true
is_count (tells_call w) = false
is_count (refused_with n) = false

number_in : Told → ℕ
number_in (wrote n) = n
number_in (tells_call w) = 0
number_in (refused_with n) = n

-- a writer that counted has refused nothing ..
pub record Counted (k : ℕ) (text l : List ℕ) (n : ℕ) (m : List ℕ) : Type 0 where
  pub none : k ≡ 0
  pub long : n ≡ length text
  pub line : m ≡ text ++ drop (length text) l

pub written_counted : (k : ℕ) (text l : List ℕ) (n : ℕ) (m : List ℕ) → Writes k text l (Ok n) m → Counted k text l n m
unfolding is_count number_in
written_counted k text l n m f = go (eqb k 0) refl f.answer f.line
  where
    go : (z : Bool) → eqb k 0 ≡ z → wrote n ≡ (if z then wrote (length text) else refused_with k) → m ≡ (if z then text ++ drop (length text) l else l)
        → Counted k text l n m
    go true e a b = record { none = eqb-true k 0 e; long = ap number_in a; line = b }
    go false e a b = absurd (false≢true (sym (ap is_count a)))

-- .. and one that refused gave the number
pub turned_away : (k : ℕ) (text l : List ℕ) (r : Refusal) (m : List ℕ) → Writes k text l (Err r) m → (eqb k 0 ≡ false) × (number_of r ≡ k)
unfolding is_count number_in
turned_away k text l r m f = go (eqb k 0) refl f.answer
  where
    go : (z : Bool) → eqb k 0 ≡ z → refused_with (number_of r) ≡ (if z then wrote (length text) else refused_with k) → (eqb k 0 ≡ false) × (number_of r ≡ k)
    go true e a = absurd (false≢true (ap is_count a))
    go false e a = (e, ap number_in a)

-- an item that is not refused has at most 64 bytes
pub within_64 : (l b : List ℕ) → line_refusal l (item_refusal b) ≡ 0 → length b ≤ 64
within_64 l b = go (eqb (length l) 256) (ltb 64 (length b)) refl
  where
    go : (x y : Bool) → ltb 64 (length b) ≡ y → ◌≡◌ {A = ℕ} (if x then (if y then 6 else 0) else 2) 0 → length b ≤ 64
    go true true t e = absurd (omega (arith, e))
    go true false t e = ltb-false 64 (length b) t
    go false y t e = absurd (omega (arith, e))

-- what was written is the call's line, and the call has it
pub record AsWritten (c : Call) (b l : List ℕ) (n : ℕ) (m : List ℕ) : Type 0 where
  pub none : line_refusal l (item_refusal b) ≡ 0
  pub has : HasLine c b
  pub front : take n m ≡ line_of c b
  pub within : n ≤ length m

pub as_written : (c : Call) (b l : List ℕ) (n : ℕ) (m : List ℕ) → WritesCall c b l (Ok n) m → AsWritten c b l n m
as_written c b l n m f =
    let t = line_of c b in
    let g = written_counted _ t l n m f.written in
    record {
      none = g.none;
      has = f.has (omega (arith, within_64 l b g.none));
      front = ap (take n) g.line ∙ take_at t (drop (length t) l) n (sym g.long);
      within = omega (arith, g.long, ap length g.line, length-append t (drop (length t) l));
    }

-- "reading it gives back the call": what the writer counted is read as the call itself and its item
pub written_reads_back : (c : Call) (b l : List ℕ) (n : ℕ) (m : List ℕ) (r : Read) → WritesCall c b l (Ok n) m → ReadsAs (take n m) r
    → (r.answer ≡ Ok c) × Tells r (tells_call (called c)) b
written_reads_back c b l n m r f g =
    let w = as_written c b l n m f in
    let t = round_trip c b r w.has (rw w.front at g) in
    (one_reading r.answer (Ok c) t.answer, t)

-- "each call whose item is at most 64 bytes has one journal line": with 256 bytes lent it is written, and never refused ..
pub always_written : (c : Call) (b l : List ℕ) (w : Written) (m : List ℕ) → length l ≡ 256 → length b ≤ 64 → WritesCall c b l w m → w ≡ Ok (length (line_of c b))
always_written c b l w m h k f = one_written w (Ok (length (line_of c b))) (rw (eq-eqb (length l) 256 h, le-ltb 64 (length b) k) at f.written.answer)

-- .. no other line is read as it ..
pub one_line : (c : Call) (b l : List ℕ) (r : Read) → ReadsAs l r → Tells r (tells_call (called c)) b → l ≡ line_of c b
unfolding is_call
one_line c b l r (inl f) t =
    let p : ◌≡◌ {A = Reading} (Ok f.call) (Ok c) = one_reading (Ok f.call) (Ok c) (sym f.tells.answer ∙ t.answer) in
    let n = item_long f.call f.item f.has in
    let h : length b ≤ 64 = omega (arith, t.len, f.tells.len) in
    let q : f.item ≡ b = sym (told_item r _ f.item f.tells n) ∙ told_item r _ b t h in
    f.line ∙ ap (λ (d : Call). line_of d f.item) (same_call f.call c p) ∙ ap (line_of c) q
one_line c b l r (inr f) t = absurd (false≢true (ap is_call (sym f.tells.answer ∙ t.answer)))

-- .. and no other call is written so
pub one_written_call : (c d : Call) (a b l k : List ℕ) (i j : ℕ) (m o : List ℕ) → WritesCall c a l (Ok i) m → WritesCall d b k (Ok j) o
    → take i m ≡ take j o → (c ≡ d) × (a ≡ b)
one_written_call c d a b l k i j m o f g e =
    let v = as_written c a l i m f in
    let w = as_written d b k j o g in
    one_call c d a b v.has w.has (sym v.front ∙ e ∙ w.front)

-- ---- a line's length

pub line_within : (c : Call) (b : List ℕ) → HasLine c b → length (line_of c b) ≤ 256
line_within c b h = line_short c b (λ e. item_long c b h)

-- "a longer line is one refusal 3"
pub long_refused : (l : List ℕ) (r : Read) → 256 < length l → ReadsAs l r → Tells r (refused_with 3) []
long_refused l r n (inl f) = absurd (omega (arith, ap length f.line, line_within f.call f.item f.has))
long_refused l r n (inr f) = f.tells
