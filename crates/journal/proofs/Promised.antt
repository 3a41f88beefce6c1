-- The reader keeps its promise, which leaves no second answer: the line of a call is read as the call, and nothing else is.
use Prim.Native.Nat.{ℕ, ◌+◌, ◌<◌, ◌≤◌}
use mathlib.Core.Path.{◌≡◌, refl, sym, ap, ◌∙◌}
use mathlib.Core.Logic.{inl, inr}
use mathlib.Core.Bool.{Bool, true, false, ◌&&◌, false≢true}
use mathlib.Core.List.{List, [], ◌∷◌, ◌++◌, append_assoc}
use native.Mathlib.Omega.{arith}
use lib.ListN.{length, take, drop, length-append, length-take, length-drop}
use lib.Seq.{sets, length-sets, sets-eq, take_at, drop_at}
use Rattle.lists.proofs.Bools.{and_left, and_right}
use Rattle.std.specs.Prelude.{is_ok}
use Rattle.calls.specs.Table.{call_of}
use Rattle.calls.specs.Words.{fields_of, numbers_in, Small, no_words, frame_of, shape_of}
use Rattle.calls.proofs.CallAgain.{known_below, row_numbers, shape_small, words_kept, call_again, frame_five}
use Rattle.fields.specs.Decimal.{dec}
use Rattle.fields.specs.Texts.{texts}
use Rattle.fields.specs.Item.{filled}
use Rattle.fields.specs.Digit.{among}
use Rattle.fields.proofs.LinePlaces.{within}
use Rattle.fields.proofs.Stores.{sets_append}
use Rattle.journal.specs.Types.{Call, Number, Item, Read, Shape}
use Rattle.journal.specs.Line.{line_of, carries, HasLine}
use Rattle.journal.specs.Promise.{IsLine, NoLine, ReadsAs}
use Rattle.journal.specs.Writer.{tabbed, sent_text, shape_text}
use Rattle.journal.specs.Reader.{number_at, Numbers, nums, sent_at, end_of, read_as, no_call, read_end, read_sent, read_of}
use Rattle.journal.proofs.LineWords.{frame_line, row_carries, line_frame, item_frame}
use Rattle.journal.proofs.Fit.{small_append, small_take, small_drop, has_line, line_fits}
use Rattle.journal.proofs.ReadSteps.{ItemFits, tabbed_stops, sent_stops, tabbed_halts, place_front, place_whole, Listed, nums_front, nums_whole, Sent, sent_front, sent_whole, end_front}

-- ---- what is read is a line

-- the values of which the first numbers are a and then b
record Values (vs a b : List ℕ) (m k : ℕ) : Type 0 where
  first : take m vs ≡ a
  second : take k (drop m vs) ≡ b
  all : take (m + k) vs ≡ a ++ b
  five : length vs ≡ 5

in_turn : (vs a b z : List ℕ) (m k : ℕ) → length a ≡ m → length b ≡ k → length vs ≡ 5 → vs ≡ (a ++ b) ++ z → Values vs a b m k
in_turn vs a b z m k p q h e =
    let f : vs ≡ a ++ (b ++ z) = e ∙ append_assoc a b z in
    record {
      first = ap (take m) f ∙ take_at a (b ++ z) m p;
      second = ap (λ (l : List ℕ). take k (drop m l)) f ∙ ap (take k) (drop_at a (b ++ z) m p) ∙ take_at b z k q;
      all = ap (take (m + k)) e ∙ take_at (a ++ b) z (m + k) (omega (arith, length-append a b));
      five = h;
    }

values : (v a b : List ℕ) (m k : ℕ) → length v ≡ 5 → length a ≡ m → length b ≡ k → m + k ≤ 5 → Values (sets (sets v 0 a) m b) a b m k
values v a b m k o p q h =
    let n : 0 + length a ≡ m = omega arith in
    let e : sets (sets v 0 a) m b ≡ sets v 0 (a ++ b) = rw n at (sets_append a b v 0) in
    in_turn (sets (sets v 0 a) m b) a b (drop (0 + length (a ++ b)) v) m k p q (length-sets (sets v 0 a) m b ∙ length-sets v 0 a ∙ o)
    (e ∙ sets-eq (a ++ b) v 0 (omega (arith, length-append a b)))

-- the parts that were read are the call's line
module _ (l : List ℕ) (p : Number) (f r : Numbers) (i : Item) where
  abbrev s : Shape
  s = shape_of p.value

  is_line : drop 0 l ≡ dec p.value ++ drop p.next l → Listed l s.before 0 no_words p.next f → Sent l f.next s.item i
      → Listed l s.after s.before f.values i.next r → drop r.next l ≡ 10 ∷ [] → s.known ≡ true
      → IsLine l (read_as (call_of p.value r.values) i.bytes i.len)
  is_line d a b c e k =
      let n = p.value in
      let vs = r.values in
      let o : vs ≡ sets (sets no_words 0 a.ns) s.before c.ns = c.values ∙ ap (λ (q : List ℕ). sets q s.before c.ns) a.values in
      let v : Values vs a.ns c.ns s.before s.after = rw o (values no_words a.ns c.ns s.before s.after refl a.count c.count (shape_small n)) in
      let t : l ≡ dec n ++ (texts tabbed a.ns ++ (sent_text s.item b.b ++ (texts tabbed c.ns ++ (10 ∷ [])))) =
      d
      ∙ ap (λ (q : List ℕ). dec n ++ q)
      (a.front ∙ ap (λ (q : List ℕ). texts tabbed a.ns ++ q)
      (b.front ∙ ap (λ (q : List ℕ). sent_text s.item b.b ++ q) (c.front ∙ ap (λ (q : List ℕ). texts tabbed c.ns ++ q) e))) in
      let u : dec n ++ (texts tabbed a.ns ++ (sent_text s.item b.b ++ (texts tabbed c.ns ++ (10 ∷ [])))) ≡ dec n ++ shape_text s vs b.b =
      rw (v.first, v.second) in
      let w : numbers_in (fields_of (call_of n vs)) ≡ a.ns ++ c.ns = row_numbers n vs v.five ∙ v.all in
      let g : carries (call_of n vs) ≡ s.item = row_carries n vs v.five in
      record {
        call = call_of n vs;
        item = b.b;
        has = has_line (call_of n vs) b.b (rw w (small_append a.ns c.ns a.small c.small)) (rw g b.fits);
        line = t ∙ u ∙ frame_line n vs b.b v.five k;
        tells = record { answer = refl; bytes = b.bytes; len = b.len };
      }

still_left : (l : List ℕ) (j : ℕ) → drop j l ≡ 10 ∷ [] → j < length l
still_left l j e = omega (arith, length-drop j l, ap length e)

read_line : (l : List ℕ) (p : Number) (f r : Numbers) (i : Item) → p ≡ number_at l 0 → f ≡ nums l (shape_of p.value).before 0 no_words p.next
    → i ≡ sent_at l f.next (shape_of p.value).item → r ≡ nums l (shape_of p.value).after (shape_of p.value).before f.values i.next
    → (shape_of p.value).known ≡ true → end_of (drop r.next l) ≡ true → IsLine l (read_as (call_of p.value r.values) i.bytes i.len)
read_line l p f r i ep ef ei er k e =
    let s = shape_of p.value in
    let d = end_front (drop r.next l) e in
    let lr = still_left l r.next d in
    let c : Listed l s.after s.before f.values i.next r = rw er (nums_front l s.after s.before f.values i.next (rw er at lr)) in
    let li = within l i.next (texts tabbed c.ns) r.next c.front lr in
    let b : Sent l f.next s.item i = rw ei (sent_front l f.next s.item (rw ei at li)) in
    let lf = within l f.next (sent_text s.item b.b) i.next b.front li in
    let a : Listed l s.before 0 no_words p.next f = rw ef (nums_front l s.before 0 no_words p.next (rw ef at lf)) in
    let lp = within l p.next (texts tabbed a.ns) f.next a.front lf in
    let n : drop 0 l ≡ dec p.value ++ drop p.next l = rw ep (place_front l 0 (rw ep at lp)).0 in
    is_line l p f r i n a b c d k

-- ---- every line is read

-- the end of a line that was read to its newline
ended : (l : List ℕ) (n : ℕ) (s : Shape) (i : Item) (r : Numbers) (vs b : List ℕ) → s.known ≡ true → drop r.next l ≡ 10 ∷ []
    → r.values ≡ vs → i.bytes ≡ filled b → i.len ≡ length b → read_end l n s i r ≡ read_as (call_of n vs) (filled b) (length b)
ended l n s i r vs b k e v x y =
    let t : read_end l n s i r ≡ read_as (call_of n r.values) i.bytes i.len = rw (k, e) in
    t
    ∙ ap (λ (q : List ℕ). read_as (call_of n q) i.bytes i.len) v
    ∙ ap (λ (q : List ℕ). read_as (call_of n vs) q i.len) x
    ∙ ap (read_as (call_of n vs) (filled b)) y

module _ (l : List ℕ) (n : ℕ) (vs b : List ℕ) (h : length vs ≡ 5) (w : Small vs) (f : ItemFits (shape_of n).item b) (k : (shape_of n).known ≡ true) where
  abbrev shape : Shape
  shape = shape_of n

  abbrev firsts : List ℕ
  firsts = take shape.before vs

  abbrev lasts : List ℕ
  lasts = take shape.after (drop shape.before vs)

  rest_read : (at : ℕ) → drop at l ≡ shape_text shape vs b → read_sent l n shape (nums l shape.before 0 no_words at) ≡ read_as (call_of n (words_kept shape vs)) (filled b) (length b)
  unfolding among
  rest_read at e =
      let m = shape_small n in
      let c : length firsts ≡ shape.before = length-take shape.before vs ∙ omega arith in
      let d : length lasts ≡ shape.after = length-take shape.after (drop shape.before vs) ∙ omega (arith, length-drop shape.before vs) in
      let tail : List ℕ = texts tabbed lasts ++ (10 ∷ []) in
      let p = nums l shape.before 0 no_words at in
      let stops = sent_stops shape.item b tail (tabbed_stops lasts (10 ∷ []) refl) in
      let a = nums_whole l shape.before firsts 0 no_words at (sent_text shape.item b ++ tail) c e (small_take shape.before vs w) stops in
      let i = sent_at l p.next shape.item in
      let g = sent_whole l p.next shape.item b tail a.1 f (tabbed_halts lasts) in
      let small = small_take shape.after (drop shape.before vs) (small_drop shape.before vs w) in
      let z = nums_whole l shape.after lasts shape.before p.values i.next (10 ∷ []) d g.2 small refl in
      ended l n shape i (nums l shape.after shape.before p.values i.next) (words_kept shape vs) b k z.1
      (z.0 ∙ ap (λ (q : List ℕ). sets q shape.before lasts) a.0) g.0 g.1

  frame_read : n ≤ 4294967295 → l ≡ dec n ++ shape_text shape vs b → read_of l ≡ read_as (call_of n (words_kept shape vs)) (filled b) (length b)
  unfolding read_of among
  frame_read u e =
      let p = place_whole l 0 n (shape_text shape vs b) e u (tabbed_stops firsts _ (sent_stops shape.item b _ (tabbed_stops lasts (10 ∷ []) refl))) in
      ap (λ (m : ℕ). read_sent l m (shape_of m) (nums l (shape_of m).before 0 no_words (number_at l 0).next)) p.0
      ∙ rest_read (number_at l 0).next p.1

-- ---- the promise

-- the round trip: the line of a call with its item is read as the call and the item
pub line_read : (c : Call) (b : List ℕ) → HasLine c b → read_of (line_of c b) ≡ read_as c (filled b) (length b)
line_read c b h =
    let n = (frame_of c).number in
    let vs = (frame_of c).words in
    let g = call_again c in
    let f = line_fits c b h in
    frame_read (line_of c b) n vs b (frame_five c) f.0 (rw (item_frame c) at f.1) g.known (omega (arith, known_below n g.known)) (line_frame c b)
    ∙ ap (λ (d : Call). read_as d (filled b) (length b)) g.read

said_not_none : (c : Call) (b : List ℕ) → read_as c (filled b) (length b) ≡ no_call → ⊥
unfolding no_call
said_not_none c b e =
    false≢true (sym (ap (λ (r : Read). is_ok r.answer) e))

no_line : (l : List ℕ) → read_of l ≡ no_call → NoLine l (read_of l)
unfolding no_call
no_line l e = record {
  none = λ c b h k. said_not_none c b (sym (line_read c b h) ∙ ap read_of (sym k) ∙ e);
  tells = rw e record { answer = refl; bytes = refl; len = refl };
}

pub reads_as : (l : List ℕ) → ReadsAs l (read_of l)
unfolding read_of
reads_as l = go (s.known && end_of (drop r.next l)) refl (no_line l)
  where
    p : Number
    p = number_at l 0

    s : Shape
    s = shape_of p.value

    f : Numbers
    f = nums l s.before 0 no_words p.next

    i : Item
    i = sent_at l f.next s.item

    r : Numbers
    r = nums l s.after s.before f.values i.next

    go : (t : Bool) → (s.known && end_of (drop r.next l)) ≡ t → (read_of l ≡ no_call → NoLine l (read_of l)) → ReadsAs l (read_of l)
    go true e none =
        let k = and_left s.known (end_of (drop r.next l)) e in
        let d = and_right s.known (end_of (drop r.next l)) e in
        rw e (inl (read_line l p f r i refl refl refl refl k d))
    go false e none = inr (none (rw e refl))
