-- The line of a call, from its words.
use Prim.Native.Nat.{ℕ}
use mathlib.Core.Path.{◌≡◌, refl, sym, ap, ◌∙◌}
use mathlib.Core.Bool.{Bool, true, false}
use mathlib.Core.List.{List, [], ◌∷◌, ◌++◌, append_assoc}
use lib.ListN.{length, take, drop}
use Rattle.lists.specs.Lists.{any, index}
use Rattle.calls.specs.Table.{call_of}
use Rattle.calls.specs.Words.{fields_of, frame_of, shape_of}
use Rattle.calls.proofs.CallAgain.{by_row, row_number, row_sent, call_again, frame_five}
use Rattle.fields.specs.Decimal.{dec}
use Rattle.fields.specs.Hex.{hex}
use Rattle.fields.specs.Texts.{texts}
use Rattle.journal.specs.Types.{Call, Shape}
use Rattle.journal.specs.Line.{fields_text, line_of, carries}
use Rattle.journal.specs.Writer.{tabbed, sent_text, shape_text}

-- the text with what comes after it, which computes in every row
abbrev tabs : List ℕ → List ℕ → List ℕ
tabs [] r = r
tabs (n ∷ ns) r = 9 ∷ (dec n ++ tabs ns r)

abbrev sent : Bool → List ℕ → List ℕ → List ℕ
sent true b r = 9 ∷ (hex b ++ r)
sent false b r = r

abbrev rest : List ℕ → List ℕ → Shape → List ℕ
rest b ws s = tabs (take s.before ws) (sent s.item b (tabs (take s.after (drop s.before ws)) (10 ∷ [])))

tabs_texts : (ns r : List ℕ) → tabs ns r ≡ texts tabbed ns ++ r
unfolding texts
tabs_texts [] r = refl
tabs_texts (n ∷ ns) r = ap (λ (l : List ℕ). 9 ∷ (dec n ++ l)) (tabs_texts ns r) ∙ ap (λ (l : List ℕ). 9 ∷ l) (sym (append_assoc (dec n) (texts tabbed ns) r))

sent_text_lem : (i : Bool) (b r : List ℕ) → sent i b r ≡ sent_text i b ++ r
sent_text_lem true b r = refl
sent_text_lem false b r = refl

rest_text : (b ws : List ℕ) (s : Shape) → rest b ws s ≡ shape_text s ws b
rest_text b ws s =
    tabs_texts (take s.before ws) _
    ∙ ap (λ (l : List ℕ). texts tabbed (take s.before ws) ++ l)
    (sent_text_lem s.item b _ ∙ ap (λ (l : List ℕ). sent_text s.item b ++ l) (tabs_texts (take s.after (drop s.before ws)) (10 ∷ [])))

row_text : (b : List ℕ) (n : ℕ) (ws : List ℕ) → length ws ≡ 5 → fields_text b (fields_of (call_of n ws)) ≡ rest b ws (shape_of n)
unfolding index any
row_text b = by_row (λ c. fields_text b (fields_of c)) (λ ws s. rest b ws s) (λ u v x y z. refl)

-- the line of a known frame is its call's
pub frame_line : (n : ℕ) (ws b : List ℕ) → length ws ≡ 5 → (shape_of n).known ≡ true
    → dec n ++ shape_text (shape_of n) ws b ≡ line_of (call_of n ws) b
unfolding line_of
frame_line n ws b h k =
    ap (λ (l : List ℕ). dec n ++ l) (sym (rest_text b ws (shape_of n)) ∙ sym (row_text b n ws h))
    ∙ ap (λ (m : ℕ). dec m ++ fields_text b (fields_of (call_of n ws))) (sym (row_number n ws k))

pub row_carries : (n : ℕ) (ws : List ℕ) → length ws ≡ 5 → carries (call_of n ws) ≡ (shape_of n).item
unfolding carries
row_carries = row_sent

-- the line of a call is the text of its frame
pub line_frame : (c : Call) (b : List ℕ)
    → line_of c b ≡ dec (frame_of c).number ++ shape_text (shape_of (frame_of c).number) (frame_of c).words b
line_frame c b =
    ap (λ (d : Call). line_of d b) (sym (call_again c).call)
    ∙ sym (frame_line (frame_of c).number (frame_of c).words b (frame_five c) (call_again c).known)

pub item_frame : (c : Call) → carries c ≡ (shape_of (frame_of c).number).item
item_frame c = ap carries (sym (call_again c).call) ∙ row_carries (frame_of c).number (frame_of c).words (frame_five c)
