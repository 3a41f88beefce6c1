-- A line's only newline is its last byte; so a byte after it, or no newline at all, makes a line no call's.
use Prim.Native.Nat.{ℕ, zero, suc, ◌+◌, ◌/◌, ◌%◌, ◌<◌, ◌≤◌}
use mathlib.Core.Path.{◌≡◌, refl, ap}
use mathlib.Core.Logic.{inl, inr, ⊎_elim}
use mathlib.Core.Bool.{Bool, true, false}
use mathlib.Core.List.{List, [], ◌∷◌, ◌++◌}
use native.Mathlib.Omega.{arith}
use lib.Dec.{eqb}
use lib.ListN.{length, length-append}
use borrow.Author.Tests.{lt-ltb, le-ltb, ne_eqb}
use Rattle.lists.specs.Lists.{index}
use Rattle.calls.specs.Said.{Word, done, made, waiting, refused, Saying}
use Rattle.calls.specs.Table.{called}
use Rattle.calls.specs.Words.{Field, a_number, bytes, fields_of}
use Rattle.fields.specs.Decimal.{digits, dec}
use Rattle.fields.specs.Hex.{hex_digit, hex}
use Rattle.fields.specs.Texts.{texts}
use Rattle.lists.proofs.Tests.{below_or}
use Rattle.journal.specs.Types.{Call, TaskNo, Read}
use Rattle.journal.specs.Line.{text, fields_text, line_of}
use Rattle.journal.specs.Reply.{word_of, reply}
use Rattle.journal.specs.Told.{refused_with}
use Rattle.journal.specs.Promise.{Tells, ReadsAs}

abbrev pub is_newline : ℕ → Bool
is_newline x = eqb x 10

-- no newline is among the bytes
abbrev pub Clear : List ℕ → Type 0
Clear l = index is_newline l ≡ length l

-- the last byte is the only newline
abbrev pub Ended : List ℕ → Type 0
Ended l = index is_newline l + 1 ≡ length l

-- ---- lists

clear_cons : (x : ℕ) (l : List ℕ) → (x ≡ 10 → ⊥) → Clear l → Clear (x ∷ l)
unfolding index
clear_cons x l h c = rw (ne_eqb x 10 h) (ap suc c)

clear_past : (a b : List ℕ) → Clear a → index is_newline (a ++ b) ≡ length a + index is_newline b
unfolding index
clear_past [] b c = omega arith
clear_past (x ∷ a) b c = go (eqb x 10) refl c (clear_past a b)
  where
    go : (t : Bool) → eqb x 10 ≡ t → Clear (x ∷ a) → (Clear a → index is_newline (a ++ b) ≡ length a + index is_newline b)
        → index is_newline (x ∷ (a ++ b)) ≡ suc (length a) + index is_newline b
    go true e = rw e (λ c ih. absurd (omega arith))
    go false e = rw e (λ c ih. let d : Clear a = omega arith in omega (arith, ih d))

pub clear_append : (a b : List ℕ) → Clear a → Clear b → Clear (a ++ b)
clear_append a b c d = omega (arith, clear_past a b c, length-append a b)

pub ended_append : (a b : List ℕ) → Clear a → Ended b → Ended (a ++ b)
ended_append a b c d = omega (arith, clear_past a b c, length-append a b)

ended_tab : (l : List ℕ) → Ended l → Ended (9 ∷ l)
unfolding index
ended_tab l e = omega arith

-- what follows the first newline does not matter
ended_past : (a b : List ℕ) → index is_newline a < length a → index is_newline (a ++ b) ≡ index is_newline a
unfolding index
ended_past [] b h = absurd (omega arith)
ended_past (x ∷ a) b h = go (eqb x 10) refl h (ended_past a b)
  where
    go : (t : Bool) → eqb x 10 ≡ t → index is_newline (x ∷ a) < suc (length a) → (index is_newline a < length a → index is_newline (a ++ b) ≡ index is_newline a)
        → index is_newline (x ∷ (a ++ b)) ≡ index is_newline (x ∷ a)
    go true e = rw e (λ h ih. refl)
    go false e = rw e (λ h ih. ap suc (ih (omega arith)))

-- ---- texts

pub one_clear : (x : ℕ) → (x ≡ 10 → ⊥) → Clear (x ∷ [])
unfolding index
one_clear x h = clear_cons x [] h refl

digits_clear : (k n : ℕ) → Clear (digits k n)
unfolding digits
digits_clear zero n = one_clear (48 + n % 10) (λ e. absurd (omega arith))
digits_clear (suc k) n =
    ⊎_elim (λ (a : n < 10). rw (lt-ltb n 10 a) (one_clear (48 + n) (λ e. absurd (omega arith))))
    (λ (a : 10 ≤ n). rw (le-ltb n 10 a) (clear_append (digits k (n / 10)) ((48 + n % 10) ∷ []) (digits_clear k (n / 10)) (one_clear (48 + n % 10) (λ e. absurd (omega arith)))))
    (below_or n 10)

dec_clear : (n : ℕ) → Clear (dec n)
unfolding dec
dec_clear n = digits_clear 19 n

hex_digit_lem : (n : ℕ) → hex_digit n ≡ 10 → ⊥
unfolding hex_digit
hex_digit_lem n = ⊎_elim (λ (a : n < 10). rw (lt-ltb n 10 a) (λ e. omega arith)) (λ (a : 10 ≤ n). rw (le-ltb n 10 a) (λ e. omega arith)) (below_or n 10)

hex_clear : (b : List ℕ) → Clear (hex b)
unfolding texts index
hex_clear [] = refl
hex_clear (x ∷ b) =
    clear_cons (hex_digit (x / 16)) (hex_digit (x % 16) ∷ hex b) (hex_digit_lem (x / 16))
    (clear_cons (hex_digit (x % 16)) (hex b) (hex_digit_lem (x % 16)) (hex_clear b))

word_clear : (w : Word) → Clear (word_of w)
unfolding index
word_clear done = refl
word_clear made = refl
word_clear waiting = refl
word_clear refused = refl

text_clear : (b : List ℕ) (x : Field) → Clear (text b x)
text_clear b (a_number n) = dec_clear n
text_clear b bytes = hex_clear b

-- ---- the lines

after_ended : (b : List ℕ) (fs : List Field) → Ended (fields_text b fs)
unfolding index
after_ended b [] = refl
after_ended b (x ∷ fs) = ended_tab (text b x ++ fields_text b fs) (ended_append (text b x) (fields_text b fs) (text_clear b x) (after_ended b fs))

pub line_ended : (c : Call) (b : List ℕ) → Ended (line_of c b)
unfolding line_of
line_ended c b = ended_append (dec (called c).number) (fields_text b (fields_of c)) (dec_clear (called c).number) (after_ended b (fields_of c))

field_ended : (n : ℕ) (l : List ℕ) → Ended l → Ended (9 ∷ (dec n ++ l))
field_ended n l e = ended_tab (dec n ++ l) (ended_append (dec n) l (dec_clear n) e)

pub reply_ended : (s : Saying) (t : TaskNo) → Ended (reply s t)
unfolding reply index
reply_ended s t =
    let task : List ℕ = 9 ∷ (dec t.0 ++ (10 ∷ [])) in
    ended_append (word_of s.word) (9 ∷ (dec s.number ++ task)) (word_clear s.word)
    (field_ended s.number task (field_ended t.0 (10 ∷ []) refl))

-- "a byte after its newline makes it refusal 3"
pub more_refused : (c : Call) (b : List ℕ) (x : ℕ) (m : List ℕ) (r : Read) → ReadsAs (line_of c b ++ (x ∷ m)) r → Tells r (refused_with 3) []
more_refused c b x m r (inl f) =
    let l = line_of c b in
    let e : index is_newline (l ++ (x ∷ m)) ≡ index is_newline l = ended_past l (x ∷ m) (omega (arith, line_ended c b)) in
    absurd (omega (arith, e, ap (index is_newline) f.line, ap length f.line, line_ended c b, line_ended f.call f.item, length-append l (x ∷ m)))
more_refused c b x m r (inr f) = f.tells

-- "and so is a last line without a newline"
pub cut_refused : (l : List ℕ) (r : Read) → Clear l → ReadsAs l r → Tells r (refused_with 3) []
cut_refused l r h (inl f) = absurd (omega (arith, ap (index is_newline) f.line, ap length f.line, line_ended f.call f.item))
cut_refused l r h (inr f) = f.tells
