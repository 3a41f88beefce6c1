-- The laws of an item in a line: what the reader takes is the item's digits, and it takes them all.
use Prim.Native.Nat.{ℕ, zero, suc, ◌+◌, ◌-◌, ◌*◌, ◌/◌, ◌%◌, ◌<◌, ◌≤◌, min}
use mathlib.Core.Path.{◌≡◌, refl, sym, ap, ◌∙◌}
use mathlib.Core.Bool.{false≢true}
use mathlib.Core.Logic.{◌⊎◌, inl, inr, ⊎_elim}
use mathlib.Core.List.{List, [], ◌∷◌, ◌++◌}
use native.Mathlib.Omega.{arith}
use native.Mathlib.Numerals.{add-one}
use lib.ListN.{length, drop, set, length-drop}
use lib.Seq.{sets, drop-drop}
use borrow.Author.Tests.{lt-ltb, le-ltb}
use Rattle.fields.specs.Texts.{texts}
use Rattle.fields.specs.Hex.{hex_digit, two_digits, hex, Bytes}
use Rattle.std.specs.Prelude.{Option, Some, None}
use Rattle.std.specs.Option.{unwrap_or, is_some}
use Rattle.fields.specs.Digit.{among, nibble_of, below}
use Rattle.fields.specs.Item.{pair_of, byte_of, bytes_in}
use Rattle.fields.specs.declared.Item.{Item}
use Rattle.lists.proofs.Tests.{below_or}

pub hex-length : (b : List ℕ) → length (hex b) ≡ 2 * length b
unfolding texts
hex-length [] = refl
hex-length (x ∷ b) = omega (arith, hex-length b)

-- ---- the digits

nibble_of_lem : (n : ℕ) → n < 16 → nibble_of (hex_digit n) ≡ n
unfolding nibble_of among hex_digit
nibble_of_lem n h =
    ⊎_elim (λ (a : n < 10). rw (lt-ltb n 10 a, le-ltb (48 + n) 48 (omega arith), le-ltb 57 (48 + n) (omega arith), lt-ltb (48 + n) 97 (omega arith)) (omega arith))
    (λ (a : 10 ≤ n). rw (le-ltb n 10 a, le-ltb (87 + n) 48 (omega arith), lt-ltb 57 (87 + n) (omega arith), le-ltb (87 + n) 97 (omega arith), le-ltb 102 (87 + n) (omega arith)) (omega arith))
    (below_or n 10)

-- a byte is the digit of its value, or it has none
nibble_is : (x : ℕ) → ((nibble_of x < 16) × (x ≡ hex_digit (nibble_of x))) ⊎ (nibble_of x ≡ 256)
unfolding nibble_of among hex_digit
nibble_is x = go (below_or x 48) (below_or 57 x) (below_or x 97) (below_or 102 x)
  where
    go : (x < 48) ⊎ (48 ≤ x) → (57 < x) ⊎ (x ≤ 57) → (x < 97) ⊎ (97 ≤ x) → (102 < x) ⊎ (x ≤ 102) → ((nibble_of x < 16) × (x ≡ hex_digit (nibble_of x))) ⊎ (nibble_of x ≡ 256)
    go (inl a) b c d = rw (lt-ltb x 48 a, lt-ltb x 97 (omega arith)) (inr refl)
    go (inr a) (inr b) c d =
        let e : min (0 + (x - 48)) 256 ≡ x - 48 = omega arith in
        rw (le-ltb x 48 a, le-ltb 57 x b, lt-ltb x 97 (omega arith), e, lt-ltb (x - 48) 10 (omega arith)) (inl (omega arith, omega arith))
    go (inr a) (inl b) (inl c) d = rw (le-ltb x 48 a, lt-ltb 57 x b, lt-ltb x 97 c) (inr refl)
    go (inr a) (inl b) (inr c) (inr d) =
        let e : min 256 (10 + (x - 97)) ≡ 10 + (x - 97) = omega arith in
        rw (le-ltb x 48 a, lt-ltb 57 x b, le-ltb x 97 c, le-ltb 102 x d, e, le-ltb (10 + (x - 97)) 10 (omega arith)) (inl (omega arith, omega arith))
    go (inr a) (inl b) (inr c) (inl d) = rw (le-ltb x 48 a, lt-ltb 57 x b, le-ltb x 97 c, lt-ltb 102 x d) (inr refl)

pub nibble_fits : (x : ℕ) → nibble_of x ≤ 256
nibble_fits x = ⊎_elim (λ (a : (nibble_of x < 16) × (x ≡ hex_digit (nibble_of x))). let h = a.0 in omega arith) (λ (e : nibble_of x ≡ 256). omega arith) (nibble_is x)

pair_of_lem : (b : ℕ) → b < 256 → pair_of (hex_digit (b / 16)) (hex_digit (b % 16)) ≡ b
unfolding pair_of
pair_of_lem b h = rw (nibble_of_lem (b / 16) (omega arith), nibble_of_lem (b % 16) (omega arith)) (omega arith)

pair_is : (x y : ℕ) → pair_of x y < 256 → (x ≡ hex_digit (pair_of x y / 16)) × (y ≡ hex_digit (pair_of x y % 16))
unfolding pair_of
pair_is x y h = go (nibble_is x) (nibble_is y)
  where
    go : ((nibble_of x < 16) × (x ≡ hex_digit (nibble_of x))) ⊎ (nibble_of x ≡ 256) → ((nibble_of y < 16) × (y ≡ hex_digit (nibble_of y))) ⊎ (nibble_of y ≡ 256)
        → (x ≡ hex_digit (pair_of x y / 16)) × (y ≡ hex_digit (pair_of x y % 16))
    go (inl a) (inl b) =
        let i = a.0 in
        let j = b.0 in
        let q : min (nibble_of x * 16 + nibble_of y) 256 / 16 ≡ nibble_of x = omega arith in
        let r : min (nibble_of x * 16 + nibble_of y) 256 % 16 ≡ nibble_of y = omega arith in
        (a.1 ∙ ap hex_digit (sym q), b.1 ∙ ap hex_digit (sym r))
    go (inl a) (inr e) = absurd (omega arith)
    go (inr e) b = absurd (omega arith)

-- the digits of a byte are at the front
byte_is : (l : List ℕ) → byte_of l < 256 → l ≡ two_digits (byte_of l) ++ drop 2 l
byte_is [] h = absurd (omega arith)
byte_is (x ∷ []) h = absurd (omega arith)
byte_is (x ∷ y ∷ l) h =
    let d = pair_is x y h in
    ap (λ (u : ℕ). u ∷ y ∷ l) d.0 ∙ ap (λ (u : ℕ). hex_digit (pair_of x y / 16) ∷ u ∷ l) d.1

-- so two bytes are left
pub byte_within : (l : List ℕ) (i : ℕ) → byte_of (drop i l) < 256 → i + 1 < length l
byte_within l i = go (drop i l) (length-drop i l)
  where
    go : (m : List ℕ) → length m ≡ length l - i → byte_of m < 256 → i + 1 < length l
    go [] e h = absurd (omega arith)
    go (x ∷ []) e h = absurd (omega arith)
    go (x ∷ y ∷ m) e h = omega arith

-- ---- what is read is an item's digits

bytes_front : (k : ℕ) (l : List ℕ) → l ≡ hex (bytes_in k l) ++ drop (2 * length (bytes_in k l)) l
unfolding bytes_in texts
bytes_front zero l = refl
bytes_front (suc k) l = go (bytes_front k (drop 2 l)) (below_or (byte_of l) 256)
  where
    go : drop 2 l ≡ hex (bytes_in k (drop 2 l)) ++ drop (2 * length (bytes_in k (drop 2 l))) (drop 2 l)
        → (byte_of l < 256) ⊎ (256 ≤ byte_of l) → l ≡ hex (bytes_in (suc k) l) ++ drop (2 * length (bytes_in (suc k) l)) l
    go ih (inr a) = rw (le-ltb (byte_of l) 256 a) refl
    go ih (inl a) =
        let n : ℕ = length (bytes_in k (drop 2 l)) in
        let e : 2 + 2 * n ≡ 2 * suc n = omega arith in
        rw (lt-ltb (byte_of l) 256 a)
        (byte_is l a ∙ ap (λ (m : List ℕ). two_digits (byte_of l) ++ m) (ih ∙ ap (λ (m : List ℕ). hex (bytes_in k (drop 2 l)) ++ m) (drop-drop (2 * n) 2 l ∙ ap (λ (m : ℕ). drop m l) e)))

pub item_front : (line : List ℕ) (at : ℕ) → drop at line ≡ hex (bytes_in 64 (drop at line)) ++ drop (at + 2 * length (bytes_in 64 (drop at line))) line
item_front line at =
    bytes_front 64 (drop at line)
    ∙ ap (λ (m : List ℕ). hex (bytes_in 64 (drop at line)) ++ m) (drop-drop (2 * length (bytes_in 64 (drop at line))) at line)

pub bytes_fit : (k : ℕ) (l : List ℕ) → (length (bytes_in k l) ≤ k) × Bytes (bytes_in k l)
unfolding bytes_in
bytes_fit zero l = (omega arith, tt)
bytes_fit (suc k) l = go (bytes_fit k (drop 2 l)) (below_or (byte_of l) 256)
  where
    go : (length (bytes_in k (drop 2 l)) ≤ k) × Bytes (bytes_in k (drop 2 l)) → (byte_of l < 256) ⊎ (256 ≤ byte_of l)
        → (length (bytes_in (suc k) l) ≤ suc k) × Bytes (bytes_in (suc k) l)
    go ih (inl a) = rw (lt-ltb (byte_of l) 256 a) (omega arith, (a, ih.1))
    go ih (inr a) = rw (le-ltb (byte_of l) 256 a) (omega arith, tt)

-- ---- an item's digits are read whole

pub bytes_whole : (b : List ℕ) (k : ℕ) (l : List ℕ) → Bytes b → length b ≤ k → byte_of l ≡ 256 → bytes_in k (hex b ++ l) ≡ b
unfolding bytes_in texts
bytes_whole [] zero l w h s = refl
bytes_whole [] (suc k) l w h s = rw s
bytes_whole (x ∷ b) zero l w h s = absurd (omega arith)
bytes_whole (x ∷ b) (suc k) l w h s =
    rw (pair_of_lem x w.0, lt-ltb x 256 w.0) (ap (λ (m : List ℕ). x ∷ m) (bytes_whole b k l w.1 (omega arith) s))

-- no digit of a byte is a tab
tab_none : nibble_of 9 ≡ 256
unfolding nibble_of among
tab_none = refl

pub tab_stops : (l : List ℕ) → byte_of (9 ∷ l) ≡ 256
unfolding pair_of
tab_stops [] = refl
tab_stops (y ∷ l) = rw tab_none (omega arith)

-- ---- what the code says of a byte: none, or the byte

pub none_below : {m n : ℕ} → None ≡ below m n → m ≤ n
none_below {m} {n} e = ⊎_elim (λ (a : n < m). let f : None ≡ Some n = rw (lt-ltb n m a) at e in absurd (false≢true (ap is_some f))) (λ (a : m ≤ n). a) (below_or n m)

pub some_below : {m n v : ℕ} → Some v ≡ below m n → (v ≡ n) × (n < m)
some_below {m} {n} {v} e =
    ⊎_elim (λ (a : n < m). let f : Some v ≡ Some n = rw (lt-ltb n m a) at e in (ap (λ (r : Option ℕ). unwrap_or r v) f, a))
    (λ (a : m ≤ n). let f : Some v ≡ None = rw (le-ltb n m a) at e in absurd (false≢true (sym (ap is_some f)))) (below_or n m)

-- ---- the loop that reads an item: n bytes are in bs, the place is i, l is left, and up to k more are taken

abbrev pub left_over : ℕ → ℕ → List ℕ → ℕ → List ℕ → Item
left_over k n bs i l = record { bytes = sets bs n (bytes_in k l); len = n + length (bytes_in k l); next = i + 2 * length (bytes_in k l) }

abbrev pub item_so_far : List ℕ → ℕ → ℕ → Item
item_so_far bs n i = record { bytes = bs; len = n; next = i }

-- the same record, part by part
same_item : (bs cs : List ℕ) (m n i j : ℕ) → bs ≡ cs → m ≡ n → i ≡ j → item_so_far bs m i ≡ item_so_far cs n j
same_item bs cs m n i j p q r = ap (λ (b : List ℕ). item_so_far b m i) p ∙ ap (λ (k : ℕ). item_so_far cs k i) q ∙ ap (item_so_far cs n) r

pub left_first : (k : ℕ) (bs : List ℕ) (i : ℕ) (l : List ℕ) → left_over k 0 bs i l ≡ item_so_far (sets bs 0 (bytes_in k l)) (length (bytes_in k l)) (i + 2 * length (bytes_in k l))
left_first k bs i l = same_item _ _ _ _ _ _ refl (omega arith) refl

pub left_last : (n : ℕ) (bs : List ℕ) (i : ℕ) (l : List ℕ) → left_over 0 n bs i l ≡ item_so_far bs n i
unfolding bytes_in
left_last n bs i l = same_item _ _ _ _ _ _ refl (omega arith) (omega arith)

pub left_stop : (k n : ℕ) (bs : List ℕ) (i : ℕ) (l : List ℕ) → 256 ≤ byte_of l → left_over (suc k) n bs i l ≡ item_so_far bs n i
unfolding bytes_in
left_stop k n bs i l h = rw (le-ltb (byte_of l) 256 h) (same_item _ _ _ _ _ _ refl (omega arith) (omega arith))

pub left_more : (k n : ℕ) (bs line : List ℕ) (i b : ℕ) → b ≡ byte_of (drop i line) → b < 256
    → left_over (suc k) n bs i (drop i line) ≡ left_over k (n + 1) (set bs n b) (i + 2) (drop (i + 2) line)
unfolding bytes_in
left_more k n bs line i b e h =
    rw (← e, lt-ltb b 256 h, drop-drop 2 i line) (same_item _ _ _ _ _ _ (rw add-one) (omega arith) (omega arith))
