-- The reader's steps: what is taken stood in the line, and what stands in the line is taken.
use Prim.Native.Nat.{ℕ, zero, suc, ◌+◌, ◌*◌, ◌<◌, ◌≤◌}
use mathlib.Core.Path.{◌≡◌, refl, sym, ap, ◌∙◌}
use mathlib.Core.Bool.{Bool, true, false}
use mathlib.Core.List.{List, [], ◌∷◌, ◌++◌, append_assoc}
use native.Mathlib.Omega.{arith}
use native.Mathlib.Numerals.{add-one}
use lib.Dec.{eqb}
use lib.ListN.{length, drop, set}
use lib.Seq.{sets}
use borrow.Author.Tests.{eqb-true}
use Rattle.calls.specs.Words.{Small}
use Rattle.fields.specs.Decimal.{dec}
use Rattle.fields.specs.Hex.{hex, Bytes}
use Rattle.fields.specs.Texts.{texts}
use Rattle.fields.specs.Digit.{among}
use Rattle.fields.specs.Number.{got, read_number}
use Rattle.fields.specs.Item.{byte_of, bytes_in, filled}
use Rattle.fields.proofs.LinePlaces.{past, within}
use Rattle.fields.proofs.Digits.{number_front, number_whole, Stops}
use Rattle.fields.proofs.Pairs.{hex-length, item_front, bytes_fit, bytes_whole, tab_stops}
use Rattle.std.specs.Prelude.{Option, Some, None}
use Rattle.std.specs.Option.{unwrap_or}
use Rattle.journal.specs.Types.{Number, Item}
use Rattle.journal.specs.Writer.{tabbed, sent_text}
use Rattle.journal.specs.Reader.{tab_in, after_tab, no_number, number_at, Numbers, nums, sent_at, end_of}

-- the item that goes with a shape: 0 to 64 bytes, or none
abbrev pub ItemFits : Bool → List ℕ → Type 0
ItemFits true b = (length b ≤ 64) × Bytes b
ItemFits false b = b ≡ []

-- what follows a number is no digit
pub tabbed_stops : (ns r : List ℕ) → Stops r → Stops (texts tabbed ns ++ r)
unfolding texts among
tabbed_stops [] r s = s
tabbed_stops (n ∷ ns) r s = refl

pub sent_stops : (i : Bool) (b r : List ℕ) → Stops r → Stops (sent_text i b ++ r)
unfolding among
sent_stops true b r s = refl
sent_stops false b r s = s

-- what follows an item is no digit of one
pub tabbed_halts : (ns : List ℕ) → byte_of (texts tabbed ns ++ (10 ∷ [])) ≡ 256
unfolding texts
tabbed_halts [] = refl
tabbed_halts (n ∷ ns) = tab_stops (dec n ++ texts tabbed ns ++ (10 ∷ []))

module _ (line : List ℕ) where
  -- ---- a tab

  tab_front : (at : ℕ) → after_tab line at < length line → drop at line ≡ 9 ∷ drop (after_tab line at) line
  tab_front at = go (drop at line) refl
    where
      go : (l : List ℕ) → drop at line ≡ l → tab_in (length line) at l < length line → l ≡ 9 ∷ drop (tab_in (length line) at l) line
      go [] d h = absurd (omega arith)
      go (x ∷ l) d h = is (eqb x 9) refl h
        where
          is : (t : Bool) → eqb x 9 ≡ t → tab_in (length line) at (x ∷ l) < length line → x ∷ l ≡ 9 ∷ drop (tab_in (length line) at (x ∷ l)) line
          is true e = rw e (λ h. rw (eqb-true x 9 e, past line at (x ∷ []) l d))
          is false e = rw e (λ h. absurd (omega arith))

  tab_whole : (at : ℕ) (r : List ℕ) → drop at line ≡ 9 ∷ r → (after_tab line at ≡ at + 1) × (drop (after_tab line at) line ≡ r)
  tab_whole at r e = (rw e, rw e (past line at (9 ∷ []) r e))

  -- ---- a number

  pub place_front : (at : ℕ) → (number_at line at).next < length line
      → (drop at line ≡ dec (number_at line at).value ++ drop (number_at line at).next line) × ((number_at line at).value ≤ 4294967295)
  place_front at = go (read_number at (drop at line)) refl
    where
      go : (x : Option Number) → read_number at (drop at line) ≡ x → (unwrap_or x (no_number line)).next < length line
          → (drop at line ≡ dec (unwrap_or x (no_number line)).value ++ drop (unwrap_or x (no_number line)).next line) × ((unwrap_or x (no_number line)).value ≤ 4294967295)
      go (Some p) e h = number_front line at p.value p.next e
      go None e h = absurd (omega arith)

  pub place_whole : (at n : ℕ) (r : List ℕ) → drop at line ≡ dec n ++ r → n ≤ 4294967295 → Stops r
      → ((number_at line at).value ≡ n) × (drop (number_at line at).next line ≡ r)
  place_whole at n r e h s =
      let g : read_number at (drop at line) ≡ got n (at + length (dec n)) = rw e (number_whole n at r h s) in
      (rw g, rw g (past line at (dec n) r e))

  -- ---- numbers, each after a tab

  -- the numbers ns were read
  pub record Listed (k i : ℕ) (vs : List ℕ) (at : ℕ) (r : Numbers) : Type 0 where
    pub ns : List ℕ
    pub count : length ns ≡ k
    pub values : r.values ≡ sets vs i ns
    pub front : drop at line ≡ texts tabbed ns ++ drop r.next line
    pub small : Small ns

  listed_more : (k i : ℕ) (vs : List ℕ) (at : ℕ) (r : Numbers)
      → Listed k (i + 1) (set vs i (number_at line (after_tab line at)).value) (number_at line (after_tab line at)).next r
      → r.next < length line → Listed (suc k) i vs at r
  unfolding texts
  listed_more k i vs at r h l =
      let tab = after_tab line at in
      let v = (number_at line tab).value in
      let j = (number_at line tab).next in
      let m : j < length line = within line j (texts tabbed h.ns) r.next h.front l in
      let p = place_front tab m in
      let t = tab_front at (within line tab (dec v) j p.0 m) in
      record {
        ns = v ∷ h.ns;
        count = ap suc h.count;
        values = rw add-one at h.values;
        front =
            t
            ∙ ap (λ (q : List ℕ). 9 ∷ q) (p.0 ∙ ap (λ (q : List ℕ). dec v ++ q) h.front ∙ sym (append_assoc (dec v) (texts tabbed h.ns) (drop r.next line)));
        small = (p.1, h.small);
      }

  -- one number more, by what the code read
  pub nums_more : (k i : ℕ) (vs : List ℕ) (at t : ℕ) (p : Number) → t ≡ after_tab line at → p ≡ number_at line t
      → nums line (suc k) i vs at ≡ nums line k (i + 1) (set vs i p.value) p.next
  unfolding nums
  nums_more k i vs at t p e f = rw (f, e)

  pub nums_front : (k i : ℕ) (vs : List ℕ) (at : ℕ) → (nums line k i vs at).next < length line → Listed k i vs at (nums line k i vs at)
  unfolding nums texts
  nums_front zero i vs at l = record { ns = []; count = refl; values = refl; front = refl; small = tt }
  nums_front (suc k) i vs at l =
      listed_more k i vs at _
      (nums_front k (i + 1) (set vs i (number_at line (after_tab line at)).value) (number_at line (after_tab line at)).next l) l

  all_listed : (ns : List ℕ) (i : ℕ) (vs : List ℕ) (at : ℕ) (r : List ℕ) → drop at line ≡ texts tabbed ns ++ r → Small ns → Stops r
      → ((nums line (length ns) i vs at).values ≡ sets vs i ns) × (drop (nums line (length ns) i vs at).next line ≡ r)
  unfolding nums texts
  all_listed [] i vs at r e w s = (refl, e)
  all_listed (n ∷ ns) i vs at r e w s =
      let m : List ℕ = texts tabbed ns ++ r in
      let t = tab_whole at (dec n ++ m) (e ∙ ap (λ (q : List ℕ). 9 ∷ q) (append_assoc (dec n) (texts tabbed ns) r)) in
      let p = place_whole (after_tab line at) n m t.1 w.0 (tabbed_stops ns r s) in
      let h = all_listed ns (i + 1) (set vs i (number_at line (after_tab line at)).value) (number_at line (after_tab line at)).next r p.1 w.1 s in
      (h.0 ∙ rw (p.0, add-one), h.1)

  pub nums_whole : (k : ℕ) (ns : List ℕ) (i : ℕ) (vs : List ℕ) (at : ℕ) (r : List ℕ) → length ns ≡ k → drop at line ≡ texts tabbed ns ++ r → Small ns → Stops r
      → ((nums line k i vs at).values ≡ sets vs i ns) × (drop (nums line k i vs at).next line ≡ r)
  nums_whole k ns i vs at r c e w s = rw (← c) (all_listed ns i vs at r e w s)

  -- ---- an item after a tab, or none

  -- the item b was read
  pub record Sent (at : ℕ) (i : Bool) (r : Item) : Type 0 where
    pub b : List ℕ
    pub bytes : r.bytes ≡ filled b
    pub len : r.len ≡ length b
    pub front : drop at line ≡ sent_text i b ++ drop r.next line
    pub fits : ItemFits i b

  pub sent_front : (at : ℕ) (i : Bool) → (sent_at line at i).next < length line → Sent at i (sent_at line at i)
  sent_front at false l = record { b = []; bytes = refl; len = refl; front = refl; fits = refl }
  sent_front at true l =
      let tab = after_tab line at in
      let b = bytes_in 64 (drop tab line) in
      let f = item_front line tab in
      let t = tab_front at (within line tab (hex b) (tab + 2 * length b) f l) in
      record { b = b; bytes = refl; len = refl; front = t ∙ ap (λ (q : List ℕ). 9 ∷ q) f; fits = bytes_fit 64 (drop tab line) }

  pub sent_whole : (at : ℕ) (i : Bool) (b r : List ℕ) → drop at line ≡ sent_text i b ++ r → ItemFits i b → byte_of r ≡ 256
      → ((sent_at line at i).bytes ≡ filled b) × ((sent_at line at i).len ≡ length b) × (drop (sent_at line at i).next line ≡ r)
  sent_whole at false b r e w s = (rw w, rw w, e)
  sent_whole at true b r e w s =
      let tab = after_tab line at in
      let t = tab_whole at (hex b ++ r) e in
      let g : bytes_in 64 (drop tab line) ≡ b = rw t.1 (bytes_whole b 64 r w.1 w.0 s) in (
        ap filled g,
        ap length g,
        ap (λ (m : List ℕ). drop (tab + 2 * length m) line) g
            ∙ ap (λ (k : ℕ). drop (tab + k) line) (sym (hex-length b))
            ∙ past line tab (hex b) r t.1,
      )

-- ---- the end

pub end_front : (l : List ℕ) → end_of l ≡ true → l ≡ 10 ∷ []
end_front [] e = let z : ◌≡◌ {A = ℕ} 0 1 = cc in absurd (omega arith)
end_front (x ∷ l) e = go (eqb x 10) refl l e
  where
    go : (t : Bool) → eqb x 10 ≡ t → (l : List ℕ) → end_of (x ∷ l) ≡ true → x ∷ l ≡ 10 ∷ []
    go true k [] = λ e. ap (λ (y : ℕ). y ∷ []) (eqb-true x 10 k)
    go true k (y ∷ l) = rw k (λ e. let z : ◌≡◌ {A = ℕ} 0 1 = cc in absurd (omega arith))
    go false k l = rw k (λ e. let z : ◌≡◌ {A = ℕ} 0 1 = cc in absurd (omega arith))
