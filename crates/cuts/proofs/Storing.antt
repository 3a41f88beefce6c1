-- The next newline is looked for; the bytes before it are stored at once.
use Prim.Native.Nat.{ℕ, suc, ◌+◌, ◌-◌, ◌<◌, ◌≤◌, min}
use mathlib.Core.Path.{◌≡◌, refl, sym, ap, ◌∙◌}
use mathlib.Core.Bool.{Bool, true, false}
use mathlib.Core.List.{List, [], ◌∷◌}
use native.Mathlib.Numerals.{add-one}
use native.Mathlib.Nat.{add-zero}
use native.Mathlib.Omega.{arith}
use lib.Dec.{eqb, ltb}
use lib.ListN.{length, take, drop, set, length-take, length-drop, take-append-drop, drop_of_length-le}
use lib.Seq.{sets, sets-eq, take-nil, take_all, drop-drop, drop-length}
use borrow.Author.Tests.{ltb-true, ltb-false, lt-ltb, le-ltb}
use Rattle.lists.proofs.Loops.{fold_append}
use Rattle.std.proofs.Common.{if◌then◌else◌}
use Rattle.lists.specs.Lists.{foldl, index}
use Rattle.lists.proofs.Loops.{index_is, index_within, index_or}
use Rattle.std.proofs.Common.{cond, Option, Some, None, Result, Ok, Err, append_assoc}
use Rattle.std.specs.List.{position}
use Rattle.std.specs.Option.{unwrap_or, is_some}
use borrow.Rule.Slice.PartMut.{put_mid}
use Rattle.cuts.specs.declared.Cut.{Cut}
use Rattle.cuts.specs.Keeping.{cut_of, with_byte, is_newline, newline_from, Gathered, gathered, Gathers}
use Rattle.cuts.proofs.Gathering.{kept_in, kept_out, gathered_newline, gathered_other}

-- ---- what the bytes stored make of a line

-- as many as there is room for
fits : (xs bytes : List ℕ) (len : ℕ) → len + length xs ≤ 256 → foldl with_byte (cut_of bytes len) xs ≡ cut_of (sets bytes len xs) (len + length xs)
unfolding foldl
fits [] bytes len h = rw add-zero
fits (x ∷ xs) bytes len h =
    let k : len < 256 = omega arith in
    let e : suc len + length xs ≡ len + suc (length xs) = omega arith in
    rw (← kept_in bytes len x k, add-one, ← e) (fits xs (set bytes len x) (suc len) (omega arith))

-- above 256 no more is known
above : (xs bytes : List ℕ) → foldl with_byte (cut_of bytes 257) xs ≡ cut_of bytes 257
unfolding foldl
above [] bytes = refl
above (x ∷ xs) bytes = rw (← kept_out bytes 257 x (omega arith)) (above xs bytes)

full : (xs bytes : List ℕ) (len : ℕ) → 256 ≤ len → 0 < length xs → foldl with_byte (cut_of bytes len) xs ≡ cut_of bytes 257
unfolding foldl
full [] bytes len h p = absurd (omega arith)
full (x ∷ xs) bytes len h p = rw (← kept_out bytes len x h) (above xs bytes)

-- all of them
all_in : (more bytes : List ℕ) (len from n : ℕ) → n ≡ length more → from ≡ min len 256 → from + n ≤ 256
    → cut_of (sets bytes from (take n more)) (len + n) ≡ foldl with_byte (cut_of bytes len) more
unfolding foldl
all_in [] bytes len from n e f h = let z : len + n ≡ len = omega arith in rw (take-nil n, z)
all_in (x ∷ xs) bytes len from n e f h =
    let q : from ≡ len = omega arith in
    let t : length (x ∷ xs) ≤ n = omega arith in
    let m : len + n ≡ len + length (x ∷ xs) = omega arith in
    rw (take_all n (x ∷ xs) t, q, m) (sym (fits (x ∷ xs) bytes len (omega arith)))

-- some of them
some_in : (more bytes : List ℕ) (len from n : ℕ) → n < length more → from ≡ min len 256 → from + n ≡ 256
    → cut_of (sets bytes from (take n more)) 257 ≡ foldl with_byte (cut_of bytes len) more
some_in more bytes len from n e f h = go (ltb len 256) refl
  where
    m : length (take n more) ≡ n
    m = rw length-take (omega arith)

    go : (t : Bool) → ltb len 256 ≡ t → cut_of (sets bytes from (take n more)) 257 ≡ foldl with_byte (cut_of bytes len) more
    go true k =
        let q : from ≡ len = omega (arith, ltb-true len 256 k) in
        let w : len + length (take n more) ≤ 256 = omega (arith, m) in
        let v : 256 ≤ len + length (take n more) = omega (arith, m) in
        let y : 0 < length (drop n more) = rw length-drop (omega arith) in
        rw q
        (sym (ap (foldl with_byte (cut_of bytes len)) (sym (take-append-drop n more))
        ∙ fold_append with_byte (cut_of bytes len) (take n more) (drop n more)
        ∙ ap (λ (c : Cut). foldl with_byte c (drop n more)) (fits (take n more) bytes len w)
        ∙ full (drop n more) (sets bytes len (take n more)) (len + length (take n more)) v y))
    go false k =
        let z : n ≡ 0 = omega (arith, ltb-false len 256 k) in
        let y : 0 < length more = omega arith in
        rw z (sym (full more bytes len (ltb-false len 256 k) y))

pub extended : (bytes more after : List ℕ) (len from n to : ℕ) → length bytes ≡ 256 → from ≡ min len 256 → n ≡ min (length more) (256 - from) → after ≡ take n more
    → to ≡ (if ltb n (length more) then 257 else len + n) → cut_of (put_mid from (from + n - from) bytes after) to ≡ foldl with_byte (cut_of bytes len) more
extended bytes more after len from n to wide f e a t = rw (mid, t) (go (ltb n (length more)) refl)
  where
    mid : put_mid from (from + n - from) bytes after ≡ sets bytes from (take n more)
    mid =
        let w : length (take n more) ≡ n = rw length-take (omega arith) in
        let k : from + length (take n more) ≤ length bytes = omega arith in
        let z : from + n - from ≡ n = omega arith in
        rw (a, z, sets-eq (take n more) bytes from k, w, drop-drop, append_assoc)

    go : (t : Bool) → ltb n (length more) ≡ t → cut_of (sets bytes from (take n more)) (if t then 257 else len + n) ≡ foldl with_byte (cut_of bytes len) more
    go true k = some_in more bytes len from n (ltb-true n (length more) k) f (omega (arith, ltb-true n (length more) k))
    go false k = all_in more bytes len from n (omega (arith, ltb-false n (length more) k)) f (omega arith)

-- what a block has from a place on, however far that lies
pub drop_min : (l : List ℕ) (i : ℕ) → drop (min i (length l)) l ≡ drop i l
drop_min l i = go (ltb i (length l)) refl
  where
    go : (t : Bool) → ltb i (length l) ≡ t → drop (min i (length l)) l ≡ drop i l
    go true h = let z : min i (length l) ≡ i = omega (arith, ltb-true i (length l) h) in ap (λ (n : ℕ). drop n l) z
    go false h =
        let w : length l ≤ i = ltb-false i (length l) h in
        let z : min i (length l) ≡ length l = omega (arith, w) in
        ap (λ (n : ℕ). drop n l) z ∙ drop-length l ∙ sym (drop_of_length-le l w)

-- ---- both

-- the place is inside of the block where it is inside of what was left
same_test : (end length place rest at : ℕ) → end ≡ at + place → rest ≡ length - at → place ≤ rest → ltb end length ≡ ltb place rest
same_test end length place rest at e f w = go (ltb place rest) refl
  where
    go : (t : Bool) → ltb place rest ≡ t → ltb end length ≡ t
    go true h = lt-ltb end length (omega (arith, ltb-true place rest h))
    go false h = le-ltb end length (omega (arith, ltb-false place rest h))

-- a block is left where its next newline stands, with what the bytes before it make of the line
record TwoSteps (i : ℕ) (c : Cut) (l : List ℕ) (g : Gathered) : Type 0 where
  pub next : newline_from i l ≡ g.next
  pub cut : foldl with_byte c (take (index is_newline l) l) ≡ g.cut
  pub newline : ltb (index is_newline l) (length l) ≡ g.newline

at_once : (i : ℕ) (c : Cut) (b : ℕ) (l : List ℕ) → eqb b 10 ≡ true → TwoSteps i c (b ∷ l) record { next = i; cut = c; newline = true }
unfolding index foldl
at_once i c b l e = record { next = rw (e, add-zero); cut = rw e; newline = rw e (lt-ltb 0 (suc (length l)) (omega arith)) }

one_later : (i : ℕ) (c : Cut) (b : ℕ) (l : List ℕ) (g : Gathered) → eqb b 10 ≡ false → TwoSteps (i + 1) (with_byte c b) l g → TwoSteps i c (b ∷ l) g
unfolding index foldl
one_later i c b l g e h =
    let m : i + suc (index is_newline l) ≡ newline_from (i + 1) l = omega arith in
    let t = same_test (suc (index is_newline l)) (suc (length l)) (index is_newline l) (length l) 1 (omega arith) (omega arith) (index_within is_newline l) in
    record { next = rw e (m ∙ h.next); cut = rw e h.cut; newline = rw e (t ∙ h.newline) }

two_steps : (l : List ℕ) (i : ℕ) (c : Cut) → TwoSteps i c l (gathered i c l)
unfolding gathered index foldl
two_steps [] i c = record { next = add-zero i; cut = refl; newline = refl }
two_steps (b ∷ l) i c = go (eqb b 10) refl (two_steps l (i + 1) (with_byte c b))
  where
    go : (t : Bool) → eqb b 10 ≡ t → TwoSteps (i + 1) (with_byte c b) l (gathered (i + 1) (with_byte c b) l) → TwoSteps i c (b ∷ l) (gathered i c (b ∷ l))
    go true e h = rw (gathered_newline i c b l e) (at_once i c b l e)
    go false e h = rw (gathered_other i c b l e) (one_later i c b l (gathered (i + 1) (with_byte c b) l) e h)

told_at : Bool → ℕ → Result ℕ ℕ
told_at b n = if b then Ok n else Err n

gathered_at : (l : List ℕ) (i : ℕ) (c : Cut) → Gathers (gathered i c l) (told_at (is_some (position is_newline l)) (i + unwrap_or (position is_newline l) (length l))) (foldl with_byte c (take (unwrap_or (position is_newline l) (length l)) l))
unfolding told_at
gathered_at l i c =
    let t = two_steps l i c in
    let n : i + unwrap_or (position is_newline l) (length l) ≡ (gathered i c l).next = ap (λ n. i + n) (index_or is_newline l) ∙ t.next in
    record {
      next = ap (λ (b : Bool). told_at b (i + unwrap_or (position is_newline l) (length l))) (found ∙ t.newline) ∙ ap (told_at (gathered i c l).newline) n;
      cut = ap (λ n. foldl with_byte c (take n l)) (index_or is_newline l) ∙ t.cut;
    }
  where
    go : (b : Bool) → is_some (cond b (Some (index is_newline l)) None) ≡ b
    go true = refl
    go false = refl

    found : is_some (position is_newline l) ≡ ltb (index is_newline l) (length l)
    found = rw index_is (go (ltb (index is_newline l) (length l)))

-- the code's steps: the rest of the block, the place of its newline, how many bytes stand before it
pub gathers : (block rest : List ℕ) (i : ℕ) (c : Cut) (found : Option ℕ) (m : ℕ) (b : Bool) (after : Cut) → rest ≡ drop i block → found ≡ position is_newline rest
    → m ≡ unwrap_or found (length rest) → after ≡ foldl with_byte c (take m rest) → is_some found ≡ b → Gathers (gathered i c (drop i block)) (if b then Ok (i + m) else Err (i + m)) after
unfolding told_at
gathers block rest i c found m b after d e f g k = rw (← k, g, f, e, d) (gathered_at (drop i block) i c)
