-- The copy, for every length; and a part of the store that is lent and comes back.
use Prim.Native.Nat.{ℕ, suc, ◌+◌, ◌-◌, ◌≤◌, min}
use mathlib.Core.Path.{◌≡◌, refl, sym, ap, ◌∙◌}
use mathlib.Core.Bool.{Bool, true, false}
use mathlib.Core.List.{List, [], ◌∷◌, ◌++◌, append-nil}
use native.Mathlib.Nat.{zero-add, add-zero}
use native.Mathlib.Omega.{arith}
use lib.Dec.{ltb}
use lib.ListN.{length, set, take, drop, replicate, length-take, length-drop, length-set, take-append-drop, drop_of_length-le}
use lib.Seq.{sets, length-sets, take-nil, take_all, take-add, take-append-le, drop-append-le, drop-drop, set_out, set-append_left, sets-eq, take_at}
use borrow.Author.Tests.{ltb-true, ltb-false}
use Rattle.items.specs.Bytes.{bytes_at, put_at}

-- bytes set behind the others
sets_append : (vs ws l : List ℕ) (i : ℕ) → sets l i (vs ++ ws) ≡ sets (sets l i vs) (i + length vs) ws
sets_append [] ws l i = rw add-zero
sets_append (v ∷ vs) ws l i =
    let e : suc i + length vs ≡ i + suc (length vs) = omega arith in
    sets_append vs ws (set l i v) (suc i) ∙ ap (λ n. sets (sets (set l i v) (suc i) vs) n ws) e

-- past the end nothing is set
pub sets_past : (vs l : List ℕ) (i : ℕ) → length l ≤ i → sets l i vs ≡ l
sets_past [] l i h = refl
sets_past (v ∷ vs) l i h = rw (set_out l i v h) (sets_past vs l (suc i) (omega arith))

-- nothing is left to copy at the least of the three
copied : (d xs : List ℕ) (n i : ℕ) → i ≡ min n (min (length d) (length xs)) → sets d 0 (take i xs) ≡ sets d 0 (take n xs)
copied d xs n i q = go (ltb i n) refl (ltb i (length xs)) refl
  where
    go : (b : Bool) → ltb i n ≡ b → (c : Bool) → ltb i (length xs) ≡ c → sets d 0 (take i xs) ≡ sets d 0 (take n xs)
    go false e c f = let m : n ≡ i = omega (arith, ltb-false i n e) in rw m
    go true e false f =
        let a : length xs ≤ i = ltb-false i (length xs) f in
        let b : length xs ≤ n = omega (arith, ltb-true i n e) in
        rw (take_all i xs a, take_all n xs b)
    go true e true f =
        let m : n ≡ i + (n - i) = omega (arith, ltb-true i n e) in
        let w : length (take i xs) ≡ i = rw length-take (omega (arith, ltb-true i (length xs) f)) in
        let past : length (sets d 0 (take i xs)) ≤ i = rw length-sets (omega (arith, ltb-true i (length xs) f, ltb-true i n e)) in
        sym (ap (λ z. sets d 0 (take z xs)) m
        ∙ rw (take-add i (n - i) xs, sets_append (take i xs) (take (n - i) (drop i xs)) d 0, w, zero-add) (sets_past (take (n - i) (drop i xs)) (sets d 0 (take i xs)) i past))

pub put_first : (d xs : List ℕ) (n e : ℕ) (r : List ℕ) → e ≡ min n (min (length d) (length xs)) → r ≡ take e xs → r ++ drop e d ≡ sets d 0 (take n xs)
put_first d xs n e r h q =
    let w : length (take e xs) ≡ e = rw length-take (omega arith) in
    let f : 0 + length (take e xs) ≤ length d = omega arith in
    let m : 0 + length (take e xs) ≡ e = omega arith in
    rw (q, ← copied d xs n e h, sets-eq (take e xs) d 0 f, m)

-- from a place on to the end, as a part that is lent
pub tail_part : (xs : List ℕ) (at : ℕ) → take (length xs - at) (drop at xs) ≡ drop at xs
tail_part xs at =
    let h : length (drop at xs) ≤ length xs - at = rw length-drop (omega arith) in
    take_all (length xs - at) (drop at xs) h

set_behind : (p q : List ℕ) (i a : ℕ) → set (p ++ q) (length p + i) a ≡ p ++ set q i a
set_behind [] q i a = rw zero-add
set_behind (x ∷ p) q i a = let e : suc (length p) + i ≡ suc (length p + i) = omega arith in ap (λ n. set (x ∷ (p ++ q)) n a) e ∙ ap (λ (l : List ℕ). x ∷ l) (set_behind p q i a)

sets_behind : (vs p q : List ℕ) (i : ℕ) → sets (p ++ q) (length p + i) vs ≡ p ++ sets q i vs
sets_behind [] p q i = refl
sets_behind (v ∷ vs) p q i =
    let e : suc (length p + i) ≡ length p + suc i = omega arith in
    ap (λ (l : List ℕ). sets l (suc (length p + i)) vs) (set_behind p q i v)
    ∙ ap (λ n. sets (p ++ set q i v) n vs) e
    ∙ sets_behind vs p (set q i v) (suc i)

-- the part comes back with bytes set over its first
pub put_back : (xs vs ys : List ℕ) (at : ℕ) → at ≤ length xs → ys ≡ sets (take (length xs - at) (drop at xs)) 0 vs
    → take at xs ++ (ys ++ drop (length xs - at) (drop at xs)) ≡ put_at at vs xs
unfolding put_at
put_back xs vs ys at h e =
    let g : length (drop at xs) ≤ length xs - at = rw length-drop (omega arith) in
    let m : length (take at xs) + 0 ≡ at = rw length-take (omega arith) in
    rw (e, tail_part xs at, drop_of_length-le (drop at xs) g, append-nil)
    (sym (ap (λ (l : List ℕ). sets l at vs) (sym (take-append-drop at xs)) ∙ ap (λ n. sets (take at xs ++ drop at xs) n vs) (sym m) ∙ sets_behind vs (take at xs) (drop at xs) 0))

pub put_past : (xs vs : List ℕ) (at : ℕ) → length xs ≤ at → xs ≡ put_at at vs xs
unfolding put_at
put_past xs vs at h = sym (sets_past vs xs at h)

-- bytes set before others
sets_before : (vs p q : List ℕ) (i : ℕ) → i + length vs ≤ length p → sets (p ++ q) i vs ≡ sets p i vs ++ q
sets_before [] p q i h = refl
sets_before (v ∷ vs) p q i h =
    let l : suc i + length vs ≤ length (set p i v) = rw length-set (omega arith) in
    ap (λ (m : List ℕ). sets m (suc i) vs) (set-append_left p q i v (omega arith)) ∙ sets_before vs (set p i v) q (suc i) l

-- the bytes that a buffer of 64 holds
held : (bs : List ℕ) (n : ℕ) → n ≤ 64 → length bs ≡ n → take n (put_at 0 bs (replicate 64 0)) ≡ bs
unfolding put_at
held bs n h l =
    let f : 0 + length bs ≤ 64 = omega arith in
    rw (sets-eq bs (replicate 64 0) 0 f) (take_at bs (drop (0 + length bs) (replicate 64 0)) n l)

-- what a buffer holds that was filled from the part behind a place, and where there is none
pub from_tail : (xs r : List ℕ) (at n : ℕ) → r ≡ sets (replicate 64 0) 0 (take n (take (length xs - at) (drop at xs))) → r ≡ put_at 0 (bytes_at at n xs) (replicate 64 0)
unfolding bytes_at put_at
from_tail xs r at n e = e ∙ ap (λ (l : List ℕ). sets (replicate 64 0) 0 (take n l)) (tail_part xs at)

pub from_none : (xs : List ℕ) (at n : ℕ) → length xs ≤ at → replicate 64 0 ≡ put_at 0 (bytes_at at n xs) (replicate 64 0)
unfolding bytes_at put_at
from_none xs at n h = sym (ap (λ (l : List ℕ). sets (replicate 64 0) 0 l) (ap (take n) (drop_of_length-le xs h) ∙ take-nil n))

-- the part of the store from a place up to an end, lent to a copy: an item that fits it is put into the store itself, and "All other bytes stay"; it is read as it stands in the store
module _ (xs : List ℕ) (from end : ℕ) (up : from ≤ end) (fits : end ≤ length xs) where
  abbrev part : List ℕ
  part = take (end - from) (drop from xs)

  abbrev behind : List ℕ
  behind = drop (end - from) (drop from xs)

  part_length : length part ≡ end - from
  part_length = rw (length-take, length-drop) (omega arith)

  three : xs ≡ take from xs ++ (part ++ behind)
  three = rw (take-append-drop (end - from) (drop from xs), take-append-drop from xs)

  pub part_put : (ys item : List ℕ) (n at to : ℕ) → from + at ≡ to → to + n ≤ end → ys ≡ put_at at (take n item) part
      → take from xs ++ (ys ++ behind) ≡ put_at to (take n item) xs
  unfolding put_at
  part_put ys item n at to p h e =
      let m : length (take from xs) + at ≡ to = rw length-take (omega arith) in
      let l : at + length (take n item) ≤ length part = rw (part_length, length-take) (omega arith) in
      rw e
      (sym (ap (λ (z : List ℕ). sets z to (take n item)) three
      ∙ ap (λ i. sets (take from xs ++ (part ++ behind)) i (take n item)) (sym m)
      ∙ sets_behind (take n item) (take from xs) (part ++ behind) at
      ∙ ap (λ (z : List ℕ). take from xs ++ z) (sets_before (take n item) part behind at l)))

  part_bytes : (at to n : ℕ) → from + at ≡ to → to + n ≤ end → bytes_at at n part ≡ bytes_at to n xs
  unfolding bytes_at
  part_bytes at to n p h =
      let l : at ≤ length part = rw part_length (omega arith) in
      let m : n ≤ length (drop at part) = rw (length-drop, part_length) (omega arith) in
      sym (ap (λ i. take n (drop i xs)) (sym p)
      ∙ ap (take n) (sym (drop-drop at from xs) ∙ ap (drop at) (sym (take-append-drop (end - from) (drop from xs))) ∙ drop-append-le at part behind l)
      ∙ take-append-le n (drop at part) behind m)

  pub part_fetch : (r : List ℕ) (n at to : ℕ) → from + at ≡ to → to + n ≤ end → n ≤ 64
      → r ≡ put_at 0 (bytes_at at n part) (replicate 64 0) → take n r ≡ bytes_at to n xs
  unfolding bytes_at
  part_fetch r n at to p h s e =
      let l : length (bytes_at at n part) ≡ n = rw (length-take, length-drop, part_length) (omega arith) in
      ap (take n) e ∙ held (bytes_at at n part) n s l ∙ part_bytes at to n p h
