-- The head of a line goes to its tail, again and again: what the order is then, told in one go.
use Prim.Native.Nat.{ℕ, zero, suc, ◌+◌, ◌*◌, ◌/◌, ◌%◌, ◌<◌, ◌≤◌}
use mathlib.Core.Path.{◌≡◌, refl, sym, ap, ◌∙◌}
use mathlib.Core.Bool.{Bool, true, false, not, false≢true}
use mathlib.Core.List.{List, [], ◌∷◌, ◌++◌, append_assoc, append-nil}
use native.Mathlib.Nat.{suc-mul, div-add-mod', mod-lt}
use native.Mathlib.Omega.{arith}
use lib.Dec.{ltb}
use lib.ListN.{length, get_or, take, drop, take-append-drop, drop_of_length-le}
use lib.Seq.{take_all, take-suc, drop-cons}
use borrow.Author.Tests.{eq-eqb, ne_eqb, lt-ltb, le-ltb}
use Rattle.std.proofs.Common.{if◌then◌else◌}
use Rattle.lists.specs.Lists.{up_to, kept}
use Rattle.lists.proofs.Loops.{some_more}
use Rattle.lists.proofs.Tests.{kept_within}
use Rattle.numbers.specs.declared.TaskSlot.{TaskSlot}
use Rattle.numbers.specs.Numbers.{task, idle, same_task}
use Rattle.order.specs.Order.{without}
use Rattle.order.specs.Tidy.{count}
use Rattle.order.specs.Turns.{less_those, those_last}
use Rattle.order.proofs.Counts.{count_append, without_none}
use Rattle.order.proofs.CountPassing.{count_kept}
use Rattle.order.proofs.Passing.{kept_append, kept_tail, one_number}

-- each number stands in `xs` at most once
abbrev pub Once : List TaskSlot → Type 0
Once xs = (n : ℕ) → count n xs ≤ 1

pub less_none : (xs : List TaskSlot) → less_those xs [] ≡ xs
unfolding less_those
less_none [] = refl
less_none (x ∷ xs) = refl

without_append : (t : TaskSlot) (xs ys : List TaskSlot) → without t (xs ++ ys) ≡ without t xs ++ without t ys
unfolding without
without_append t [] ys = refl
without_append t (x ∷ xs) ys = go (same_task x t) (without_append t xs ys)
  where
    go : (b : Bool) → without t (xs ++ ys) ≡ without t xs ++ without t ys
        → (if b then without t (xs ++ ys) else x ∷ without t (xs ++ ys)) ≡ (if b then without t xs else x ∷ without t xs) ++ without t ys
    go true ih = ih
    go false ih = rw ih

no_cons : (x : TaskSlot) (hs xs : List TaskSlot) → [] ≡ hs ++ (x ∷ xs) → ⊥
no_cons x [] xs e = let z : ◌≡◌ {A = ℕ} 0 1 = cc in omega arith
no_cons x (a ∷ hs) xs e = let z : ◌≡◌ {A = ℕ} 0 1 = cc in omega arith

module _ (q : TaskSlot → Bool) where
  -- who stands in the line passes
  passes : (l hs bs : List TaskSlot) (t : TaskSlot) → kept q l ≡ hs ++ (t ∷ bs) → q t ≡ true
  unfolding kept
  passes [] hs bs t e = absurd (no_cons t hs bs e)
  passes (x ∷ xs) hs bs t e = go (q x) refl hs e (λ cs f. passes xs cs bs t f)
    where
      go : (b : Bool) → q x ≡ b → (cs : List TaskSlot) → (if b then x ∷ kept q xs else kept q xs) ≡ cs ++ (t ∷ bs)
          → ((ds : List TaskSlot) → kept q xs ≡ ds ++ (t ∷ bs) → q t ≡ true) → q t ≡ true
      go true p [] h ih = let z : x ≡ t = cc in ap q (sym z) ∙ p
      go true p (c ∷ cs) h ih = ih cs cc
      go false p cs h ih = ih cs h

  -- those who pass leave, and those who do not are left
  less_all : (l : List TaskSlot) → less_those l (kept q l) ≡ kept (λ x. not (q x)) l
  unfolding less_those kept
  less_all [] = refl
  less_all (x ∷ xs) = go (q x) refl (kept q xs) refl (less_all xs)
    where
      go : (b : Bool) → q x ≡ b → (ks : List TaskSlot) → kept q xs ≡ ks → less_those xs ks ≡ kept (λ y. not (q y)) xs
          → less_those (x ∷ xs) (if b then x ∷ ks else ks) ≡ (if not b then x ∷ kept (λ y. not (q y)) xs else kept (λ y. not (q y)) xs)
      go true p ks f ih = rw (eq-eqb x.0 x.0 refl) ih
      go false p [] f ih = ap (λ (m : List TaskSlot). x ∷ m) (sym (less_none xs) ∙ ih)
      go false p (k ∷ ks) f ih =
          rw (ne_eqb x.0 k.0 (λ z. false≢true (sym p ∙ ap q (one_number x k z) ∙ passes xs [] ks k f))) (ap (λ (m : List TaskSlot). x ∷ m) ih)

  -- the next of the line leaves
  next_leaves : (l hs bs : List TaskSlot) (t : TaskSlot) → kept q l ≡ hs ++ (t ∷ bs) → Once l → without t (less_those l hs) ≡ less_those l (hs ++ (t ∷ []))
  unfolding less_those kept without count
  next_leaves [] hs bs t e f = absurd (no_cons t hs bs e)
  next_leaves (x ∷ xs) [] bs t e f = go (q x) refl e (next_leaves xs [] bs t)
    where
      go : (b : Bool) → q x ≡ b → (if b then x ∷ kept q xs else kept q xs) ≡ t ∷ bs
          → (kept q xs ≡ t ∷ bs → Once xs → without t (less_those xs []) ≡ less_those xs (t ∷ []))
          → without t (x ∷ xs) ≡ (if same_task x t then less_those xs [] else x ∷ less_those xs (t ∷ []))
      go true p h ih =
          let z : x ≡ t = cc in
          let s : same_task x t ≡ true = eq-eqb x.0 t.0 (ap (λ (v : TaskSlot). v.0) z) in
          let c : count t.0 xs ≡ 0 = omega (arith, rw s at (f t.0)) in
          rw (s, less_none xs) (without_none t xs c)
      go false p h ih =
          let s : same_task x t ≡ false = ne_eqb x.0 t.0 (λ z. false≢true (sym p ∙ ap q (one_number x t z) ∙ passes xs [] bs t h)) in
          rw s (ap (λ (m : List TaskSlot). x ∷ m) (ap (without t) (sym (less_none xs)) ∙ ih h (λ n. omega (arith, f n))))
  next_leaves (x ∷ xs) (a ∷ hs) bs t e f = go (q x) refl e (next_leaves xs hs bs t) (next_leaves xs (a ∷ hs) bs t)
    where
      fewer : Once xs
      fewer n = omega (arith, f n)

      go : (b : Bool) → q x ≡ b → (if b then x ∷ kept q xs else kept q xs) ≡ a ∷ (hs ++ (t ∷ bs))
          → (kept q xs ≡ hs ++ (t ∷ bs) → Once xs → without t (less_those xs hs) ≡ less_those xs (hs ++ (t ∷ [])))
          → (kept q xs ≡ a ∷ (hs ++ (t ∷ bs)) → Once xs → without t (less_those xs (a ∷ hs)) ≡ less_those xs (a ∷ (hs ++ (t ∷ []))))
          → without t (if same_task x a then less_those xs hs else x ∷ less_those xs (a ∷ hs))
          ≡ (if same_task x a then less_those xs (hs ++ (t ∷ [])) else x ∷ less_those xs (a ∷ (hs ++ (t ∷ []))))
      go true p h ih jh =
          let z : x ≡ a = cc in
          let r : kept q xs ≡ hs ++ (t ∷ bs) = cc in
          rw (eq-eqb x.0 a.0 (ap (λ (v : TaskSlot). v.0) z)) (ih r fewer)
      go false p h ih jh =
          let s : same_task x a ≡ false = ne_eqb x.0 a.0 (λ z. false≢true (sym p ∙ ap q (one_number x a z) ∙ passes xs [] (hs ++ (t ∷ bs)) a h)) in
          let r : same_task x t ≡ false = ne_eqb x.0 t.0 (λ z. false≢true (sym p ∙ ap q (one_number x t z) ∙ passes xs (a ∷ hs) bs t h)) in
          rw (s, r) (ap (λ (m : List TaskSlot). x ∷ m) (jh h fewer))

  -- ── one turn, and several
  abbrev rolled_by : List TaskSlot → List TaskSlot → List TaskSlot
  rolled_by [] l = l
  rolled_by (r ∷ m) l = without r l ++ (r ∷ [])

  abbrev pub rolled : List TaskSlot → List TaskSlot
  rolled l = rolled_by (kept q l) l

  abbrev pub rolls : ℕ → List TaskSlot → List TaskSlot
  rolls n l = up_to (λ x i. rolled x) n l

  -- the line after the turn of its head
  rolled_line : (l m : List TaskSlot) (t : TaskSlot) → count t.0 m ≡ 0 → kept q l ≡ t ∷ m → kept q (rolled l) ≡ m ++ (t ∷ [])
  unfolding without
  rolled_line l m t c e =
      let p : q t ≡ true = passes l [] m t e in
      let s : same_task t t ≡ true = eq-eqb t.0 t.0 refl in
      rw e (kept_tail t q q (λ u n. refl) l ∙ rw (e, p, s) (ap (λ (xs : List TaskSlot). xs ++ (t ∷ [])) (without_none t m c)))

  -- ── the first i of the line have had their turn
  module _ (l : List TaskSlot) (f : Once l) where
    abbrev mine : List TaskSlot
    mine = kept q l

    record Turned (i : ℕ) : Type 0 where
      order : rolls i l ≡ those_last l (take i mine)
      line : kept q (rolls i l) ≡ drop i mine ++ take i mine

    once_line : Once mine
    once_line n = rw (count_kept q n l) (go (q (task n)))
      where
        go : (b : Bool) → (if b then count n l else 0) ≤ 1
        go true = f n
        go false = omega arith

    -- one more
    module _ (i : ℕ) (h : i < length mine) where
      abbrev t : TaskSlot
      t = get_or mine i idle

      whole : mine ≡ take i mine ++ (t ∷ drop (suc i) mine)
      whole = sym (take-append-drop i mine) ∙ ap (λ (xs : List TaskSlot). take i mine ++ xs) (drop-cons mine i idle h)

      nowhere_else : count t.0 (take i mine) + count t.0 (drop (suc i) mine) ≡ 0
      unfolding count
      nowhere_else =
          let d = ap (count t.0) whole ∙ count_append t.0 (take i mine) (t ∷ drop (suc i) mine) in
          let s : same_task t t ≡ true = eq-eqb t.0 t.0 refl in
          omega (arith, once_line t.0, rw s at d)

      to_tail : without t (those_last l (take i mine)) ++ (t ∷ []) ≡ those_last l (take (suc i) mine)
      to_tail =
          let out : without t (those_last l (take i mine)) ≡ less_those l (take i mine ++ (t ∷ [])) ++ take i mine =
          without_append t (less_those l (take i mine)) (take i mine)
          ∙ rw (next_leaves l (take i mine) (drop (suc i) mine) t whole f, without_none t (take i mine) (omega (arith, nowhere_else))) in
          ap (λ (xs : List TaskSlot). xs ++ (t ∷ [])) out
          ∙ append_assoc (less_those l (take i mine ++ (t ∷ []))) (take i mine) (t ∷ [])
          ∙ rw (take-suc mine i idle h)

      next_turned : Turned i → Turned (suc i)
      unfolding up_to
      next_turned T =
          let m = drop (suc i) mine ++ take i mine in
          let e : kept q (rolls i l) ≡ t ∷ m = T.line ∙ ap (λ (xs : List TaskSlot). xs ++ take i mine) (drop-cons mine i idle h) in
          let c : count t.0 m ≡ 0 = count_append t.0 (drop (suc i) mine) (take i mine) ∙ omega (arith, nowhere_else) in
          record {
            order = rw e (ap (λ (xs : List TaskSlot). without t xs ++ (t ∷ [])) T.order ∙ to_tail);
            line = rolled_line (rolls i l) m t c e ∙ append_assoc (drop (suc i) mine) (take i mine) (t ∷ []) ∙ rw (take-suc mine i idle h);
          }

    turns_to : (i : ℕ) → i ≤ length mine → Turned i
    unfolding up_to
    turns_to zero h = record { order = rw (append-nil, less_none l); line = rw append-nil }
    turns_to (suc i) h = next_turned i h (turns_to i (omega arith))

    -- all have: those of other lines stand first, and then the line as it was
    round : rolls (length mine) l ≡ those_last l mine
    round = (turns_to (length mine) (omega arith)).order ∙ rw (take_all (length mine) mine (omega arith))

    round_line : kept q (those_last l mine) ≡ mine
    round_line =
        ap (kept q) (sym round) ∙ (turns_to (length mine) (omega arith)).line
        ∙ rw (take_all (length mine) mine (omega arith), drop_of_length-le mine {i = length mine} (omega arith))

    round_counts : (n : ℕ) → count n (those_last l mine) ≡ count n l
    round_counts n =
        rw (less_all l, count_append n (kept (λ x. not (q x)) l) mine, count_kept (λ x. not (q x)) n l, count_kept q n l) (go (q (task n)))
      where
        go : (b : Bool) → (if not b then count n l else 0) + (if b then count n l else 0) ≡ count n l
        go true = omega arith
        go false = omega arith

    once_round : Once (those_last l mine)
    once_round n = omega (arith, round_counts n, f n)

  -- nobody stands in the line and not in it
  neither : (l : List TaskSlot) → kept (λ x. not (q x)) (kept q l) ≡ []
  unfolding kept
  neither [] = refl
  neither (x ∷ xs) = go (q x) refl (neither xs)
    where
      go : (b : Bool) → q x ≡ b → kept (λ y. not (q y)) (kept q xs) ≡ [] → kept (λ y. not (q y)) (if b then x ∷ kept q xs else kept q xs) ≡ []
      go true p ih = rw p ih
      go false p ih = ih

  -- ── any number of turns
  module _ (l : List TaskSlot) (f : Once l) where
    abbrev its : List TaskSlot
    its = kept q l

    abbrev parted : List TaskSlot
    parted = those_last l its

    pub parted_counts : (n : ℕ) → count n parted ≡ count n l
    parted_counts = round_counts l f

    part_line : kept q parted ≡ its
    part_line = round_line l f

    -- parted once, a round leaves it so
    parted_again : those_last parted its ≡ parted
    parted_again =
        let others : less_those parted its ≡ less_those l its =
        ap (less_those parted) (sym part_line) ∙ less_all parted ∙ kept_append (λ x. not (q x)) (less_those l its) its
        ∙ rw (neither l, append-nil, less_all l) (kept_within (λ x. not (q x)) (λ x. not (q x)) (λ x e. e) l) in
        ap (λ (xs : List TaskSlot). xs ++ its) others

    same_round : rolls (length its) parted ≡ parted
    same_round = ap (λ (xs : List TaskSlot). rolls (length xs) parted) (sym part_line) ∙ round parted (once_round l f) ∙ ap (those_last parted) part_line ∙ parted_again

    rounds : (j m : ℕ) → rolls (j * length its + m) parted ≡ rolls m parted
    rounds zero m = let e : 0 * length its + m ≡ m = omega arith in ap (λ (i : ℕ). rolls i parted) e
    rounds (suc j) m =
        let e : suc j * length its + m ≡ length its + (j * length its + m) = omega (arith, suc-mul j (length its)) in
        some_more rolled parted (length its) (j * length its + m) (suc j * length its + m) e ∙ ap (rolls (j * length its + m)) same_round ∙ rounds j m

    -- what n turns make of the order and of the line
    pub record AtOnce (n : ℕ) : Type 0 where
      pub order : rolls n l ≡ those_last (if ltb n (length its) then l else parted) (take (n % length its) its)
      pub line : kept q (rolls n l) ≡ drop (n % length its) its ++ take (n % length its) its

    pub rolls_at_once : (n : ℕ) → 0 < length its → AtOnce n
    rolls_at_once n some = go (n / length its) (div-add-mod' n (length its))
      where
        m : ℕ
        m = n % length its

        low : m < length its
        low = mod-lt n some

        go : (j : ℕ) → j * length its + m ≡ n → AtOnce n
        go zero e =
            let z : n ≡ m = sym e ∙ omega arith in
            let T = turns_to l f m (omega (arith, low)) in
            record { order = rw (lt-ltb n (length its) (omega (arith, low))) (ap (λ (i : ℕ). rolls i l) z ∙ T.order); line = ap (λ (i : ℕ). kept q (rolls i l)) z ∙ T.line }
        go (suc j) e =
            let z : n ≡ length its + (j * length its + m) = omega (arith, e, suc-mul j (length its)) in
            let T = turns_to parted (once_round l f) m (rw part_line (omega (arith, low))) in
            let r : rolls n l ≡ rolls m parted = some_more rolled l (length its) (j * length its + m) n z ∙ ap (rolls (j * length its + m)) (round l f) ∙ rounds j m in
            record {
              order = rw (le-ltb n (length its) (omega arith)) (r ∙ T.order ∙ ap (λ (xs : List TaskSlot). those_last parted (take m xs)) part_line);
              line = ap (kept q) r ∙ T.line ∙ ap (λ (xs : List TaskSlot). drop m xs ++ take m xs) part_line;
            }
