-- Loops over columns: sixteen numbers taken in turn, and the list of rows that they stand for.
use Rattle.std.proofs.Common.{◌≡◌, ℕ, zero, suc, ◌+◌, ◌<◌, ◌≤◌, Bool, true, false, ◌||◌, eqb, List, [], ◌∷◌, map, length, get_or, drop, set, sym, refl, ap, ◌∙◌, arith, length-set, drop_of_length-le, drop-cons, get_or-set_other, get_or-set_same, ext_get_or, eqb-true, if◌then◌else◌}
use borrow.Author.Tests.{eqb-false}
use Rattle.lists.specs.Lists.{foldl, index, any, up_to, values}
use Rattle.lists.proofs.Loops.{values_many, value_at}

-- a store to a list, seen through a function of its elements
pub map-set : {A B : Type 0} (f : A → B) (xs : List A) (n : ℕ) (x : A) → set (map f xs) n (f x) ≡ map f (set xs n x)
map-set f [] n x = refl
map-set f (y ∷ ys) zero x = refl
map-set {B = B} f (y ∷ ys) (suc n) x = ap (λ (zs : List B). f y ∷ zs) (map-set f ys n x)

-- the rows that are read at 0, 1, .. of a list
pub values_of : {A : Type 0} (f : ℕ → A) (xs : List A) (d : A) → ((i : ℕ) → f i ≡ get_or xs i d) → values f (length xs) ≡ xs
unfolding values
values_of f [] d e = refl
values_of f (x ∷ xs) d e = λ j. e 0 j ∷ values_of (λ i. f (suc i)) xs d (λ i. e (suc i)) j

-- taking the numbers in turn is taking the rows, where each number does what its row does
module _ {A B : Type 0} (f : B → A → B) (g : B → ℕ → B) (xs : List A) (d : A) (same : (b : B) (i : ℕ) → i < length xs → g b i ≡ f b (get_or xs i d)) (b : B) where
  so_far : (i : ℕ) → i ≤ length xs → foldl f (up_to g i b) (drop i xs) ≡ foldl f b xs
  unfolding up_to foldl
  so_far zero h = refl
  so_far (suc i) h =
      ap (λ (c : B). foldl f c (drop (suc i) xs)) (same (up_to g i b) i h)
      ∙ sym (ap (λ (l : List A). foldl f (up_to g i b) l) (drop-cons xs i d h))
      ∙ so_far i (omega arith)

  pub by_rows : (n : ℕ) → length xs ≡ n → up_to g n b ≡ foldl f b xs
  unfolding foldl
  by_rows n e =
      let l : n ≤ length xs = omega arith in
      let m : length xs ≤ n = omega arith in
      sym (ap (λ (l : List A). foldl f (up_to g n b) l) (drop_of_length-le xs m)) ∙ so_far n l

any_by : {A : Type 0} (p : A → Bool) (b : Bool) (xs : List A) → foldl (λ c x. c || p x) b xs ≡ (b || any p xs)
unfolding foldl any
any_by p b [] = or_false b
  where
    or_false : (c : Bool) → c ≡ (c || false)
    or_false true = refl
    or_false false = refl
any_by p b (x ∷ xs) = any_by p (b || p x) xs ∙ assoc b (p x) (any p xs)
  where
    assoc : (a c e : Bool) → ((a || c) || e) ≡ (a || (c || e))
    assoc true c e = refl
    assoc false c e = refl

-- some row passes
pub some_row : {A : Type 0} (p : A → Bool) (q : ℕ → Bool) (xs : List A) (d : A) (n : ℕ) → length xs ≡ n → ((i : ℕ) → i < length xs → q i ≡ p (get_or xs i d)) → up_to (λ b i. b || q i) n false ≡ any p xs
some_row p q xs d n l e = by_rows (λ b x. b || p x) (λ b i. b || q i) xs d (λ b i h. rw (e i h)) false n l ∙ any_by p false xs

-- the first row that passes
pub first_row : {A B : Type 0} (p : A → Bool) (q : B → Bool) (xs : List A) (ys : List B) (d : A) (e : B) → length xs ≡ length ys
    → ((i : ℕ) → i < length ys → p (get_or xs i d) ≡ q (get_or ys i e)) → index q ys ≡ index p xs
unfolding index
first_row p q [] [] d e l h = refl
first_row p q [] (y ∷ ys) d e l h = absurd (omega arith)
first_row p q (x ∷ xs) [] d e l h = absurd (omega arith)
first_row p q (x ∷ xs) (y ∷ ys) d e l h =
    ap (λ (b : Bool). if b then 0 else suc (index q ys)) (sym (h 0 (omega arith)))
    ∙ ap (λ (n : ℕ). if p x then 0 else suc n) (first_row p q xs ys d e (omega arith) (λ i k. h (suc i) (omega arith)))

-- how many pass: at most one more at a time; and none where there are none
pub one_few : (b : Bool) {n : ℕ} → n ≡ (if b then 1 else 0) → n ≤ 1
one_few true e = omega arith
one_few false e = omega arith

pub none_counted : (p : ℕ → Bool) (n : ℕ) → up_to (λ m i. m + (if p i then 1 else 0)) n 0 ≡ 0 → (i : ℕ) → i < n → p i ≡ false
unfolding up_to
none_counted p zero e i l = absurd (omega arith)
none_counted p (suc n) e i l = go (eqb i n) refl (p n) refl (none_counted p n (omega arith) i)
  where
    go : (b : Bool) → eqb i n ≡ b → (d : Bool) → p n ≡ d → (i < n → p i ≡ false) → p i ≡ false
    go true q true r ih = absurd (omega (arith, rw r at e))
    go true q false r ih = rw (eqb-true i n q) r
    go false q d r ih = ih (omega (arith, eqb-false i n q))

-- a loop that fills a column of sixteen has filled those below i
pub record Filled {A : Type 0} (f : ℕ → A) (d : A) (out : List A) (i : ℕ) : Type 0 where
  pub wide : length out ≡ 16
  pub filled : (n : ℕ) → n < i → get_or out n d ≡ f n

module _ {A : Type 0} {f : ℕ → A} {d : A} where
  pub fill_begin : {out : List A} → length out ≡ 16 → Filled f d out 0
  fill_begin l = record { wide = l; filled = λ n h. absurd (omega arith) }

  pub fill_turn : {out : List A} {i : ℕ} → Filled f d out i → i < 16 → (v : A) → v ≡ f i → Filled f d (set out i v) (i + 1)
  fill_turn {out} {i} inv l v e = record { wide = rw length-set inv.wide; filled = λ n h. go n h (eqb n i) refl }
    where
      go : (n : ℕ) → n < i + 1 → (b : Bool) → eqb n i ≡ b → get_or (set out i v) n d ≡ f n
      go n h true q = rw (eqb-true n i q, get_or-set_same out i v d (omega (arith, inv.wide))) e
      go n h false q = get_or-set_other out i n v d (eqb-false n i q) ∙ inv.filled n (omega (arith, eqb-false n i q))

  pub fill_each : {out : List A} {i : ℕ} → Filled f d out i → 16 ≤ i → (n : ℕ) → n < 16 → get_or out n d ≡ f n
  fill_each inv h n l = inv.filled n (omega arith)

  -- and has all of them at the end
  pub fill_values : {out : List A} {i : ℕ} → Filled f d out i → 16 ≤ i → out ≡ values f 16
  fill_values {out} inv h =
      ext_get_or d out (values f 16) (inv.wide ∙ sym (values_many f 16)) (λ n l. inv.filled n (omega (arith, inv.wide)) ∙ sym (value_at f 16 n d (omega (arith, inv.wide))))
