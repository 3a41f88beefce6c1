-- The laws of a number in a line: what the reader takes is the number's digits, and it takes them all.
use Prim.Native.Nat.{ℕ, zero, suc, ◌+◌, ◌*◌, ◌/◌, ◌%◌, ◌<◌, ◌≤◌}
use mathlib.Core.Path.{◌≡◌, refl, sym, ap, ◌∙◌}
use mathlib.Core.Logic.{◌⊎◌, inl, inr, ⊎_elim}
use mathlib.Core.List.{List, [], ◌∷◌, ◌++◌, append_assoc}
use native.Mathlib.Omega.{arith}
use lib.ListN.{length, drop, get_or, length-append}
use borrow.Author.Tests.{lt-ltb, le-ltb, eq-eqb, ne_eqb}
use Rattle.fields.specs.Decimal.{digits, dec}
use Rattle.fields.specs.Digit.{among, digit_of}
use Rattle.std.specs.Prelude.{Option}
use Rattle.std.specs.Option.{unwrap_or}
use Rattle.fields.specs.declared.Number.{Number}
use Rattle.fields.specs.Number.{grow, got, more, read_number}
use Rattle.lists.proofs.Tests.{below_or}
use Rattle.fields.proofs.LinePlaces.{past}

-- the numbers of up to k + 1 digits lie below it
abbrev tens : ℕ → ℕ
tens zero = 10
tens (suc k) = 10 * tens k

-- ---- the digits

digits_small : (k n : ℕ) → n < 10 → digits k n ≡ (48 + n) ∷ []
unfolding digits
digits_small zero n h = let e : n % 10 ≡ n = omega arith in rw e
digits_small (suc k) n h = rw (lt-ltb n 10 h)

digits_step : (k n : ℕ) → 10 ≤ n → digits (suc k) n ≡ digits k (n / 10) ++ ((48 + n % 10) ∷ [])
unfolding digits
digits_step k n h = rw (le-ltb n 10 h)

digits_more : (k n : ℕ) → n < tens k → digits (suc k) n ≡ digits k n
digits_more zero n h = digits_small 1 n h ∙ sym (digits_small 0 n h)
digits_more (suc k) n h =
    ⊎_elim (λ a. digits_small (suc (suc k)) n a ∙ sym (digits_small (suc k) n a))
    (λ b.
    digits_step (suc k) n b
    ∙ ap (λ (l : List ℕ). l ++ ((48 + n % 10) ∷ [])) (digits_more k (n / 10) (omega arith))
    ∙ sym (digits_step k n b))
    (below_or n 10)

digits-length : (k n : ℕ) → length (digits k n) ≤ k + 1
unfolding digits
digits-length zero n = omega arith
digits-length (suc k) n =
    ⊎_elim (λ (a : n < 10). rw (lt-ltb n 10 a) (omega arith))
    (λ (a : 10 ≤ n). rw (le-ltb n 10 a) (omega (arith, length-append (digits k (n / 10)) ((48 + n % 10) ∷ []), digits-length k (n / 10))))
    (below_or n 10)

pub dec-length : (n : ℕ) → length (dec n) ≤ 20
unfolding dec
dec-length n = digits-length 19 n

pub dec_small : (n : ℕ) → n < 10 → dec n ≡ (48 + n) ∷ []
unfolding dec
dec_small n h = digits_small 19 n h

pub dec_step : (n : ℕ) → 10 ≤ n → n < 18446744073709551616 → dec n ≡ dec (n / 10) ++ ((48 + n % 10) ∷ [])
unfolding dec
dec_step n h b = digits_step 18 n h ∙ ap (λ (l : List ℕ). l ++ ((48 + n % 10) ∷ [])) (sym (digits_more 18 (n / 10) (omega arith)))

dec_snoc : (v d : ℕ) → 0 < v → d < 10 → v * 10 + d < 18446744073709551616 → dec (v * 10 + d) ≡ dec v ++ ((48 + d) ∷ [])
dec_snoc v d p h b =
    let q : (v * 10 + d) / 10 ≡ v = omega arith in
    let r : (v * 10 + d) % 10 ≡ d = omega arith in
    let e : dec (v * 10 + d) ≡ dec ((v * 10 + d) / 10) ++ ((48 + (v * 10 + d) % 10) ∷ []) = dec_step (v * 10 + d) (omega arith) b in
    rw (q, r) at e

-- ---- one digit

digit_of_lem : (d : ℕ) → d < 10 → digit_of (48 + d) ≡ d
unfolding among
digit_of_lem d h = rw (le-ltb (48 + d) 48 (omega arith), le-ltb 57 (48 + d) (omega arith)) (omega arith)

digit_is : (x : ℕ) → digit_of x < 256 → (digit_of x < 10) × (x ≡ 48 + digit_of x)
unfolding among
digit_is x = go (below_or x 48) (below_or 57 x)
  where
    go : (x < 48) ⊎ (48 ≤ x) → (57 < x) ⊎ (x ≤ 57) → digit_of x < 256 → (digit_of x < 10) × (x ≡ 48 + digit_of x)
    go (inl a) b = rw (lt-ltb x 48 a) (λ h. absurd (omega arith))
    go (inr a) (inl b) = rw (le-ltb x 48 a, lt-ltb 57 x b) (λ h. absurd (omega arith))
    go (inr a) (inr b) = rw (le-ltb x 48 a, le-ltb 57 x b) (λ h. (omega arith, omega arith))

grow_to : (v d : ℕ) → d < 10 → v * 10 + d < 4294967296 → grow v (48 + d) ≡ v * 10 + d
unfolding grow
grow_to v d h b = rw (digit_of_lem d h, lt-ltb d 256 (omega arith)) (omega arith)

grow_stop : (v x : ℕ) → digit_of x ≡ 256 → grow v x ≡ 4294967296
unfolding grow
grow_stop v x e = rw e

grow_is : (v x : ℕ) → grow v x < 4294967296 → (digit_of x < 256) × (grow v x ≡ v * 10 + digit_of x)
unfolding grow
grow_is v x = go (below_or (digit_of x) 256)
  where
    go : (digit_of x < 256) ⊎ (256 ≤ digit_of x) → grow v x < 4294967296 → (digit_of x < 256) × (grow v x ≡ v * 10 + digit_of x)
    go (inl a) = rw (lt-ltb (digit_of x) 256 a) (λ h. (a, omega arith))
    go (inr a) = rw (le-ltb (digit_of x) 256 a) (λ h. absurd (omega arith))

-- ---- what is read is the number's digits

module _ (line : List ℕ) where
  -- the digits of w stand before the place j
  abbrev Ends : List ℕ → ℕ → ℕ → Type 0
  Ends l w j = (l ≡ dec w ++ drop j line) × (w ≤ 4294967295)

  -- nothing more is taken
  stopped : (l : List ℕ) (v i w j : ℕ) → drop i line ≡ l → v < 4294967296 → got v i ≡ got w j → Ends (dec v ++ l) w j
  stopped l v i w j d b e =
      let p : v ≡ w = ap (λ (r : Option Number). (unwrap_or r record { value = v; next = i }).value) e in
      let q : i ≡ j = ap (λ (r : Option Number). (unwrap_or r record { value = v; next = i }).next) e in
      (rw (p, ← q, d), omega arith)

  next : (i x : ℕ) (l : List ℕ) → drop i line ≡ x ∷ l → drop (i + 1) line ≡ l
  next i x l d = past line i (x ∷ []) l d

  -- the law for one digit more, from the law for what is left
  grows : (x : ℕ) (l : List ℕ) (v i w j : ℕ) → drop i line ≡ x ∷ l → 0 < v → v < 4294967296
      → ((u : ℕ) → 0 < u → u < 4294967296 → more u (i + 1) l ≡ got w j → Ends (dec u ++ l) w j)
      → more v i (x ∷ l) ≡ got w j → Ends (dec v ++ (x ∷ l)) w j
  grows x l v i w j d p b ih = go (below_or (grow v x) 4294967296)
    where
      go : (grow v x < 4294967296) ⊎ (4294967296 ≤ grow v x) → more v i (x ∷ l) ≡ got w j → Ends (dec v ++ (x ∷ l)) w j
      go (inl a) = rw (lt-ltb (grow v x) 4294967296 a) (λ e.
          let g = grow_is v x a in
          let q = digit_is x g.0 in
          let s = ih (grow v x) (omega (arith, g.1)) a e in
          let t : dec (grow v x) ≡ dec v ++ (x ∷ []) =
          ap dec g.1 ∙ dec_snoc v (digit_of x) p q.0 (omega (arith, g.1)) ∙ ap (λ (y : ℕ). dec v ++ (y ∷ [])) (sym q.1) in
          (sym (append_assoc (dec v) (x ∷ []) l) ∙ ap (λ (h : List ℕ). h ++ l) (sym t) ∙ s.0, s.1))
      go (inr a) = rw (le-ltb (grow v x) 4294967296 a) (stopped (x ∷ l) v i w j d b)

  more_ends : (l : List ℕ) (v i w j : ℕ) → drop i line ≡ l → 0 < v → v < 4294967296 → more v i l ≡ got w j → Ends (dec v ++ l) w j
  more_ends [] v i w j d p b e = stopped [] v i w j d b e
  more_ends (x ∷ l) v i w j d p b e = grows x l v i w j d p b (λ u k f. more_ends l u (i + 1) w j (next i x l d) k f) e

  number_ends : (l : List ℕ) (i w j : ℕ) → drop i line ≡ l → read_number i l ≡ got w j → Ends l w j
  number_ends [] i w j d e = let z : ◌≡◌ {A = ℕ} 0 1 = cc in absurd (omega arith)
  number_ends (x ∷ l) i w j d e = go (below_or (digit_of x) 256) (below_or 0 (digit_of x)) e
    where
      first : digit_of x < 256 → x ∷ l ≡ dec (digit_of x) ++ l
      first a =
          let q = digit_is x a in
          ap (λ (y : ℕ). y ∷ l) q.1 ∙ ap (λ (h : List ℕ). h ++ l) (sym (dec_small (digit_of x) q.0))

      go : (digit_of x < 256) ⊎ (256 ≤ digit_of x) → (0 < digit_of x) ⊎ (digit_of x ≤ 0) → read_number i (x ∷ l) ≡ got w j → Ends (x ∷ l) w j
      go (inl a) (inl p) = rw (lt-ltb (digit_of x) 256 a, ne_eqb (digit_of x) 0 (omega arith)) (λ e.
          let s = more_ends l (digit_of x) (i + 1) w j (next i x l d) p (omega arith) e in
          (first a ∙ s.0, s.1))
      go (inl a) (inr p) = rw (lt-ltb (digit_of x) 256 a, eq-eqb (digit_of x) 0 (omega arith)) (λ e.
          let z : digit_of x ≡ 0 = omega arith in
          let s = stopped l 0 (i + 1) w j (next i x l d) (omega arith) e in
          (first a ∙ ap (λ (v : ℕ). dec v ++ l) z ∙ s.0, s.1))
      go (inr a) p = rw (le-ltb (digit_of x) 256 a) (λ e. let z : ◌≡◌ {A = ℕ} 0 1 = cc in absurd (omega arith))

  pub number_front : (at w j : ℕ) → read_number at (drop at line) ≡ got w j → (drop at line ≡ dec w ++ drop j line) × (w ≤ 4294967295)
  number_front at w j e = number_ends (drop at line) at w j refl e

-- ---- a number's digits are read whole

-- what comes next is no digit
abbrev pub Stops : List ℕ → Type 0
Stops l = digit_of (get_or l 0 10) ≡ 256

more_stops : (v i : ℕ) (l : List ℕ) → Stops l → more v i l ≡ got v i
more_stops v i [] s = refl
more_stops v i (t ∷ l) s = rw (grow_stop v t s)

last_digit : (n i : ℕ) (l : List ℕ) → n < 4294967296 → more (n / 10) i ((48 + n % 10) ∷ l) ≡ more n (i + 1) l
last_digit n i l f =
    let e : n / 10 * 10 + n % 10 ≡ n = omega arith in
    let g : grow (n / 10) (48 + n % 10) ≡ n = grow_to (n / 10) (n % 10) (omega arith) (omega arith) ∙ e in
    rw (g, lt-ltb n 4294967296 f)

one_digit : (n i : ℕ) (l : List ℕ) → 0 < n → n < 10 → read_number i ((48 + n) ∷ l) ≡ more n (i + 1) l
one_digit n i l p b = rw (digit_of_lem n b, lt-ltb n 256 (omega arith), ne_eqb n 0 (omega arith))

number_digits : (k n i : ℕ) (l : List ℕ) → 0 < n → n < tens k → n < 4294967296 → read_number i (digits k n ++ l) ≡ more n (i + length (digits k n)) l
number_digits zero n i l p b f = rw (digits_small 0 n b) (one_digit n i l p b)
number_digits (suc k) n i l p b f =
    ⊎_elim (λ (a : n < 10). rw (digits_small (suc k) n a) (one_digit n i l p a))
    (λ (a : 10 ≤ n).
    let d : List ℕ = (48 + n % 10) ∷ [] in
    let e : i + length (digits k (n / 10)) + 1 ≡ i + length (digits k (n / 10) ++ d) = omega (arith, length-append (digits k (n / 10)) d) in
    rw (digits_step k n a)
    (ap (read_number i) (append_assoc (digits k (n / 10)) d l)
    ∙ number_digits k (n / 10) i ((48 + n % 10) ∷ l) (omega arith) (omega arith) (omega arith)
    ∙ last_digit n (i + length (digits k (n / 10))) l f
    ∙ ap (λ (m : ℕ). more n m l) e))
    (below_or n 10)

pub number_whole : (n i : ℕ) (l : List ℕ) → n ≤ 4294967295 → Stops l → read_number i (dec n ++ l) ≡ got n (i + length (dec n))
unfolding dec
number_whole n i l b s =
    ⊎_elim (λ (p : 0 < n). number_digits 19 n i l p (omega arith) (omega arith) ∙ more_stops n (i + length (digits 19 n)) l s)
    (λ (z : n ≤ 0). let e : n ≡ 0 = omega arith in rw (e, digits_small 19 0 (omega arith), digit_of_lem 0 (omega arith)))
    (below_or 0 n)
