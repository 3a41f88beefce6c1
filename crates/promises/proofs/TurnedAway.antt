-- A step is refused n exactly if row n is the first of the table that applies; then nothing has changed. Else it is accepted.
use Prim.Native.Nat.{ℕ}
use mathlib.Core.Path.{◌≡◌, refl, sym, ap, subst, ◌∙◌}
use mathlib.Core.Bool.{Bool, true, false, not, ◌&&◌, false≢true}
use mathlib.Core.Logic.{inl, inr}
use mathlib.Core.List.{List, [], ◌∷◌}
use native.Mathlib.Omega.{arith}
use lib.Dec.{eqb}
use lib.ListN.{length}
use borrow.Author.Tests.{eqb-true, eqb-false, eq-eqb, ne_eqb}
use Rattle.std.proofs.Common.{if◌then◌else◌}
use Rattle.calls.specs.Behind.{asked}
use Rattle.calls.specs.Said.{done, made, waiting, refused, Saying, says}
use Rattle.slots.specs.Places.{is_blocked}
use Rattle.slots.specs.Values.{task_at}
use Rattle.rules.specs.Lines.{chosen}
use Rattle.rules.specs.Sound.{sound}
use Rattle.rows.specs.Asking.{makes}
use Rattle.rules.specs.Refusals.{new_slot}
use Rattle.rows.proofs.InTurn.{all_numbered}
use Rattle.rows.specs.Applies.{Row, first_row, table}
use Rattle.rules.specs.Refusals.{seen, later_row, refusal}
use Rattle.rules.specs.Steps.{Stepped, new_number, answered, after, accepted, turned_away, step}
use Rattle.promises.specs.Types.{Asked, Call, State}
use Rattle.promises.specs.TurnedAway.{whole_table, First, this_row, below, None, end, not_this_row, Refusal, Accepted, Exactly, Decided}

-- ── the first row that applies, as a number and as a proposition
pub first_is : {n : ℕ} {rs : List Row} → First n rs → first_row rs ≡ n
first_is (this_row e a) = rw a e
first_is (below a f) = rw a (first_is f)

none_is : {rs : List Row} → None rs → first_row rs ≡ 0
none_is end = refl
none_is (not_this_row a f) = rw a (none_is f)

is_first : (n : ℕ) (rs : List Row) → first_row rs ≡ n → (n ≡ 0 → ⊥) → First n rs
is_first n [] e z = absurd (z (sym e))
is_first n (r ∷ rs) e z = go r.applies refl e (λ q. is_first n rs q z)
  where
    go : (b : Bool) → r.applies ≡ b → (if b then r.number else first_row rs) ≡ n → (first_row rs ≡ n → First n rs) → First n (r ∷ rs)
    go true a q ih = this_row q a
    go false a q ih = below a (ih q)

is_none : (rs : List Row) → all_numbered rs ≡ true → first_row rs ≡ 0 → None rs
unfolding all_numbered
is_none [] h e = end
is_none (r ∷ rs) h e = go r.applies refl e (eqb r.number 0) refl h (is_none rs)
  where
    go : (b : Bool) → r.applies ≡ b → (if b then r.number else first_row rs) ≡ 0 → (c : Bool) → eqb r.number 0 ≡ c → (not c && all_numbered rs) ≡ true
        → (all_numbered rs ≡ true → first_row rs ≡ 0 → None rs) → None (r ∷ rs)
    go b a q true c g ih = absurd (false≢true g)
    go true a q false c g ih = absurd (eqb-false r.number 0 c q)
    go false a q false c g ih = not_this_row a (ih g q)

module _ (k : State) (a : Asked) (item s : ℕ) where
  rows_refusal : first_row (whole_table k a item s) ≡ refusal k a item s
  unfolding refusal later_row
  rows_refusal = go (sound k)
    where
      go : (b : Bool) → (if not b then 1 else first_row (table (seen k a) a item s)) ≡ (if b then first_row (table (seen k a) a item s) else 1)
      go true = refl
      go false = refl

  rows_numbered : all_numbered (whole_table k a item s) ≡ true
  unfolding all_numbered table
  rows_numbered = refl

  -- a row is the first that applies, or none applies
  pub decided : Decided (whole_table k a item s)
  decided = go (eqb (first_row (whole_table k a item s)) 0) refl
    where
      go : (b : Bool) → eqb (first_row (whole_table k a item s)) 0 ≡ b → Decided (whole_table k a item s)
      go true e = inr (is_none (whole_table k a item s) rows_numbered (eqb-true _ 0 e))
      go false e = inl (record { number = first_row (whole_table k a item s); first = is_first _ (whole_table k a item s) refl (eqb-false _ 0 e) })

-- ── an accepted call is answered by no refusal
pub not_refused : (k : State) (a : Asked) (next : State) (n : ℕ) → answered k a next ≡ says refused n → ⊥
unfolding answered
not_refused k a next n = go (makes a) (is_blocked (task_at next.tasks k.running).place)
  where
    go : (b c : Bool) → (if b then says made (new_number k.uses a (new_slot k a)) else if c then says waiting 0 else says done 0) ≡ says refused n → ⊥
    go true c e = let w : made ≡ refused = ap (λ (x : Saying). x.word) e in let z : ◌≡◌ {A = ℕ} 0 1 = cc in omega arith
    go false true e = let w : waiting ≡ refused = ap (λ (x : Saying). x.word) e in let z : ◌≡◌ {A = ℕ} 0 1 = cc in omega arith
    go false false e = let w : done ≡ refused = ap (λ (x : Saying). x.word) e in let z : ◌≡◌ {A = ℕ} 0 1 = cc in omega arith

-- ── the step
module _ (k : State) (c : Call) (item s : List ℕ) where
  abbrev no : ℕ
  no = refusal k (asked k.uses c) (length item) (length s)

  table_no : first_row (whole_table k (asked k.uses c) (length item) (length s)) ≡ no
  table_no = rows_refusal k (asked k.uses c) (length item) (length s)

  is_refused : eqb no 0 ≡ false → step k c item s ≡ turned_away k no s
  unfolding step
  is_refused e = rw e

  is_accepted_lem : eqb no 0 ≡ true → step k c item s ≡ accepted k (asked k.uses c) item s
  unfolding step
  is_accepted_lem e = rw e

  away : (n : ℕ) → First n (whole_table k (asked k.uses c) (length item) (length s)) → (n ≡ 0 → ⊥) → Refusal k s n (step k c item s)
  away n f z =
      let e : no ≡ n = sym table_no ∙ first_is f in
      subst (λ (d : Stepped). Refusal k s n d) (sym (is_refused (ne_eqb no 0 (λ q. z (sym e ∙ q))))) (record { number = ap (says refused) e; kernel = refl; store = refl })

  -- the number of a row that applies first is not 0
  first_some : (n : ℕ) → First n (whole_table k (asked k.uses c) (length item) (length s)) → n ≡ 0 → ⊥
  first_some n f z = none_first (is_none _ (rows_numbered k (asked k.uses c) (length item) (length s)) (first_is f ∙ z)) f
    where
      none_first : {rs : List Row} → None rs → First n rs → ⊥
      none_first end f = elim f [ ]
      none_first (not_this_row a g) (this_row e b) = false≢true (sym a ∙ b)
      none_first (not_this_row a g) (below b f) = none_first g f

  accepted_so : Accepted k c item s (accepted k (asked k.uses c) item s)
  unfolding accepted
  accepted_so = record { kernel = refl; answer = refl; store = refl; no_refusal = not_refused k (asked k.uses c) (chosen (after k (asked k.uses c))) }

  pub turned_away_exactly : Exactly k c item s (step k c item s)
  turned_away_exactly =
      record {
        given = λ n f. away n f (first_some n f);
        only = λ n e. only n e (eqb no 0) refl;
        else = λ f. subst (λ (d : Stepped). Accepted k c item s d) (sym (is_accepted_lem (eq-eqb no 0 (sym table_no ∙ none_is f)))) accepted_so;
      }
    where
      only : (n : ℕ) → (step k c item s).answer ≡ says refused n → (b : Bool) → eqb no 0 ≡ b → First n (whole_table k (asked k.uses c) (length item) (length s))
      only n e true q = absurd (accepted_so.no_refusal n (ap (λ (d : Stepped). d.answer) (sym (is_accepted_lem q)) ∙ e))
      only n e false q =
          let m : no ≡ n = ap (λ (x : Saying). x.number) (ap (λ (d : Stepped). d.answer) (sym (is_refused q)) ∙ e) in
          is_first n _ (table_no ∙ m) (λ z. eqb-false no 0 q (m ∙ z))
