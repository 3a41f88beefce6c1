-- The effective priorities: what the columns give is what the chains say, and a turn of the walk that sets them.
use Prim.Native.Nat.{ℕ, zero, suc, ◌<◌, ◌≤◌}
use mathlib.Core.Path.{◌≡◌, refl, sym, ap, ◌∙◌}
use mathlib.Core.Bool.{Bool, true, false, ◌&&◌}
use mathlib.Core.List.{List}
use native.Mathlib.Omega.{arith}
use lib.Dec.{eqb, ltb}
use lib.ListN.{length, get_or}
use lib.Seq.{ext_get_or}
use lib.Pointwise.{pointwise, bytes_decides}
use borrow.Author.Tests.{eqb-true, eq-eqb, ne_eqb, ltb-true, ltb-false}
use Rattle.std.proofs.Common.{if◌then◌else◌}
use Rattle.lists.specs.Lists.{up_to, values, all_below}
use Rattle.lists.proofs.Bools.{all_below_lem, below_all, same_test}
use Rattle.chains.specs.Chains.{within, ends, largest_own}
use Rattle.chains.specs.declared.AllLent.{AllLent}
use Rattle.chains.specs.Columns.{says, next_by, levels_to, levels_by, ended_to}
use Rattle.chains.proofs.Largest.{largest_same, largest_own_lem}
use Rattle.chains.proofs.Raised.{levels_length, levels_at}
use Rattle.chains.proofs.Says.{says_at}
use Rattle.numbers.specs.declared.TaskSlot.{TaskSlot}
use Rattle.numbers.specs.Numbers.{task}
use Rattle.order.specs.declared.Order.{Order}
use Rattle.slots.specs.Places.{waited_on}
use Rattle.slots.proofs.Sweeps.{none_counted, Filled, fill_values}
use Rattle.lists.proofs.Loops.{values_many, value_at}
use Rattle.tasks.specs.declared.Tasks.{Tasks}
use Rattle.tasks.specs.Columns.{row_at, rows_of, levelled_at}
use Rattle.tasks.specs.Dues.{woken}
use Rattle.tasks.specs.Known.{waits_state}
use Rattle.tasks.specs.Fine.{waiting_in}
use Rattle.tasks.specs.Loans.{next_in, levels_in, ended_in, reaches_in, moved, level_in, worked_in, ontos_in, OntosAre, LevelsAre, Worked}
use Rattle.tasks.proofs.Columns.{Full, past_row, rows_many}
use Rattle.tasks.proofs.StateTests.{row_ready, row_onto}

module _ (ts : Tasks) (full : Full ts) (by : List ℕ) where
  abbrev onto : ℕ → ℕ
  onto s = waited_on (row_at ts s).place

  abbrev level : ℕ → ℕ
  level u = largest_own (λ s. (row_at ts s).own) (next_in ts by) u

  onto_past : (i : ℕ) → 16 ≤ i → onto i ≡ 16
  onto_past i h = rw (past_row ts full i h)

  -- a column of sixteen that has each level is the levels
  all_levels : (l : List ℕ) → length l ≡ 16 → ((u : ℕ) → u < 16 → get_or l u 0 ≡ level u) → l ≡ levels_in ts by
  unfolding levels_in
  all_levels l long at =
      ext_get_or 0 l (values level 16) (long ∙ sym (values_many level 16)) (λ u h. at u (omega arith) ∙ sym (value_at level 16 u 0 (omega arith)))

  -- the column of the objects waited on gives the same chains
  pub next_is : next_by (ontos_in ts) by ≡ next_in ts by
  next_is = λ j s. says by (says_at (values onto 16) onto (λ i l. value_at onto 16 i 0 l) onto_past s j)

  levels_are : levels_by ts.own (values onto 16) by ≡ levels_in ts by
  unfolding row_at
  levels_are =
      all_levels (levels_by ts.own (values onto 16) by) (levels_length ts.own (values onto 16) by full.owns)
      (λ u h. levels_at ts.own (values onto 16) by full.owns u h
      ∙ largest_same (λ s. get_or ts.own s 0) (λ s. (row_at ts s).own) (next_by (values onto 16) by) (next_in ts by) (λ s l. refl)
      (λ s. ap (λ f. f s) next_is) u)

  many : length (rows_of ts) ≡ 16
  many = rows_many ts ∙ full.states

  -- where nobody waits on an object each level is the task's own
  module _ (none : waiting_in ts ≡ 0) where
    no_onto : (s : ℕ) → onto s ≡ 16
    unfolding waiting_in
    no_onto s = go (ltb s 16) refl
      where
        go : (b : Bool) → ltb s 16 ≡ b → onto s ≡ 16
        go true e = row_onto ts s ∙ rw (none_counted (λ k. waits_state (get_or ts.state k 0)) 16 none s (ltb-true s 16 e))
        go false e = onto_past s (ltb-false s 16 e)

    no_link : (u : ℕ) → u < 16 → (s : ℕ) → says by (onto s) ≡ u → ⊥
    no_link u h s e = let q : 16 ≡ u = rw (no_onto s) at e in omega arith

    levels_own : ts.own ≡ levels_in ts by
    unfolding row_at
    levels_own = all_levels ts.own full.owns (λ u h. sym (largest_own_lem (λ s. (row_at ts s).own) (next_in ts by) u h (no_link u h)))

    -- and every chain ends at once
    none_ended : true ≡ ended_in ts by
    unfolding ended_in ends
    none_ended = sym (below_all 16 _ (λ s l. ap (ends (next_in ts by) 16) (ap (says by) (no_onto s))))

    none_lent : LevelsAre ts by (record { levels = ts.own; ended = true })
    none_lent = record { many = many; said = levels_own; ended = none_ended }

  pub all_own : (n : ℕ) → n ≡ waiting_in ts → n ≡ 0 → LevelsAre ts by (record { levels = ts.own; ended = true })
  all_own n e z = none_lent (sym e ∙ z)

  -- where somebody does, all sixteen are walked
  pub all_lent : (onto : List ℕ) (r : AllLent) → OntosAre ts onto → (r.levels ≡ levels_to ts.own onto by 16) × (r.ended ≡ ended_to onto by 16) → LevelsAre ts by r
  unfolding levels_by ended_in
  all_lent onto r o s =
      record {
        many = many;
        said = s.0 ∙ rw o.said levels_are;
        ended = s.1 ∙ rw o.said (ap (λ (f : ℕ → ℕ). all_below 16 (λ s. ends f 16 (f s))) next_is);
      }

  pub reaches_is : (h u : ℕ) → (ltb u 16 && within (next_by (ontos_in ts) by) 16 h u) ≡ reaches_in ts by h u
  unfolding reaches_in
  reaches_is h u = ap (λ (next : ℕ → ℕ). ltb u 16 && within next 16 h u) next_is

-- the walk that fills a column with the objects waited on
pub ontos_end : (ts : Tasks) (out : List ℕ) (i : ℕ) → 16 ≤ i → Filled (λ j. if waits_state (get_or ts.state j 0) then get_or ts.object j 0 else 16) 0 out i → OntosAre ts out
ontos_end ts out i h inv = record { said = fill_values inv h ∙ ap (λ (f : ℕ → ℕ). values f 16) (λ j x. sym (row_onto ts x) j) }

-- a column of levels, compared with the rows'
pub at_levels_is : (ts : Tasks) (ls : List ℕ) → Full ts → length ls ≡ 16 → pointwise eqb ts.effective ls ≡ all_below 16 (λ n. eqb (row_at ts n).effective (get_or ls n 0))
unfolding row_at
at_levels_is ts ls full long = same_test _ _ to from
  where
    to : pointwise eqb ts.effective ls ≡ true → all_below 16 (λ n. eqb (get_or ts.effective n 0) (get_or ls n 0)) ≡ true
    to e = below_all 16 _ (λ n l. eq-eqb _ _ (ap (λ (xs : List ℕ). get_or xs n 0) ((bytes_decides ts.effective ls).0 e)))

    from : all_below 16 (λ n. eqb (get_or ts.effective n 0) (get_or ls n 0)) ≡ true → pointwise eqb ts.effective ls ≡ true
    from e = (bytes_decides ts.effective ls).1 (ext_get_or 0 ts.effective ls (full.effectives ∙ sym long) (λ n l. eqb-true _ _ (all_below_lem 16 _ e n (rw (← full.effectives) l))))

-- one turn of the walk that sets them: a row at its level, one that is ready and one that is not
module _ (r : TaskSlot) (ls : List ℕ) (ts : Tasks) (o : Order) (i : ℕ) where
  pub level_keeps : get_or ts.effective i 0 ≡ get_or ls i 0 → woken ts o ≡ level_in r ls (woken ts o) i
  unfolding level_in row_at
  level_keeps e = rw (eq-eqb (get_or ts.effective i 0) (get_or ls i 0) e)

  differs : (get_or ts.effective i 0 ≡ get_or ls i 0 → ⊥) → eqb (row_at ts i).effective (get_or ls i 0) ≡ false
  unfolding row_at
  differs n = ne_eqb (get_or ts.effective i 0) (get_or ls i 0) n

  set_level : (b : Bool) → (get_or ts.effective i 0 ≡ get_or ls i 0 → ⊥) → eqb (get_or ts.state i 0) 1 ≡ b
      → woken (levelled_at ts i (get_or ls i 0)) (if b then moved o (task i) r else o) ≡ level_in r ls (woken ts o) i
  unfolding level_in
  set_level b n s = rw (differs n, row_ready ts i ∙ s)

  pub level_moves : (get_or ts.effective i 0 ≡ get_or ls i 0 → ⊥) → get_or ts.state i 0 ≡ 1 → woken (levelled_at ts i (get_or ls i 0)) (moved o (task i) r) ≡ level_in r ls (woken ts o) i
  level_moves n s = set_level true n (eq-eqb (get_or ts.state i 0) 1 s)

  pub level_stays : (get_or ts.effective i 0 ≡ get_or ls i 0 → ⊥) → (get_or ts.state i 0 ≡ 1 → ⊥) → woken (levelled_at ts i (get_or ls i 0)) o ≡ level_in r ls (woken ts o) i
  level_stays n s = set_level false n (ne_eqb (get_or ts.state i 0) 1 s)

-- where each is at its level nothing changes
module _ (r : TaskSlot) (ls : List ℕ) (ts : Tasks) (o : Order) where
  none_changes : (m : ℕ) → ((n : ℕ) → n < m → eqb (row_at ts n).effective (get_or ls n 0) ≡ true) → woken ts o ≡ up_to (level_in r ls) m (woken ts o)
  unfolding up_to level_in
  none_changes zero at = refl
  none_changes (suc m) at = rw (← none_changes m (λ n l. at n (omega arith)), at m (omega arith))

  pub none_levelled : (by : List ℕ) (lent : AllLent) → LevelsAre ts by lent → lent.levels ≡ ls → true ≡ all_below 16 (λ n. eqb (row_at ts n).effective (get_or ls n 0)) → Worked ts o by r (woken ts o)
  unfolding worked_in
  none_levelled by lent L q e =
      record { many = L.many; said = none_changes 16 (all_below_lem 16 (λ n. eqb (row_at ts n).effective (get_or ls n 0)) (sym e)) ∙ ap (λ (l : List ℕ). up_to (level_in r l) 16 (woken ts o)) (sym q ∙ L.said) }
