-- What the code reads part by part: where a part is missing there is no call, and numbers read into a part of the words are read into them all.
use Prim.Native.Nat.{ℕ, zero, suc, ◌+◌, ◌-◌, ◌≤◌}
use mathlib.Core.Path.{◌≡◌, refl, sym, ap, ◌∙◌}
use mathlib.Core.Bool.{Bool, true, false, ◌&&◌}
use mathlib.Core.List.{List, [], ◌∷◌, ◌++◌, append-nil, append_assoc}
use native.Mathlib.Omega.{arith}
use native.Mathlib.Numerals.{add-one}
use lib.ListN.{length, take, drop, set, drop_of_length-le, length-take, length-drop}
use lib.Seq.{sets, sets-eq, drop-drop, length-sets}
use Rattle.std.specs.Prelude.{Option, Some, None}
use Rattle.std.specs.Option.{unwrap_or}
use Rattle.lists.proofs.Bools.{and_off}
use Rattle.calls.specs.Table.{call_of}
use Rattle.calls.specs.Words.{no_words, shape_of}
use Rattle.calls.proofs.CallAgain.{shape_small}
use Rattle.fields.specs.Number.{read_number}
use Rattle.fields.specs.Item.{bytes_in}
use Rattle.journal.specs.Types.{Number, Item, Shape}
use Rattle.journal.specs.Reader.{after_tab, no_number, number_at, Numbers, numbers_to, nums, no_item, sent_at, end_of, read_as, no_call, read_end, read_of}

module _ (l : List ℕ) where
  -- ---- past the line's end nothing is read, and the place stays there

  pub number_out : (at : ℕ) → length l ≤ at → number_at l (after_tab l at) ≡ no_number l
  number_out at h =
      let k : length l ≤ length l = omega arith in
      rw (drop_of_length-le l h) (rw (drop_of_length-le l k) refl)

  pub nums_out : (k i : ℕ) (vs : List ℕ) (at : ℕ) → length l ≤ at → length l ≤ (nums l k i vs at).next
  unfolding nums
  nums_out zero i vs at h = h
  nums_out (suc k) i vs at h =
      nums_out k (i + 1) (set vs i (number_at l (after_tab l at)).value) (number_at l (after_tab l at)).next (rw (number_out at h) (omega arith))

  pub nums_missed : (k i : ℕ) (vs : List ℕ) (at : ℕ) → no_number l ≡ number_at l (after_tab l at) → length l ≤ (nums l (suc k) i vs at).next
  unfolding nums
  nums_missed k i vs at e =
      let h : length l ≤ (number_at l (after_tab l at)).next = rw (← e) (omega arith) in
      nums_out k (i + 1) (set vs i (number_at l (after_tab l at)).value) (number_at l (after_tab l at)).next h

  pub sent_missed : (at : ℕ) → length l ≡ after_tab l at → no_item l ≡ sent_at l at true
  unfolding bytes_in
  sent_missed at e =
      let h : length l ≤ after_tab l at = omega (arith, e) in
      rw (drop_of_length-le l h, ← e) refl

  pub sent_out : (at : ℕ) (i : Bool) → length l ≤ at → length l ≤ (sent_at l at i).next
  sent_out at false h = h
  sent_out at true h = rw (drop_of_length-le l h) (omega arith)

  end_out : (at : ℕ) → length l ≤ at → end_of (drop at l) ≡ false
  end_out at h = rw (drop_of_length-le l h) refl

  -- ---- the numbers that are read are the same wherever they are stored

  seen : ℕ → ℕ → List ℕ
  seen zero at = []
  seen (suc k) at = (number_at l (after_tab l at)).value ∷ seen k (number_at l (after_tab l at)).next

  left : ℕ → ℕ → ℕ
  left zero at = at
  left (suc k) at = left k (number_at l (after_tab l at)).next

  seen_long : (k at : ℕ) → length (seen k at) ≡ k
  unfolding seen
  seen_long zero at = refl
  seen_long (suc k) at = ap suc (seen_long k (number_at l (after_tab l at)).next)

  nums_are : (k i : ℕ) (vs : List ℕ) (at : ℕ) → nums l k i vs at ≡ numbers_to (sets vs i (seen k at)) (left k at)
  unfolding nums seen left
  nums_are zero i vs at = refl
  nums_are (suc k) i vs at = rw add-one (nums_are k (suc i) (set vs i (number_at l (after_tab l at)).value) (number_at l (after_tab l at)).next)

  nums_next : (k i j : ℕ) (vs ws : List ℕ) (at : ℕ) → (nums l k i vs at).next ≡ (nums l k j ws at).next
  nums_next k i j vs ws at = ap (λ (n : Numbers). n.next) (nums_are k i vs at) ∙ sym (ap (λ (n : Numbers). n.next) (nums_are k j ws at))

  -- the part of the words w from i to e
  abbrev part : List ℕ → ℕ → ℕ → List ℕ
  part w i e = take (e - i) (drop i w)

  part_long : (w : List ℕ) (i e : ℕ) → e ≤ length w → length (part w i e) ≡ e - i
  part_long w i e h = length-take (e - i) (drop i w) ∙ omega (arith, length-drop i w)

  pub read_into : (w v : List ℕ) (i e n at : ℕ) → i ≤ e → e ≤ length w → numbers_to v n ≡ nums l (length (part w i e)) 0 (part w i e) at
      → numbers_to (take i w ++ v ++ drop e w) n ≡ nums l (e - i) i w at
  read_into w v i e n at h k q =
      let p = part w i e in
      let s = seen (e - i) at in
      let c : length p ≡ e - i = part_long w i e k in
      let d : length s ≡ e - i = seen_long (e - i) at in
      let g : numbers_to v n ≡ numbers_to (sets p 0 s) (left (e - i) at) =
      q ∙ nums_are (length p) 0 p at ∙ ap (λ (k : ℕ). numbers_to (sets p 0 (seen k at)) (left k at)) c in
      let z : drop (0 + length s) p ≡ [] = drop_of_length-le p (omega (arith, c, d)) in
      let a : v ≡ s = ap (λ (m : Numbers). m.values) g ∙ sets-eq s p 0 (omega (arith, c, d)) ∙ rw (z, append-nil) refl in
      let b : n ≡ left (e - i) at = ap (λ (m : Numbers). m.next) g in
      let o : i + length s ≡ e = omega (arith, d) in
      let t : sets w i s ≡ take i w ++ s ++ drop e w = sets-eq s w i (omega (arith, d)) ∙ ap (λ (m : ℕ). take i w ++ s ++ drop m w) o in
      rw (a, b) (ap (λ (m : List ℕ). numbers_to m (left (e - i) at)) (sym t) ∙ sym (nums_are (e - i) i w at))

  pub missed_in : (w : List ℕ) (i e at : ℕ) → e ≤ length w → length l ≤ (nums l (length (part w i e)) 0 (part w i e) at).next → length l ≤ (nums l (e - i) i w at).next
  missed_in w i e at k h = rw (nums_next (e - i) i 0 w (part w i e) at) (rw (part_long w i e k) at h)

  -- ---- the line, part by part, as the code reads it

  pub no_number_none : None ≡ read_number 0 l → no_call ≡ read_of l
  unfolding read_of shape_of
  no_number_none e = rw (← e) refl

  module _ (p : Number) (s : Shape) (ep : Some p ≡ read_number 0 l) (es : s ≡ shape_of p.value) where
    here : p ≡ number_at l 0
    here = ap (λ (r : Option Number). unwrap_or r (no_number l)) ep

    small : s.before + s.after ≤ 5
    small = rw es (shape_small p.value)

    steps : (f : Numbers) (i : Item) (r : Numbers) → f ≡ nums l s.before 0 no_words p.next → i ≡ sent_at l f.next s.item
        → r ≡ nums l s.after s.before f.values i.next → read_end l p.value s i r ≡ read_of l
    unfolding read_of
    steps f i r ef ei er = rw (er, ei, ef, es, here) refl

    ended : (f : Numbers) (i : Item) (r : Numbers) → f ≡ nums l s.before 0 no_words p.next → i ≡ sent_at l f.next s.item
        → r ≡ nums l s.after s.before f.values i.next → end_of (drop r.next l) ≡ false → no_call ≡ read_of l
    ended f i r ef ei er e =
        let n : (s.known && end_of (drop r.next l)) ≡ false = sym (and_off s.known (end_of (drop r.next l)) e) in
        let q : read_end l p.value s i r ≡ no_call = rw n refl in
        sym q ∙ steps f i r ef ei er

    missed : (f : Numbers) (i : Item) → f ≡ nums l s.before 0 no_words p.next → i ≡ sent_at l f.next s.item
        → length l ≤ (nums l s.after s.before f.values i.next).next → no_call ≡ read_of l
    missed f i ef ei h = ended f i (nums l s.after s.before f.values i.next) ef ei refl (end_out _ h)

    pub not_known : s.known ≡ false → no_call ≡ read_of l
    unfolding read_of
    not_known k =
        let u : (shape_of p.value).known ≡ false = rw (← es) k in
        rw (← here, u) refl

    pub no_first : length l ≤ (nums l (length (take s.before no_words)) 0 (take s.before no_words) p.next).next → no_call ≡ read_of l
    no_first h =
        let z : s.before - 0 ≡ s.before = omega arith in
        let f = nums l s.before 0 no_words p.next in
        let o : length l ≤ f.next = rw z at (missed_in no_words 0 s.before p.next (omega (arith, small)) (rw z h)) in
        let i = sent_at l f.next s.item in
        missed f i refl refl (nums_out s.after s.before f.values i.next (sent_out f.next s.item o))

    module _ (v : List ℕ) (first : ℕ) (q : numbers_to v first ≡ nums l (length (take s.before no_words)) 0 (take s.before no_words) p.next) where
      -- the words after the first numbers
      abbrev w : List ℕ
      w = v ++ drop s.before no_words

      so_far : numbers_to w first ≡ nums l s.before 0 no_words p.next
      so_far =
          let z : s.before - 0 ≡ s.before = omega arith in
          rw z at (read_into no_words v 0 s.before first p.next (omega arith) (omega (arith, small)) (rw z q))

      pub words_long : length w ≡ 5
      words_long = ap (λ (m : Numbers). length m.values) (so_far ∙ nums_are s.before 0 no_words p.next) ∙ length-sets no_words 0 (seen s.before p.next)

      pub no_sent : no_item l ≡ sent_at l first s.item → no_call ≡ read_of l
      no_sent e = missed (numbers_to w first) (no_item l) so_far e (nums_out s.after s.before w (no_item l).next (omega arith))

      module _ (i : Item) (ei : i ≡ sent_at l first s.item) where
        abbrev rest : List ℕ
        rest = part w s.before (s.before + s.after)

        some : s.before + s.after - s.before ≡ s.after
        some = omega arith

        pub no_last : length l ≤ (nums l (length rest) 0 rest i.next).next → no_call ≡ read_of l
        no_last h =
            missed (numbers_to w first) i so_far ei
            (rw some at (missed_in w s.before (s.before + s.after) i.next (omega (arith, small, words_long)) h))

        module _ (u : List ℕ) (last : ℕ) (g : numbers_to u last ≡ nums l (length rest) 0 rest i.next) where
          -- the words after the last numbers
          abbrev all : List ℕ
          all = take s.before w ++ (u ++ drop (s.before + s.after - s.before) (drop s.before w))

          all_is : take s.before w ++ u ++ drop (s.before + s.after) w ≡ all
          all_is =
              let e : s.before + (s.before + s.after - s.before) ≡ s.before + s.after = omega arith in
              append_assoc (take s.before w) u (drop (s.before + s.after) w)
              ∙ ap (λ (m : List ℕ). take s.before w ++ (u ++ m)) (sym (drop-drop (s.before + s.after - s.before) s.before w ∙ ap (λ (m : ℕ). drop m w) e))

          at_last : numbers_to all last ≡ nums l s.after s.before w i.next
          at_last = ap (λ (m : List ℕ). numbers_to m last) (sym all_is) ∙ rw some at (read_into w u s.before (s.before + s.after) last i.next (omega arith) (omega (arith, small, words_long)) g)

          pub no_end : end_of (drop last l) ≡ false → no_call ≡ read_of l
          no_end e = ended (numbers_to w first) i (numbers_to all last) so_far ei at_last e

          pub whole : s.known ≡ true → end_of (drop last l) ≡ true → read_as (call_of p.value all) i.bytes i.len ≡ read_of l
          whole k e =
              let n : (s.known && end_of (drop last l)) ≡ true = rw (k, e) refl in
              let t : read_end l p.value s i (numbers_to all last) ≡ read_as (call_of p.value all) i.bytes i.len = rw n refl in
              sym t ∙ steps (numbers_to w first) i (numbers_to all last) so_far ei at_last
