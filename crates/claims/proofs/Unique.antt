-- No second answer fits: two results that meet a promise are equal.
use Prim.Native.Nat.{ℕ}
use mathlib.Core.Path.{◌≡◌, refl, sym, ap, subst, ◌∙◌}
use mathlib.Core.List.{List, [], ◌∷◌}
use lib.ListN.{get_or}
use native.Mathlib.Omega.{arith}
use Rattle.calls.specs.declared.refusals.Refusal.{Refusal}
use Rattle.calls.specs.declared.refusals.Refusal.TheVariants.{Unsound, StoreLength, NoCall, OutOfRange, NamesNone, WrongSize, NotForIdle, NotWithHold, NoneFree}
use Rattle.calls.specs.declared.refusals.Refusal.TheVariants.{InUse, NotHis, HisAlready, NotSuspended, MustWait, NoDepth, NoTick, Circle, CountFull}
use Rattle.calls.proofs.OneAnswer.{one_answer}
use Rattle.numbers.specs.declared.TaskSlot.{TaskSlot}
use Rattle.std.specs.Prelude.{Option, Some, None}
use Rattle.slots.specs.Leads.{whom}
use Rattle.rows.specs.Applies.{number_or_0}
use Rattle.rules.specs.Steps.{Stepped}
use Rattle.rules.specs.Sessions.{Run}
use Rattle.kernel.specs.Stands.{shown}
use Rattle.kernel.specs.Promises.{Is, Steps, ReadsAndSteps, Ran, Answers, Closes, ticks_of}
use Rattle.promises.specs.ByLines.{LineSteps}
use Rattle.promises.proofs.InWords.{one_line_step}
use Rattle.claims.specs.Types.{Call, Kernel, Sleep, Ticks, ForEver, Step, Session, Served}

-- the general law: two results are equal if a promise gives both the same value
pub one_value {ℓ} : {A : Type ℓ} {a b c : A} → a ≡ c → b ≡ c → a ≡ b
one_value p q = p ∙ sym q

pub one_step : (k : Kernel) (d : Stepped) (r q : Step) (s u : List ℕ) → Is k d r s → Is k d q u → (r ≡ q) × (s ≡ u)
one_step k d r q s u a b =
    let e = one_value a.kernel b.kernel in
    let w = one_answer r.answer q.answer (one_value a.answer b.answer) in
    ((λ i. record { kernel = e i; answer = w i }), one_value a.store b.store)

-- a step of any kernel value, call, item and store, with the store at exit
pub no_second_step : (k : Kernel) (c : Call) (item s : List ℕ) (r q : Step) (after other : List ℕ) → Steps k c item s r after → Steps k c item s q other → (r ≡ q) × (after ≡ other)
no_second_step k c item s r q after other a b = one_step k _ r q after other a b

-- a line, whatever the kernel value, the line and the store
pub no_second_line_step : (k : Kernel) (l s : List ℕ) (r q : Step) (after other : List ℕ)
    → ReadsAndSteps k l s r after → ReadsAndSteps k l s q other → (r ≡ q) × (after ≡ other)
no_second_line_step k l s r q after other a b = one_step k _ r q after other a b

-- it is what document 01's words ask for of the line
pub line_so : (k : Kernel) (l s : List ℕ) (r : Step) (after : List ℕ) → ReadsAndSteps k l s r after → (d : Stepped) → LineSteps (shown k) s l d → Is k d r after
line_so k l s r after a d f = subst (λ (x : Stepped). Is k x r after) (sym (one_line_step (shown k) s l f)) a

-- who was found
pub one_found : (f g : Option TaskSlot) → whom f ≡ whom g → f ≡ g
one_found None None e = refl
one_found None (Some t) e = let z : ◌≡◌ {A = ℕ} 0 1 = cc in absurd (omega arith)
one_found (Some t) None e = let z : ◌≡◌ {A = ℕ} 0 1 = cc in absurd (omega arith)
one_found (Some t) (Some u) e = cc

-- the refusal of a number, and none of 0: so no two have one number
named : ℕ → Option Refusal
named n = get_or (
    None ∷ Some Unsound ∷ Some StoreLength ∷ Some NoCall ∷ Some OutOfRange ∷ Some NamesNone ∷ Some WrongSize
    ∷ Some NotForIdle ∷ Some NotWithHold ∷ Some NoneFree ∷ Some InUse ∷ Some NotHis ∷ Some HisAlready
    ∷ Some NotSuspended ∷ Some MustWait ∷ Some NoDepth ∷ Some NoTick ∷ Some Circle ∷ Some CountFull ∷ []) n None

named_number : (f : Option Refusal) → named (number_or_0 f) ≡ f
unfolding named
named_number None = refl
named_number (Some Unsound) = refl
named_number (Some StoreLength) = refl
named_number (Some NoCall) = refl
named_number (Some OutOfRange) = refl
named_number (Some NamesNone) = refl
named_number (Some WrongSize) = refl
named_number (Some NotForIdle) = refl
named_number (Some NotWithHold) = refl
named_number (Some NoneFree) = refl
named_number (Some InUse) = refl
named_number (Some NotHis) = refl
named_number (Some HisAlready) = refl
named_number (Some NotSuspended) = refl
named_number (Some MustWait) = refl
named_number (Some NoDepth) = refl
named_number (Some NoTick) = refl
named_number (Some Circle) = refl
named_number (Some CountFull) = refl

pub one_refusal : (f g : Option Refusal) → number_or_0 f ≡ number_or_0 g → f ≡ g
one_refusal f g e = sym (named_number f) ∙ ap named e ∙ named_number g

-- how long the board may sleep
pub one_sleep : (f g : Sleep) → ticks_of f ≡ ticks_of g → f ≡ g
one_sleep (Ticks m) (Ticks n) e = let z : m ≡ n = cc in ap Ticks z
one_sleep (Ticks m) ForEver e = let z : ◌≡◌ {A = ℕ} 0 1 = cc in absurd (omega arith)
one_sleep ForEver (Ticks n) e = let z : ◌≡◌ {A = ℕ} 0 1 = cc in absurd (omega arith)
one_sleep ForEver ForEver e = refl

-- what was served, with the kernel value, the store and the lent output at exit
pub one_served : (k : Kernel) (d : Run) (lent : List ℕ) (r q : Served) (s u o p : List ℕ) → Ran k d lent r s o → Ran k d lent q u p → (r ≡ q) × (s ≡ u) × (o ≡ p)
one_served k d lent r q s u o p a b =
    let e = one_value a.kernel b.kernel in
    let c = one_value a.cut b.cut in
    let t = one_value a.taken b.taken in
    let w = one_value a.written b.written in
    ((λ i. record { session = record { kernel = e i; cut = c i }; taken = t i; written = w i }), one_value a.store b.store, one_value a.output b.output)

-- a block, whatever the session, the block, the store and the lent output
pub no_second_block : (n : Session) (block s lent : List ℕ) (r q : Served) (after other o p : List ℕ) → Answers n block s lent r after o → Answers n block s lent q other p
    → (r ≡ q) × (after ≡ other) × (o ≡ p)
no_second_block n block s lent r q after other o p = one_served _ _ lent r q after other o p

-- the input's end
pub no_second_end : (n : Session) (s lent : List ℕ) (r q : Served) (o p : List ℕ) → Closes n s lent r o → Closes n s lent q p → (r ≡ q) × (o ≡ p)
no_second_end n s lent r q o p a b = let e = one_served _ _ lent r q s s o p a b in (e.0, e.2)
