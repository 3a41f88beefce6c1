-- "call 18, advance: n ticks, 1 to 65,535, and the result must equal n single ticks one by one, turns of the line and wakes included"; and how long the board may sleep.
use Rattle.std.specs.Prelude.{ℕ, ◌+◌, ◌<◌, ◌≤◌, ◌≡◌, Bool, true, false, not, List, [], ◌∷◌, length, if◌then◌else◌}
use Rattle.lists.specs.Lists.{up_to, any}
use Rattle.order.specs.Order.{listed}
use Rattle.calls.specs.Behind.{asked}
use Rattle.calls.specs.Said.{says, done}
use Rattle.rules.specs.Tables.{with_hold}
use Rattle.rules.specs.Lines.{has_begun, begun}
use Rattle.rules.specs.Ticks.{SomeoneWakes, one_tick, ticks, released, sleeps}
use Rattle.rules.specs.Refusals.{refusal}
use Rattle.rules.specs.Steps.{Stepped, step}
use Rattle.promises.specs.Types.{Advance, Tick, State}

-- n steps of tick, one after the other, from the kernel and the store that d has
unfoldable pub singly : ℕ → Stepped → Stepped
singly n d = up_to (λ x i. step x.kernel Tick [] x.store) n d

-- done, with this kernel and this store
abbrev pub done_with : State → List ℕ → Stepped
done_with k s = record { kernel = k; answer = says done 0; store = s }

-- an advance by n: the same kernel, answer and store; and the same in two parts, wherever it is cut
pub record AsTicks (k : State) (item s : List ℕ) (n : ℕ) : Type 0 where
  pub same : step k (Advance n) item s ≡ singly n (done_with k s)
  pub prefix : (m l : ℕ) → 1 ≤ m → 1 ≤ l → n ≡ m + l → let d = step k (Advance m) item s in step d.kernel (Advance l) item d.store ≡ step k (Advance n) item s

-- "Refusals: 4 for n out of range, 8 with a hold"
pub record AdvanceRefused (k : State) (item s : List ℕ) (n : ℕ) : Type 0 where
  pub none : n < 1 → refusal k (asked k.uses (Advance n)) (length item) (length s) ≡ 4
  pub too_many : 65535 < n → refusal k (asked k.uses (Advance n)) (length item) (length s) ≡ 4
  pub held : 1 ≤ n → n ≤ 65535 → 0 < k.hold → refusal k (asked k.uses (Advance n)) (length item) (length s) ≡ 8

-- how many ticks may be slept through before anybody is due; none: for ever
pub record SleepsSo (k : State) : Type 0 where
  -- fewer wake no one: no task changes, whatever the store, and in single ticks as in an advance
  pub fewer : (s : List ℕ) (d n : ℕ) → sleeps k ≡ d ∷ [] → n < d → (singly n (done_with k s)).kernel.tasks ≡ k.tasks
  pub for_ever : (s : List ℕ) (n : ℕ) → sleeps k ≡ [] → (singly n (done_with k s)).kernel.tasks ≡ k.tasks
  pub fewer_advanced : (item s : List ℕ) (d n : ℕ) → sleeps k ≡ d ∷ [] → n < d → (step k (Advance n) item s).kernel.tasks ≡ k.tasks
  pub advanced_for_ever : (item s : List ℕ) (n : ℕ) → sleeps k ≡ [] → (step k (Advance n) item s).kernel.tasks ≡ k.tasks
  -- nor does a release that runs fewer pended ticks
  pub fewer_released : (d : ℕ) → sleeps k ≡ d ∷ [] → k.pended < d → (released k).tasks ≡ k.tasks
  -- that many wake someone, where there is no hold, with which a tick is pended; in single ticks however many they are, and in an advance within its range
  pub that_many : (s : List ℕ) (d : ℕ) → sleeps k ≡ d ∷ [] → k.hold ≡ 0 → length s ≡ 9216 → SomeoneWakes k (singly d (done_with k s)).kernel
  pub that_many_advanced : (item s : List ℕ) (d : ℕ) → sleeps k ≡ d ∷ [] → k.hold ≡ 0 → length s ≡ 9216 → d ≤ 65535 → SomeoneWakes k (step k (Advance d) item s).kernel

-- with the next tick somebody's delay or wait ends
abbrev pub wakes_some : State → Bool
wakes_some k = any (λ t. not (has_begun (one_tick k).tasks t)) (begun k.tasks (listed k.order))

-- on how many of n ticks that is so, with each one's turn and choose or without
unfoldable pub wakings : Bool → ℕ → State → ℕ
wakings turns n k = up_to (λ c i. c + (if wakes_some (ticks turns i k) then 1 else 0)) n 0

-- at most fifteen, however many the ticks: in an advance, and in the pended ticks of a release
pub record FewWakings (k : State) : Type 0 where
  pub in_advance : (n : ℕ) → k.hold ≡ 0 → wakings true n k ≤ 15
  pub in_release : (n : ℕ) → wakings false n (with_hold k 0 0) ≤ 15
