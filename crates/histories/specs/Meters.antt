-- Histories of two meters of one priority: who is delayed or waits after each call, in the order in which they began, and who runs.
use Rattle.std.specs.Prelude.{ℕ, List, [], ◌∷◌, map}
use Rattle.numbers.specs.Numbers.{task}
use Rattle.calls.specs.Named.{object_of}
use Rattle.order.specs.Order.{listed}
use Rattle.rules.specs.Tables.{fresh}
use Rattle.rules.specs.Lines.{begun}
use Rattle.rules.specs.Trace.{Moment, trace, CallMade, step_made}
use Rattle.histories.specs.Types.{TaskSlot, State, Call, Create, Delay, Yield, Hold, Release, MakeQueue, MakeMutex, Receive, Take, Tick, Advance}
use Rattle.histories.specs.Moments.{moments, unlent}
use Rattle.histories.specs.Earlier.{began_at}

-- by slot: who began, after each call; who runs, after each call; and the moments at which meter 1 and meter 2 began
pub record Meters : Type 0 where
  pub waiting : List (List ℕ)
  pub running : List ℕ
  pub began : List ℕ

pub record MeterTale : Type 0 where
  pub calls : List Call
  pub expected : Meters

abbrev pub slots_of : List TaskSlot → List ℕ
slots_of l = map (λ (t : TaskSlot). t.0) l

abbrev pub begun_in : State → List TaskSlot
begun_in k = begun k.tasks (listed k.order)

-- from the fresh kernel
abbrev pub meters_by : MeterTale → Meters
meters_by w =
    let ms = map unlent w.calls in
    let each = trace step_made fresh [] ms in
    record {
      waiting = map (λ (m : Moment CallMade). slots_of (begun_in m.gave.kernel)) each;
      running = map (λ (m : Moment CallMade). m.gave.kernel.running.0) each;
      began = began_at (task 1) (moments ms) ∷ began_at (task 2) (moments ms) ∷ [];
    }

-- meter 1 begins first
unfoldable pub as_the_slots : MeterTale
as_the_slots = record {
  calls = Create 3 ∷ Create 3 ∷ Delay 2 ∷ Delay 2 ∷ Tick ∷ Tick ∷ [];
  expected = record {
    waiting = [] ∷ [] ∷ (1 ∷ []) ∷ (1 ∷ 2 ∷ []) ∷ (1 ∷ 2 ∷ []) ∷ [] ∷ [];
    running = 1 ∷ 1 ∷ 2 ∷ 0 ∷ 0 ∷ 1 ∷ [];
    began = 2 ∷ 3 ∷ [];
  };
}

-- meter 2 begins first, for the same tick
unfoldable pub against_the_slots : MeterTale
against_the_slots = record {
  calls = Create 3 ∷ Create 3 ∷ Yield ∷ Delay 2 ∷ Delay 2 ∷ Tick ∷ Tick ∷ [];
  expected = record {
    waiting = [] ∷ [] ∷ [] ∷ (2 ∷ []) ∷ (2 ∷ 1 ∷ []) ∷ (2 ∷ 1 ∷ []) ∷ [] ∷ [];
    running = 1 ∷ 1 ∷ 2 ∷ 1 ∷ 0 ∷ 0 ∷ 2 ∷ [];
    began = 4 ∷ 3 ∷ [];
  };
}

-- the same, begun on different ticks
unfoldable pub longer_first : MeterTale
longer_first = record {
  calls = Create 3 ∷ Create 3 ∷ Yield ∷ Delay 3 ∷ Tick ∷ Delay 2 ∷ Tick ∷ Tick ∷ [];
  expected = record {
    waiting = [] ∷ [] ∷ [] ∷ (2 ∷ []) ∷ (2 ∷ []) ∷ (2 ∷ 1 ∷ []) ∷ (2 ∷ 1 ∷ []) ∷ [] ∷ [];
    running = 1 ∷ 1 ∷ 2 ∷ 1 ∷ 1 ∷ 0 ∷ 0 ∷ 2 ∷ [];
    began = 5 ∷ 3 ∷ [];
  };
}

-- meter 2 waits on a queue, and then meter 1 delays until the same tick
unfoldable pub waiter_first : MeterTale
waiter_first = record {
  calls = Create 3 ∷ Create 3 ∷ MakeQueue 1 4 ∷ Yield ∷ Receive (object_of 0) 2 ∷ Delay 2 ∷ Tick ∷ Tick ∷ [];
  expected = record {
    waiting = [] ∷ [] ∷ [] ∷ [] ∷ (2 ∷ []) ∷ (2 ∷ 1 ∷ []) ∷ (2 ∷ 1 ∷ []) ∷ [] ∷ [];
    running = 1 ∷ 1 ∷ 1 ∷ 2 ∷ 1 ∷ 0 ∷ 0 ∷ 2 ∷ [];
    began = 5 ∷ 4 ∷ [];
  };
}

-- meter 2 delays, and then meter 1 waits on a queue
unfoldable pub delay_first : MeterTale
delay_first = record {
  calls = Create 3 ∷ Create 3 ∷ MakeQueue 1 4 ∷ Yield ∷ Delay 2 ∷ Receive (object_of 0) 2 ∷ Tick ∷ Tick ∷ [];
  expected = record {
    waiting = [] ∷ [] ∷ [] ∷ [] ∷ (2 ∷ []) ∷ (2 ∷ 1 ∷ []) ∷ (2 ∷ 1 ∷ []) ∷ [] ∷ [];
    running = 1 ∷ 1 ∷ 1 ∷ 2 ∷ 1 ∷ 0 ∷ 0 ∷ 2 ∷ [];
    began = 5 ∷ 4 ∷ [];
  };
}

-- the two delays, and the waiter with the delay, over a release of three pended ticks
unfoldable pub delays_released : MeterTale
delays_released = record {
  calls = Create 3 ∷ Create 3 ∷ Yield ∷ Delay 2 ∷ Delay 2 ∷ Hold ∷ Tick ∷ Tick ∷ Tick ∷ Release ∷ [];
  expected = record {
    waiting = [] ∷ [] ∷ [] ∷ (2 ∷ []) ∷ (2 ∷ 1 ∷ []) ∷ (2 ∷ 1 ∷ []) ∷ (2 ∷ 1 ∷ []) ∷ (2 ∷ 1 ∷ []) ∷ (2 ∷ 1 ∷ []) ∷ [] ∷ [];
    running = 1 ∷ 1 ∷ 2 ∷ 1 ∷ 0 ∷ 0 ∷ 0 ∷ 0 ∷ 0 ∷ 2 ∷ [];
    began = 4 ∷ 3 ∷ [];
  };
}

unfoldable pub waiter_released : MeterTale
waiter_released = record {
  calls = Create 3 ∷ Create 3 ∷ MakeQueue 1 4 ∷ Yield ∷ Receive (object_of 0) 2 ∷ Delay 2 ∷ Hold ∷ Tick ∷ Tick ∷ Tick ∷ Release ∷ [];
  expected = record {
    waiting = [] ∷ [] ∷ [] ∷ [] ∷ (2 ∷ []) ∷ (2 ∷ 1 ∷ []) ∷ (2 ∷ 1 ∷ []) ∷ (2 ∷ 1 ∷ []) ∷ (2 ∷ 1 ∷ []) ∷ (2 ∷ 1 ∷ []) ∷ [] ∷ [];
    running = 1 ∷ 1 ∷ 1 ∷ 2 ∷ 1 ∷ 0 ∷ 0 ∷ 0 ∷ 0 ∷ 0 ∷ 2 ∷ [];
    began = 5 ∷ 4 ∷ [];
  };
}

-- the two delays in an advance that ends with their tick
unfoldable pub delays_advanced : MeterTale
delays_advanced = record {
  calls = Create 3 ∷ Create 3 ∷ Yield ∷ Delay 2 ∷ Delay 2 ∷ Advance 2 ∷ [];
  expected = record {
    waiting = [] ∷ [] ∷ [] ∷ (2 ∷ []) ∷ (2 ∷ 1 ∷ []) ∷ [] ∷ [];
    running = 1 ∷ 1 ∷ 2 ∷ 1 ∷ 0 ∷ 2 ∷ [];
    began = 4 ∷ 3 ∷ [];
  };
}

-- the waiter with the delay, in an advance with one tick more, which turns their line
unfoldable pub waiter_advanced : MeterTale
waiter_advanced = record {
  calls = Create 3 ∷ Create 3 ∷ MakeQueue 1 4 ∷ Yield ∷ Receive (object_of 0) 2 ∷ Delay 2 ∷ Advance 1 ∷ Advance 2 ∷ [];
  expected = record {
    waiting = [] ∷ [] ∷ [] ∷ [] ∷ (2 ∷ []) ∷ (2 ∷ 1 ∷ []) ∷ (2 ∷ 1 ∷ []) ∷ [] ∷ [];
    running = 1 ∷ 1 ∷ 1 ∷ 2 ∷ 1 ∷ 0 ∷ 0 ∷ 1 ∷ [];
    began = 5 ∷ 4 ∷ [];
  };
}

-- meter 1 begins first, with a loan of 9 that ends on the tick on which both are due: it joins the line of 9, and then moves to that of 3, behind meter 2
unfoldable pub loan_ends : MeterTale
loan_ends = record {
  calls = Create 3 ∷ MakeMutex ∷ Take (object_of 0) 0 ∷ Create 3 ∷ Create 9 ∷ Take (object_of 0) 2 ∷ Delay 2 ∷ Delay 2 ∷ Tick ∷ Tick ∷ Delay 9 ∷ [];
  expected = record {
    waiting = [] ∷ [] ∷ [] ∷ [] ∷ [] ∷ (3 ∷ []) ∷ (3 ∷ 1 ∷ []) ∷ (3 ∷ 1 ∷ 2 ∷ []) ∷ (3 ∷ 1 ∷ 2 ∷ []) ∷ [] ∷ (3 ∷ []) ∷ [];
    running = 1 ∷ 1 ∷ 1 ∷ 1 ∷ 3 ∷ 1 ∷ 2 ∷ 0 ∷ 0 ∷ 3 ∷ 2 ∷ [];
    began = 6 ∷ 7 ∷ [];
  };
}

-- fifteen meters, each of which sleeps to another tick
unfoldable pub each_its_own_tick : List Call
each_its_own_tick =
    Create 3 ∷ Delay 15 ∷ Create 3 ∷ Delay 14 ∷ Create 3 ∷ Delay 13 ∷ Create 3 ∷ Delay 12 ∷ Create 3 ∷ Delay 11 ∷ Create 3 ∷ Delay 10 ∷ Create 3 ∷ Delay 9 ∷ Create 3 ∷ Delay 8
    ∷ Create 3 ∷ Delay 7 ∷ Create 3 ∷ Delay 6 ∷ Create 3 ∷ Delay 5 ∷ Create 3 ∷ Delay 4 ∷ Create 3 ∷ Delay 3 ∷ Create 3 ∷ Delay 2 ∷ Create 3 ∷ Delay 1 ∷ []
