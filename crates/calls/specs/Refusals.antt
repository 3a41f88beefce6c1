-- "A refusal returns the number": that of each row of the refusal table.
use Rattle.std.specs.Prelude.{ℕ}
use Rattle.calls.specs.Types.{Refusal, Unsound, StoreLength, NoCall, OutOfRange, NamesNone, WrongSize, NotForIdle, NotWithHold, NoneFree}
use Rattle.calls.specs.Types.{InUse, NotHis, HisAlready, NotSuspended, MustWait, NoDepth, NoTick, Circle, CountFull}

abbrev pub number_of : Refusal → ℕ
number_of Unsound = 1
number_of StoreLength = 2
number_of NoCall = 3
number_of OutOfRange = 4
number_of NamesNone = 5
number_of WrongSize = 6
number_of NotForIdle = 7
number_of NotWithHold = 8
number_of NoneFree = 9
number_of InUse = 10
number_of NotHis = 11
number_of HisAlready = 12
number_of NotSuspended = 13
number_of MustWait = 14
number_of NoDepth = 15
number_of NoTick = 16
number_of Circle = 17
number_of CountFull = 18
