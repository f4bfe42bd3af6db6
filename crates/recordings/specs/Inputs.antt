-- What a recorded call gives away.
use Rattle.std.specs.Prelude.{Some, None, Option}
use Rattle.recordings.specs.declared.call.Call.{Call}
use Rattle.recordings.specs.declared.call.Call.TheVariants as call
use Rattle.recordings.specs.declared.call.Input.{Input}
use Rattle.recordings.specs.declared.call.Input.TheVariants as input

-- What a call gives away, and gets back where it is refused.
abbrev pub input_of : Call → Option Input
input_of (call.Push t) = Some (input.Task t)
input_of (call.PushBack t) = Some (input.Task t)
input_of (call.PushFront t) = Some (input.Task t)
input_of call.Poll = None
input_of (call.Hand a) = Some (input.Address a)
input_of (call.Clone t) = None
input_of (call.Wake t) = Some (input.Token t)
input_of (call.WakeByRef t) = None
input_of (call.Drop t) = Some (input.Token t)
input_of call.MayEnd = None
input_of call.Len = None
input_of call.Capacity = None
