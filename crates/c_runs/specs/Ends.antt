-- How the machine stops where a program of C ends.
use Rattle.ms_host.specs.declared.trap.TrapKind.{TrapKind}
use Rattle.ms_host.specs.declared.trap.TrapKind.TheVariants as traps
use Rattle.c_meaning.specs.Objects as objects
use Rattle.c_meaning.specs.Objects.{Unsafe}
use Rattle.c_meaning.specs.World as world
use Rattle.c_meaning.specs.World.{End}
use Rattle.c_runs.specs.Threads.{Stop, Trapped, Paused, Stuck}

abbrev pub trap_of : Unsafe → TrapKind
trap_of objects.at_null = traps.Null
trap_of objects.at_invalid = traps.Invalid
trap_of objects.freed = traps.Freed
trap_of objects.bounds = traps.Bounds
trap_of objects.whole = traps.Whole
trap_of objects.wrong_kind = traps.Kind
trap_of objects.readonly = traps.Readonly
trap_of objects.apart = traps.Apart

-- other than by a result; an end that is ungranted stops where it asks
abbrev pub stop_of : End → Stop
stop_of (world.unsafe u) = Trapped (trap_of u)
stop_of world.zero_divide = Trapped traps.Zero
stop_of world.overflow = Trapped traps.Overflow
stop_of world.abort = Trapped traps.Abort
stop_of world.null_call = Trapped traps.Element
stop_of world.deep = Trapped traps.Depth
stop_of world.exhausted = Trapped traps.Unreachable
stop_of world.ungranted = Paused
stop_of world.out_of_fuel = Paused
stop_of _ = Stuck
