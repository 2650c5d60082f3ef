-- What a monitor's fields keep.
use Rattle.ms_monitor.specs.refinement.Kept.{Kept}
use Rattle.ms_monitor.specs.declared.monitor.Monitor.TheInside.{Inside}

abbrev pub kept : Inside → Kept
kept m = record { capacity = m.capacity; colours = m.colours; shades = m.shades; rooms = m.rooms }
