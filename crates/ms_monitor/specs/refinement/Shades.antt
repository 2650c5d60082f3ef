-- Shades that were sliced or sealed.
use Rattle.std.specs.Prelude.{◌≡◌, ◌↔◌, ◌⊎◌, List, Contains}
use Rattle.ms_event.specs.Monitor.{Shade}
use Rattle.ms_monitor.specs.declared.shades.Part.{Part}

-- the shade that a part is
abbrev pub shade_of : Part → Shade
shade_of p = record { colour = p.colour; lo = p.lo; hi = p.hi; sealed = p.sealed }

-- the shade has joined those that were there
abbrev pub Learns : List Shade → List Shade → Shade → Type 0
Learns old new shade = (x : Shade) → Contains new x ↔ (Contains old x ⊎ (x ≡ shade))
