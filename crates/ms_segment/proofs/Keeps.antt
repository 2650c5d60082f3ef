-- Making a segment keeps how many bytes there are.
use Rattle.std.proofs.Common.{◌≡◌, ℕ, ◌+◌, ◌≤◌, List, length, replicate, refl, arith}
use Rattle.std.proofs.lemmas.List.{length-replicate}
use Rattle.ms_event.specs.declared.event.Event.{Event}
use Rattle.ms_handle.specs.declared.handle.Handle.{Handle}
use Rattle.ms_handle.specs.declared.handle.Kind.{Kind}
use Rattle.ms_tagged.specs.Bytes.{Byte, Data}
use Rattle.ms_tagged.proofs.Ranges.{length-overwritten}
use Rattle.ms_segment.specs.Memory.{Makes, Memory, full, made, no_room}
use Rattle.ms_segment.proofs.Placing.{place-within}

length_cleared : (base size : ℕ) (bytes : List Byte) → base + size ≤ length bytes → base + length (replicate size (Data 0)) ≤ length bytes
length_cleared base size bytes within = omega (arith, length-replicate size (Data 0))

pub length-Makes : (m : Memory) (size : ℕ) (kind : Kind) (h : Handle) (e : Event) (after : Memory) → Makes m size kind h e after → length after.bytes ≡ length m.bytes
length-Makes m size kind h e after (made {base} few placed) =
    length-overwritten base (replicate size (Data 0)) m.bytes (length_cleared base size m.bytes (place-within m.live (length m.bytes) size base placed))
length-Makes m size kind h e after (full all) = refl
length-Makes m size kind h e after (no_room none) = refl
