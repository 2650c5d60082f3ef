-- Handles, on integers without bounds: base, offset, bound, validity and the identity of an allocation, after 'Progressive Memory
-- Safety for WebAssembly' (HASP 2019), where a handle is such a value that no integer becomes, and 'MSWasm: Soundly Enforcing
-- Memory-Safe Execution of Unsafe Code' (POPL 2023), its syntax of handles and its rules for adding to and slicing them.
use Rattle.std.specs.Prelude.{◌==◌, ℕ, ◌+◌, ◌<◌, Bool, true, false, ◌&&◌, if◌then◌else◌, ℤ, pos, negsuc, ◌+ℤ◌, ◌-ℤ◌, ◌*ℤ◌, ◌≤ℤ◌, Result, Ok, Err, nat_le, int_le}
use Rattle.std.specs.Ordering.{int_eq}
use Rattle.ms_handle.specs.declared.handle.Handle.{Handle}
use Rattle.ms_handle.specs.declared.handle.Handle.TheVariants.{Null, Broken, Good}
use Rattle.ms_handle.specs.declared.handle.Apart.{Apart}

-- 2^40
abbrev pub farthest : ℤ
farthest = pos 1099511627776

-- an offset that a good handle may have
abbrev pub is_near : ℤ → Bool
is_near offset = int_le (negsuc 1099511627775) offset && int_le offset farthest

-- the offset is near, and the bound ends below 2^32
abbrev pub HasBounds : Handle → Type 0
HasBounds Null = Unit {0}
HasBounds Broken = Unit {0}
HasBounds (Good sealed id base length offset) = (negsuc 1099511627775 ≤ℤ offset) × (offset ≤ℤ farthest) × (base + length < 4294967296)

-- ---- moving

-- by a distance that isn't 0
abbrev pub moved : Handle → ℤ → Handle
moved Null distance = Broken
moved Broken distance = Broken
moved (Good sealed id base length offset) distance = if is_near (offset +ℤ distance) then Good sealed id base length (offset +ℤ distance) else Broken

abbrev pub add : Handle → ℤ → ℕ → Handle
add h delta scale = let distance = delta *ℤ pos scale in if int_eq distance (pos 0) then h else moved h distance

-- ---- slicing

-- the part of a bound that has this start, counted from the base, and this length
abbrev pub part : Bool → ℕ → ℕ → ℕ → ℤ → ℕ → Handle
part sealed id base length (pos start) len = if nat_le (start + len) length then Good sealed id (base + start) len (pos 0) else Broken
part sealed id base length (negsuc n) len = Broken

abbrev pub slice : Handle → ℕ → ℕ → Handle
slice Null from len = Broken
slice Broken from len = Broken
slice (Good sealed id base length offset) from len = part sealed id base length (offset +ℤ pos from) len

-- ---- sealing

-- for reading alone: what is moved or sliced from a sealed handle is sealed
abbrev pub seal : Handle → Handle
seal Null = Null
seal Broken = Broken
seal (Good sealed id base length offset) = Good true id base length offset

-- ---- comparing

-- equal where both are null, or both are good and at one place of one segment, sealed or not
abbrev pub eq : Handle → Handle → Bool
eq Null Null = true
eq (Good sealed id base length offset) (Good sealed' id' base' length' offset') = (id == id') && int_eq (pos base +ℤ offset) (pos base' +ℤ offset')
eq _ _ = false

abbrev pub difference : Handle → Handle → Result ℤ Apart
difference (Good sealed id base length offset) (Good sealed' id' base' length' offset') = if id == id' then Ok ((pos base +ℤ offset) -ℤ (pos base' +ℤ offset')) else Err (record {})
difference _ _ = Err (record {})
