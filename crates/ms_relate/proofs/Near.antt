-- Pointers that aren't far from their arrays.
use Rattle.std.proofs.Common.{◌≡◌, ℕ, ◌+◌, ◌*◌, ◌<◌, Bool, true, pos, ◌*ℤ◌, List, ap, arith}
use Rattle.c_meaning.specs.Shapes.{size}
use Rattle.c_meaning.specs.Values.{Step}
use Rattle.c_meaning.specs.Objects.{Span, is_near, length_of}
use Rattle.ms_relate.specs.refinement.Homes.{IsNear}

pub zero_near : (n : ℕ) → is_near (pos 0 *ℤ pos n) ≡ true
zero_near n = ap (λ (x : ℕ). is_near (pos x)) (let e : 0 * n ≡ 0 = omega arith in e)

-- a pointer to the first element
pub first_near : (object : ℕ) (path : List Step) (sealed : Bool) (s : Span) → s.place + length_of s < 4294967296 → size s.shape < 4294967296 → IsNear (record { object = object; path = path; index = pos 0; sealed = sealed }) s
first_near object path sealed s low small = record { near = zero_near (size s.shape); low = low; small = small }
