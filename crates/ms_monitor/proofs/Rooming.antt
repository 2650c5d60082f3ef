-- Whether a search for room finds some.
use Rattle.std.proofs.Common.{◌≡◌, ◌↔◌, ℕ, Bool, Option, Some, None, IsTrue, is_some, subst, sym}
use Rattle.ms_gap_tree.specs.refinement.Rooms.{HasRoom, IsLowest}

pub room_found : (f : ℕ → Option ℕ) (n m : ℕ) (r : Option ℕ) (b : Bool) → IsLowest f n r → n ≡ m → b ≡ is_some r → IsTrue b ↔ ((key : ℕ) × HasRoom f m key)
room_found f n m (Some key) b low e q = (λ _. (key, subst (λ (x : ℕ). HasRoom f x key) e low.0), λ _. q)
room_found f n m None b low e q = (λ t. absurd (cc), λ h. absurd (low h.0 (subst (λ (x : ℕ). HasRoom f x h.0) (sym e) h.1)))
