-- Laws of what reading gives, step by step.
use Rattle.std.proofs.Common.{◌≡◌, Bool, true, false, cond, ◌⊎◌, inl, inr, Result, Ok, Err, refl, ap}
use Rattle.ms_bytes.specs.Reading.{◌>>=◌, blamed, okay, refused}

-- which way a test went
pub chosen : {A : Type 0} (b : Bool) (x y z : A) → cond b x y ≡ z → ((b ≡ true) × (x ≡ z)) ⊎ ((b ≡ false) × (y ≡ z))
chosen true x y z e = inl (refl, e)
chosen false x y z e = inr (refl, e)

-- the value of a step that did not fail
pub bind_ok : {F A B : Type 0} (r : Result A F) (f : A → Result B F) (y : B) → (r >>= f) ≡ Ok y → (x : A) × (r ≡ Ok x) × (f x ≡ Ok y)
bind_ok (Ok x) f y e = (x, refl, e)
bind_ok (Err d) f y e = absurd cc

pub ok_is : {F A : Type 0} (x y : A) → okay {F = F} x ≡ okay {F = F} y → x ≡ y
ok_is x y e = cc

pub not_refused : {F A : Type 0} (fault : F) (x : A) → refused {A = A} fault ≡ Ok x → ⊥
not_refused fault x e = absurd cc

pub blamed_ok : {F G A : Type 0} (fault : G → F) (r : Result A G) (x : A) → blamed fault r ≡ Ok x → r ≡ Ok x
blamed_ok {F} fault (Ok y) x e = ap (λ v. Ok v) (ok_is {F = F} y x e)
blamed_ok fault (Err g) x e = absurd cc
