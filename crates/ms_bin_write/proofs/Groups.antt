-- The fewest runs of locals are those that `Locals` keeps.
use Rattle.std.proofs.Common.{◌≡◌, ℕ, zero, suc, ◌-◌, true, false, List, [], ◌∷◌, ◌++◌, length, replicate, refl, sym, ap, ◌∙◌, arith}
use Rattle.std.specs.Prelude.{◌≢◌}
use Rattle.ms_types.specs.declared.types.ValType.{ValType}
use Rattle.ms_types.specs.declared.types.ValType.TheVariants.{I32, I64, Handle}
use Rattle.ms_module.specs.declared.locals.Run.{Run}
use Rattle.ms_module.specs.refinement.Locals.{BeginsOther, Differ, Rise, types_of}
use Rattle.std.specs.List.{flat_map}
use Rattle.ms_bin_write.specs.Parts.{number_bytes, vec_bytes}
use Rattle.ms_bin_write.specs.Written.{Group, group_bytes, groups, joined, locals_bytes, same_type}

-- runs with how many locals each has
abbrev pub counted : ℕ → List Run → List Group
counted from [] = []
counted from (r ∷ rs) = record { count = r.end - from; ty = r.ty } ∷ counted r.end rs

pub length-counted : (from : ℕ) (rs : List Run) → length (counted from rs) ≡ length rs
length-counted from [] = refl
length-counted from (r ∷ rs) = ap suc (length-counted r.end rs)

same : (ty : ValType) → same_type ty ty ≡ true
same I32 = refl
same I64 = refl
same Handle = refl

other : (a b : ValType) → a ≢ b → same_type a b ≡ false
other I32 I32 ne = absurd (ne refl)
other I32 I64 ne = refl
other I32 Handle ne = refl
other I64 I32 ne = refl
other I64 I64 ne = absurd (ne refl)
other I64 Handle ne = refl
other Handle I32 ne = refl
other Handle I64 ne = refl
other Handle Handle ne = absurd (ne refl)

-- a run of one, in front of others that begin with another type
first_joined : (ty : ValType) (rs : List Run) (from : ℕ) → BeginsOther ty rs → joined ty (counted from rs) ≡ record { count = 1; ty = ty } ∷ counted from rs
first_joined ty [] from h = refl
first_joined ty (r ∷ rs) from h = rw (other ty r.ty h) refl

grouped_run : (n : ℕ) (ty : ValType) (rs : List Run) (from : ℕ) (rest : List ValType) → BeginsOther ty rs → groups rest ≡ counted from rs
    → groups (replicate (suc n) ty ++ rest) ≡ record { count = suc n; ty = ty } ∷ counted from rs
grouped_run zero ty rs from rest h e = ap (joined ty) e ∙ first_joined ty rs from h
grouped_run (suc n) ty rs from rest h e = ap (joined ty) (grouped_run n ty rs from rest h e) ∙ rw (same ty) refl

pub groups-types_of : (from : ℕ) (rs : List Run) → Rise from rs → Differ rs → groups (types_of from rs) ≡ counted from rs
groups-types_of from [] h d = refl
groups-types_of from (r ∷ rs) h d =
    let n : r.end - from ≡ suc (r.end - from - 1) = omega (arith, h.0) in
    rw n (grouped_run (r.end - from - 1) r.ty rs r.end (types_of r.end rs) d.0 (groups-types_of r.end rs h.1 d.1))

-- how locals are written
pub locals_bytes-is : (rs : List Run) (tys : List ValType) → types_of 0 rs ≡ tys → Rise 0 rs → Differ rs → locals_bytes tys ≡ number_bytes (length rs) ++ flat_map group_bytes (counted 0 rs)
unfolding vec_bytes
locals_bytes-is rs tys e h d =
    let g : groups tys ≡ counted 0 rs = ap groups (sym e) ∙ groups-types_of 0 rs h d in
    rw (g, length-counted 0 rs) refl
