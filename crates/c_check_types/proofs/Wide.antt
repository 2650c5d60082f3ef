-- The types at which operators work have 32 or 64 bits.
use Rattle.std.proofs.Common.{◌≡◌, ℕ, Bool, true, false, nat_lt, nat_le, if◌then◌else◌, refl, subst, inl, inr}
use Rattle.ms_num.specs.Integers.{IsWidth}
use Rattle.c_types.specs.declared.integers.IntType.{IntType}
use Rattle.c_types.specs.declared.integers.IntType.TheVariants.{Char, SignedChar, UnsignedChar, Short, UnsignedShort, Int, UnsignedInt, Long, UnsignedLong, LongLong, UnsignedLongLong}
use Rattle.c_types.specs.Integers.{bits, is_signed, rank, holds, unsigned_of, promoted, greater, of_both_signs, common}

abbrev Wide : IntType → Type 0
Wide t = IsWidth (bits t)

pick : (b : Bool) (x y : IntType) → Wide x → Wide y → Wide (if b then x else y)
pick true x y p q = p
pick false x y p q = q

same_bits : (t : IntType) → bits t ≡ bits (unsigned_of t)
same_bits Char = refl
same_bits SignedChar = refl
same_bits UnsignedChar = refl
same_bits Short = refl
same_bits UnsignedShort = refl
same_bits Int = refl
same_bits UnsignedInt = refl
same_bits Long = refl
same_bits UnsignedLong = refl
same_bits LongLong = refl
same_bits UnsignedLongLong = refl

unsigned_wide : (t : IntType) → Wide t → Wide (unsigned_of t)
unsigned_wide t p = let P : ℕ → Type 0 = λ n. IsWidth n in subst P (same_bits t) p

pub promoted_wide : (t : IntType) → IsWidth (bits (promoted t))
promoted_wide Char = inl refl
promoted_wide SignedChar = inl refl
promoted_wide UnsignedChar = inl refl
promoted_wide Short = inl refl
promoted_wide UnsignedShort = inl refl
promoted_wide Int = inl refl
promoted_wide UnsignedInt = inl refl
promoted_wide Long = inl refl
promoted_wide UnsignedLong = inl refl
promoted_wide LongLong = inr refl
promoted_wide UnsignedLongLong = inr refl

greater_wide : (t u : IntType) → Wide t → Wide u → Wide (greater t u)
greater_wide t u p q = pick (nat_lt (rank t) (rank u)) u t q p

both_wide : (s u : IntType) → Wide s → Wide u → Wide (of_both_signs s u)
both_wide s u p q = pick (nat_le (rank s) (rank u)) u (if holds s u then s else unsigned_of s) q (pick (holds s u) s (unsigned_of s) p (unsigned_wide s p))

pub common_wide : (t u : IntType) → IsWidth (bits (common t u))
common_wide t u =
    let p = promoted_wide t in
    let q = promoted_wide u in
    let a = promoted t in
    let b = promoted u in
    pick (is_signed a) (if is_signed b then greater a b else of_both_signs a b) (if is_signed b then of_both_signs b a else greater a b)
    (pick (is_signed b) (greater a b) (of_both_signs a b) (greater_wide a b p q) (both_wide a b p q))
    (pick (is_signed b) (of_both_signs b a) (greater a b) (both_wide b a q p) (greater_wide a b p q))
