-- Numbers in bytes.
use Rattle.std.proofs.Common.{◌≡◌, ℕ, ◌+◌, ◌*◌, ◌/◌, ◌%◌, ◌^◌, ◌<◌, ◌≤◌, zero, suc, Some, None, lit<, List, [], ◌∷◌, length, get_or, drop, refl, ap, sym, ◌∙◌, arith}
use Rattle.std.proofs.Math.Nat.{pow-suc, pow-le-pow_right, mul-le-mul_right, one-le-pow, mod-one}
use Rattle.std.proofs.Math.Arith.{mod-mul}
use Rattle.std.proofs.lemmas.List.{drop_more}
use Rattle.ms_handle.specs.declared.handle.Handle.{Handle}
use Rattle.ms_tagged.specs.Bytes.{Byte, Data, Piece, number_at, number_with, data_of, range, overwritten}
use Rattle.ms_tagged.proofs.Ranges.{range-overwritten_same}

-- where the bytes from some place on are no number, neither are all
pub number_at-none : (i : ℕ) (bytes : List Byte) → number_at (drop i bytes) ≡ None → number_at bytes ≡ None
number_at-none zero bytes h = h
number_at-none (suc i) [] h = h
number_at-none (suc i) (Data byte ∷ bytes) h = ap (number_with byte) (number_at-none i bytes h)
number_at-none (suc i) (Piece handle n ∷ bytes) h = refl

-- a piece at any place makes the bytes no number
pub number_at-piece : (bytes : List Byte) (i : ℕ) (handle : Handle) (n : ℕ) → i < length bytes → get_or bytes i (Data 0) ≡ Piece handle n → number_at bytes ≡ None
number_at-piece bytes i handle n within is =
    number_at-none i bytes (rw (drop_more bytes i (Data 0) within, is) refl)

-- ---- one more digit, to the base 256

pub digit-more : (value byte digits more : ℕ) → more ≡ suc digits → byte < 256 → value < 256 ^ digits → value * 256 + byte < 256 ^ more
digit-more value byte digits more e small below =
    rw (e, pow-suc 256 digits) (omega (arith, mul-le-mul_right 256 (let h : value + 1 ≤ 256 ^ digits = omega arith in h)))

pub fits-number : (value byte digits : ℕ) → digits ≤ 7 → byte < 256 → value < 256 ^ digits → value * 256 + byte < 18446744073709551616
fits-number value byte digits few small below =
    omega (arith, digit-more value byte digits (suc digits) refl small below, pow-le-pow_right {n = 256} (lit< tt) {i = suc digits} {j = 8} (omega arith))

-- ---- what is read after a write

-- the lowest bytes of a number, read as a number
pub number_at-data_of : (width value : ℕ) → number_at (data_of width value) ≡ Some (value % 256 ^ width)
number_at-data_of zero value = ap Some (sym (mod-one value))
number_at-data_of (suc width) value =
    let above : 0 < 256 ^ width = omega (arith, one-le-pow width 256 (lit< tt)) in
    let digits : value % (256 ^ width * 256) ≡ (value / 256 % 256 ^ width) * 256 + value % 256 = mod-mul value above (lit< tt) in
    rw (number_at-data_of width (value / 256), pow-suc 256 width, digits) (ap Some (omega arith))

pub length-data_of : (width value : ℕ) → length (data_of width value) ≡ width
length-data_of zero value = refl
length-data_of (suc width) value = ap suc (length-data_of width (value / 256))

-- a number that was written is read, as far as its lowest bytes say it
pub number_at-overwritten : (address width value : ℕ) (old : List Byte) → address + width ≤ length old → number_at (range address width (overwritten address (data_of width value) old)) ≡ Some (value % 256 ^ width)
number_at-overwritten address width value old within =
    ap number_at (range-overwritten_same address width (data_of width value) old (sym (length-data_of width value)) within) ∙ number_at-data_of width value
