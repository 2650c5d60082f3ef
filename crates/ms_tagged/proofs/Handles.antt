-- The pieces of a handle.
use Rattle.std.proofs.Common.{◌≡◌, ℕ, ◌+◌, ◌<◌, ◌≤◌, zero, suc, List, [], ◌∷◌, ◌++◌, get_or, length, refl, ap, sym, ◌∙◌, arith, zero-add}
use Rattle.ms_handle.specs.declared.handle.Handle.{Handle}
use Rattle.ms_handle.specs.declared.handle.Handle.TheVariants.{Broken}
use Rattle.ms_tagged.specs.Bytes.{Byte, Data, Piece, pieces, zeros, IsHandleAt, whole, cleared, torn, range, overwritten}
use Rattle.ms_tagged.proofs.Ranges.{range-overwritten_same}
use Rattle.ms_tagged.specs.refinement.Tags.{pieces_from}

-- one more piece at the end
pub pieces_from-more : (handle : Handle) (i n : ℕ) → pieces_from handle i (n + 1) ≡ pieces_from handle i n ++ Piece handle (i + n) ∷ []
pieces_from-more handle i zero = ap (λ j. Piece handle j ∷ []) (omega arith)
pieces_from-more handle i (suc n) =
    let e : suc n + 1 ≡ suc (n + 1) = omega arith in
    let j : i + 1 + n ≡ i + suc n = omega arith in
    rw (e, pieces_from-more handle (i + 1) n, j) refl

pub pieces_from-next : (handle : Handle) (n : ℕ) → pieces_from handle 0 (n + 1) ≡ pieces_from handle 0 n ++ Piece handle n ∷ []
pieces_from-next handle n = rw (pieces_from-more handle 0 n, zero-add) refl

-- the piece at a place
pub get_or-pieces_from : (handle : Handle) (from n i : ℕ) → i < n → get_or (pieces_from handle from n) i (Data 0) ≡ Piece handle (from + i)
get_or-pieces_from handle from zero i within = absurd (omega arith)
get_or-pieces_from handle from (suc n) zero within = ap (Piece handle) (omega arith)
get_or-pieces_from handle from (suc n) (suc i) within =
    get_or-pieces_from handle (from + 1) n i (omega arith) ∙ ap (Piece handle) (omega arith)

-- ---- the handle at sixteen bytes

-- a piece of a handle stands first, and some piece of it does not stand there
pub torn-after_piece : (bytes : List Byte) (handle : Handle) (i : ℕ) → get_or bytes 0 (Data 0) ≡ Piece handle i → (bytes ≡ pieces_from handle 0 16 → ⊥) → IsHandleAt bytes Broken
torn-after_piece bytes handle i first not_pieces =
    torn
    (λ other e. let same : Piece handle i ≡ Piece other 0 = sym first ∙ ap (λ b. get_or b 0 (Data 0)) e in let h : other ≡ handle = cc in not_pieces (e ∙ ap (λ x. pieces_from x 0 16) h))
    (λ e. let same : Piece handle i ≡ Data 0 = sym first ∙ ap (λ b. get_or b 0 (Data 0)) e in cc)

-- a data byte stands among them, and not all are data bytes 0
pub torn-with_data : (bytes : List Byte) (i byte : ℕ) → i < 16 → get_or bytes i (Data 0) ≡ Data byte → (bytes ≡ zeros → ⊥) → IsHandleAt bytes Broken
torn-with_data bytes i byte within is not_zeros =
    torn
    (λ other e. let same : Data byte ≡ Piece other (0 + i) = sym is ∙ (ap (λ b. get_or b i (Data 0)) e ∙ get_or-pieces_from other 0 16 i within) in cc)
    not_zeros

-- the pieces of a handle are that handle
pub IsHandleAt-pieces : (handle : Handle) → IsHandleAt (pieces handle) handle
IsHandleAt-pieces handle = whole refl

pub same_from_pieces : (handle other : Handle) → pieces handle ≡ pieces other → handle ≡ other
same_from_pieces handle other e =
    let same : Piece handle 0 ≡ Piece other 0 = ap (λ b. get_or b 0 (Data 0)) e in cc

pub pieces≢zeros : (handle : Handle) → pieces handle ≡ zeros → ⊥
pieces≢zeros handle e = let same : Piece handle 0 ≡ Data 0 = ap (λ b. get_or b 0 (Data 0)) e in cc

-- sixteen bytes are one handle
pub IsHandleAt-unique : (bytes : List Byte) (handle other : Handle) → IsHandleAt bytes handle → IsHandleAt bytes other → handle ≡ other
IsHandleAt-unique bytes handle other (whole e) (whole f) = same_from_pieces _ _ (sym e ∙ f)
IsHandleAt-unique bytes handle other (whole e) (cleared f) = absurd (pieces≢zeros _ (sym e ∙ f))
IsHandleAt-unique bytes handle other (whole e) (torn not_pieces not_zeros) = absurd (not_pieces _ e)
IsHandleAt-unique bytes handle other (cleared e) (whole f) = absurd (pieces≢zeros _ (sym f ∙ e))
IsHandleAt-unique bytes handle other (cleared e) (cleared f) = refl
IsHandleAt-unique bytes handle other (cleared e) (torn not_pieces not_zeros) = absurd (not_zeros e)
IsHandleAt-unique bytes handle other (torn not_pieces not_zeros) (whole f) = absurd (not_pieces _ f)
IsHandleAt-unique bytes handle other (torn not_pieces not_zeros) (cleared f) = absurd (not_zeros f)
IsHandleAt-unique bytes handle other (torn not_pieces not_zeros) (torn other_pieces other_zeros) = refl

-- ---- a handle that was written

pub length-pieces : (handle : Handle) → length (pieces handle) ≡ 16
length-pieces handle = refl

-- it is read
pub IsHandleAt-overwritten : (address : ℕ) (handle : Handle) (old : List Byte) → address + 16 ≤ length old → IsHandleAt (range address 16 (overwritten address (pieces handle) old)) handle
IsHandleAt-overwritten address handle old within =
    whole (range-overwritten_same address 16 (pieces handle) old refl within)
