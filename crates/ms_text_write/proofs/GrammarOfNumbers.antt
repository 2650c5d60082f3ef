-- What the grammar takes of constants, offsets and alignments as they are written.
use Rattle.std.proofs.Common.{◌≡◌, ◌++◌, ◌&&◌, ◌^◌, ◌<◌, ◌≤◌, ℕ, zero, suc, Bool, true, false, List, [], ◌∷◌, length, drop, Option, Some, None, refl, sym, ap, subst, ◌∙◌, arith, eqb, ltb}
use Rattle.std.specs.Prelude.{ℤ, pos, negsuc, decimal, not, if◌then◌else◌}
use Rattle.std.proofs.lemmas.Bool.Decides.{nat_tests}
use Rattle.ms_module.specs.Accesses.{load_bytes, store_bytes}
use Rattle.ms_module.specs.Instructions.{begins_with, is_float_word}
use Rattle.ms_module.specs.declared.access.LoadOp.{LoadOp}
use Rattle.ms_module.specs.declared.access.LoadOp.TheVariants as loads
use Rattle.ms_module.specs.declared.access.StoreOp.{StoreOp}
use Rattle.ms_module.specs.declared.access.StoreOp.TheVariants as stores
use Rattle.ms_module.specs.declared.access.MemArg.{MemArg}
use Rattle.ms_text_lex.specs.Numbers.{constant_of, index_of}
use Rattle.ms_text_lex.specs.Words.{has_sign, is_id, is_unsigned, is_word}
use Rattle.ms_text_lex.specs.declared.token.Kind.{Kind}
use Rattle.ms_text_lex.specs.declared.token.Kind.TheVariants as kind
use Rattle.ms_text_grammar.specs.Keywords.{align_is, offset_is}
use Rattle.ms_text_grammar.specs.Tokens as tokens
use Rattle.ms_text_grammar.specs.Tokens.{is_keyword, next}
use Rattle.ms_text_grammar.specs.Instructions.{natural}
use Rattle.ms_text_grammar.specs.Numbers.{align, align_by, constant, exponent_in, exponent_of, if_so, is_front, mem_arg, offset, offset_by}
use Rattle.ms_text_write.proofs.LayoutNumbers.{align_no_float, offset_no_float}
use Rattle.ms_text_write.proofs.ReadNumbers.{constant_read, decimal_read, wide_constant_read}
use Rattle.ms_text_write.proofs.Pieces as piece
use Rattle.ms_text_write.proofs.Pieces.{Piece, Shows, align_pieces, mem_arg_pieces, offset_pieces}
use Rattle.ms_text_write.proofs.Sayable.{Narrow, Signed}
use Rattle.ms_text_write.proofs.Gives.{Gives, chosen, first, first_is, gives, grouped, known, single}

-- ---- what holds of numbers below a numeral

abbrev all_below : ℕ → (ℕ → Bool) → Bool
all_below zero f = true
all_below (suc n) f = f n && all_below n f

and_left : (a b : Bool) → (a && b) ≡ true → a ≡ true
and_left true b e = refl
and_left false b e = absurd cc

and_right : (a b : Bool) → (a && b) ≡ true → b ≡ true
and_right true b e = e
and_right false b e = absurd cc

holds_below : (n : ℕ) (f : ℕ → Bool) → all_below n f ≡ true → (k : ℕ) → k < n → f k ≡ true
holds_below zero f e k lt = absurd (omega arith)
holds_below (suc n) f e k lt = go (λ less. holds_below n f (and_right (f n) (all_below n f) e) k less) (eqb k n) refl where
  go : (k < n → f k ≡ true) → (t : Bool) → eqb k n ≡ t → f k ≡ true
  go below true h = let same : k ≡ n = grind (arith, nat_tests) in subst (λ (j : ℕ). f j ≡ true) (sym same) (and_left (f n) (all_below n f) e)
  go below false h = let less : k < n = grind (arith, nat_tests) in below less

abbrev is_some_of : Option ℕ → ℕ → Bool
is_some_of None k = false
is_some_of (Some j) k = eqb j k

is_that : (o : Option ℕ) (k : ℕ) → is_some_of o k ≡ true → o ≡ Some k
is_that None k e = absurd cc
is_that (Some j) k e = let same : j ≡ k = grind (arith, nat_tests) in ap (λ (n : ℕ). Some n) same

exponent_back : (k : ℕ) → k ≤ 31 → exponent_of (2 ^ k) ≡ Some k
exponent_back k le = is_that (exponent_of (2 ^ k)) k (holds_below 32 (λ j. is_some_of (exponent_of (2 ^ j)) j) refl k (omega arith))

power_fits : (k : ℕ) → k ≤ 31 → 2 ^ k < 2 ^ 32
power_fits k le = let t : ltb (2 ^ k) (2 ^ 32) ≡ true = holds_below 32 (λ j. ltb (2 ^ j) (2 ^ 32)) refl k (omega arith) in grind (arith, nat_tests)

-- ---- the alignment that an access has where none is written

abbrev alike : ℕ → ℕ → Bool
alike bytes k = if eqb (2 ^ k) bytes then eqb (natural bytes) k else true

-- so many bytes are 1, 2, 4 or 8
abbrev pub IsSize : ℕ → Type 0
IsSize bytes = all_below 32 (alike bytes) ≡ true

pub load_size : (op : LoadOp) → IsSize (load_bytes op)
load_size loads.I32Load = refl
load_size loads.I64Load = refl
load_size loads.I32Load8S = refl
load_size loads.I32Load8U = refl
load_size loads.I32Load16S = refl
load_size loads.I32Load16U = refl
load_size loads.I64Load8S = refl
load_size loads.I64Load8U = refl
load_size loads.I64Load16S = refl
load_size loads.I64Load16U = refl
load_size loads.I64Load32S = refl
load_size loads.I64Load32U = refl

pub store_size : (op : StoreOp) → IsSize (store_bytes op)
store_size stores.I32Store = refl
store_size stores.I64Store = refl
store_size stores.I32Store8 = refl
store_size stores.I32Store16 = refl
store_size stores.I64Store8 = refl
store_size stores.I64Store16 = refl
store_size stores.I64Store32 = refl

alike_same : (a : Bool) (n k : ℕ) → a ≡ true → (if a then eqb n k else true) ≡ true → n ≡ k
alike_same true n k e h = grind (arith, nat_tests)
alike_same false n k e h = absurd cc

natural_is : (bytes k : ℕ) → IsSize bytes → k ≤ 31 → eqb (2 ^ k) bytes ≡ true → natural bytes ≡ k
natural_is bytes k h le e = alike_same (eqb (2 ^ k) bytes) (natural bytes) k e (holds_below 32 (alike bytes) h k (omega arith))

-- ---- digits behind a front

number_kind : (a b c : Bool) → (if a then kind.Id else if b then kind.Number else if c then kind.Keyword else kind.Reserved) ≡ kind.Number → b ≡ true
number_kind true b c e = absurd cc
number_kind false true c e = refl
number_kind false false true e = absurd cc
number_kind false false false e = absurd cc

no_sign : (b : Bool) (o : Option ℕ) (n : ℕ) → (if b then None else o) ≡ Some n → b ≡ false
no_sign true o n e = absurd cc
no_sign false o n e = refl

decimal_unsigned : (n : ℕ) → n < 2 ^ 32 → is_unsigned (decimal n) ≡ true
decimal_unsigned n h =
    let r = decimal_read n h in
    let text = decimal n in
    let plain : has_sign text ≡ false = no_sign (has_sign text) _ n r.1 in
    let b : (if has_sign text then is_unsigned (drop 1 text) else is_unsigned text) ≡ true = number_kind (is_id text) _ (is_word text) r.0 in
    rw plain at b

-- a keyword of this front
abbrev pub fronted : List ℕ → Kind → List ℕ → Bool
fronted front k w = is_keyword k && begins_with front w

not_offset : (bytes k : ℕ) (P : List Piece) → first (fronted offset_is) P ≡ false → first (fronted offset_is) (align_pieces bytes k ++ P) ≡ false
not_offset bytes k P e = go (eqb (2 ^ k) bytes) where
  go : (t : Bool) → first (fronted offset_is) ((if t then [] else piece.keyword (align_is ++ decimal (2 ^ k)) ∷ []) ++ P) ≡ false
  go true = e
  go false = refl

module _ {source : List ℕ} where
  pub narrow_constant : {P : List Piece} (z : ℤ) → Signed 32 z → Gives source (constant source 32).spelled (piece.constant z ∷ P) (λ x. x ≡ z) P
  unfolding constant
  narrow_constant (pos n) h = single (λ k w. if_so (tokens.is_number k) (constant_of 32 w)) (pos n) (constant_read n h).0.1
  narrow_constant (negsuc n) h = single (λ k w. if_so (tokens.is_number k) (constant_of 32 w)) (negsuc n) (constant_read n h).1.1

  pub wide_constant : {P : List Piece} (z : ℤ) → Signed 64 z → Gives source (constant source 64).spelled (piece.constant z ∷ P) (λ x. x ≡ z) P
  unfolding constant
  wide_constant (pos n) h = single (λ k w. if_so (tokens.is_number k) (constant_of 64 w)) (pos n) (wide_constant_read n h).0.1
  wide_constant (negsuc n) h = single (λ k w. if_so (tokens.is_number k) (constant_of 64 w)) (negsuc n) (wide_constant_read n h).1.1

  -- ---- offsets and alignments

  offset_zero : (P : List Piece) → first (fronted offset_is) P ≡ false → Gives source (offset source).spelled P (λ x. x ≡ 0) P
  unfolding offset offset_by
  offset_zero P e = chosen (next (is_front source offset_is)) (λ b. (offset_by source b).spelled) false (λ s g. first_is (fronted offset_is) s P g ∙ e) (gives (λ x. x ≡ 0) refl)

  offset_some : (n : ℕ) (P : List Piece) → Narrow n → Gives source (offset source).spelled (piece.keyword (offset_is ++ decimal n) ∷ P) (λ x. x ≡ n) P
  unfolding offset offset_by
  offset_some n P h =
      let digits = decimal_unsigned n h in
      chosen (next (is_front source offset_is)) (λ b. (offset_by source b).spelled) true (λ s g. first_is (fronted offset_is) s (piece.keyword (offset_is ++ decimal n) ∷ P) g)
      (single (λ k w. if_so (fronted offset_is k w && is_unsigned (drop (length offset_is) w) && not (is_keyword k && is_float_word w)) (index_of (drop (length offset_is) w))) n (rw (digits, offset_no_float n) (decimal_read n h).1))

  offset_given : (n : ℕ) (P : List Piece) → Narrow n → first (fronted offset_is) P ≡ false → Gives source (offset source).spelled (offset_pieces n ++ P) (λ x. x ≡ n) P
  offset_given n P h e = go (eqb n 0) refl where
    go : (t : Bool) → eqb n 0 ≡ t → Gives source (offset source).spelled ((if t then [] else piece.keyword (offset_is ++ decimal n) ∷ []) ++ P) (λ x. x ≡ n) P
    go true k = let z : n ≡ 0 = grind (arith, nat_tests) in subst (λ (j : ℕ). Gives source (offset source).spelled P (λ x. x ≡ j) P) (sym z) (offset_zero P e)
    go false k = offset_some n P h

  align_natural : (n : ℕ) (P : List Piece) → first (fronted align_is) P ≡ false → Gives source (align source n).spelled P (λ x. x ≡ n) P
  unfolding align align_by
  align_natural n P e = chosen (next (is_front source align_is)) (λ b. (align_by source n b).spelled) false (λ s g. first_is (fronted align_is) s P g ∙ e) (gives (λ x. x ≡ n) refl)

  align_some : (n k : ℕ) (P : List Piece) → k ≤ 31 → Gives source (align source n).spelled (piece.keyword (align_is ++ decimal (2 ^ k)) ∷ P) (λ x. x ≡ k) P
  unfolding align align_by
  align_some n k P le =
      let fits = power_fits k le in
      let digits = decimal_unsigned (2 ^ k) fits in
      let read = (decimal_read (2 ^ k) fits).1 in
      chosen (next (is_front source align_is)) (λ b. (align_by source n b).spelled) true (λ s g. first_is (fronted align_is) s (piece.keyword (align_is ++ decimal (2 ^ k)) ∷ P) g)
      (single (λ k w. if_so (fronted align_is k w && is_unsigned (drop (length align_is) w) && not (is_keyword k && is_float_word w)) (exponent_in (index_of (drop (length align_is) w)))) k (rw (digits, align_no_float (2 ^ k), read) (exponent_back k le)))

  align_given : (bytes k : ℕ) (P : List Piece) → IsSize bytes → k ≤ 31 → first (fronted align_is) P ≡ false → Gives source (align source (natural bytes)).spelled (align_pieces bytes k ++ P) (λ x. x ≡ k) P
  align_given bytes k P h le e = go (eqb (2 ^ k) bytes) refl where
    go : (t : Bool) → eqb (2 ^ k) bytes ≡ t → Gives source (align source (natural bytes)).spelled ((if t then [] else piece.keyword (align_is ++ decimal (2 ^ k)) ∷ []) ++ P) (λ x. x ≡ k) P
    go true f = let z = natural_is bytes k h le f in subst (λ (j : ℕ). Gives source (align source (natural bytes)).spelled P (λ x. x ≡ j) P) z (align_natural (natural bytes) P e)
    go false f = align_some (natural bytes) k P le

  pub mem_arg_given : (bytes : ℕ) (arg : MemArg) (P : List Piece) → IsSize bytes → Narrow arg.offset → arg.align ≤ 31 → first (fronted offset_is) P ≡ false → first (fronted align_is) P ≡ false
      → Gives source (mem_arg source (natural bytes)).spelled (mem_arg_pieces bytes arg ++ P) (λ x. x ≡ arg) P
  unfolding mem_arg mem_arg_pieces
  mem_arg_given bytes arg P h o a e f =
      let places = align_pieces bytes arg.align in
      grouped (offset_pieces arg.offset) places P (known (offset_given arg.offset (places ++ P) o (not_offset bytes arg.align P e)) (known (align_given bytes arg.align P h a f) (gives (λ x. x ≡ arg) refl)))
