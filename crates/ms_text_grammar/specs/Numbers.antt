-- Numbers and indices (WebAssembly 1.0, 6.3.1 and 6.6.1).
use Rattle.std.specs.Prelude.{◌==◌, ◌^◌, ◌&&◌, ◌≤◌, not, ℕ, ℤ, suc, zero, Bool, true, false, List, [], ◌∷◌, Option, Some, None, length, drop, if◌then◌else◌}
use Rattle.std.proofs.Common.{arith}
use Rattle.ms_bytes.specs.Do.{◌>>=◌}
use Rattle.ms_bytes.specs.Parts.{choose, choose_least, item, pure}
use Rattle.ms_text_lex.specs.declared.token.Token.{Token}
use Rattle.ms_text_lex.specs.Tokens.{text_of}
use Rattle.ms_text_lex.specs.Words.{has_sign, is_unsigned}
use Rattle.ms_text_lex.specs.Numbers.{constant_of, index_of}
use Rattle.ms_module.specs.Instructions.{begins_with}
use Rattle.ms_module.specs.declared.access.MemArg.{MemArg}
use Rattle.ms_text_grammar.specs.declared.fault.TextFault.{TextFault}
use Rattle.ms_text_grammar.specs.declared.fault.TextFault.TheVariants.{Range}
use Rattle.ms_text_grammar.specs.declared.surface.Index.{Index}
use Rattle.ms_text_grammar.specs.declared.surface.Index.TheVariants.{Name, Number}
use Rattle.ms_text_grammar.specs.Keywords.{align_is, offset_is}
use Rattle.ms_text_grammar.specs.Tokens.{begins_id, begins_index, is_keyword, is_number, next}
use Rattle.ms_text_grammar.specs.Faults.{Textual, bad, is_float}
use Rattle.ms_text_grammar.specs.Parts.{identifier}

abbrev pub if_so : {A : Type 0} → Bool → Option A → Option A
if_so true x = x
if_so false x = None

-- a number that may stand there, out of its range, or something else
abbrev pub out_of_range : List ℕ → (Token → Bool) → ℕ → List Token → TextFault
out_of_range source in_place end [] = bad source end []
out_of_range source in_place end (t ∷ ts) = if in_place t then Range t.at else bad source end (t ∷ ts)

-- ---- numbers that stand in a keyword, behind the text of its front

abbrev pub is_front : List ℕ → List ℕ → Token → Bool
is_front source front t = is_keyword t.kind && begins_with front (text_of source t)

abbrev pub behind : List ℕ → List ℕ → Token → List ℕ
behind source front t = drop (length front) (text_of source t)

-- the front, and behind it digits; but `0x1_f32` makes it a keyword of floating-point numbers
abbrev pub is_numbered : List ℕ → List ℕ → Token → Bool
is_numbered source front t = is_front source front t && is_unsigned (behind source front t) && not (is_float source t)

-- the number k, from here on and with so many to try, for which n is 2 to the power k
abbrev pub power_from : ℕ → ℕ → ℕ → Option ℕ
power_from zero k n = None
power_from (suc more) k n = if n == 2 ^ k then Some k else power_from more (suc k) n

-- the exponent of a power of two of at most 2^31
abbrev pub exponent_of : ℕ → Option ℕ
exponent_of n = power_from 32 0 n

abbrev pub exponent_in : Option ℕ → Option ℕ
exponent_in None = None
exponent_in (Some n) = exponent_of n

module _ (source : List ℕ) where
  -- a number token without a sign
  abbrev pub is_plain_number : Token → Bool
  is_plain_number t = is_number t.kind && not (has_sign (text_of source t))

  unfoldable pub constant : ℕ → Textual ℤ
  constant bits = item (out_of_range source (λ t. is_number t.kind)) (λ t. if_so (is_number t.kind) (constant_of bits (text_of source t)))

  unfoldable pub number : Textual ℕ
  number = item (out_of_range source is_plain_number) (λ t. if_so (is_number t.kind) (index_of (text_of source t)))

  unfoldable pub index_by : Bool → Textual Index
  index_by true = do
    id ← identifier source
    pure (Name id)
  index_by false = do
    n ← number
    pure (Number n)

  pub index_by_least : (b : Bool) → 1 ≤ (index_by b).least
  unfolding index_by number
  index_by_least true = omega arith
  index_by_least false = omega arith

  -- a number or an identifier
  unfoldable pub index : Textual Index
  index = choose_least 1 begins_id index_by index_by_least

  unfoldable pub optional_index_by : Bool → Textual Index
  optional_index_by true = index
  optional_index_by false = pure (Number 0)

  -- an index, or 0 where there is none
  unfoldable pub optional_index : Textual Index
  optional_index = choose begins_index optional_index_by

  -- ---- offsets and alignments of accesses (6.5.5): `offset=N` and `align=N`, each a keyword

  -- a keyword of this front, by what is made of its number
  abbrev pub numbered : {A : Type 0} → List ℕ → (Option ℕ → Option A) → Textual A
  numbered front f = item (out_of_range source (is_numbered source front)) (λ t. if_so (is_numbered source front t) (f (index_of (behind source front t))))

  unfoldable pub offset_by : Bool → Textual ℕ
  offset_by true = numbered offset_is (λ n. n)
  offset_by false = pure 0

  -- 0 where it is not written
  unfoldable pub offset : Textual ℕ
  offset = choose (next (is_front source offset_is)) offset_by

  unfoldable pub align_by : ℕ → Bool → Textual ℕ
  align_by natural true = numbered align_is exponent_in
  align_by natural false = pure natural

  -- the exponent; the natural one where it is not written
  unfoldable pub align : ℕ → Textual ℕ
  align natural = choose (next (is_front source align_is)) (align_by natural)

  unfoldable pub mem_arg : ℕ → Textual MemArg
  mem_arg natural = do
    n ← offset
    k ← align natural
    pure (record { align = k; offset = n })
