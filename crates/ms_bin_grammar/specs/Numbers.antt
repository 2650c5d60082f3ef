-- Numbers and vectors (WebAssembly 1.0, 5.1.3 and 5.2.2).
use Rattle.std.specs.Prelude.{◌≡◌, ℕ, ℤ, List, Ok}
use Rattle.std.proofs.Common.{ap, ◌∙◌}
use Rattle.ms_bytes.specs.Reading.{Reader, blamed}
use Rattle.ms_bytes.specs.ResultLaws.{blamed_ok}
use Rattle.ms_bytes.specs.TextLaws.{append_fits}
use Rattle.ms_bytes.specs.Parts.{seq}
use Rattle.ms_bytes.specs.Repetition.{times}
use Rattle.ms_leb.specs.declared.leb.Leb.{Leb}
use Rattle.ms_leb.specs.Leb128.{SignedAt, UnsignedAt, signed_at, unsigned_at}
use Rattle.ms_leb.proofs.Leb128Laws.{signed_again, signed_takes, unsigned_again, unsigned_takes}
use Rattle.ms_bin_grammar.specs.declared.fault.ReadFault.{ReadFault}
use Rattle.ms_bin_grammar.specs.Faults.{Binary, malformed}

abbrev pub number_at : ℕ → Reader ℕ ReadFault ℕ
number_at bits end s = blamed (λ (e : Leb). malformed end s) (unsigned_at bits s)

abbrev pub integer_at : ℕ → Reader ℕ ReadFault ℤ
integer_at bits end s = blamed (λ (e : Leb). malformed end s) (signed_at bits s)

pub number_takes : (bits end : ℕ) (s : List ℕ) (x : ℕ) (t : List ℕ) → number_at bits end s ≡ Ok (x, t) → UnsignedAt bits s x t
number_takes bits end s x t e = unsigned_takes bits s x t (blamed_ok (λ (e : Leb). malformed end s) (unsigned_at bits s) (x, t) e)

pub number_again : (bits end : ℕ) (s : List ℕ) (x : ℕ) (t : List ℕ) → UnsignedAt bits s x t → number_at bits end s ≡ Ok (x, t)
number_again bits end s x t h =
    let e : unsigned_at bits s ≡ Ok (x, t) = ap (λ (l : List ℕ). unsigned_at bits l) h.2 ∙ unsigned_again bits h.0 x t h.1 in
    ap (blamed (λ (e : Leb). malformed end s)) e

pub integer_takes : (bits end : ℕ) (s : List ℕ) (x : ℤ) (t : List ℕ) → integer_at bits end s ≡ Ok (x, t) → SignedAt bits s x t
integer_takes bits end s x t e = signed_takes bits s x t (blamed_ok (λ (e : Leb). malformed end s) (signed_at bits s) (x, t) e)

pub integer_again : (bits end : ℕ) (s : List ℕ) (x : ℤ) (t : List ℕ) → SignedAt bits s x t → integer_at bits end s ≡ Ok (x, t)
integer_again bits end s x t h =
    let e : signed_at bits s ≡ Ok (x, t) = ap (λ (l : List ℕ). signed_at bits l) h.2 ∙ signed_again bits h.0 x t h.1 in
    ap (blamed (λ (e : Leb). malformed end s)) e

-- an unsigned number of so many bits
abbrev pub unsigned : ℕ → Binary ℕ
unsigned bits = record {
  read = number_at bits;
  spelled = UnsignedAt bits;
  takes = number_takes bits;
  again = number_again bits;
  least = 0;
  fits = λ s x t h. append_fits s h.0 t h.2;
}

-- a signed number of so many bits
abbrev pub signed : ℕ → Binary ℤ
signed bits = record {
  read = integer_at bits;
  spelled = SignedAt bits;
  takes = integer_takes bits;
  again = integer_again bits;
  least = 0;
  fits = λ s x t h. append_fits s h.0 t h.2;
}

-- a count, an index or a size
abbrev pub number : Binary ℕ
number = unsigned 32

-- a vector: a count, and so many items
unfoldable pub vec : {A : Type 0} → Binary A → Binary (List A)
vec f = seq number (λ n. times n f)
