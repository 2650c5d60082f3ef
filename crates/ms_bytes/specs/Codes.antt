-- What stands behind a code, the byte that stands first: how it is spelled, how it is read, and that the two agree.
use Rattle.std.specs.Prelude.{◌≡◌, ◌≢◌, ◌==◌, ℕ, ◌≤◌, ◌⊎◌, Bool, true, Option, Some, None, List, [], ◌∷◌, length, Ok, Err, if◌then◌else◌}
use Rattle.ms_bytes.specs.Spot.{place_of}
use Rattle.ms_bytes.specs.Reading.{◌>>=◌, Reader}
use Rattle.ms_bytes.specs.Format.{Format}

-- It is read where the code was at a place.
pub record Coded (F A : Type 0) : Type 1 where
  pub read : ℕ → ℕ → Reader ℕ F A
  pub spelled : ℕ → List ℕ → A → List ℕ → Type 0
  pub takes : (at code end : ℕ) (s : List ℕ) (x : A) (t : List ℕ) → read at code end s ≡ Ok (x, t) → spelled code s x t
  pub again : (at code end : ℕ) (s : List ℕ) (x : A) (t : List ℕ) → spelled code s x t → read at code end s ≡ Ok (x, t)
  pub fits : (code : ℕ) (s : List ℕ) (x : A) (t : List ℕ) → spelled code s x t → length t ≤ length s

-- a code's format, or one under a condition, with the fault at the code where it doesn't hold
pub data Case (F A : Type 0) : Type 1 where
  Is : Format ℕ F A → Case F A
  IsIf : Bool → (ℕ → F) → Format ℕ F A → Case F A

abbrev pub case_at : {F A : Type 0} → ℕ → Case F A → Reader ℕ F A
case_at at (Is f) end s = f.read end s
case_at at (IsIf b fault f) end s = if b then f.read end s else Err (fault at)

abbrev pub CaseSpelled : {F A : Type 0} → Case F A → List ℕ → A → List ℕ → Type 0
CaseSpelled (Is f) s x t = f.spelled s x t
CaseSpelled (IsIf b fault f) s x t = (b ≡ true) × f.spelled s x t

-- the first row with the code, else what comes after the rows
abbrev pub among_at : {F A : Type 0} → List (ℕ × Case F A) → Coded F A → ℕ → ℕ → Reader ℕ F A
among_at [] others at code end s = others.read at code end s
among_at (row ∷ rows) others at code end s = if code == row.0 then case_at at row.1 end s else among_at rows others at code end s

abbrev pub AmongSpelled : {F A : Type 0} → List (ℕ × Case F A) → Coded F A → ℕ → List ℕ → A → List ℕ → Type 0
AmongSpelled [] others code s x t = others.spelled code s x t
AmongSpelled (row ∷ rows) others code s x t = ((code ≡ row.0) × CaseSpelled row.1 s x t) ⊎ ((code ≢ row.0) × AmongSpelled rows others code s x t)

-- what a code names tells what stands behind it
abbrev pub named_at : {F K A : Type 0} → (K → Format ℕ F A) → Coded F A → Option K → ℕ → ℕ → Reader ℕ F A
named_at behind others None at code end s = others.read at code end s
named_at behind others (Some k) at code end s = (behind k).read end s

abbrev pub NamedSpelled : {F K A : Type 0} → (K → Format ℕ F A) → Coded F A → Option K → ℕ → List ℕ → A → List ℕ → Type 0
NamedSpelled behind others None code s x t = others.spelled code s x t
NamedSpelled behind others (Some k) code s x t = (behind k).spelled s x t

-- a first code with a second one behind it; the two are one item
abbrev pub second_at : {F A : Type 0} → (ℕ → F) → Coded F A → ℕ → Reader ℕ F A
second_at missing seconds at end [] = Err (missing at)
second_at missing seconds at end (b ∷ s) = seconds.read at b end s

abbrev pub SecondSpelled : {F A : Type 0} → Coded F A → List ℕ → A → List ℕ → Type 0
SecondSpelled seconds s x t = (b : ℕ) × (m : List ℕ) × (s ≡ b ∷ m) × seconds.spelled b m x t

abbrev pub pair_at : {F A : Type 0} → (ℕ → F) → ℕ → Coded F A → Coded F A → ℕ → ℕ → Reader ℕ F A
pair_at missing first seconds others at code end s = if code == first then second_at missing seconds at end s else others.read at code end s

abbrev pub PairSpelled : {F A : Type 0} → ℕ → Coded F A → Coded F A → ℕ → List ℕ → A → List ℕ → Type 0
PairSpelled first seconds others code s x t = ((code ≡ first) × SecondSpelled seconds s x t) ⊎ ((code ≢ first) × others.spelled code s x t)

-- a code, and what stands behind it
abbrev pub byte_at : {F : Type 0} → (ℕ → List ℕ → F) → Reader ℕ F ℕ
byte_at fault end [] = Err (fault end [])
byte_at fault end (b ∷ bs) = Ok (b, bs)

abbrev pub coded_at : {F A : Type 0} → (ℕ → List ℕ → F) → Coded F A → Reader ℕ F A
coded_at fault codes end s = byte_at fault end s >>= λ b. codes.read (place_of end s) b.0 end b.1

abbrev pub CodedSpelled : {F A : Type 0} → Coded F A → List ℕ → A → List ℕ → Type 0
CodedSpelled codes s x t = (b : ℕ) × (m : List ℕ) × (s ≡ b ∷ m) × codes.spelled b m x t
