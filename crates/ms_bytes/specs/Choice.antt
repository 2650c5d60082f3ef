-- A choice by a code, the byte that stands first: tables of codes, each with what stands behind it.
use Rattle.std.specs.Prelude.{ℕ, Option, List, Err}
use Rattle.ms_bytes.specs.Reading.{◌>>=◌}
use Rattle.ms_bytes.specs.ResultLaws.{not_refused}
use Rattle.ms_bytes.specs.Format.{Format}
use Rattle.ms_bytes.specs.Codes.{AmongSpelled, Case, Coded, CodedSpelled, NamedSpelled, PairSpelled, among_at, coded_at, named_at, pair_at}
use Rattle.ms_bytes.specs.CodeLaws.{among_again, among_fits, among_takes, coded_again, coded_fits, coded_takes, named_again, named_fits, named_takes, pair_again, pair_fits, pair_takes, then_again, then_fits, then_takes}

-- no code: a fault, by the place of the code and the code
abbrev pub no_other : {F A : Type 0} → (ℕ → ℕ → F) → Coded F A
no_other {F} {A} fault = record {
  read = λ at code end s. Err (fault at code);
  spelled = λ code s x t. ⊥;
  takes = λ at code end s x t e. not_refused {A = A × List ℕ} (fault at code) (x, t) e;
  again = λ at code end s x t h. absurd h;
  fits = λ code s x t h. absurd h;
}

-- some codes, each with a format of its own, perhaps only under a condition
abbrev pub among : {F A : Type 0} → List (ℕ × Case F A) → Coded F A → Coded F A
among rows others = record {
  read = among_at rows others;
  spelled = AmongSpelled rows others;
  takes = among_takes rows others;
  again = among_again rows others;
  fits = among_fits rows others;
}

-- some codes, each with a name, and what stands behind them by the name
abbrev pub table : {F K A : Type 0} → (ℕ → Option K) → (K → Format ℕ F A) → Coded F A → Coded F A
table names behind others = record {
  read = λ at code. named_at behind others (names code) at code;
  spelled = λ code. NamedSpelled behind others (names code) code;
  takes = λ at code. named_takes behind others (names code) at code;
  again = λ at code. named_again behind others (names code) at code;
  fits = λ code. named_fits behind others (names code) code;
}

-- one code with a second one behind it; a missing one is a fault at the first, since the two are one item
abbrev pub paired : {F A : Type 0} → (ℕ → F) → ℕ → Coded F A → Coded F A → Coded F A
paired missing first seconds others = record {
  read = pair_at missing first seconds others;
  spelled = PairSpelled first seconds others;
  takes = pair_takes missing first seconds others;
  again = pair_again missing first seconds others;
  fits = pair_fits first seconds others;
}

-- what the code is, and then a format that it tells
abbrev pub followed : {F A B : Type 0} → Coded F A → (A → Format ℕ F B) → Coded F B
followed {F} {A} {B} codes f = record {
  read = λ at code end s. codes.read at code end s >>= λ x. (f x.0).read end x.1;
  spelled = λ code s y t. (x : A) × (m : List ℕ) × codes.spelled code s x m × (f x).spelled m y t;
  takes = then_takes codes f;
  again = then_again codes f;
  fits = then_fits codes f;
}

-- a code, and what stands behind it
abbrev pub coded : {F A : Type 0} → (ℕ → List ℕ → F) → Coded F A → Format ℕ F A
coded fault codes = record { read = coded_at fault codes; spelled = CodedSpelled codes; takes = coded_takes fault codes; again = coded_again fault codes; least = 1; fits = coded_fits codes }
