-- An index space while it is filled: the source, and the identifiers of its entries so far.
use Rattle.std.specs.Prelude.{ℕ, suc, Bool, List, [], ◌∷◌, Option, Some, None, nat_eq, if◌then◌else◌, false}
use Rattle.std.proofs.Common.{Bor}
use Rattle.std.specs.BTreeMap.{BTreeMap, get}
use Rattle.std.specs.Cmp.Lexicographic.{slice_cmp}
use Rattle.std.specs.Ordering.{is_eq, nat_cmp}
use lib.Pointwise.{pointwise}
use Rattle.ms_text_lex.specs.declared.token.Token.{Token}
use Rattle.ms_text_lex.specs.Tokens.{text_of}
use Rattle.ms_text_grammar.specs.Identifiers.{is_known}

pub record Entries : Type 0 where
  pub source : List ℕ
  pub ids : List (Option Token)

-- whether an identifier stands before
abbrev pub stands_before : List ℕ → List (Option Token) → Option Token → Bool
stands_before source ids None = false
stands_before source ids (Some id) = is_known source ids id

-- the first entry of this text
abbrev pub first_of : List ℕ → List (Option Token) → List ℕ → ℕ → Option ℕ
first_of source [] text n = None
first_of source (None ∷ ids) text n = first_of source ids text (suc n)
first_of source (Some id ∷ ids) text n = if pointwise nat_eq (text_of source id) text then Some n else first_of source ids text (suc n)

-- ---- the numbers of texts, as they are kept

abbrev pub number_of : BTreeMap (Bor (List ℕ)) ℕ → Bor (List ℕ) → Option ℕ
number_of numbers text = get (λ x y. slice_cmp nat_cmp x.now y.now) numbers text

-- the first of two numbers that is there
abbrev pub first_or : Option ℕ → Option ℕ → Option ℕ
first_or None other = other
first_or (Some n) other = Some n

-- the number of a text, for the same text
abbrev pub numbered : List ℕ → List ℕ → ℕ → Option ℕ
numbered text other n = if is_eq (slice_cmp nat_cmp text other) then Some n else None

-- with an entry of this identifier in front, if there is one
abbrev pub entered : Option (Option Token) → List (Option Token) → List (Option Token)
entered None ids = ids
entered (Some id) ids = id ∷ ids
