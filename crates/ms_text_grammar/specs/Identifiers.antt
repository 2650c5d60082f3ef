-- Identifiers (WebAssembly 1.0, 6.1.3): an index space is the identifiers of its entries, in their order. Each step of resolving
-- is total: the places of identifiers that are unknown, or that stand a second time in their index space, are a list.
use Rattle.std.specs.Prelude.{ℕ, suc, Bool, true, false, List, [], ◌∷◌, ◌++◌, Option, Some, None, if◌then◌else◌}
use Rattle.std.specs.Str.{bytes_eq}
use Rattle.ms_text_lex.specs.declared.token.Token.{Token}
use Rattle.ms_text_lex.specs.Tokens.{text_of}
use Rattle.ms_text_grammar.specs.declared.surface.Index.{Index}
use Rattle.ms_text_grammar.specs.declared.surface.Index.TheVariants.{Name, Number}
use Rattle.ms_text_grammar.specs.declared.surface.Param.{Param}

-- a value, and the places of unknown and repeated identifiers that were met on the way
pub record With (A : Type 0) : Type 0 where
  pub value : A
  pub wrong : List ℕ

abbrev pub right : {A : Type 0} → A → With A
right x = record { value = x; wrong = [] }

abbrev pub mapped : {A B : Type 0} → (A → B) → With A → With B
mapped f x = record { value = f x.value; wrong = x.wrong }

abbrev pub joined : {A : Type 0} → With A → With (List A) → With (List A)
joined x xs = record { value = x.value ∷ xs.value; wrong = x.wrong ++ xs.wrong }

abbrev pub each : {A B : Type 0} → (A → With B) → List A → With (List B)
each f [] = right []
each f (x ∷ xs) = joined (f x) (each f xs)

-- ---- identifiers (6.1.3): an index space is the identifiers of its entries, in their order

abbrev pub param_ids : List Param → List (Option Token)
param_ids [] = []
param_ids (p ∷ ps) = p.id ∷ param_ids ps

module _ (source : List ℕ) where
  abbrev pub is_named : Option Token → Token → Bool
  is_named None id = false
  is_named (Some other) id = bytes_eq (text_of source other) (text_of source id)

  -- the first entry of this identifier
  abbrev pub found : List (Option Token) → Token → ℕ → Option ℕ
  found [] id n = None
  found (x ∷ xs) id n = if is_named x id then Some n else found xs id (suc n)

  abbrev pub looked_up : Token → Option ℕ → With ℕ
  looked_up id (Some n) = right n
  looked_up id None = record { value = 0; wrong = id.at ∷ [] }

  abbrev pub identified : List (Option Token) → Token → With ℕ
  identified ids id = looked_up id (found ids id 0)

  abbrev pub resolved : List (Option Token) → Index → With ℕ
  resolved ids (Number n) = right n
  resolved ids (Name id) = identified ids id

  abbrev pub is_known : List (Option Token) → Token → Bool
  is_known [] id = false
  is_known (x ∷ xs) id = if is_named x id then true else is_known xs id

  abbrev pub repeat_of : List (Option Token) → Option Token → List ℕ
  repeat_of before None = []
  repeat_of before (Some id) = if is_known before id then id.at ∷ [] else []

  -- the places of identifiers that stood before; the first list is what stood before
  abbrev pub repeats : List (Option Token) → List (Option Token) → List ℕ
  repeats before [] = []
  repeats before (id ∷ ids) = repeat_of before id ++ repeats (before ++ id ∷ []) ids
