-- The first entry of a text, when an entry is added.
use Rattle.std.proofs.Common.{◌≡◌, ℕ, suc, ◌+◌, Bool, true, false, cond, List, [], ◌∷◌, ◌++◌, Option, Some, None, length, nat_eq, is_some, refl, sym, ap, ◌∙◌, arith, if◌then◌else◌}
use Rattle.std.proofs.lemmas.Map.Text.{is_eq-slice_cmp}
use lib.Pointwise.{pointwise}
use Rattle.ms_text_lex.specs.declared.token.Token.{Token}
use Rattle.ms_text_lex.specs.Tokens.{text_of}
use Rattle.ms_text_grammar.specs.Identifiers.{found, is_known}
use Rattle.ms_text_names.specs.refinement.Spaces.{first_of, first_or, numbered}

-- the order of the keys tells the same texts as `pointwise`
pub number_at : (text other : List ℕ) (n : ℕ) → (if pointwise nat_eq text other then Some n else None) ≡ numbered text other n
number_at text other n = ap (λ (b : Bool). if b then Some n else None) (sym (is_eq-slice_cmp text other))

pub first_none : (source : List ℕ) (ids : List (Option Token)) (text : List ℕ) (n : ℕ) → first_of source (ids ++ None ∷ []) text n ≡ first_of source ids text n
first_none source [] text n = refl
first_none source (None ∷ ids) text n = first_none source ids text (suc n)
first_none source (Some id ∷ ids) text n = ap (λ (r : Option ℕ). if pointwise nat_eq (text_of source id) text then Some n else r) (first_none source ids text (suc n))

at_front : (b : Bool) (n : ℕ) (r r' : Option ℕ) (other : Option ℕ) → r ≡ first_or r' other → cond b (Some n) r ≡ first_or (cond b (Some n) r') other
at_front true n r r' other e = refl
at_front false n r r' other e = e

pub first_some : (source : List ℕ) (ids : List (Option Token)) (id : Token) (text : List ℕ) (n k : ℕ) → k ≡ n + length ids → first_of source (ids ++ Some id ∷ []) text n ≡ first_or (first_of source ids text n) (numbered (text_of source id) text k)
first_some source [] id text n k e = let same : n ≡ k = omega arith in number_at (text_of source id) text n ∙ ap (λ m. numbered (text_of source id) text m) same
first_some source (None ∷ ids) id text n k e = first_some source ids id text (suc n) k (omega arith)
first_some source (Some other ∷ ids) id text n k e =
    at_front (pointwise nat_eq (text_of source other) text) n (first_of source (ids ++ Some id ∷ []) text (suc n)) (first_of source ids text (suc n)) (numbered (text_of source id) text k)
    (first_some source ids id text (suc n) k (omega arith))

pub found_first : (source : List ℕ) (ids : List (Option Token)) (id : Token) (n : ℕ) → first_of source ids (text_of source id) n ≡ found source ids id n
found_first source [] id n = refl
found_first source (None ∷ ids) id n = found_first source ids id (suc n)
found_first source (Some other ∷ ids) id n = ap (λ (r : Option ℕ). if pointwise nat_eq (text_of source other) (text_of source id) then Some n else r) (found_first source ids id (suc n))

known_front : (b known : Bool) (n : ℕ) (r : Option ℕ) → known ≡ is_some r → cond b true known ≡ is_some (cond b (Some n) r)
known_front true known n r e = refl
known_front false known n r e = e

pub known_first : (source : List ℕ) (ids : List (Option Token)) (id : Token) (n : ℕ) → is_known source ids id ≡ is_some (first_of source ids (text_of source id) n)
known_first source [] id n = refl
known_first source (None ∷ ids) id n = known_first source ids id (suc n)
known_first source (Some other ∷ ids) id n =
    known_front (pointwise nat_eq (text_of source other) (text_of source id)) (is_known source ids id) n (first_of source ids (text_of source id) (suc n)) (known_first source ids id (suc n))
