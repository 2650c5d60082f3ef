-- Types are the same where their keys are; the first type of a key.
use Rattle.std.proofs.Common.{◌≡◌, ℕ, suc, ◌+◌, ◌<◌, drop, get_or, ◌&&◌, Bool, true, false, cond, List, [], ◌∷◌, ◌++◌, Option, Some, None, length, nat_eq, is_some, refl, sym, ap, ◌∙◌, arith}
use Rattle.std.proofs.lemmas.List.{drop_more}
use lib.Pointwise.{pointwise}
use Rattle.ms_types.specs.declared.types.ValType.{ValType}
use Rattle.ms_types.specs.declared.types.ValType.TheVariants.{I32, I64, Handle}
use Rattle.ms_types.specs.declared.types.FuncType.{FuncType}
use Rattle.ms_text_grammar.specs.declared.surface.TypeUse.{TypeUse}
use Rattle.ms_text_grammar.specs.declared.surface.Field.{Field}
use Rattle.ms_text_grammar.specs.TypeUses.{all_uses, uses_of, with_use, with_uses}
use Rattle.ms_text_grammar.specs.Shapes.{has_type, least_equal, same_shape, same_type, use_type}
use Rattle.ms_text_names.specs.refinement.Keys.{code_of, codes_of, first_of, key_of}
use Rattle.ms_text_names.specs.refinement.Spaces.{first_or, numbered}
use Rattle.ms_text_names.proofs.Firsts.{number_at}

same_code : (a b : ValType) → nat_eq (code_of b) (code_of a) ≡ same_type a b
same_code I32 I32 = refl
same_code I32 I64 = refl
same_code I32 Handle = refl
same_code I64 I32 = refl
same_code I64 I64 = refl
same_code I64 Handle = refl
same_code Handle I32 = refl
same_code Handle I64 = refl
same_code Handle Handle = refl

same_codes : (ps qs : List ValType) → pointwise nat_eq (codes_of qs) (codes_of ps) ≡ pointwise same_type ps qs
same_codes [] [] = refl
same_codes [] (b ∷ qs) = refl
same_codes (a ∷ ps) [] = refl
same_codes (a ∷ ps) (b ∷ qs) = rw (same_code a b, same_codes ps qs) refl

regroup : (a b c : Bool) → (a && (b && c)) ≡ ((a && b) && c)
regroup true b c = refl
regroup false b c = refl

no_code : (ty : ValType) → nat_eq (code_of ty) 0 ≡ false
no_code I32 = refl
no_code I64 = refl
no_code Handle = refl

not_code : (ty : ValType) → nat_eq 0 (code_of ty) ≡ false
not_code I32 = refl
not_code I64 = refl
not_code Handle = refl

same_parts : (ps qs rs ss : List ValType) → pointwise nat_eq (codes_of qs ++ 0 ∷ codes_of ss) (codes_of ps ++ 0 ∷ codes_of rs) ≡ (pointwise same_type ps qs && pointwise same_type rs ss)
same_parts [] [] rs ss = same_codes rs ss
same_parts [] (b ∷ qs) rs ss = rw (no_code b) refl
same_parts (a ∷ ps) [] rs ss = rw (not_code a) refl
same_parts (a ∷ ps) (b ∷ qs) rs ss = rw (same_code a b, same_parts ps qs rs ss) (regroup (same_type a b) _ _)

same_key : (a b : FuncType) → pointwise nat_eq (key_of b) (key_of a) ≡ same_shape a b
same_key a b = same_parts a.params b.params a.results b.results

at_front : (b : Bool) (n : ℕ) (r r' : Option ℕ) (other : Option ℕ) → r ≡ first_or r' other → cond b (Some n) r ≡ first_or (cond b (Some n) r') other
at_front true n r r' other e = refl
at_front false n r r' other e = e

pub first_added : (tys : List FuncType) (ty : FuncType) (key : List ℕ) (n k : ℕ) → k ≡ n + length tys → first_of (tys ++ ty ∷ []) key n ≡ first_or (first_of tys key n) (numbered (key_of ty) key k)
first_added [] ty key n k e = let same : n ≡ k = omega arith in number_at (key_of ty) key n ∙ ap (λ m. numbered (key_of ty) key m) same
first_added (other ∷ tys) ty key n k e =
    at_front (pointwise nat_eq (key_of other) key) n (first_of (tys ++ ty ∷ []) key (suc n)) (first_of tys key (suc n)) (numbered (key_of ty) key k)
    (first_added tys ty key (suc n) k (omega arith))

has_front : (b known : Bool) (n : ℕ) (r : Option ℕ) → known ≡ is_some r → cond b true known ≡ is_some (cond b (Some n) r)
has_front true known n r e = refl
has_front false known n r e = e

pub has_first : (ty : FuncType) (tys : List FuncType) (n : ℕ) → has_type ty tys ≡ is_some (first_of tys (key_of ty) n)
has_first ty [] n = refl
has_first ty (other ∷ tys) n = rw (same_key ty other) (has_front (same_shape ty other) (has_type ty tys) n (first_of tys (key_of ty) (suc n)) (has_first ty tys (suc n)))

-- the number of the first type, or of all
abbrev pub number_or : Option ℕ → ℕ → ℕ
number_or None all = all
number_or (Some k) all = k

least_front : (b : Bool) (n least all : ℕ) (r : Option ℕ) → number_or r all ≡ suc n + least → number_or (cond b (Some n) r) all ≡ n + cond b 0 (suc least)
least_front true n least all r e = omega arith
least_front false n least all r e = omega arith

pub least_first : (ty : FuncType) (tys : List FuncType) (n all : ℕ) → all ≡ n + length tys → number_or (first_of tys (key_of ty) n) all ≡ n + least_equal ty tys
least_first ty [] n all e = omega arith
least_first ty (other ∷ tys) n all e = rw (same_key ty other) (least_front (same_shape ty other) n (least_equal ty tys) all (first_of tys (key_of ty) (suc n)) (least_first ty tys (suc n) all (omega arith)))

-- ---- uses

pub with_uses_append : (us vs : List TypeUse) (tys : List FuncType) → with_uses (us ++ vs) tys ≡ with_uses vs (with_uses us tys)
with_uses_append [] vs tys = refl
with_uses_append (u ∷ us) vs tys = with_uses_append us vs (with_use u.sig (use_type u) tys)

pub uses_step : (fs : List Field) (i : ℕ) (f : Field) (tys now total : List FuncType) → i < length fs → f ≡ get_or fs i f → now ≡ with_uses (uses_of f) tys → with_uses (all_uses (drop i fs)) tys ≡ total → with_uses (all_uses (drop (i + 1) fs)) now ≡ total
uses_step fs i f tys now total lt is e so_far =
    let rest = drop (i + 1) fs in
    let next : drop i fs ≡ f ∷ rest = drop_more fs i f lt ∙ ap (λ (g : Field). g ∷ rest) (sym is) in
    ap (with_uses (all_uses rest)) e ∙ sym (with_uses_append (uses_of f) (all_uses rest) tys) ∙ ap (λ (gs : List Field). with_uses (all_uses gs) tys) (sym next) ∙ so_far
