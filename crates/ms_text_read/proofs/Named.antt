-- Identifiers in a map.
use Rattle.std.proofs.Common.{◌≡◌, ℕ, ◌+◌, ◌<◌, suc, Bool, true, false, cond, List, ◌∷◌, Option, Some, None, drop, get_or, length, is_some, refl, sym, ap, subst, ◌∙◌, arith}
use Rattle.std.specs.BTreeMap.{BTreeMap, UpdatesBy}
use Rattle.std.specs.Cmp.Lexicographic.{slice_cmp}
use Rattle.std.specs.Ordering.{nat_cmp}
use Rattle.std.specs.Str.{bytes_eq}
use Rattle.std.proofs.Math.Seq.{drop-cons}
use Rattle.std.proofs.lemmas.Map.Text.{btree_map_updates_str}
use Rattle.std.proofs.lemmas.Slice.Eq.{bytes_eq-Decides}
use denote.Ref.{Bor}
use Rattle.ms_text_lex.specs.declared.token.Token.{Token}
use Rattle.ms_text_lex.specs.Tokens.{text_of}
use Rattle.ms_text_grammar.specs.declared.surface.TypeField.{TypeField}
use Rattle.ms_text_grammar.specs.Identifiers.{found, is_named}
use Rattle.ms_text_grammar.specs.FieldKinds.{type_ids}
use Rattle.ms_text_grammar.specs.Faults.{kept}
use Rattle.ms_text_read.specs.refinement.Names.{look, or_else}

or_none : (o : Option ℕ) → o ≡ or_else o None
or_none (Some n) = refl
or_none None = refl

abbrev Map : Type 0
Map = BTreeMap (Bor (List ℕ)) ℕ

put : (m : Map) (bs q : List ℕ) (k : ℕ) (b : Bool) → bytes_eq bs q ≡ b → look m bs ≡ None → cond b (Some k) (look m q) ≡ or_else (look m q) (kept b k)
put m bs q k true e none =
    let same : bs ≡ q = (bytes_eq-Decides bs q).0 e in
    let empty : look m q ≡ None = rw (← same) none in
    rw empty refl
put m bs q k false e none = or_none (look m q)

pub noted : (source : List ℕ) (id name : Token) (o : Option Token) (bs : List ℕ) (m n : Map) (k : ℕ) → o ≡ Some id → bs ≡ text_of source id → look m bs ≡ None
    → UpdatesBy (λ x y. slice_cmp nat_cmp x.now y.now) (λ x. slice_cmp nat_cmp bs x.now) m n (Some k)
    → look n (text_of source name) ≡ or_else (look m (text_of source name)) (kept (is_named source o name) k)
noted source id name o bs m n k e is none h =
    let q = text_of source name in
    let updated = btree_map_updates_str bs m n (Some k) h q in
    let known = put m bs q k (bytes_eq bs q) refl none in
    rw (e, ← is) (updated ∙ known)

pub is_none : (o : Option ℕ) → is_some o ≡ false → o ≡ None
is_none None e = refl
is_none (Some n) e = absurd cc

joined : (x : Option ℕ) (b : Bool) (i : ℕ) (rest : Option ℕ) → or_else (or_else x (kept b i)) rest ≡ or_else x (cond b (Some i) rest)
joined (Some n) b i rest = refl
joined None true i rest = refl
joined None false i rest = refl

pub preserved : (source : List ℕ) (fields : List TypeField) (f : TypeField) (i : ℕ) (m n : Map) (name : Token) (total : Option ℕ) → i < length fields → f ≡ get_or fields i f
    → look n (text_of source name) ≡ or_else (look m (text_of source name)) (kept (is_named source f.id name) i)
    → or_else (look m (text_of source name)) (found source (type_ids (drop i fields)) name i) ≡ total
    → or_else (look n (text_of source name)) (found source (type_ids (drop (i + 1) fields)) name (i + 1)) ≡ total
preserved source fields f i m n name total lt item h so_far =
    let next : i + 1 ≡ suc i = omega arith in
    let split : drop i fields ≡ get_or fields i f ∷ drop (suc i) fields = drop-cons fields i f lt in
    let whole = rw (split, ← item) at so_far in
    rw (next, h) (joined (look m (text_of source name)) (is_named source f.id name) i (found source (type_ids (drop (suc i) fields)) name (suc i)) ∙ whole)
