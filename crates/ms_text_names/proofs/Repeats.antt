-- Repeated identifiers, and entries without identifiers.
use Rattle.std.proofs.Common.{◌≡◌, ℕ, zero, suc, ◌+◌, ◌==◌, Bool, true, false, List, [], ◌∷◌, ◌++◌, Option, Some, None, length, replicate, refl, sym, ap, ◌∙◌, append_assoc, arith, slice_get, if◌then◌else◌}
use Rattle.std.proofs.lemmas.List.{append-nil}
use Rattle.ms_text_lex.specs.declared.token.Token.{Token}
use Rattle.ms_text_grammar.specs.declared.surface.Param.{Param}
use Rattle.ms_text_grammar.specs.declared.surface.TypeUse.{TypeUse}
use Rattle.ms_text_grammar.specs.Identifiers.{found, is_known, is_named, param_ids, repeat_of, repeats}
use Rattle.ms_text_grammar.specs.TypeUses.{Scope, local_ids, params_len}

-- ---- entries without identifiers in front

abbrev pub shifted : ℕ → Option ℕ → Option ℕ
shifted n None = None
shifted n (Some k) = Some (n + k)

shifted_front : (b : Bool) (n k : ℕ) (r r' : Option ℕ) → r ≡ shifted n r' → (if b then Some (n + k) else r) ≡ shifted n (if b then Some k else r')
shifted_front true n k r r' e = refl
shifted_front false n k r r' e = e

module _ (source : List ℕ) where
  found_shifted : (ids : List (Option Token)) (id : Token) (n k m : ℕ) → m ≡ n + k → found source ids id m ≡ shifted n (found source ids id k)
  found_shifted [] id n k m e = refl
  found_shifted (x ∷ ids) id n k m e = rw e (shifted_front (is_named source x id) n k (found source ids id (suc (n + k))) (found source ids id (suc k)) (found_shifted ids id n (suc k) (suc (n + k)) (omega arith)))

  found_past_none : (n : ℕ) (ids : List (Option Token)) (id : Token) (k m : ℕ) → m ≡ n + k → found source (replicate n None ++ ids) id k ≡ found source ids id m
  found_past_none zero ids id k m e = let same : k ≡ m = omega arith in ap (found source ids id) same
  found_past_none (suc n) ids id k m e = found_past_none n ids id (suc k) m (omega arith)

  pub found_behind : (n : ℕ) (ids : List (Option Token)) (id : Token) → found source (replicate n None ++ ids) id 0 ≡ shifted n (found source ids id 0)
  found_behind n ids id = found_past_none n ids id 0 (n + 0) refl ∙ found_shifted ids id n 0 (n + 0) refl

  known_none : (n : ℕ) (before : List (Option Token)) (id : Token) → is_known source (replicate n None ++ before) id ≡ is_known source before id
  known_none zero before id = refl
  known_none (suc n) before id = known_none n before id

  repeat_none : (n : ℕ) (before : List (Option Token)) (id : Option Token) → repeat_of source (replicate n None ++ before) id ≡ repeat_of source before id
  repeat_none n before None = refl
  repeat_none n before (Some id) = rw (known_none n before id) refl

  repeats_past_none : (n : ℕ) (before ids : List (Option Token)) → repeats source (replicate n None ++ before) ids ≡ repeats source before ids
  repeats_past_none n before [] = refl
  repeats_past_none n before (id ∷ ids) = rw (append_assoc (replicate n None) before (id ∷ []), repeats_past_none n (before ++ id ∷ []) ids, repeat_none n before id) refl

  no_repeats : (n : ℕ) (before : List (Option Token)) → repeats source before (replicate n None) ≡ []
  no_repeats zero before = refl
  no_repeats (suc n) before = no_repeats n (before ++ None ∷ [])

  pub repeats_append : (before xs ys : List (Option Token)) → repeats source before (xs ++ ys) ≡ repeats source before xs ++ repeats source (before ++ xs) ys
  repeats_append before [] ys = ap (λ (b : List (Option Token)). repeats source b ys) (sym (append-nil before))
  repeats_append before (x ∷ xs) ys =
      rw (repeats_append (before ++ x ∷ []) xs ys, append_assoc before (x ∷ []) xs)
      (sym (append_assoc (repeat_of source before x) (repeats source (before ++ x ∷ []) xs) (repeats source (before ++ x ∷ xs) ys)))

  repeats_behind : (n : ℕ) (ids : List (Option Token)) → repeats source [] (replicate n None ++ ids) ≡ repeats source [] ids
  repeats_behind n ids =
      repeats_append [] (replicate n None) ids ∙ ap (λ (xs : List ℕ). xs ++ repeats source (replicate n None) ids) (no_repeats n [])
      ∙ ap (λ (b : List (Option Token)). repeats source b ids) (sym (append-nil (replicate n None))) ∙ repeats_past_none n [] ids

  module _ (scope : Scope) (sig : ℕ) (u : TypeUse) (locals : List Param) where
    pub repeats_unnamed : (length u.params == 0) ≡ true → repeats source [] (local_ids scope sig u locals) ≡ repeats source [] (param_ids locals)
    repeats_unnamed e = rw e (repeats_behind (params_len (slice_get scope.sigs sig)) (param_ids locals))

    pub repeats_named : (length u.params == 0) ≡ false → repeats source [] (local_ids scope sig u locals) ≡ repeats source [] (param_ids u.params) ++ repeats source (param_ids u.params) (param_ids locals)
    repeats_named e = rw e (repeats_append [] (param_ids u.params) (param_ids locals))
