-- What the grammar takes of types as they are written.
use Rattle.std.proofs.Common.{◌≡◌, ◌++◌, ◌+◌, ◌^◌, ◌<◌, ◌≤◌, ℕ, Bool, true, false, not, List, [], ◌∷◌, length, Option, Some, None, refl, sym, ap, subst, ◌∙◌, arith, cond, ltb}
use Rattle.std.specs.Prelude.{map}
use Rattle.std.proofs.lemmas.Bool.Decides.{nat_tests}
use Rattle.std.proofs.lemmas.List.{length-append}
use Rattle.ms_types.specs.declared.types.ValType.{ValType}
use Rattle.ms_types.specs.declared.types.FuncType.{FuncType}
use Rattle.ms_types.specs.declared.types.GlobalType.{GlobalType}
use Rattle.ms_types.specs.declared.types.Limits.{Limits}
use Rattle.ms_module.specs.Instructions.{by_word, value_rows}
use Rattle.ms_flat.specs.Keywords.{value_word}
use Rattle.ms_text_lex.specs.declared.token.Token.{Token}
use Rattle.ms_text_grammar.specs.declared.surface.Index.TheVariants.{Number}
use Rattle.ms_text_grammar.specs.declared.surface.Param.{Param}
use Rattle.ms_text_grammar.specs.declared.word.Word.{Word}
use Rattle.ms_text_grammar.specs.declared.word.Word.TheVariants as word
use Rattle.ms_text_grammar.specs.Keywords.{spelling}
use Rattle.ms_text_grammar.specs.Tokens.{begins, closes, is_close, is_keyword, is_number, next}
use Rattle.ms_text_grammar.specs.Faults.{Textual}
use Rattle.ms_text_grammar.specs.Numbers.{if_so}
use Rattle.ms_text_grammar.specs.Parts.{group, group_goes, groups, list_goes, listed}
use Rattle.ms_text_grammar.specs.Types.{block_result, block_results, block_type, global_type, global_type_by, limits, local_type, locals, locals_by, locals_inside, max_by, next_local, next_param, next_type, param, params, params_by, params_inside, results, table_type, type_field, type_ref, type_ref_by, type_use, types, unnamed, unnamed_params, unnamed_use, value_type}
use Rattle.ms_text_write.proofs.ReadKeywords.{value_back}
use Rattle.ms_text_write.proofs.Pieces as piece
use Rattle.ms_text_write.proofs.Pieces.{Piece, Shows, block_type_pieces, func_type_pieces, global_type_pieces, group_pieces, indexed_pieces, left, limits_pieces, max_pieces, mutable_pieces, right, table_pieces, value_pieces}
use Rattle.ms_text_write.proofs.Said.{params_of, type_field_of, use_of}
use Rattle.ms_text_write.proofs.Sayable.{SayableLimits, SayableMax}
use Rattle.ms_text_write.proofs.Gives.{Gives, chosen, closed, first, first_is, gives, grouped, known, opened, past, single, starts, starts_is, steps, stops}
use Rattle.ms_text_write.proofs.GrammarOfParts.{all_steps, index_given, no_id, none_opens, numbered, same_text, starts_close, starts_open, worded}

abbrev shown : ValType → Piece
shown ty = piece.keyword (value_word ty)

-- where no parenthesis opens, no word stands behind one
pub no_start : (w : Word) (P : List Piece) → starts_open P ≡ false → starts w P ≡ false
no_start w [] e = refl
no_start w (p ∷ ps) e = rw e refl

room_left : (most : ℕ) (done : List Param) (x : ValType) (xs : List ValType) → length done + length (x ∷ xs) ≤ most → length (done ++ param None x ∷ []) + length xs ≤ most
room_left most done x xs le = let l = length-append done (param None x ∷ []) in omega (arith, l)

same_types : (tys : List ValType) → map (λ ty. ty) tys ≡ tys
same_types [] = refl
same_types (ty ∷ tys) = ap (λ l. ty ∷ l) (same_types tys)

-- no group of parameters stands behind them
no_param : (tys : List ValType) (Q : List Piece) → starts word.Param ((group_pieces word.Result tys ++ right ∷ right ∷ []) ++ Q) ≡ false
no_param [] Q = refl
no_param (ty ∷ tys) Q = refl

module _ {source : List ℕ} where
  pub one_type : {P : List Piece} (ty : ValType) → Gives source (value_type source).spelled (shown ty ∷ P) (λ x. x ≡ ty) P
  unfolding value_type
  one_type ty = single (λ k w. if_so (is_keyword k) (by_word value_rows w)) ty (value_back ty)

  -- ---- lists up to a parenthesis

  goes_on : (p : Piece) (P : List Piece) → is_close p.kind ≡ false → (s : List Token) → Shows source s (p ∷ P) → not (closes s) ≡ true
  goes_on p P e s h = rw (first_is (λ k w. is_close k) s (p ∷ P) h, e) refl

  ends : (P : List Piece) → starts_close P ≡ true → (s : List Token) → Shows source s P → not (closes s) ≡ false
  ends P e s h = rw (first_is (λ k w. is_close k) s P h, e) refl

  types_given : (Q : List Piece) → starts_close Q ≡ true → (tys : List ValType) → Gives source (types source []).spelled (map shown tys ++ Q) (λ y. y ≡ map (λ ty. ty) tys) Q
  unfolding types listed next_type
  types_given Q e tys =
      all_steps (λ x s. list_goes source x s) (λ x. next_type source x) shown (λ ty. ty) (λ done xs. Unit {0}) Q (λ done x xs r. tt) (λ done x P s h. goes_on (shown x) P refl s h) (λ done r s h. ends Q e s h)
      (λ done x xs P r. known (one_type x) (gives (λ y. y ≡ done ++ x ∷ []) refl)) [] tys tt

  unnamed_given : (Q : List Piece) → starts_close Q ≡ true → (tys : List ValType) → Gives source (unnamed source []).spelled (map shown tys ++ Q) (λ y. y ≡ params_of tys) Q
  unfolding unnamed listed next_param
  unnamed_given Q e tys =
      all_steps (λ x s. list_goes source x s) (λ x. next_param source x) shown (λ ty. param None ty) (λ done xs. Unit {0}) Q (λ done x xs r. tt) (λ done x P s h. goes_on (shown x) P refl s h) (λ done r s h. ends Q e s h)
      (λ done x xs P r. known (one_type x) (gives (λ y. y ≡ done ++ param None x ∷ []) refl)) [] tys tt

  local_given : {P : List Piece} (most count : ℕ) → count < most → (ty : ValType) → Gives source (local_type source most count).spelled (shown ty ∷ P) (λ x. x ≡ ty) P
  unfolding local_type
  local_given most count lt ty =
      let few : ltb count most ≡ true = grind (arith, nat_tests) in
      single (λ k w. cond (ltb count most) (if_so (is_keyword k) (by_word value_rows w)) None) ty (rw few (value_back ty))

  next_local_given : (most : ℕ) (done : List Param) (x : ValType) (xs : List ValType) (P : List Piece) → length done + length (x ∷ xs) ≤ most → Gives source (next_local source most done).spelled (shown x ∷ P) (λ y. y ≡ done ++ param None x ∷ []) P
  unfolding next_local
  next_local_given most done x xs P le = known (local_given most (length done) (omega arith) x) (gives (λ y. y ≡ done ++ param None x ∷ []) refl)

  locals_listed : (most : ℕ) (Q : List Piece) → starts_close Q ≡ true → (tys : List ValType) → length tys ≤ most → Gives source (locals_by source most [] None).spelled (map shown tys ++ Q) (λ y. y ≡ params_of tys) Q
  unfolding locals_by listed
  locals_listed most Q e tys le =
      all_steps (λ x s. list_goes source x s) (λ x. next_local source most x) shown (λ ty. param None ty) (λ done xs. length done + length xs ≤ most) Q (λ done x xs r. room_left most done x xs r) (λ done x P s h. goes_on (shown x) P refl s h) (λ done r s h. ends Q e s h)
      (λ done x xs P r. next_local_given most done x xs P r) [] tys (omega arith)

  -- ---- groups

  pub no_groups : {A : Type 0} (w : Word) (inside : A → Textual A) (st : A) (P : List Piece) → starts w P ≡ false → Gives source (groups source w inside st).spelled P (λ x. x ≡ st) P
  unfolding groups
  no_groups w inside st P e = stops (λ x s. group_goes source w inside x s) (λ x. group source w inside x) (λ x. x ≡ st) st (λ s h. starts_is w s P h ∙ e) refl

  group_begins : (w : Word) (P : List Piece) (s : List Token) → Shows source s (left ∷ piece.the w ∷ P) → begins source w s ≡ true
  group_begins w P s h = starts_is w s (left ∷ piece.the w ∷ P) h ∙ same_text (spelling w)

  a_group : {A : Type 0} (w : Word) (inside : A → Textual A) (st v : A) (ps Q : List Piece) → Gives source (inside st).spelled (ps ++ right ∷ Q) (λ x. x ≡ v) (right ∷ Q) → Gives source (group source w inside st).spelled (left ∷ piece.the w ∷ ((ps ++ right ∷ []) ++ Q)) (λ x. x ≡ v) Q
  unfolding group
  a_group w inside st v ps Q a = past opened (λ begin. past (worded w) (λ head. known (grouped ps (right ∷ []) Q a) (past closed (λ close. gives (λ x. x ≡ v) refl))))

  one_group : {A : Type 0} (w : Word) (inside : A → Textual A) (st v : A) (ps Q : List Piece) → starts w Q ≡ false → Gives source (inside st).spelled (ps ++ right ∷ Q) (λ x. x ≡ v) (right ∷ Q)
      → Gives source (groups source w inside st).spelled (left ∷ piece.the w ∷ ((ps ++ right ∷ []) ++ Q)) (λ x. x ≡ v) Q
  unfolding groups
  one_group w inside st v ps Q e a =
      steps (λ x s. group_goes source w inside x s) (λ x. group source w inside x) st (λ s h. group_begins w ((ps ++ right ∷ []) ++ Q) s h) (a_group w inside st v ps Q a)
      (λ x e'. subst (λ z. Gives source (groups source w inside z).spelled Q (λ x. x ≡ v) Q) (sym e') (no_groups w inside v Q e))

  pub results_given : (tys : List ValType) (Q : List Piece) → starts word.Result Q ≡ false → Gives source (results source).spelled (group_pieces word.Result tys ++ Q) (λ x. x ≡ tys) Q
  unfolding results
  results_given [] Q e = no_groups word.Result (λ x. types source x) [] Q e
  results_given (ty ∷ tys) Q e =
      one_group word.Result (λ x. types source x) [] (ty ∷ tys) (map shown (ty ∷ tys)) Q e
      (subst (λ l. Gives source (types source []).spelled (map shown (ty ∷ tys) ++ right ∷ Q) (λ x. x ≡ l) (right ∷ Q)) (same_types (ty ∷ tys)) (types_given (right ∷ Q) refl (ty ∷ tys)))

  inside_given : (ty : ValType) (tys : List ValType) (Q : List Piece) → Gives source (params_inside source []).spelled (map shown (ty ∷ tys) ++ right ∷ Q) (λ x. x ≡ params_of (ty ∷ tys)) (right ∷ Q)
  unfolding params_inside params_by
  inside_given ty tys Q = known (no_id refl) (unnamed_given (right ∷ Q) refl (ty ∷ tys))

  pub params_given : (tys : List ValType) (Q : List Piece) → starts word.Param Q ≡ false → Gives source (params source).spelled (group_pieces word.Param tys ++ Q) (λ x. x ≡ params_of tys) Q
  unfolding params
  params_given [] Q e = no_groups word.Param (λ x. params_inside source x) [] Q e
  params_given (ty ∷ tys) Q e = one_group word.Param (λ x. params_inside source x) [] (params_of (ty ∷ tys)) (map shown (ty ∷ tys)) Q e (inside_given ty tys Q)

  locals_inside_given : (most : ℕ) (ty : ValType) (tys : List ValType) (Q : List Piece) → length (ty ∷ tys) ≤ most → Gives source (locals_inside source most []).spelled (map shown (ty ∷ tys) ++ right ∷ Q) (λ x. x ≡ params_of (ty ∷ tys)) (right ∷ Q)
  unfolding locals_inside
  locals_inside_given most ty tys Q le = known (no_id refl) (locals_listed most (right ∷ Q) refl (ty ∷ tys) le)

  pub locals_given : (most : ℕ) (tys : List ValType) (Q : List Piece) → length tys ≤ most → starts word.Local Q ≡ false → Gives source (locals source most).spelled (group_pieces word.Local tys ++ Q) (λ x. x ≡ params_of tys) Q
  unfolding locals
  locals_given most [] Q le e = no_groups word.Local (λ x. locals_inside source most x) [] Q e
  locals_given most (ty ∷ tys) Q le e = one_group word.Local (λ x. locals_inside source most x) [] (params_of (ty ∷ tys)) (map shown (ty ∷ tys)) Q e (locals_inside_given most ty tys Q le)

  -- ---- type uses

  type_ref_given : (x : ℕ) (Q : List Piece) → x < 2 ^ 32 → Gives source (type_ref source).spelled (left ∷ piece.the word.Type ∷ piece.number x ∷ right ∷ Q) (λ y. y ≡ Some (Number x)) Q
  unfolding type_ref type_ref_by
  type_ref_given x Q h =
      chosen (begins source word.Type) (λ b. (type_ref_by source b).spelled) true (λ s g. group_begins word.Type (piece.number x ∷ right ∷ Q) s g)
      (past opened (λ begin. past (worded word.Type) (λ head. known (index_given x h) (past closed (λ close. gives (λ y. y ≡ Some (Number x)) refl)))))

  pub use_given : (x : ℕ) (Q : List Piece) → x < 2 ^ 32 → starts word.Param Q ≡ false → starts word.Result Q ≡ false → Gives source (type_use source).spelled (indexed_pieces word.Type x ++ Q) (λ y. y ≡ use_of x) Q
  unfolding type_use params results
  use_given x Q h p r = known (type_ref_given x Q h) (known (no_groups word.Param (λ x. params_inside source x) [] Q p) (known (no_groups word.Result (λ x. types source x) [] Q r) (gives (λ y. y ≡ use_of x) refl)))

  pub unnamed_use_given : (x : ℕ) (Q : List Piece) → x < 2 ^ 32 → starts word.Param Q ≡ false → starts word.Result Q ≡ false → Gives source (unnamed_use source).spelled (indexed_pieces word.Type x ++ Q) (λ y. y ≡ use_of x) Q
  unfolding unnamed_use unnamed_params results
  unnamed_use_given x Q h p r = known (type_ref_given x Q h) (known (no_groups word.Param (λ x. unnamed source x) [] Q p) (known (no_groups word.Result (λ x. types source x) [] Q r) (gives (λ y. y ≡ use_of x) refl)))

  -- ---- type fields

  -- behind `(type`, up to its parenthesis
  pub type_field_given : (ft : FuncType) (Q : List Piece) → Gives source (type_field source).spelled (left ∷ piece.the word.Func ∷ ((group_pieces word.Param ft.params ++ (group_pieces word.Result ft.results ++ right ∷ right ∷ [])) ++ Q)) (λ y. y ≡ type_field_of ft) (right ∷ Q)
  unfolding type_field
  type_field_given ft Q =
      let ps = group_pieces word.Param ft.params in
      let rs = group_pieces word.Result ft.results in
      let ends = right ∷ right ∷ [] in
      known (no_id refl) (past opened (λ begin. past (worded word.Func) (λ head.
      grouped ps (rs ++ ends) Q (known (params_given ft.params ((rs ++ ends) ++ Q) (no_param ft.results Q))
      (grouped rs ends Q (known (results_given ft.results (ends ++ Q) refl) (past (none_opens refl) (λ none. past closed (λ close. gives (λ y. y ≡ type_field_of ft) refl)))))))))

  -- ---- limits, tables and globals

  max_given : (max : Option ℕ) (Q : List Piece) → SayableMax max → first (λ k w. is_number k) Q ≡ false → Gives source (λ s x t. (max_by source (next (λ t. is_number t.kind) s)).spelled s x t) (max_pieces max ++ Q) (λ x. x ≡ max) Q
  unfolding max_by
  max_given None Q h e = chosen (λ s. next (λ t. is_number t.kind) s) (λ b. (max_by source b).spelled) false (λ s g. first_is (λ k w. is_number k) s Q g ∙ e) (gives (λ x. x ≡ None) refl)
  max_given (Some n) Q h e = chosen (λ s. next (λ t. is_number t.kind) s) (λ b. (max_by source b).spelled) true (λ s g. first_is (λ k w. is_number k) s (piece.number n ∷ Q) g) (known (numbered n h) (gives (λ x. x ≡ Some n) refl))

  pub limits_given : (l : Limits) (Q : List Piece) → SayableLimits l → first (λ k w. is_number k) Q ≡ false → Gives source (limits source).spelled (limits_pieces l ++ Q) (λ x. x ≡ l) Q
  unfolding limits
  limits_given l Q h e = known (numbered l.min h.0) (known (max_given l.max Q h.1 e) (gives (λ x. x ≡ l) refl))

  pub table_given : (l : Limits) (Q : List Piece) → SayableLimits l → Gives source (table_type source).spelled (limits_pieces l ++ piece.the word.Funcref ∷ Q) (λ x. x ≡ l) Q
  unfolding table_type
  table_given l Q h = known (limits_given l (piece.the word.Funcref ∷ Q) h refl) (past (worded word.Funcref) (λ head. gives (λ x. x ≡ l) refl))

  mutable_given : (m : Bool) (ty : ValType) (Q : List Piece) → Gives source (global_type source).spelled (mutable_pieces m (shown ty) ++ Q) (λ x. x ≡ record { ty = ty; mutable = m }) Q
  unfolding global_type global_type_by
  mutable_given true ty Q =
      chosen (begins source word.Mut) (λ b. (global_type_by source b).spelled) true (λ s g. group_begins word.Mut (shown ty ∷ right ∷ Q) s g)
      (past opened (λ begin. past (worded word.Mut) (λ head. known (one_type ty) (past closed (λ close. gives (λ x. x ≡ record { ty = ty; mutable = true }) refl)))))
  mutable_given false ty Q =
      chosen (begins source word.Mut) (λ b. (global_type_by source b).spelled) false (λ s g. starts_is word.Mut s (shown ty ∷ Q) g)
      (past (none_opens refl) (λ none. known (one_type ty) (gives (λ x. x ≡ record { ty = ty; mutable = false }) refl)))

  pub global_given : (g : GlobalType) (Q : List Piece) → Gives source (global_type source).spelled (global_type_pieces g ++ Q) (λ x. x ≡ g) Q
  global_given g Q = mutable_given g.mutable g.ty Q

  -- ---- block types

  block_result_given : {P : List Piece} (ty : ValType) → Gives source (block_result source None).spelled (shown ty ∷ P) (λ x. x ≡ Some ty) P
  unfolding block_result
  block_result_given ty = known (one_type ty) (gives (λ x. x ≡ Some ty) refl)

  block_results_given : (ty : ValType) (Q : List Piece) → Gives source (block_results source None).spelled (shown ty ∷ right ∷ Q) (λ x. x ≡ Some ty) (right ∷ Q)
  unfolding block_results listed
  block_results_given ty Q =
      let going = λ (x : Option ValType) (s : List Token). list_goes source x s in
      steps going (λ x. block_result source x) None (λ s h. goes_on (shown ty) (right ∷ Q) refl s h) (block_result_given ty)
      (λ x e. stops going (λ x. block_result source x) (λ y. y ≡ Some ty) x (λ s h. ends (right ∷ Q) refl s h) e)

  pub block_type_given : (ty : Option ValType) (Q : List Piece) → starts word.Result Q ≡ false → Gives source (block_type source).spelled (block_type_pieces ty ++ Q) (λ x. x ≡ ty) Q
  unfolding block_type
  block_type_given None Q e = no_groups word.Result (λ x. block_results source x) None Q e
  block_type_given (Some ty) Q e = one_group word.Result (λ x. block_results source x) None (Some ty) (shown ty ∷ []) Q e (block_results_given ty Q)
