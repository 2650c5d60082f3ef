-- Rules of types, constants, names and scopes make nothing that nests.
use Rattle.std.proofs.Common.{ℕ, ◌&&◌, not, is_some, nat_le, Bool, true, false, List, [], ◌∷◌, ◌++◌, length, slice_get, Option, Some, None, if◌then◌else◌}
use Rattle.c_types.specs.Layout.{most_bytes}
use Rattle.c_types.specs.Types.{Ty, struct, array, function, no_types}
use Rattle.c_tree.specs.declared.enumerator.Enumerator.{Enumerator as Written}
use Rattle.c_tree.specs.declared.external.MemberHead.TheVariants as heads
use Rattle.c_tree.specs.declared.external.OuterSpecifier.{OuterSpecifier}
use Rattle.c_tree.specs.declared.external.OuterSpecifier.TheVariants as outers
use Rattle.c_tree.specs.declared.external.Piece.{Piece}
use Rattle.c_tree.specs.declared.external.Piece.TheVariants as pieces
use Rattle.c_tree.specs.declared.operators.Infix.TheVariants.{Binary}
use Rattle.c_tree.specs.declared.specifier.SpecifierNode.{SpecifierNode}
use Rattle.c_tree.specs.declared.specifier.SpecifierNode.TheVariants as specifiers
use Rattle.c_tree.specs.Operators.{combination}
use Rattle.c_tree.specs.Tree as tree
use Rattle.c_tree.specs.Tree.{Expr, Declarator, Parameters, Initialiser}
use Rattle.c_typed.specs.declared.unit.Enumerator.{Enumerator}
use Rattle.c_typed.specs.declared.unit.Subject.TheVariants as subjects
use Rattle.c_typed.specs.Identifiers.{is_identifier}
use Rattle.c_typed.specs.refinement.Nesting.{function_nesting}
use Rattle.c_check_types.specs.declared.constants.Constant.{Constant}
use Rattle.c_check_types.specs.declared.entity.Entity.{Entity}
use Rattle.c_check_types.specs.declared.entity.Entity.TheVariants as entities
use Rattle.c_check_types.specs.Constants.{unary, natural, int_of}
use Rattle.c_check_types.specs.Scopes.{library, named_entity, entity_of, new_tag, old_or_new_tag, tag_number, is_known, enters, opens, new_slot, enters_local, enters_global, is_function, entity_in_front, enters_function, names_variable, a_function, new_function, has_type, old_function, old_or_new, declares_function}
use Rattle.c_check_types.specs.State.{Names, Rule, number_of, pure}
use Rattle.c_check_types.specs.Types.{specified, Derived, whole, lengthless, whole_type, Parameter, Declared, pointer_to, element, array_of, sized_array, result_type, adjusted, types_of_parameters, integer_type, with_name, a_parameter, constant_of, named_constant, declared, parameters, constant, type_name}
use Rattle.c_declare.specs.Enumerations.{following, enumerator_value, enumerator, enumerators, enters_enum_tag, keeps_enumeration, enumeration}
use Rattle.c_declare.specs.Functions.{enters_parameter, enters_parameters}
use Rattle.c_declare.specs.Initials.{given_length, variable_type}
use Rattle.c_declare.specs.Structs.{Open, opens_struct, with_member, declares_member, with_members, is_undefined, has_members, defines, closes, in_front, piece, all_pieces, last_one, outer}
use Rattle.c_check.proofs.NestingOfForms.{nil, deepest-more, Any, Gives, step, onward, done, ends, nothing, given-any, only_if-any, size_of-any}

-- ---- types and constants

module _ {m : ℕ} where
  new_tag-any : (tag : List ℕ) → Gives m (new_tag tag) Any
  new_tag-any tag = record { after = λ s g. step ((only_if-any (not (is_some (number_of s.enum_tags tag)))).after s g) (λ a p. record { after = λ t k. done k tt }) }

  old_or_new_tag-any : (tag : List ℕ) (n : Option ℕ) → Gives m (old_or_new_tag tag n) Any
  old_or_new_tag-any tag None = new_tag-any tag
  old_or_new_tag-any tag (Some n) = ends tt

  pub tag_number-any : (tag : List ℕ) → Gives m (tag_number tag) Any
  tag_number-any tag = record { after = λ s g. (old_or_new_tag-any tag (number_of s.tags tag)).after s g }

  pub specified-any : (x : SpecifierNode) → Gives m (specified x) Any
  specified-any specifiers.Void = ends tt
  specified-any (specifiers.Integer ws) = onward (given-any (combination ws)) (λ c p. ends tt)
  specified-any specifiers.SizeT = ends tt
  specified-any specifiers.PtrdiffT = ends tt
  specified-any (specifiers.Struct tag) = onward (tag_number-any tag) (λ n p. ends tt)
  specified-any (specifiers.Enum tag) =
      record { after = λ s g. step ((only_if-any (is_some (number_of s.enum_tags tag))).after s g) (λ a p. ends tt) }

  element-any : (d : Derived) → Gives m (element d) Any
  element-any d = onward (given-any (whole_type d)) (λ t p. onward (size_of-any t) (λ n q. ends tt))

  array_of-any : (t : Ty) (n : ℕ) → Gives m (array_of t n) Any
  array_of-any t n = onward (size_of-any (array t n)) (λ k p. ends tt)

  sized_array-any : (t : Ty) (c : Constant) → Gives m (sized_array t c) Any
  sized_array-any t c = onward (given-any (natural c)) (λ n p. array_of-any t n)

  pub named_entity-any : (name : List ℕ) → Gives m (named_entity name) Any
  named_entity-any name = record { after = λ s g. (given-any (entity_of s.scopes name)).after s g }

  named_constant-any : (name : List ℕ) → Gives m (named_constant name) Any
  named_constant-any name = onward (named_entity-any name) (λ e p. given-any (constant_of e))

  a_parameter-any : (x : SpecifierNode) (declares : Ty → Rule Declared) (names : Names) → ((b : Ty) → Gives m (declares b) Any) → Gives m (a_parameter x declares names) Any
  a_parameter-any x declares names d =
      onward (specified-any x) (λ b p. onward (d b) (λ y q. onward (given-any (adjusted y.derived)) (λ t r. onward (given-any (with_name names y.name)) (λ ns w. ends tt))))

  mutual
    pub declared-any : (d : Declarator) (t : Derived) (ps : List Parameter) → Gives m (declared d t ps) Any
    declared-any (tree.named name) t ps = ends tt
    declared-any tree.nothing t ps = ends tt
    declared-any (tree.wrapped d) t ps = declared-any d t ps
    declared-any (tree.pointer d) t ps = onward (given-any (pointer_to t)) (λ u p. declared-any d (whole u) [])
    declared-any (tree.array d) t ps = onward (element-any t) (λ u p. declared-any d (lengthless u) [])
    declared-any (tree.sized d e) t ps =
        onward (element-any t) (λ u p. onward (constant-any e) (λ c q. onward (sized_array-any u c) (λ a r. declared-any d (whole a) [])))
    declared-any (tree.function d written) t ps =
        onward (given-any (result_type t)) (λ r p. onward (parameters-any written [] []) (λ qs q. declared-any d (whole (function r (types_of_parameters qs))) qs))
    declared-any (tree.function_void d) t ps = onward (given-any (result_type t)) (λ r p. declared-any d (whole (function r no_types)) [])

    parameters-any : (ps : Parameters) (names : Names) (qs : List Parameter) → Gives m (parameters ps names qs) Any
    parameters-any tree.no_parameters names qs = ends tt
    parameters-any (tree.parameter_and x d ps) names qs =
        onward (a_parameter-any x (λ b. declared d (whole b) []) names (λ b. declared-any d (whole b) [])) (λ q p. parameters-any ps q.1 (qs ++ q.0 ∷ []))

    pub constant-any : (e : Expr) → Gives m (constant e) Any
    constant-any (tree.integer n t) = ends tt
    constant-any (tree.character c) = ends tt
    constant-any (tree.name n) = named_constant-any n
    constant-any (tree.paren e) = constant-any e
    constant-any (tree.unary op e) = onward (constant-any e) (λ x p. given-any (unary op x))
    constant-any (tree.size_of_type x d) =
        onward (specified-any x) (λ b p. onward (declared-any d (whole b) []) (λ y q. onward (given-any (whole_type y.derived)) (λ t r. onward (size_of-any t) (λ n w. ends tt))))
    constant-any (tree.cast x d e) =
        onward (specified-any x) (λ b p. onward (declared-any d (whole b) []) (λ y q. onward (given-any (whole_type y.derived)) (λ t r.
        onward (given-any (integer_type t)) (λ u w. onward (constant-any e) (λ c z. ends tt)))))
    constant-any (tree.between (Binary op) a b) = onward (constant-any a) (λ x p. onward (constant-any b) (λ y q. ends tt))
    constant-any (tree.choice c a b) = onward (constant-any c) (λ x p. onward (constant-any a) (λ y q. onward (constant-any b) (λ z r. ends tt)))
    constant-any e = nothing

  pub type_name-any : (x : SpecifierNode) (d : Declarator) → Gives m (type_name x d) Any
  type_name-any x d = onward (specified-any x) (λ b p. onward (declared-any d (whole b) []) (λ y q. given-any (whole_type y.derived)))

-- ---- names

module _ {m : ℕ} where
  enters-any : (name : List ℕ) (e : Entity) → Gives m (enters name e) Any
  enters-any name e =
      record { after = λ s g. step ((only_if-any (not (is_some (library name)) && not (is_known s.scopes name))).after s g) (λ a p. record { after = λ t k. done k tt }) }

  new_slot-any : (t : Ty) → Gives m (new_slot t) Any
  new_slot-any t = record { after = λ s g. done g tt }

  pub enters_local-any : (name : List ℕ) (t : Ty) → Gives m (enters_local name t) Any
  enters_local-any name t =
      record { after = λ s g. step ((enters-any name (entities.Local (length s.slots))).after (record s { scopes = opens s.scopes (length s.slots); slots = s.slots ++ t ∷ [] }) g) (λ a p. ends tt) }

  named-any : (name : List ℕ) (k : ℕ) (b : Bool) → Gives m (if b then pure tt else enters name (entities.Function k)) Any
  named-any name k true = ends tt
  named-any name k false = enters-any name (entities.Function k)

  enters_function-any : (name : List ℕ) (k : ℕ) → Gives m (enters_function name k) Any
  enters_function-any name k = record { after = λ s g. (named-any name k (is_function (entity_in_front s.scopes name) k)).after s g }

  new_function-any : (name : List ℕ) (t : Ty) → Gives m (new_function name t) Any
  new_function-any name t =
      record {
        after = λ s g. step ((only_if-any (is_identifier name)).after s g) (λ a p. onward (only_if-any (not (names_variable s.scopes name))) (λ b q.
            record {
              after = λ u k. step ((enters_function-any name (length s.functions)).after
                  (record u { function_names = u.function_names ++ name ∷ []; functions = u.functions ++ a_function name t ∷ []; additions = u.additions ++ record { at = u.at; subject = subjects.Function (length s.functions) } ∷ [] })
                  (k.0, deepest-more function_nesting u.functions (a_function name t) k.1 nil)) (λ c r. ends tt);
            }));
      }

  old_function-any : (name : List ℕ) (t : Ty) (k : ℕ) → Gives m (old_function name t k) Any
  old_function-any name t k =
      record { after = λ s g. step ((only_if-any (has_type (slice_get s.functions k) t)).after s g) (λ a p. onward (enters_function-any name k) (λ b q. ends tt)) }

  old_or_new-any : (name : List ℕ) (t : Ty) (o : Option ℕ) → Gives m (old_or_new name t o) Any
  old_or_new-any name t None = new_function-any name t
  old_or_new-any name t (Some k) = old_function-any name t k

  pub declares_function-any : (name : List ℕ) (t : Ty) → Gives m (declares_function name t) Any
  declares_function-any name t = record { after = λ s g. (old_or_new-any name t (number_of s.function_names name)).after s g }

  pub variable_type-any : (d : Derived) (v : Option Initialiser) → Gives m (variable_type d v) Any
  variable_type-any (whole t) v = onward (size_of-any t) (λ k p. ends tt)
  variable_type-any (lengthless t) v = onward (given-any (given_length t v)) (λ k p. array_of-any t k)

  pub enters_global-any : (name : List ℕ) (t : Ty) → Gives m (enters_global name t) Any
  enters_global-any name t =
      record {
        after = λ s g. step ((only_if-any (not (is_some (number_of s.function_names name)))).after s g) (λ a p. onward (enters-any name (entities.Global (length s.globals))) (λ b q.
            record { after = λ u k. done k tt }));
      }

  enters_parameter-any : (o : Option (List ℕ)) (t : Ty) → Gives m (enters_parameter o t) Any
  enters_parameter-any None t = record { after = λ s g. done g tt }
  enters_parameter-any (Some name) t = onward (enters_local-any name t) (λ i p. ends tt)

  pub enters_parameters-any : (ps : List Parameter) → Gives m (enters_parameters ps) Any
  enters_parameters-any [] = ends tt
  enters_parameters-any (x ∷ xs) = onward (enters_parameter-any x.name x.ty) (λ a p. enters_parameters-any xs)

-- ---- structs and enumerated types

module _ {m : ℕ} where
  enumerator_value-any : (o : Option Expr) (next : Option ℕ) → Gives m (enumerator_value o next) Any
  enumerator_value-any None next = given-any next
  enumerator_value-any (Some e) next = onward (constant-any e) (λ c p. given-any (int_of c))

  enumerator-any : (x : Written) (next : Option ℕ) → Gives m (enumerator x next) Any
  enumerator-any x next = onward (enumerator_value-any x.value next) (λ n p. onward (enters-any x.name (entities.Constant n)) (λ a q. ends tt))

  enumerators-any : (xs : List Written) (next : Option ℕ) (so_far : List Enumerator) → Gives m (enumerators xs next so_far) Any
  enumerators-any [] next so_far = ends tt
  enumerators-any (x ∷ xs) next so_far =
      onward (enumerator-any x next) (λ n p. enumerators-any xs (following n) (so_far ++ record { name = x.name; bits = n } ∷ []))

  enters_enum_tag-any : (tag : Option (List ℕ)) → Gives m (enters_enum_tag tag) Any
  enters_enum_tag-any None = ends tt
  enters_enum_tag-any (Some tag) =
      record {
        after = λ s g. step ((only_if-any (not (is_some (number_of s.tags tag)))).after s g) (λ a p. onward (only_if-any (not (is_some (number_of s.enum_tags tag)))) (λ b q.
            record { after = λ u k. done k tt }));
      }

  keeps_enumeration-any : (tag : Option (List ℕ)) (es : List Enumerator) → Gives m (keeps_enumeration tag es) Any
  keeps_enumeration-any tag es = record { after = λ s g. done g tt }

  enumeration-any : (tag : Option (List ℕ)) (xs : List Written) → Gives m (enumeration tag xs) Any
  enumeration-any tag xs =
      onward (enumerators-any xs (Some 0) []) (λ es p. onward (enters_enum_tag-any tag) (λ a q. record { after = λ s g. done g tt }))

  opens_struct-any : (tag : List ℕ) → Gives m (opens_struct tag) Any
  opens_struct-any tag = onward (tag_number-any tag) (λ n p. ends tt)

  with_member-any : (o : Open) (name : List ℕ) (t : Ty) → Gives m (with_member o name t) Any
  with_member-any o name t = onward (only_if-any (not (is_some (number_of o.names name)))) (λ a p. onward (size_of-any t) (λ n q. ends tt))

  declares_member-any : (o : Open) (b : Ty) (d : Declarator) → Gives m (declares_member o b d) Any
  declares_member-any o b d =
      onward (declared-any d (whole b) []) (λ x p. onward (given-any x.name) (λ name q. onward (given-any (whole_type x.derived)) (λ t r. with_member-any o name t)))

  with_members-any : (o : Open) (b : Ty) (ds : List Declarator) → Gives m (with_members o b ds) Any
  with_members-any o b [] = ends tt
  with_members-any o b (d ∷ ds) = onward (declares_member-any o b d) (λ x p. with_members-any x b ds)

  defines-any : (o : Open) → Gives m (defines o) Any
  defines-any o =
      record {
        after = λ s g. step ((only_if-any (is_undefined (slice_get s.structs o.number))).after s g) (λ a p. onward (only_if-any (has_members o.types)) (λ b q.
            onward (only_if-any (nat_le (length o.types) most_bytes)) (λ c r. record { after = λ u k. step ((size_of-any (struct o.number)).after _ k) (λ n w. ends tt) })));
      }

  closes-any : (os : List Open) → Gives m (closes os) Any
  closes-any [] = nothing
  closes-any (o ∷ []) = nothing
  closes-any (o ∷ x ∷ os) = onward (defines-any o) (λ t p. ends tt)

  in_front-any : (os : List Open) (b : Ty) (ds : List Declarator) → Gives m (in_front os b ds) Any
  in_front-any [] b ds = nothing
  in_front-any (o ∷ os) b ds = onward (with_members-any o b ds) (λ x p. ends tt)

  piece-any : (os : List Open) (x : Piece) → Gives m (piece os x) Any
  piece-any os (pieces.Opens tag) = onward (opens_struct-any tag) (λ o p. ends tt)
  piece-any os (pieces.Member (heads.Specifier s) ds) = onward (specified-any s) (λ b p. in_front-any os b ds)
  piece-any os (pieces.Member (heads.Enum tag xs comma) ds) = onward (enumeration-any tag xs) (λ b p. in_front-any os b ds)
  piece-any os (pieces.Member heads.Close ds) = onward (closes-any os) (λ x p. in_front-any x.1 x.0 ds)

  all_pieces-any : (os : List Open) (ps : List Piece) → Gives m (all_pieces os ps) Any
  all_pieces-any os [] = ends tt
  all_pieces-any os (p ∷ ps) = onward (piece-any os p) (λ qs q. all_pieces-any qs ps)

  last_one-any : (os : List Open) → Gives m (last_one os) Any
  last_one-any [] = nothing
  last_one-any (o ∷ []) = defines-any o
  last_one-any (o ∷ x ∷ os) = nothing

  pub outer-any : (x : OuterSpecifier) → Gives m (outer x) Any
  outer-any (outers.Plain s) = specified-any s
  outer-any (outers.Struct tag ps) = onward (opens_struct-any tag) (λ o p. onward (all_pieces-any (o ∷ []) ps) (λ os q. last_one-any os))
  outer-any (outers.Enum tag xs comma) = enumeration-any tag xs
