-- What initializers make are statements.
use Rattle.std.proofs.Common.{◌≡◌, ◌∙◌, sym, ap, subst, refl, ℕ, zero, suc, ◌+◌, ◌*◌, ◌-◌, ◌%◌, ◌<◌, ◌≤◌, ◌^◌, nat_lt, nat_le, Bool, true, false, List, [], ◌∷◌, ◌++◌, length, ℤ, pos, negsuc, Option, Some, None, slice_get, if◌then◌else◌, append_assoc, arith}
use Rattle.std.proofs.lemmas.Bool.Decides.{nat_tests}
use Rattle.std.proofs.lemmas.List.{append-nil}
use Rattle.std.proofs.lemmas.List.Elements.{All-nil, All-push, All-weaker}
use Rattle.std.proofs.lemmas.Option.{get_or_from_slice_get, slice_get_within}
use Rattle.std.proofs.Math.Nat.{suc-mul}
use Rattle.std.specs.List.{All}
use Rattle.ms_num.specs.Integers.{wrapped}
use Rattle.c_types.specs.declared.integers.IntType.{IntType}
use Rattle.c_types.specs.declared.integers.IntType.TheVariants.{Char}
use Rattle.c_types.specs.Integers.{bits}
use Rattle.c_types.specs.Layout.{Table, Layout, layout_at, members_of, members_in, IsSmall, size, most_bytes}
use Rattle.c_types.specs.Types.{Ty, void, integer, struct, pointer, array, function, scalar_of}
use Rattle.c_tree.specs.Tree as tree
use Rattle.c_tree.specs.Tree.{Expr, Initialiser, Initialisers}
use Rattle.c_typed.specs.Tree as to
use Rattle.c_typed.specs.Tree.{Place, Stmt}
use Rattle.c_typed.specs.Parts.{element_place}
use Rattle.c_check_types.specs.State.{State, given}
use Rattle.c_check_types.specs.TypeEquality.{same_type}
use Rattle.c_check_types.specs.Types.{measured}
use Rattle.c_check_types.specs.Constants.{value_at, meant}
use Rattle.c_declare.specs.Initials.{bare, is_address, is_char, string_of, at_most, fills}
use Rattle.c_typed.specs.refinement.Types.{IsScalar, IsType, IsObject}
use Rattle.c_typed.specs.refinement.Expressions.{Context, HasType, IsPlace, IsMember}
use Rattle.c_typed.specs.Units.{IsGiven}
use Rattle.c_check.proofs.States.{context, Good, Quiet, Grows, Does}
use Rattle.c_check.proofs.Extension.{type-kept, object-kept, quiet-same, quiet-grows}
use Rattle.c_check.proofs.Rules.{quietly, ends, given-then, only-then}
use Rattle.c_check.proofs.Sizes.{small_if_measured}
use Rattle.c_check.proofs.Types.{constant-does}
use Rattle.c_check.proofs.Integers.{same-integer, same-type, zero-fits}
use Rattle.c_check.proofs.Growth.{place-grown, given-grown}
use Rattle.c_check.proofs.Conversions.{none-does, assigned_to-does, sized-led_to}
use Rattle.c_check.proofs.Expressions.{typing-does, as_assigned-does, a_place-does}
use Rattle.c_check.specs.Initialisers.{is_known, pointer_constant, static_value, leaf, string_value, scalar_value, single_value, inside, elements, members, from_place, copied_from, initialised}

-- ---- numbers

remains : (n m : ℕ) → 0 < m → n % m < m
remains n m h = omega arith

below : (n m : ℕ) → 0 < m → m - 1 - n % m < m
below n m h = omega (arith, remains n m h)

wrapped-fits : (t : IntType) (z : ℤ) → wrapped (bits t) z < 2 ^ bits t
wrapped-fits t (pos n) = remains n (2 ^ bits t) (zero-fits t)
wrapped-fits t (negsuc n) = below n (2 ^ bits t) (zero-fits t)

pub converted-fits : (t u : IntType) (o : Option ℕ) (n : ℕ) → value_at u (record { ty = t; value = o }) ≡ Some n → n < 2 ^ bits u
converted-fits t u None n e = let q : None ≡ Some n = e in absurd (cc)
converted-fits t u (Some a) n e =
    let q : wrapped (bits u) (meant t a) ≡ n = cc in rw (← q) (wrapped-fits u (meant t a))

-- ---- what is done so far

abbrev pub AllGiven : Context → List Stmt → Type 0
AllGiven c ss = All (IsGiven c) ss

pub all-grown : (c d : Context) → Grows c d → (ss : List Stmt) → AllGiven c ss → AllGiven d ss
all-grown c d g ss h = All-weaker (IsGiven c) (IsGiven d) (given-grown c d g) ss h

-- what was done before, and behind it values that are given
pub record Behind (c : Context) (old new : List Stmt) : Type 0 where
  pub values : List Stmt
  pub is : new ≡ old ++ values
  pub given : AllGiven c values

pub nothing-behind : (c : Context) (old : List Stmt) → Behind c old old
nothing-behind c old = record { values = []; is = sym (append-nil old); given = All-nil (IsGiven c) }

abbrev pub Done : List Stmt → State → List Stmt → Type 0
Done old u ss = Behind (context u) old ss

-- ---- leaves

-- as what is assigned to a type
abbrev pub Assigned : Ty → State → to.Expr → Type 0
Assigned t u v = IsScalar t × HasType (context u) v t

pointer_constant-does : (t : Ty) (e : Expr) (s : State) → Good s → IsType s.structs (pointer t) → Does Quiet (pointer_constant t e) s (Assigned (pointer t))
pointer_constant-does t e s g h =
    only-then Quiet (is_address e) _ s _ (λ b.
    quietly s (typing-does e s g) (λ x u good q i.
    only-then Quiet (is_known e x) _ u _ (λ c.
    assigned_to-does (pointer t) x u good (type-kept s.structs u.structs q.structs (pointer t) h) i)))

static_value-does : (t : Ty) (e : Expr) (s : State) → Good s → IsType s.structs t → Does Quiet (static_value t e) s (Assigned t)
static_value-does (integer t) e s g h =
    quietly s (constant-does e s g) (λ c u good q i.
    given-then Quiet (value_at t c) _ u _ (λ n f.
    ends Quiet (to.number t n) u u (Assigned (integer t)) good (quiet-same u) (tt, (refl, converted-fits c.ty t c.value n f))))
static_value-does (pointer t) e s g h = pointer_constant-does t (bare e) s g h
static_value-does void e s g h = none-does s (Assigned void)
static_value-does (struct n) e s g h = none-does s (Assigned (struct n))
static_value-does (array t n) e s g h = none-does s (Assigned (array t n))
static_value-does (function r ps) e s g h = none-does s (Assigned (function r ps))

leaf-does : (static : Bool) (t : Ty) (e : Expr) (s : State) → Good s → IsType s.structs t → Does Quiet (leaf static t e) s (Assigned t)
leaf-does true t e s g h = static_value-does t e s g h
leaf-does false t e s g h = as_assigned-does t e s g h

-- ---- a value of a place

pub behind-grown : (c d : Context) → Grows c d → (old new : List Stmt) → Behind c old new → Behind d old new
behind-grown c d g old new h = record { values = h.values; is = h.is; given = all-grown c d g h.values h.given }

-- one more behind those so far
and-behind : (c : Context) (old new : List Stmt) (x : Stmt) → Behind c old new → IsGiven c x → Behind c old (new ++ x ∷ [])
and-behind c old new x h i =
    record {
      values = h.values ++ x ∷ [];
      is = ap (λ ss. ss ++ x ∷ []) h.is ∙ append_assoc old h.values (x ∷ []);
      given = All-push (IsGiven c) h.values x h.given i;
    }

and-done : (old : List Stmt) (s u : State) → Quiet s u → (ss : List Stmt) (x : Stmt) → Done old s ss → IsGiven (context u) x → Done old u (ss ++ x ∷ [])
and-done old s u q ss x h i =
    and-behind (context u) old ss x (behind-grown (context s) (context u) (quiet-grows s u q) old ss h) i

module _ (old : List Stmt) where
  scalar_value-does : (static : Bool) (p : Place) (t : Ty) (e : Expr) (ss : List Stmt) (s : State) → Good s → IsType s.structs t → IsPlace (context s) p t → Done old s ss
      → Does Quiet (scalar_value static p t e ss) s (Done old)
  scalar_value-does static p t e ss s g h at done =
      given-then Quiet (scalar_of t) _ s _ (λ x f.
      quietly s (leaf-does static t e s g h) (λ v u good q i.
      ends Quiet (ss ++ to.perform (to.assign x p v) ∷ []) u u (Done old) good (quiet-same u)
      (and-done old s u q ss (to.perform (to.assign x p v)) done (t, (f, place-grown (context s) (context u) (quiet-grows s u q) p t at, i.1)))))

  fitting : (b : Bool) (n : ℕ) (o : Option (List ℕ)) (bytes : List ℕ) → (if b then at_most n o else None) ≡ Some bytes → (b ≡ true) × (length bytes ≤ n)
  fitting false n o bytes e = let q : None ≡ Some bytes = e in absurd (cc)
  fitting true n None bytes e = let q : None ≡ Some bytes = e in absurd (cc)
  fitting true n (Some xs) bytes e = (refl, short (nat_le (length xs) n) refl e) where
    short : (b : Bool) → nat_le (length xs) n ≡ b → (if b then Some xs else None) ≡ Some bytes → length bytes ≤ n
    short true f e = let q : xs ≡ bytes = cc in rw (← q) (grind (arith, nat_tests, f))
    short false f e = let q : None ≡ Some bytes = e in absurd (cc)

  char-is : (t : Ty) → is_char t ≡ true → t ≡ integer Char
  char-is (integer t) e = ap (λ i. integer i) (same-integer t Char e)
  char-is void e = let q : false ≡ true = e in absurd (cc)
  char-is (struct n) e = let q : false ≡ true = e in absurd (cc)
  char-is (pointer t) e = let q : false ≡ true = e in absurd (cc)
  char-is (array t n) e = let q : false ≡ true = e in absurd (cc)
  char-is (function r ps) e = let q : false ≡ true = e in absurd (cc)

  string-does : (p : Place) (t : Ty) (n : ℕ) (e : Expr) (ss : List Stmt) (s : State) → Good s → IsPlace (context s) p (array t n) → Done old s ss
      → Does Quiet (given (string_value p t n e ss)) s (Done old)
  string-does p t n e ss s g at done = by (fills t n e) refl where
    by : (o : Option (List ℕ)) → fills t n e ≡ o → Does Quiet (given (string_value p t n e ss)) s (Done old)
    by None f = rw f (none-does s (Done old))
    by (Some bytes) f =
        let is = fitting (is_char t) n (string_of e) bytes f in
        let there : IsPlace (context s) p (array (integer Char) n) = rw (← char-is t is.0) at in
        rw f (ends Quiet (ss ++ to.fill p n bytes ∷ []) s s (Done old) g (quiet-same s) (and-behind (context s) old ss (to.fill p n bytes) done (is.1, there)))

  single_value-does : (static : Bool) (p : Place) (t : Ty) (e : Expr) (ss : List Stmt) (s : State) → Good s → IsType s.structs t → IsPlace (context s) p t → Done old s ss
      → Does Quiet (single_value static p t e ss) s (Done old)
  single_value-does static p (array t n) e ss s g h at done = string-does p t n e ss s g at done
  single_value-does static p void e ss s g h at done = scalar_value-does static p void e ss s g h at done
  single_value-does static p (integer t) e ss s g h at done = scalar_value-does static p (integer t) e ss s g h at done
  single_value-does static p (struct n) e ss s g h at done = scalar_value-does static p (struct n) e ss s g h at done
  single_value-does static p (pointer t) e ss s g h at done = scalar_value-does static p (pointer t) e ss s g h at done
  single_value-does static p (function t ps) e ss s g h at done = scalar_value-does static p (function t ps) e ss s g h at done

  -- ---- parts

  -- an element is as large as all of them at most
  one-small : (n k : ℕ) → 0 < n → n * k ≤ most_bytes → k ≤ most_bytes
  one-small zero k h e = absurd (omega arith)
  one-small (suc n) k h e = omega (arith, e, suc-mul n k)

  element-object : (x : Table) (t : Ty) (n : ℕ) → IsType x (array t n) → IsObject x t
  element-object x t n h = (h.0, (h.1.0.1, one-small n (size x t) h.1.0.0 h.1.1))

  element-at : (c : Context) (p : Place) (t : Ty) (n i : ℕ) → IsType c.structs (array t n) → i < n → IsPlace c p (array t n) → IsPlace c (element_place p t n i) t
  element-at c p t n i h less at =
      let o = element-object c.structs t n h in
      ((sized-led_to c.structs t o.1.0).1, (refl, o.1, (refl, at), (refl, omega (arith, h.2))))

  member-object : (s : State) → Good s → (m i : ℕ) (t : Ty) → IsMember s.structs m i t → IsObject s.structs t
  member-object s g m i t h = by (layout_at s.structs m) refl where
    by : (o : Option Layout) → layout_at s.structs m ≡ o → IsObject s.structs t
    by None e = let q : None ≡ Some t = subst (λ o. slice_get (members_in o) i ≡ Some t) e h in absurd (cc)
    by (Some k) e =
        let q : slice_get k.members i ≡ Some t = subst (λ o. slice_get (members_in o) i ≡ Some t) e h in
        subst (λ u. IsObject s.structs u) (get_or_from_slice_get k.members i t t q) ((g.structs m k e).1 i t (slice_get_within k.members i t q))

  mutual
    inside-does : (v : Initialiser) (static : Bool) (p : Place) (t : Ty) (ss : List Stmt) (s : State) → Good s → IsObject s.structs t → IsPlace (context s) p t → Done old s ss
        → Does Quiet (inside v static p t ss) s (Done old)
    inside-does (tree.single e) static p t ss s g h at done = single_value-does static p t e ss s g h.0 at done
    inside-does (tree.braces vs comma) static p (array t n) ss s g h at done = elements-does vs static p t n 0 ss s g h at done
    inside-does (tree.braces vs comma) static p (struct m) ss s g h at done = members-does vs static p m 0 ss s g at done
    inside-does (tree.braces vs comma) static p void ss s g h at done = none-does s (Done old)
    inside-does (tree.braces vs comma) static p (integer t) ss s g h at done = none-does s (Done old)
    inside-does (tree.braces vs comma) static p (pointer t) ss s g h at done = none-does s (Done old)
    inside-does (tree.braces vs comma) static p (function t ps) ss s g h at done = none-does s (Done old)

    elements-does : (vs : Initialisers) (static : Bool) (p : Place) (t : Ty) (n i : ℕ) (ss : List Stmt) (s : State) → Good s → IsObject s.structs (array t n)
        → IsPlace (context s) p (array t n) → Done old s ss → Does Quiet (elements vs static p t n i ss) s (Done old)
    elements-does tree.no_initialisers static p t n i ss s g h at done = ends Quiet ss s s (Done old) g (quiet-same s) done
    elements-does (tree.initialiser_and v vs) static p t n i ss s g h at done =
        quietly s (only-then Quiet (nat_lt i n) (inside v static (element_place p t n i) t ss) s (Done old) (λ b.
        inside-does v static (element_place p t n i) t ss s g (element-object s.structs t n h.0) (element-at (context s) p t n i h.0 (grind (arith, nat_tests, b)) at) done))
        (λ more u good q i'.
        elements-does vs static p t n (i + 1) more u good (object-kept s.structs u.structs q.structs (array t n) h)
        (place-grown (context s) (context u) (quiet-grows s u q) p (array t n) at) i')

    members-does : (vs : Initialisers) (static : Bool) (p : Place) (m i : ℕ) (ss : List Stmt) (s : State) → Good s
        → IsPlace (context s) p (struct m) → Done old s ss → Does Quiet (members vs static p m i ss) s (Done old)
    members-does tree.no_initialisers static p m i ss s g at done = ends Quiet ss s s (Done old) g (quiet-same s) done
    members-does (tree.initialiser_and v vs) static p m i ss s g at done =
        quietly s (given-then Quiet (slice_get (members_of s.structs (struct m)) i) (λ t. inside v static (to.member p m i) t ss) s (Done old) (λ t e.
        inside-does v static (to.member p m i) t ss s g (member-object s g m i t e) (at, e) done))
        (λ more u good q i'.
        members-does vs static p m (i + 1) more u good (place-grown (context s) (context u) (quiet-grows s u q) p (struct m) at) i')

  -- ---- of a variable

  from_place-does : (m : ℕ) (p : Place) (q : Place × Ty) (ss : List Stmt) (s : State) → Good s → IsPlace (context s) p (struct m) → IsPlace (context s) q.0 q.1 → Done old s ss
      → Does Quiet (from_place m p q ss) s (Done old)
  from_place-does m p q ss s g at from done =
      only-then Quiet (same_type (struct m) q.1) _ s _ (λ b.
      given-then Quiet (measured s.structs q.1) _ s _ (λ k f.
      let is = same-type (struct m) q.1 b in
      let small = subst (λ t. IsSmall s.structs t) (sym is) (small_if_measured s.structs q.1 k f).0 in
      let there = subst (λ t. IsPlace (context s) q.0 t) (sym is) from in
      ends Quiet (ss ++ to.perform (to.copy m p q.0) ∷ []) s s (Done old) g (quiet-same s)
      (and-behind (context s) old ss (to.perform (to.copy m p q.0)) done (void, (refl, small, at, there)))))

  copied_from-does : (m : ℕ) (p : Place) (e : Expr) (ss : List Stmt) (s : State) → Good s → IsPlace (context s) p (struct m) → Done old s ss
      → Does Quiet (copied_from m p e ss) s (Done old)
  copied_from-does m p e ss s g at done =
      quietly s (a_place-does e s g) (λ q u good w i.
      let grown = quiet-grows s u w in
      from_place-does m p q ss u good (place-grown (context s) (context u) grown p (struct m) at) i.3 (behind-grown (context s) (context u) grown old ss done))

  pub initialised-does : (v : Initialiser) (static : Bool) (p : Place) (t : Ty) (ss : List Stmt) (s : State) → Good s → IsObject s.structs t → IsPlace (context s) p t → Done old s ss
      → Does Quiet (initialised v static p t ss) s (Done old)
  initialised-does (tree.single e) false p (struct m) ss s g h at done = copied_from-does m p e ss s g at done
  initialised-does v static p t ss s g h at done = inside-does v static p t ss s g h at done
