-- What statements make are statements, of a function with its result.
use Rattle.std.proofs.Common.{◌≡◌, ◌∙◌, sym, ap, subst, refl, ℕ, ◌<◌, ◌≤◌, ◌||◌, ◌^◌, not, Bool, true, false, List, [], ◌∷◌, ◌++◌, length, Option, Some, None, slice_get, append_assoc, arith}
use Rattle.std.proofs.lemmas.Bool.Decides.{nat_tests}
use Rattle.std.proofs.lemmas.List.{append-nil, length-append}
use Rattle.std.proofs.lemmas.List.Elements.{All-nil, All-head, All-tail, All-append, All-push, All-weaker}
use Rattle.std.proofs.lemmas.Option.{slice_get_within}
use Rattle.std.specs.List.{All, list_any}
use Rattle.std.specs.Prelude.{nat_eq}
use Rattle.c_types.specs.declared.integers.IntType.{IntType}
use Rattle.c_types.specs.declared.integers.IntType.TheVariants.{Int}
use Rattle.c_types.specs.Integers.{bits, promoted}
use Rattle.c_types.specs.Types.{Ty, void, integer, struct, pointer, array, function, is_function}
use Rattle.c_tree.specs.declared.first.ForFirstNode.{ForFirstNode}
use Rattle.c_tree.specs.declared.first.ForFirstNode.TheVariants as firsts
use Rattle.c_tree.specs.declared.first.Jump.{Jump}
use Rattle.c_tree.specs.declared.first.Jump.TheVariants as jumps
use Rattle.c_tree.specs.declared.initialiser.Init.{Init}
use Rattle.c_tree.specs.declared.specifier.SpecifierNode.{SpecifierNode}
use Rattle.c_tree.specs.Statements as tree
use Rattle.c_tree.specs.Statements.{Statement, Items}
use Rattle.c_tree.specs.Tree.{Expr, Declarator, Initialiser}
use Rattle.c_typed.specs.declared.ops.Variable.TheVariants as variables
use Rattle.c_typed.specs.declared.tree.Case.{Case}
use Rattle.c_typed.specs.Tree as to
use Rattle.c_typed.specs.Tree.{Stmt, Stmts}
use Rattle.c_typed.specs.Forms.{promoted_value}
use Rattle.c_typed.specs.Parts.{sequence}
use Rattle.c_check_types.specs.State.{State}
use Rattle.c_check_types.specs.Scopes.{outer}
use Rattle.c_check_types.specs.Constants.{value_at}
use Rattle.c_check_types.specs.Types.{Derived, whole, lengthless, Parameter}
use Rattle.c_check_exprs.specs.Expressions.{typing}
use Rattle.c_typed.specs.declared.jumps.Jumps.{Jumps}
use Rattle.c_typed.specs.refinement.Types.{IsType, IsObject}
use Rattle.c_typed.specs.refinement.Expressions.{Context, opened, is_visible, IsCondition, HasType, IsPromoted}
use Rattle.c_typed.specs.Statements.{IsStep, AreNew, count, IsLabel, IsCase, AreDistinct, in_loop, in_switch, IsStatement, AreStatements}
use Rattle.c_typed.specs.Units.{IsGiven}
use Rattle.c_check.proofs.States.{context, visible_in, front, Good, Quiet, Steps, Grows, Does}
use Rattle.c_check.proofs.Visibility.{above-all}
use Rattle.c_check.proofs.Extension.{extends-same, type-kept, object-kept, quiet-same, steps-same, quiet-steps, quiet-onward, steps-onward, quiet-grows, steps-grows, open-split}
use Rattle.c_check.proofs.Rules.{quietly, calmly, stepping, ends, given-then, only-then}
use Rattle.c_check.proofs.Integers.{promoted-twice}
use Rattle.c_check.proofs.Operations.{promoted_value-is}
use Rattle.c_check.proofs.Growth.{condition-grown, step-grown, slot-grown, opened-grown, new-grown, statement-grown, expr-grown}
use Rattle.c_check.proofs.Types.{IsBase, IsDerived, base-derived, specified-does, declared-does, constant-does}
use Rattle.c_check.proofs.Uses.{an_integer-by}
use Rattle.c_check.proofs.Scopes.{HasSlot, IsFunctionType, function-type, opened-state, opened-good, closed-state, enclosed-steps, enclosed, enters_local-does, declares_function-does}
use Rattle.c_check.proofs.Declared.{variable_type-does}
use Rattle.c_check.proofs.Expressions.{typing-does, as_assigned-does, a_condition-does, performed-does}
use Rattle.c_check.specs.Statements.{Declaring, nothing_done, and_done, scope_of, local_value, declares_variable, is_missing, declares_function_there, declares, declares_one, declaration, declaration_of, test_of, step_of, first_of, in_front_of_loop, returned, is_void, returned_nothing, jump_of, may_jump, jumped, with_group, with_case, is_among, with_label, labelled, with_default, defaulted, case_label, default_label, switched_on, switch_of, for_parts, statement, items}
use Rattle.c_check.proofs.Leaves.{converted-fits, Behind, nothing-behind, initialised-does}

-- ---- contexts

-- a context with these slots visible
abbrev pub seeing : Context → List ℕ → Context
seeing c ns = record c { visible = ns }

pub seeing-same : (c : Context) (ms ns : List ℕ) → ms ≡ ns → Grows (seeing c ms) (seeing c ns)
seeing-same c ms ns e =
    record {
      structs = extends-same c.structs;
      globals = λ n t h. h;
      literals = omega arith;
      functions = λ n t h. h;
      slots = λ n t h. h;
      visible = λ n h. subst (λ xs. is_visible xs n ≡ true) e h;
      fresh = λ n l h. subst (λ xs. is_visible xs n ≡ false) e h;
    }

pub grows-onward : (c d e : Context) → Grows c d → Grows d e → Grows c e
grows-onward c d e p q =
    record {
      structs = record { tags = let a = p.structs.tags in let b = q.structs.tags in omega (arith, a, b); structs = λ n l h. q.structs.structs n l (p.structs.structs n l h) };
      globals = λ n t h. q.globals n t (p.globals n t h);
      literals = let a = p.literals in let b = q.literals in omega (arith, a, b);
      functions = λ n t h. q.functions n t (p.functions n t h);
      slots = λ n t h. q.slots n t (p.slots n t h);
      visible = λ n h. q.visible n (p.visible n h);
      fresh = λ n l h. q.fresh n (slot-grown c d p n l) (p.fresh n l h);
    }

-- ---- what is declared, and done there

abbrev pub AllDone : Context → Ty → Jumps → List Stmt → Type 0
AllDone c r j ss = All (IsStatement c r j) ss

done-grown : (c d : Context) → Grows c d → (r : Ty) (j : Jumps) (ss : List Stmt) → AllDone c r j ss → AllDone d r j ss
done-grown c d g r j ss h = All-weaker (IsStatement c r j) (IsStatement d r j) (statement-grown c d g r j) ss h

given-is : (c : Context) (r : Ty) (j : Jumps) (s : Stmt) → IsGiven c s → IsStatement c r j s
given-is c r j (to.perform e) h = h
given-is c r j (to.fill p n bytes) h = h
given-is c r j to.nothing h = absurd h
given-is c r j (to.if_else e a b) h = absurd h
given-is c r j (to.loop e step s) h = absurd h
given-is c r j (to.do_while s e) h = absurd h
given-is c r j (to.switch t e slots cases groups) h = absurd h
given-is c r j (to.scope slots ss) h = absurd h
given-is c r j (to.return e) h = absurd h
given-is c r j to.return_nothing h = absurd h
given-is c r j to.break h = absurd h
given-is c r j to.continue h = absurd h

-- a label is one of those that were seen
abbrev pub IsSeenLabel : List ℕ → Bool → Option ℕ → Type 0
IsSeenLabel ns b None = b ≡ true
IsSeenLabel ns b (Some n) = is_among ns n ≡ true

abbrev pub IsSeen : List ℕ → Bool → Case → Type 0
IsSeen ns b x = IsSeenLabel ns b x.label

-- the labels of a switch on this type so far
pub record AreLabels (t : IntType) (d : Declaring) : Type 0 where
  pub cases : All (IsCase t (length d.groups)) d.cases
  pub seen : All (IsSeen d.labels d.has_default) d.cases
  pub distinct : AreDistinct d.cases

abbrev pub HasLabels : Option IntType → Declaring → Type 0
HasLabels None d = Unit {0}
HasLabels (Some t) d = AreLabels t d

-- what may be named outside of a block, of whose scope these slots are the first
abbrev pub outside : State → List ℕ → Context
outside u ps = seeing (context u) (visible_in (outer u.scopes) ++ ps)

pub record IsDeclaring (u : State) (r : Ty) (j : Jumps) (ps : List ℕ) (l : Option IntType) (d : Declaring) : Type 0 where
  pub here : front u.scopes ≡ ps ++ d.slots
  pub new : AreNew (outside u ps) d.slots
  pub done : AllDone (context u) r j d.done
  pub groups : AllDone (context u) r j d.groups
  pub labels : HasLabels l d

nothing-labelled : (l : Option IntType) → HasLabels l nothing_done
nothing-labelled None = tt
nothing-labelled (Some t) =
    record { cases = All-nil (IsCase t 0); seen = All-nil (IsSeen [] false); distinct = tt }

pub nothing-declared : (u : State) (r : Ty) (j : Jumps) (ps : List ℕ) (l : Option IntType) → front u.scopes ≡ ps → IsDeclaring u r j ps l nothing_done
nothing-declared u r j ps l e =
    record {
      here = e ∙ sym (append-nil ps);
      new = tt;
      done = All-nil (IsStatement (context u) r j);
      groups = All-nil (IsStatement (context u) r j);
      labels = nothing-labelled l;
    }

outside-grown : (s u : State) (ps : List ℕ) → Steps s u → Grows (outside s ps) (outside u ps)
outside-grown s u ps p =
    let g = steps-grows s u p in
    let e : visible_in (outer s.scopes) ++ ps ≡ visible_in (outer u.scopes) ++ ps = ap (λ ss. visible_in ss ++ ps) (sym p.outer) in
    record {
      structs = g.structs;
      globals = g.globals;
      literals = g.literals;
      functions = g.functions;
      slots = g.slots;
      visible = λ n h. subst (λ xs. is_visible xs n ≡ true) e h;
      fresh = λ n l h. subst (λ xs. is_visible xs n ≡ false) e h;
    }

module _ (r : Ty) (j : Jumps) (ps : List ℕ) (l : Option IntType) where
  pub declaring-kept : (s u : State) → Steps s u → front u.scopes ≡ front s.scopes → (x : Declaring) → IsDeclaring s r j ps l x → IsDeclaring u r j ps l x
  declaring-kept s u p e x h =
      let g = steps-grows s u p in
      record {
        here = e ∙ h.here;
        new = new-grown (outside s ps) (outside u ps) (outside-grown s u ps p) x.slots h.new;
        done = done-grown (context s) (context u) g r j x.done h.done;
        groups = done-grown (context s) (context u) g r j x.groups h.groups;
        labels = h.labels;
      }

  pub declaring-quiet : (s u : State) → Quiet s u → (x : Declaring) → IsDeclaring s r j ps l x → IsDeclaring u r j ps l x
  declaring-quiet s u p x h = declaring-kept s u (quiet-steps s u p) p.front x h

labels-done : (l : Option IntType) (d : Declaring) (ss : List Stmt) → HasLabels l d → HasLabels l (record d { done = ss })
labels-done None d ss h = tt
labels-done (Some t) d ss h = record { cases = h.cases; seen = h.seen; distinct = h.distinct }

labels-slots : (l : Option IntType) (d : Declaring) (ns : List ℕ) (ss : List Stmt) → HasLabels l d → HasLabels l (record d { slots = ns; done = ss })
labels-slots None d ns ss h = tt
labels-slots (Some t) d ns ss h = record { cases = h.cases; seen = h.seen; distinct = h.distinct }

sequence-is : (c : Context) (r : Ty) (j : Jumps) (ss : List Stmt) → AllDone c r j ss → AreStatements c r j (sequence ss)
sequence-is c r j [] h = tt
sequence-is c r j (s ∷ ss) h =
    (All-head (IsStatement c r j) s ss h, sequence-is c r j ss (All-tail (IsStatement c r j) s ss h))

and-is : (u : State) (r : Ty) (j : Jumps) (ps : List ℕ) (l : Option IntType) (d : Declaring) (s : Stmt) → IsDeclaring u r j ps l d → IsStatement (context u) r j s
    → IsDeclaring u r j ps l (and_done d s)
and-is u r j ps l d s h i =
    record { here = h.here; new = h.new; done = All-push (IsStatement (context u) r j) d.done s h.done i; groups = h.groups; labels = labels-done l d (d.done ++ s ∷ []) h.labels }

-- ---- where a block ends

module _ (u : State) (r : Ty) (j : Jumps) (ps : List ℕ) (l : Option IntType) (d : Declaring) (h : IsDeclaring u r j ps l d) where
  all-visible : visible_in u.scopes ≡ (visible_in (outer u.scopes) ++ ps) ++ d.slots
  all-visible =
      open-split u.scopes ∙ ap (λ ns. visible_in (outer u.scopes) ++ ns) h.here ∙ sym (append_assoc (visible_in (outer u.scopes)) ps d.slots)

  -- in a context that is what may be named outside of the block
  module _ (c : Context) (out : Grows (outside u ps) c) where
    inside : Grows (context u) (opened c d.slots)
    inside =
        grows-onward (context u) (opened (outside u ps) d.slots) (opened c d.slots)
        (seeing-same (context u) (visible_in u.scopes) ((visible_in (outer u.scopes) ++ ps) ++ d.slots) all-visible) (opened-grown (outside u ps) c d.slots out)

    pub scope-is : IsStatement c r j (scope_of d)
    scope-is =
        (new-grown (outside u ps) c out d.slots h.new, sequence-is (opened c d.slots) r j d.done (done-grown (context u) (opened c d.slots) inside r j d.done h.done))

closed-grown : (u : State) → Grows (outside u []) (context (closed-state u))
closed-grown u = seeing-same (context u) (visible_in (outer u.scopes) ++ []) (visible_in (outer u.scopes)) (append-nil (visible_in (outer u.scopes)))

pub block-is : (u : State) (r : Ty) (j : Jumps) (l : Option IntType) (d : Declaring) → IsDeclaring u r j [] l d → IsStatement (context (closed-state u)) r j (scope_of d)
block-is u r j l d h = scope-is u r j [] l d h (context (closed-state u)) (closed-grown u)

-- ---- declarations

-- one slot more
new-push : (c : Context) (ns : List ℕ) (n : ℕ) → AreNew c ns → n < length c.slots → is_visible (c.visible ++ ns) n ≡ false → AreNew c (ns ++ n ∷ [])
new-push c [] n h k e = (k, subst (λ xs. is_visible xs n ≡ false) (append-nil c.visible) e, tt)
new-push c (m ∷ ms) n h k e =
    (h.0, h.1, new-push (opened c (m ∷ [])) ms n h.2 k (subst (λ xs. is_visible xs n ≡ false) (sym (append_assoc c.visible (m ∷ []) ms)) e))

module _ (r : Ty) (j : Jumps) (ps : List ℕ) (l : Option IntType) where
  abbrev Declares : State → Declaring → Type 0
  Declares u d = IsDeclaring u r j ps l d

  local_value-does : (n : ℕ) (t : Ty) (v : Option Initialiser) (ss : List Stmt) (s : State) → Good s → IsObject s.structs t → slice_get s.slots n ≡ Some t
      → is_visible (visible_in s.scopes) n ≡ true → Does Quiet (local_value n t v ss) s (λ u xs. Behind (context u) ss xs)
  local_value-does n t None ss s g h at seen = ends Quiet ss s s (λ u xs. Behind (context u) ss xs) g (quiet-same s) (nothing-behind (context s) ss)
  local_value-does n t (Some v) ss s g h at seen = initialised-does ss v false (to.of (variables.Local n)) t ss s g h (at, seen) (nothing-behind (context s) ss)

  -- with a slot more
  slot-declared : (u w : State) (t : Ty) (n : ℕ) (x : Declaring) → Good u → Steps u w → HasSlot u t w n → Declares u x
      → (front w.scopes ≡ ps ++ (x.slots ++ n ∷ [])) × AreNew (outside w ps) (x.slots ++ n ∷ [])
  slot-declared u w t n x good p slot h =
      let seen : is_visible (visible_in u.scopes) n ≡ false = above-all u.slots (visible_in u.scopes) n (let e = slot.4 in omega (arith, e)) good.opened in
      let same : (visible_in (outer u.scopes) ++ ps) ++ x.slots ≡ (visible_in (outer w.scopes) ++ ps) ++ x.slots = ap (λ ss. (visible_in ss ++ ps) ++ x.slots) (sym p.outer) in
      let there : is_visible ((visible_in (outer w.scopes) ++ ps) ++ x.slots) n ≡ false =
      subst (λ xs. is_visible xs n ≡ false) (all-visible u r j ps l x h ∙ same) seen in (
        slot.3 ∙ ap (λ ns. ns ++ n ∷ []) h.here ∙ append_assoc ps x.slots (n ∷ []),
        new-push (outside w ps) x.slots n (new-grown (outside u ps) (outside w ps) (outside-grown u w ps p) x.slots h.new) (slice_get_within w.slots n t slot.0) there,
      )

  values-done : (s u : State) → Quiet s u → (old new : List Stmt) → AllDone (context s) r j old → Behind (context u) old new → AllDone (context u) r j new
  values-done s u q old new h b =
      subst (λ xs. AllDone (context u) r j xs) (sym b.is)
      (All-append (IsStatement (context u) r j) old b.values (done-grown (context s) (context u) (quiet-grows s u q) r j old h) (All-weaker (IsGiven (context u)) (IsStatement (context u) r j) (given-is (context u) r j) b.values b.given))

  declares_variable-does : (name : List ℕ) (d : Derived) (qs : List Parameter) (v : Option Initialiser) (x : Declaring) (s : State) → Good s → IsDerived s.structs d qs
      → Declares s x → Does Steps (declares_variable name d v x) s Declares
  declares_variable-does name d qs v x s g h i =
      calmly s (variable_type-does d qs v s g h) (λ t u good q o.
      let there = declaring-quiet r j ps l s u q x i in
      stepping u (enters_local-does name t u good o) (λ n w fine z slot.
      let fit = object-kept u.structs w.structs z.structs t o in
      let new = slot-declared u w t n x good z slot there in
      let grown = steps-grows u w z in
      calmly w (local_value-does n t v x.done w fine fit slot.0 slot.2) (λ done y fair k b.
      let more = quiet-grows w y k in
      ends Steps (record x { slots = x.slots ++ n ∷ []; done = done }) y y Declares fair (steps-same y) (record {
        here = k.front ∙ new.0;
        new = new-grown (outside w ps) (outside y ps) (outside-grown w y ps (quiet-steps w y k)) (x.slots ++ n ∷ []) new.1;
        done = values-done w y k x.done done (done-grown (context u) (context w) grown r j x.done there.done) b;
        groups = done-grown (context w) (context y) more r j x.groups (done-grown (context u) (context w) grown r j x.groups there.groups);
        labels = labels-slots l x (x.slots ++ n ∷ []) done there.labels;
      }))))

  declares_function_there-does : (name : List ℕ) (t : Ty) (v : Option Initialiser) (x : Declaring) (s : State) → Good s → IsFunctionType t → IsType s.structs t
      → Declares s x → Does Steps (declares_function_there name t v x) s Declares
  declares_function_there-does name t v x s g f h i =
      only-then Steps (is_missing v) _ s _ (λ b.
      stepping s (declares_function-does name t s g f h) (λ n u good q k.
      ends Steps x u u Declares good (steps-same u) (declaring-kept r j ps l s u q k.2 x i)))

  declares-does : (name : List ℕ) (d : Derived) (qs : List Parameter) (v : Option Initialiser) (x : Declaring) (s : State) → Good s → IsDerived s.structs d qs
      → Declares s x → Does Steps (declares name d v x) s Declares
  declares-does name (lengthless t) qs v x s g h i = declares_variable-does name (lengthless t) qs v x s g h i
  declares-does name (whole t) qs v x s g h i = by (is_function t) refl where
    by : (b : Bool) → is_function t ≡ b → Does Steps (declares name (whole t) v x) s Declares
    by true e = rw e (declares_function_there-does name t v x s g (function-type t e) h.0 i)
    by false e = rw e (declares_variable-does name (whole t) qs v x s g h i)

  declares_one-does : (b : Ty) (d : Declarator) (v : Option Initialiser) (x : Declaring) (s : State) → Good s → IsBase s.structs b
      → Declares s x → Does Steps (declares_one b d v x) s Declares
  declares_one-does b d v x s g h i =
      calmly s (declared-does d (whole b) [] s g (base-derived s.structs b h)) (λ y u good q k.
      given-then Steps y.name _ u _ (λ name e.
      declares-does name y.derived y.params v x u good k (declaring-quiet r j ps l s u q x i)))

  declaration-does : (b : Ty) (xs : List Init) (x : Declaring) (s : State) → Good s → IsBase s.structs b → Declares s x
      → Does Steps (declaration b xs x) s Declares
  declaration-does b [] x s g h i = ends Steps x s s Declares g (steps-same s) i
  declaration-does b (y ∷ ys) x s g h i =
      stepping s (declares_one-does b y.declarator y.value x s g h i) (λ more u good q k.
      declaration-does b ys more u good (type-kept s.structs u.structs q.structs b h.0, h.1) k)

  declaration_of-does : (k : SpecifierNode) (xs : List Init) (x : Declaring) (s : State) → Good s → Declares s x
      → Does Steps (declaration_of k xs x) s Declares
  declaration_of-does k xs x s g i =
      calmly s (specified-does k s g) (λ b u good q h.
      declaration-does b xs x u good h (declaring-quiet r j ps l s u q x i))

-- ---- clauses of statements

abbrev Tests : State → to.Expr → Type 0
Tests u v = IsCondition (context u) v

test_of-does : (e : Option Expr) (s : State) → Good s → Does Quiet (test_of e) s Tests
test_of-does None s g = ends Quiet (to.number Int 1) s s Tests g (quiet-same s) (Int, omega arith, (refl, omega arith))
test_of-does (Some e) s g = a_condition-does e s g

abbrev StepsOn : State → Option to.Expr → Type 0
StepsOn u v = IsStep (context u) v

step_of-does : (e : Option Expr) (s : State) → Good s → Does Quiet (step_of e) s StepsOn
step_of-does None s g = ends Quiet None s s StepsOn g (quiet-same s) tt
step_of-does (Some e) s g =
    quietly s (performed-does e s g) (λ v u good q h. ends Quiet (Some v) u u StepsOn good (quiet-same u) h)

-- a statement, behind which the innermost scope has the slots that it had
abbrev pub States : Ty → Jumps → State → State → Stmt → Type 0
States r j s u x = IsStatement (context u) r j x × (front u.scopes ≡ front s.scopes)

-- a `for` with nothing in front declares nothing
abbrev IsBare : ForFirstNode → Declaring → Type 0
IsBare firsts.Nothing d = d.slots ≡ []
IsBare _ d = Unit {0}

void-is : (t : Ty) → is_void t ≡ true → t ≡ void
void-is void e = refl
void-is (integer t) e = let q : false ≡ true = e in absurd (cc)
void-is (struct n) e = let q : false ≡ true = e in absurd (cc)
void-is (pointer t) e = let q : false ≡ true = e in absurd (cc)
void-is (array t n) e = let q : false ≡ true = e in absurd (cc)
void-is (function t ps) e = let q : false ≡ true = e in absurd (cc)

jump-is : (x : Jump) (r : Ty) (j : Jumps) (c : Context) → may_jump x j ≡ true → IsStatement c r j (jump_of x)
jump-is jumps.Break r j c e = e
jump-is jumps.Continue r j c e = e

module _ (r : Ty) (j : Jumps) where
  first_of-does : (f : ForFirstNode) (s : State) → Good s → IsDeclaring s r j [] None nothing_done → Does Steps (first_of f nothing_done) s (λ u d. IsDeclaring u r j [] None d × IsBare f d)
  first_of-does firsts.Nothing s g i = ends Steps nothing_done s s (λ u d. IsDeclaring u r j [] None d × (d.slots ≡ [])) g (steps-same s) (i, refl)
  first_of-does (firsts.Expr e) s g i =
      calmly s (performed-does e s g) (λ v u good q h.
      ends Steps (and_done nothing_done (to.perform v)) u u (λ u d. IsDeclaring u r j [] None d × Unit {0}) good (steps-same u)
      (and-is u r j [] None nothing_done (to.perform v) (declaring-quiet r j [] None s u q nothing_done i) h, tt))
  first_of-does (firsts.Declaration k xs) s g i =
      λ d u e. let f = declaration_of-does r j [] None k xs nothing_done s g i d u e in (f.0, f.1, (f.2, tt))

  in-front : (f : ForFirstNode) (u : State) (d : Declaring) (s : Stmt) → IsDeclaring u r j [] None d → IsBare f d → IsStatement (context u) r j s
      → IsStatement (context (closed-state u)) r j (in_front_of_loop f d s)
  in-front firsts.Nothing u d s h bare i =
      let e : visible_in u.scopes ≡ visible_in (outer u.scopes) =
      open-split u.scopes ∙ ap (λ ns. visible_in (outer u.scopes) ++ ns) (h.here ∙ bare) ∙ append-nil (visible_in (outer u.scopes)) in
      statement-grown (context u) (context (closed-state u)) (seeing-same (context u) (visible_in u.scopes) (visible_in (outer u.scopes)) e) r j s i
  in-front (firsts.Expr e) u d s h bare i = block-is u r j None (and_done d s) (and-is u r j [] None d s h i)
  in-front (firsts.Declaration k xs) u d s h bare i = block-is u r j None (and_done d s) (and-is u r j [] None d s h i)

  returned-does : (e : Expr) (s : State) → Good s → IsType s.structs r → Does Quiet (returned r e) s (λ u x. IsStatement (context u) r j x)
  returned-does e s g h =
      quietly s (as_assigned-does r e s g h) (λ v u good q i. ends Quiet (to.return v) u u (λ u x. IsStatement (context u) r j x) good (quiet-same u) i)

  returned_nothing-does : (s : State) → Good s → Does Quiet (returned_nothing r) s (λ u x. IsStatement (context u) r j x)
  returned_nothing-does s g =
      only-then Quiet (is_void r) _ s _ (λ b. ends Quiet to.return_nothing s s (λ u x. IsStatement (context u) r j x) g (quiet-same s) (void-is r b))

  jumped-does : (x : Jump) (s : State) → Good s → Does Quiet (jumped x j) s (λ u x. IsStatement (context u) r j x)
  jumped-does x s g =
      only-then Quiet (may_jump x j) _ s _ (λ b. ends Quiet (jump_of x) s s (λ u x. IsStatement (context u) r j x) g (quiet-same s) (jump-is x r j (context s) b))

  -- a quiet rule of a statement
  stated : {o : Option (Stmt × State)} (s : State)
      → ((x : Stmt) (t : State) → ◌≡◌ {A = Option (Stmt × State)} o (Some (x, t)) → Good t × Quiet s t × IsStatement (context t) r j x)
      → (x : Stmt) (t : State) → ◌≡◌ {A = Option (Stmt × State)} o (Some (x, t)) → Good t × Steps s t × States r j s t x
  stated s does x t e = let d = does x t e in (d.0, quiet-steps s t d.1, (d.2, d.1.front))

-- ---- labels

or-else : (a b c : Bool) → (b ≡ true → c ≡ true) → (a || b) ≡ true → (a || c) ≡ true
or-else true b c f e = refl
or-else false b c f e = f e

still-among : (xs : List ℕ) (m n : ℕ) → list_any (nat_eq m) xs ≡ true → list_any (nat_eq m) (xs ++ n ∷ []) ≡ true
still-among [] m n e = let q : false ≡ true = e in absurd (cc)
still-among (x ∷ xs) m n e =
    or-else (nat_eq m x) (list_any (nat_eq m) xs) (list_any (nat_eq m) (xs ++ n ∷ [])) (λ f. still-among xs m n f) e

seen-label : (ns : List ℕ) (b : Bool) (n : ℕ) (o : Option ℕ) → IsSeenLabel ns b o → IsSeenLabel (ns ++ n ∷ []) b o
seen-label ns b n None h = h
seen-label ns b n (Some m) h = still-among ns m n h

seen-last : (ns : List ℕ) (n : ℕ) → is_among (ns ++ n ∷ []) n ≡ true
seen-last [] n = by (nat_eq n n) (grind (arith, nat_tests)) where
  by : (a : Bool) → a ≡ true → (a || false) ≡ true
  by true e = refl
  by false e = let q : false ≡ true = e in absurd (cc)
seen-last (x ∷ xs) n = by (nat_eq n x) (seen-last xs n) where
  by : (a : Bool) → is_among (xs ++ n ∷ []) n ≡ true → (a || list_any (nat_eq n) (xs ++ n ∷ [])) ≡ true
  by true e = refl
  by false e = e

distinct-push : (xs : List Case) (x : Case) → AreDistinct xs → All (λ (y : Case). x.label ≡ y.label → ⊥) xs → AreDistinct (xs ++ x ∷ [])
distinct-push [] x h k = (All-nil (λ (y : Case). y.label ≡ x.label → ⊥), tt)
distinct-push (y ∷ ys) x h k =
    (All-push (λ (z : Case). z.label ≡ y.label → ⊥) ys x h.0 (All-head (λ (z : Case). x.label ≡ z.label → ⊥) y ys k), distinct-push ys x h.1 (All-tail (λ (z : Case). x.label ≡ z.label → ⊥) y ys k))

-- a label that wasn't seen is another one than each that was
other-label : (ns : List ℕ) (b : Bool) (o p : Option ℕ) → (IsSeenLabel ns b o → ⊥) → IsSeenLabel ns b p → o ≡ p → ⊥
other-label ns b o p f h e = f (subst (λ q. IsSeenLabel ns b q) (sym e) h)

group-more : (gs ss : List Stmt) → length gs ≤ length (with_group gs ss)
group-more gs [] = omega arith
group-more gs (s ∷ ss) = let e = length-append gs (to.scope [] (sequence (s ∷ ss)) ∷ []) in omega (arith, e)

opened-nothing : (c : Context) → Grows c (opened c [])
opened-nothing c = seeing-same c c.visible (c.visible ++ []) (sym (append-nil c.visible))

group-is : (c : Context) (r : Ty) (j : Jumps) (gs ss : List Stmt) → AllDone c r j gs → AllDone c r j ss → AllDone c r j (with_group gs ss)
group-is c r j gs [] h k = h
group-is c r j gs (s ∷ ss) h k =
    All-push (IsStatement c r j) gs (to.scope [] (sequence (s ∷ ss))) h
    (tt, sequence-is (opened c []) r j (s ∷ ss) (done-grown c (opened c []) (opened-nothing c) r j (s ∷ ss) k))

case-more : (t : IntType) (m n : ℕ) → m ≤ n → (x : Case) → IsCase t m x → IsCase t n x
case-more t m n l x h = let g = h.0 in (omega (arith, g, l), h.1)

-- a label more, of which those that were seen so far, with it, are told
case-is : (t : IntType) (d : Declaring) (ns : List ℕ) (b : Bool) (o : Option ℕ) → AreLabels t d → IsLabel t o
    → (IsSeenLabel d.labels d.has_default o → ⊥) → ((p : Option ℕ) → IsSeenLabel d.labels d.has_default p → IsSeenLabel ns b p) → IsSeenLabel ns b o
    → AreLabels t (with_case (record d { labels = ns; has_default = b }) o)
case-is t d ns b o h fits absent more seen =
    let gs = with_group d.groups d.done in
    let x : Case = record { label = o; group = length gs } in
    record {
      cases = All-push (IsCase t (length gs)) d.cases x (All-weaker (IsCase t (length d.groups)) (IsCase t (length gs)) (case-more t (length d.groups) (length gs) (group-more d.groups d.done)) d.cases h.cases) (omega arith, fits);
      seen = All-push (IsSeen ns b) d.cases x (All-weaker (IsSeen d.labels d.has_default) (IsSeen ns b) (λ y k. more y.label k) d.cases h.seen) seen;
      distinct = distinct-push d.cases x h.distinct (All-weaker (IsSeen d.labels d.has_default) (λ (y : Case). o ≡ y.label → ⊥) (λ y k. other-label d.labels d.has_default o y.label absent k) d.cases h.seen);
    }

not-on : (b : Bool) → not b ≡ true → b ≡ true → ⊥
not-on true e f = let q : false ≡ true = e in absurd (cc)
not-on false e f = let q : false ≡ true = f in absurd (cc)

module _ (r : Ty) (j : Jumps) (ps : List ℕ) where
  case-declared : (u : State) (t : IntType) (d : Declaring) (ns : List ℕ) (b : Bool) (o : Option ℕ) → IsDeclaring u r j ps (Some t) d → AreLabels t (with_case (record d { labels = ns; has_default = b }) o)
      → IsDeclaring u r j ps (Some t) (with_case (record d { labels = ns; has_default = b }) o)
  case-declared u t d ns b o h k =
      record { here = h.here; new = h.new; done = All-nil (IsStatement (context u) r j); groups = group-is (context u) r j d.groups d.done h.groups h.done; labels = k }

  labelled-does : (t : IntType) (n : ℕ) (d : Declaring) (s : State) → Good s → n < 2 ^ bits t → IsDeclaring s r j ps (Some t) d
      → Does Quiet (labelled n d) s (λ u d. IsDeclaring u r j ps (Some t) d)
  labelled-does t n d s g fits h =
      only-then Quiet (not (is_among d.labels n)) _ s _ (λ e.
      ends Quiet (with_case (with_label d n) (Some n)) s s (λ u d. IsDeclaring u r j ps (Some t) d) g (quiet-same s)
      (case-declared s t d (d.labels ++ n ∷ []) d.has_default (Some n) h
      (case-is t d (d.labels ++ n ∷ []) d.has_default (Some n) h.labels fits (not-on (is_among d.labels n) e) (λ p k. seen-label d.labels d.has_default n p k) (seen-last d.labels n))))

  now-default : (ns : List ℕ) (b : Bool) (p : Option ℕ) → IsSeenLabel ns b p → IsSeenLabel ns true p
  now-default ns b None h = refl
  now-default ns b (Some n) h = h

  defaulted-does : (t : IntType) (d : Declaring) (s : State) → Good s → IsDeclaring s r j ps (Some t) d
      → Does Quiet (defaulted d) s (λ u d. IsDeclaring u r j ps (Some t) d)
  defaulted-does t d s g h =
      only-then Quiet (not d.has_default) _ s _ (λ e.
      ends Quiet (with_case (with_default d) None) s s (λ u d. IsDeclaring u r j ps (Some t) d) g (quiet-same s)
      (case-declared s t d d.labels true None h
      (case-is t d d.labels true None h.labels tt (not-on d.has_default e) (now-default d.labels d.has_default) refl)))

  case_label-does : (l : Option IntType) (e : Expr) (d : Declaring) (s : State) → Good s → IsDeclaring s r j ps l d
      → Does Quiet (case_label l e d) s (λ u d. IsDeclaring u r j ps l d)
  case_label-does None e d s g h = λ a u f. let q : None ≡ Some (a, u) = f in absurd (cc)
  case_label-does (Some t) e d s g h =
      quietly s (constant-does e s g) (λ c u good q i.
      given-then Quiet (value_at t c) _ u _ (λ n f.
      labelled-does t n d u good (converted-fits c.ty t c.value n f) (declaring-quiet r j ps (Some t) s u q d h)))

  default_label-does : (l : Option IntType) (d : Declaring) (s : State) → Good s → IsDeclaring s r j ps l d
      → Does Quiet (default_label l d) s (λ u d. IsDeclaring u r j ps l d)
  default_label-does None d s g h = λ a u f. let q : None ≡ Some (a, u) = f in absurd (cc)
  default_label-does (Some t) d s g h = defaulted-does t d s g h

-- the operand of a switch
abbrev IsSwitched : State → to.Expr × IntType → Type 0
IsSwitched u v = HasType (context u) v.0 (integer v.1) × IsPromoted v.1

switched_on-does : (e : Expr) (s : State) → Good s → Does Quiet (switched_on (typing e)) s IsSwitched
switched_on-does e s g =
    quietly s (an_integer-by (typing e) (typing-does e) s g) (λ v u good q h.
    ends Quiet (promoted_value v, promoted v.1) u u IsSwitched good (quiet-same u) (promoted_value-is v u h, promoted-twice v.1))

count-is : (ss : List Stmt) → count (sequence ss) ≡ length ss
count-is [] = refl
count-is (s ∷ ss) = let e = count-is ss in omega (arith, e)

switch-is : (u : State) (r : Ty) (j : Jumps) (t : IntType) (e : to.Expr) (d : Declaring) → IsPromoted t → HasType (context (closed-state u)) e (integer t)
    → IsDeclaring u r (in_switch j) [] (Some t) d → IsStatement (context (closed-state u)) r j (switch_of (e, t) d)
switch-is u r j t e d promoted typed h =
    let c = context (closed-state u) in
    let out = closed-grown u in
    let gs = with_group d.groups d.done in
    let in_it = inside u r (in_switch j) [] (Some t) d h c out in
    let k : length d.groups ≤ count (sequence gs) = let e = count-is gs in let m = group-more d.groups d.done in omega (arith, e, m) in (
      promoted,
      typed,
      new-grown (outside u []) c out d.slots h.new,
      All-weaker (IsCase t (length d.groups)) (IsCase t (count (sequence gs))) (case-more t (length d.groups) (count (sequence gs)) k) d.cases h.labels.cases,
      h.labels.distinct,
      sequence-is (opened c d.slots) r (in_switch j) gs (done-grown (context u) (opened c d.slots) in_it r (in_switch j) gs (group-is (context u) r (in_switch j) d.groups d.done h.groups h.done)),
    )

-- ---- statements

mutual
  pub statement-does : (x : Statement) (r : Ty) (j : Jumps) (s : State) → Good s → IsType s.structs r → Does Steps (statement x r j) s (States r j s)
  statement-does (tree.block is) r j s g h =
      enclosed (items is r j None nothing_done (opened-state s)) scope_of s (λ u d. IsDeclaring u r j [] None d) (States r j s) g
      (items-does is r j [] None nothing_done (opened-state s) (opened-good s g) h (nothing-declared (opened-state s) r j [] None refl))
      (λ d u good p i. (block-is u r j None d i, ap (λ ss. front ss) p.outer))
  statement-does (tree.plain e) r j s g h =
      stated r j s (quietly s (performed-does e s g) (λ v u good q i. ends Quiet (to.perform v) u u (λ u x. IsStatement (context u) r j x) good (quiet-same u) i))
  statement-does tree.empty r j s g h = ends Steps to.nothing s s (States r j s) g (steps-same s) (tt, refl)
  statement-does (tree.if_then c a) r j s g h =
      calmly s (a_condition-does c s g) (λ test t good p i.
      stepping t (statement-does a r j t good (type-kept s.structs t.structs p.structs r h)) (λ x u fine q k.
      ends Steps (to.if_else test x to.nothing) u u (States r j s) fine (steps-same u)
      ((condition-grown (context t) (context u) (steps-grows t u q) test i, k.0, tt), k.1 ∙ p.front)))
  statement-does (tree.if_else c a b) r j s g h =
      calmly s (a_condition-does c s g) (λ test t good p i.
      stepping t (statement-does a r j t good (type-kept s.structs t.structs p.structs r h)) (λ x u fine q k.
      let type = type-kept t.structs u.structs q.structs r (type-kept s.structs t.structs p.structs r h) in
      stepping u (statement-does b r j u fine type) (λ y v fair z m.
      let last = steps-grows u v z in
      ends Steps (to.if_else test x y) v v (States r j s) fair (steps-same v)
      ((condition-grown (context u) (context v) last test (condition-grown (context t) (context u) (steps-grows t u q) test i), statement-grown (context u) (context v) last r j x k.0, m.0), m.1 ∙ k.1 ∙ p.front))))
  statement-does (tree.while_loop c a) r j s g h =
      calmly s (a_condition-does c s g) (λ test t good p i.
      stepping t (statement-does a r in_loop t good (type-kept s.structs t.structs p.structs r h)) (λ x u fine q k.
      ends Steps (to.loop test None x) u u (States r j s) fine (steps-same u)
      ((condition-grown (context t) (context u) (steps-grows t u q) test i, tt, k.0), k.1 ∙ p.front)))
  statement-does (tree.do_while a c) r j s g h =
      stepping s (statement-does a r in_loop s g h) (λ x t good p i.
      calmly t (a_condition-does c t good) (λ test u fine q k.
      ends Steps (to.do_while x test) u u (States r j s) fine (steps-same u)
      ((statement-grown (context t) (context u) (quiet-grows t u q) r in_loop x i.0, k), q.front ∙ i.1)))
  statement-does (tree.for_loop a c b body) r j s g h =
      let s1 = opened-state s in
      enclosed (for_parts a c b (statement body r in_loop) s1) (λ x. x) s (λ u x. IsStatement (context (closed-state u)) r j x) (States r j s) g
      (stepping s1 (first_of-does r j a s1 (opened-good s g) (nothing-declared s1 r j [] None refl)) (λ d u fine q i.
      calmly u (test_of-does c u fine) (λ test v fair z k.
      calmly v (step_of-does b v fair) (λ step w kind y m.
      let front-steps = steps-onward s1 u w q (quiet-steps u w (quiet-onward u v w z y)) in
      let type = type-kept s1.structs w.structs front-steps.structs r h in
      stepping w (statement-does body r in_loop w kind type) (λ x e well f n.
      let last = steps-grows w e f in
      let tg = steps-grows v e (steps-onward v w e (quiet-steps v w y) f) in
      let dg = steps-onward u w e (quiet-steps u w (quiet-onward u v w z y)) f in
      ends Steps (in_front_of_loop a d (to.loop test step x)) e e (λ u x. IsStatement (context (closed-state u)) r j x) well (steps-same e)
      (in-front r j a e d (to.loop test step x) (declaring-kept r j [] None u e dg (n.1 ∙ y.front ∙ z.front) d i.0) i.1
      (condition-grown (context v) (context e) tg test k, step-grown (context w) (context e) last step m, n.0)))))))
      (λ x u good p i. (i, ap (λ ss. front ss) p.outer))
  statement-does (tree.switch e is) r j s g h =
      calmly s (switched_on-does e s g) (λ v t good p i.
      let t1 = opened-state t in
      enclosed (items is r (in_switch j) (Some v.1) nothing_done t1) (switch_of v) t (λ u d. IsDeclaring u r (in_switch j) [] (Some v.1) d) (States r j s) good
      (items-does is r (in_switch j) [] (Some v.1) nothing_done t1 (opened-good t good) (type-kept s.structs t.structs p.structs r h) (nothing-declared t1 r (in_switch j) [] (Some v.1) refl))
      (λ d u fine q k.
      let back = enclosed-steps t u q in
      (switch-is u r j v.1 v.0 d i.1 (expr-grown (context t) (context (closed-state u)) (steps-grows t (closed-state u) back) v.0 (integer v.1) i.0) k, ap (λ ss. front ss) q.outer ∙ p.front)))
  statement-does tree.return_none r j s g h = stated r j s (returned_nothing-does r j s g)
  statement-does (tree.return_value e) r j s g h = stated r j s (returned-does r j e s g h)
  statement-does (tree.jump x) r j s g h = stated r j s (jumped-does r j x s g)

  pub items-does : (is : Items) (r : Ty) (j : Jumps) (ps : List ℕ) (l : Option IntType) (x : Declaring) (s : State) → Good s → IsType s.structs r → IsDeclaring s r j ps l x
      → Does Steps (items is r j l x) s (λ u d. IsDeclaring u r j ps l d)
  items-does tree.no_items r j ps l x s g h i = ends Steps x s s (λ u d. IsDeclaring u r j ps l d) g (steps-same s) i
  items-does (tree.statement_and y is) r j ps l x s g h i =
      stepping s (stepping s (statement-does y r j s g h) (λ z t good p k.
      ends Steps (and_done x z) t t (λ u d. IsDeclaring u r j ps l d) good (steps-same t)
      (and-is t r j ps l x z (declaring-kept r j ps l s t p k.1 x i) k.0))) (λ d u fine q k.
      items-does is r j ps l d u fine (type-kept s.structs u.structs q.structs r h) k)
  items-does (tree.declaration_and k xs is) r j ps l x s g h i =
      stepping s (declaration_of-does r j ps l k xs x s g i) (λ d u fine q m.
      items-does is r j ps l d u fine (type-kept s.structs u.structs q.structs r h) m)
  items-does (tree.case_and e is) r j ps l x s g h i =
      calmly s (case_label-does r j ps l e x s g i) (λ d u fine q m.
      items-does is r j ps l d u fine (type-kept s.structs u.structs q.structs r h) m)
  items-does (tree.default_and is) r j ps l x s g h i =
      calmly s (default_label-does r j ps l x s g i) (λ d u fine q m.
      items-does is r j ps l d u fine (type-kept s.structs u.structs q.structs r h) m)
