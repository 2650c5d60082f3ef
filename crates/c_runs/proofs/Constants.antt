-- What stands at file scope of a well-typed unit is made and given: its values are constants, in which no call stands, and of which each
-- part is ready for the start function.
use Rattle.std.proofs.Common.{◌≡◌, ℕ, zero, suc, ◌+◌, ◌<◌, ◌≤◌, List, [], ◌∷◌, length, Bool, true, false, refl, sym, ◌∙◌, arith, subst}
use Rattle.std.specs.Prelude.{get_or, ◌||◌}
use Rattle.std.specs.List.{All}
use Rattle.std.proofs.lemmas.List.Elements.{All-head, All-tail}
use Rattle.std.proofs.lemmas.Option.{slice_get-get_or}
use Rattle.c_types.specs.Types.{void}
use Rattle.c_typed.specs.declared.ops.Variable.{Variable}
use Rattle.c_typed.specs.declared.ops.Variable.TheVariants.{Local, Global}
use Rattle.c_typed.specs.Constants.{assigns_constant, give_constants, gives_constant, is_constant, is_number, is_part, is_way}
use Rattle.c_typed.specs.Objects as addresses
use Rattle.c_typed.specs.Objects.{is_whole}
use Rattle.c_typed.specs.Tree as tree
use Rattle.c_typed.specs.Tree.{Place, of, deref, member, Expr, Made, Stmt, Typed}
use Rattle.c_typed.specs.Units as typed
use Rattle.c_typed.specs.Units.{IsMade, IsWellTyped, numbers, variables_in}
use Rattle.c_typed.specs.refinement.Types.{IsObject}
use Rattle.c_meaning.specs.Units as file
use Rattle.ms_emit.specs.Codes.{one, plain, ◌⨾◌}
use Rattle.ms_module.specs.declared.access.Segment.TheVariants as segment
use Rattle.ms_module.specs.declared.instr.Instr.TheVariants.{Segment}
use Rattle.c_code.specs.Functions.{gives as gives_code, values}
use Rattle.c_code.specs.Modules.{is_call_of, start_target, waits_made, waits_values}
use Rattle.c_code.specs.Statements as scheme
use Rattle.c_code.specs.Statements.{at_body, filled}
use Rattle.c_code.specs.Targets.{Target, get, set}
use Rattle.c_code.specs.Uses as uses
use Rattle.c_code.specs.Uses.{Use, calls, names, through, copies, waits_stmt}
use Rattle.c_typing.proofs.Names.{Each, each_append, each_back, each_front}
use Rattle.c_runs.proofs.Fits.{Fits, bytes_fit, joined_left, joined_right, stmt_fits}
use Rattle.c_runs.proofs.Giving as giving
use Rattle.c_runs.proofs.Giving.{still}
use Rattle.c_runs.proofs.Goes.{Site}
use Rattle.c_runs.proofs.Operations.{Linked}
use Rattle.c_runs.proofs.Placed.{all_at}
use Rattle.c_runs.proofs.Ready.{AreCallable, IsKnown, any_left, any_right, left_of, right_of}
use Rattle.c_runs.proofs.Scalars.{small_slot}
use Rattle.c_runs.proofs.Starting.{AreMade, HasStart, not_empty}
use Rattle.c_runs.proofs.Whole.{both}

-- ---- no call stands in a constant

abbrev IsQuiet : Use → Type 0
IsQuiet (calls n) = ⊥
IsQuiet (through t) = ⊥
IsQuiet _ = Unit {0}

number_quiet : (e : Expr) → is_number e ≡ true → Each IsQuiet (uses.in_expr e)
number_quiet (tree.number t n) h = tt
number_quiet _ h = absurd cc

mutual
  part_quiet : (p : Place) → is_part p ≡ true → Each IsQuiet (uses.in_place p)
  part_quiet (of x) h = tt
  part_quiet (member p n m) h = part_quiet p h
  part_quiet (deref e) h = way_quiet e h

  way_quiet : (e : Expr) → is_way e ≡ true → Each IsQuiet (uses.in_expr e)
  way_quiet (tree.decay t n p) h = part_quiet p h
  way_quiet (tree.move t back a b) h = let q = both (is_way a) (is_number b) h in each_append IsQuiet (uses.in_expr a) (uses.in_expr b) (way_quiet a q.0) (number_quiet b q.1)
  way_quiet _ h = absurd cc

constant_quiet : (e : Expr) → is_constant e ≡ true → Each IsQuiet (uses.in_expr e)
constant_quiet (tree.number t n) h = tt
constant_quiet tree.null h = tt
constant_quiet tree.no_function h = tt
constant_quiet (tree.function n) h = (tt, tt)
constant_quiet (tree.literal n) h = tt
constant_quiet (tree.address p) h = part_quiet p h
constant_quiet (tree.decay t n p) h = way_quiet (tree.decay t n p) h
constant_quiet (tree.move t back a b) h = way_quiet (tree.move t back a b) h
constant_quiet _ h = absurd cc

-- ---- it takes no local variable's address

neither_is : (a b : Bool) → a ≡ false → b ≡ false → (a || b) ≡ false
neither_is true b e f = absurd cc
neither_is false b e f = f

module _ (k : ℕ) where
  number_global : (e : Expr) → is_number e ≡ true → addresses.in_expr (Local k) e ≡ false
  number_global (tree.number t n) h = refl
  number_global _ h = absurd cc

  mutual
    part_global : (p : Place) → is_part p ≡ true → addresses.in_place (Local k) p ≡ false
    part_global (of x) h = refl
    part_global (member p n m) h = part_global p h
    part_global (deref e) h = way_global e h

    way_global : (e : Expr) → is_way e ≡ true → addresses.in_expr (Local k) e ≡ false
    way_global (tree.decay t n p) h = part_global p h
    way_global (tree.move t back a b) h =
        let q = both (is_way a) (is_number b) h in neither_is (addresses.in_expr (Local k) a) (addresses.in_expr (Local k) b) (way_global a q.0) (number_global b q.1)
    way_global _ h = absurd cc

  is_global : (p : Place) → is_part p ≡ true → addresses.is_of (Local k) p ≡ false
  is_global (of (Global n)) h = refl
  is_global (of (Local n)) h = absurd cc
  is_global (member p n m) h = refl
  is_global (deref e) h = refl

  constant_global : (e : Expr) → is_constant e ≡ true → addresses.in_expr (Local k) e ≡ false
  constant_global (tree.number t n) h = refl
  constant_global tree.null h = refl
  constant_global tree.no_function h = refl
  constant_global (tree.function n) h = refl
  constant_global (tree.literal n) h = refl
  constant_global (tree.address p) h = neither_is (addresses.is_of (Local k) p) (addresses.in_place (Local k) p) (is_global p h) (part_global p h)
  constant_global (tree.decay t n p) h = way_global (tree.decay t n p) h
  constant_global (tree.move t back a b) h = way_global (tree.move t back a b) h
  constant_global _ h = absurd cc

  assigned_global : (e : Expr) → assigns_constant e ≡ true → addresses.in_expr (Local k) e ≡ false
  assigned_global (tree.assign s p a) h = let q = both (is_part p) (is_constant a) h in neither_is (addresses.in_place (Local k) p) (addresses.in_expr (Local k) a) (part_global p q.0) (constant_global a q.1)
  assigned_global _ h = absurd cc

assigned_quiet : (e : Expr) → assigns_constant e ≡ true → Each IsQuiet (uses.in_expr e)
assigned_quiet (tree.assign s p a) h = let q = both (is_part p) (is_constant a) h in each_append IsQuiet (uses.in_place p) (uses.in_expr a) (part_quiet p q.0) (constant_quiet a q.1)
assigned_quiet _ h = absurd cc

known_still : (u : Typed) (us : List Use) → Each IsQuiet us → Each (IsKnown true u) us → Each (IsKnown false u) us
known_still u [] q h = tt
known_still u (calls n ∷ us) q h = absurd q.0
known_still u (names n ∷ us) q h = (h.0, known_still u us q.1 h.1)
known_still u (through t ∷ us) q h = absurd q.0
known_still u (copies n ∷ us) q h = (tt, known_still u us q.1 h.1)

-- ---- the variables have the first numbers

below_more : (k : ℕ) (ns : List ℕ) → Each (λ n. n < k) ns → Each (λ n. n < suc k) ns
below_more k [] h = tt
below_more k (n ∷ ns) h = (let lt = h.0 in omega (arith, lt), below_more k ns h.1)

all_below : (k : ℕ) → Each (λ n. n < k) (numbers k)
all_below zero = tt
all_below (suc k) = each_append (λ n. n < suc k) (numbers k) (k ∷ []) (below_more k (numbers k) (all_below k)) (omega arith, tt)

module _ (u : Typed) (well : IsWellTyped u) where
  abbrev tg : Target
  tg = start_target u

  abbrev GlobalsBelow : List ℕ → Type 0
  GlobalsBelow ns = Each (λ n. n < length u.globals) ns

  made_from : (ms : List Made) (k n : ℕ) → GlobalsBelow (variables_in ms) → Fits (gives_code tg k ms n) → AreMade u ms
  made_from [] k n h fit = tt
  made_from (tree.global x ss ∷ ms) k n h fit =
      let t = get_or u.globals x void in
      let at = slice_get-get_or u.globals x void h.0 in
      let a = values tg ss in
      let b = gives_code tg k ms in (
        (t, at, small_slot u.structs well.laid_out (λ n l e. not_empty l.members (well.structs n l e).0) t (all_at (IsObject u.structs) u.globals x t at well.globals).1),
        made_from ms k (n + length (a n).seqs) h.1 (joined_right a b n fit),
      )
  made_from (tree.text bytes ∷ ms) k n h fit =
      let v = Global (tg.globals + k) in
      let a = filled tg (one (get tg v)) bytes in
      let b = plain (get tg v ∷ Segment segment.Seal ∷ set tg v ∷ []) in
      let c = gives_code tg (suc k) ms in
      let few = bytes_fit tg (one (get tg v)) bytes n (joined_left a (b ⨾ c) n fit) in
      let m = n + length (a n).seqs in
      (omega (arith, few), made_from ms (suc k) (m + 0) h (joined_right b c m (joined_right a (b ⨾ c) n fit)))

  pub are_made : (n : ℕ) → Fits (gives_code tg 0 u.made n) → AreMade u u.made
  are_made n fit = made_from u.made 0 n (subst GlobalsBelow (sym well.variables) (all_below (length u.globals))) fit

  module _ (S : Site) (L : Linked S) (bound : ℕ) (p : HasStart S u) where
    abbrev IsTaken : ℕ → Type 0
    IsTaken x = file.in_made x u.made ≡ true

    -- a variable whose address is taken is an object
    taken_is : (taken : Variable → Bool) → ((k : ℕ) → taken (Local k) ≡ false) → ((x : ℕ) → taken (Global x) ≡ true → IsTaken x) → (v : Variable) → taken v ≡ true → tg.is_object v ≡ true
    taken_is taken none all (Local k) e = absurd (let q = none k in let z : true ≡ false = sym e ∙ q in cc)
    taken_is taken none all (Global x) e =
        right_of (is_whole (get_or u.globals x void)) (file.in_made x u.made || file.in_functions x u.functions) (left_of (file.in_made x u.made) (file.in_functions x u.functions) (all x e))

    value_given : (s : Stmt) (n : ℕ) → typed.IsGiven (still u) s → gives_constant s ≡ true → AreCallable u (uses.in_stmt s) → Each (IsKnown true u) (uses.in_stmt s) → ((x : ℕ) → addresses.in_stmt (Global x) s ≡ true → IsTaken x)
        → waits_stmt s ≤ waits_made u u.made → Fits (scheme.stmt tg [] 0 (at_body []) s n) → giving.IsGiven S L u well bound p s
    value_given (tree.perform e) n t c callable known all le fit = (
      t.0,
      t.1,
      record {
        callable = callable;
        known = known_still u (uses.in_expr e) (assigned_quiet e c) known;
        objects = taken_is (λ v. addresses.in_expr v e) (λ k. assigned_global k e c) all;
        before = omega arith;
        room = omega (arith, le);
      },
    )
    value_given (tree.fill q k bytes) n t c callable known all le fit = (
      stmt_fits tg [] 0 (at_body []) (tree.fill q k bytes) n fit,
      t.1,
      record {
        callable = callable;
        known = known_still u (uses.in_place q) (part_quiet q c) known;
        objects = taken_is (λ v. addresses.in_place v q) (λ k. part_global k q c) all;
        before = omega arith;
        room = omega (arith, le);
      },
    )
    value_given _ n t c callable known all le fit = absurd t

    values_given : (ss : List Stmt) (n : ℕ) → All (typed.IsGiven (still u)) ss → give_constants ss ≡ true → AreCallable u (uses.in_values ss) → Each (IsKnown true u) (uses.in_values ss) → ((x : ℕ) → file.in_values x ss ≡ true → IsTaken x)
        → waits_values u ss ≤ waits_made u u.made → Fits (values tg ss n) → giving.AreGiven S L u well bound p ss
    values_given [] n t c callable known all le fit = tt
    values_given (s ∷ ss) n t c callable known all le fit =
        let q = both (gives_constant s) (give_constants ss) c in
        let a = scheme.stmt tg [] 0 (at_body []) s in
        let b = values tg ss in (
          value_given s n (All-head (typed.IsGiven (still u)) s ss t) q.0 (λ m e. callable m (any_left (is_call_of m) (uses.in_stmt s) (uses.in_values ss) e)) (each_front (IsKnown true u) (uses.in_stmt s) (uses.in_values ss) known)
              (λ x e. all x (left_of (addresses.in_stmt (Global x) s) (file.in_values x ss) e)) (omega (arith, le)) (joined_left a b n fit),
          values_given ss (n + length (a n).seqs) (All-tail (typed.IsGiven (still u)) s ss t) q.1 (λ m e. callable m (any_right (is_call_of m) (uses.in_stmt s) (uses.in_values ss) e)) (each_back (IsKnown true u) (uses.in_stmt s) (uses.in_values ss) known)
              (λ x e. all x (right_of (addresses.in_stmt (Global x) s) (file.in_values x ss) e)) (omega (arith, le)) (joined_right a b n fit),
        )

    given_from : (ms : List Made) (k n : ℕ) → All (IsMade (still u)) ms → AreCallable u (uses.in_made ms) → Each (IsKnown true u) (uses.in_made ms) → ((x : ℕ) → file.in_made x ms ≡ true → IsTaken x)
        → waits_made u ms ≤ waits_made u u.made → Fits (gives_code tg k ms n) → giving.AllGiven S L u well bound p ms
    given_from [] k n t callable known all le fit = tt
    given_from (tree.global y ss ∷ ms) k n t callable known all le fit =
        let here = All-head (IsMade (still u)) (tree.global y ss) ms t in
        let a = values tg ss in
        let b = gives_code tg k ms in (
          values_given ss n here.0 here.1 (λ m e. callable m (any_left (is_call_of m) (uses.in_values ss) (uses.in_made ms) e)) (each_front (IsKnown true u) (uses.in_values ss) (uses.in_made ms) known)
              (λ x e. all x (left_of (file.in_values x ss) (file.in_made x ms) e)) (omega (arith, le)) (joined_left a b n fit),
          given_from ms k (n + length (a n).seqs) (All-tail (IsMade (still u)) (tree.global y ss) ms t) (λ m e. callable m (any_right (is_call_of m) (uses.in_values ss) (uses.in_made ms) e)) (each_back (IsKnown true u) (uses.in_values ss) (uses.in_made ms) known)
              (λ x e. all x (right_of (file.in_values x ss) (file.in_made x ms) e)) (omega (arith, le)) (joined_right a b n fit),
        )
    given_from (tree.text bytes ∷ ms) k n t callable known all le fit =
        let v = Global (tg.globals + k) in
        let a = filled tg (one (get tg v)) bytes in
        let b = plain (get tg v ∷ Segment segment.Seal ∷ set tg v ∷ []) in
        let c = gives_code tg (suc k) ms in
        let few = bytes_fit tg (one (get tg v)) bytes n (joined_left a (b ⨾ c) n fit) in
        let m = n + length (a n).seqs in
        (omega (arith, few), given_from ms (suc k) (m + 0) (All-tail (IsMade (still u)) (tree.text bytes) ms t) callable known all le (joined_right b c m (joined_right a (b ⨾ c) n fit)))

    pub are_given : (n : ℕ) → AreCallable u (uses.in_made u.made) → Each (IsKnown true u) (uses.in_made u.made) → Fits (gives_code tg 0 u.made n) → giving.AllGiven S L u well bound p u.made
    are_given n callable known fit = given_from u.made 0 n well.made callable known (λ x e. e) (omega arith) fit
