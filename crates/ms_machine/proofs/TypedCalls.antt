-- What the context of a function names in the store, and calls.
use Rattle.std.proofs.Common.{◌≡◌, ℕ, ◌-◌, ◌≤◌, Bool, true, false, List, [], ◌∷◌, ◌++◌, length, map, reverse, drop, take, nat_lt, slice_get, Option, Some, None, cond, refl, sym, ap, ◌∙◌, subst, arith, append_assoc, length-append}
use Rattle.std.proofs.lemmas.Bool.{le-leb}
use Rattle.std.proofs.lemmas.List.{drop-map, length-reverse, map-append, reverse-reverse, take-map}
use Rattle.ms_linear.specs.Values.{default_of, type_of}
use Rattle.ms_linear.specs.declared.value.Value.{Value}
use Rattle.ms_rules.specs.Typing.{Typed, types}
use Rattle.ms_task.specs.Control.{Stuck, Moved, To, TooDeep, call_on, deepest, enter, entered}
use Rattle.ms_task.specs.declared.func.FuncInst.{FuncInst}
use Rattle.ms_task.specs.Thread.{Activation, Frame, Item, body_in, depth_of, result_of, sequence, thread}
use Rattle.ms_types.specs.declared.types.FuncType.{FuncType}
use Rattle.ms_types.specs.declared.types.ValType.{ValType}
use Rattle.ms_machine.specs.Store.{at, func_address, number_of_instance}
use Rattle.ms_machine.specs.declared.store.Instance.{Instance}
use Rattle.ms_machine.specs.Typing.{FrameTyped, Outline, StoreTyped, ThreadTyped, WorkTyped, context_at, context_in, context_inside, func_type, types_of}
use Rattle.ms_machine.proofs.TypedBlocks.{TypedAt, opened}
use Rattle.ms_machine.proofs.TypedValues.{defaults_typed, drop_seam, get_mapped, height, take_seam, types_of-reverse}
use Rattle.ms_machine.proofs.TypedWork.{MovedTyped, sequence_typed}

-- ---- inside a function

-- the instance of the function of an address
abbrev pub instance_at : Outline → ℕ → Option Instance
instance_at o f = at o.instances (number_of_instance (slice_get o.funcs f))

pub locals_of : (o : Outline) (f : ℕ) (g : FuncInst) → slice_get o.funcs f ≡ Some g → (context_at o f).locals ≡ g.ty.params ++ g.locals
unfolding context_at
locals_of o f g found = ap (λ x. (context_inside o (instance_at o f) x).locals) found

pub returns_of : (o : Outline) (f : ℕ) (g : FuncInst) → slice_get o.funcs f ≡ Some g → (context_at o f).returns ≡ Some (result_of g)
unfolding context_at
returns_of o f g found = ap (λ x. (context_inside o (instance_at o f) x).returns) found

-- no function, no locals and nowhere to return to
pub no_locals : (o : Outline) (f : ℕ) → slice_get o.funcs f ≡ None → (context_at o f).locals ≡ []
unfolding context_at
no_locals o f none = ap (λ x. (context_inside o (at o.instances (number_of_instance x)) x).locals) none

pub no_returns : (o : Outline) (f : ℕ) → slice_get o.funcs f ≡ None → (context_at o f).returns ≡ None
unfolding context_at
no_returns o f none = ap (λ x. (context_inside o (at o.instances (number_of_instance x)) x).returns) none

-- what the indices of a call name
funcs_inside : (o : Outline) (i : Option Instance) (f : Option FuncInst) → (context_inside o i f).funcs ≡ (context_in o i).funcs
funcs_inside o i None = refl
funcs_inside o i (Some f) = refl

func_in : (o : Outline) (i : Option Instance) (x : ℕ) (sig : FuncType) → slice_get (context_in o i).funcs x ≡ Some (Some sig) → (a : ℕ) × (g : FuncInst) × (func_address i x ≡ Some a) × (slice_get o.funcs a ≡ Some g) × (g.ty ≡ sig)
func_in o None x sig e = cc
func_in o (Some i) x sig e =
    let a = get_mapped (λ a. func_type (slice_get o.funcs a)) i.funcs x (Some sig) e in
    let g = there (slice_get o.funcs a.0) a.2 in
    (a.0, g.0, a.1, g.1, g.2)
  where
    there : (f : Option FuncInst) → func_type f ≡ Some sig → (g : FuncInst) × (f ≡ Some g) × (g.ty ≡ sig)
    there None e = cc
    there (Some g) e = (g, refl, cc)

pub func_named : (o : Outline) (f x : ℕ) (sig : FuncType) → slice_get (context_at o f).funcs x ≡ Some (Some sig) → (a : ℕ) × (g : FuncInst) × (func_address (instance_at o f) x ≡ Some a) × (slice_get o.funcs a ≡ Some g) × (g.ty ≡ sig)
unfolding context_at
func_named o f x sig e =
    func_in o (instance_at o f) x sig (ap (λ l. slice_get l x) (sym (funcs_inside o (instance_at o f) (slice_get o.funcs f))) ∙ e)

-- ---- calls

-- one value or none is what a function leaves
pub result_is : (g : FuncInst) (k : Option ValType) → g.ty.results ≡ types k → result_of g ≡ k
result_is g k e = ap (λ l. slice_get l 0) e ∙ first k where
  first : (k : Option ValType) → slice_get (types k) 0 ≡ k
  first None = refl
  first (Some t) = refl

pub body_typed : (o : Outline) → StoreTyped o → (f : ℕ) (g : FuncInst) → slice_get o.funcs f ≡ Some g → TypedAt o f (result_of g ∷ []) 0 (result_of g)
body_typed o store f g found =
    subst (λ x. Typed (context_at o f) (body_in x) (result_of g ∷ []) 0 (result_of g)) (sym found) (store.funcs f g found).body

entered_typed : (o : Outline) → StoreTyped o → (fr : Frame) (vs : List Value) (w : List Item) (f : ℕ) (g : FuncInst) (r below : List ValType) → slice_get o.funcs f ≡ Some g → FrameTyped o fr → types_of vs ≡ (reverse g.ty.params ++ r) ++ below → WorkTyped o fr.function w (types (result_of g) ++ r) below → ThreadTyped o (entered o.funcs f g (thread fr vs w))
entered_typed o store fr vs w f g r below found frame operands work =
    let ps = g.ty.params in
    let n = length ps in
    let long : n ≡ length (reverse ps) = sym (length-reverse ps) in
    let flat : types_of vs ≡ reverse ps ++ (r ++ below) = operands ∙ append_assoc (reverse ps) r below in
    let high : length vs - n ≡ length (r ++ below) = omega (arith, height vs (reverse ps ++ (r ++ below)) flat, length-append (reverse ps) (r ++ below), long) in
    let left : types_of (drop n vs) ≡ r ++ below = sym (drop-map type_of n vs) ∙ ap (drop n) flat ∙ drop_seam n (reverse ps) (r ++ below) long in
    let taken : types_of (take n vs) ≡ reverse ps = sym (take-map type_of n vs) ∙ ap (take n) flat ∙ ap (λ k. take k (reverse ps ++ (r ++ below))) long ∙ take_seam (reverse ps) (r ++ below) in
    let arguments : types_of (reverse (take n vs)) ≡ ps = types_of-reverse (take n vs) ∙ ap reverse taken ∙ reverse-reverse ps in
    let locals : types_of (reverse (take n vs) ++ map default_of g.locals) ≡ (context_at o f).locals =
    map-append type_of (reverse (take n vs)) (map default_of g.locals) ∙ ap (λ l. l ++ types_of (map default_of g.locals)) arguments ∙ ap (λ l. ps ++ l) (defaults_typed g.locals) ∙ sym (locals_of o f g found) in
    record {
      ts = [];
      below = r ++ below;
      operands = left;
      frame = locals;
      work = sequence_typed o f (sequence o.funcs f 0) (Activation (result_of g) (length vs - n) fr ∷ w) (result_of g ∷ []) [] (types (result_of g)) (r ++ below) refl
          (opened o f (result_of g ∷ []) 0 (result_of g) (body_typed o store f g found))
          (r, below, refl, high, refl, returns_of o f g found, frame, work);
    }

either_typed : (o : Outline) (b : Bool) (m n : Moved) → MovedTyped o m → MovedTyped o n → MovedTyped o (cond b m n)
either_typed o true m n a e = a
either_typed o false m n a e = e

pub call_typed : (o : Outline) → StoreTyped o → (fr : Frame) (vs : List Value) (w : List Item) (f : ℕ) (g : FuncInst) (k : Option ValType) (r below : List ValType) → slice_get o.funcs f ≡ Some g → g.ty.results ≡ types k → FrameTyped o fr → types_of vs ≡ (reverse g.ty.params ++ r) ++ below → WorkTyped o fr.function w (types k ++ r) below → MovedTyped o (call_on o.funcs f (thread fr vs w))
call_typed o store fr vs w f g k r below found results frame operands work =
    let t = thread fr vs w in
    let flat : types_of vs ≡ reverse g.ty.params ++ (r ++ below) = operands ∙ append_assoc (reverse g.ty.params) r below in
    let room : length g.ty.params ≤ length vs = omega (arith, height vs (reverse g.ty.params ++ (r ++ below)) flat, length-append (reverse g.ty.params) (r ++ below), length-reverse g.ty.params) in
    let left = subst (λ x. WorkTyped o fr.function w (types x ++ r) below) (sym (result_is g k results)) work in
    either_typed o (nat_lt (depth_of w) deepest) (enter o.funcs f (slice_get o.funcs f) t) TooDeep
    (subst (λ x. MovedTyped o (enter o.funcs f x t)) (sym found)
    (subst (λ b. MovedTyped o (cond b (To (entered o.funcs f g t)) Stuck)) (sym (le-leb _ _ room)) (entered_typed o store fr vs w f g r below found frame operands left)))
    tt
