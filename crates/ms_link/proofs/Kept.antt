-- What is typed stays typed where the store goes on: what stood at an address stands there.
use Rattle.std.proofs.Common.{◌≡◌, ◌≤◌, ◌<◌, ℕ, List, [], ◌∷◌, ◌++◌, All, length, map, slice_get, Option, Some, None, sym, ap, ◌∙◌, subst, arith}
use Rattle.std.proofs.lemmas.List.Elements.{All-weaker}
use Rattle.ms_rules.specs.Context.{Context, inside}
use Rattle.ms_rules.specs.Typing.{Typed}
use Rattle.ms_task.specs.declared.func.FuncInst.{FuncInst}
use Rattle.ms_task.specs.Thread.{result_of}
use Rattle.ms_types.specs.declared.types.FuncType.{FuncType}
use Rattle.ms_types.specs.declared.types.GlobalType.{GlobalType}
use Rattle.ms_machine.specs.declared.store.Instance.{Instance}
use Rattle.ms_machine.specs.Store.{at, number_of_instance}
use Rattle.ms_machine.specs.Typing.{FuncTyped, InstanceTyped, IsBelow, Outline, any_size, context_at, context_in, context_inside, func_type, global_type}
use Rattle.ms_link.proofs.Standing.{GoesOn, get_on, map_on}

pub record Extends (o o' : Outline) : Type 0 where
  pub funcs : GoesOn o.funcs o'.funcs
  pub instances : GoesOn o.instances o'.instances
  pub globals : GoesOn o.globals o'.globals
  pub funcs_more : length o.funcs ≤ length o'.funcs
  pub instances_more : length o.instances ≤ length o'.instances
  pub tables_more : length o.tables ≤ length o'.tables
  pub memories_more : o.memories ≤ o'.memories
  pub globals_more : length o.globals ≤ length o'.globals

-- ---- instances

pub below_more : (n m : ℕ) → n ≤ m → (a : Option ℕ) → IsBelow n a → IsBelow m a
below_more n m le None h = tt
below_more n m le (Some a) h = omega (arith, le, h)

all_below : (n m : ℕ) → n ≤ m → (ns : List ℕ) → All (λ a. a < n) ns → All (λ a. a < m) ns
all_below n m le ns all = All-weaker (λ a. a < n) (λ a. a < m) (λ a lt. omega (arith, le, lt)) ns all

pub instance_kept : (o o' : Outline) → Extends o o' → (i : Instance) → InstanceTyped o i → InstanceTyped o' i
instance_kept o o' more i h = record {
  funcs = all_below (length o.funcs) (length o'.funcs) more.funcs_more i.funcs h.funcs;
  table = below_more (length o.tables) (length o'.tables) more.tables_more i.table h.table;
  memory = below_more o.memories o'.memories more.memories_more i.memory h.memory;
  globals = all_below (length o.globals) (length o'.globals) more.globals_more i.globals h.globals;
}

-- ---- contexts

abbrev with_names : Instance → List (Option FuncType) → List GlobalType → Context
with_names i fs gs = record { sigs = i.types; funcs = fs; tables = any_size i.table; memories = any_size i.memory; globals = gs; locals = []; returns = None }

pub context_kept : (o o' : Outline) → Extends o o' → (i : Instance) → InstanceTyped o i → context_in o' (Some i) ≡ context_in o (Some i)
context_kept o o' more i h =
    let funcs = map_on func_type o.funcs o'.funcs more.funcs i.funcs h.funcs in
    let globals = map_on global_type o.globals o'.globals more.globals i.globals h.globals in
    ap (λ fs. with_names i fs (map (λ a. global_type (slice_get o'.globals a)) i.globals)) funcs
    ∙ ap (λ gs. with_names i (map (λ a. func_type (slice_get o.funcs a)) i.funcs) gs) globals

-- inside a function of an instance
abbrev pub inside_of : Outline → Instance → FuncInst → Context
inside_of o i f = inside (context_in o (Some i)) (f.ty.params ++ f.locals) (result_of f)

pub context_is : (o : Outline) (a : ℕ) (f : FuncInst) (i : Instance) → slice_get o.funcs a ≡ Some f → slice_get o.instances f.instance ≡ Some i → context_at o a ≡ inside_of o i f
unfolding context_at
context_is o a f i found of =
    ap (λ x. context_inside o (at o.instances (number_of_instance x)) x) found ∙ ap (λ j. context_inside o j (Some f)) of

-- ---- functions

pub func_kept : (o o' : Outline) → Extends o o' → (a : ℕ) (f : FuncInst) (i : Instance) → slice_get o.funcs a ≡ Some f → slice_get o.instances f.instance ≡ Some i → InstanceTyped o i → FuncTyped o a f → FuncTyped o' a f
func_kept o o' more a f i found of typed h =
    let now = context_is o a f i found of in
    let later = context_is o' a f i (get_on o.funcs o'.funcs a f more.funcs found) (get_on o.instances o'.instances f.instance i more.instances of) in
    let kept = ap (λ c. inside c (f.ty.params ++ f.locals) (result_of f)) (context_kept o o' more i typed) in
    record {
      instance = let lt = h.instance in let le = more.instances_more in omega arith;
      host = h.host;
      results = h.results;
      body = subst (λ c. Typed c f.body (result_of f ∷ []) 0 (result_of f)) (now ∙ sym kept ∙ sym later) h.body;
    }
