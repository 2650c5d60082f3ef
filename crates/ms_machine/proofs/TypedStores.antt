-- What a function's indices name in a well-typed store, and changes of a store that typing doesn't see.
use Rattle.std.proofs.Common.{◌≡◌, ℕ, zero, suc, ◌<◌, Bool, true, false, List, [], ◌∷◌, length, map, slice_get, slice_set, Option, Some, None, Result, Ok, Err, cond, refl, sym, ap, ◌∙◌, subst, arith}
use Rattle.ms_linear.specs.declared.global.GlobalInst.{GlobalInst}
use Rattle.ms_linear.specs.declared.table.CallTrap.{CallTrap}
use Rattle.ms_linear.specs.declared.table.CallTrap.TheVariants.{Signature}
use Rattle.ms_linear.specs.declared.table.Entry.{Entry}
use Rattle.ms_linear.specs.declared.table.FuncRef.{FuncRef}
use Rattle.ms_linear.specs.Memory.{Memory as Linear}
use Rattle.ms_linear.specs.Table.{Table, same_sig, target_in, target_of}
use Rattle.ms_linear.specs.Values.{global_type_of, type_of}
use Rattle.ms_linear.specs.declared.value.Value.{Value}
use Rattle.ms_linear.proofs.Targets.{same_sig-is}
use Rattle.ms_task.specs.declared.func.FuncInst.{FuncInst}
use Rattle.ms_types.specs.declared.types.FuncType.{FuncType}
use Rattle.ms_types.specs.declared.types.GlobalType.{GlobalType}
use Rattle.ms_machine.specs.Store.{Store, at, global_address, memory_address, number_of_instance, table_address, type_at, with_globals, with_memories}
use Rattle.ms_machine.specs.declared.store.Instance.{Instance}
use Rattle.ms_machine.specs.Typing.{EntryTyped, InstanceTyped, IsBelow, Outline, StoreTyped, any_size, context_at, context_in, context_inside, global_type, outline_of}
use Rattle.ms_machine.proofs.TypedCalls.{instance_at}
use Rattle.ms_machine.proofs.TypedValues.{all_at, get_mapped, get_within, set_mapped}

-- ---- the instance

instance_typed : (o : Outline) → StoreTyped o → (n : Option ℕ) (i : Instance) → at o.instances n ≡ Some i → InstanceTyped o i
instance_typed o store None i e = cc
instance_typed o store (Some n) i e = store.instances n i e

-- ---- globals

globals_inside : (o : Outline) (i : Option Instance) (f : Option FuncInst) → (context_inside o i f).globals ≡ (context_in o i).globals
globals_inside o i None = refl
globals_inside o i (Some f) = refl

global_in : (o : Outline) → StoreTyped o → (n : Option ℕ) (i : Option Instance) → at o.instances n ≡ i → (x : ℕ) (g : GlobalType) → slice_get (context_in o i).globals x ≡ Some g → (a : ℕ) × (global_address i x ≡ Some a) × (slice_get o.globals a ≡ Some g)
global_in o store n None is x g e = cc
global_in o store n (Some i) is x g e =
    let typed = instance_typed o store n i is in
    let a = get_mapped (λ a. global_type (slice_get o.globals a)) i.globals x g e in
    let there = get_within o.globals a.0 (all_at (λ a. a < length o.globals) i.globals x a.0 typed.globals a.1) in
    (a.0, a.1, there.1 ∙ ap Some (sym (ap global_type there.1) ∙ a.2))

pub global_named : (o : Outline) → StoreTyped o → (f x : ℕ) (g : GlobalType) → slice_get (context_at o f).globals x ≡ Some g → (a : ℕ) × (global_address (instance_at o f) x ≡ Some a) × (slice_get o.globals a ≡ Some g)
unfolding context_at
global_named o store f x g e =
    global_in o store (number_of_instance (slice_get o.funcs f)) (instance_at o f) refl x g (ap (λ l. slice_get l x) (sym (globals_inside o (instance_at o f) (slice_get o.funcs f))) ∙ e)

-- ---- the linear memory

sized : (n : ℕ) (address : Option ℕ) → 0 < length (any_size address) → IsBelow n address → (a : ℕ) × (address ≡ Some a) × (a < n)
sized n None some below = absurd (omega (arith, some))
sized n (Some a) some below = (a, refl, below)

memories_inside : (o : Outline) (i : Option Instance) (f : Option FuncInst) → (context_inside o i f).memories ≡ (context_in o i).memories
memories_inside o i None = refl
memories_inside o i (Some f) = refl

memory_in : (o : Outline) → StoreTyped o → (n : Option ℕ) (i : Option Instance) → at o.instances n ≡ i → 0 < length (context_in o i).memories → (a : ℕ) × (memory_address i ≡ Some a) × (a < o.memories)
memory_in o store n None is some = absurd (omega (arith, some))
memory_in o store n (Some i) is some = sized o.memories i.memory some (instance_typed o store n i is).memory

pub memory_named : (o : Outline) → StoreTyped o → (f : ℕ) → 0 < length (context_at o f).memories → (a : ℕ) × (memory_address (instance_at o f) ≡ Some a) × (a < o.memories)
unfolding context_at
memory_named o store f some =
    memory_in o store (number_of_instance (slice_get o.funcs f)) (instance_at o f) refl (subst (λ l. 0 < length l) (memories_inside o (instance_at o f) (slice_get o.funcs f)) some)

-- ---- the table, and types

tables_inside : (o : Outline) (i : Option Instance) (f : Option FuncInst) → (context_inside o i f).tables ≡ (context_in o i).tables
tables_inside o i None = refl
tables_inside o i (Some f) = refl

table_in : (o : Outline) → StoreTyped o → (n : Option ℕ) (i : Option Instance) → at o.instances n ≡ i → 0 < length (context_in o i).tables → (a : ℕ) × (table_address i ≡ Some a) × (a < length o.tables)
table_in o store n None is some = absurd (omega (arith, some))
table_in o store n (Some i) is some = sized (length o.tables) i.table some (instance_typed o store n i is).table

pub table_named : (o : Outline) → StoreTyped o → (f : ℕ) → 0 < length (context_at o f).tables → (a : ℕ) × (table : Table) × (table_address (instance_at o f) ≡ Some a) × (slice_get o.tables a ≡ Some table)
unfolding context_at
table_named o store f some =
    let a = table_in o store (number_of_instance (slice_get o.funcs f)) (instance_at o f) refl (subst (λ l. 0 < length l) (tables_inside o (instance_at o f) (slice_get o.funcs f)) some) in
    let table = get_within o.tables a.0 a.2 in
    (a.0, table.0, a.1, table.1)

sigs_inside : (o : Outline) (i : Option Instance) (f : Option FuncInst) → (context_inside o i f).sigs ≡ (context_in o i).sigs
sigs_inside o i None = refl
sigs_inside o i (Some f) = refl

sig_in : (o : Outline) (i : Option Instance) (x : ℕ) (sig : FuncType) → slice_get (context_in o i).sigs x ≡ Some sig → type_at i x ≡ Some sig
sig_in o None x sig e = cc
sig_in o (Some i) x sig e = e

pub sig_named : (o : Outline) (f x : ℕ) (sig : FuncType) → slice_get (context_at o f).sigs x ≡ Some sig → type_at (instance_at o f) x ≡ Some sig
unfolding context_at
sig_named o f x sig e =
    sig_in o (instance_at o f) x sig (ap (λ l. slice_get l x) (sym (sigs_inside o (instance_at o f) (slice_get o.funcs f))) ∙ e)

-- a call through a table goes to a function of the type
abbrev pub TargetTyped : Outline → FuncType → Result FuncRef CallTrap → Type 0
TargetTyped o sig (Ok f) = (g : FuncInst) × (slice_get o.funcs f.address ≡ Some g) × (g.ty ≡ sig)
TargetTyped o sig (Err trap) = Unit {0}

target_in-typed : (o : Outline) (sig : FuncType) (entry : Option (Option Entry)) → ((e : Option Entry) → entry ≡ Some e → EntryTyped o e) → TargetTyped o sig (target_in sig entry)
target_in-typed o sig None typed = tt
target_in-typed o sig (Some None) typed = tt
target_in-typed o sig (Some (Some e)) typed = by (same_sig e.sig sig) (same_sig-is e.sig sig) where
  by : (b : Bool) → (b ≡ true → e.sig ≡ sig) → TargetTyped o sig (cond b (Ok e.func) (Err Signature))
  by true same = let f = typed (Some e) refl in (f.0, f.1, f.2 ∙ same refl)
  by false same = tt

pub target_typed : (o : Outline) → StoreTyped o → (a : ℕ) (table : Table) → slice_get o.tables a ≡ Some table → (i : ℕ) (sig : FuncType) → TargetTyped o sig (target_of table.entries i sig)
target_typed o store a table there i sig =
    target_in-typed o sig (slice_get table.entries i) (λ e is. all_at (EntryTyped o) table.entries i e (store.tables a table there) is)

-- ---- changes

length-slice_set : {A : Type 0} (xs : List A) (x : ℕ) (a : A) → length (slice_set xs x a) ≡ length xs
length-slice_set [] x a = refl
length-slice_set (y ∷ xs) zero a = refl
length-slice_set (y ∷ xs) (suc x) a = ap suc (length-slice_set xs x a)

pub same_memories : (s : Store) (a : ℕ) (m : Linear) → outline_of (with_memories s (slice_set s.memories a m)) ≡ outline_of s
same_memories s a m = ap (λ (n : ℕ). record { funcs = s.funcs; instances = s.instances; tables = s.tables; memories = n; globals = map global_type_of s.globals }) (length-slice_set s.memories a m)

pub same_globals : (s : Store) (a : ℕ) (g : GlobalInst) (v : Value) → slice_get s.globals a ≡ Some g → type_of v ≡ type_of g.value → outline_of (with_globals s (slice_set s.globals a (record { value = v; mutable = g.mutable }))) ≡ outline_of s
same_globals s a g v there same =
    let new : GlobalInst = record { value = v; mutable = g.mutable } in
    let at : slice_get (map global_type_of s.globals) a ≡ Some (global_type_of new) = mapped s.globals a g there ∙ ap (λ t. Some (record { ty = t; mutable = g.mutable })) (sym same) in
    ap (λ (l : List GlobalType). record { funcs = s.funcs; instances = s.instances; tables = s.tables; memories = length s.memories; globals = l }) (set_mapped global_type_of s.globals a new at)
  where
    mapped : (gs : List GlobalInst) (a : ℕ) (g : GlobalInst) → slice_get gs a ≡ Some g → slice_get (map global_type_of gs) a ≡ Some (global_type_of g)
    mapped [] a g e = cc
    mapped (x ∷ gs) zero g e = cc
    mapped (x ∷ gs) (suc a) g e = mapped gs a g e
