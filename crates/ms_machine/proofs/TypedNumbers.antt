-- Numeric instructions, and those on the linear memory, leave what their arrows say.
use Rattle.std.proofs.Common.{◌≡◌, ℕ, ◌+◌, ◌^◌, ◌-◌, Bool, true, false, List, ◌∷◌, ◌++◌, length, reverse, nat_le, Option, Some, Result, Ok, Err, cond, refl, sym, ap, ap₂, ◌∙◌, subst}
use Rattle.ms_num.specs.Integers as int
use Rattle.ms_num.specs.declared.arith.Arith.{Arith}
use Rattle.ms_linear.specs.Memory.{Memory, grown, loaded as linear_loaded, pages, stored as linear_stored}
use Rattle.ms_linear.specs.Values.{type_of}
use Rattle.ms_linear.specs.declared.value.Value.{Value}
use Rattle.ms_linear.specs.declared.value.Value.TheVariants as values
use Rattle.ms_module.specs.Accesses.{bits, load_bytes, store_bytes}
use Rattle.ms_module.specs.declared.access.Linear.{Linear}
use Rattle.ms_module.specs.declared.access.Linear.TheVariants.{Load, Store, Size, Grow}
use Rattle.ms_module.specs.declared.access.LoadOp.{LoadOp}
use Rattle.ms_module.specs.declared.access.LoadOp.TheVariants as loads
use Rattle.ms_module.specs.declared.access.MemArg.{MemArg}
use Rattle.ms_module.specs.declared.access.StoreOp.{StoreOp}
use Rattle.ms_module.specs.declared.access.StoreOp.TheVariants as stores
use Rattle.ms_module.specs.declared.numeric.Numeric.{Numeric}
use Rattle.ms_module.specs.declared.numeric.Numeric.TheVariants.{Eqz, Compare, Unary, Binary, Wrap, ExtendS, ExtendU}
use Rattle.ms_module.specs.declared.numeric.Width.{Width}
use Rattle.ms_module.specs.declared.numeric.Width.TheVariants.{W32, W64}
use Rattle.ms_operate.specs.Accesses.{integer as integer_value, number_of, value_of, width_of}
use Rattle.ms_operate.specs.Integers.{binary, compare}
use Rattle.ms_operate.specs.Memories.{grow_by, linear_on, load_at, may_grow, store_at}
use Rattle.ms_operate.specs.Numbers.{given, numeric_on, on_one, on_two}
use Rattle.ms_operate.specs.Effects as effects
use Rattle.ms_operate.specs.Effects.{Effect}
use Rattle.ms_operate.specs.Outcomes as operate
use Rattle.ms_operate.specs.Outcomes.{Outcome}
use Rattle.ms_operate.specs.declared.trap.Trap.TheVariants as traps
use Rattle.ms_rules.specs.Instructions.{integer, linear_type, loaded, numeric_type, stored}
use Rattle.ms_rules.specs.Typing.{types}
use Rattle.ms_types.specs.declared.types.ValType.{ValType}
use Rattle.ms_types.specs.declared.types.ValType.TheVariants.{I32, I64}
use Rattle.ms_machine.specs.Typing.{types_of}
use Rattle.ms_machine.proofs.TypedValues.{i32_top, i64_top}

-- ---- numbers as values

pub number_top : (w : Width) (vs : List Value) (ts : List ValType) → types_of vs ≡ integer w ∷ ts → (v : Value) × (n : ℕ) × (rest : List Value) × (vs ≡ v ∷ rest) × (number_of w v ≡ Some n) × (types_of rest ≡ ts)
number_top W32 vs ts e = let n = i32_top vs ts e in (values.I32 n.0, n.0, n.1, n.2, refl, n.3)
number_top W64 vs ts e = let n = i64_top vs ts e in (values.I64 n.0, n.0, n.1, n.2, refl, n.3)

integer_typed : (w : Width) (n : ℕ) → type_of (integer_value w n) ≡ integer w
integer_typed W32 n = refl
integer_typed W64 n = refl

pub loaded_typed : (op : LoadOp) (n : ℕ) → type_of (value_of op n) ≡ loaded op
loaded_typed loads.I32Load n = refl
loaded_typed loads.I64Load n = refl
loaded_typed loads.I32Load8S n = refl
loaded_typed loads.I32Load8U n = refl
loaded_typed loads.I32Load16S n = refl
loaded_typed loads.I32Load16U n = refl
loaded_typed loads.I64Load8S n = refl
loaded_typed loads.I64Load8U n = refl
loaded_typed loads.I64Load16S n = refl
loaded_typed loads.I64Load16U n = refl
loaded_typed loads.I64Load32S n = refl
loaded_typed loads.I64Load32U n = refl

pub stored_typed : (op : StoreOp) → stored op ≡ integer (width_of op)
stored_typed stores.I32Store = refl
stored_typed stores.I64Store = refl
stored_typed stores.I32Store8 = refl
stored_typed stores.I32Store16 = refl
stored_typed stores.I64Store8 = refl
stored_typed stores.I64Store16 = refl
stored_typed stores.I64Store32 = refl

-- ---- numeric instructions

-- the operands that are left have these types
abbrev pub GivesTyped : List ValType → Outcome → Type 0
GivesTyped ts (operate.Gives vs) = types_of vs ≡ ts
GivesTyped ts (operate.Trap trap) = Unit {0}
GivesTyped ts operate.Stuck = ⊥

given_typed : (w : Width) (rest : List Value) (ts : List ValType) (r : Result ℕ Arith) → types_of rest ≡ ts → GivesTyped (integer w ∷ ts) (given w rest r)
given_typed w rest ts (Ok n) e = ap₂ (λ t l. t ∷ l) (integer_typed w n) e
given_typed w rest ts (Err x) e = tt

one_typed : (i : Numeric) (f : ℕ → Value) (w : Width) (vs : List Value) (t : ValType) (ts : List ValType) → ((v : Value) (rest : List Value) → numeric_on i (v ∷ rest) ≡ on_one f (number_of w v) rest) → ((n : ℕ) → type_of (f n) ≡ t) → types_of vs ≡ integer w ∷ ts → GivesTyped (t ∷ ts) (numeric_on i vs)
one_typed i f w vs t ts is typed e =
    let a = number_top w vs ts e in
    subst (λ l. GivesTyped (t ∷ ts) (numeric_on i l)) (sym a.3)
    (subst (GivesTyped (t ∷ ts)) (sym (is a.0 a.2))
    (subst (λ o. GivesTyped (t ∷ ts) (on_one f o a.2)) (sym a.4)
    (ap₂ (λ t l. t ∷ l) (typed a.1) a.5)))

two_typed : (i : Numeric) (f : List Value → ℕ → ℕ → Outcome) (w : Width) (vs : List Value) (t : ValType) (ts : List ValType) → ((v u : Value) (rest : List Value) → numeric_on i (v ∷ u ∷ rest) ≡ on_two (f rest) (number_of w u) (number_of w v)) → ((a b : ℕ) (rest : List Value) → types_of rest ≡ ts → GivesTyped (t ∷ ts) (f rest a b)) → types_of vs ≡ integer w ∷ integer w ∷ ts → GivesTyped (t ∷ ts) (numeric_on i vs)
two_typed i f w vs t ts is typed e =
    let b = number_top w vs (integer w ∷ ts) e in
    let a = number_top w b.2 ts b.5 in
    subst (λ l. GivesTyped (t ∷ ts) (numeric_on i l)) (sym (b.3 ∙ ap (λ l. b.0 ∷ l) a.3))
    (subst (GivesTyped (t ∷ ts)) (sym (is b.0 a.0 a.2))
    (subst (λ o. GivesTyped (t ∷ ts) (on_two (f a.2) o (number_of w b.0))) (sym a.4)
    (subst (λ o. GivesTyped (t ∷ ts) (on_two (f a.2) (Some a.1) o)) (sym b.4)
    (typed a.1 b.1 a.2 a.5))))

pub numeric_typed : (i : Numeric) (vs : List Value) (r : List ValType) → types_of vs ≡ reverse (numeric_type i).params ++ r → GivesTyped (types (numeric_type i).result ++ r) (numeric_on i vs)
numeric_typed (Eqz w) vs r e = one_typed (Eqz w) _ w vs I32 r (λ v rest. refl) (λ n. refl) e
numeric_typed (Unary w op) vs r e = one_typed (Unary w op) _ w vs (integer w) r (λ v rest. refl) (λ n. integer_typed w _) e
numeric_typed Wrap vs r e = one_typed Wrap _ W64 vs I32 r (λ v rest. refl) (λ n. refl) e
numeric_typed ExtendS vs r e = one_typed ExtendS _ W32 vs I64 r (λ v rest. refl) (λ n. refl) e
numeric_typed ExtendU vs r e = one_typed ExtendU _ W32 vs I64 r (λ v rest. refl) (λ n. refl) e
numeric_typed (Compare w op) vs r e = two_typed (Compare w op) (λ rest a b. operate.Gives (values.I32 (int.truth (compare op (bits w) a b)) ∷ rest)) w vs I32 r (λ v u rest. refl) (λ a b rest h. ap (λ l. I32 ∷ l) h) e
numeric_typed (Binary w op) vs r e = two_typed (Binary w op) (λ rest a b. given w rest (binary op (bits w) a b)) w vs (integer w) r (λ v u rest. refl) (λ a b rest h. given_typed w rest r (binary op (bits w) a b) h) e

-- ---- the linear memory

abbrev pub EffectTyped : List ValType → Effect → Type 0
EffectTyped ts (effects.Gives vs m) = types_of vs ≡ ts
EffectTyped ts (effects.Trap trap) = Unit {0}
EffectTyped ts effects.Stuck = ⊥

either_typed : (ts : List ValType) (b : Bool) (x y : Effect) → EffectTyped ts x → EffectTyped ts y → EffectTyped ts (cond b x y)
either_typed ts true x y h g = h
either_typed ts false x y h g = g

load_typed : (op : LoadOp) (arg : MemArg) (m : Memory) (rest : List Value) (base : Option ℕ) (n : ℕ) (r : List ValType) → base ≡ Some n → types_of rest ≡ r → EffectTyped (loaded op ∷ r) (load_at op arg m rest base)
load_typed op arg m rest base n r is e =
    subst (λ o. EffectTyped (loaded op ∷ r) (load_at op arg m rest o)) (sym is)
    (either_typed (loaded op ∷ r) (nat_le (n + arg.offset + load_bytes op) (length m.bytes)) (effects.Gives (value_of op (linear_loaded m (n + arg.offset) (load_bytes op)) ∷ rest) m) (effects.Trap traps.Linear)
    (ap₂ (λ t l. t ∷ l) (loaded_typed op (linear_loaded m (n + arg.offset) (load_bytes op))) e)
    tt)

store_typed : (op : StoreOp) (arg : MemArg) (m : Memory) (rest : List Value) (base value : Option ℕ) (n x : ℕ) (r : List ValType) → base ≡ Some n → value ≡ Some x → types_of rest ≡ r → EffectTyped r (store_at op arg m rest base value)
store_typed op arg m rest base value n x r is gives e =
    subst (λ o. EffectTyped r (store_at op arg m rest o value)) (sym is)
    (subst (λ o. EffectTyped r (store_at op arg m rest (Some n) o)) (sym gives)
    (either_typed r (nat_le (n + arg.offset + store_bytes op) (length m.bytes)) (effects.Gives rest (linear_stored m (n + arg.offset) (store_bytes op) x)) (effects.Trap traps.Linear) e tt))

grow_typed : (m : Memory) (rest : List Value) (size : Option ℕ) (n : ℕ) (r : List ValType) → size ≡ Some n → types_of rest ≡ r → EffectTyped (I32 ∷ r) (grow_by m rest size)
grow_typed m rest size n r is e =
    subst (λ o. EffectTyped (I32 ∷ r) (grow_by m rest o)) (sym is)
    (either_typed (I32 ∷ r) (may_grow m n) (effects.Gives (values.I32 (pages m) ∷ rest) (grown m n)) (effects.Gives (values.I32 (2 ^ 32 - 1) ∷ rest) m) (ap (λ l. I32 ∷ l) e) (ap (λ l. I32 ∷ l) e))

pub linear_typed : (i : Linear) (m : Memory) (vs : List Value) (r : List ValType) → types_of vs ≡ reverse (linear_type i).params ++ r → EffectTyped (types (linear_type i).result ++ r) (linear_on i m vs)
linear_typed (Load op arg) m vs r e =
    let a = number_top W32 vs r e in
    subst (λ l. EffectTyped (loaded op ∷ r) (linear_on (Load op arg) m l)) (sym a.3) (load_typed op arg m a.2 (number_of W32 a.0) a.1 r a.4 a.5)
linear_typed (Store op arg) m vs r e =
    let x = number_top (width_of op) vs (I32 ∷ r) (e ∙ ap (λ t. t ∷ I32 ∷ r) (stored_typed op)) in
    let a = number_top W32 x.2 r x.5 in
    subst (λ l. EffectTyped r (linear_on (Store op arg) m l)) (sym (x.3 ∙ ap (λ l. x.0 ∷ l) a.3))
    (store_typed op arg m a.2 (number_of W32 a.0) (number_of (width_of op) x.0) a.1 x.1 r a.4 x.4 a.5)
linear_typed Size m vs r e = ap (λ l. I32 ∷ l) e
linear_typed Grow m vs r e =
    let a = number_top W32 vs r e in
    subst (λ l. EffectTyped (I32 ∷ r) (linear_on Grow m l)) (sym a.3) (grow_typed m a.2 (number_of W32 a.0) a.1 r a.4 a.5)
