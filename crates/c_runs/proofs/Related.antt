-- Variables and locals; and what is known of a function that is carried out.
use Rattle.ms_machine.specs.Running.{AreBytes}
use Rattle.std.proofs.Common.{◌≡◌, ◌≢◌, ℕ, zero, suc, ◌+◌, ◌^◌, ◌<◌, ◌≤◌, List, [], ◌∷◌, ◌++◌, length, Bool, true, false, Some, refl, sym, ap, ◌∙◌, arith, subst}
use Rattle.std.specs.Prelude.{slice_get, slice_set}
use Rattle.ms_linear.specs.declared.value.Value.{Value as Word}
use Rattle.ms_module.specs.declared.instr.Instr.{Instr}
use Rattle.ms_task.specs.declared.func.FuncInst.{FuncInst}
use Rattle.ms_task.specs.Thread.{Do, Frame, Item, dos, depth_of, sequence}
use Rattle.c_types.specs.Layout.{IsLaidOut, Layout, Table, layout_at, size as type_size}
use Rattle.c_types.specs.Types.{Ty, Tys, no_types, types, is_function}
use Rattle.c_typed.specs.declared.ops.Variable.TheVariants.{Local}
use Rattle.c_typed.specs.Tree.{Typed}
use Rattle.c_meaning.specs.Shapes.{shape, size}
use Rattle.c_meaning.specs.Values.{Value}
use Rattle.c_meaning.specs.Objects.{Object}
use Rattle.c_meaning.specs.World.{Held, plain, World}
use Rattle.c_meaning.specs.Expressions.{Calls}
use Rattle.ms_emit.specs.Codes.{total}
use Rattle.c_typed.specs.refinement.Expressions.{is_visible}
use Rattle.c_code.specs.Modules.{entry_of, index_of, sig_of}
use Rattle.c_code.specs.Targets.{Target}
use Rattle.ms_relate.specs.refinement.Homes.{Home}
use Rattle.ms_relate.specs.refinement.Laid.{Fits}
use Rattle.ms_relate.specs.refinement.Relation.{Related}
use Rattle.ms_relate.proofs.Growing.{Extends}
use Rattle.c_runs.proofs.Entries.{IsTable, places_of}
use Rattle.c_runs.proofs.Goes.{Site, Mem}
use Rattle.c_runs.proofs.Held.{AreApart, AreHeld, AreOpen, AreOwn, IsHeld, Lasts, Slot, words}
use Rattle.c_runs.proofs.Files.{Filed, Reached}
use Rattle.c_runs.proofs.Values.{IsValueOf, pushed_of, value_still, word_of, word_still}

-- ---- a function that is carried out: its slots are locals, behind so many others

-- of an object's type: its shape lies as the type does
pub record IsSlot (table : Table) (t : Ty) : Type 0 where
  pub is_data : is_function t ≡ false
  pub fits : Fits (shape table t)
  pub sized : size (shape table t) ≡ type_size table t
  pub small : size (shape table t) < 2 ^ 32

pub record Env : Type 0 where
  pub site : Site
  pub unit : Typed
  -- the entry of a function in the table, but for one, by the type of a pointer to it
  pub places : Ty → ℕ → ℕ
  pub places_are : places ≡ places_of unit
  pub table : IsTable site unit
  pub target : Target
  pub structs_are : target.structs ≡ unit.structs
  pub entries_are : target.entry ≡ entry_of unit
  pub indices_are : target.index ≡ index_of unit
  pub sigs_are : target.sig ≡ sig_of unit
  -- structs are laid out, each with a member
  pub laid_out : IsLaidOut unit.structs
  pub has_members : (n : ℕ) (l : Layout) → layout_at unit.structs n ≡ Some l → l.members ≢ []
  -- the locals in front of the slots
  pub args : List Word
  pub first_is : target.first ≡ length args
  -- what calls do, and whether any may stand here
  pub calls : Calls
  pub may_call : Bool
  -- fuel is below it; of loops, too
  pub bound : ℕ
  pub turn_bound : ℕ
  pub fn : ℕ
  pub slots : List Ty
  -- and whether they are objects
  pub kinds : List Slot
  pub as_long : length kinds ≡ length slots
  pub kinds_are : (x : ℕ) (t : Ty) → slice_get slots x ≡ Some t → slice_get kinds x ≡ Some (t, target.is_object (Local x))
  pub objects_are : (x : ℕ) (t : Ty) → slice_get kinds x ≡ Some (t, true) → IsSlot unit.structs t
  -- the variables at file scope, and how far they are made
  pub files : List Slot
  pub reached : Reached
  -- behind them are the scratch locals, and those of so many values that wait
  pub scratch_is : target.scratch ≡ length args + length slots
  pub waits : ℕ
  -- so many of them wait at most where a piece of code begins
  pub pending : ℕ
  pub result : Ty
  -- how many calls are open: of the machine, and of C
  pub depth : ℕ
  pub level : ℕ
  -- the variables that may be named, at least
  pub visible : List ℕ

abbrev pub IsValue : Env → Ty → List Home → Value → Type 0
IsValue E t = IsValueOf E.unit.structs E.places t

-- what an expression of the type leaves on the operands
abbrev pub pushes : Env → Ty → List Home → Value → List Word → List Word
pushes E t = pushed_of E.places t

abbrev pub locals_of : Env → Mem → World → List Word
locals_of E m w = words E.places E.kinds m.homes w.locals

abbrev pub frame_of : Env → Mem → World → Frame
frame_of E m w = record { function = E.fn; locals = E.args ++ (locals_of E m w ++ m.temps) }

-- What stands at the start of a piece of code: fuel is below, so many values wait, and the locals behind the slots; the homes of the
-- objects, the objects at the function's start, and the variables that may be named.
pub record Now : Type 0 where
  pub below : ℕ
  pub waits : ℕ
  pub temps : List Word
  pub homes : List Home
  pub objects : List Object
  pub visible : List ℕ

-- the first values that wait, of so many, are the same
pub record Temps (all waits : ℕ) (before after : List Word) : Type 0 where
  pub long : length after ≡ 4 + all
  pub stay : (j : ℕ) → j < waits → slice_get after (4 + j) ≡ slice_get before (4 + j)

-- what is kept, where the segments are those of these objects
pub record Keeps (structs : Table) (places : Ty → ℕ → ℕ) (kinds files : List Slot) (reached : Reached) (shared depth all : ℕ) (now : Now) (os : List Object) (w : World) (m : Mem) : Type 0 where
  pub held : AreHeld structs places kinds m.homes w.locals
  pub deep : w.depth ≡ depth
  pub less : w.fuel < now.below
  pub bytes : AreBytes w.input
  pub temps : Temps all now.waits now.temps m.temps
  pub grown : Extends now.homes m.homes
  pub related : Related structs places m.homes os m.segments
  pub open' : AreOpen kinds now.visible w.objects w.locals
  pub apart : AreApart w.locals
  pub own : AreOwn (length now.objects) w.locals
  pub lasts : Lasts now.objects w.objects
  pub file : Filed structs places files reached shared m.homes w.globals w.literals m.globals

abbrev pub KeptAs : Env → Now → List Object → World → Mem → Type 0
KeptAs E now os w m = Keeps E.unit.structs E.places E.kinds E.files E.reached E.site.shared E.level E.waits now os w m

abbrev pub Kept : Env → Now → World → Mem → Type 0
Kept E now w m = KeptAs E now w.objects w m

-- these variables are among those
abbrev pub Sees : List ℕ → List ℕ → Type 0
Sees vs us = (x : ℕ) → is_visible vs x ≡ true → is_visible us x ≡ true

pub sees_none : (us : List ℕ) → Sees [] us
sees_none us x e = absurd cc

-- objects have these homes at least, these variables may be named, no more values wait, and the calls' bound is above
pub record StartsIn (bound pending : ℕ) (visible : List ℕ) (hs : List Home) (now : Now) : Type 0 where
  pub below : now.below ≤ bound
  pub grown : Extends hs now.homes
  pub seen : Sees visible now.visible
  pub few : now.waits ≤ pending

abbrev pub Starts : Env → List Home → Now → Type 0
Starts E hs now = StartsIn E.bound E.pending E.visible hs now

-- the same with other homes at the start
abbrev pub with_homes : List Home → Now → Now
with_homes hs now = record now { homes = hs }

-- where these variables may be named
abbrev pub seeing : List ℕ → Env → Env
seeing vs E = record E { visible = vs }

-- the variables at file scope are held so
abbrev pub FiledIn : Env → World → Mem → Type 0
FiledIn E w m = Filed E.unit.structs E.places E.files E.reached E.site.shared m.homes w.globals w.literals m.globals

-- where so many values wait
abbrev pub beside : ℕ → Env → Env
beside d E = record E { pending = d }

-- the variables are held so
abbrev pub Holds : Env → Mem → World → Type 0
Holds E m w = AreHeld E.unit.structs E.places E.kinds m.homes w.locals

pub extends_trans : (a b c : List Home) → Extends a b → Extends b c → Extends a c
extends_trans a b c f g n h e = g n h (f n h e)

pub extends_same : (a : List Home) → Extends a a
extends_same a n h e = e

pub extends_none : (a : List Home) → Extends [] a
extends_none a n h e = absurd cc

-- in another world, of the same variables and objects
pub kept_world : (E : Env) (now : Now) (os : List Object) (w w' : World) (m : Mem) → w'.locals ≡ w.locals → w'.objects ≡ w.objects → w'.depth ≡ w.depth → w'.globals ≡ w.globals → w'.literals ≡ w.literals → w'.fuel < now.below → AreBytes w'.input → KeptAs E now os w m → KeptAs E now os w' m
kept_world E now os w w' m el eo ed eg et less bytes k = record {
  held = subst (λ (l : List Held). AreHeld E.unit.structs E.places E.kinds m.homes l) (sym el) k.held;
  deep = ed ∙ k.deep;
  less = less;
  bytes = bytes;
  temps = k.temps;
  grown = k.grown;
  related = k.related;
  open' = subst (λ (l : List Held). AreOpen E.kinds now.visible w'.objects l) (sym el) (subst (λ (os : List Object). AreOpen E.kinds now.visible os w.locals) (sym eo) k.open');
  apart = subst AreApart (sym el) k.apart;
  own = subst (AreOwn (length now.objects)) (sym el) k.own;
  lasts = subst (Lasts now.objects) (sym eo) k.lasts;
  file = subst (λ (xs : List Held). Filed E.unit.structs E.places E.files E.reached E.site.shared m.homes xs w'.literals m.globals) (sym eg)
      (subst (λ (ts : List ℕ). Filed E.unit.structs E.places E.files E.reached E.site.shared m.homes w.globals ts m.globals) (sym et) k.file);
}

-- with other variables that may be named
pub kept_seen : (E : Env) (now : Now) (us : List ℕ) (os : List Object) (w : World) (m : Mem) → AreOpen E.kinds us w.objects w.locals → KeptAs E now os w m → KeptAs E (record now { visible = us }) os w m
kept_seen E now us os w m open' k = record { held = k.held; deep = k.deep; less = k.less; bytes = k.bytes; temps = k.temps; grown = k.grown; related = k.related; open' = open'; apart = k.apart; own = k.own; lasts = k.lasts; file = k.file }

-- below another bound
pub kept_below : (E : Env) (now : Now) (below : ℕ) (os : List Object) (w : World) (m : Mem) → w.fuel < below → KeptAs E now os w m → KeptAs E (record now { below = below }) os w m
kept_below E now below os w m less k = record { held = k.held; deep = k.deep; less = less; bytes = k.bytes; temps = k.temps; grown = k.grown; related = k.related; open' = k.open'; apart = k.apart; own = k.own; lasts = k.lasts; file = k.file }

-- with less fuel, below another bound
pub kept_fuel : (E : Env) (now : Now) (below : ℕ) (os : List Object) (w : World) (m : Mem) (q : ℕ) → q < below → KeptAs E now os w m → KeptAs E (record now { below = below }) os (record w { fuel = q }) m
kept_fuel E now below os w m q less k = record { held = k.held; deep = k.deep; less = less; bytes = k.bytes; temps = k.temps; grown = k.grown; related = k.related; open' = k.open'; apart = k.apart; own = k.own; lasts = k.lasts; file = k.file }

-- with other values that wait
pub kept_temps : (E : Env) (now : Now) (n : ℕ) (before : List Word) (os : List Object) (w : World) (m : Mem) (q : List Word) → Temps E.waits n before q → KeptAs E now os w m → KeptAs E (record now { waits = n; temps = before }) os w (record m { temps = q })
kept_temps E now n before os w m q temps k = record { held = k.held; deep = k.deep; less = k.less; bytes = k.bytes; temps = temps; grown = k.grown; related = k.related; open' = k.open'; apart = k.apart; own = k.own; lasts = k.lasts; file = k.file }

-- ---- in front of other locals

pub get_in : (ws temps : List Word) (x : ℕ) (v : Word) → slice_get ws x ≡ Some v → slice_get (ws ++ temps) x ≡ Some v
get_in [] temps x v e = absurd cc
get_in (w ∷ ws) temps zero v e = e
get_in (w ∷ ws) temps (suc x) v e = get_in ws temps x v e

pub set_in : (ws temps : List Word) (x : ℕ) (v : Word) → x < length ws → slice_set (ws ++ temps) x v ≡ slice_set ws x v ++ temps
set_in [] temps x v lt = absurd (omega (arith, lt))
set_in (w ∷ ws) temps zero v lt = refl
set_in (w ∷ ws) temps (suc x) v lt = ap (λ (l : List Word). w ∷ l) (set_in ws temps x v (omega (arith, lt)))

pub within : (ws : List Word) (x : ℕ) (v : Word) → slice_get ws x ≡ Some v → x < length ws
within [] x v e = absurd cc
within (w ∷ ws) zero v e = omega arith
within (w ∷ ws) (suc x) v e = let lt = within ws x v e in omega (arith, lt)

-- ---- instructions in front of work

abbrev pub front : List Instr → List Item → List Item
front is r = dos is ++ r

pub front_append : (a b : List Instr) (r : List Item) → front (a ++ b) r ≡ front a (front b r)
front_append [] b r = refl
front_append (i ∷ a) b r = ap (λ (w : List Item). Do i ∷ w) (front_append a b r)

pub depth_front : (is : List Instr) (r : List Item) → depth_of (front is r) ≡ depth_of r
depth_front [] r = refl
depth_front (i ∷ is) r = depth_front is r

-- ---- the sequences of a function

abbrev pub HasAll : List FuncInst → (fn n : ℕ) → List (List Instr) → Type 0
HasAll funcs fn n [] = Unit {0}
HasAll funcs fn n (is ∷ ss) = (sequence funcs fn n ≡ is) × HasAll funcs fn (suc n) ss

pub has_front : (funcs : List FuncInst) (fn n : ℕ) (a b : List (List Instr)) → HasAll funcs fn n (a ++ b) → HasAll funcs fn n a
has_front funcs fn n [] b h = tt
has_front funcs fn n (is ∷ a) b h = (h.0, has_front funcs fn (suc n) a b h.1)

pub has_back : (funcs : List FuncInst) (fn n : ℕ) (a b : List (List Instr)) → HasAll funcs fn n (a ++ b) → HasAll funcs fn (n + length a) b
has_back funcs fn n [] b h = let e : n ≡ n + 0 = omega arith in subst (λ (m : ℕ). HasAll funcs fn m b) e h
has_back funcs fn n (is ∷ a) b h =
    let e : suc n + length a ≡ n + length (is ∷ a) = omega arith in subst (λ (m : ℕ). HasAll funcs fn m b) e (has_back funcs fn (suc n) a b h.1)

pub total_append : (a b : List (List Instr)) → total (a ++ b) ≡ total a + total b
total_append [] b = omega arith
total_append (is ∷ a) b = let e = total_append a b in omega (arith, e)

-- ---- arguments on the operands, the last one topmost

abbrev pub piled : Env → Tys → List Home → List Value → List Word → List Word
piled E no_types hs us vs = vs
piled E (types t ts) hs [] vs = vs
piled E (types t ts) hs (u ∷ us) vs = piled E ts hs us (word_of E.places t hs u ∷ vs)

-- values of scalar types
abbrev pub AreOf : Env → Tys → List Home → List Value → Type 0
AreOf E no_types hs [] = Unit {0}
AreOf E (types t ts) hs (v ∷ vs) = IsHeld E.unit.structs E.places (t, false) hs (plain v) × AreOf E ts hs vs
AreOf E _ hs _ = ⊥

pub are_still : (E : Env) (old new : List Home) → Extends old new → (ts : Tys) (us : List Value) → AreOf E ts old us → AreOf E ts new us
are_still E old new more no_types [] a = tt
are_still E old new more (types t ts) (u ∷ us) a = (value_still E.unit.structs E.places old new more t u a.0, are_still E old new more ts us a.1)
are_still E old new more no_types (u ∷ us) a = absurd a
are_still E old new more (types t ts) [] a = absurd a

pub piled_still : (E : Env) (old new : List Home) → Extends old new → (ts : Tys) (us : List Value) (vs : List Word) → AreOf E ts old us → piled E ts new us vs ≡ piled E ts old us vs
piled_still E old new more no_types [] vs a = refl
piled_still E old new more (types t ts) (u ∷ us) vs a =
    piled_still E old new more ts us (word_of E.places t new u ∷ vs) a.1 ∙ ap (λ (x : Word). piled E ts old us (x ∷ vs)) (word_still E.unit.structs E.places old new more t u a.0)
piled_still E old new more no_types (u ∷ us) vs a = absurd a
piled_still E old new more (types t ts) [] vs a = absurd a
