-- Instructions by their parts.
use Rattle.std.proofs.Math.Nat.{pow-le-pow_right}
use Rattle.std.proofs.Common.{◌≡◌, ℕ, ◌<◌, ◌≤◌, ◌^◌, arith, List, [], ◌∷◌, ◌++◌, Option, Some, None, Bool, true, false, reverse, slice_get, refl, sym, ap, ◌∙◌, subst, ◌↔◌}
use Rattle.ms_types.specs.declared.types.ValType.{ValType}
use Rattle.ms_types.specs.declared.types.ValType.TheVariants.{I32}
use Rattle.ms_types.specs.declared.types.FuncType.{FuncType}
use Rattle.ms_types.specs.declared.types.GlobalType.{GlobalType}
use Rattle.ms_module.specs.declared.access.Linear.{Linear}
use Rattle.ms_rules.specs.Instructions.{instr_type, linear_type}
use Rattle.ms_rules.specs.Typing.{LinearTyped, AllTake, CallTyped, CallIndirectTyped, Invokes, IsAligned, BrTyped, BrTableTyped, LocalSetTyped, GlobalSetTyped, LocalTeeTyped, HasType, Rel, types}
use Rattle.ms_valid.specs.refinement.Shape.{Shape, DecidesOn, Becomes, Gives, Stuck, Takes, Then}
use Rattle.ms_valid.proofs.Shapes.{becomes_as, becomes_then, stuck_as, stuck_first, stuck_then}

-- ---- one type each

pub applies : {a b c : Shape} (p : List ValType) (k : Option ValType) → Becomes a (Takes (reverse p)) b → Becomes b (Gives (types k)) c → Becomes a (HasType (instr_type p k)) c
applies p k x y = becomes_as (λ t1 t2. ((λ z. z), (λ z. z))) (becomes_then x y)

-- ---- variables

sets_are : (o : Option ValType) (t : ValType) → o ≡ Some t → (t1 t2 : List ValType) → Takes (t ∷ []) t1 t2 ↔ LocalSetTyped o t1 t2
sets_are o t e t1 t2 =
    ((λ x. (t, e, x)), (λ x. let same : x.0 ≡ t = (let h = x.1 in cc) in x.2 ∙ ap (λ u. u ∷ t2) same))

pub sets : (a b : Shape) (r : Bool) (o : Option ValType) (t : ValType) → o ≡ Some t → DecidesOn r a (Takes (t ∷ [])) b → DecidesOn r a (LocalSetTyped o) b
sets a b true o t e x = becomes_as (sets_are o t e) x
sets a b false o t e x = stuck_as (sets_are o t e) x

sets_global_are : (o : Option GlobalType) (g : GlobalType) → o ≡ Some g → g.mutable ≡ true → (t1 t2 : List ValType) → Takes (g.ty ∷ []) t1 t2 ↔ GlobalSetTyped o t1 t2
sets_global_are o g e m t1 t2 =
    ((λ x. (g, e, m, x)), (λ x. let same : x.0 ≡ g = (let h = x.1 in cc) in x.3 ∙ ap (λ u. u.ty ∷ t2) same))

pub sets_global : (a b : Shape) (r : Bool) (o : Option GlobalType) (g : GlobalType) → o ≡ Some g → g.mutable ≡ true → DecidesOn r a (Takes (g.ty ∷ [])) b → DecidesOn r a (GlobalSetTyped o) b
sets_global a b true o g e m x = becomes_as (sets_global_are o g e m) x
sets_global a b false o g e m x = stuck_as (sets_global_are o g e m) x

tees_are : (o : Option ValType) (t : ValType) → o ≡ Some t → (t1 t2 : List ValType) → Then (Takes (t ∷ [])) (Gives (t ∷ [])) t1 t2 ↔ LocalTeeTyped o t1 t2
tees_are o t e t1 t2 =
    ((λ x. (t, x.0, e, x.1, x.2)), (λ x. let same : x.0 ≡ t = (let h = x.2 in cc) in (x.1, x.3 ∙ ap (λ u. u ∷ x.1) same, x.4 ∙ ap (λ u. u ∷ x.1) same)))

pub tees : {a b c : Shape} (o : Option ValType) (t : ValType) → o ≡ Some t → Becomes a (Takes (t ∷ [])) b → Becomes b (Gives (t ∷ [])) c → Becomes a (LocalTeeTyped o) c
tees o t e x y = becomes_as (tees_are o t e) (becomes_then x y)

pub tees_nothing : {a : Shape} (o : Option ValType) (t : ValType) → o ≡ Some t → Stuck a (Takes (t ∷ [])) → Stuck a (LocalTeeTyped o)
tees_nothing o t e x = stuck_as (tees_are o t e) (stuck_first x)

-- ---- calls

pub one_result : (j k : Option ValType) → types j ≡ types k → j ≡ k
one_result None None e = refl
one_result None (Some t) e = cc
one_result (Some s) None e = cc
one_result (Some s) (Some t) e = cc

invokes_are : (f : FuncType) (p : List ValType) (k : Option ValType) → p ≡ f.params → f.results ≡ types k → (t1 t2 : List ValType) → Then (Takes (reverse p)) (Gives (types k)) t1 t2 ↔ Invokes f t1 t2
invokes_are f p k ep ek t1 t2 = (
  (λ x. (k, x.0, ek, x.1 ∙ ap (λ l. reverse l ++ x.0) ep, x.2)),
  (λ x. let same : x.0 ≡ k = one_result x.0 k (sym x.2 ∙ ek) in (x.1, x.3 ∙ ap (λ l. reverse l ++ x.1) (sym ep), x.4 ∙ ap (λ j. types j ++ x.1) same)),
)

pub invokes : {a b c : Shape} (f : FuncType) (p : List ValType) (k : Option ValType) → p ≡ f.params → f.results ≡ types k → Becomes a (Takes (reverse p)) b → Becomes b (Gives (types k)) c → Becomes a (Invokes f) c
invokes f p k ep ek x y = becomes_as (invokes_are f p k ep ek) (becomes_then x y)

-- ---- a branch by a table

table_are : (ls : List (Option ValType)) (l : List ℕ) (d : ℕ) (k : Option ValType) → slice_get ls d ≡ Some k → AllTake ls k l → (t1 t2 : List ValType) → Then (Takes (I32 ∷ [])) (BrTyped (Some k)) t1 t2 ↔ BrTableTyped ls l d t1 t2
table_are ls l d k e all t1 t2 = (
  (λ x. let same : k ≡ x.2.0 = (let z = x.2.2 in cc) in (k, x.2.1, e, all, x.1 ∙ ap (λ u. I32 ∷ u) x.2.3 ∙ ap (λ j. I32 ∷ (types j ++ x.2.1)) (sym same))),
  (λ x. let same : x.0 ≡ k = (let z = x.2 in cc) in (types x.0 ++ x.1, x.4, (x.0, x.1, ap Some (sym same), refl))),
)

pub table : {a b : Shape} (c : Shape) (r : Bool) (ls : List (Option ValType)) (l : List ℕ) (d : ℕ) (k : Option ValType) → slice_get ls d ≡ Some k → AllTake ls k l → Becomes a (Takes (I32 ∷ [])) b → DecidesOn r b (BrTyped (Some k)) c → DecidesOn r a (BrTableTyped ls l d) c
table c true ls l d k e all x y = becomes_as (table_are ls l d k e all) (becomes_then x y)
table c false ls l d k e all x y = stuck_as (table_are ls l d k e all) (stuck_then x y)

pub table_nothing : {a : Shape} (ls : List (Option ValType)) (l : List ℕ) (d : ℕ) (k : Option ValType) → slice_get ls d ≡ Some k → AllTake ls k l → Stuck a (Takes (I32 ∷ [])) → Stuck a (BrTableTyped ls l d)
table_nothing ls l d k e all x = stuck_as (table_are ls l d k e all) (stuck_first x)

-- ---- calls by what is looked up

calls_are : (o : Option (Option FuncType)) (f : FuncType) → o ≡ Some (Some f) → (t1 t2 : List ValType) → Invokes f t1 t2 ↔ CallTyped o t1 t2
calls_are o f e t1 t2 =
    ((λ x. (f, e, x)), (λ x. let same : x.0 ≡ f = (let h = x.1 in cc) in subst (λ g. Invokes g t1 t2) same x.2))

pub calls : (a b : Shape) (r : Bool) (o : Option (Option FuncType)) (f : FuncType) → o ≡ Some (Some f) → DecidesOn r a (Invokes f) b → DecidesOn r a (CallTyped o) b
calls a b true o f e x = becomes_as (calls_are o f e) x
calls a b false o f e x = stuck_as (calls_are o f e) x

calls_by_table_are : (n : ℕ) (o : Option FuncType) (f : FuncType) → 0 < n → o ≡ Some f → (t1 t2 : List ValType) → Then (Takes (I32 ∷ [])) (Invokes f) t1 t2 ↔ CallIndirectTyped n o t1 t2
calls_by_table_are n o f pos e t1 t2 =
    ((λ x. (f, x.0, pos, e, x.1, x.2)), (λ x. let same : x.0 ≡ f = (let h = x.3 in cc) in (x.1, x.4, subst (λ g. Invokes g x.1 t2) same x.5)))

pub calls_by_table : {a b : Shape} (c : Shape) (r : Bool) (n : ℕ) (o : Option FuncType) (f : FuncType) → 0 < n → o ≡ Some f → Becomes a (Takes (I32 ∷ [])) b → DecidesOn r b (Invokes f) c → DecidesOn r a (CallIndirectTyped n o) c
calls_by_table c true n o f pos e x y = becomes_as (calls_by_table_are n o f pos e) (becomes_then x y)
calls_by_table c false n o f pos e x y = stuck_as (calls_by_table_are n o f pos e) (stuck_then x y)

pub calls_by_table_nothing : {a : Shape} (n : ℕ) (o : Option FuncType) (f : FuncType) → 0 < n → o ≡ Some f → Stuck a (Takes (I32 ∷ [])) → Stuck a (CallIndirectTyped n o)
calls_by_table_nothing n o f pos e x = stuck_as (calls_by_table_are n o f pos e) (stuck_first x)

-- ---- the linear memory

accesses_are : (n : ℕ) (i : Linear) → 0 < n → IsAligned i → (t1 t2 : List ValType) → HasType (linear_type i) t1 t2 ↔ LinearTyped n i t1 t2
accesses_are n i pos fits t1 t2 = ((λ x. (pos, fits, x)), (λ x. x.2))

pub accesses : (a b : Shape) (r : Bool) (n : ℕ) (i : Linear) (p : List ValType) (k : Option ValType) → 0 < n → IsAligned i → p ≡ (linear_type i).params → k ≡ (linear_type i).result → DecidesOn r a (HasType (instr_type p k)) b → DecidesOn r a (LinearTyped n i) b
accesses a b r n i p k pos fits ep ek x =
    of r (subst (λ j. DecidesOn r a (HasType (instr_type (linear_type i).params j)) b) ek (subst (λ l. DecidesOn r a (HasType (instr_type l k)) b) ep x))
  where
    of : (r : Bool) → DecidesOn r a (HasType (linear_type i)) b → DecidesOn r a (LinearTyped n i) b
    of true y = becomes_as (accesses_are n i pos fits) y
    of false y = stuck_as (accesses_are n i pos fits) y

pub too_great : (align bytes : ℕ) → 32 ≤ align → bytes < 2 ^ 32 → 2 ^ align ≤ bytes → ⊥
too_great align bytes far fits m =
    let least : 2 ^ 32 ≤ 2 ^ align = pow-le-pow_right (omega arith) far in omega (arith, least, fits, m)

-- ---- an answer at an equal index

pub arm : {A : Type 0} (R : A → Rel) (x y : A) (b : Bool) (p q : Shape) → x ≡ y → DecidesOn b p (R x) q → DecidesOn b p (R y) q
arm R x y b p q e h = subst (λ z. DecidesOn b p (R z) q) e h
