-- Typed sequences, and what is left of them from a shape.
use Rattle.std.proofs.Common.{◌≡◌, ℕ, slice_get, List, [], ◌∷◌, ◌++◌, Option, Some, Bool, false, IsTrue, refl, sym, ap, ◌∙◌, subst, ◌↔◌}
use Rattle.ms_types.specs.declared.types.ValType.{ValType}
use Rattle.ms_types.specs.declared.types.ValType.TheVariants.{I32}
use Rattle.ms_module.specs.declared.instr.Instr.{Instr}
use Rattle.ms_module.specs.declared.instr.Instr.TheVariants.{If}
use Rattle.ms_module.specs.Numbered.{sequence_at}
use Rattle.ms_module.specs.declared.module.Func.{Func}
use Rattle.ms_types.specs.declared.types.FuncType.{FuncType}
use Rattle.ms_rules.specs.Context.{Context, inside}
use Rattle.ms_rules.specs.Modules.{FuncTyped}
use Rattle.ms_rules.specs.Typing.{InstrTyped, Known, OtherTyped, SequenceTyped, Typed, types}
use Rattle.ms_rules.proofs.Bodies.{typed_is}
use Rattle.ms_valid.specs.refinement.Scope.{Scope, scope}
use Rattle.ms_valid.specs.refinement.Shape.{Shape, shape, Becomes, Finishes, Gives, Stuck, Takes}
use Rattle.ms_valid.proofs.Parts.{one_result}
use Rattle.ms_valid.proofs.Shapes.{becomes_as, becomes_then}

starts : (K : Known) (c : Context) (labels : List (Option ValType)) (is : List Instr) (end : List ValType) → SequenceTyped K c labels is [] end ↔ Finishes K c labels (shape [] false) is end
starts K c labels is end =
    ((λ d. record { start = []; admits = refl; typed = d }), (λ x. subst (λ t. SequenceTyped K c labels is t end) x.admits x.typed))

-- a sequence begins with no operands
pub begins : (c : Context) (body : List (List Instr)) (labels : List (Option ValType)) (s : ℕ) (k : Option ValType) (a : Shape) (is : List Instr) → a ≡ shape [] false → is ≡ sequence_at body s → Typed c body labels s k ↔ Finishes (Typed c body) c labels a is (types k)
begins c body labels s k a is e here =
    let t = typed_is c body labels s k in
    let w = starts (Typed c body) c labels (sequence_at body s) (types k) in
    subst (λ z. Typed c body labels s k ↔ Finishes (Typed c body) c labels a z (types k)) (sym here) (subst (λ z. Typed c body labels s k ↔ Finishes (Typed c body) c labels z (sequence_at body s) (types k)) (sym e) ((λ d. w.0 (t.0 d)), (λ x. t.1 (w.1 x))))

-- ---- if

pub if_typed : {a b d : Shape} (K : Known) (c : Context) (labels : List (Option ValType)) (k : Option ValType) (s : ℕ) (other : Option ℕ) → Becomes a (Takes (I32 ∷ [])) b → K (k ∷ labels) s k → OtherTyped K labels k other → Becomes b (Gives (types k)) d → Becomes a (InstrTyped K c labels (If k s other)) d
if_typed K c labels k s other x then arm y =
    becomes_as (λ t1 t2. ((λ z. (z.0, z.1, then, arm, z.2)), (λ z. (z.0, z.1, z.4)))) (becomes_then x y)

pub if_nothing : {a : Shape} (K : Known) (c : Context) (labels : List (Option ValType)) (k : Option ValType) (s : ℕ) (other : Option ℕ) → Stuck a (Takes (I32 ∷ [])) → Stuck a (InstrTyped K c labels (If k s other))
if_nothing K c labels k s other x = record { none = λ t1 t2 m z. x.none t1 z.0 m z.1 }

-- ---- functions

pub func_typed : (c : Context) (f : Func) (t : FuncType) (k : Option ValType) (p : List ValType) (s : Scope) (labels : List (Option ValType)) (b : Bool) → slice_get c.sigs f.sig ≡ Some t → t.results ≡ types k → p ≡ t.params → s ≡ scope (inside c (p ++ f.locals) k) f.body → labels ≡ [] → (IsTrue b ↔ Typed s.context s.code (k ∷ labels) 0 k) → IsTrue b ↔ FuncTyped c f
func_typed c f t k p s labels b et ek ep es el h =
    let same : s ≡ scope (inside c (t.params ++ f.locals) k) f.body = es ∙ ap (λ q. scope (inside c (q ++ f.locals) k) f.body) ep in
    let body : IsTrue b ↔ Typed (inside c (t.params ++ f.locals) k) f.body (k ∷ []) 0 k = subst (λ ls. IsTrue b ↔ Typed (inside c (t.params ++ f.locals) k) f.body (k ∷ ls) 0 k) el (subst (λ z. IsTrue b ↔ Typed z.context z.code (k ∷ labels) 0 k) same h) in (
      (λ z. (t, k, et, ek, body.0 z)),
      (λ x.
          let whole : x.0 ≡ t = (let e = x.2 in cc) in
          let one : x.1 ≡ k = one_result x.1 k (sym x.3 ∙ ap (λ u. u.results) whole ∙ ek) in
          body.1 (subst (λ j. Typed (inside c (t.params ++ f.locals) j) f.body (j ∷ []) 0 j) one (subst (λ u. Typed (inside c (u.params ++ f.locals) x.1) f.body (x.1 ∷ []) 0 x.1) whole x.4))),
    )
