-- The rules of a module, and the same by its context.
use Rattle.std.proofs.Common.{◌≡◌, ◌<◌, ℕ, List, length, sym, subst, ◌↔◌, slice_get}
use Rattle.std.specs.Prelude.{All, Bool, IfOk, IsTrue, Option, Some, None, Result, Ok, Err, map}
use Rattle.std.proofs.lemmas.List.{length-map}
use Rattle.ms_module.specs.declared.module.Element.{Element}
use Rattle.ms_module.specs.declared.module.ExportDesc.{ExportDesc}
use Rattle.ms_module.specs.declared.module.ExportDesc.TheVariants.{Func, Table, Memory, Global}
use Rattle.ms_module.specs.declared.module.Export.{Export}
use Rattle.ms_module.specs.declared.module.Module.{Module}
use Rattle.ms_rules.specs.Context.{Context, context_of, sigs_of_funcs}
use Rattle.ms_rules.specs.Modules.{AreDistinct, ElementTyped, ExportTyped, Head, StartTyped}
use Rattle.ms_valid.specs.refinement.Heads.{DeclarationsTyped, ElementIn, ExportIn, ExpressionsTyped, FillIn, GlobalIn, IndicesTyped, PartsTyped, StartIn}

-- as many functions as types of them
length-funcs : (m : Module) → length (context_of m).funcs ≡ length (sigs_of_funcs m)
length-funcs m = length-map (sigs_of_funcs m) (λ i. slice_get m.sigs i)

element_is : (m : Module) (e : Element) → ElementIn (context_of m) e ↔ ElementTyped m e
unfolding ElementIn
element_is m e =
    let same = length-funcs m in
    ((λ h. (h.0, h.1, subst (λ (n : ℕ). All (λ f. f < n) e.funcs) same h.2)), (λ h. (h.0, h.1, subst (λ (n : ℕ). All (λ f. f < n) e.funcs) (sym same) h.2)))

start_is : (m : Module) (s : Option ℕ) → StartIn (context_of m) s ↔ StartTyped m s
start_is m None = ((λ h. h), (λ h. h))
start_is m (Some f) = ((λ h. h), (λ h. h))

export_is : (m : Module) (d : ExportDesc) → ExportIn (context_of m) d ↔ ExportTyped m d
export_is m (Func i) =
    let same = length-funcs m in
    ((λ h. subst (λ (n : ℕ). i < n) same h), (λ h. subst (λ (n : ℕ). i < n) (sym same) h))
export_is m (Table i) = ((λ h. h), (λ h. h))
export_is m (Memory i) = ((λ h. h), (λ h. h))
export_is m (Global i) = ((λ h. h), (λ h. h))

to_head : (m : Module) → PartsTyped (context_of m) m → AreDistinct (map (λ (e : Export). e.name) m.exports) → Head m
unfolding DeclarationsTyped ExpressionsTyped IndicesTyped GlobalIn FillIn
to_head m p names = record {
  sigs = p.declarations.0;
  imports = p.declarations.1;
  funcs = p.declarations.2;
  tables = p.declarations.3;
  memories = p.declarations.4;
  globals = p.expressions.0;
  elements = λ k d lt. (element_is m _).0 (p.expressions.1 k d lt);
  fills = p.expressions.2;
  start = (start_is m m.start).0 p.indices.0;
  exports = λ k d lt. (export_is m _).0 (p.indices.1 k d lt);
  names = names;
  one_table = p.indices.2;
  one_memory = p.indices.3;
}

of_head : (m : Module) → Head m → PartsTyped (context_of m) m
unfolding DeclarationsTyped ExpressionsTyped IndicesTyped GlobalIn FillIn
of_head m h = record {
  declarations = (h.sigs, h.imports, h.funcs, h.tables, h.memories);
  expressions = (h.globals, (λ k d lt. (element_is m _).1 (h.elements k d lt)), h.fills);
  indices = ((start_is m m.start).1 h.start, (λ k d lt. (export_is m _).1 (h.exports k d lt)), h.one_table, h.one_memory);
}

-- All rules but those on bodies, by the context.
pub head_is : (m : Module) (c : Context) → c ≡ context_of m → (PartsTyped c m × AreDistinct (map (λ (e : Export). e.name) m.exports)) ↔ Head m
head_is m c e =
    subst (λ (d : Context). (PartsTyped d m × AreDistinct (map (λ (x : Export). x.name) m.exports)) ↔ Head m) (sym e)
    ((λ h. to_head m h.0 h.1), (λ h. (of_head m h, h.names)))

-- The rest of the test is the test on names.
pub ends : {E : Type 0} (r : Result Bool E) (m : Module) (c : Context) (es : List Export) → c ≡ context_of m → es ≡ m.exports → PartsTyped c m → IfOk r (λ b. IsTrue b ↔ AreDistinct (map (λ (e : Export). e.name) es)) → IfOk r (λ b. IsTrue b ↔ Head m)
ends (Ok b) m c es e same p h =
    let distinct = subst (λ (xs : List Export). IsTrue b ↔ AreDistinct (map (λ (x : Export). x.name) xs)) same h in
    ((λ t. (head_is m c e).0 (p, distinct.0 t)), (λ q. distinct.1 ((head_is m c e).1 q).1))
ends (Err x) m c es e same p h = tt
