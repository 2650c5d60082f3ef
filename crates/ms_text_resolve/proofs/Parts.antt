-- The parts of a module, put together.
use Rattle.std.proofs.Common.{◌≡◌, ℕ, List, [], ◌++◌, Option, refl, ap, subst, ◌∙◌, append_assoc}
use Rattle.ms_types.specs.declared.types.FuncType.{FuncType}
use Rattle.ms_types.specs.declared.types.Limits.{Limits}
use Rattle.ms_module.specs.declared.module.Module.{Module}
use Rattle.ms_module.specs.declared.module.Import.{Import}
use Rattle.ms_module.specs.declared.module.Func.{Func}
use Rattle.ms_module.specs.declared.module.Global.{Global}
use Rattle.ms_module.specs.declared.module.Export.{Export}
use Rattle.ms_module.specs.declared.module.Element.{Element}
use Rattle.ms_module.specs.declared.module.Fill.{Fill}
use Rattle.ms_text_grammar.specs.declared.surface.Field.{Field}
use Rattle.ms_text_grammar.specs.Identifiers.{With}
use Rattle.ms_text_grammar.specs.FieldKinds.{entries_in, no_entries}
use Rattle.ms_text_grammar.specs.TypeUses.{scope_of}
use Rattle.ms_text_grammar.specs.ResolvedParts.{defined, elements_from, exports_from, fills_from, funcs_of, globals_of, imports_of, starts_in}
use Rattle.ms_text_grammar.specs.Elaborating.{module_of, repeated}
use Rattle.ms_text_names.specs.refinement.Answers.{Adds}
use Rattle.ms_text_names.specs.refinement.Settings.{Setting}
use Rattle.ms_text_resolve.specs.refinement.Assembled.{parts_of}

chained : (old w v a b : List ℕ) → w ≡ old ++ a → v ≡ w ++ b → v ≡ old ++ (a ++ b)
chained old w v a b e h = h ∙ ap (λ (x : List ℕ). x ++ b) e ∙ append_assoc old a b

pub parts_made : (old w1 w2 w3 w4 w5 w6 w7 : List ℕ) (sigs : List FuncType)
    (imports : List Import) (funcs : List Func) (tables memories : List Limits) (globals : List Global) (exports : List Export) (elements : List Element)
    (fills : List Fill) (start : Option ℕ)
    (I : With (List Import)) (F : With (List Func)) (T M : List Limits) (G : With (List Global)) (X : With (List Export)) (S : With (Option ℕ))
    (E : With (List Element)) (D : With (List Fill))
    → sigs ≡ [] → Adds old w1 imports I → Adds w1 w2 funcs F → tables ≡ T → memories ≡ M → Adds w2 w3 globals G → Adds w3 w4 exports X → Adds w4 w5 start S
    → Adds w5 w6 elements E → Adds w6 w7 fills D
    → Adds {A = Module} old w7
    (record {
      sigs = sigs;
      imports = imports;
      funcs = funcs;
      tables = tables;
      memories = memories;
      globals = globals;
      exports = exports;
      elements = elements;
      fills = fills;
      start = start;
    })
    (record {
      value = record {
        sigs = [];
        imports = I.value;
        funcs = F.value;
        tables = T;
        memories = M;
        globals = G.value;
        exports = X.value;
        elements = E.value;
        fills = D.value;
        start = S.value;
      };
      wrong = I.wrong ++ F.wrong ++ G.wrong ++ X.wrong ++ S.wrong ++ E.wrong ++ D.wrong;
    })
parts_made old w1 w2 w3 w4 w5 w6 w7 sigs imports funcs tables memories globals exports elements fills start I F T M G X S E D n i f t m g x s e d =
    record {
      value_is = rw (n, i.value_is, f.value_is, t, m, g.value_is, x.value_is, s.value_is, e.value_is, d.value_is) refl;
      wrong_is =
          chained old w6 w7 _ D.wrong (chained old w5 w6 _ E.wrong (chained old w4 w5 _ S.wrong (chained old w3 w4 _ X.wrong (chained old w2 w3 _ G.wrong (chained old w1 w2 I.wrong F.wrong i.wrong_is f.wrong_is)
          g.wrong_is) x.wrong_is) s.wrong_is) e.wrong_is) d.wrong_is;
    }

regroup : (r i f g x s e d : List ℕ) → r ++ (i ++ f ++ g ++ x ++ s ++ e ++ d) ≡ r ++ i ++ f ++ g ++ x ++ s ++ e ++ d
regroup r i f g x s e d = simp append_assoc

pub module_made : (source : List ℕ) (fs : List Field) (s : Setting) (old w0 w1 : List ℕ) (sigs : List FuncType) (m : Module)
    → s ≡ record { source = source; scope = scope_of fs } → w0 ≡ old ++ repeated source (scope_of fs) → sigs ≡ s.scope.sigs → Adds w0 w1 m (parts_of s fs)
    → Adds old w1 (record m { sigs = sigs }) (module_of source fs)
unfolding module_of parts_of
module_made source fs s old w0 w1 sigs m is e es h =
    let here : Setting = record { source = source; scope = scope_of fs } in
    let k = subst (λ (t : Setting). Adds w0 w1 m (parts_of t fs)) is h in
    let same : sigs ≡ here.scope.sigs = es ∙ ap (λ (t : Setting). t.scope.sigs) is in
    record {
      value_is = ap (λ (tys : List FuncType). record m { sigs = tys }) same ∙ ap (λ (n : Module). record n { sigs = here.scope.sigs }) k.value_is;
      wrong_is =
          chained old w0 w1 (repeated source (scope_of fs)) (parts_of here fs).wrong e k.wrong_is ∙ ap (λ (ns : List ℕ). old ++ ns) (regroup (repeated source (scope_of fs)) (imports_of source (scope_of fs) (entries_in fs)).wrong
          (funcs_of source (scope_of fs) (defined (entries_in fs))).wrong (globals_of source (scope_of fs) (defined (entries_in fs))).wrong
          (exports_from source (scope_of fs) no_entries fs).wrong (starts_in source (scope_of fs) fs).wrong
          (elements_from source (scope_of fs) no_entries fs).wrong (fills_from source (scope_of fs) no_entries fs).wrong);
    }
