-- From fields with identifiers to a module (WebAssembly 1.0, 6.1.3 and 6.6): identifiers become indices (`Identifiers`,
-- `FieldKinds`), type uses the indices of types (`TypeUses`), flat instructions numbered sequences (`ResolvedBodies`), and
-- inline exports, elements and data fields of their own (`ResolvedParts`). Each step is total: the places of identifiers that are
-- unknown, or that stand a second time in their index space, are a list, of which the least is told.
use Rattle.std.specs.Prelude.{ℕ, List, [], ◌++◌}
use Rattle.ms_module.specs.declared.module.Module.{Module}
use Rattle.ms_text_grammar.specs.declared.surface.ExternKind.TheVariants as kind
use Rattle.ms_text_grammar.specs.declared.surface.Field.{Field}
use Rattle.ms_text_grammar.specs.Identifiers.{With, repeats}
use Rattle.ms_text_grammar.specs.FieldKinds.{entries_in, no_entries, of_kind}
use Rattle.ms_text_grammar.specs.TypeUses.{Scope, scope_of}
use Rattle.ms_text_grammar.specs.ResolvedParts.{defined, elements_from, exports_from, fills_from, funcs_of, globals_of, imports_of, sizes_of, starts_in}

-- identifiers that stand twice in an index space of the module
abbrev pub repeated : List ℕ → Scope → List ℕ
repeated source scope =
    repeats source [] scope.types ++ repeats source [] scope.funcs ++ repeats source [] scope.tables ++ repeats source [] scope.memories
    ++ repeats source [] scope.globals

-- the module of fields, and the places of its unknown and repeated identifiers
unfoldable pub module_of : List ℕ → List Field → With Module
module_of source fs =
    let scope = scope_of fs in
    let entries = entries_in fs in
    let inside = defined entries in
    let imports = imports_of source scope entries in
    let funcs = funcs_of source scope inside in
    let globals = globals_of source scope inside in
    let exports = exports_from source scope no_entries fs in
    let start = starts_in source scope fs in
    let elements = elements_from source scope no_entries fs in
    let fills = fills_from source scope no_entries fs in
    record {
      value = record {
        sigs = scope.sigs;
        imports = imports.value;
        funcs = funcs.value;
        tables = sizes_of source (of_kind kind.Table inside);
        memories = sizes_of source (of_kind kind.Memory inside);
        globals = globals.value;
        exports = exports.value;
        elements = elements.value;
        fills = fills.value;
        start = start.value;
      };
      wrong =
          repeated source scope ++ imports.wrong ++ funcs.wrong ++ globals.wrong ++ exports.wrong ++ start.wrong ++ elements.wrong
          ++ fills.wrong;
    }
