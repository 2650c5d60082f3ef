-- A module put together of its fields.
use Rattle.std.specs.Prelude.{List, [], ◌++◌}
use Rattle.ms_module.specs.declared.module.Module.{Module}
use Rattle.ms_text_grammar.specs.declared.surface.Field.{Field}
use Rattle.ms_text_grammar.specs.declared.surface.ExternKind.TheVariants as kind
use Rattle.ms_text_grammar.specs.Identifiers.{With}
use Rattle.ms_text_grammar.specs.FieldKinds.{entries_in, no_entries, of_kind}
use Rattle.ms_text_grammar.specs.ResolvedParts.{defined, elements_from, exports_from, fills_from, funcs_of, globals_of, imports_of, sizes_of, starts_in}
use Rattle.ms_text_names.specs.refinement.Settings.{Setting}

-- the module of fields in a setting, but for its types
unfoldable pub parts_of : Setting → List Field → With Module
parts_of s fs =
    let inside = defined (entries_in fs) in
    let imports = imports_of s.source s.scope (entries_in fs) in
    let funcs = funcs_of s.source s.scope inside in
    let globals = globals_of s.source s.scope inside in
    let exports = exports_from s.source s.scope no_entries fs in
    let start = starts_in s.source s.scope fs in
    let elements = elements_from s.source s.scope no_entries fs in
    let fills = fills_from s.source s.scope no_entries fs in
    record {
      value = record {
        sigs = [];
        imports = imports.value;
        funcs = funcs.value;
        tables = sizes_of s.source (of_kind kind.Table inside);
        memories = sizes_of s.source (of_kind kind.Memory inside);
        globals = globals.value;
        exports = exports.value;
        elements = elements.value;
        fills = fills.value;
        start = start.value;
      };
      wrong = imports.wrong ++ funcs.wrong ++ globals.wrong ++ exports.wrong ++ start.wrong ++ elements.wrong ++ fills.wrong;
    }
