use Rattle.std.proofs.Common.{◌≡◌, ◌++◌, drop}
use Rattle.ms_text_grammar.specs.FieldKinds.{entries_in, of_kind}
use Rattle.ms_text_grammar.specs.ResolvedParts.{defined, sizes_of}
use Rattle.ms_text_resolve.proofs.imports.sizes_of.Given as goal

abbrev pub invariant-loop-field : goal.invariant-loop-field
invariant-loop-field l =
    let left = sizes_of l.source (of_kind l.kind (defined (entries_in (drop l.field-index l.fields)))) in
    let all = sizes_of l.source (of_kind l.kind (defined (entries_in l.fields))) in
    l.sizes ++ left ≡ all
