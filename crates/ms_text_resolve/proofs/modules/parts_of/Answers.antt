use Rattle.std.proofs.Common.{ℕ, List, ap, ◌∙◌}
use Rattle.ms_text_grammar.specs.declared.surface.ExternKind.TheVariants as kind
use Rattle.ms_text_grammar.specs.FieldKinds.{entries_in, of_kind}
use Rattle.ms_text_grammar.specs.ResolvedParts.{defined, sizes_of}
use Rattle.ms_text_resolve.specs.refinement.Assembled.{parts_of}
use Rattle.ms_text_resolve.proofs.Parts.{parts_made}
use Rattle.ms_text_resolve.proofs.modules.parts_of.Goals as goal

pub returns : goal.returns
unfolding parts_of
returns c =
    let inside = defined (entries_in c.args.fields.now) in
    let tables = c.in_ok-tables.ensures ∙ ap (λ (source : List ℕ). sizes_of source (of_kind kind.Table inside)) c.source.ensures in
    let memories = c.in_ok-memories.ensures ∙ ap (λ (source : List ℕ). sizes_of source (of_kind kind.Memory inside)) c.source-2.ensures in
    parts_made _ _ _ _ _ _ _ _ _ _ _ _ _ _ _ _ _ _ _ _ _ _ _ _ _ _ _ c.new.ensures c.in_ok-imports.ensures c.in_ok-funcs.ensures tables memories c.in_ok-globals.ensures
    c.in_ok-exports.ensures c.in_ok-start.ensures c.in_ok-elements.ensures c.in_ok-fills.ensures
