use Rattle.std.proofs.Common.{◌≡◌, ◌∙◌, sym, ap, None, is_some, false}
use Rattle.ms_text_read.specs.refinement.Names.{look}
use Rattle.ms_text_read.proofs.Named.{is_none, noted}
use Rattle.ms_text_read.proofs.names.note.Goals as goal

pub returns : goal.returns
returns c = λ name.
    let bs = c.text_of-text.result.now in
    let m = c.args.names.now in
    let none : look m bs ≡ None = sym c.number_at.ensures ∙ is_none c.number_at.result (sym c.is_some.ensures ∙ c.if-is_some.false) in
    noted c.args.source.now c.in-Some.id name c.args.id bs m c.insert.new.self c.args.number c.in-Some.is c.text_of-text.ensures none c.in_ok-insert.ensures.updates
