use Rattle.std.proofs.Common.{◌≡◌, ◌∙◌, sym, None, length, arith}
use Rattle.ms_text_parts.specs.refinement.Readers.{FailsBy, fault_of}
use Rattle.ms_text_grammar.specs.Fields.{file}
use Rattle.ms_text_grammar.specs.Bounds.{usual}
use Rattle.ms_text_grammar.specs.Scans.{mismatch, too_deep}
use Rattle.ms_text_read.proofs.Stops.{all_spelled, fault_found}
use Rattle.ms_text_read.proofs.fields.of_tokens.Goals as goal

pub returns-in-Err : goal.returns-in-Err
returns-in-Err c =
    let source = c.args.source.now in
    let tokens = c.args.tokens.now in
    let h : FailsBy (fault_of c.in-Err.stop) ((file source).read (length source) tokens) = rw (← c.new-c.ensures.source, ← c.new-c.ensures.left) c.in-Err.ensures in
    fault_found source tokens (fault_of c.in-Err.stop) (fault_of c.with_depth.result) (fault_of c.with_mismatch.result) h c.with_depth.ensures.found c.with_depth.ensures.memory c.with_mismatch.ensures.found c.with_mismatch.ensures.memory

pub returns-in-Ok-None : goal.returns-in-Ok-None
returns-in-Ok-None c =
    let source = c.args.source.now in
    let tokens = c.args.tokens.now in
    let e = rw (c.new-c.ensures.source, c.new-c.ensures.left) at c.in-Ok.ensures.0 in
    let shallow : too_deep usual.parens 0 tokens ≡ None = sym c.too_deep.ensures ∙ c.in_default.is in
    let agrees : mismatch source tokens ≡ None = grind arith in
    all_spelled source tokens c.in-Ok.fields c.whole_file.new.c.left e shallow agrees
