use Rattle.std.proofs.Common.{ap, sym, ◌∙◌, replicate, arith}
use Rattle.std.proofs.lemmas.Bool.{false≢true}
use Rattle.std.proofs.lemmas.List.{length-map}
use Rattle.ms_tagged.specs.Bytes.{Data, cleared}
use Rattle.ms_tagged.specs.refinement.Tags.{byte_of, bytes_of}
use Rattle.ms_tagged.proofs.Filled.{filled-zeros, torn-filled}
use Rattle.ms_tagged.proofs.tag.handle_in_front.Goals as goal

pub returns-then-are_zeros : goal.returns-then-are_zeros
returns-then-are_zeros c =
    let long = length-map c.args.tags.now byte_of in
    cleared (filled-zeros 16 (bytes_of c.args.tags.now) (omega (arith, long)) (c.are_zeros.ensures.0 c.if-are_zeros.true ∙ ap (λ n. replicate n (Data 0)) (sym long)))

pub returns : goal.returns
returns c =
    let long = length-map c.args.tags.now byte_of in
    torn-filled (bytes_of c.args.tags.now) (omega (arith, long)) (λ are. false≢true (sym c.if-are_zeros.false ∙ c.are_zeros.ensures.1 (are ∙ ap (λ n. replicate n (Data 0)) long)))
