use Rattle.std.proofs.Common.{lit<, ◌∙◌, ap, sym}
use Rattle.std.proofs.lemmas.Bool.{false≢true}
use Rattle.ms_tagged.specs.Bytes.{whole, cleared}
use Rattle.ms_tagged.specs.refinement.Tags.{byte_of}
use Rattle.ms_tagged.proofs.Tags.{first_byte}
use Rattle.ms_tagged.proofs.Handles.{torn-after_piece, torn-with_data}
use Rattle.ms_tagged.proofs.tag.handle.Goals as goal

pub returns-in-Piece : goal.returns-in-Piece
returns-in-Piece c = whole (rw c.requires at (c.are_pieces.ensures.0 c.if-are_pieces.true))

pub returns-in-Data : goal.returns-in-Data
returns-in-Data c = cleared (rw c.requires at (c.are_zeros.ensures.0 c.if-are_zeros.true))

pub returns-in_default : goal.returns-in_default
returns-in_default c =
    torn-after_piece _ c.in-Piece.handle c.in-Piece.field-1 (first_byte c.args.tags.now ∙ ap byte_of c.in-Piece.is)
    (λ e. false≢true (sym c.if-are_pieces.false ∙ c.are_pieces.ensures.1 (rw c.requires e)))

pub returns-in_default-2 : goal.returns-in_default-2
returns-in_default-2 c =
    torn-with_data _ 0 c.in-Data.field-0 (lit< tt) (first_byte c.args.tags.now ∙ ap byte_of c.in-Data.is)
    (λ e. false≢true (sym c.if-are_zeros.false ∙ c.are_zeros.ensures.1 (rw c.requires e)))
