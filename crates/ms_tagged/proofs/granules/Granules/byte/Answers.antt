use Rattle.std.proofs.Common.{◌≡◌, [], ◌∷◌, Some, get_or, sym, ap, ◌∙◌, arith}
use Rattle.std.proofs.lemmas.Bool.{false≢true}
use Rattle.std.proofs.lemmas.List.{get_or_read}
use Rattle.ms_tagged.specs.Bytes.{shown_at}
use Rattle.ms_tagged.specs.refinement.Granules.{piece_bit}
use Rattle.ms_tagged.proofs.GranuleBytes.{byte_at-past, shown-data, shown-piece, shown-read}
use Rattle.ms_tagged.proofs.granules.Granules.byte.Goals as goal

pub returns-then-at-len : goal.returns-then-at-len
returns-then-at-len c =
    let past = byte_at-past c.self.inside.plain.items c.self.inside.masks.items c.self.inside.handles.items c.args.at (omega arith) (omega arith) in
    sym (shown-read c.self.inside.plain.items c.self.inside.masks.items c.self.inside.handles.items c.args.self.now c.self.inside.capacity c.args.at c.self.view_is c.requires ∙ ap (λ b. shown_at (b ∷ [])) past)

pub returns-then-is_piece : goal.returns-then-is_piece
returns-then-is_piece c =
    let bit = ap (λ masks. piece_bit masks c.args.at) (sym c.deref.ensures.value) ∙ c.is_piece.ensures.0 c.if-is_piece.true in
    sym (shown-read c.self.inside.plain.items c.self.inside.masks.items c.self.inside.handles.items c.args.self.now c.self.inside.capacity c.args.at c.self.view_is c.requires ∙ shown-piece c.self.inside.plain.items c.self.inside.masks.items c.self.inside.handles.items c.args.at bit)

pub returns : goal.returns
returns c =
    let is : get_or c.self.inside.plain.items c.args.at 0 ≡ c.index.result.now = sym (get_or_read c.self.inside.plain.items c.args.at c.index.result.now (omega arith) c.index.ensures 0) in
    let data_there = shown-data c.self.inside.plain.items c.self.inside.masks.items c.self.inside.handles.items c.args.at (λ bit. false≢true (sym c.if-is_piece.false ∙ c.is_piece.ensures.1 (ap (λ masks. piece_bit masks c.args.at) c.deref.ensures.value ∙ bit))) in
    sym (shown-read c.self.inside.plain.items c.self.inside.masks.items c.self.inside.handles.items c.args.self.now c.self.inside.capacity c.args.at c.self.view_is c.requires ∙ (data_there ∙ ap Some is))
