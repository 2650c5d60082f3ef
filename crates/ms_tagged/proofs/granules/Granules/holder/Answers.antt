use Rattle.std.proofs.Common.{◌/◌, [], ◌∷◌, List, Some, sym, ap, ◌∙◌, arith}
use Rattle.std.proofs.lemmas.Bool.{false≢true}
use Rattle.ms_tagged.specs.Bytes.{held_at}
use Rattle.ms_tagged.specs.declared.granules.StoredHandle.{StoredHandle}
use Rattle.ms_tagged.specs.refinement.Granules.{handle_in, piece_bit}
use Rattle.ms_tagged.proofs.GranuleBytes.{byte_at-past, held-data, held-piece, held-read}
use Rattle.ms_tagged.proofs.granules.Granules.holder.Goals as goal

pub returns-then-at-len : goal.returns-then-at-len
returns-then-at-len c =
    let past = byte_at-past c.self.inside.plain.items c.self.inside.masks.items c.self.inside.handles.items c.args.at (omega arith) (omega arith) in
    sym (held-read c.self.inside.plain.items c.self.inside.masks.items c.self.inside.handles.items c.args.self.now c.self.inside.capacity c.args.at c.self.view_is c.requires ∙ ap (λ b. held_at (b ∷ [])) past)

pub returns-then-is_piece : goal.returns-then-is_piece
returns-then-is_piece c =
    let bit = ap (λ masks. piece_bit masks c.args.at) (sym c.deref.ensures.value) ∙ c.is_piece.ensures.0 c.if-is_piece.true in
    let kept = c.stored.ensures ∙ ap (λ (hs : List StoredHandle). handle_in hs (c.args.at / 16)) c.deref-then-is_piece.ensures.value in
    ap Some kept ∙ sym (held-read c.self.inside.plain.items c.self.inside.masks.items c.self.inside.handles.items c.args.self.now c.self.inside.capacity c.args.at c.self.view_is c.requires ∙ held-piece c.self.inside.plain.items c.self.inside.masks.items c.self.inside.handles.items c.args.at bit)

pub returns : goal.returns
returns c =
    let data_there = held-data c.self.inside.plain.items c.self.inside.masks.items c.self.inside.handles.items c.args.at (λ bit. false≢true (sym c.if-is_piece.false ∙ c.is_piece.ensures.1 (ap (λ masks. piece_bit masks c.args.at) c.deref.ensures.value ∙ bit))) in
    sym (held-read c.self.inside.plain.items c.self.inside.masks.items c.self.inside.handles.items c.args.self.now c.self.inside.capacity c.args.at c.self.view_is c.requires ∙ data_there)
