use Rattle.std.proofs.Common.{◌≡◌, List, ◌++◌, ◌∷◌, [], get_or, ◌∙◌, ap, sym, slice_set}
use Rattle.ms_module.specs.declared.instr.Instr.{Instr}
use Rattle.ms_module.proofs.Building.{put-is}
use Rattle.ms_module.proofs.builder.put_at.Goals as goal

pub returns-clause-ok : goal.returns-clause-ok
returns-clause-ok c =
    let ss = c.args.sequences.now.items in
    let k = c.args.number in
    let old = c.index_mut-sequence.result.now in
    let new : get_or ss k old ++ c.args.instr ∷ [] ≡ c.push.new.self = cc (c.in_ok-push.ensures.items, c.index_mut-sequence.ensures.value) in
    ap (λ (s : List Instr). slice_set ss k s) (sym new) ∙ put-is ss k c.args.instr old c.requires
