use Rattle.std.proofs.Common.{◌<◌, ◌+◌, get_or, length, ap, ◌∙◌, arith}
use Rattle.std.proofs.lemmas.List.{length-set}
use Rattle.ms_linear.specs.Table.{Table}
use Rattle.ms_link.proofs.Puts.{entry_more}
use Rattle.ms_link.proofs.putting.put_entries.Goals as goal

pub loop-i-preserved : goal.loop-i-preserved
loop-i-preserved c =
    let t = c.loop-i.table in
    let i = c.loop-i.i in
    let f = get_or c.args.indices.now i 0 in
    let room = c.requires.room in
    let same = c.loop-i.invariant.1 in
    let within : c.args.at + i < length t.entries = omega arith in
    let named = c.requires.there i 0 c.loop-i-test.true in (
      entry_more t c.set.new.self c.args.funcs.now c.args.addresses.now c.args.at i c.args.indices.now c.index-funcs-address.result c.in_ok-sig.sig within c.loop-i-test.true named (c.requires.funcs f 0 named) c.index-funcs-address.is c.in_ok-sig.ensures c.set.ensures
          ∙ c.loop-i.invariant.0,
      ap (λ (u : Table). length u.entries) c.set.ensures ∙ length-set t.entries (c.args.at + i) _ ∙ same,
    )
