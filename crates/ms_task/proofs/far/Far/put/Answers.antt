use Rattle.std.proofs.Common.{◌≡◌, refl, arith}
use Rattle.std.proofs.lemmas.Option.{slice_get_within}
use Rattle.ms_task.specs.declared.far.Written.{Written}
use Rattle.ms_task.proofs.Writing.{puts_again}
use Rattle.ms_task.proofs.far.Far.put.Goals as goal

pub returns-in-Some-clause-ok : goal.returns-in-Some-clause-ok
returns-in-Some-clause-ok c =
    let ds = c.args.directory.now.items in
    let ws = c.args.written.now.items in
    let w : Written = record { index = c.in-Ok.index; cell = c.args.cell } in
    let h = rw (c.deref.ensures.value, c.deref-2.ensures.value) at c.in-Some.ensures in
    let its : c.in-Ok.index ≡ c.args.j = omega (arith, c.in-Ok.ensures) in
    puts_again ds ws c.args.self.now c.args.j w c.args.cell its refl c.in-Some.place h (slice_get_within ws c.in-Some.place h.what h.there)
