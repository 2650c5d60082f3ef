use Rattle.std.proofs.Common.{◌≡◌, drop, reverse}
use Rattle.c_typed.specs.Parts.{sequence}
use Rattle.c_typed.specs.refinement.Views.{list_of}
use Rattle.c_code.specs.Statements.{groups, stmts}
use Rattle.c_emit.specs.refinement.Exits.{exits_of}
use Rattle.c_emit.proofs.Items.{IsLeft}
use Rattle.c_compile.proofs.statements.+statements.Given as goal

abbrev pub invariant-stmts-loop-s : goal.invariant-stmts-loop-s
invariant-stmts-loop-s l =
    let x = l.t in
    let here = exits_of l.exits (reverse l.fn.objects.items) in
    (l.objects.items ≡ l.fn.objects.items)
    × IsLeft l.fn.body l.body (stmts x.target x.slots l.d here (sequence (list_of (drop l.s-index l.ss)))) (stmts x.target x.slots l.d here (sequence (list_of l.ss)))

abbrev pub invariant-grouped-loop-s : goal.invariant-grouped-loop-s
invariant-grouped-loop-s l =
    let x = l.t in
    let here = exits_of l.exits (reverse l.fn.objects.items) in
    (l.number ≡ l.s-index) × (l.objects.items ≡ l.fn.objects.items)
    × IsLeft l.fn.body l.body (groups x.target x.slots l.d here l.number (sequence (list_of (drop l.number l.groups)))) (groups x.target x.slots l.d here 0 (sequence (list_of l.groups)))
