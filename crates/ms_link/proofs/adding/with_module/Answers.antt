use Rattle.std.proofs.Common.{Ok, Err}
use Rattle.ms_link.proofs.Beginning.{ended_is, fit_is_refused}
use Rattle.ms_link.proofs.Refusing.{inside_answers}
use Rattle.ms_link.proofs.adding.with_module.Goals as goal

pub returns-in-Err : goal.returns-in-Err
returns-in-Err c =
    let made = c.args.made in
    let name = c.args.name.now in
    let m = c.args.module in
    let es = c.args.externs.now in
    let e = c.in-Err.fault in
    inside_answers made name m es (Err e) c.requires.given c.requires.small (fit_is_refused made c.begin.new.made name m es c.in_ok-begun.begun c.in_ok-begun.ensures e c.in-Err.ensures)

pub returns : goal.returns
returns c =
    let made = c.args.made in
    let name = c.args.name.now in
    let m = c.args.module in
    let es = c.args.externs.now in
    let last = c.in_ok-ended.field-0 in
    inside_answers made name m es (Ok last) c.requires.given c.requires.small (ended_is made c.begin.new.made name m es c.in_ok-begun.begun c.in_ok-begun.ensures last c.in_default.ensures c.in_ok-ended.ensures)
