use Rattle.ms_run.specs.Answers.{Assembles, OnFile, Unfound, no_file, on_file}
use Rattle.ms_run.specs.Loading.{Text}
use Rattle.ms_run.specs.Observed.{shelved}
use Rattle.ms_run.specs.Reporting.{Holds, IsFound}
use Rattle.ms_run.proofs.Finding.{bytes_more, held_found}
use Rattle.ms_run.proofs.Later.{did_without, makes_later}
use Rattle.ms_run.proofs.convert.asm_file.Goals as goal

pub returns-in-Ok-clause-did : goal.returns-in-Ok-clause-did
returns-in-Ok-clause-did g c =
    let name = c.args.file.now in
    let s = shelved g.F.Shelf.files g.F.Shelf.read_faults g.F.Shelf.write_faults c.args.shelf.now c.asm_bytes.new.shelf in
    let bytes = c.in-Ok.bytes.items in
    let has = bytes_more (Holds s.old) (IsFound s) (held_found s) name bytes c.in-Ok.ensures.bytes in
    makes_later _ _ _ _ _ _ _ _ _ _ _ _ _ _ _ (OnFile (IsFound s) name (Assembles Text c.args.target.now)) (Assembles Text c.args.target.now) bytes (λ a does. on_file bytes has does)
    c.in-Ok.ensures.untouched c.asm_bytes.ensures.reads c.asm_bytes.result c.asm_bytes.ensures.makes

pub returns-in-Err-clause-did : goal.returns-in-Err-clause-did
returns-in-Err-clause-did g c =
    let name = c.args.file.now in
    let s = shelved g.F.Shelf.files g.F.Shelf.read_faults g.F.Shelf.write_faults c.args.shelf.now c.fetch.new.shelf in
    did_without (Unfound (IsFound s) name) (OnFile (IsFound s) name (Assembles Text c.args.target.now)) (λ a h. no_file h) s _ c.in-Err.status c.in-Err.ensures.printed
