use Rattle.std.proofs.Common.{sym, ◌∙◌}
use Rattle.ms_task.proofs.Beginnings.{all_begun, begins_behind, first_begun, first_stacked, first_within, long_directory, long_items, long_written, read_first}
use Rattle.ms_task.proofs.far.read.Goals as goal

pub read_last-requires-clause-begun : goal.read_last-requires-clause-begun
read_last-requires-clause-begun c = all_begun c.args.far.now c.args.p c.begun-k.result c.begun-k.ensures.parted c.in-None.ensures.lookup.3

pub slice_bounds-read_last-end : goal.slice_bounds-read_last-end
slice_bounds-read_last-end c =
    let h = c.in-Some.ensures.lookup in
    long_items c.args.far.now c.begun-k.result c.in-Some.f.now h.3.0 (sym h.1) c.args.items.now c.args.directory.now c.args.written.now c.requires.stacked

pub slice_bounds-read_last-end-in-Some-2 : goal.slice_bounds-read_last-end-in-Some-2
slice_bounds-read_last-end-in-Some-2 c =
    let h = c.in-Some.ensures.lookup in
    long_directory c.args.far.now c.begun-k.result c.in-Some.f.now h.3.0 (sym h.1) c.args.items.now c.args.directory.now c.args.written.now c.requires.stacked

pub slice_bounds-read_last-end-in-Some-3 : goal.slice_bounds-read_last-end-in-Some-3
slice_bounds-read_last-end-in-Some-3 c =
    let h = c.in-Some.ensures.lookup in
    long_written c.args.far.now c.begun-k.result c.in-Some.f.now h.3.0 (sym h.1) c.args.items.now c.args.directory.now c.args.written.now c.requires.stacked

pub read_last-requires-in-Some-clause-stacked : goal.read_last-requires-in-Some-clause-stacked
read_last-requires-in-Some-clause-stacked c =
    let h = c.in-Some.ensures.lookup in
    first_stacked c.args.far.now c.begun-k.result c.in-Some.f.now h.3.0 (sym h.1) c.args.items.now c.args.directory.now c.args.written.now c.requires.stacked

pub read_last-requires-in-Some-clause-within : goal.read_last-requires-in-Some-clause-within
read_last-requires-in-Some-clause-within c =
    let h = c.in-Some.ensures.lookup in
    let behind = begins_behind c.args.far.now c.args.p c.begun-k.result c.begun-k.ensures.parted c.in-Some.f.now h.3.0 (sym h.1) in
    first_within c.args.far.now c.begun-k.result c.in-Some.f.now h.3.0 (sym h.1) c.args.items.now c.args.directory.now c.args.written.now c.requires.stacked c.args.p behind

pub read_last-requires-in-Some-clause-begun : goal.read_last-requires-in-Some-clause-begun
read_last-requires-in-Some-clause-begun c = first_begun c.args.far.now c.args.p c.begun-k.result c.begun-k.ensures.parted c.begun-k.ensures.within

pub returns-in-Some : goal.returns-in-Some
returns-in-Some c =
    let h = c.in-Some.ensures.lookup in
    let behind = begins_behind c.args.far.now c.args.p c.begun-k.result c.begun-k.ensures.parted c.in-Some.f.now h.3.0 (sym h.1) in
    read_first c.args.far.now c.begun-k.result c.in-Some.f.now h.3.0 (sym h.1) c.args.items.now c.args.directory.now c.args.written.now c.requires.stacked c.args.p behind
    ∙ c.read_last-in-Some.ensures
