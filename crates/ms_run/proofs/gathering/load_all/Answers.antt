use Rattle.std.proofs.Common.{◌∙◌, ◌+◌, ◌∷◌, [], ◌++◌, drop, List, ℕ, Some, ap, refl, sym, subst, arith}
use Rattle.std.specs.Prelude.{Option}
use Rattle.std.proofs.lemmas.Option.{slice_get-get_or}
use Rattle.ms_module.specs.declared.module.Module.{Module}
use Rattle.ms_outside.specs.Files.{Files}
use Rattle.ms_run.specs.Answers.{Answer, HasModule, Unloaded}
use Rattle.ms_run.specs.Jobs.{FirstUnloaded, what_of}
use Rattle.ms_run.specs.Observed.{shelved}
use Rattle.ms_run.specs.Reporting.{Holds, IsFound}
use Rattle.ms_run.proofs.Finding.{unloaded_more}
use Rattle.ms_run.proofs.Gathered.{IsLoading, first_printed, none_loaded, one_loaded, starved_printed}
use Rattle.ms_run.proofs.Later.{found_later, tells_later, untouched_later}
use Rattle.ms_run.proofs.gathering.load_all.Goals as goal

pub loop-named-init : goal.loop-named-init
loop-named-init g c =
    let files = g.F.Shelf.files c.args.shelf.now in (
      subst (λ (ms : List (List ℕ × Module)). IsLoading files c.args.files.now c.args.files.now ms 0) (sym c.new-modules.ensures.items) (none_loaded files c.args.files.now),
      refl,
      record { counts = λ n. refl; files = (refl, refl); report = (refl, refl) },
    )

pub returns-in-Err-clause-printed : goal.returns-in-Err-clause-printed
returns-in-Err-clause-printed g c =
    let l = c.loop-named in
    let whole = c.args.files.now in
    let item = c.named-item.result in
    let now = c.load_named.new in
    let s = shelved g.F.Shelf.files g.F.Shelf.read_faults g.F.Shelf.write_faults c.args.shelf.now now.shelf in
    let here = shelved g.F.Shelf.files g.F.Shelf.read_faults g.F.Shelf.write_faults l.shelf now.shelf in
    let found = slice_get-get_or whole l.named-index item c.loop-named-test.true ∙ ap Some (sym c.named-item.is) in
    let more = found_later _ _ (g.F.Shelf.files now.shelf) _ _ _ _ _ (g.F.Shelf.write_faults now.shelf) _ _ (g.R.Sink.held now.report) _ _ (g.R.Sink.faults now.report) l.invariant.2 in
    tells_later _ _ _ _ _ _ _ _ _ _ _ _ _ _ _ (Unloaded (IsFound here) (what_of c.args.naming l.number) item.1) (FirstUnloaded (IsFound s) c.args.naming 0 whole)
    (λ (a : Answer) (h : Unloaded (IsFound here) (what_of c.args.naming l.number) item.1 a).
    first_printed s c.args.naming whole l.modules.items l.number l.named-index item found l.invariant.0 a (unloaded_more (IsFound here) (IsFound s) more (what_of c.args.naming l.number) item.1 a h))
    l.invariant.2 c.in-Err.status c.in-Err.ensures.printed

pub returns-in_default-clause-printed : goal.returns-in_default-clause-printed
returns-in_default-clause-printed g c =
    let s = shelved g.F.Shelf.files g.F.Shelf.read_faults g.F.Shelf.write_faults c.args.shelf.now c.load_named.new.shelf in
    starved_printed (FirstUnloaded (IsFound s) c.args.naming 0 c.args.files.now) s _ (untouched_later _ _ _ _ _ _ _ _ _ _ _ _ _ _ _ c.loop-named.invariant.2 c.in-Ok.ensures.untouched)

pub loop-named-preserved : goal.loop-named-preserved
loop-named-preserved g c =
    let l = c.loop-named in
    let files = g.F.Shelf.files c.args.shelf.now in
    let whole = c.args.files.now in
    let item = c.named-item.result in
    let loaded = c.in-Ok.loaded in
    let found = slice_get-get_or whole l.named-index item c.loop-named-test.true ∙ ap Some (sym c.named-item.is) in
    let has = subst (λ (x : Option Files). HasModule (Holds x) item.1 loaded.1) l.invariant.2.files.0 c.in-Ok.ensures.module in
    let pushed = ap (λ (n : List ℕ). l.modules.items ++ (n, loaded.1) ∷ []) (sym c.in-Ok.ensures.name) ∙ sym c.in-Ok-push.ensures.items in
    let number = l.invariant.1 in (
      subst (λ (ms : List (List ℕ × Module)). IsLoading files whole (drop (l.named-index + 1) whole) ms (l.number + 1)) pushed
          (one_loaded files whole l.modules.items l.number l.named-index item loaded.1 found l.invariant.0 has),
      omega (arith, number),
      untouched_later _ _ _ _ _ _ _ _ _ _ _ _ _ _ _ l.invariant.2 c.in-Ok.ensures.untouched,
    )
