use Rattle.std.proofs.Common.{get_or, slice_get, sym, ap, subst, ◌∙◌, take, arith}
use Rattle.std.specs.List.{All}
use Rattle.std.proofs.lemmas.List.{take_all}
use Rattle.std.proofs.lemmas.List.Elements.{All-more, All-nil, All-weaker}
use Rattle.std.proofs.lemmas.Option.{slice_get-get_or}
use Rattle.ms_tasks.specs.refinement.Parting.{IsWithFunc}
use Rattle.ms_tasks.proofs.Noting.{address_below, definer_joined, definer_there, definer_with, is_there, with_func_kept}
use Rattle.ms_tasks.proofs.parts.join_definers.Goals as goal

pub loop-i-init : goal.loop-i-init
loop-i-init g c = record {
  kept = λ m k together. together;
  parts = c.requires.parts;
  joins = All-nil (IsWithFunc c.args.store.now c.args.parts.now c.args.n);
}

pub definer-m-requires : goal.definer-m-requires
definer-m-requires g c =
    let i = c.loop-i.i in
    let xs = c.args.addresses.now in
    let w = c.requires.names in
    address_below c.args.store.now c.args.n i (get_or xs i 0) w.0 c.requires.typed w.1 (ap (λ ys. slice_get ys i) (sym w.2) ∙ slice_get-get_or xs i 0 c.loop-i-test.true)

pub put_together-requires-clause-i : goal.put_together-requires-clause-i
put_together-requires-clause-i g c = is_there c.args.store.now c.loop-i.parts c.args.n c.requires.names.0 c.loop-i.invariant.parts c.requires.names.1

pub put_together-requires-clause-j : goal.put_together-requires-clause-j
put_together-requires-clause-j g c =
    let i = c.loop-i.i in
    let xs = c.args.addresses.now in
    let w = c.requires.names in
    let lt = definer_there c.args.store.now c.args.n i (get_or xs i 0) c.definer-m.result w.0 c.requires.typed w.1 (ap (λ ys. slice_get ys i) (sym w.2) ∙ slice_get-get_or xs i 0 c.loop-i-test.true) c.definer-m.ensures in
    let e = c.loop-i.invariant.parts.each in
    omega (arith, lt, e)

pub loop-i-preserved : goal.loop-i-preserved
loop-i-preserved g c =
    let l = c.loop-i in
    let v = l.invariant in
    let s = c.args.store.now in
    let n = c.args.n in
    let i = l.i in
    let xs = c.args.addresses.now in
    let w = c.requires.names in
    let m = c.definer-m.result in
    let p = c.put_together.ensures in
    let new = c.put_together.new.parts in
    let names = ap (λ ys. slice_get ys i) (sym w.2) ∙ slice_get-get_or xs i 0 c.loop-i-test.true in
    record {
      kept = λ j k together. p.kept j k (v.kept j k together);
      parts = p.sound s v.parts (definer_joined s n i (get_or xs i 0) m w.0 c.requires.typed w.1 names c.definer-m.ensures);
      joins = All-more (IsWithFunc s new n) xs i 0 c.loop-i-test.true (All-weaker (IsWithFunc s l.parts n) (IsWithFunc s new n) (with_func_kept s l.parts new n p.kept) (take i xs) v.joins)
          (definer_with s n i (get_or xs i 0) m w.0 c.requires.typed w.1 names c.definer-m.ensures new p.together);
    }

pub returns-clause-joins : goal.returns-clause-joins
returns-clause-joins g c =
    let l = c.loop-i in
    subst (λ xs. All (IsWithFunc c.args.store.now l.parts c.args.n) xs) (take_all l.i c.args.addresses.now (omega (arith, c.loop-i-test.false))) l.invariant.joins
