use Rattle.std.proofs.Common.{◌≡◌, ◌++◌, ◌+◌, ◌-◌, List, drop, get_or, length, map, min, replicate, take, refl, ap, ◌∙◌, arith, length-append, length-take}
use Rattle.std.proofs.lemmas.List.{length-map, length-replicate}
use Rattle.ms_linear.specs.declared.value.Value.{Value}
use Rattle.ms_linear.specs.Values.{default_of}
use Rattle.ms_module.specs.refinement.Locals.{types_of}
use Rattle.ms_types.specs.declared.types.ValType.TheVariants.{I32}
use Rattle.ms_module.specs.declared.locals.Run.{Run}
use Rattle.ms_task.specs.refinement.Far.{near}
use Rattle.ms_task.proofs.Calls.{locals_more, rises_on}
use Rattle.ms_task.proofs.near.push_declared.Goals as goal

abbrev no_run : Run
no_run = record { end = 0; ty = I32 }

pub overflow_sub-n : goal.overflow_sub-n
overflow_sub-n c =
    let runs = c.runs-run-items.result.now in
    let i = c.loop-run.run-index in
    let rises = rises_on runs i c.loop-run.from (get_or runs i no_run) no_run c.loop-run-test.true refl c.loop-run.invariant.rise in
    omega (arith, rises.0)

pub push_run-requires : goal.push_run-requires
push_run-requires c =
    let runs = c.runs-run-items.result.now in
    let l = c.loop-run in
    let at = l.run-index in
    let run = get_or runs at no_run in
    let v = l.invariant in
    let here = c.args.items.now.items in
    let types = c.args.types.now in
    let rises = rises_on runs at l.from run no_run c.loop-run-test.true refl v.rise in
    let rest = map default_of (take (near - run.end) (types_of run.end (drop (at + 1) runs))) in
    let more = replicate (min run.end near - l.from) c.of.result in
    let all = locals_more near runs at l.from run no_run c.of.result l.items.items c.loop-run-test.true refl (c.of.ensures ∙ c.default_of.ensures) rises.0 ∙ v.added in
    let long = length-append (l.items.items ++ more) rest in
    let longer = length-append l.items.items more in
    let added = length-replicate (min run.end near - l.from) c.of.result in
    let whole = length-append here (map default_of (take near types)) in
    let mapped = length-map (take near types) default_of in
    let taken = length-take near types in
    omega (arith, ap length all, long, longer, added, whole, mapped, taken, c.min.ensures, c.requires, v.capacity)

pub loop-run-preserved : goal.loop-run-preserved
loop-run-preserved c =
    let runs = c.runs-run-items.result.now in
    let l = c.loop-run in
    let at = l.run-index in
    let run = get_or runs at no_run in
    let v = l.invariant in
    let rises = rises_on runs at l.from run no_run c.loop-run-test.true refl v.rise in
    let rest = map default_of (take (near - run.end) (types_of run.end (drop (at + 1) runs))) in
    let n_is : c.min.result - l.from ≡ min run.end near - l.from = omega (arith, c.min.ensures) in
    record {
      added = ap (λ (x : List Value). x ++ rest) c.push_run.ensures.items
          ∙ (ap (λ k. (l.items.items ++ replicate k c.of.result) ++ rest) n_is ∙ locals_more near runs at l.from run no_run c.of.result l.items.items c.loop-run-test.true refl (c.of.ensures ∙ c.default_of.ensures) rises.0 ∙ v.added);
      rise = rises.1;
      capacity = c.push_run.ensures.capacity ∙ v.capacity;
    }
