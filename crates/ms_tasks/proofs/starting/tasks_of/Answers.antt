use Rattle.std.proofs.Common.{◌≡◌, ◌+◌, ◌∷◌, ◌++◌, [], List, Some, drop, map, sym, ap, subst, ◌∙◌, arith}
use Rattle.std.proofs.lemmas.List.{map_push}
use Rattle.std.proofs.lemmas.Option.{slice_get-get_or}
use Rattle.ms_task.specs.Thread.{Thread}
use Rattle.ms_task.specs.refinement.View.{thread_of}
use Rattle.ms_tasks.specs.refinement.Rows.{threads_in}
use Rattle.ms_tasks.specs.Tasks.{task_address, threads_from}
use Rattle.ms_tasks.proofs.Making.{begun_thread, addresses_grow, joined, task_found, tasks_grow}
use Rattle.ms_tasks.proofs.starting.tasks_of.Goals as goal

pub loop-named-preserved : goal.loop-named-preserved
loop-named-preserved g c =
    let l = c.loop-named in
    let s = c.args.store.now in
    let tasks = c.args.tasks.now in
    let k = l.named-index in
    let item = c.named-item.result in
    let a = c.in-Some.address in
    let t = c.in-Ok.task in
    let found = slice_get-get_or tasks k item c.loop-named-test.true ∙ ap Some (sym c.named-item.is) in
    let at : task_address s item.0 item.1 ≡ Some a = ap (task_address s item.0) (sym c.as_str.ensures) ∙ (sym c.task_address.ensures ∙ c.in-Some.is) in
    let rest = threads_in s l.all.items in
    let pushed : rest ++ thread_of s.funcs t ∷ [] ≡ threads_in s c.push.new.self.items = sym (map_push (thread_of s.funcs) l.all.items t) ∙ ap (threads_in s) (sym c.in-Ok-push.ensures.items) in
    let number = l.invariant.number in record {
      threads = subst (λ (ts : List Thread). joined ts (threads_from s (drop (k + 1) tasks) (k + 1)) ≡ threads_from s tasks 0) pushed
          (tasks_grow s (threads_from s tasks 0) rest tasks k item a (thread_of s.funcs t) found at (begun_thread s t a (task_found s item.0 item.1 a at) c.in-Ok.ensures.start) l.invariant.threads);
      number = omega (arith, number);
      addresses = ap (λ hs. map Some hs ++ map (λ t. task_address s t.0 t.1) (drop (k + 1) tasks)) c.in-Ok-push-2.ensures.items
          ∙ addresses_grow (λ t. task_address s t.0 t.1) l.addresses.items tasks k item a found at l.invariant.addresses;
    }
