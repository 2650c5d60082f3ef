use Rattle.std.proofs.Common.{◌≡◌, ◌+◌, ◌++◌, ◌≤◌, List, length, reverse, map, min, take, refl, sym, ap, subst, ◌∙◌, arith}
use Rattle.ms_linear.specs.declared.value.Value.{Value}
use Rattle.ms_linear.specs.Values.{default_of}
use Rattle.ms_task.specs.declared.far.Far.{Far}
use Rattle.ms_task.specs.refinement.Far.{IsPushed, all_of, near, total}
use Rattle.ms_task.specs.refinement.Frames.{AreLaid, split}
use Rattle.ms_task.proofs.Laid.{grown_laid, kept_long, near_long, opened_far, opened_far_laid, opened_near, opened_near_laid}
use Rattle.ms_task.proofs.Stacked.{stacked_in_more}
use Rattle.ms_task.proofs.frames.Frames.open_far.Goals as goal

pub invariant_of-self-then-declared : goal.invariant_of-self-then-declared
invariant_of-self-then-declared c =
    let l = c.self.inside in
    let fs = reverse l.far.items in
    let items = l.items.items in
    let items' = c.fill.new.items.items in
    let args = reverse (take c.args.n c.args.operands.now) in
    let types = c.args.types.now in
    let m = c.in-Some.near in
    let k = c.in-Some-checked_add.first in
    let hidden : c.count_of-hidden.result ≡ total fs = c.count_of-hidden.ensures ∙ ap (λ (x : List Far). total (reverse x)) c.deref.ensures.value in
    let is_whole : l.len ≡ length items + total fs = omega (arith, hidden, c.if-below-hidden.false, c.if-below-hidden-2.false) in
    let are = c.fill.ensures ∙ ap (λ (x : List Value). (x ++ args) ++ map default_of (take near types)) c.reserve.ensures.items in
    let long : c.args.n + min (length types) near + length items ≡ length items' = near_long items items' c.args.operands.now types c.args.n c.requires are in
    let n_is : m + length items ≡ length items' = omega (arith, long, c.in-Some.ensures, c.min.ensures, c.len-declared.ensures.len) in
    let k_is : k ≡ l.len + m = omega (arith, c.in-Some-checked_add.ensures) in
    let at : length items ≡ c.len-start.result = omega arith in
    subst (λ s. AreLaid fs (length items') (length l.directory.items) (length l.written.items) s l.len k) at
    (opened_near_laid fs l.items.items l.directory.items l.written.items l.start l.base l.len c.self.invariant is_whole items' args types are m k n_is k_is)

pub returns-then-declared-clause-base : goal.returns-then-declared-clause-base
returns-then-declared-clause-base c =
    let l = c.self.inside in
    let fs = reverse l.far.items in
    sym (subst (λ (v : List Value × List Value). length v.0 ≡ l.base) c.self.view_is (kept_long fs l.items.items l.directory.items l.written.items l.start l.base l.len c.self.invariant))

pub returns-then-declared-clause-locals : goal.returns-then-declared-clause-locals
returns-then-declared-clause-locals c =
    let l = c.self.inside in
    let fs = reverse l.far.items in
    let items = l.items.items in
    let items' = c.fill.new.items.items in
    let args = reverse (take c.args.n c.args.operands.now) in
    let types = c.args.types.now in
    let m = c.in-Some.near in
    let k = c.in-Some-checked_add.first in
    let hidden : c.count_of-hidden.result ≡ total fs = c.count_of-hidden.ensures ∙ ap (λ (x : List Far). total (reverse x)) c.deref.ensures.value in
    let is_whole : l.len ≡ length items + total fs = omega (arith, hidden, c.if-below-hidden.false, c.if-below-hidden-2.false) in
    let are = c.fill.ensures ∙ ap (λ (x : List Value). (x ++ args) ++ map default_of (take near types)) c.reserve.ensures.items in
    let long : c.args.n + min (length types) near + length items ≡ length items' = near_long items items' c.args.operands.now types c.args.n c.requires are in
    let n_is : m + length items ≡ length items' = omega (arith, long, c.in-Some.ensures, c.min.ensures, c.len-declared.ensures.len) in
    let k_is : k ≡ l.len + m = omega (arith, c.in-Some-checked_add.ensures) in
    let few : length types ≤ near = omega (arith, c.if-declared.true, c.len-declared.ensures.len) in
    subst (λ (v : List Value × List Value). split l.len (take k (all_of fs items' l.directory.items l.written.items)) ≡ (v.0 ++ v.1, args ++ map default_of types)) c.self.view_is
    (opened_near fs l.items.items l.directory.items l.written.items l.start l.base l.len c.self.invariant is_whole items' args types are m k n_is k_is few)

pub push-requires : goal.push-requires
push-requires c =
    let l = c.self.inside in
    let fs = reverse l.far.items in
    let at = c.len-start.result + c.in-Some.near in
    (length l.written.items, stacked_in_more fs (length l.items.items) (length l.directory.items) (length l.written.items) at (length l.directory.items) (length l.written.items) (omega arith) (omega arith) (omega arith) c.self.invariant.stacked)

pub invariant_of-self-in_err-len : goal.invariant_of-self-in_err-len
invariant_of-self-in_err-len c =
    let l = c.self.inside in
    let fs = reverse l.far.items in
    let ds' = c.push.new.directory.items in
    subst (λ (x : List Value). AreLaid (reverse c.push.new.far.items) (length x) (length ds') (length l.written.items) l.start l.base l.len) (sym c.reserve.ensures.items)
    (subst (λ (x : List Far). AreLaid (reverse x) (length l.items.items) (length ds') (length l.written.items) l.start l.base l.len) (sym c.in_err-len.ensures.err)
    (grown_laid fs l.items.items l.directory.items l.written.items l.start l.base l.len c.self.invariant (length ds') c.in_err-len.ensures.more))

pub invariant_of-self-2 : goal.invariant_of-self-2
invariant_of-self-2 c =
    let l = c.self.inside in
    let fs = reverse l.far.items in
    let items = l.items.items in
    let items' = c.fill-2.new.items.items in
    let args = reverse (take c.args.n c.args.operands.now) in
    let types = c.args.types.now in
    let m = c.in-Some.near in
    let k = c.in-Some-checked_add.first in
    let hidden : c.count_of-hidden.result ≡ total fs = c.count_of-hidden.ensures ∙ ap (λ (x : List Far). total (reverse x)) c.deref.ensures.value in
    let is_whole : l.len ≡ length items + total fs = omega (arith, hidden, c.if-below-hidden.false, c.if-below-hidden-2.false) in
    let are = c.fill-2.ensures ∙ ap (λ (x : List Value). (x ++ args) ++ map default_of (take near types)) c.reserve.ensures.items in
    let long : c.args.n + min (length types) near + length items ≡ length items' = near_long items items' c.args.operands.now types c.args.n c.requires are in
    let n_is : m + length items ≡ length items' = omega (arith, long, c.in-Some.ensures, c.min.ensures, c.len-declared.ensures.len) in
    let k_is : k ≡ l.len + m = omega (arith, c.in-Some-checked_add.ensures) in
    let ds' = c.push.new.directory.items in
    let ok = c.in_ok-len.ensures.ok in
    let f = ok.0 in
    let here : IsPushed l.far.items c.push.new.far.items f (length items') k (length l.written.items) types = record {
      pushed = ok.1.pushed;
      lies_at = omega (arith, ok.1.lies_at, n_is);
      lies_first = ok.1.lies_first;
      ends = ok.1.ends;
      in_directory = ok.1.in_directory;
      in_written = omega (arith, ok.1.in_written);
      of_types = ok.1.of_types;
    } in
    let at : length items ≡ c.len-start.result = omega arith in
    subst (λ e. AreLaid (reverse c.push.new.far.items) (length items') (length ds') (length l.written.items) c.len-start.result l.len e) (sym ok.2)
    (subst (λ s. AreLaid (reverse c.push.new.far.items) (length items') (length ds') (length l.written.items) s l.len f.end) at
    (opened_far_laid fs l.items.items l.directory.items l.written.items l.start l.base l.len c.self.invariant is_whole items' args types are m k n_is k_is l.far.items c.push.new.far.items f ds' refl here c.in_ok-len.ensures.low c.in_ok-len.ensures.more ok.3))

pub returns-clause-base : goal.returns-clause-base
returns-clause-base c =
    let l = c.self.inside in
    let fs = reverse l.far.items in
    sym (subst (λ (v : List Value × List Value). length v.0 ≡ l.base) c.self.view_is (kept_long fs l.items.items l.directory.items l.written.items l.start l.base l.len c.self.invariant))

pub returns-clause-locals : goal.returns-clause-locals
returns-clause-locals c =
    let l = c.self.inside in
    let fs = reverse l.far.items in
    let items = l.items.items in
    let items' = c.fill-2.new.items.items in
    let args = reverse (take c.args.n c.args.operands.now) in
    let types = c.args.types.now in
    let m = c.in-Some.near in
    let k = c.in-Some-checked_add.first in
    let hidden : c.count_of-hidden.result ≡ total fs = c.count_of-hidden.ensures ∙ ap (λ (x : List Far). total (reverse x)) c.deref.ensures.value in
    let is_whole : l.len ≡ length items + total fs = omega (arith, hidden, c.if-below-hidden.false, c.if-below-hidden-2.false) in
    let are = c.fill-2.ensures ∙ ap (λ (x : List Value). (x ++ args) ++ map default_of (take near types)) c.reserve.ensures.items in
    let long : c.args.n + min (length types) near + length items ≡ length items' = near_long items items' c.args.operands.now types c.args.n c.requires are in
    let n_is : m + length items ≡ length items' = omega (arith, long, c.in-Some.ensures, c.min.ensures, c.len-declared.ensures.len) in
    let k_is : k ≡ l.len + m = omega (arith, c.in-Some-checked_add.ensures) in
    let ds' = c.push.new.directory.items in
    let ok = c.in_ok-len.ensures.ok in
    let f = ok.0 in
    let here : IsPushed l.far.items c.push.new.far.items f (length items') k (length l.written.items) types = record {
      pushed = ok.1.pushed;
      lies_at = omega (arith, ok.1.lies_at, n_is);
      lies_first = ok.1.lies_first;
      ends = ok.1.ends;
      in_directory = ok.1.in_directory;
      in_written = omega (arith, ok.1.in_written);
      of_types = ok.1.of_types;
    } in
    subst (λ (v : List Value × List Value). split l.len (take c.in_ok-len.len (all_of (reverse c.push.new.far.items) items' ds' l.written.items)) ≡ (v.0 ++ v.1, args ++ map default_of types)) c.self.view_is
    (ap (λ e. split l.len (take e (all_of (reverse c.push.new.far.items) items' ds' l.written.items))) ok.2
    ∙ opened_far fs l.items.items l.directory.items l.written.items l.start l.base l.len c.self.invariant is_whole items' args types are m k n_is k_is l.far.items c.push.new.far.items f ds' refl here c.in_ok-len.ensures.low c.in_ok-len.ensures.more ok.3)
