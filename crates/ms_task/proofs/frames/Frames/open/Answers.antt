use Rattle.std.proofs.Common.{◌≡◌, ◌==◌, ◌∷◌, refl, sym, true, ◌+◌, ◌++◌, ◌≤◌, List, [], length, reverse, map, min, take, drop, ap, subst, ◌∙◌, arith}
use Rattle.std.specs.Vec.{vec_len}
use Rattle.ms_linear.specs.declared.value.Value.{Value}
use Rattle.ms_linear.specs.Values.{default_of}
use Rattle.ms_task.specs.declared.far.Far.{Far}
use Rattle.ms_task.specs.refinement.Far.{all_of, near, total}
use Rattle.ms_task.specs.refinement.Frames.{split}
use Rattle.ms_task.proofs.Laid.{near_long, opened_near}
use Rattle.ms_task.proofs.frames.Frames.open.Goals as goal

nothing : {X : Type 0} (xs : List X) → length xs ≡ 0 → xs ≡ []
nothing [] e = refl
nothing (x ∷ xs) e = absurd (omega (arith, e))

pub returns-clause-locals : goal.returns-clause-locals
returns-clause-locals c =
    let l = c.self.inside in
    let fs = reverse l.far.items in
    let items = l.items.items in
    let items' = c.fill.new.items.items in
    let args = reverse (take c.args.n c.args.operands.now) in
    let types = c.args.types.now in
    let m = c.in-Some.near in
    let k = c.len-self-inside.result in
    let is : (vec_len l.far == 0) ≡ true = sym c.is_empty.ensures ∙ c.if-not-is_empty.false in
    let zero : vec_len l.far ≡ 0 = grind (arith, is) in
    let none : l.far.items ≡ [] = nothing l.far.items (omega (arith, zero)) in
    let no_far : total fs ≡ 0 = ap (λ (x : List Far). total (reverse x)) none in
    let at : l.len ≡ c.len-start.result = omega (arith, c.if-self-start.false) in
    let is_whole : l.len ≡ length items + total fs = omega (arith, no_far, at, c.len-start.ensures) in
    let are = c.fill.ensures ∙ ap (λ (x : List Value). (x ++ args) ++ map default_of (take near types)) c.reserve.ensures.items in
    let long : c.args.n + min (length types) near + length items ≡ length items' = near_long items items' c.args.operands.now types c.args.n c.requires are in
    let few : length types ≤ near = omega (arith, c.if-declared.false, c.len-declared.ensures.len) in
    let n_is : m + length items ≡ length items' = omega (arith, long, few, c.in-Some.ensures, c.len-declared.ensures.len) in
    let k_is : k ≡ l.len + m = omega (arith, n_is, at, c.len-start.ensures, c.len-self-inside.ensures) in
    subst (λ (v : List Value × List Value). split c.len-start.result (take k (all_of fs items' l.directory.items l.written.items)) ≡ (v.0 ++ v.1, args ++ map default_of types)) c.self.view_is
    (subst (λ s. split s (take k (all_of fs items' l.directory.items l.written.items)) ≡ (take l.base (take l.len (all_of fs items l.directory.items l.written.items)) ++ drop l.base (take l.len (all_of fs items l.directory.items l.written.items)), args ++ map default_of types)) at
    (opened_near fs items l.directory.items l.written.items l.start l.base l.len c.self.invariant is_whole items' args types are m k n_is k_is few))
