use Rattle.ms_tasks.specs.declared.parts.Kind.TheVariants.{Memories, Tables}
use Rattle.ms_tasks.proofs.Noting.{alike_kept, whole_from, with_funcs_kept}
use Rattle.ms_tasks.proofs.parts.join_all.Goals as goal

pub returns : goal.returns
returns g c =
    let s = c.args.store.now in
    let p0 = c.join_funcs.new.parts in
    let p1 = c.join_kind.new.parts in
    let p2 = c.join_kind-2.new.parts in
    let p3 = c.join_kind-3.new.parts in
    let k1 = c.in_ok-join_kind.ensures in
    let k2 = c.in_ok-join_kind-2.ensures in
    let k3 = c.in_ok-join_kind-3.ensures in
    whole_from s p3 k3.parts (λ n. with_funcs_kept s p0 p3 n (λ m k together. k3.kept m k (k2.kept m k (k1.kept m k together))) (c.join_funcs.ensures.joins n))
    (alike_kept s Tables p1 p3 (λ m k together. k3.kept m k (k2.kept m k together)) k1.alike)
    (alike_kept s Memories p2 p3 k3.kept k2.alike)
    k3.alike
