use Rattle.std.proofs.Common.{◌≡◌, subst, sym}
use Rattle.c_typed.specs.declared.ops.Variable.{Variable}
use Rattle.c_typed.specs.Objects.{in_expr}
use Rattle.c_typed.specs.Tree.{address, of}
use Rattle.c_place.specs.refinement.Marks.{Marks, marked}
use Rattle.c_place.proofs.Marking.{mark_global, mark_local, marks}
use Rattle.c_place.proofs.marks.Marks.mark.Goals as goal

pub returns-in-Local : goal.returns-in-Local
returns-in-Local c =
    let old = c.self.inside in
    let new = marks c.set.new.flags.items old.globals.items in
    subst (λ (k : Marks). new ≡ marked (λ u. in_expr u (address (of c.args.v))) k) c.self.view_is
    (subst (λ (v : Variable). new ≡ marked (λ u. in_expr u (address (of v))) (marks old.locals.items old.globals.items)) (sym c.in-Local.is)
    (mark_local old.locals.items c.set.new.flags.items old.globals.items c.in-Local.n c.set.ensures))

pub returns-in-Global : goal.returns-in-Global
returns-in-Global c =
    let old = c.self.inside in
    let new = marks old.locals.items c.set-in-Global.new.flags.items in
    subst (λ (k : Marks). new ≡ marked (λ u. in_expr u (address (of c.args.v))) k) c.self.view_is
    (subst (λ (v : Variable). new ≡ marked (λ u. in_expr u (address (of v))) (marks old.locals.items old.globals.items)) (sym c.in-Global.is)
    (mark_global old.locals.items old.globals.items c.set-in-Global.new.flags.items c.in-Global.n c.set-in-Global.ensures))
