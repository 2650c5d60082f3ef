use Rattle.std.proofs.Common.{sym, ap, ◌∙◌, arith, rules, refl, ◌≡◌, ◌++◌, replicate, set, length, ◌-◌, ◌≢◌, suc, ℕ, get_or}
use Rattle.std.specs.Vec.{vec_len}
use Rattle.std.proofs.lemmas.List.{set-get_or}
use denote.Enum.Bare.{same_false, same_true}
use Rattle.ms_types.specs.contracts.types.ValType.{the_type}
use Rattle.ms_types.specs.declared.types.ValType.{ValType}
use Rattle.ms_module.specs.declared.locals.Run.{Run}
use Rattle.ms_module.specs.declared.locals.Locals.TheInside.{Inside}
use Rattle.ms_module.proofs.Runs.{Differ-push, Differ-set, longer, same_at, Rise-more, types_of-more, Rise-longer, types_of-longer}
use Rattle.ms_module.proofs.locals.Locals.push.Goals as goal
use Rattle.ms_module.proofs.locals.Locals.push.Goals.{in_default-via-in-Some+else-eq, in_default-via-in-None-1}

pub invariant_of-self : goal.invariant_of-self
invariant_of-self c =
    let items = c.self.inside.runs.items in
    let last : suc (vec_len c.self.inside.runs - 1) ≡ length items = omega (arith, c.in-Some.ensures.variant.0 refl) in
    let rise = Rise-longer items c.args.self.now c.self.view_is c.self.invariant.0 c.end.result c.args.count c.in-Some.run'.now.ty c.end.ensures _ last (omega arith) in
    let ty = ap (λ (r : Run). r.ty) (sym c.in-Some.ensures.value) in
    (rise, Differ-set items _ _ c.in-Some.run'.now ty c.self.invariant.1)

-- the runs before the last one is added
same_runs : (c : goal.In_ok-add-in_default) → c.in_default.self-inside.runs.items ≡ c.self.inside.runs.items
same_runs c = elim c.in_default.branch [
  | in_default-via-in-Some+else-eq w ↦
      let items = c.self.inside.runs.items in
      ap (λ (i : Inside). i.runs.items) w.self-inside-is ∙ (ap (λ (r : Run). set items (vec_len c.self.inside.runs - 1) r) w.in-Some.ensures.value ∙ set-get_or items (vec_len c.self.inside.runs - 1) w.in-Some.run'.now)
  | in_default-via-in-None-1 w ↦ ap (λ (i : Inside). i.runs.items) w.self-inside-is
]

-- a last run has another type
other_type : (c : goal.In_ok-add-in_default) (r : Run) (k : ℕ) → suc k ≡ length c.self.inside.runs.items → get_or c.self.inside.runs.items k r ≡ r → r.ty ≢ c.args.ty
other_type c r k last is e = elim c.in_default.branch [
  | in_default-via-in-Some+else-eq w ↦
      let items = c.self.inside.runs.items in
      let run : w.in-Some.run'.now ≡ get_or items (vec_len c.self.inside.runs - 1) w.in-Some.run'.now = w.in-Some.ensures.value in
      let at : vec_len c.self.inside.runs - 1 ≡ k = omega (arith, last) in
      let same = same_at items k r w.in-Some.run'.now (omega (arith, last)) is (sym (rw at at run)) in
      same_false the_type w.in-Some.run'.now.ty c.args.ty (sym w.if-eq.ensures) (ap (λ (q : Run). q.ty) same ∙ e)
  | in_default-via-in-None-1 w ↦ absurd (omega (arith, last, w.in-None-1.ensures.1.1.3))
]

pub invariant_of-self-in-Continue-1 : goal.invariant_of-self-in-Continue-1
invariant_of-self-in-Continue-1 c =
    let items = c.self.inside.runs.items in
    let rise = Rise-more items c.args.self.now c.self.view_is c.self.invariant.0 c.end.result c.args.count c.args.ty c.end.ensures (omega arith) in
    rw (c.in_ok-add-in_default.ensures.items, same_runs c) (rise, Differ-push items (longer c.end.result c.args.count c.args.ty) c.self.invariant.1 (other_type c))

pub returns-in-Some : goal.returns-in-Some
returns-in-Some c =
    let last : suc (vec_len c.self.inside.runs - 1) ≡ length c.self.inside.runs.items = omega (arith, c.in-Some.ensures.variant.0 refl) in
    let same : c.in-Some.run'.now.ty ≡ c.args.ty = same_true the_type (search rules) _ _ (sym c.if-eq.ensures) in
    let ty = ap (λ (r : Run). r.ty) (sym c.in-Some.ensures.value) in
    let is = types_of-longer c.self.inside.runs.items c.args.self.now c.self.view_is c.self.invariant.0 c.end.result c.args.count c.in-Some.run'.now.ty c.end.ensures _ c.in-Some.run'.now last (omega arith) ty in
    is ∙ ap (λ (t : ValType). c.args.self.now ++ replicate c.args.count t) same

pub returns-in_ok-add-in_default : goal.returns-in_ok-add-in_default
returns-in_ok-add-in_default c =
    let more = types_of-more c.self.inside.runs.items c.args.self.now c.self.view_is c.self.invariant.0 c.end.result c.args.count c.args.ty c.end.ensures in
    rw (c.in_ok-add-in_default.ensures.items, same_runs c) more
