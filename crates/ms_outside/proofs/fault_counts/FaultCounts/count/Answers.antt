use Rattle.std.proofs.Common.{refl, sym, ap, ◌≡◌, ◌∙◌, None, option_map, rules, IsNone}
use Rattle.std.specs.FinMap.{get}
use Rattle.ms_outside.specs.Files.{count_of}
use Rattle.ms_outside.proofs.Counts.{count_of-found, counts-begin, counts-rise}
use Rattle.ms_outside.proofs.Kept.{by_name-updated, get-by_name}
use Rattle.ms_outside.proofs.fault_counts.FaultCounts.count.Goals as goal

absent : (c : goal.After-begin) → get c.args.self.now c.args.name.now ≡ None
absent c =
    rw (← c.self.view_is) (get-by_name (λ n. n) c.self.inside.counts.entries c.args.name.now ∙ ap (option_map (λ n. n)) (sym c.in-None.ensures.value))

zero : (c : goal.After-begin) → count_of c.args.self.now c.args.name.now ≡ 0
zero c = rw (absent c) refl

pub returns-in-None-clause-ok : goal.returns-in-None-clause-ok
returns-in-None-clause-ok c = rw (zero c, ← c.self.view_is, ← c.get_mut.follows.holds-at-none) c.begin.ensures.ok

pub returns-in-None-clause-rose : goal.returns-in-None-clause-rose
returns-in-None-clause-rose c =
    counts-begin c.begin.result c.args.self.now c.begin.new.self c.args.name.now (zero c)
    (rw (← c.self.view_is, ← c.get_mut.follows.holds-at-none) c.begin.ensures.ok)

pub returns-in-None-clause-new_name : goal.returns-in-None-clause-new_name
returns-in-None-clause-new_name c = let absent : IsNone (get c.args.self.now c.args.name.now) = rw (absent c) refl in search rules

found : (c : goal.After-self-in-Some-1) → count_of c.args.self.now c.args.name.now ≡ c.in-Some.count.now
found c = rw (← c.self.view_is) (count_of-found c.self.inside.counts.entries c.args.name.now _ c.in-Some.ensures.value)

pub returns-clause-ok : goal.returns-clause-ok
returns-clause-ok c =
    let written = (c.get_mut.follows.holds c.one_more_fault.result).3 (search rules) in
    rw (by_name-updated (λ n. n) c.self.inside.counts (c.get_mut.follows.lender c.one_more_fault.result) _ _ written, c.one_more_fault.ensures.exact, found c, ← c.self.view_is) refl

pub returns-clause-rose : goal.returns-clause-rose
returns-clause-rose c =
    rw (returns-clause-ok c) (counts-rise c.args.self.now c.args.name.now _ (rw (found c, ← c.one_more_fault.ensures.exact) c.one_more_fault.ensures.counts))
