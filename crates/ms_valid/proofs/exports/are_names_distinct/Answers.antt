use Rattle.std.proofs.Common.{◌≡◌, Bool, true, false, not, List, ℕ, refl, sym, ap, ◌∙◌, take, get_or}
use Rattle.std.specs.List.{list_any}
use Rattle.std.specs.Str.{bytes_eq}
use Rattle.ms_module.specs.declared.module.Export.{Export}
use Rattle.ms_valid.proofs.Distinct.{inserted, name_repeats, names, seen_more, still_distinct}
use Rattle.ms_valid.proofs.exports.are_names_distinct.Goals as goal

was_not : (a b : Bool) → a ≡ not b → a ≡ false → b ≡ true
was_not a true e f = refl
was_not a false e f = absurd cc

was : (a b : Bool) → a ≡ not b → a ≡ true → b ≡ false
was a true e f = absurd cc
was a false e f = refl

-- the test at the name of the item, from that at the key
at_name : (key name : List ℕ) (xs : List (List ℕ)) (b : Bool) → key ≡ name → list_any (bytes_eq key) xs ≡ b → list_any (bytes_eq name) xs ≡ b
at_name key name xs b is h = rw is at h

pub returns-then-not-branch : goal.returns-then-not-branch
returns-then-not-branch c =
    let l = c.loop-export in
    let e = c.export-item.result in
    let exports = c.args.exports.now in
    let name : c.as_str.result.now ≡ (get_or exports l.export-index e).name = c.as_str.ensures ∙ ap (λ (x : Export). x.name) c.export-item.is in
    let old = sym (l.invariant.seen c.as_str.result) ∙ was_not _ _ c.in_ok-insert.ensures.added c.if-not-branch.true in
    ((λ h. absurd cc), (λ h. absurd (name_repeats exports l.export-index e c.loop-export-test.true (at_name _ _ _ true name old) h)))

pub loop-export-preserved : goal.loop-export-preserved
loop-export-preserved c =
    let l = c.loop-export in
    let e = c.export-item.result in
    let exports = c.args.exports.now in
    let name : c.as_str.result.now ≡ (get_or exports l.export-index e).name = c.as_str.ensures ∙ ap (λ (x : Export). x.name) c.export-item.is in
    let old = sym (l.invariant.seen c.as_str.result) ∙ was _ _ c.in_ok-insert.ensures.added c.if-not-branch.false in
    record {
      seen = λ q. inserted c.as_str.result.now q.now _ (names (take l.export-index exports)) _ _ name (c.in_ok-insert.ensures.updates.0 q) (l.invariant.seen q) ∙ sym (seen_more exports l.export-index e c.loop-export-test.true q.now);
      distinct = still_distinct exports l.export-index e c.loop-export-test.true (at_name _ _ _ false name old) l.invariant.distinct;
    }
