-- One module more that fits: all that holds of the modules before holds with it.
use Rattle.std.proofs.Common.{◌≡◌, ◌≤◌, ◌<◌, ◌⊎◌, inl, inr, ℕ, suc, ◌+◌, Bool, true, false, nat_le, if◌then◌else◌, List, [], ◌∷◌, ◌++◌, All, get_or, length, map, slice_get, Option, Some, None, Result, Ok, Err, refl, sym, ap, ◌∙◌, subst, rules, tests, arith}
use Rattle.std.proofs.lemmas.List.{get_or_append_left, length-append, length-map}
use Rattle.std.proofs.lemmas.List.Elements.{All-append, All-cons, All-head, All-nil, All-replicate, All-tail, All-weaker}
use Rattle.ms_linear.specs.declared.global.GlobalInst.{GlobalInst}
use Rattle.ms_linear.specs.declared.value.Value.{Value}
use Rattle.ms_linear.specs.Values.{global_type_of}
use Rattle.ms_module.specs.declared.module.Element.{Element}
use Rattle.ms_module.specs.declared.module.Fill.{Fill}
use Rattle.ms_module.specs.declared.module.Module.{Module}
use Rattle.ms_rules.specs.Context.{imported_memories, imported_tables, sigs_of_funcs}
use Rattle.ms_rules.specs.Modules.{WellTyped}
use Rattle.ms_task.specs.declared.func.FuncInst.{FuncInst}
use Rattle.ms_types.specs.declared.types.Limits.{Limits}
use Rattle.ms_machine.specs.declared.externs.Extern.{Extern}
use Rattle.ms_machine.specs.declared.externs.Why.TheVariants.{Fit}
use Rattle.ms_machine.specs.declared.store.Instance.{Instance}
use Rattle.ms_machine.specs.Externs.{Fault, Made, externs, fault_at}
use Rattle.ms_machine.specs.Linked.{StartTyped, all_more, and_then, bytes_of, elements_fit, entries_of, fills_fit, if_inside, if_small, instance_in, nothing_made, one_more, or_next, outside, reach, too_large, table_in, memory_in, unless, value_at, values_at, with_externs, with_module}
use Rattle.ms_machine.specs.Constants.{constant_of, index_of}
use Rattle.ms_machine.specs.Writing.{empty_table, zeroed}
use Rattle.ms_machine.specs.Store.{at}
use Rattle.ms_machine.specs.Typing.{InstanceTyped}
use Rattle.ms_link.proofs.Given.{AreGiven, externs_given}
use Rattle.ms_link.proofs.Imported.{memories_count, tables_count}
use Rattle.ms_link.proofs.More.{funcs_are, named, next, next_funcs, next_instances, on, own_there, start_typed}
use Rattle.ms_link.proofs.Standing.{GoesOn, appended_map, get_on, get_only, get_parts, mapped_at, zip_push, zip_weaker}
use Rattle.ms_link.specs.refinement.Fitting.{ElementFits, ElementsFit, FillFits, FillsFit, IsEmpty, IsNoEntry, MadeTyped, byte_count, entry_count, outline}

-- ---- where no fault is found

both_none : (a b : Option Fault) → or_next a b ≡ None → (a ≡ None) × (b ≡ None)
both_none None b e = (refl, e)
both_none (Some fault) b e = cc

reach_none : (number item at count end : ℕ) (next : Option Fault) → reach number item at count end next ≡ None → (at + count ≤ end) × (next ≡ None)
reach_none number item at count end next e = by (nat_le (at + count) end) refl e where
  by : (b : Bool) → nat_le (at + count) end ≡ b → (if b then next else Some (fault_at number item Fit)) ≡ None → (at + count ≤ end) × (next ≡ None)
  by true is e = (search (rules, tests), e)
  by false is e = cc

elements_none : (number : ℕ) (vs : List Value) (size item : ℕ) (es : List Element) → elements_fit number vs size item es ≡ None
    → All (λ (e : Element). index_of (constant_of vs e.offset) + length e.funcs ≤ size) es
elements_none number vs size item [] e = All-nil (λ (e : Element). index_of (constant_of vs e.offset) + length e.funcs ≤ size)
elements_none number vs size item (x ∷ xs) e =
    let now = reach_none number item (index_of (constant_of vs x.offset)) (length x.funcs) size (elements_fit number vs size (suc item) xs) e in
    All-cons (λ (e : Element). index_of (constant_of vs e.offset) + length e.funcs ≤ size) x xs now.0 (elements_none number vs size (suc item) xs now.1)

fills_none : (number : ℕ) (vs : List Value) (size item : ℕ) (fs : List Fill) → fills_fit number vs size item fs ≡ None
    → All (λ (f : Fill). index_of (constant_of vs f.offset) + length f.bytes ≤ size) fs
fills_none number vs size item [] e = All-nil (λ (f : Fill). index_of (constant_of vs f.offset) + length f.bytes ≤ size)
fills_none number vs size item (x ∷ xs) e =
    let now = reach_none number item (index_of (constant_of vs x.offset)) (length x.bytes) size (fills_fit number vs size (suc item) xs) e in
    All-cons (λ (f : Fill). index_of (constant_of vs f.offset) + length f.bytes ≤ size) x xs now.0 (fills_none number vs size (suc item) xs now.1)

-- ---- what goes on

at_on : {A : Type 0} (xs ys : List A) → GoesOn xs ys → (o : Option ℕ) (a : A) → at xs o ≡ Some a → at ys o ≡ Some a
at_on xs ys on None a e = cc
at_on xs ys on (Some n) a e = get_on xs ys n a on e

values_on : (gs more : List GlobalInst) (ns : List ℕ) → All (λ a. a < length gs) ns → values_at (gs ++ more) ns ≡ values_at gs ns
values_on gs more [] below = refl
values_on gs more (n ∷ ns) below =
    ap (λ (g : GlobalInst). g.value ∷ values_at (gs ++ more) ns) (get_or_append_left gs more _ n (All-head (λ a. a < length gs) n ns below))
    ∙ ap (λ l. value_at gs n ∷ l) (values_on gs more ns (All-tail (λ a. a < length gs) n ns below))

start_on : (old new : List FuncInst) → GoesOn old new → (i : Instance) (o : Option ℕ) → StartTyped old i o → StartTyped new i o
start_on old new goes i None h = tt
start_on old new goes i (Some x) h = (h.0, h.1, h.2, get_on old new h.0 h.1 goes h.3, h.4, h.5)

empties : (ls : List Limits) → All IsEmpty (map empty_table ls)
empties [] = All-nil IsEmpty
empties (l ∷ ls) = All-cons IsEmpty (empty_table l) (map empty_table ls) (All-replicate IsNoEntry l.min None tt) (empties ls)

-- ---- one module more

module _ (made : Made) (typed : MadeTyped made) (name : List ℕ) (m : Module) (well : WellTyped m) (es : List Extern) (given : AreGiven made m.sigs m.imports es) (fit : outside (length made.instances) (with_module made name m es).globals (with_module made name m es).tables (with_module made name m es).memories (instance_in made m es) m.elements m.fills ≡ None) where
  abbrev after : Made
  after = with_module made name m es

  abbrev number : ℕ
  number = length made.instances

  abbrev mine : Instance
  mine = instance_in made m es

  abbrev vs : List Value
  vs = values_at after.globals mine.globals

  parts : (elements_fit number vs (entries_of (at after.tables mine.table)) 0 m.elements ≡ None) × (fills_fit number vs (bytes_of (at after.memories mine.memory)) (length m.elements) m.fills ≡ None)
  parts = both_none (elements_fit number vs (entries_of (at after.tables mine.table)) 0 m.elements) (fills_fit number vs (bytes_of (at after.memories mine.memory)) (length m.elements) m.fills) fit

  func_count : length (sigs_of_funcs m) ≡ length mine.funcs
  func_count =
      sym (length-map (sigs_of_funcs m) (λ i. slice_get m.sigs i)) ∙ ap length (funcs_are made typed name m well es given) ∙ length-map mine.funcs (named made typed name m well es given)

  own_elements : ElementsFit after mine m.elements
  own_elements = λ k d lt.
      let e = get_or m.elements k d in
      let declared = well.head.elements k d lt in
      let table = own_there empty_table made.tables (table_in es) (imported_tables m.imports) m.tables (tables_count made m.sigs m.imports es given) (let below = declared.0 in omega arith) in
      let size : entries_of (at after.tables mine.table) ≡ entry_count table.1 = ap (λ o. entries_of (at after.tables o)) table.2 ∙ ap entries_of table.3 in
      let room = elements_none number vs (entries_of (at after.tables mine.table)) 0 m.elements parts.0 k d lt in
      record {
        size = entry_count table.1;
        size_is = ap (at (map entry_count after.tables)) table.2 ∙ mapped_at entry_count after.tables table.0 table.1 table.3;
        room = subst (λ n. index_of (constant_of vs e.offset) + length e.funcs ≤ n) size room;
        there = subst (λ n. All (λ f. f < n) e.funcs) func_count declared.2;
      }

  own_fills : FillsFit after mine m.fills
  own_fills = λ k d lt.
      let f = get_or m.fills k d in
      let declared = well.head.fills k d lt in
      let memory = own_there zeroed made.memories (memory_in es) (imported_memories m.imports) m.memories (memories_count made m.sigs m.imports es given) (let below = declared.0 in omega arith) in
      let size : bytes_of (at after.memories mine.memory) ≡ byte_count memory.1 = ap (λ o. bytes_of (at after.memories o)) memory.2 ∙ ap bytes_of memory.3 in
      let room = fills_none number vs (bytes_of (at after.memories mine.memory)) (length m.elements) m.fills parts.1 k d lt in
      record {
        size = byte_count memory.1;
        size_is = ap (at (map byte_count after.memories)) memory.2 ∙ mapped_at byte_count after.memories memory.0 memory.1 memory.3;
        room = subst (λ n. index_of (constant_of vs f.offset) + length f.bytes ≤ n) size room;
      }

  old_values : (i : Instance) → InstanceTyped (outline made) i → values_at after.globals i.globals ≡ values_at made.globals i.globals
  old_values i h = values_on made.globals _ i.globals (subst (λ n. All (λ a. a < n) i.globals) (length-map made.globals global_type_of) h.globals)

  old_elements : (i : Instance) → InstanceTyped (outline made) i → (xs : List Element) → ElementsFit made i xs → ElementsFit after i xs
  old_elements i h xs all =
      let sizes = map entry_count made.tables in
      subst (λ ws. All (ElementFits (map entry_count after.tables) ws i) xs) (sym (old_values i h))
      (All-weaker (ElementFits sizes (values_at made.globals i.globals) i) (ElementFits (map entry_count after.tables) (values_at made.globals i.globals) i)
      (λ e f. record { size = f.size; size_is = at_on sizes (map entry_count after.tables) (appended_map entry_count made.tables (map empty_table m.tables)) i.table f.size f.size_is; room = f.room; there = f.there })
      xs all)

  old_fills : (i : Instance) → InstanceTyped (outline made) i → (xs : List Fill) → FillsFit made i xs → FillsFit after i xs
  old_fills i h xs all =
      let sizes = map byte_count made.memories in
      subst (λ ws. All (FillFits (map byte_count after.memories) ws i) xs) (sym (old_values i h))
      (All-weaker (FillFits sizes (values_at made.globals i.globals) i) (FillFits (map byte_count after.memories) (values_at made.globals i.globals) i)
      (λ e f. record { size = f.size; size_is = at_on sizes (map byte_count after.memories) (appended_map byte_count made.memories (map zeroed m.memories)) i.memory f.size f.size_is; room = f.room })
      xs all)

  next_starts : (n : ℕ) (i : Instance) → slice_get after.instances n ≡ Some i → StartTyped after.funcs i i.start
  next_starts n i found = by (get_parts made.instances (mine ∷ []) n i found) where
    by : (slice_get made.instances n ≡ Some i) ⊎ ((j : ℕ) × (n ≡ length made.instances + j) × (slice_get (mine ∷ []) j ≡ Some i)) → StartTyped after.funcs i i.start
    by (inl e) = start_on made.funcs after.funcs (on made typed name m well es given) i i.start (typed.starts n i e)
    by (inr (j, is, e)) = subst (λ (x : Instance). StartTyped after.funcs x x.start) (get_only mine j i e).1 (start_typed made typed name m well es given m.start refl)

  pub after_typed : MadeTyped after
  after_typed = record {
    names = omega (arith, typed.names, length-append made.names (name ∷ []), length-append made.instances (mine ∷ []));
    funcs = next_funcs made typed name m well es given;
    instances = next_instances made typed name m well es given;
    starts = next_starts;
    tables = All-append IsEmpty made.tables (map empty_table m.tables) typed.tables (empties m.tables);
    elements = zip_push (ElementsFit after) made.instances made.elements mine m.elements
        (zip_weaker (ElementsFit made) (ElementsFit after) made.instances made.elements (λ i xs k e h. old_elements i (typed.instances k i e) xs h) typed.elements) own_elements;
    fills = zip_push (FillsFit after) made.instances made.fills mine m.fills
        (zip_weaker (FillsFit made) (FillsFit after) made.instances made.fills (λ i xs k e h. old_fills i (typed.instances k i e) xs h) typed.fills) own_fills;
  }

-- ---- what linking one module more came to

pub record Adds (made : Made) (name : List ℕ) (m : Module) (next : Made) : Type 0 where
  pub es : List Extern
  pub given : externs made m.sigs 0 m.imports ≡ Ok es
  pub small : too_large (length made.instances) m.tables m.memories ≡ None
  pub fit : outside (length made.instances) (with_module made name m es).globals (with_module made name m es).tables (with_module made name m es).memories (instance_in made m es) m.elements m.fills ≡ None
  pub is : with_module made name m es ≡ next

pub one_more_adds : (made : Made) (name : List ℕ) (m : Module) (next : Made) → one_more made name m ≡ Ok next → Adds made name m next
one_more_adds made name m next e = by (externs made m.sigs 0 m.imports) refl e where
  by : (r : Result (List Extern) Fault) → externs made m.sigs 0 m.imports ≡ r → with_externs made name m r ≡ Ok next → Adds made name m next
  by (Err fault) is e = cc
  by (Ok es) is e = fits (too_large (length made.instances) m.tables m.memories) refl e where
    fits : (o : Option Fault) → too_large (length made.instances) m.tables m.memories ≡ o → if_small o (if_inside made name m es) ≡ Ok next → Adds made name m next
    fits (Some fault) small e = cc
    fits None small e =
        ends (outside (length made.instances) (with_module made name m es).globals (with_module made name m es).tables (with_module made name m es).memories (instance_in made m es) m.elements m.fills) refl e where
          ends : (o : Option Fault) → outside (length made.instances) (with_module made name m es).globals (with_module made name m es).tables (with_module made name m es).memories (instance_in made m es) m.elements m.fills ≡ o
              → unless o (with_module made name m es) ≡ Ok next → Adds made name m next
          ends (Some fault) fit e = cc
          ends None fit e = record { es = es; given = is; small = small; fit = fit; is = cc }

pub one_more_typed : (made : Made) (name : List ℕ) (m : Module) (next : Made) → MadeTyped made → WellTyped m → one_more made name m ≡ Ok next → MadeTyped next
one_more_typed made name m next typed well e =
    let adds = one_more_adds made name m next e in
    subst MadeTyped adds.is (after_typed made typed name m well adds.es (externs_given made m.sigs 0 m.imports adds.es adds.given) adds.fit)

-- ---- all modules

pub nothing_typed : MadeTyped nothing_made
nothing_typed = record {
  names = refl;
  funcs = λ a f e. cc;
  instances = λ n i e. cc;
  starts = λ n i e. cc;
  tables = All-nil IsEmpty;
  elements = tt;
  fills = tt;
}

pub all_more_typed : (ms : List (List ℕ × Module)) (made last : Made) → MadeTyped made → All (λ (m : List ℕ × Module). WellTyped m.1) ms → all_more ms made ≡ Ok last → MadeTyped last
all_more_typed [] made last typed well e = let same : made ≡ last = cc in subst MadeTyped same typed
all_more_typed (m ∷ ms) made last typed well e =
    let P : (List ℕ × Module) → Type 0 = λ m. WellTyped m.1 in
    by (one_more made m.0 m.1) (λ next is. one_more_typed made m.0 m.1 next typed (All-head P m ms well) is)
    (λ next h is. all_more_typed ms next last h (All-tail P m ms well) is) e where
      by : (r : Result Made Fault) → ((next : Made) → r ≡ Ok next → MadeTyped next) → ((next : Made) → MadeTyped next → all_more ms next ≡ Ok last → MadeTyped last) → and_then r (all_more ms) ≡ Ok last → MadeTyped last
      by (Ok next) now later e = later next (now next refl) e
      by (Err fault) now later e = cc
