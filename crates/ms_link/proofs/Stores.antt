-- The linked store is well typed: elements are functions beside their types, and nothing else has changed.
use Rattle.std.proofs.Common.{◌≡◌, ◌<◌, ℕ, zero, suc, List, [], ◌∷◌, All, length, map, slice_get, Option, Some, None, Result, Ok, Err, refl, ◌∙◌, subst, arith}
use Rattle.std.proofs.lemmas.List.Elements.{All-cons, All-map, All-nil, All-weaker}
use Rattle.ms_linear.specs.declared.global.GlobalInst.{GlobalInst}
use Rattle.ms_linear.specs.declared.table.Entry.{Entry}
use Rattle.ms_linear.specs.Memory.{Memory as Linear}
use Rattle.ms_linear.specs.Table.{Table as TableInst}
use Rattle.ms_module.specs.declared.module.Element.{Element}
use Rattle.ms_module.specs.declared.module.Fill.{Fill}
use Rattle.ms_module.specs.declared.module.Module.{Module}
use Rattle.ms_rules.specs.Modules.{WellTyped}
use Rattle.ms_task.specs.declared.func.FuncInst.{FuncInst}
use Rattle.ms_machine.specs.declared.store.Instance.{Instance}
use Rattle.ms_machine.specs.Externs.{Fault, Made}
use Rattle.ms_machine.specs.Linked.{StartsTyped, all_more, entry_in, linked, nothing_made, put_all_elements, put_all_fills, put_element, put_elements, put_fill, put_fills, store_of, stored, values_at}
use Rattle.ms_machine.specs.Constants.{constant_of, index_of}
use Rattle.ms_machine.specs.Store.{Store}
use Rattle.ms_machine.specs.Typing.{EntryTyped, Outline, StoreTyped, outline_of}
use Rattle.ms_machine.proofs.TypedValues.{all_at}
use Rattle.ms_link.proofs.Fits.{all_more_typed, nothing_typed}
use Rattle.ms_link.proofs.Kept.{Extends, func_kept, instance_kept}
use Rattle.ms_link.proofs.Written.{TableTyped, element_typed, entry_typed, length-element, length-fill}
use Rattle.ms_link.specs.refinement.Fitting.{IsEmpty, IsNoEntry, MadeTyped, outline}

-- ---- how many tables and memories there are

put_length : (funcs : List FuncInst) (globals : List GlobalInst) (i : Instance) (e : Element) (a : Option ℕ) (tables : List TableInst) → length (put_element funcs globals i e a tables) ≡ length tables
put_length funcs globals i e None tables = refl
put_length funcs globals i e (Some a) tables =
    length-element tables a (slice_get tables a) (index_of (constant_of (values_at globals i.globals) e.offset)) (map (λ f. entry_in funcs (slice_get i.funcs f)) e.funcs)

elements_length : (funcs : List FuncInst) (globals : List GlobalInst) (i : Instance) (es : List Element) (tables : List TableInst) → length (put_elements funcs globals i es tables) ≡ length tables
elements_length funcs globals i [] tables = refl
elements_length funcs globals i (e ∷ es) tables = elements_length funcs globals i es (put_element funcs globals i e i.table tables) ∙ put_length funcs globals i e i.table tables

all_elements_length : (funcs : List FuncInst) (globals : List GlobalInst) (is : List Instance) (ess : List (List Element)) (tables : List TableInst) → length (put_all_elements funcs globals is ess tables) ≡ length tables
all_elements_length funcs globals [] ess tables = refl
all_elements_length funcs globals (i ∷ is) [] tables = refl
all_elements_length funcs globals (i ∷ is) (es ∷ ess) tables =
    all_elements_length funcs globals is ess (put_elements funcs globals i es tables) ∙ elements_length funcs globals i es tables

fill_length : (globals : List GlobalInst) (i : Instance) (f : Fill) (a : Option ℕ) (memories : List Linear) → length (put_fill globals i f a memories) ≡ length memories
fill_length globals i f None memories = refl
fill_length globals i f (Some a) memories = length-fill memories a (slice_get memories a) (index_of (constant_of (values_at globals i.globals) f.offset)) f.bytes

fills_length : (globals : List GlobalInst) (i : Instance) (fs : List Fill) (memories : List Linear) → length (put_fills globals i fs memories) ≡ length memories
fills_length globals i [] memories = refl
fills_length globals i (f ∷ fs) memories = fills_length globals i fs (put_fill globals i f i.memory memories) ∙ fill_length globals i f i.memory memories

all_fills_length : (globals : List GlobalInst) (is : List Instance) (fss : List (List Fill)) (memories : List Linear) → length (put_all_fills globals is fss memories) ≡ length memories
all_fills_length globals [] fss memories = refl
all_fills_length globals (i ∷ is) [] memories = refl
all_fills_length globals (i ∷ is) (fs ∷ fss) memories = all_fills_length globals is fss (put_fills globals i fs memories) ∙ fills_length globals i fs memories

-- ---- entries

module _ (o : Outline) (globals : List GlobalInst) where
  in_typed : (a : Option ℕ) → EntryTyped o (entry_in o.funcs a)
  in_typed None = tt
  in_typed (Some a) = entry_typed o a

  all_typed : (i : Instance) (fs : List ℕ) → All (λ f. EntryTyped o (entry_in o.funcs (slice_get i.funcs f))) fs
  all_typed i [] = All-nil (λ f. EntryTyped o (entry_in o.funcs (slice_get i.funcs f)))
  all_typed i (f ∷ fs) = All-cons (λ f. EntryTyped o (entry_in o.funcs (slice_get i.funcs f))) f fs (in_typed (slice_get i.funcs f)) (all_typed i fs)

  put_typed : (i : Instance) (e : Element) (a : Option ℕ) (tables : List TableInst) → All (TableTyped o) tables → All (TableTyped o) (put_element o.funcs globals i e a tables)
  put_typed i e None tables h = h
  put_typed i e (Some a) tables h =
      let entry : ℕ → Option Entry = λ f. entry_in o.funcs (slice_get i.funcs f) in
      element_typed o tables a (slice_get tables a) (index_of (constant_of (values_at globals i.globals) e.offset)) (map entry e.funcs) refl (All-map (EntryTyped o) entry e.funcs (all_typed i e.funcs)) h

  elements_typed : (i : Instance) (es : List Element) (tables : List TableInst) → All (TableTyped o) tables → All (TableTyped o) (put_elements o.funcs globals i es tables)
  elements_typed i [] tables h = h
  elements_typed i (e ∷ es) tables h = elements_typed i es (put_element o.funcs globals i e i.table tables) (put_typed i e i.table tables h)

  all_elements_typed : (is : List Instance) (ess : List (List Element)) (tables : List TableInst) → All (TableTyped o) tables → All (TableTyped o) (put_all_elements o.funcs globals is ess tables)
  all_elements_typed [] ess tables h = h
  all_elements_typed (i ∷ is) [] tables h = h
  all_elements_typed (i ∷ is) (es ∷ ess) tables h = all_elements_typed is ess (put_elements o.funcs globals i es tables) (elements_typed i es tables h)

no_entry_typed : (o : Outline) (e : Option Entry) → IsNoEntry e → EntryTyped o e
no_entry_typed o None h = tt
no_entry_typed o (Some e) h = absurd h

empty_typed : (o : Outline) (t : TableInst) → IsEmpty t → TableTyped o t
empty_typed o t h = All-weaker IsNoEntry (EntryTyped o) (no_entry_typed o) t.entries h

-- ---- the store

at_number : (is : List Instance) (n : ℕ) → n < length is → (i : Instance) × (slice_get is n ≡ Some i)
at_number [] n lt = absurd (omega (arith, lt))
at_number (i ∷ is) zero lt = (i, refl)
at_number (i ∷ is) (suc n) lt = at_number is n (omega (arith, lt))

pub made_typed : (capacity : ℕ) (made : Made) → MadeTyped made → StoreTyped (outline_of (store_of capacity made))
made_typed capacity made typed =
    let o = outline_of (store_of capacity made) in
    let tables = all_elements_length made.funcs made.globals made.instances made.elements made.tables in
    let memories = all_fills_length made.globals made.instances made.fills made.memories in
    let same : Extends (outline made) o = record {
      funcs = λ k lt. refl;
      instances = λ k lt. refl;
      globals = λ k lt. refl;
      funcs_more = omega arith;
      instances_more = omega arith;
      tables_more = omega (arith, tables);
      memories_more = omega (arith, memories);
      globals_more = omega arith;
    } in
    record {
      funcs = λ a f found.
          let h = typed.funcs a f found in
          let i = at_number made.instances f.instance h.instance in
          func_kept (outline made) o same a f i.0 found i.1 (typed.instances f.instance i.0 i.1) h;
      instances = λ n i found. instance_kept (outline made) o same i (typed.instances n i found);
      tables = λ address table found.
          all_at (TableTyped o) o.tables address table
          (all_elements_typed o made.globals made.instances made.elements made.tables (All-weaker IsEmpty (TableTyped o) (empty_typed o) made.tables typed.tables)) found;
    }

-- ---- linked modules

pub linked_made : (ms : List (List ℕ × Module)) (capacity : ℕ) (s : Store) → linked ms capacity ≡ Ok s → (made : Made) × (all_more ms nothing_made ≡ Ok made) × (store_of capacity made ≡ s)
linked_made ms capacity s e = by (all_more ms nothing_made) refl e where
  by : (r : Result Made Fault) → all_more ms nothing_made ≡ r → stored capacity r ≡ Ok s → (made : Made) × (all_more ms nothing_made ≡ Ok made) × (store_of capacity made ≡ s)
  by (Ok made) is e = (made, is, cc)
  by (Err fault) is e = cc

pub linked_typed : (ms : List (List ℕ × Module)) (capacity : ℕ) (s : Store) → All (λ (m : List ℕ × Module). WellTyped m.1) ms → linked ms capacity ≡ Ok s → StoreTyped (outline_of s) × StartsTyped s
linked_typed ms capacity s well e =
    let made = linked_made ms capacity s e in
    let typed = all_more_typed ms nothing_made made.0 nothing_typed well made.1 in
    (subst (λ (x : Store). StoreTyped (outline_of x)) made.2 (made_typed capacity made.0 typed), subst StartsTyped made.2 typed.starts)
