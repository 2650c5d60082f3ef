-- What stands in the tables of linked modules: an instance that has the table lists the function of each entry.
use Rattle.std.proofs.Common.{◌≡◌, ℕ, zero, suc, ◌+◌, inl, inr, List, [], ◌∷◌, ◌++◌, drop, length, map, replicate, slice_get, slice_set, take, Option, Some, None, Result, Ok, Err, refl, sym, subst, ◌∙◌}
use Rattle.std.proofs.lemmas.Bool.{cases_eq}
use Rattle.ms_linear.specs.declared.global.GlobalInst.{GlobalInst}
use Rattle.ms_linear.specs.declared.table.Entry.{Entry}
use Rattle.ms_linear.specs.Table.{Table}
use Rattle.ms_module.specs.declared.module.Element.{Element}
use Rattle.ms_module.specs.declared.module.Module.{Module}
use Rattle.ms_task.specs.declared.func.FuncInst.{FuncInst}
use Rattle.ms_types.specs.declared.types.Limits.{Limits}
use Rattle.ms_machine.specs.declared.externs.Extern.{Extern}
use Rattle.ms_machine.specs.declared.store.Instance.{Instance}
use Rattle.ms_machine.specs.Constants.{constant_of, index_of}
use Rattle.ms_machine.specs.Externs.{Fault, Made, externs}
use Rattle.ms_machine.specs.Linked.{all_more, and_then, entry_in, if_inside, if_small, instance_in, nothing_made, one_more, outside, put_all_elements, put_element, put_elements, store_of, stored, too_large, unless, values_at, with_externs, with_module}
use Rattle.ms_machine.specs.Store.{Store}
use Rattle.ms_machine.specs.Writing.{element_in, empty_table, entry_at, with_entries, written}
use Rattle.ms_segment.specs.Memory.{live_of}
use Rattle.ms_apart.proofs.Lists.{get_set_other, get_set_same, same_Some}

-- ---- a fact on the function of each entry

abbrev pub OfEntry : (ℕ → Type 0) → Option Entry → Type 0
OfEntry R None = Unit {0}
OfEntry R (Some e) = R e.func.address

abbrev pub OfEntries : (ℕ → Type 0) → List (Option Entry) → Type 0
OfEntries R [] = Unit {0}
OfEntries R (e ∷ es) = OfEntry R e × OfEntries R es

module _ (R : ℕ → Type 0) where
  entries_append : (xs ys : List (Option Entry)) → OfEntries R xs → OfEntries R ys → OfEntries R (xs ++ ys)
  entries_append [] ys p q = q
  entries_append (x ∷ xs) ys p q = (p.0, entries_append xs ys p.1 q)

  entries_take : (n : ℕ) (xs : List (Option Entry)) → OfEntries R xs → OfEntries R (take n xs)
  entries_take zero xs p = tt
  entries_take (suc n) [] p = tt
  entries_take (suc n) (x ∷ xs) p = (p.0, entries_take n xs p.1)

  entries_drop : (n : ℕ) (xs : List (Option Entry)) → OfEntries R xs → OfEntries R (drop n xs)
  entries_drop zero xs p = p
  entries_drop (suc n) [] p = tt
  entries_drop (suc n) (x ∷ xs) p = entries_drop n xs p.1

  entries_written : (k : ℕ) (new old : List (Option Entry)) → OfEntries R new → OfEntries R old → OfEntries R (written k new old)
  entries_written k new old p q = entries_append (take k old ++ new) (drop (k + length new) old) (entries_append (take k old) new (entries_take k old q) p) (entries_drop (k + length new) old q)

  entries_get : (k : ℕ) (xs : List (Option Entry)) (e : Entry) → OfEntries R xs → slice_get xs k ≡ Some (Some e) → R e.func.address
  entries_get zero [] e p at = absurd cc
  entries_get (suc k) [] e p at = absurd cc
  entries_get zero (x ∷ xs) e p at = subst (OfEntry R) (same_Some (Some x) x (Some e) refl at) p.0
  entries_get (suc k) (x ∷ xs) e p at = entries_get k xs e p.1 at

  entries_none : (n : ℕ) → OfEntries R (replicate n None)
  entries_none zero = tt
  entries_none (suc n) = (tt, entries_none n)

entries_weaker : (R Q : ℕ → Type 0) → ((f : ℕ) → R f → Q f) → (xs : List (Option Entry)) → OfEntries R xs → OfEntries Q xs
entries_weaker R Q f [] p = tt
entries_weaker R Q f (None ∷ xs) p = (tt, entries_weaker R Q f xs p.1)
entries_weaker R Q f (Some e ∷ xs) p = (f e.func.address p.0, entries_weaker R Q f xs p.1)

-- ---- elements that are written

module _ (Q : (table function : ℕ) → Type 0) (funcs : List FuncInst) (globals : List GlobalInst) where
  abbrev InTables : List Table → Type 0
  InTables ts = (a : ℕ) (t : Table) → slice_get ts a ≡ Some t → OfEntries (Q a) t.entries

  -- what an instance lists may stand in its table
  abbrev Permits : Instance → Type 0
  Permits i = (a x f : ℕ) → i.table ≡ Some a → slice_get i.funcs x ≡ Some f → Q a f

  in_element : (ts : List Table) (a k : ℕ) (new : List (Option Entry)) → OfEntries (Q a) new → (o : Option Table) → slice_get ts a ≡ o → InTables ts → InTables (element_in ts a o k new)
  in_element ts a k new p None is all = all
  in_element ts a k new p (Some t) is all = λ b u at. elim (cases_eq b a) [
    | inl e ↦
        let same : with_entries t k new ≡ u = same_Some (slice_get (slice_set ts a (with_entries t k new)) a) (with_entries t k new) u (get_set_same ts a (with_entries t k new) t is) (subst (λ j. slice_get (slice_set ts a (with_entries t k new)) j ≡ Some u) e at) in
        subst (λ j. OfEntries (Q j) u.entries) (sym e) (subst (λ (v : Table). OfEntries (Q a) v.entries) same (entries_written (Q a) k new t.entries p (all a t is)))
    | inr other ↦ all b u (sym (get_set_other ts a b (with_entries t k new) other) ∙ at)
  ]

  entry_listed : (a : ℕ) (o : Option ℕ) → ((f : ℕ) → o ≡ Some f → Q a f) → OfEntry (Q a) (entry_in funcs o)
  entry_listed a None lists = tt
  entry_listed a (Some f) lists = by (slice_get funcs f) where
    by : (g : Option FuncInst) → OfEntry (Q a) (entry_at funcs f g)
    by None = tt
    by (Some g) = lists f refl

  entries_listed : (i : Instance) (a : ℕ) → i.table ≡ Some a → Permits i → (xs : List ℕ) → OfEntries (Q a) (map (λ x. entry_in funcs (slice_get i.funcs x)) xs)
  entries_listed i a is lists [] = tt
  entries_listed i a is lists (x ∷ xs) = (entry_listed a (slice_get i.funcs x) (λ f e. lists a x f is e), entries_listed i a is lists xs)

  in_put : (i : Instance) (e : Element) → Permits i → (o : Option ℕ) → i.table ≡ o → (ts : List Table) → InTables ts → InTables (put_element funcs globals i e o ts)
  in_put i e lists None is ts all = all
  in_put i e lists (Some a) is ts all = in_element ts a (index_of (constant_of (values_at globals i.globals) e.offset)) (map (λ x. entry_in funcs (slice_get i.funcs x)) e.funcs) (entries_listed i a is lists e.funcs) (slice_get ts a) refl all

  in_puts : (i : Instance) → Permits i → (es : List Element) (ts : List Table) → InTables ts → InTables (put_elements funcs globals i es ts)
  in_puts i lists [] ts all = all
  in_puts i lists (e ∷ es) ts all = in_puts i lists es (put_element funcs globals i e i.table ts) (in_put i e lists i.table refl ts all)

  in_all : (is : List Instance) → ((m : ℕ) (i : Instance) → slice_get is m ≡ Some i → Permits i) → (ess : List (List Element)) (ts : List Table) → InTables ts → InTables (put_all_elements funcs globals is ess ts)
  in_all [] lists [] ts all = all
  in_all [] lists (es ∷ ess) ts all = all
  in_all (i ∷ is) lists [] ts all = all
  in_all (i ∷ is) lists (es ∷ ess) ts all = in_all is (λ m j at. lists (suc m) j at) ess (put_elements funcs globals i es ts) (in_puts i (lists zero i refl) es ts all)

-- ---- tables before that: no entry

abbrev IsEmpty : List Table → Type 0
IsEmpty [] = Unit {0}
IsEmpty (t ∷ ts) = OfEntries (λ f. ⊥) t.entries × IsEmpty ts

empty_append : (xs ys : List Table) → IsEmpty xs → IsEmpty ys → IsEmpty (xs ++ ys)
empty_append [] ys p q = q
empty_append (x ∷ xs) ys p q = (p.0, empty_append xs ys p.1 q)

empty_new : (ls : List Limits) → IsEmpty (map empty_table ls)
empty_new [] = tt
empty_new (l ∷ ls) = (entries_none (λ f. ⊥) l.min, empty_new ls)

empty_get : (ts : List Table) (a : ℕ) (t : Table) → IsEmpty ts → slice_get ts a ≡ Some t → OfEntries (λ f. ⊥) t.entries
empty_get [] zero t p at = absurd cc
empty_get [] (suc a) t p at = absurd cc
empty_get (u ∷ ts) zero t p at = subst (λ (v : Table). OfEntries (λ f. ⊥) v.entries) (same_Some (Some u) u t refl at) p.0
empty_get (u ∷ ts) (suc a) t p at = empty_get ts a t p.1 at

empty_unless : (o : Option Fault) (made next : Made) → IsEmpty made.tables → unless o made ≡ Ok next → IsEmpty next.tables
empty_unless None made next p e = let same : made ≡ next = cc in subst (λ (m : Made). IsEmpty m.tables) same p
empty_unless (Some fault) made next p e = absurd cc

empty_small : (o : Option Fault) (made : Made) (name : List ℕ) (m : Module) (es : List Extern) (next : Made) → IsEmpty made.tables → if_small o (if_inside made name m es) ≡ Ok next → IsEmpty next.tables
empty_small None made name m es next p e =
    let after = with_module made name m es in
    empty_unless (outside (length made.instances) after.globals after.tables after.memories (instance_in made m es) m.elements m.fills) after next (empty_append made.tables (map empty_table m.tables) p (empty_new m.tables)) e
empty_small (Some fault) made name m es next p e = absurd cc

empty_externs : (made : Made) (name : List ℕ) (m : Module) (o : Result (List Extern) Fault) (next : Made) → IsEmpty made.tables → with_externs made name m o ≡ Ok next → IsEmpty next.tables
empty_externs made name m (Ok es) next p e = empty_small (too_large (length made.instances) m.tables m.memories) made name m es next p e
empty_externs made name m (Err fault) next p e = absurd cc

empty_more : (ms : List (List ℕ × Module)) (made next : Made) → IsEmpty made.tables → all_more ms made ≡ Ok next → IsEmpty next.tables
empty_more [] made next p e = let same : made ≡ next = cc in subst (λ (m : Made). IsEmpty m.tables) same p
empty_more (m ∷ ms) made next p e = by (one_more made m.0 m.1) refl e (λ after q f. empty_more ms after next q f) where
  by : (o : Result Made Fault) → one_more made m.0 m.1 ≡ o → and_then o (all_more ms) ≡ Ok next → ((after : Made) → IsEmpty after.tables → all_more ms after ≡ Ok next → IsEmpty next.tables) → IsEmpty next.tables
  by (Ok after) is f rest = rest after (empty_externs made m.0 m.1 (externs made m.1.sigs 0 m.1.imports) after p is) f
  by (Err fault) is f rest = absurd cc

-- ---- the linked store

-- an instance that has the table lists the function
pub record Listed (instances : List Instance) (table function : ℕ) : Type 0 where
  pub number : ℕ
  pub index : ℕ
  pub its : Instance
  pub stands : slice_get instances number ≡ Some its
  pub has : its.table ≡ Some table
  pub names : slice_get its.funcs index ≡ Some function

-- before anything has run
pub record IsLinked (s : Store) : Type 0 where
  pub entries : (a k : ℕ) (t : Table) (e : Entry) → slice_get s.tables a ≡ Some t → slice_get t.entries k ≡ Some (Some e) → Listed s.instances a e.func.address
  pub none_made : s.segments.made ≡ 0
  pub none_live : (id : ℕ) → live_of s.segments id ≡ None

made_linked : (capacity : ℕ) (made : Made) → IsEmpty made.tables → IsLinked (store_of capacity made)
made_linked capacity made p =
    let Q = Listed made.instances in
    let all = in_all Q made.funcs made.globals made.instances (λ m i at a x f is f_is. record { number = m; index = x; its = i; stands = at; has = is; names = f_is }) made.elements made.tables (λ a t at. entries_weaker (λ f. ⊥) (Q a) (λ f none. absurd none) t.entries (empty_get made.tables a t p at)) in
    record { entries = λ a k t e at e_at. entries_get (Q a) k t.entries e (all a t at) e_at; none_made = refl; none_live = λ id. refl }

pub is_linked : (modules : List (List ℕ × Module)) (capacity : ℕ) (s : Store) → stored capacity (all_more modules nothing_made) ≡ Ok s → IsLinked s
is_linked modules capacity s e = by (all_more modules nothing_made) refl e where
  by : (o : Result Made Fault) → all_more modules nothing_made ≡ o → stored capacity o ≡ Ok s → IsLinked s
  by (Ok made) is f = let same : store_of capacity made ≡ s = cc in subst IsLinked same (made_linked capacity made (empty_more modules nothing_made made tt is))
  by (Err fault) is f = absurd cc
