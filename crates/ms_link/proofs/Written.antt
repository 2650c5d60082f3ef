-- Lists, tables and memories that are written in part: how long they are, and what each entry is.
use Rattle.std.proofs.Common.{◌≡◌, ℕ, zero, suc, ◌+◌, ◌<◌, ◌≤◌, List, [], ◌∷◌, ◌++◌, All, drop, length, map, slice_get, slice_set, take, Option, Some, None, refl, ap, ◌∙◌, append_assoc, arith}
use Rattle.std.proofs.lemmas.List.{take_more_set, drop-set-lt, length-append, length-drop, length-set, length-take-le}
use Rattle.std.proofs.lemmas.List.Elements.{All-append, All-drop, All-set, All-take}
use Rattle.ms_linear.specs.declared.table.Entry.{Entry}
use Rattle.ms_linear.specs.Memory.{Memory as Linear}
use Rattle.ms_linear.specs.Table.{Table}
use Rattle.ms_task.specs.declared.func.FuncInst.{FuncInst}
use Rattle.ms_machine.specs.Typing.{EntryTyped, Outline}
use Rattle.ms_machine.specs.Writing.{element_in, entry_at, entry_for, fill_in, with_data, with_entries, written}
use Rattle.ms_machine.proofs.TypedValues.{all_at}

-- ---- lists

pub written-more : {A : Type 0} (at : ℕ) (x : A) (xs old : List A) → at < length old → written (at + 1) xs (slice_set old at x) ≡ written at (x ∷ xs) old
written-more {A} at x xs old l =
    let lt : at < at + 1 + length xs = omega arith in
    let e : at + 1 + length xs ≡ at + suc (length xs) = omega arith in
    ap (λ ys. ys ++ xs ++ drop (at + 1 + length xs) (slice_set old at x)) (take_more_set old at x l)
    ∙ ap (λ ys. take at old ++ x ∷ [] ++ xs ++ ys) (drop-set-lt (at + 1 + length xs) old at x lt)
    ∙ ap (λ ys. ys ++ drop (at + 1 + length xs) old) (append_assoc (take at old) (x ∷ []) xs)
    ∙ ap (λ k. take at old ++ x ∷ xs ++ drop k old) e

pub length-written : {A : Type 0} (at : ℕ) (new old : List A) → at + length new ≤ length old → length (written at new old) ≡ length old
length-written {A} at new old l =
    let front : length (take at old) ≡ at = length-take-le at old (omega arith) in
    length-append (take at old ++ new) (drop (at + length new) old)
    ∙ (let a = length-append (take at old) new in let b = length-drop (at + length new) old in omega arith)

-- one item changes, and what is seen of it doesn't
pub map-same : {A B : Type 0} (f : A → B) (xs : List A) (i : ℕ) (x y : A) → slice_get xs i ≡ Some x → f y ≡ f x → map f (slice_set xs i y) ≡ map f xs
map-same f [] i x y at same = refl
map-same f (z ∷ zs) zero x y at same = let is : z ≡ x = cc in let e : f y ≡ f z = cc in ap (λ b. b ∷ map f zs) e
map-same f (z ∷ zs) (suc i) x y at same = ap (λ bs. f z ∷ bs) (map-same f zs i x y at same)

-- ---- how many tables and memories there are

pub length-element : (tables : List Table) (a : ℕ) (o : Option Table) (at : ℕ) (entries : List (Option Entry)) → length (element_in tables a o at entries) ≡ length tables
length-element tables a None at entries = refl
length-element tables a (Some t) at entries = length-set tables a (with_entries t at entries)

pub length-fill : (memories : List Linear) (a : ℕ) (o : Option Linear) (at : ℕ) (bytes : List ℕ) → length (fill_in memories a o at bytes) ≡ length memories
length-fill memories a None at bytes = refl
length-fill memories a (Some m) at bytes = length-set memories a (with_data m at bytes)

-- ---- each entry is a function beside its own type

abbrev pub TableTyped : Outline → Table → Type 0
TableTyped o t = All (EntryTyped o) t.entries

pub entry_typed : (o : Outline) (f : ℕ) → EntryTyped o (entry_for o.funcs f)
entry_typed o f = named (slice_get o.funcs f) refl where
  named : (g : Option FuncInst) → slice_get o.funcs f ≡ g → EntryTyped o (entry_at o.funcs f g)
  named None e = tt
  named (Some g) e = (g, e, refl)

written_typed : (o : Outline) (at : ℕ) (new old : List (Option Entry)) → All (EntryTyped o) new → All (EntryTyped o) old → All (EntryTyped o) (written at new old)
written_typed o at new old fresh kept =
    let P = EntryTyped o in
    let start = take at old in
    All-append P (start ++ new) (drop (at + length new) old) (All-append P start new (All-take P at old kept) fresh) (All-drop P (at + length new) old kept)

pub element_typed : (o : Outline) (tables : List Table) (a : ℕ) (t : Option Table) (at : ℕ) (entries : List (Option Entry)) → slice_get tables a ≡ t → All (EntryTyped o) entries → All (TableTyped o) tables → All (TableTyped o) (element_in tables a t at entries)
element_typed o tables a None at entries e new old = old
element_typed o tables a (Some t) at entries e new old =
    All-set (TableTyped o) tables a (with_entries t at entries) (written_typed o at entries t.entries new (all_at (TableTyped o) tables a t old e)) old
