-- What is written, one after the other: the sizes of tables and memories stay.
use Rattle.std.proofs.Common.{◌≡◌, ◌≤◌, ◌<◌, ℕ, zero, suc, ◌+◌, List, [], ◌∷◌, All, drop, get_or, length, map, slice_get, Option, Some, None, refl, sym, ap, ◌∙◌, subst, arith}
use Rattle.std.proofs.lemmas.List.{drop_more, length-map}
use Rattle.std.proofs.lemmas.List.Elements.{All-head, All-tail}
use Rattle.std.proofs.lemmas.Option.{slice_get-get_or, slice_get_read}
use Rattle.std.specs.List.{AllZip}
use Rattle.ms_linear.specs.declared.global.GlobalInst.{GlobalInst}
use Rattle.ms_linear.specs.declared.table.Entry.{Entry}
use Rattle.ms_linear.specs.declared.value.Value.{Value}
use Rattle.ms_linear.specs.Memory.{Memory as Linear}
use Rattle.ms_linear.specs.Table.{Table as TableInst, with_entry}
use Rattle.ms_module.specs.declared.module.Element.{Element}
use Rattle.ms_module.specs.declared.module.Fill.{Fill}
use Rattle.ms_task.specs.declared.func.FuncInst.{FuncInst}
use Rattle.ms_types.specs.declared.types.FuncType.{FuncType}
use Rattle.ms_machine.specs.declared.store.Instance.{Instance}
use Rattle.ms_machine.specs.Linked.{entry_in, put_all_elements, put_all_fills, put_element, put_elements, put_fill, put_fills, values_at}
use Rattle.ms_machine.specs.Constants.{constant_of, index_of}
use Rattle.ms_machine.specs.Writing.{element_in, entry_at, fill_in, with_data, with_entries}
use Rattle.ms_machine.specs.Store.{at}
use Rattle.ms_machine.proofs.TypedValues.{get_mapped}
use Rattle.ms_import.proofs.Exports.{next_is}
use Rattle.ms_link.proofs.Written.{length-written, map-same, written-more}
use Rattle.ms_link.specs.refinement.Fitting.{ElementFits, ElementsThere, FillFits, FillsThere, byte_count, entry_count}

-- ---- one entry more

pub entry_more : (t t' : TableInst) (funcs : List FuncInst) (addresses : List ℕ) (at i : ℕ) (fs : List ℕ) (g : FuncInst) (sig : FuncType)
    → at + i < length t.entries → i < length fs → get_or fs i 0 < length addresses → get_or addresses (get_or fs i 0) 0 < length funcs
    → g ≡ get_or funcs (get_or addresses (get_or fs i 0) 0) g → sig ≡ (get_or funcs (get_or addresses (get_or fs i 0) 0) g).ty
    → t' ≡ with_entry t (at + i) (record { func = record { address = get_or addresses (get_or fs i 0) 0 }; sig = sig })
    → with_entries t' (at + (i + 1)) (map (λ f. entry_in funcs (slice_get addresses f)) (drop (i + 1) fs)) ≡ with_entries t (at + i) (map (λ f. entry_in funcs (slice_get addresses f)) (drop i fs))
entry_more t t' funcs addresses at i fs g sig within more named there read typed put =
    let f = get_or fs i 0 in
    let a = get_or addresses f 0 in
    let entry : ℕ → Option Entry = λ f. entry_in funcs (slice_get addresses f) in
    let rest = map entry (drop (i + 1) fs) in
    let e : Entry = record { func = record { address = a }; sig = sig } in
    let ty : g.ty ≡ sig = ap (λ (h : FuncInst). h.ty) read ∙ sym typed in
    let is : entry f ≡ Some e =
    ap (entry_in funcs) (slice_get-get_or addresses f 0 named) ∙ ap (entry_at funcs a) (slice_get_read funcs (length funcs) a g refl there read)
    ∙ ap (λ (s : FuncType). Some (record { func = record { address = a }; sig = s })) ty in
    let next : at + (i + 1) ≡ at + i + 1 = omega arith in
    ap (λ (u : TableInst). with_entries u (at + (i + 1)) rest) put
    ∙ ap (λ k. with_entries (with_entry t (at + i) e) k rest) next
    ∙ ap (λ (xs : List (Option Entry)). record { entries = xs; max = t.max }) (written-more (at + i) (Some e) rest t.entries within)
    ∙ ap (λ x. with_entries t (at + i) (x ∷ rest)) (sym is)
    ∙ ap (λ xs. with_entries t (at + i) (map entry xs)) (sym (drop_more fs i 0 more))

-- ---- two lists, item by item

pub zip_length : {A B : Type 0} (R : A → B → Type 0) (xs : List A) (ys : List B) → AllZip R xs ys → length xs ≡ length ys
zip_length R [] [] all = refl
zip_length R [] (y ∷ ys) all = absurd all
zip_length R (x ∷ xs) [] all = absurd all
zip_length R (x ∷ xs) (y ∷ ys) all = ap suc (zip_length R xs ys all.1)

zip_at : {A B : Type 0} (R : A → B → Type 0) (xs : List A) (ys : List B) (k : ℕ) (x : A) (y : B) → AllZip R xs ys → k < length xs → R (get_or xs k x) (get_or ys k y)
zip_at R [] ys k x y all lt = absurd (omega arith)
zip_at R (a ∷ xs) [] k x y all lt = absurd all
zip_at R (a ∷ xs) (b ∷ ys) zero x y all lt = all.0
zip_at R (a ∷ xs) (b ∷ ys) (suc k) x y all lt = let below : k < length xs = omega arith in zip_at R xs ys k x y all.1 below

pub zip_read : {A B : Type 0} (R : A → B → Type 0) (xs : List A) (ys : List B) (k : ℕ) (x : A) (y : B) → AllZip R xs ys → k < length xs → x ≡ get_or xs k x → y ≡ get_or ys k y → R x y
zip_read R xs ys k x y all lt atx aty = subst (R x) (sym aty) (subst (λ z. R z (get_or ys k y)) (sym atx) (zip_at R xs ys k x y all lt))

-- ---- elements

module _ (funcs : List FuncInst) (globals : List GlobalInst) (i : Instance) where
  abbrev vs : List Value
  vs = values_at globals i.globals

  element_sizes : (e : Element) (tables : List TableInst) → ElementFits (map entry_count tables) vs i e → map entry_count (put_element funcs globals i e i.table tables) ≡ map entry_count tables
  element_sizes e tables fits = by i.table fits.size_is where
    by : (o : Option ℕ) → at (map entry_count tables) o ≡ Some fits.size → map entry_count (put_element funcs globals i e o tables) ≡ map entry_count tables
    by None is = refl
    by (Some a) is =
        let t = get_mapped entry_count tables a fits.size is in
        let place = index_of (constant_of vs e.offset) in
        let entries = map (λ f. entry_in funcs (slice_get i.funcs f)) e.funcs in
        let long : length entries ≡ length e.funcs = length-map e.funcs (λ f. entry_in funcs (slice_get i.funcs f)) in
        let room : place + length entries ≤ length t.0.entries = let r = fits.room in let s = t.2 in omega arith in
        ap (λ o. map entry_count (element_in tables a o place entries)) t.1
        ∙ map-same entry_count tables a t.0 (with_entries t.0 place entries) t.1 (length-written place entries t.0.entries room)

  pub element_more : (es : List Element) (k : ℕ) (e : Element) (tables tables' all : List TableInst) (sizes : List ℕ) → k < length es → e ≡ get_or es k e
      → All (ElementFits sizes vs i) es → map entry_count tables ≡ sizes → tables' ≡ put_element funcs globals i e i.table tables → put_elements funcs globals i (drop k es) tables ≡ all
      → (put_elements funcs globals i (drop (k + 1) es) tables' ≡ all) × (map entry_count tables' ≡ sizes)
  element_more es k e tables tables' all sizes lt read fit same put so =
      let fits : ElementFits (map entry_count tables) vs i e = subst (λ ss. ElementFits ss vs i e) (sym same) (subst (ElementFits sizes vs i) (sym read) (fit k e lt)) in (
        ap (put_elements funcs globals i (drop (k + 1) es)) put ∙ ap (λ l. put_elements funcs globals i l tables) (sym (next_is es k e lt read)) ∙ so,
        ap (map entry_count) put ∙ element_sizes e tables fits ∙ same,
      )

  elements_sizes : (es : List Element) (tables : List TableInst) → All (ElementFits (map entry_count tables) vs i) es → map entry_count (put_elements funcs globals i es tables) ≡ map entry_count tables
  elements_sizes [] tables fit = refl
  elements_sizes (e ∷ es) tables fit =
      let P = ElementFits (map entry_count tables) vs i in
      let same = element_sizes e tables (All-head P e es fit) in
      elements_sizes es (put_element funcs globals i e i.table tables) (subst (λ ss. All (ElementFits ss vs i) es) (sym same) (All-tail P e es fit)) ∙ same

pub elements_more : (funcs : List FuncInst) (globals : List GlobalInst) (is : List Instance) (ess : List (List Element)) (k : ℕ) (i : Instance) (es : List Element) (tables tables' all : List TableInst) (sizes : List ℕ)
    → k < length is → i ≡ get_or is k i → es ≡ get_or ess k es → AllZip (ElementsThere sizes (length funcs) globals) is ess → map entry_count tables ≡ sizes
    → tables' ≡ put_elements funcs globals i es tables → put_all_elements funcs globals (drop k is) (drop k ess) tables ≡ all
    → (put_all_elements funcs globals (drop (k + 1) is) (drop (k + 1) ess) tables' ≡ all) × (map entry_count tables' ≡ sizes)
elements_more funcs globals is ess k i es tables tables' all sizes lt read reads zip same put so =
    let R = ElementsThere sizes (length funcs) globals in
    let there = zip_read R is ess k i es zip lt read reads in
    let below : k < length ess = let n = zip_length R is ess zip in omega arith in
    let fit = subst (λ ss. All (ElementFits ss (values_at globals i.globals) i) es) (sym same) there.fit in (
      ap (put_all_elements funcs globals (drop (k + 1) is) (drop (k + 1) ess)) put
          ∙ ap (λ l. put_all_elements funcs globals (i ∷ drop (k + 1) is) l tables) (sym (next_is ess k es below reads))
          ∙ ap (λ l. put_all_elements funcs globals l (drop k ess) tables) (sym (next_is is k i lt read))
          ∙ so,
      ap (map entry_count) put ∙ elements_sizes funcs globals i es tables fit ∙ same,
    )

-- ---- data

module _ (globals : List GlobalInst) (i : Instance) where
  abbrev ws : List Value
  ws = values_at globals i.globals

  fill_sizes : (f : Fill) (memories : List Linear) → FillFits (map byte_count memories) ws i f → map byte_count (put_fill globals i f i.memory memories) ≡ map byte_count memories
  fill_sizes f memories fits = by i.memory fits.size_is where
    by : (o : Option ℕ) → at (map byte_count memories) o ≡ Some fits.size → map byte_count (put_fill globals i f o memories) ≡ map byte_count memories
    by None is = refl
    by (Some a) is =
        let m = get_mapped byte_count memories a fits.size is in
        let place = index_of (constant_of ws f.offset) in
        let room : place + length f.bytes ≤ length m.0.bytes = let r = fits.room in let s = m.2 in omega arith in
        ap (λ o. map byte_count (fill_in memories a o place f.bytes)) m.1
        ∙ map-same byte_count memories a m.0 (with_data m.0 place f.bytes) m.1 (length-written place f.bytes m.0.bytes room)

  pub fill_more : (fs : List Fill) (k : ℕ) (f : Fill) (memories memories' all : List Linear) (sizes : List ℕ) → k < length fs → f ≡ get_or fs k f
      → All (FillFits sizes ws i) fs → map byte_count memories ≡ sizes → memories' ≡ put_fill globals i f i.memory memories → put_fills globals i (drop k fs) memories ≡ all
      → (put_fills globals i (drop (k + 1) fs) memories' ≡ all) × (map byte_count memories' ≡ sizes)
  fill_more fs k f memories memories' all sizes lt read fit same put so =
      let fits : FillFits (map byte_count memories) ws i f = subst (λ ss. FillFits ss ws i f) (sym same) (subst (FillFits sizes ws i) (sym read) (fit k f lt)) in (
        ap (put_fills globals i (drop (k + 1) fs)) put ∙ ap (λ l. put_fills globals i l memories) (sym (next_is fs k f lt read)) ∙ so,
        ap (map byte_count) put ∙ fill_sizes f memories fits ∙ same,
      )

  fills_sizes : (fs : List Fill) (memories : List Linear) → All (FillFits (map byte_count memories) ws i) fs → map byte_count (put_fills globals i fs memories) ≡ map byte_count memories
  fills_sizes [] memories fit = refl
  fills_sizes (f ∷ fs) memories fit =
      let P = FillFits (map byte_count memories) ws i in
      let same = fill_sizes f memories (All-head P f fs fit) in
      fills_sizes fs (put_fill globals i f i.memory memories) (subst (λ ss. All (FillFits ss ws i) fs) (sym same) (All-tail P f fs fit)) ∙ same

pub fills_more : (globals : List GlobalInst) (is : List Instance) (fss : List (List Fill)) (k : ℕ) (i : Instance) (fs : List Fill) (memories memories' all : List Linear) (sizes : List ℕ)
    → k < length is → i ≡ get_or is k i → fs ≡ get_or fss k fs → AllZip (FillsThere sizes globals) is fss → map byte_count memories ≡ sizes
    → memories' ≡ put_fills globals i fs memories → put_all_fills globals (drop k is) (drop k fss) memories ≡ all
    → (put_all_fills globals (drop (k + 1) is) (drop (k + 1) fss) memories' ≡ all) × (map byte_count memories' ≡ sizes)
fills_more globals is fss k i fs memories memories' all sizes lt read reads zip same put so =
    let R = FillsThere sizes globals in
    let there = zip_read R is fss k i fs zip lt read reads in
    let below : k < length fss = let n = zip_length R is fss zip in omega arith in
    let fit = subst (λ ss. All (FillFits ss (values_at globals i.globals) i) fs) (sym same) there in (
      ap (put_all_fills globals (drop (k + 1) is) (drop (k + 1) fss)) put
          ∙ ap (λ l. put_all_fills globals (i ∷ drop (k + 1) is) l memories) (sym (next_is fss k fs below reads))
          ∙ ap (λ l. put_all_fills globals l (drop k fss) memories) (sym (next_is is k i lt read))
          ∙ so,
      ap (map byte_count) put ∙ fills_sizes globals i fs memories fit ∙ same,
    )
