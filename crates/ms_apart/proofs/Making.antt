-- A new segment on each of two memories that are alike: its identities become a pair, and all else is as before.
use Rattle.std.proofs.Common.{◌≡◌, ℕ, suc, zero, ◌+◌, inl, inr, true, cond, List, [], ◌∷◌, Option, Some, None, length, map, replicate, refl, sym, ap, ◌∙◌, subst, arith, option_map}
use Rattle.std.proofs.lemmas.Bool.{cases_eq, eq-eqb, ne_eqb}
use Rattle.std.proofs.lemmas.List.{length-replicate}
use Rattle.ms_event.specs.declared.event.Event.TheVariants as events
use Rattle.ms_handle.specs.declared.handle.Handle.{Handle}
use Rattle.ms_handle.specs.declared.handle.Handle.TheVariants.{Null, Broken, Good}
use Rattle.ms_handle.specs.declared.handle.Kind.{Kind}
use Rattle.ms_linear.specs.declared.global.GlobalInst.{GlobalInst}
use Rattle.ms_linear.specs.declared.value.Value.{Value}
use Rattle.ms_linear.specs.declared.value.Value.TheVariants as values
use Rattle.ms_live.specs.declared.gaps.Live.{Live}
use Rattle.ms_live.specs.Place.{IsPlace}
use Rattle.ms_machine.specs.refinement.Holding.{Each, EachKept}
use Rattle.ms_segment.specs.Memory.{IsSound, Memory, live_of}
use Rattle.ms_segment.specs.Parts.{entered}
use Rattle.ms_segment.proofs.Placing.{place-within}
use Rattle.ms_tagged.specs.Bytes.{Byte, Data, Piece}
use Rattle.ms_tagged.proofs.Ranges.{range-overwritten_same}
use Rattle.ms_task.specs.Thread.{Activation, Do, Item, Label}
use Rattle.ms_apart.specs.refinement.Renaming.{Renaming, rename, rename_all, rename_byte, rename_frame, rename_global, rename_handle, rename_work}
use Rattle.ms_apart.specs.refinement.Apart.{EachByte, HandleOn, MemoryAlike, Owned, SegmentAlike, SegmentOn, ValueOn, contents, owned_after, renamed_after}
use Rattle.ms_segment.proofs.Standing.{live_is, made_range, new_live, old_live}

-- ---- names that agree on what is owned

module _ (own : Owned) (r r1 : Renaming) (agree : (i : ℕ) → own i ≡ true → r1 i ≡ r i) where
  pub handle_agrees : (h : Handle) → HandleOn own true h → rename_handle r1 h ≡ rename_handle r h
  handle_agrees Null x = refl
  handle_agrees Broken x = refl
  handle_agrees (Good sealed id base size offset) x = ap (λ i. Good sealed i base size offset) (agree id x)

  pub value_agrees : (v : Value) → ValueOn own true v → rename r1 v ≡ rename r v
  value_agrees (values.I32 n) x = refl
  value_agrees (values.I64 n) x = refl
  value_agrees (values.Handle h) x = ap values.Handle (handle_agrees h x)

  pub values_agree : (vs : List Value) → Each (ValueOn own true) vs → rename_all r1 vs ≡ rename_all r vs
  values_agree [] x = refl
  values_agree (v ∷ vs) x = ap (λ u. u ∷ rename_all r1 vs) (value_agrees v x.0) ∙ ap (λ us. rename r v ∷ us) (values_agree vs x.1)

  pub work_agrees : (w : List Item) → EachKept (ValueOn own true) w → rename_work r1 w ≡ rename_work r w
  work_agrees [] x = refl
  work_agrees (Do i ∷ w) x = ap (λ u. Do i ∷ u) (work_agrees w x)
  work_agrees (Label k h g ∷ w) x = ap (λ u. Label k h g ∷ u) (work_agrees w x)
  work_agrees (Activation k h caller ∷ w) x =
      ap (λ ls. Activation k h (record { function = caller.function; locals = ls }) ∷ rename_work r1 w) (values_agree caller.locals x.0) ∙ ap (λ u. Activation k h (rename_frame r caller) ∷ u) (work_agrees w x.1)

  pub bytes_agree : (xs : List Byte) → EachByte (HandleOn own true) xs → map (rename_byte r1) xs ≡ map (rename_byte r) xs
  bytes_agree [] x = refl
  bytes_agree (Data n ∷ xs) x = ap (λ ys. Data n ∷ ys) (bytes_agree xs x)
  bytes_agree (Piece h i ∷ xs) x = ap (λ g. Piece g i ∷ map (rename_byte r1) xs) (handle_agrees h x.0) ∙ ap (λ ys. Piece (rename_handle r h) i ∷ ys) (bytes_agree xs x.1)

  pub global_agrees : (o : Option GlobalInst) → ((g : GlobalInst) → o ≡ Some g → ValueOn own true g.value) → option_map (rename_global r1) o ≡ option_map (rename_global r) o
  global_agrees None x = refl
  global_agrees (Some g) x = ap (λ v. Some (record { value = v; mutable = g.mutable })) (value_agrees g.value (x g refl))

zeros_renamed : (r : Renaming) (n : ℕ) → replicate n (Data 0) ≡ map (rename_byte r) (replicate n (Data 0))
zeros_renamed r zero = refl
zeros_renamed r (suc n) = ap (λ xs. Data 0 ∷ xs) (zeros_renamed r n)

-- ---- one memory

module _ (m : Memory) (size base : ℕ) (kind : Kind) (sound : IsSound m) (placed : IsPlace m.live (length m.bytes) size (Some base)) where
  abbrev pub segment : Live
  segment = record { id = m.made + 1; base = base; size = size; kind = kind }

  abbrev pub now : Memory
  now = entered m base size kind

  pub new_contents : contents now segment ≡ replicate size (Data 0)
  new_contents = range-overwritten_same base size (replicate size (Data 0)) m.bytes (sym (length-replicate size (Data 0))) (place-within m.live (length m.bytes) size base placed)

  pub old_contents : (i : ℕ) (s : Live) → live_of m i ≡ Some s → contents now s ≡ contents m s
  old_contents i s live = made_range m.live size base s s.base s.size m.bytes placed (live_is m i s live).0 (omega arith) (omega arith)

-- ---- both

module _ (own : Owned) (r : Renaming) (m m' : Memory) (alike : MemoryAlike own r m m') (sound : IsSound m) (sound' : IsSound m') (kept : (id : ℕ) → SegmentOn own m (own id) (live_of m id)) (size base base' : ℕ) (kind : Kind) (at : IsPlace m.live (length m.bytes) size (Some base)) (at' : IsPlace m'.live (length m'.bytes) size (Some base')) where
  abbrev pub own1 : Owned
  own1 = owned_after (Some (events.Alloc (m.made + 1) base size)) own

  abbrev pub r1 : Renaming
  r1 = renamed_after (Some (events.Alloc (m.made + 1) base size)) (Some (events.Alloc (m'.made + 1) base' size)) r

  own_new : (i : ℕ) → i ≡ m.made + 1 → own1 i ≡ true
  own_new i e = ap (λ b. cond b true (own i)) (eq-eqb i (m.made + 1) e)

  own_old : (i : ℕ) → (i ≡ m.made + 1 → ⊥) → own1 i ≡ own i
  own_old i other = ap (λ b. cond b true (own i)) (ne_eqb i (m.made + 1) other)

  pub name_new : r1 (m.made + 1) ≡ m'.made + 1
  name_new = ap (λ b. cond b (m'.made + 1) (r (m.made + 1))) (eq-eqb (m.made + 1) (m.made + 1) refl)

  name_old : (i : ℕ) → (i ≡ m.made + 1 → ⊥) → r1 i ≡ r i
  name_old i other = ap (λ b. cond b (m'.made + 1) (r i)) (ne_eqb i (m.made + 1) other)

  fresh : (i : ℕ) → own i ≡ true → i ≡ m.made + 1 → ⊥
  fresh i mine e = let low = (alike.made i mine).0 in omega (arith, low, e)

  pub names_agree : (i : ℕ) → own i ≡ true → r1 i ≡ r i
  names_agree i mine = name_old i (fresh i mine)

  was_own : (i : ℕ) → own1 i ≡ true → (i ≡ m.made + 1 → ⊥) → own i ≡ true
  was_own i mine other = sym (own_old i other) ∙ mine

  old_alike : (i : ℕ) → own i ≡ true → (o o' : Option Live) → live_of m i ≡ o → live_of m' (r i) ≡ o' → SegmentAlike r m m' o o' → SegmentAlike r1 (now m size base kind sound at) (now m' size base' kind sound' at') o o'
  old_alike i mine None None e e' x = tt
  old_alike i mine (Some s) (Some s') e e' x =
      let all : EachByte (HandleOn own (own i)) (contents m s) = subst (SegmentOn own m (own i)) e (kept i) in
      let on : EachByte (HandleOn own true) (contents m s) = subst (λ b. EachByte (HandleOn own b) (contents m s)) mine all in
      (x.0, x.1, old_contents m' size base' kind sound' at' (r i) s' e' ∙ (x.2 ∙ (sym (bytes_agree own r r1 names_agree (contents m s) on) ∙ ap (map (rename_byte r1)) (sym (old_contents m size base kind sound at i s e)))))
  old_alike i mine None (Some s') e e' x = absurd x
  old_alike i mine (Some s) None e e' x = absurd x

  new_alike : SegmentAlike r1 (now m size base kind sound at) (now m' size base' kind sound' at') (Some (segment m size base kind sound at)) (Some (segment m' size base' kind sound' at'))
  new_alike = (refl, refl, new_contents m' size base' kind sound' at' ∙ (zeros_renamed r1 size ∙ ap (map (rename_byte r1)) (sym (new_contents m size base kind sound at))))

  name_low : (i : ℕ) → own i ≡ true → r i ≡ m'.made + 1 → ⊥
  name_low i mine e = let low = (alike.made i mine).1 in omega (arith, low, e)

  pub made_alike : MemoryAlike own1 r1 (entered m base size kind) (entered m' base' size kind)
  made_alike =
      record {
        made = λ i mine. elim (cases_eq i (m.made + 1)) [
          | inl e ↦ let n : r1 i ≡ m'.made + 1 = ap r1 e ∙ name_new in (omega (arith, e), omega (arith, n))
          | inr other ↦ let low = alike.made i (was_own i mine other) in let n = name_old i other in (omega (arith, low.0), omega (arith, low.1, n))
        ];
        different = λ i j mine mine' e. elim (cases_eq i (m.made + 1)) [
          | inl new ↦ elim (cases_eq j (m.made + 1)) [
            | inl new' ↦ new ∙ sym new'
            | inr old' ↦ absurd (name_low j (was_own j mine' old') (sym (name_old j old') ∙ (sym e ∙ (ap r1 new ∙ name_new))))
          ]
          | inr old ↦ elim (cases_eq j (m.made + 1)) [
            | inl new' ↦ absurd (name_low i (was_own i mine old) (sym (name_old i old) ∙ (e ∙ (ap r1 new' ∙ name_new))))
            | inr old' ↦ alike.different i j (was_own i mine old) (was_own j mine' old') (sym (name_old i old) ∙ (e ∙ name_old j old'))
          ]
        ];
        segments = λ i mine. elim (cases_eq i (m.made + 1)) [
          | inl new ↦ subst (λ j. SegmentAlike r1 (entered m base size kind) (entered m' base' size kind) (live_of (entered m base size kind) j) (live_of (entered m' base' size kind) (r1 j))) (sym new)
              (subst (λ o. SegmentAlike r1 (entered m base size kind) (entered m' base' size kind) o (live_of (entered m' base' size kind) (r1 (m.made + 1)))) (sym (new_live m size base kind sound.placed))
              (subst (λ j. SegmentAlike r1 (entered m base size kind) (entered m' base' size kind) (Some (segment m size base kind sound at)) (live_of (entered m' base' size kind) j)) (sym name_new)
              (subst (λ o. SegmentAlike r1 (entered m base size kind) (entered m' base' size kind) (Some (segment m size base kind sound at)) o) (sym (new_live m' size base' kind sound'.placed)) new_alike)))
          | inr old ↦
              let was = was_own i mine old in
              let apart : r i ≡ m'.made + 1 → ⊥ = name_low i was in
              subst (λ o. SegmentAlike r1 (entered m base size kind) (entered m' base' size kind) o (live_of (entered m' base' size kind) (r1 i))) (sym (old_live m size base kind i old))
              (subst (λ j. SegmentAlike r1 (entered m base size kind) (entered m' base' size kind) (live_of m i) (live_of (entered m' base' size kind) j)) (sym (name_old i old))
              (subst (λ o. SegmentAlike r1 (entered m base size kind) (entered m' base' size kind) (live_of m i) o) (sym (old_live m' size base' kind (r i) apart))
              (old_alike i was (live_of m i) (live_of m' (r i)) refl refl (alike.segments i was))))
        ];
      }
