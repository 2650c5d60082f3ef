-- Objects of the heap end (C11, 7.22.3.3). A null pointer is passed over.
use Rattle.std.proofs.Common.{◌≡◌, ◌⊎◌, inl, inr, ℕ, ◌<◌, List, [], ◌∷◌, Bool, true, false, Some, None, refl, sym, ap, ◌∙◌, arith, subst}
use Rattle.std.specs.Prelude.{not, slice_get, if◌then◌else◌}
use Rattle.ms_handle.specs.declared.handle.Handle.{Handle as HandleOf}
use Rattle.ms_handle.specs.declared.handle.Handle.TheVariants.{Null}
use Rattle.ms_handle.specs.declared.handle.Kind.TheVariants as kinds
use Rattle.ms_host.specs.declared.trap.TrapKind.TheVariants as traps
use Rattle.ms_linear.specs.declared.value.Value.{Value as Word}
use Rattle.ms_linear.specs.declared.value.Value.TheVariants.{Handle, I32}
use Rattle.ms_machine.specs.Segments.{is_null as is_no_handle, segment_on}
use Rattle.ms_machine.specs.Step as step
use Rattle.ms_module.specs.declared.access.Segment.TheVariants as segment
use Rattle.ms_module.specs.declared.instr.Instr.{Instr}
use Rattle.ms_module.specs.declared.instr.Instr.TheVariants.{LocalGet, LocalTee, Segment}
use Rattle.ms_num.specs.Integers.{truth as bit}
use Rattle.ms_operate.specs.Outcomes as operate
use Rattle.ms_task.specs.Thread.{Do, Item, thread}
use Rattle.c_types.specs.Layout.{Table}
use Rattle.c_types.specs.Types.{Ty, void, pointer, is_function}
use Rattle.c_meaning.specs.Values.{Pointer, Value, null, invalid, points}
use Rattle.c_meaning.specs.Objects as objects
use Rattle.c_meaning.specs.Objects.{Object, Outcome, free}
use Rattle.c_meaning.specs.World.{unsafe, World, gives, Does, after, ◌>>=◌, ◌>>◌, pure, stop, alter, as_done}
use Rattle.c_meaning.specs.Expressions as meaning
use Rattle.ms_emit.specs.Codes.{Code, plain, one, no_code, ◌⨾◌, choice}
use Rattle.c_code.specs.Expressions.{freed}
use Rattle.c_code.specs.Operations.{eqz}
use Rattle.c_code.specs.Targets.{scratch_handle}
use Rattle.c_numbers.specs.Operands.{carried}
use Rattle.ms_relate.specs.refinement.Acts.{ChangeActs, change_traps, changes'}
use Rattle.ms_relate.specs.refinement.Homes as homes
use Rattle.ms_relate.specs.refinement.Homes.{Home, handle}
use Rattle.ms_relate.proofs.Acts.{act_gives, act_traps, free_acts}
use Rattle.ms_relate.proofs.Growing.{handle_still}
use Rattle.c_runs.proofs.Goes as goes
use Rattle.c_runs.proofs.Goes.{Mem, RunsTo, trapped}
use Rattle.c_runs.proofs.Lasting.{freed_lasts}
use Rattle.c_runs.proofs.Values.{value_still}
use Rattle.c_runs.proofs.Related.{Env, IsValue, Kept, Now, extends_trans, frame_of, pushes}
use Rattle.c_runs.proofs.Ops.{GoodIn, OpIn, Stack, ToIn, at_work, carried_is, op_look_in, op_none_in, op_then_in, op_trap_in, same}
use Rattle.c_runs.proofs.Nodes.{Always, Carries, Leaves, gone, remains}
use Rattle.c_runs.proofs.Whole.{whole_plain}
use Rattle.c_runs.proofs.Steps.{Quiet, event_goes, kept_objects, quiet_free, quiet_tells, trap_is}
use Rattle.c_runs.proofs.Switches.{IsTemp}
use Rattle.c_runs.proofs.Cells.{pointer_word}
use Rattle.c_runs.proofs.Scalars.{no_null}
use Rattle.c_runs.proofs.Tested.{Changes, bit_test, op_tested, with_taken, with_unused}

-- a pointer is null, and so is its handle, or neither is
abbrev IsPassed : List Home → Value → Type 0
IsPassed hs v = ((v ≡ null) × (is_no_handle (handle hs v) ≡ true)) ⊎ ((v ≡ null → ⊥) × (is_no_handle (handle hs v) ≡ false))

some_invalid : invalid ≡ null → ⊥
some_invalid e = absurd cc

some_pointer : (p : Pointer) → points p ≡ null → ⊥
some_pointer p e = absurd cc

passed : (table : Table) (places : Ty → ℕ → ℕ) (hs : List Home) (t : Ty) (v : Value) → is_function t ≡ false → homes.IsOf table places hs (pointer t) v → IsPassed hs v
passed table places hs t v d (homes.is_null e) = inl (refl, refl)
passed table places hs t v d (homes.is_invalid e) = inr (some_invalid, refl)
passed table places hs t v d (homes.is_pointer {p = p} h s e at span shape near) = inr (some_pointer p, no_null (slice_get hs p.object) p)
passed table places hs t v d (homes.is_named e lt) = absurd (let z : false ≡ true = sym d ∙ e in cc)
passed table places hs t v d (homes.is_no_function e) = absurd (let z : false ≡ true = sym d ∙ e in cc)

turned : (b : Bool) (vs : List Word) → carried eqz (I32 (bit b) ∷ vs) ≡ operate.Gives (I32 (bit (not b)) ∷ vs)
turned true vs = refl
turned false vs = refl

module _ (E : Env) (t : Ty) (data_is : is_function t ≡ false) where
  abbrev frees : Instr
  frees = Segment (segment.Free kinds.Heap)

  abbrev meant : Value → Does (Unit {0})
  meant p = alter (λ os. free os p)

  -- ---- a pointer that isn't null

  freed_by : (p : Value) (now : Now) (vs : List Word) (r : List Item) (w : World) (m : Mem) → Kept E now w m → (o : Outcome (List Object)) → free w.objects p ≡ o
      → ChangeActs E.unit.structs E.places m.homes (λ rest. segment_on (segment.Free kinds.Heap) m.segments (Handle (handle m.homes p) ∷ rest)) o
      → RunsTo E.site 1 m (at_work E m w (Handle (handle m.homes p) ∷ vs) (Do frees ∷ r)) w (ToIn E (λ gs. gone E) vs r) (GoodIn E (λ gs. Always E) now) (after (as_done o w) (λ qs w1. gives tt (record w1 { objects = qs })))
  freed_by p now vs r w m k (objects.gives qs) eq (changes' {m = seg} {e} related is) =
      let m' : Mem = record m { segments = seg } in
      let w' : World = record w { objects = qs } in
      let us = Handle (handle m.homes p) ∷ vs in
      let quiet = subst Quiet (is vs) (quiet_free m.segments kinds.Heap (handle m.homes p) vs) in (
        m',
        (tt, kept_objects E now w.objects qs w m seg related (freed_lasts w.objects qs p eq) k),
        event_goes E.site w w' m m' frees (frame_of E m w) us r (thread (frame_of E m w) vs r) (Some e) refl refl
            (quiet_tells E.site w w' (Some e) quiet refl refl refl)
            (act_gives (goes.store E.site m) (frame_of E m w) r (segment.Free kinds.Heap) us vs seg (Some e) (is vs)),
      )
  freed_by p now vs r w m k (objects.stops u) eq (change_traps {k = kind} traps is) =
      trapped E.site w m frees (frame_of E m w) (Handle (handle m.homes p) ∷ vs) r kind (unsafe u)
      (act_traps (goes.store E.site m) (frame_of E m w) r (segment.Free kinds.Heap) (Handle (handle m.homes p) ∷ vs) kind (is vs)) tt (trap_is u kind traps) tt
  freed_by p now vs r w m k objects.lost eq x = elim x [ ]

  op_free : (gs : List Home) (p : Value) → IsValue E (pointer t) gs p → (p ≡ null → ⊥) → OpIn E gs (one frees) (λ vs. Handle (handle gs p) ∷ vs) (λ hs. gone E) (λ hs. Always E) (meant p)
  op_free gs p ok some n has now le vs r dep w m k ag =
      let more = extends_trans gs now.homes m.homes le.grown k.grown in
      subst (λ (h : HandleOf). RunsTo E.site 1 m (at_work E m w (Handle h ∷ vs) (Do frees ∷ r)) w (ToIn E (λ hs. gone E) vs r) (GoodIn E (λ hs. Always E) now) (meant p w)) (handle_still E.unit.structs E.places gs m.homes more (pointer t) p ok)
      (freed_by p now vs r w m k (free w.objects p) refl
      (free_acts E.unit.structs E.places m.homes m.segments w.objects t p k.related some (value_still E.unit.structs E.places gs m.homes more (pointer t) p ok) data_is))

  -- ---- any pointer

  abbrev local : ℕ
  local = scratch_handle E.target

  is_local : IsTemp E local 2
  is_local = let e = E.scratch_is in omega (arith, e)

  few : 2 < 4
  few = omega arith

  tests_handle : (h : HandleOf) (b : Bool) → is_no_handle h ≡ b → Changes E (Segment segment.IsNull) (λ vs. Handle h ∷ vs) (λ vs. I32 (bit b) ∷ vs)
  tests_handle h b e m fr vs r =
      act_gives (goes.store E.site m) fr r segment.IsNull (Handle h ∷ vs) (I32 (bit (is_no_handle h)) ∷ vs) m.segments None refl
      ∙ ap (λ (c : Bool). step.Next (goes.store E.site m) (thread fr (I32 (bit c) ∷ vs) r) None) e

  turns : (b : Bool) → Changes E eqz (λ vs. I32 (bit b) ∷ vs) (λ vs. I32 (bit (not b)) ∷ vs)
  turns b m fr vs r = carried_is E eqz m fr (I32 (bit b) ∷ vs) (I32 (bit (not b)) ∷ vs) r (turned b vs)

  abbrev arm : Code
  arm = plain (LocalGet local ∷ frees ∷ [])

  abbrev behind : Code
  behind = plain (LocalTee local ∷ Segment segment.IsNull ∷ eqz ∷ []) ⨾ choice None arm no_code

  -- the arm, if the handle isn't null, and no code else
  frees_by : (gs : List Home) (h : HandleOf) (b : Bool) (y : Does (Unit {0})) → is_no_handle h ≡ b → OpIn E gs (one frees) (λ vs. Handle h ∷ vs) (λ hs. gone E) (λ hs. Always E) y
      → OpIn E gs behind (λ vs. Handle h ∷ vs) (λ hs. gone E) (λ hs. Always E) (if not b then y else pure tt)
  frees_by gs h b y e run =
      op_tested E gs local 2 is_local few (Handle h) (Segment segment.IsNull) eqz (λ vs. I32 (bit b) ∷ vs) (bit (not b)) (not b) None arm no_code (λ hs. gone E) (λ hs. Always E) y (pure tt) (whole_plain []) (bit_test E (not b))
      (tests_handle h b e) (turns b)
      (with_taken E gs local 2 is_local few (Handle h) (one frees) (λ hs. gone E) (λ hs. Always E) y run)
      (with_unused E gs local 2 is_local few (Handle h) no_code (λ hs. gone E) (λ hs. Always E) (pure tt) (op_none_in E gs same (λ hs. gone E) (λ hs. Always E) tt (λ hs more. tt) (λ hs vs more. refl)))

  -- a null handle isn't freed
  never_frees : (gs : List Home) (h : HandleOf) → h ≡ Null → OpIn E gs (one frees) (λ vs. Handle h ∷ vs) (λ hs. gone E) (λ hs. Always E) (stop (unsafe objects.at_null))
  never_frees gs h e =
      op_trap_in E gs frees (λ vs. Handle h ∷ vs) (λ hs. gone E) (λ hs. Always E) traps.Null (unsafe objects.at_null) (λ w. tt) refl (λ m t w. tt)
      (λ m w vs r. act_traps (goes.store E.site m) (frame_of E m w) r (segment.Free kinds.Heap) (Handle h ∷ vs) traps.Null (ap (λ (q : HandleOf). segment_on (segment.Free kinds.Heap) m.segments (Handle q ∷ vs)) e))

  passed_runs : (gs : List Home) (p : Value) → IsValue E (pointer t) gs p → IsPassed gs p → OpIn E gs behind (λ vs. Handle (handle gs p) ∷ vs) (λ hs. gone E) (λ hs. Always E) (meant p)
  passed_runs gs p ok (inl q) =
      subst (λ (v : Value). OpIn E gs behind (λ vs. Handle (handle gs v) ∷ vs) (λ hs. gone E) (λ hs. Always E) (meant v)) (sym q.0)
      (frees_by gs Null true (stop (unsafe objects.at_null)) refl (never_frees gs Null refl))
  passed_runs gs p ok (inr q) = frees_by gs (handle gs p) false (meant p) q.1 (op_free gs p ok q.0)

  none_left : (kept : Bool) (v : Unit {0}) (hs : List Home) (vs : List Word) → gone E v vs ≡ remains E kept void hs meaning.nothing_given vs
  none_left true v hs vs = refl
  none_left false v hs vs = refl

  pub free_runs : (kept : Bool) (c : Code) (x : Does Value) → Leaves E c (pointer t) x → Carries E kept (freed E.target c) void (x >>= meant >> pure meaning.nothing_given)
  free_runs kept c x h =
      op_look_in E [] (c ⨾ behind) same (λ hs. gone E) (remains E kept void) (λ hs. Always E) (IsValue E void) (x >>= meant) (λ q. pure meaning.nothing_given)
      (op_then_in E [] c behind same (pushes E (pointer t)) (λ hs. gone E) (IsValue E (pointer t)) (λ hs. Always E) x meant h
      (λ gs grown p ok.
      subst (λ (st : Stack). OpIn E gs behind st (λ hs. gone E) (λ hs. Always E) (meant p)) (λ j vs. sym (pointer_word E t gs p data_is) j ∷ vs)
      (passed_runs gs p ok (passed E.unit.structs E.places gs t p data_is ok))))
      (λ gs grown q ok. (meaning.nothing_given, refl, λ vs. none_left kept q gs vs, tt))
