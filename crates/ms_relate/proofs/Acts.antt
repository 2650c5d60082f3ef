-- Each instruction on segments acts as the meaning does.
use Rattle.std.proofs.Common.{◌∙◌, ◌≡◌, ℕ, ◌+◌, ◌*◌, ◌<◌, ◌≤◌, Bool, true, false, cond, ℤ, pos, List, ◌∷◌, Option, Some, None, Result, Ok, refl, sym, ap}
use Rattle.c_types.specs.Layout.{Table}
use Rattle.c_types.specs.Types.{Ty, void, integer, struct, pointer, array, function, is_function}
use Rattle.c_types.specs.declared.integers.IntType.{IntType}
use Rattle.c_types.specs.declared.integers.IntType.TheVariants.{Char, LongLong}
use Rattle.ms_relate.specs.refinement.Laid.{Fits, is_handle}
use Rattle.c_meaning.specs.Shapes.{Shape, elements, Part, part_of, shape, size}
use Rattle.c_meaning.specs.Values.{Value, null, number, to_member, inside}
use Rattle.c_meaning.specs.Integers.{value_of}
use Rattle.c_meaning.specs.Objects.{Kind, Object, Outcome, distance, free, further, moved, read, same_place, write}
use Rattle.ms_event.specs.declared.event.Event.{Event}
use Rattle.ms_event.specs.declared.event.Event.TheVariants as events
use Rattle.ms_handle.specs.declared.handle.Apart.{Apart}
use Rattle.ms_handle.specs.declared.handle.Handle.{Handle}
use Rattle.ms_handle.specs.declared.handle.Kind.TheVariants as kinds
use Rattle.ms_handle.specs.Handle.{add, eq, slice}
use Rattle.ms_linear.specs.declared.value.Value.{Value as Operand}
use Rattle.ms_linear.specs.declared.value.Value.TheVariants as operands
use Rattle.ms_machine.specs.Segments.{Effect, Gives, changed, handle_read, measured, number_read, segment_on, slice_event, trap_of}
use Rattle.ms_host.specs.declared.trap.TrapKind.{TrapKind}
use Rattle.ms_machine.specs.Segments.{Trap}
use Rattle.ms_machine.specs.Step.{act, in_segments, Next}
use Rattle.ms_machine.specs.Step as Outcomes
use Rattle.ms_machine.specs.Store.{Store as MachineStore, with_segments}
use Rattle.ms_module.specs.declared.access.Segment.{Segment}
use Rattle.ms_module.specs.declared.instr.Instr.TheVariants as Instrs
use Rattle.ms_task.specs.Thread.{Frame, Item, thread}
use Rattle.ms_module.specs.declared.access.LoadOp.TheVariants as loads
use Rattle.ms_module.specs.declared.access.StoreOp.TheVariants as stores
use Rattle.ms_module.specs.declared.access.Segment.TheVariants.{Add, Diff, Eq, Free, New, Slice, Store}
use Rattle.ms_num.specs.Integers.{truth, wrapped}
use Rattle.ms_segment.specs.Calls.{Change, store}
use Rattle.ms_segment.specs.Memory.{Memory, loaded, once_more}
use Rattle.ms_segment.specs.declared.trap.SegTrap.{SegTrap}
use Rattle.ms_relate.specs.refinement.Homes.{Home, handle, IsIn, IsOf, is_number, IsScalar, Leads, word}
use Rattle.ms_relate.specs.refinement.Relation.{Related, kind_of}
use Rattle.ms_relate.specs.refinement.Operations.{Ends, null_ends, invalid_ends, freed_ends, bounds_ends, whole_ends, kind_ends, readonly_ends, Reads, reads, stopped, ReadsPointer, reads_pointer, pointer_stopped, Changes, changes, change_stopped, Creates, created, refused}
use Rattle.ms_relate.proofs.Ending.{free_object}
use Rattle.ms_relate.proofs.Comparing.{Differs, differs, are_apart, differs_is, same_is}
use Rattle.ms_relate.proofs.Making.{creates}
use Rattle.ms_relate.proofs.Slicing as Pointers
use Rattle.ms_relate.proofs.Slicing.{elements_give, member_gives}
use Rattle.ms_relate.proofs.Moving.{moved_is}
use Rattle.ms_relate.proofs.Reading.{read_number, read_pointer}
use Rattle.ms_relate.proofs.Writing.{write_number, write_pointer}
use Rattle.ms_relate.specs.refinement.Acts.{load_of, store_of, operand, load_instr, store_instr, Traps, null_traps, invalid_traps, freed_traps, bounds_traps, whole_traps, kind_traps, readonly_traps, LoadActs, loads', load_traps, ChangeActs, changes', change_traps, DiffActs, diff_gives, diff_traps, apart_traps, NewActs, new_created, new_refused}
use Rattle.ms_relate.proofs.Operands.{byte_is, load_width, store_is, value_is}

trap_from : (u : _) (e : SegTrap) → Ends u e → Traps u (trap_of e)
trap_from u e null_ends = null_traps
trap_from u e invalid_ends = invalid_traps
trap_from u e freed_ends = freed_traps
trap_from u e bounds_ends = bounds_traps
trap_from u e whole_ends = whole_traps
trap_from u e kind_ends = kind_traps
trap_from u e readonly_ends = readonly_traps

plain_flag : (u : Ty) (b : Bool) → is_function u ≡ b → is_handle (pointer u) ≡ cond b false true
plain_flag u b e = ap (λ (x : Bool). cond x false true) e

module _ (table : Table) (places : Ty → ℕ → ℕ) (homes : List Home) (m : Memory) where
  -- ---- loads

  integer_loaded : (t : IntType) (o : Outcome Value) (r : Result (ℕ × Event) SegTrap) → Reads table places homes (integer t) o r → LoadActs table places homes (integer t) m (λ rest. number_read (load_of t) m rest r) o
  integer_loaded t o r (reads {v} {e} of) = given v of where
    given : (v : Value) → IsOf table places homes (integer t) v → LoadActs table places homes (integer t) m (λ rest. number_read (load_of t) m rest (Ok (word places (integer t) v, e))) (Rattle.c_meaning.specs.Objects.gives v)
    given v (is_number {z} in_range) = loads' (is_number in_range) (λ rest. ap (λ (x : Operand). Gives (x ∷ rest) (once_more m) (Some e)) (value_is t z in_range))
  integer_loaded t o r (stopped ends) = load_traps (trap_from _ _ ends) (λ rest. refl)

  function_loaded : (u : Ty) (o : Outcome Value) (r : Result (ℕ × Event) SegTrap) → is_handle (pointer u) ≡ false → Reads table places homes (pointer u) o r → LoadActs table places homes (pointer u) m (λ rest. number_read loads.I32Load m rest r) o
  function_loaded u o r plain (reads {v} {e} of) = loads' of (λ rest. ap (λ (b : Bool). Gives (cond b (operands.Handle (handle homes v)) (operands.I32 (word places (pointer u) v)) ∷ rest) (once_more m) (Some e)) (sym plain))
  function_loaded u o r plain (stopped ends) = load_traps (trap_from _ _ ends) (λ rest. refl)

  pointer_loaded : (u : Ty) (o : Outcome Value) (r : Result (Handle × Event) SegTrap) → is_handle (pointer u) ≡ true → ReadsPointer table places homes (pointer u) o r → LoadActs table places homes (pointer u) m (λ rest. handle_read m rest r) o
  pointer_loaded u o r has (reads_pointer {v} {e} of) = loads' of (λ rest. ap (λ (b : Bool). Gives (cond b (operands.Handle (handle homes v)) (operands.I32 (word places (pointer u) v)) ∷ rest) (once_more m) (Some e)) (sym has))
  pointer_loaded u o r has (pointer_stopped ends) = load_traps (trap_from _ _ ends) (λ rest. refl)

  pub load_acts : (objects : List Object) (t : Ty) (p : Value) → Related table places homes objects m → IsScalar t → IsOf table places homes (pointer t) p → LoadActs table places homes t m (λ rest. segment_on (load_instr t) m (operands.Handle (handle homes p) ∷ rest)) (read objects p)
  load_acts objects (integer t) p related is of =
      integer_loaded t (read objects p) _ (rw (load_width t) (read_number table places homes objects m (integer t) p related tt refl of))
  load_acts objects (pointer u) p related is of = by (is_function u) refl where
    by : (b : Bool) → is_function u ≡ b → LoadActs table places homes (pointer u) m (λ rest. segment_on (load_instr (pointer u)) m (operands.Handle (handle homes p) ∷ rest)) (read objects p)
    by true f =
        let r : Reads table places homes (pointer u) (read objects p) (loaded m (handle homes p) 4) = rw f at (read_number table places homes objects m (pointer u) p related tt (plain_flag u true f) of) in
        rw f (function_loaded u (read objects p) _ (plain_flag u true f) r)
    by false f = rw f (pointer_loaded u (read objects p) _ (plain_flag u false f) (read_pointer table places homes objects m (pointer u) p related tt (plain_flag u false f) of))
  load_acts objects void p related is of = absurd is
  load_acts objects (struct n) p related is of = absurd is
  load_acts objects (array t n) p related is of = absurd is
  load_acts objects (function r ps) p related is of = absurd is

  -- ---- stores and frees

  pub changed_acts : (o : Outcome (List Object)) (r : Result Change SegTrap) → Changes table places homes o r → ChangeActs table places homes (λ rest. changed rest r) o
  changed_acts o r (changes related) = changes' related (λ rest. refl)
  changed_acts o r (change_stopped ends) = change_traps (trap_from _ _ ends) (λ rest. refl)

  same_acts : (f g : List Operand → Effect) (o : Outcome (List Object)) → ((rest : List Operand) → f rest ≡ g rest) → ChangeActs table places homes g o → ChangeActs table places homes f o
  same_acts f g o same (changes' related is) = changes' related (λ rest. same rest ∙ is rest)
  same_acts f g o same (change_traps ends is) = change_traps ends (λ rest. same rest ∙ is rest)

  pub store_acts : (objects : List Object) (t : Ty) (p v : Value) → Related table places homes objects m → IsScalar t → IsOf table places homes (pointer t) p → IsOf table places homes t v → ChangeActs table places homes (λ rest. segment_on (store_instr t) m (operand places homes t v ∷ operands.Handle (handle homes p) ∷ rest)) (write objects p v)
  store_acts objects (integer t) p v related is of value = given v value where
    given : (v : Value) → IsOf table places homes (integer t) v → ChangeActs table places homes (λ rest. segment_on (Store (store_of t)) m (operand places homes (integer t) v ∷ operands.Handle (handle homes p) ∷ rest)) (write objects p v)
    given v (is_number {z} in_range) = same_acts _ _ (write objects p (number z)) (λ rest. store_is t z m (handle homes p) rest) (changed_acts _ _ (write_number table places homes objects m (integer t) p (number z) related tt refl of (is_number in_range)))
  store_acts objects (pointer u) p v related is of value = by (is_function u) refl where
    by : (b : Bool) → is_function u ≡ b → ChangeActs table places homes (λ rest. segment_on (store_instr (pointer u)) m (operand places homes (pointer u) v ∷ operands.Handle (handle homes p) ∷ rest)) (write objects p v)
    by true f =
        let r : Changes table places homes (write objects p v) (store m (handle homes p) 4 (word places (pointer u) v)) = rw f at (write_number table places homes objects m (pointer u) p v related tt (plain_flag u true f) of value) in
        rw f (changed_acts (write objects p v) _ r)
    by false f = rw f (changed_acts (write objects p v) _ (write_pointer table places homes objects m (pointer u) p v related tt (plain_flag u false f) of value))
  store_acts objects void p v related is of value = absurd is
  store_acts objects (struct n) p v related is of value = absurd is
  store_acts objects (array t n) p v related is of value = absurd is
  store_acts objects (function r ps) p v related is of value = absurd is

  -- of a byte into an element of type char
  pub byte_acts : (objects : List Object) (p : Value) (b : ℕ) → b < 256 → IsIn Char (value_of Char b) → Related table places homes objects m → IsOf table places homes (pointer (integer Char)) p
      → ChangeActs table places homes (λ rest. segment_on (Store stores.I32Store8) m (operands.I32 (wrapped 32 (pos b)) ∷ operands.Handle (handle homes p) ∷ rest)) (write objects p (number (value_of Char b)))
  byte_acts objects p b lt in_range related of =
      same_acts _ _ (write objects p (number (value_of Char b))) (λ rest. byte_is b lt m (handle homes p) rest) (store_acts objects (integer Char) p (number (value_of Char b)) related tt of (is_number in_range))

  pub free_acts : (objects : List Object) (t : Ty) (p : Value) → Related table places homes objects m → (p ≡ null → ⊥) → IsOf table places homes (pointer t) p → is_function t ≡ false → ChangeActs table places homes (λ rest. segment_on (Free kinds.Heap) m (operands.Handle (handle homes p) ∷ rest)) (free objects p)
  free_acts objects t p related some of plain = changed_acts (free objects p) _ (free_object table places homes objects m t p related some of plain)

  -- ---- arithmetic

  pub add_acts : (rest : List Operand) (t : Ty) (d : ℤ) (p : Value) → IsIn LongLong d → IsOf table places homes (pointer t) p → is_function t ≡ false → 0 < size (shape table t) → segment_on (Add (size (shape table t))) m (operands.I64 (wrapped 64 d) ∷ operands.Handle (handle homes p) ∷ rest) ≡ Gives (operands.Handle (handle homes (moved (size (shape table t)) d p)) ∷ rest) m None
  add_acts rest t d p in_range of plain some =
      rw (moved_is table places homes t d p of plain some) (ap (λ (x : ℤ). Gives (operands.Handle (add (handle homes p) x (size (shape table t))) ∷ rest) m None) in_range)

  -- ---- members and sub-arrays

  -- a slice, where the meaning gives a pointer
  sliced_acts : (rest : List Operand) (u : Shape) (v w : Value) (off l : ℕ) → Pointers.Gives homes u w (slice (handle homes v) off l) → segment_on Slice m (operands.I32 l ∷ operands.I32 off ∷ operands.Handle (handle homes v) ∷ rest) ≡ Gives (operands.Handle (handle homes w) ∷ rest) m (slice_event (handle homes v) (handle homes w))
  sliced_acts rest u v w off l given = ap (λ (h : Handle). Gives (operands.Handle h ∷ rest) m (slice_event (handle homes v) h)) (sym given.handle_is)

  pub member_acts : (objects : List Object) (e : Shape) (k : ℕ) (p : Part) (v : Value) → Related table places homes objects m → Leads homes e v → part_of e k ≡ Some p → 0 < size p.shape → p.offset + size p.shape ≤ size e
      → (w : Value) × (further (λ i. to_member i k) objects v ≡ Rattle.c_meaning.specs.Objects.gives w) × Leads homes p.shape w × ((rest : List Operand) → segment_on Slice m (operands.I32 (size p.shape) ∷ operands.I32 p.offset ∷ operands.Handle (handle homes v) ∷ rest) ≡ Gives (operands.Handle (handle homes w) ∷ rest) m (slice_event (handle homes v) (handle homes w)))
  member_acts objects e k p v related leads is some within =
      let g = member_gives table places homes objects m e k p v related leads is some within in
      (g.0, g.1, g.2.leads, λ rest. sliced_acts rest p.shape v g.0 p.offset (size p.shape) g.2)

  pub elements_acts : (objects : List Object) (e : Shape) (n : ℕ) (v : Value) → Related table places homes objects m → Leads homes (elements e n) v → 0 < n * size e
      → (w : Value) × (further inside objects v ≡ Rattle.c_meaning.specs.Objects.gives w) × Leads homes e w × ((rest : List Operand) → segment_on Slice m (operands.I32 (n * size e) ∷ operands.I32 0 ∷ operands.Handle (handle homes v) ∷ rest) ≡ Gives (operands.Handle (handle homes w) ∷ rest) m (slice_event (handle homes v) (handle homes w)))
  elements_acts objects e n v related leads some =
      let g = elements_give table places homes objects m e n v related leads some in
      (g.0, g.1, g.2.leads, λ rest. sliced_acts rest e v g.0 0 (n * size e) g.2)

  -- ---- comparisons

  pub eq_acts : (objects : List Object) (t u : Ty) (v w : Value) → Related table places homes objects m → is_function t ≡ false → is_function u ≡ false → IsOf table places homes (pointer t) v → IsOf table places homes (pointer u) w
      → (b : Bool) × (same_place objects v w ≡ Rattle.c_meaning.specs.Objects.gives b) × ((rest : List Operand) → segment_on Eq m (operands.Handle (handle homes w) ∷ operands.Handle (handle homes v) ∷ rest) ≡ Gives (operands.I32 (truth b) ∷ rest) m None)
  eq_acts objects t u v w related plain plain' of of' =
      (eq (handle homes v) (handle homes w), same_is table places homes objects m t u v w related plain plain' of of', λ rest. refl)

  measured_acts : (o : Outcome ℤ) (r : Result ℤ Apart) → Differs o r → DiffActs m (λ rest. measured m rest r) o
  measured_acts o r differs = diff_gives (λ rest. refl)
  measured_acts o r are_apart = diff_traps apart_traps (λ rest. refl)

  pub diff_acts : (objects : List Object) (t u : Ty) (v w : Value) → Related table places homes objects m → is_function t ≡ false → is_function u ≡ false → IsOf table places homes (pointer t) v → IsOf table places homes (pointer u) w → DiffActs m (λ rest. segment_on Diff m (operands.Handle (handle homes w) ∷ operands.Handle (handle homes v) ∷ rest)) (distance objects v w)
  diff_acts objects t u v w related plain plain' of of' = measured_acts (distance objects v w) _ (differs_is table places homes objects m t u v w related plain plain' of of')

  -- ---- making

  created_acts : (objects : List Object) (k : Kind) (s : Shape) (n bytes : ℕ) (h : Handle) (e : Event) (after : Memory) → Creates table places homes objects m k s n bytes h e after → NewActs table places homes objects m k s n bytes (λ rest. Gives (operands.Handle h ∷ rest) after (Some e))
  created_acts objects k s n bytes h e after (created {id} {base} related is) = new_created related (λ rest. ap (λ (x : Handle). Gives (operands.Handle x ∷ rest) after (Some (events.Alloc id base bytes))) is)
  created_acts objects k s n bytes h e after refused = new_refused (λ rest. refl)

  pub new_acts : (objects : List Object) (k : Kind) (s : Shape) (n : ℕ) → Related table places homes objects m → Fits s → NewActs table places homes objects m k s n (n * size s) (λ rest. segment_on (New (kind_of k)) m (operands.I32 (n * size s) ∷ rest))
  new_acts objects k s n related fits = created_acts objects k s n (n * size s) _ _ _ (creates table places homes objects m k s n related fits)

-- ---- on the whole machine: the store's other parts, the frame and the work stay

pub act_gives : (s : MachineStore) (fr : Frame) (w : List Item) (i : Segment) (vs vs' : List Operand) (m : Memory) (e : Option Event) → segment_on i s.segments vs ≡ Gives vs' m e → act s (Instrs.Segment i) (thread fr vs w) ≡ Next (with_segments s m) (thread fr vs' w) e
act_gives s fr w i vs vs' m e is = ap (λ (x : Effect). in_segments s (thread fr vs w) x) is

pub act_traps : (s : MachineStore) (fr : Frame) (w : List Item) (i : Segment) (vs : List Operand) (k : TrapKind) → segment_on i s.segments vs ≡ Trap k → act s (Instrs.Segment i) (thread fr vs w) ≡ Outcomes.Trap k
act_traps s fr w i vs k is = ap (λ (x : Effect). in_segments s (thread fr vs w) x) is
