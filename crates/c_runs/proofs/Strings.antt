-- The bytes of a string go into the first elements of an array of char (C11, 6.7.9, paragraph 14), each by way of the array's handle, which
-- waits in a scratch local.
use Rattle.std.proofs.Common.{◌≡◌, ℕ, suc, ◌+◌, ◌-◌, ◌^◌, ◌<◌, negsuc, List, [], ◌∷◌, ◌++◌, length, map, Bool, true, false, Some, None, refl, sym, ap, ◌∙◌, arith, subst}
use Rattle.std.specs.Prelude.{pos, nat_lt, slice_get, ◌-ℤ◌, if◌then◌else◌}
use Rattle.std.proofs.lemmas.Int.{ints}
use Rattle.ms_handle.specs.declared.handle.Handle.{Handle as HandleOf}
use Rattle.ms_linear.specs.declared.value.Value.{Value as Word}
use Rattle.ms_linear.specs.declared.value.Value.TheVariants.{Handle, I32, I64}
use Rattle.ms_machine.specs.Segments.{Effect, changed as changed_by, segment_on}
use Rattle.ms_segment.specs.Calls.{store}
use Rattle.ms_segment.specs.Memory.{Memory}
use Rattle.ms_module.specs.declared.access.Segment.TheVariants as segment
use Rattle.ms_module.specs.declared.access.StoreOp.TheVariants as stores
use Rattle.ms_module.specs.declared.instr.Instr.{Instr}
use Rattle.ms_module.specs.declared.instr.Instr.TheVariants.{LocalGet, LocalSet, Segment}
use Rattle.ms_module.specs.declared.numeric.Width.TheVariants.{W32, W64}
use Rattle.ms_num.specs.Integers.{wrapped}
use Rattle.ms_task.specs.Thread.{Do, Item, Thread, thread}
use Rattle.c_types.specs.declared.integers.IntType.TheVariants.{Char}
use Rattle.c_types.specs.Types.{Ty, integer, pointer}
use Rattle.c_meaning.specs.Values.{Value}
use Rattle.c_meaning.specs.Objects as objects
use Rattle.c_meaning.specs.Objects.{Object, Outcome, Unsafe, moved, write, write_all}
use Rattle.c_meaning.specs.World.{World, Result, gives, Does, after, alter, as_done, unsafe, ◌>>=◌}
use Rattle.c_meaning.specs.Integers.{value_of, wrap}
use Rattle.c_meaning.specs.Expressions.{char_of}
use Rattle.ms_emit.specs.Codes.{Code, one, ◌⨾◌, size_of}
use Rattle.c_code.specs.Operations.{i32, i64}
use Rattle.c_code.specs.Statements.{bytes_put, filled}
use Rattle.c_code.specs.Targets.{Target, scratch_handle}
use Rattle.c_numbers.proofs.Conversions.{constant_is}
use Rattle.c_numbers.proofs.Ranges.{bits_below, wrap_in}
use Rattle.c_numbers.proofs.Wrapping.{in_positive}
use Rattle.ms_relate.specs.refinement.Acts.{ChangeActs, change_traps, changes'}
use Rattle.ms_relate.specs.refinement.Homes.{Home, IsOf, handle, is_number}
use Rattle.ms_relate.specs.refinement.Relation.{Related}
use Rattle.ms_relate.proofs.Acts.{act_gives, act_traps, add_acts, store_acts}
use Rattle.ms_relate.proofs.Operands.{store_is}
use Rattle.ms_relate.proofs.Growing.{handle_still}
use Rattle.ms_relate.proofs.Moving.{moved_is_of}
use Rattle.c_runs.proofs.Goes as goes
use Rattle.c_runs.proofs.Goes.{Goes, Mem, Runs, RunsTo, Site, Stops, behind_goes, goes_on, here, one_here, resize, resize_to, trapped}
use Rattle.c_runs.proofs.Held.{set_there}
use Rattle.c_runs.proofs.Lasting.{written_lasts}
use Rattle.c_runs.proofs.Values.{value_still}
use Rattle.c_runs.proofs.Related.{Env, IsValue, Kept, Now, extends_trans, frame_of, front, pushes}
use Rattle.c_runs.proofs.Ops.{GoodIn, OpIn, ToIn, at_work, carried_is, op_then_in, same}
use Rattle.c_runs.proofs.Nodes.{Always, Leaves, gone}
use Rattle.c_runs.proofs.Steps.{Quiet, event_goes, kept_objects, quiet_store, quiet_tells, trap_is}
use Rattle.c_runs.proofs.Switches.{IsTemp, get_temp, set_goes, set_stays, with_temp}
use Rattle.c_runs.proofs.Cells.{LeadsTo}
use Rattle.c_runs.proofs.Whole.{IsWhole}

never_behind : (is js : List Instr) (i : Instr) → is ++ i ∷ js ≡ [] → ⊥
never_behind [] js i e = absurd cc
never_behind (j ∷ is) js i e = absurd cc

pub whole_filled : (t : Target) (c : Code) (bytes : List ℕ) → IsWhole (filled t c bytes)
whole_filled t c bytes n e = absurd (never_behind (c n).instrs _ _ e)

abbrev char : Ty
char = integer Char

-- ---- a byte that is stored, modulo 256, and its number of type char

back_char : (n : ℕ) → n < 256 → wrapped 8 (value_of Char n) ≡ n
back_char n lt = by (nat_lt n 128) where
  by : (c : Bool) → wrapped 8 (if c then pos n else pos n -ℤ pos 256) ≡ n
  by true = omega (arith, lt)
  by false =
      let is : pos n -ℤ pos 256 ≡ negsuc (255 - n) = omega (arith, ints, lt) in
      let low : wrapped 8 (negsuc (255 - n)) ≡ n = omega (arith, lt) in
      ap (wrapped 8) is ∙ low

as_acts : (E : Env) (hs : List Home) (f g : List Word → Effect) (o : Outcome (List Object)) → ((rest : List Word) → f rest ≡ g rest) → ChangeActs E.unit.structs E.places hs g o → ChangeActs E.unit.structs E.places hs f o
as_acts E hs f g o same (changes' related is) = changes' related (λ rest. same rest ∙ is rest)
as_acts E hs f g o same (change_traps ends is) = change_traps ends (λ rest. same rest ∙ is rest)

byte_acts : (E : Env) (hs : List Home) (m : Memory) (objects : List Object) (p : Value) (b : ℕ) → Related E.unit.structs E.places hs objects m → IsOf E.unit.structs E.places hs (pointer (integer Char)) p
    → ChangeActs E.unit.structs E.places hs (λ rest. segment_on (segment.Store stores.I32Store8) m (I32 (wrapped 32 (pos b)) ∷ Handle (handle hs p) ∷ rest)) (write objects p (char_of b))
byte_acts E hs m objects p b related of =
    let h = handle hs p in
    let same : wrapped 8 (pos b) ≡ wrapped 8 (wrap Char (pos b)) = sym (back_char (wrapped 8 (pos b)) (bits_below Char (pos b))) in
    as_acts E hs _ _ (write objects p (char_of b)) (λ rest. store_is Char (pos b) m h rest ∙ ap (λ (k : ℕ). changed_by rest (store m h 1 k)) same ∙ sym (store_is Char (wrap Char (pos b)) m h rest))
    (store_acts E.unit.structs E.places hs m objects (integer Char) p (char_of b) related tt of (is_number (wrap_in Char (pos b))))

-- the objects are these now
abbrev pub changed : List Object → World → Result (Unit {0})
changed os w = gives tt (record w { objects = os })

-- an unsafe end is one also where the objects differ
pub unsafe_as : (S : Site) (size : ℕ) (w w' : World) (os : List Object) (m : Mem) (t : Thread) (u : Unsafe) → Stops S size w (record w' { objects = os }) m t (unsafe u) → Stops S size w w' m t (unsafe u)
unsafe_as S size w w' os m t u h = record {
  puts = h.puts;
  events = h.events;
  tells = record { output = h.tells.output; sizes = h.tells.sizes; grants = h.tells.grants };
  is = tt;
  cost = h.cost;
  least = h.least;
  greatest = h.greatest;
  so = h.so;
  asks = tt;
}

module _ (E : Env) where
  abbrev byte_store : Instr
  byte_store = Segment (segment.Store stores.I32Store8)

  abbrev Fills : Now → Unit {0} → World → Mem → Type 0
  Fills now = GoodIn E (λ gs. Always E) now

  abbrev to : List Word → List Item → Unit {0} → World → Mem → Thread
  to vs r = ToIn E (λ gs. gone E) vs r

  is_handle : IsTemp E (scratch_handle E.target) 2
  is_handle = let e = E.scratch_is in omega (arith, e)

  -- what is stored in front of more that is changed, all of it or nothing
  then_changed : (size : ℕ) (m : Mem) (t : Thread) (now : Now) (vs : List Word) (r : List Item) (w : World) (os : List Object) (x : Outcome (List Object))
      → RunsTo E.site size m t (record w { objects = os }) (to vs r) (Fills now) (after (as_done x (record w { objects = os })) changed)
      → RunsTo E.site size m t (record w { objects = os }) (to vs r) (Fills now) (after (as_done x w) changed)
  then_changed size m t now vs r w os (objects.gives qs) h = h
  then_changed size m t now vs r w os (objects.stops u) h = unsafe_as E.site size (record w { objects = os }) w os m t u h
  then_changed size m t now vs r w os objects.lost h = absurd h.is

  -- ---- a byte at a pointer

  store_byte : (now : Now) (b : ℕ) (q : Value) (vs : List Word) (next : List Item) (r : List Item) (w : World) (m : Mem) → Kept E now w m → (size : ℕ) (f : List Object → Outcome (List Object)) (o : Outcome (List Object)) → write w.objects q (char_of b) ≡ o
      → ChangeActs E.unit.structs E.places m.homes (λ rest. segment_on (segment.Store stores.I32Store8) m.segments (I32 (wrapped 32 (pos b)) ∷ Handle (handle m.homes q) ∷ rest)) o
      → ((m1 : Mem) (os : List Object) → m1.homes ≡ m.homes → m1.temps ≡ m.temps → Kept E now (record w { objects = os }) m1
      → Runs E.site size m1 (at_work E m1 w vs next) (record w { objects = os }) (to vs r) (Fills now) (alter f (record w { objects = os })))
      → Runs E.site (1 + size) m (at_work E m w (I32 (wrapped 32 (pos b)) ∷ Handle (handle m.homes q) ∷ vs) (Do byte_store ∷ next)) w (to vs r) (Fills now) (after (as_done (objects.after o f) w) changed)
  store_byte now b q vs next r w m k size f (objects.gives os) eq (changes' {m = seg} {e} related is) on =
      let m1 : Mem = record m { segments = seg } in
      let w1 : World = record w { objects = os } in
      let us = I32 (wrapped 32 (pos b)) ∷ Handle (handle m.homes q) ∷ vs in
      let quiet = subst Quiet (is vs) (quiet_store stores.I32Store8 m.segments (I32 (wrapped 32 (pos b))) (handle m.homes q) vs) in
      let kept = kept_objects E now w.objects os w m seg related (written_lasts w.objects os q (char_of b) eq) k in
      behind_goes E.site 1 size w w1 m m1 (at_work E m w us (Do byte_store ∷ next)) (at_work E m1 w1 vs next) (to vs r) (Fills now) (after (as_done (f os) w) changed)
      (event_goes E.site w w1 m m1 byte_store (frame_of E m w) us next (thread (frame_of E m w) vs next) (Some e) refl refl
      (quiet_tells E.site w w1 (Some e) quiet refl refl refl)
      (act_gives (goes.store E.site m) (frame_of E m w) next (segment.Store stores.I32Store8) us vs seg (Some e) (is vs)))
      (λ ag. then_changed size m1 (at_work E m1 w1 vs next) now vs r w os (f os) (on m1 os refl refl kept ag))
  store_byte now b q vs next r w m k size f (objects.stops u) eq (change_traps {k = kind} traps is) on = λ ag.
      let us = I32 (wrapped 32 (pos b)) ∷ Handle (handle m.homes q) ∷ vs in
      resize_to E.site 1 (1 + size) m (at_work E m w us (Do byte_store ∷ next)) w (to vs r) (Fills now) (after (as_done (objects.stops u) w) changed) (omega arith)
      (trapped E.site w m byte_store (frame_of E m w) us next kind (unsafe u)
      (act_traps (goes.store E.site m) (frame_of E m w) next (segment.Store stores.I32Store8) us kind (is vs)) tt (trap_is u kind traps) tt)
  store_byte now b q vs next r w m k size f objects.lost eq x on = elim x [ ]

  -- the pointer to an element and the byte on the operands
  element_goes : (now : Now) (i b : ℕ) → i < 2 ^ 63 → (p : Value) (vs : List Word) (r : List Item) (w : World) (m : Mem) → Kept E now w m → LeadsTo E char m.homes p → slice_get m.temps 2 ≡ Some (Handle (handle m.homes p))
      → Goes E.site 4 w w m (at_work E m w vs (Do (LocalGet (scratch_handle E.target)) ∷ Do (i64 i) ∷ Do (Segment (segment.Add 1)) ∷ Do (i32 b) ∷ r)) m (at_work E m w (I32 (wrapped 32 (pos b)) ∷ Handle (handle m.homes (moved 1 (pos i) p)) ∷ vs) r)
  element_goes now i b lt p vs r w m k of there =
      let x = scratch_handle E.target in
      let fr = frame_of E m w in
      let v1 = Handle (handle m.homes p) ∷ vs in
      let v2 = I64 (wrapped 64 (pos i)) ∷ v1 in
      let v3 = Handle (handle m.homes (moved 1 (pos i) p)) ∷ vs in
      let v4 = I32 (wrapped 32 (pos b)) ∷ v3 in
      let r4 = Do (i32 b) ∷ r in
      let r3 = Do (Segment (segment.Add 1)) ∷ r4 in
      let r2 = Do (i64 i) ∷ r3 in
      let r1 = Do (LocalGet x) ∷ r2 in
      goes_on E.site 1 3 w w w m m m (at_work E m w vs r1) (at_work E m w v1 r2) (at_work E m w v4 r)
      (one_here E.site w m m (LocalGet x) fr vs r2 (thread fr v1 r2) (get_temp E w m k.held x 2 is_handle (Handle (handle m.homes p)) there vs r2))
      (goes_on E.site 1 2 w w w m m m (at_work E m w v1 r2) (at_work E m w v2 r3) (at_work E m w v4 r)
      (one_here E.site w m m (i64 i) fr v1 r3 (thread fr v2 r3) (carried_is E (i64 i) m fr v1 v2 r3 (constant_is W64 (pos i) v1)))
      (goes_on E.site 1 1 w w w m m m (at_work E m w v2 r3) (at_work E m w v3 r4) (at_work E m w v4 r)
      (one_here E.site w m m (Segment (segment.Add 1)) fr v2 r4 (thread fr v3 r4)
      (act_gives (goes.store E.site m) fr r4 (segment.Add 1) v2 v3 m.segments None (add_acts E.unit.structs E.places m.homes m.segments vs char (pos i) p (in_positive W64 i lt) of refl (omega arith))))
      (one_here E.site w m m (i32 b) fr v3 r (thread fr v4 r) (carried_is E (i32 b) m fr v3 v4 r (constant_is W32 (pos b) v3)))))

  -- ---- all bytes

  puts : (bytes : List ℕ) (i : ℕ) → i + length bytes < 2 ^ 63 → (n : ℕ) (now : Now) (p : Value) (vs : List Word) (r : List Item) (w : World) (m : Mem) → Kept E now w m → LeadsTo E char m.homes p → slice_get m.temps 2 ≡ Some (Handle (handle m.homes p))
      → Runs E.site (size_of (bytes_put E.target i bytes n)) m (at_work E m w vs (front (bytes_put E.target i bytes n).instrs r)) w (to vs r) (Fills now) (alter (write_all 1 p i (map char_of bytes)) w)
  puts [] i lt n now p vs r w m k of there = here E.site 0 w m (to vs r) (Fills now) tt (tt, k)
  puts (b ∷ bytes) i lt n now p vs r w m k of there =
      let q = moved 1 (pos i) p in
      let y = bytes_put E.target (suc i) bytes (n + 0) in
      let next = front y.instrs r in
      let f = write_all 1 p (suc i) (map char_of bytes) in
      let all = front (bytes_put E.target i (b ∷ bytes) n).instrs r in
      let o = write w.objects q (char_of b) in
      let start = at_work E m w vs all in
      let us = I32 (wrapped 32 (pos b)) ∷ Handle (handle m.homes q) ∷ vs in
      let of_q : LeadsTo E char m.homes q = moved_is_of E.unit.structs E.places m.homes char (pos i) p of refl in
      resize E.site (4 + (1 + size_of y)) (size_of (bytes_put E.target i (b ∷ bytes) n)) m start w (to vs r) (Fills now) (alter (write_all 1 p i (map char_of (b ∷ bytes))) w) (omega arith)
      (behind_goes E.site 4 (1 + size_of y) w w m m start (at_work E m w us (Do byte_store ∷ next)) (to vs r) (Fills now) (alter (write_all 1 p i (map char_of (b ∷ bytes))) w)
      (element_goes now i b (omega (arith, lt)) p vs (Do byte_store ∷ next) w m k of there)
      (store_byte now b q vs next r w m k (size_of y) f o refl (byte_acts E m.homes m.segments w.objects q b k.related of_q)
      (λ m1 os eh et k1.
      puts bytes (suc i) (omega (arith, lt)) (n + 0) now p vs r (record w { objects = os }) m1 k1 (subst (λ (hs : List Home). LeadsTo E char hs p) (sym eh) of)
      (ap (λ (ts : List Word). slice_get ts 2) et ∙ there ∙ ap (λ (hs : List Home). Some (Handle (handle hs p))) (sym eh)))))

  -- the pointer on the operands goes into the local first
  fills : (bytes : List ℕ) → length bytes < 2 ^ 63 → (gs : List Home) (p : Value) → IsValue E (pointer char) gs p
      → OpIn E gs (one (LocalSet (scratch_handle E.target)) ⨾ bytes_put E.target 0 bytes) (pushes E (pointer char) gs p) (λ hs. gone E) (λ hs. Always E) (alter (write_all 1 p 0 (map char_of bytes)))
  fills bytes lt gs p ok n has now le vs r dep w m k =
      let more = extends_trans gs now.homes m.homes le.grown k.grown in
      let of = value_still E.unit.structs E.places gs m.homes more (pointer char) p ok in
      let x = scratch_handle E.target in
      let H = Handle (handle m.homes p) in
      let m1 = with_temp E m 2 H in
      let long = k.temps.long in
      let inside : 2 < length m.temps = omega (arith, long) in
      let k1 : Kept E now w m1 = set_stays E now w.objects w m 2 H (λ j lt e. omega (arith, e)) k in
      let y = bytes_put E.target 0 bytes (n + 0) in
      let next = front y.instrs r in
      let z = alter (write_all 1 p 0 (map char_of bytes)) w in
      let all = size_of ((one (LocalSet x) ⨾ bytes_put E.target 0 bytes) n) in
      subst (λ (h : HandleOf). Runs E.site all m (at_work E m w (Handle h ∷ vs) (Do (LocalSet x) ∷ next)) w (to vs r) (Fills now) z) (handle_still E.unit.structs E.places gs m.homes more (pointer char) p ok)
      (resize E.site (1 + size_of y) all m (at_work E m w (H ∷ vs) (Do (LocalSet x) ∷ next)) w (to vs r) (Fills now) z (omega arith)
      (behind_goes E.site 1 (size_of y) w w m m1 (at_work E m w (H ∷ vs) (Do (LocalSet x) ∷ next)) (at_work E m1 w vs next) (to vs r) (Fills now) z
      (set_goes E w m k.held x 2 is_handle inside H vs next)
      (puts bytes 0 (omega (arith, lt)) (n + 0) now p vs r w m1 k1 of (set_there m.temps 2 H inside))))

  pub fill_runs : (bytes : List ℕ) → length bytes < 2 ^ 63 → (c : Code) (x : Does Value) → Leaves E c (pointer char) x
      → OpIn E [] (filled E.target c bytes) same (λ hs. gone E) (λ hs. Always E) (x >>= (λ p. alter (write_all 1 p 0 (map char_of bytes))))
  fill_runs bytes lt c x h =
      op_then_in E [] c (one (LocalSet (scratch_handle E.target)) ⨾ bytes_put E.target 0 bytes) same (pushes E (pointer char)) (λ hs. gone E) (IsValue E (pointer char)) (λ hs. Always E) x (λ p. alter (write_all 1 p 0 (map char_of bytes))) h
      (λ gs grown p ok. fills bytes lt gs p ok)
