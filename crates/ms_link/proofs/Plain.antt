-- The linked store before anything has run: no global holds a handle into the segment memory, which is empty.
use Rattle.std.proofs.Common.{◌≡◌, ◌<◌, ℕ, zero, suc, false, List, [], ◌∷◌, ◌++◌, map, replicate, slice_get, Result, Ok, Err, refl, subst, arith}
use Rattle.std.specs.List.{Contains}
use Rattle.std.proofs.lemmas.List.Elements.{All-contains, All-nil, All-replicate}
use Rattle.ms_event.specs.Monitor.{nothing_yet, shade_of}
use Rattle.ms_live.specs.declared.gaps.Live.{Live}
use Rattle.ms_handle.specs.declared.handle.Handle.{Handle}
use Rattle.ms_handle.specs.declared.handle.Handle.TheVariants as handles
use Rattle.ms_linear.specs.declared.global.GlobalInst.{GlobalInst}
use Rattle.ms_linear.specs.declared.value.Value.{Value}
use Rattle.ms_linear.specs.declared.value.Value.TheVariants as values
use Rattle.ms_module.specs.declared.access.Segment.TheVariants.{Null}
use Rattle.ms_module.specs.declared.instr.Instr.{Instr}
use Rattle.ms_module.specs.declared.instr.Instr.TheVariants.{GlobalGet, I32Const, I64Const, Segment}
use Rattle.ms_module.specs.declared.module.Global.{Global}
use Rattle.ms_module.specs.declared.module.Module.{Module}
use Rattle.ms_module.specs.Numbered.{sequence_at}
use Rattle.ms_segment.specs.Memory.{Memory}
use Rattle.ms_segment.proofs.Sound.{IsData, IsSound-new}
use Rattle.ms_tagged.specs.Bytes.{Data, Piece}
use Rattle.ms_machine.specs.Externs.{Fault, Made}
use Rattle.ms_machine.specs.refinement.Holding.{Each, EachGlobal, Fits, StoreFits, ThreadHolds}
use Rattle.ms_machine.specs.Linked.{all_more, and_then, globals_in, linked, nothing_made, one_more, own_global, store_of, value_at, values_at}
use Rattle.ms_machine.specs.Constants.{constant, constant_in, value_or_zero}
use Rattle.ms_machine.specs.refinement.Safety.{IsMonitored, IsWithinSegment, Knows, Sound}
use Rattle.ms_machine.specs.Store.{Store}
use Rattle.ms_machine.proofs.SafePaints.{Contains-none}
use Rattle.std.specs.Prelude.{IfOk}
use Rattle.ms_link.specs.refinement.Answers.{DoesLink}
use Rattle.ms_link.specs.declared.fault.LinkFault.{LinkFault}
use Rattle.ms_link.proofs.Fits.{one_more_adds}
use Rattle.ms_link.proofs.Stores.{linked_made}

-- ---- values without a handle into the segment memory

abbrev IsPlain : Value → Type 0
IsPlain (values.Handle (handles.Good sealed id base size offset)) = ⊥
IsPlain v = Unit {0}

some_plain : (vs : List Value) (x : ℕ) → Each IsPlain vs → IsPlain (value_or_zero (slice_get vs x))
some_plain [] x all = tt
some_plain (v ∷ vs) zero all = all.0
some_plain (v ∷ vs) (suc x) all = some_plain vs x all.1

constant_plain : (vs : List Value) (i : Instr) → Each IsPlain vs → IsPlain (constant vs i)
constant_plain vs (I32Const n) all = tt
constant_plain vs (I64Const n) all = tt
constant_plain vs (Segment Null) all = tt
constant_plain vs (GlobalGet x) all = some_plain vs x all
constant_plain vs _ all = tt

code_plain : (vs : List Value) (is : List Instr) → Each IsPlain vs → IsPlain (constant_in vs is)
code_plain vs [] all = tt
code_plain vs (i ∷ is) all = constant_plain vs i all

got_plain : (gs : List GlobalInst) (a : ℕ) → EachGlobal IsPlain gs → IsPlain (value_at gs a)
got_plain [] a all = tt
got_plain (g ∷ gs) zero all = all.0
got_plain (g ∷ gs) (suc a) all = got_plain gs a all.1

values_plain : (gs : List GlobalInst) (ns : List ℕ) → EachGlobal IsPlain gs → Each IsPlain (values_at gs ns)
values_plain gs [] all = tt
values_plain gs (a ∷ ns) all = (got_plain gs a all, values_plain gs ns all)

more_plain : (gs : List GlobalInst) (vs : List Value) (new : List Global) → Each IsPlain vs → EachGlobal IsPlain gs → EachGlobal IsPlain (gs ++ map (own_global vs) new)
more_plain [] vs [] values all = tt
more_plain [] vs (g ∷ new) values all = (code_plain vs (sequence_at g.init 0) values, more_plain [] vs new values tt)
more_plain (g ∷ gs) vs new values all = (all.0, more_plain gs vs new values all.1)

-- ---- each module keeps it

one_plain : (made : Made) (name : List ℕ) (m : Module) (next : Made) → EachGlobal IsPlain made.globals → one_more made name m ≡ Ok next → EachGlobal IsPlain next.globals
one_plain made name m next plain e =
    let adds = one_more_adds made name m next e in
    subst (λ (x : Made). EachGlobal IsPlain x.globals) adds.is
    (more_plain made.globals (values_at made.globals (globals_in adds.es)) m.globals (values_plain made.globals (globals_in adds.es) plain) plain)

all_plain : (ms : List (List ℕ × Module)) (made last : Made) → EachGlobal IsPlain made.globals → all_more ms made ≡ Ok last → EachGlobal IsPlain last.globals
all_plain [] made last plain e = let same : made ≡ last = cc in subst (λ (x : Made). EachGlobal IsPlain x.globals) same plain
all_plain (m ∷ ms) made last plain e =
    by (one_more made m.0 m.1) (λ next is. one_plain made m.0 m.1 next plain is) (λ next h is. all_plain ms next last h is) e where
      by : (r : Result Made Fault) → ((next : Made) → r ≡ Ok next → EachGlobal IsPlain next.globals) → ((next : Made) → EachGlobal IsPlain next.globals → all_more ms next ≡ Ok last → EachGlobal IsPlain last.globals)
          → and_then r (all_more ms) ≡ Ok last → EachGlobal IsPlain last.globals
      by (Ok next) now later e = later next (now next refl) e
      by (Err fault) now later e = cc

-- ---- what is plain fits, and is known

plain_fits : (m : Memory) (gs : List GlobalInst) → EachGlobal IsPlain gs → EachGlobal (Fits m) gs
plain_fits m [] all = tt
plain_fits m (g ∷ gs) all = (fits g.value all.0, plain_fits m gs all.1) where
  handle_fits : (h : Handle) → IsPlain (values.Handle h) → Fits m (values.Handle h)
  handle_fits handles.Null plain = tt
  handle_fits handles.Broken plain = tt
  handle_fits (handles.Good sealed id base size offset) plain = absurd plain

  fits : (v : Value) → IsPlain v → Fits m v
  fits (values.I32 n) plain = tt
  fits (values.I64 n) plain = tt
  fits (values.Handle h) plain = handle_fits h plain

plain_known : (gs : List GlobalInst) → EachGlobal IsPlain gs → EachGlobal (Knows nothing_yet) gs
plain_known [] all = tt
plain_known (g ∷ gs) all = (known g.value all.0, plain_known gs all.1) where
  handle_known : (h : Handle) → IsPlain (values.Handle h) → Knows nothing_yet (values.Handle h)
  handle_known handles.Null plain = tt
  handle_known handles.Broken plain = tt
  handle_known (handles.Good sealed id base size offset) plain = absurd plain

  known : (v : Value) → IsPlain v → Knows nothing_yet v
  known (values.I32 n) plain = tt
  known (values.I64 n) plain = tt
  known (values.Handle h) plain = handle_known h plain

new_monitored : (capacity : ℕ) → IsMonitored nothing_yet (record { bytes = replicate capacity (Data 0); live = []; made = 0; accesses = 0 })
new_monitored capacity = record {
  live = refl;
  painted = λ p. (λ has. absurd (Contains-none p has), λ is. absurd (Contains-none is.0 is.1));
  roots = All-nil (λ (s : Live). Contains [] (shade_of false s.id 0 s.size));
  used = λ colour. (λ has. absurd (Contains-none colour has), λ between. let from = between.0 in let to = between.1 in absurd (omega arith));
  pieces = λ h i has. absurd (All-contains IsData (replicate capacity (Data 0)) (Piece h i) (All-replicate IsData capacity (Data 0) tt) has);
}

-- ---- the store

made_fits : (capacity : ℕ) (made : Made) → capacity < 4294967296 → EachGlobal IsPlain made.globals → StoreFits (store_of capacity made)
made_fits capacity made below plain = record {
  globals = plain_fits (store_of capacity made).segments made.globals plain;
  segments = IsSound-new capacity below;
}

made_sound : (capacity : ℕ) (made : Made) → EachGlobal IsPlain made.globals → Sound [] (store_of capacity made) []
made_sound capacity made plain = record {
  accepted = tt;
  sizes = All-nil (IsWithinSegment []);
  monitored = new_monitored capacity;
  globals = plain_known made.globals plain;
  threads = All-nil (ThreadHolds (Knows nothing_yet));
}

pub linked_fits : (ms : List (List ℕ × Module)) (capacity : ℕ) (s : Store) → capacity < 4294967296 → linked ms capacity ≡ Ok s → StoreFits s
linked_fits ms capacity s below e =
    let made = linked_made ms capacity s e in
    subst StoreFits made.2 (made_fits capacity made.0 below (all_plain ms nothing_made made.0 tt made.1))

pub linked_sound : (ms : List (List ℕ × Module)) (capacity : ℕ) (s : Store) → linked ms capacity ≡ Ok s → Sound [] s []
linked_sound ms capacity s e =
    let made = linked_made ms capacity s e in
    subst (λ x. Sound [] x []) made.2 (made_sound capacity made.0 (all_plain ms nothing_made made.0 tt made.1))

pub does_link_fits : (ms : List (List ℕ × Module)) (capacity : ℕ) (r : Result Store LinkFault) → DoesLink ms capacity r → capacity < 4294967296 → IfOk r StoreFits
does_link_fits ms capacity (Ok s) does below = linked_fits ms capacity s below does
does_link_fits ms capacity (Err fault) does below = tt

pub does_link_sound : (ms : List (List ℕ × Module)) (capacity : ℕ) (r : Result Store LinkFault) → DoesLink ms capacity r → IfOk r (λ s. Sound [] s [])
does_link_sound ms capacity (Ok s) does = linked_sound ms capacity s does
does_link_sound ms capacity (Err fault) does = tt
