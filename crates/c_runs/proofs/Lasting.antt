-- Variables' objects are alive until their blocks end: no write and no `free` ends one.
use Rattle.std.proofs.Common.{◌≡◌, ℕ, ⊎_elim, List, [], ◌∷◌, ◌++◌, length-append, Bool, true, false, Option, Some, None, refl, sym, ap, ◌∙◌, arith, subst}
use Rattle.std.specs.Prelude.{slice_get, slice_set, if◌then◌else◌}
use Rattle.std.proofs.lemmas.Bool.{cases_eq}
use Rattle.std.proofs.lemmas.Option.{slice_get_within}
use Rattle.c_meaning.specs.Values.{Pointer, Value, null, invalid, points, function_at, no_function, number}
use Rattle.c_meaning.specs.Objects.{Kind, heap, frame, Object, Outcome, gives, stops, lost, after, alive_at, element_at, ended, free, free_kind, if_alive, if_within, is_whole, readonly, whole, with_leaf, write}
use Rattle.c_meaning.specs.World.{Held}
use Rattle.ms_relate.proofs.Growing.{slice_get-push_old}
use Rattle.c_runs.proofs.Held.{AreOpen, Lasts, Lives, Slot, length_set, set_elsewhere, set_there, some_is}

pub lasts_same : (os : List Object) → Lasts os os
lasts_same os = record { longer = omega arith; stay = λ n o at alive kind. (o, at, alive, kind) }

pub lasts_trans : (a b c : List Object) → Lasts a b → Lasts b c → Lasts a c
lasts_trans a b c f g = record {
  longer = let x = f.longer in let y = g.longer in omega (arith, x, y);
  stay = λ n o at alive kind. let p = f.stay n o at alive kind in g.stay n p.0 p.1 p.2 p.3;
}

-- one more
pub lasts_push : (os : List Object) (o : Object) → Lasts os (os ++ o ∷ [])
lasts_push os o = record {
  longer = let a = length-append os (o ∷ []) in omega (arith, a);
  stay = λ n p at alive kind. (p, slice_get-push_old os o n p at, alive, kind);
}

-- one is changed, and is as alive as it was if it is a variable's
pub lasts_set : (os : List Object) (n : ℕ) (o p : Object) → slice_get os n ≡ Some o → (o.kind ≡ frame → (p.alive ≡ o.alive) × (p.kind ≡ o.kind)) → Lasts os (slice_set os n p)
lasts_set os n o p at like = record {
  longer = let a = length_set os n p in omega (arith, a);
  stay = λ k q at' alive kind. ⊎_elim
      (λ same.
      let is : o ≡ q = some_is o q (sym at ∙ ap (slice_get os) (sym same) ∙ at') in
      let kind' : o.kind ≡ frame = ap (λ (x : Object). x.kind) is ∙ kind in
      let l = like kind' in
      (p, ap (slice_get (slice_set os n p)) same ∙ set_there os n p (slice_get_within os n o at), l.0 ∙ ap (λ (x : Object). x.alive) is ∙ alive, l.1 ∙ kind'))
      (λ other. (q, set_elsewhere os n k p (λ e. other (sym e)) ∙ at', alive, kind))
      (cases_eq k n);
}

pub lives_on : (os ps : List Object) (xs : List Held) (i : ℕ) → Lasts os ps → Lives os xs i → Lives ps xs i
lives_on os ps xs i l h = let q = l.stay h.number h.object_is h.at h.alive h.is_frame in record { number = h.number; held = h.held; object_is = q.0; at = q.1; alive = q.2; is_frame = q.3 }

pub open_on : (ks : List Slot) (vs : List ℕ) (os ps : List Object) (xs : List Held) → Lasts os ps → AreOpen ks vs os xs → AreOpen ks vs ps xs
open_on ks vs os ps xs l h i t seen at = lives_on os ps xs i l (h i t seen at)

-- ---- writes and frees

written_at : (os qs : List Object) (p : Pointer) (v : Value) (o : Object) → slice_get os p.object ≡ Some o → (k : Outcome ℕ) (b : Bool)
    → after k (λ k'. if b then stops readonly else gives (with_leaf os o p k' v)) ≡ gives qs → Lasts os qs
written_at os qs p v o at (gives k) true e = absurd cc
written_at os qs p v o at (gives k) false e = subst (Lasts os) (same_list _ qs e) (lasts_set os p.object o _ at (λ f. (refl, refl))) where
  same_list : (a b : List Object) → gives a ≡ gives b → a ≡ b
  same_list a b e = ap (λ (x : Outcome (List Object)). or x) e where
    or : Outcome (List Object) → List Object
    or (gives y) = y
    or _ = a
written_at os qs p v o at (stops u) b e = absurd cc
written_at os qs p v o at lost b e = absurd cc

written_by : (os qs : List Object) (p : Pointer) (v : Value) (f : Option Object) → slice_get os p.object ≡ f
    → after (if_alive f) (λ o. after (element_at o p) (λ k. if p.sealed then stops readonly else gives (with_leaf os o p k v))) ≡ gives qs → Lasts os qs
written_by os qs p v None at e = absurd cc
written_by os qs p v (Some o) at e = by o.alive e where
  by : (b : Bool) → after (if b then gives o else stops Rattle.c_meaning.specs.Objects.freed) (λ o. after (element_at o p) (λ k. if p.sealed then stops readonly else gives (with_leaf os o p k v))) ≡ gives qs → Lasts os qs
  by true e' = written_at os qs p v o at (element_at o p) p.sealed e'
  by false e' = absurd cc

pub written_lasts : (os qs : List Object) (p v : Value) → write os p v ≡ gives qs → Lasts os qs
written_lasts os qs (points p) v e = written_by os qs p v (slice_get os p.object) refl e
written_lasts os qs null v e = absurd cc
written_lasts os qs invalid v e = absurd cc
written_lasts os qs (number z) v e = absurd cc
written_lasts os qs (function_at f) v e = absurd cc
written_lasts os qs no_function v e = absurd cc

freed_kind : (os qs : List Object) (p : Pointer) (o : Object) → slice_get os p.object ≡ Some o → (k : Kind) → o.kind ≡ k → (b : Bool) → free_kind k b (slice_set os p.object (ended o)) ≡ gives qs → Lasts os qs
freed_kind os qs p o at heap is true e = absurd cc
freed_kind os qs p o at heap is false e = subst (Lasts os) (same_list _ qs e) (lasts_set os p.object o (ended o) at (λ f. absurd (never (sym is ∙ f)))) where
  never : heap ≡ frame → ⊥
  never q = absurd cc

  same_list : (a b : List Object) → gives a ≡ gives b → a ≡ b
  same_list a b e = ap (λ (x : Outcome (List Object)). or x) e where
    or : Outcome (List Object) → List Object
    or (gives y) = y
    or _ = a
freed_kind os qs p o at frame is b e = absurd cc

freed_by : (os qs : List Object) (p : Pointer) (f : Option Object) → slice_get os p.object ≡ f
    → after (if_alive f) (λ o. if is_whole o p then free_kind o.kind p.sealed (slice_set os p.object (ended o)) else stops whole) ≡ gives qs → Lasts os qs
freed_by os qs p None at e = absurd cc
freed_by os qs p (Some o) at e = by o.alive e where
  wholly : (b : Bool) → (if b then free_kind o.kind p.sealed (slice_set os p.object (ended o)) else stops whole) ≡ gives qs → Lasts os qs
  wholly true e' = freed_kind os qs p o at o.kind refl p.sealed e'
  wholly false e' = absurd cc

  by : (b : Bool) → after (if b then gives o else stops Rattle.c_meaning.specs.Objects.freed) (λ o. if is_whole o p then free_kind o.kind p.sealed (slice_set os p.object (ended o)) else stops whole) ≡ gives qs → Lasts os qs
  by true e' = wholly (is_whole o p) e'
  by false e' = absurd cc

pub freed_lasts : (os qs : List Object) (p : Value) → free os p ≡ gives qs → Lasts os qs
freed_lasts os qs (points p) e = freed_by os qs p (slice_get os p.object) refl e
freed_lasts os qs null e = subst (Lasts os) (same_list _ qs e) (lasts_same os) where
  same_list : (a b : List Object) → gives a ≡ gives b → a ≡ b
  same_list a b e = ap (λ (x : Outcome (List Object)). or x) e where
    or : Outcome (List Object) → List Object
    or (gives y) = y
    or _ = a
freed_lasts os qs invalid e = absurd cc
freed_lasts os qs (number z) e = absurd cc
freed_lasts os qs (function_at f) e = absurd cc
freed_lasts os qs no_function e = absurd cc
