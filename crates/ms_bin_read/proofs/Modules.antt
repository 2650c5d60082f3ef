-- What the whole reader gives is what the grammar says of the bytes.
use Rattle.std.specs.Prelude.{not}
use Rattle.std.proofs.lemmas.Bool.{eqb-true}
use Rattle.std.proofs.lemmas.List.{nil_from_length}
use Rattle.std.proofs.Common.{Bool, true, eqb, false, ◌≡◌, ℕ, ◌⊎◌, inl, inr, List, [], length, Result, Ok, Err, refl, sym, ap, subst, ◌∙◌}
use Rattle.ms_bytes.specs.Spot.{Spot, start}
use Rattle.ms_bin_grammar.specs.Bounds.{usual}
use Rattle.ms_bytes.specs.RunLaws.{run_last}
use Rattle.ms_bin_grammar.specs.Module.{SpellsWithin, Stops, has_more, module_format, section}
use Rattle.ms_module.specs.declared.module.Module.{Module}
use Rattle.ms_bin_grammar.specs.declared.fault.ReadFault.{ReadFault}
use Rattle.ms_bin_grammar.specs.declared.fault.ReadFault.TheVariants.{Float, Limit, Malformed, Memory}
use Rattle.ms_bin_read.specs.refinement.Readers.{Fails, IsFirstFault}

-- nothing follows a module
is_true : (b : Bool) → not b ≡ false → b ≡ true
is_true true e = refl
is_true false e = absurd cc

none_left : (s : List ℕ) → not (eqb (length s) 0) ≡ false → s ≡ []
none_left s e = nil_from_length s (eqb-true (length s) 0 (is_true (eqb (length s) 0) e))

ends : (s : List ℕ) (m : Module) (t : List ℕ) → (module_format usual).spelled s m t → t ≡ []
unfolding module_format
ends s m t h =
    let last = h.3.3 in
    sym last.3.3.1 ∙ (sym last.3.2.1 ∙ none_left last.1 (run_last has_more (section usual) last.2))

abbrev pub read_from : Spot → Result (Module × List ℕ) ReadFault
read_from c = (module_format usual).read c.end c.left

abbrev pub whole : Module → List ℕ → Result (Module × List ℕ) ReadFault
whole m t = Ok (m, t)

module _ (bytes : List ℕ) (c : Spot) (begins : c ≡ start bytes) where
  pub is_found : (m : Module) (t : List ℕ) → read_from c ≡ whole m t → SpellsWithin usual bytes m
  is_found m t e =
      let read = rw begins at e in
      let spelled = (module_format usual).takes (length bytes) bytes m t read in
      subst (λ (r : List ℕ). (module_format usual).spelled bytes m r) (ends bytes m t spelled) spelled

  is_read : (m : Module) → SpellsWithin usual bytes m → read_from c ≡ whole m []
  is_read m h = rw begins ((module_format usual).again (length bytes) bytes m [] h)

  stops_at : (f : ReadFault) → Stops bytes f → read_from c ≡ Err f
  stops_at f h = rw begins h

  -- there is one spelled module at most
  pub is_only : (m : Module) (t : List ℕ) → read_from c ≡ whole m t → (n : Module) → SpellsWithin usual bytes n → m ≡ n
  is_only m t e n h =
      let both : whole m t ≡ whole n [] = sym e ∙ is_read n h in
      let pairs : ◌≡◌ {A = Module × List ℕ} (m, t) (n, []) = cc in
      ap (λ (p : Module × List ℕ). p.0) pairs

  -- what is read has no fault
  pub no_fault : (m : Module) (t : List ℕ) → read_from c ≡ whole m t → (f : ReadFault) → Stops bytes f → ⊥
  no_fault m t e f h = let s = stops_at f h in cc

  -- a fault is the first one
  pub is_first : (e : ReadFault) → Fails e (read_from c) → IsFirstFault bytes e
  is_first (Malformed at) h = rw begins at h
  is_first (Float at) h = rw begins at h
  is_first (Limit which at) h = rw begins at h
  is_first Memory h = tt

  -- where there is a fault, no module is spelled
  pub no_module : (e : ReadFault) → Fails e (read_from c) → (n : Module) → SpellsWithin usual bytes n → e ≡ Memory
  no_module (Malformed at) h n k = let r = is_read n k in absurd cc
  no_module (Float at) h n k = let r = is_read n k in absurd cc
  no_module (Limit which at) h n k = let r = is_read n k in absurd cc
  no_module Memory h n k = refl

  fault_is : (f g : ReadFault) → read_from c ≡ Err f → Stops bytes g → f ≡ g
  fault_is f g h k = let s = stops_at g k in cc

  -- the first fault is told
  pub is_error : (e : ReadFault) → Fails e (read_from c) → (f : ReadFault) → Stops bytes f → (e ≡ f) ⊎ (e ≡ Memory)
  is_error (Malformed at) h f k = inl (fault_is (Malformed at) f h k)
  is_error (Float at) h f k = inl (fault_is (Float at) f h k)
  is_error (Limit which at) h f k = inl (fault_is (Limit which at) f h k)
  is_error Memory h f k = inr refl
