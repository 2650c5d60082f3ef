-- What is spelled within some bounds is spelled so within greater ones.
use Rattle.std.proofs.Common.{◌≡◌, ◌≢◌, ℕ, zero, suc, ◌+◌, ◌<◌, ◌≤◌, Bool, true, leb, inl, inr, List, [], ◌∷◌, length, refl, subst, arith}
use Rattle.std.proofs.lemmas.Bool.{leb-true, le-leb, lt-ltb, ltb-true}
use Rattle.std.proofs.Math.Dec.{ltb}
use Rattle.ms_bytes.specs.Codes.{AmongSpelled, Case, CaseSpelled, Coded}
use Rattle.ms_bytes.specs.Repetition.{each, repeat, times}
use Rattle.ms_bytes.specs.Runs.{Runs, goes, rests}
use Rattle.ms_types.specs.declared.types.ValType.{ValType}
use Rattle.ms_module.specs.declared.module.Module.{Module}
use Rattle.ms_module.specs.Building.{State}
use Rattle.ms_module.specs.Instructions.{opening_rows}
use Rattle.ms_bin_grammar.specs.declared.fault.ReadFault.{ReadFault}
use Rattle.ms_bin_grammar.specs.declared.sections.Sections.{Sections}
use Rattle.ms_bin_grammar.specs.Bounds.{Bounds}
use Rattle.ms_bin_grammar.specs.Faults.{Binary}
use Rattle.ms_bin_grammar.specs.Numbers.{vec}
use Rattle.ms_bin_grammar.specs.Sizes.{sized}
use Rattle.ms_bin_grammar.specs.Body.{block_rows, body, goes_on, advance, advance_codes}
use Rattle.ms_bin_grammar.specs.Module.{SpellsWithin, element, fill, func, funcs, global, has_more, locals, module_format, more_locals, section, section_rows}
use Rattle.ms_bin_grammar.proofs.Spelling.{one_module}

-- what the one spells the other spells
abbrev Wide : {A : Type 0} → Binary A → Binary A → Type 0
Wide {A} f g = (s : List ℕ) (x : A) (t : List ℕ) → f.spelled s x t → g.spelled s x t

-- ---- parts of formats

times_wide : {A : Type 0} (f g : Binary A) → Wide f g → (n : ℕ) → Wide (times n f) (times n g)
unfolding times
times_wide f g w zero s x t h = h
times_wide f g w (suc n) s x t h = (h.0, h.1, w s h.0 h.1 h.2, (h.3.0, h.3.1, times_wide f g w n h.1 h.3.0 h.3.1 h.3.2, h.3.3))

vec_wide : {A : Type 0} (f g : Binary A) → Wide f g → Wide (vec f) (vec g)
unfolding vec
vec_wide f g w s x t h = (h.0, h.1, h.2, times_wide f g w h.0 h.1 x t h.3)

sized_wide : {A : Type 0} (f g : Binary A) → Wide f g → Wide (sized f) (sized g)
sized_wide f g w s x t h = (h.0, h.1, w h.0 x [] h.2)

each_wide : {K A : Type 0} (f g : K → Binary A) → ((k : K) → Wide (f k) (g k)) → (ks : List K) → Wide (each f ks) (each g ks)
unfolding each
each_wide f g w [] s x t h = h
each_wide f g w (k ∷ ks) s x t h = (h.0, h.1, w k s h.0 h.1 h.2, (h.3.0, h.3.1, each_wide f g w ks h.1 h.3.0 h.3.1 h.3.2, h.3.3))

repeat_wide : {S : Type 0} (f g : S → Binary S) → ((st : S) → Wide (f st) (g st)) → (n : ℕ) (st : S) → Wide (repeat f n st) (repeat g n st)
unfolding repeat
repeat_wide f g w zero st s x t h = h
repeat_wide f g w (suc n) st s x t h = (h.0, h.1, w st s h.0 h.1 h.2, repeat_wide f g w n h.0 h.1 x t h.3)

runs_wide : {S : Type 0} (going : S → List ℕ → Bool) (f g : S → Binary S) → ((st : S) → Wide (f st) (g st)) → {st last : S} {s u : List ℕ} → Runs going f st s last u → Runs going g st s last u
runs_wide going f g w (rests e) = rests e
runs_wide going f g w {st = st} {s = s} (goes {t = t} next e h r) = goes next e (w st s next t h) (runs_wide going f g w r)

abbrev CaseWide : {A : Type 0} → Case ReadFault A → Case ReadFault A → Type 0
CaseWide {A} k l = (s : List ℕ) (x : A) (t : List ℕ) → CaseSpelled k s x t → CaseSpelled l s x t

abbrev RowsWide : {A : Type 0} → List (ℕ × Case ReadFault A) → List (ℕ × Case ReadFault A) → Type 0
RowsWide [] [] = Unit {0}
RowsWide [] (q ∷ qs) = ⊥
RowsWide (r ∷ rs) [] = ⊥
RowsWide (r ∷ rs) (q ∷ qs) = (r.0 ≡ q.0) × CaseWide r.1 q.1 × RowsWide rs qs

among_wide : {A : Type 0} (rs qs : List (ℕ × Case ReadFault A)) (others : Coded ReadFault A) → RowsWide rs qs → (code : ℕ) (s : List ℕ) (x : A) (t : List ℕ) → AmongSpelled rs others code s x t → AmongSpelled qs others code s x t
among_wide [] [] others w code s x t h = h
among_wide [] (q ∷ qs) others w code s x t h = absurd w
among_wide (r ∷ rs) [] others w code s x t h = absurd w
among_wide (r ∷ rs) (q ∷ qs) others w code s x t (inl h) = inl (subst (λ (n : ℕ). code ≡ n) w.0 h.0, w.1 s x t h.1)
among_wide (r ∷ rs) (q ∷ qs) others w code s x t (inr h) = inr (subst (λ (n : ℕ). code ≢ n) w.0 h.0, among_wide rs qs others w.2 code s x t h.1)

-- a row
infixr 5 ◌&◌
◌&◌ : {X Y Z : Type 0} → X × Y → Z → X × Y × Z
r & rs = (r.0, r.1, rs)

leb_more : (n p q : ℕ) → p ≤ q → leb n p ≡ true → leb n q ≡ true
leb_more n p q le h = let k : n ≤ p = leb-true n p h in le-leb n q (omega arith)

ltb_more : (n p q : ℕ) → p ≤ q → ltb n p ≡ true → ltb n q ≡ true
ltb_more n p q le h = let k : n < p = ltb-true n p h in lt-ltb n q (omega arith)

-- ---- bodies

module _ (a b : ℕ) (le : a ≤ b) where
  block_rows_wide : (st : State) → RowsWide (block_rows a st) (block_rows b st)
  unfolding block_rows opening_rows
  block_rows_wide st =
      let more = ltb_more (length st.blocks) a b le in
      (refl, λ s x t h. (more h.0, h.1)) & (refl, λ s x t h. (more h.0, h.1)) & (refl, λ s x t h. (more h.0, h.1)) & (refl, λ s x t h. h) & (refl, λ s x t h. h) & tt

  advance_wide : (st : State) → Wide (advance a st) (advance b st)
  unfolding advance advance_codes
  advance_wide st s x t h = (h.0, h.1, h.2, among_wide (block_rows a st) (block_rows b st) _ (block_rows_wide st) h.0 h.1 x t h.3)

  body_wide : Wide (body a) (body b)
  unfolding body
  body_wide s x t h = (h.0, h.1, runs_wide goes_on (advance a) (advance b) advance_wide h.2, h.3)

-- ---- modules

module _ (a b : Bounds) (blocks : a.blocks ≤ b.blocks) (room : a.locals ≤ b.locals) where
  global_wide : Wide (global a) (global b)
  unfolding global
  global_wide s x t h = (h.0, h.1, h.2, (h.3.0, h.3.1, body_wide a.blocks b.blocks blocks h.1 h.3.0 h.3.1 h.3.2, h.3.3))

  element_wide : Wide (element a) (element b)
  unfolding element
  element_wide s x t h = (h.0, h.1, h.2, (h.3.0, h.3.1, body_wide a.blocks b.blocks blocks h.1 h.3.0 h.3.1 h.3.2, h.3.3))

  fill_wide : Wide (fill a) (fill b)
  unfolding fill
  fill_wide s x t h = (h.0, h.1, h.2, (h.3.0, h.3.1, body_wide a.blocks b.blocks blocks h.1 h.3.0 h.3.1 h.3.2, h.3.3))

  more_locals_wide : (before : List ValType) → Wide (more_locals a before) (more_locals b before)
  unfolding more_locals
  more_locals_wide before s x t h = (h.0, h.1, (h.2.0, leb_more (length before + h.0) a.locals b.locals room h.2.1), h.3)

  locals_wide : Wide (locals a) (locals b)
  unfolding locals
  locals_wide s x t h = (h.0, h.1, h.2, repeat_wide (more_locals a) (more_locals b) more_locals_wide h.0 [] h.1 x t h.3)

  func_wide : (sig : ℕ) → Wide (func a sig) (func b sig)
  unfolding func
  func_wide sig s x t h = (h.0, h.1, locals_wide s h.0 h.1 h.2, (h.3.0, h.3.1, body_wide a.blocks b.blocks blocks h.1 h.3.0 h.3.1 h.3.2, h.3.3))

  funcs_wide : (sigs : List ℕ) → Wide (funcs a sigs) (funcs b sigs)
  unfolding funcs
  funcs_wide sigs s x t h =
      (h.0, h.1, h.2, each_wide (λ sig. sized (func a sig)) (λ sig. sized (func b sig)) (λ sig. sized_wide (func a sig) (func b sig) (func_wide sig)) sigs h.1 x t h.3)

  rows_wide : (so_far : Sections) → RowsWide (section_rows a so_far) (section_rows b so_far)
  unfolding section_rows
  rows_wide so_far =
      (refl, λ s x t h. h) & (refl, λ s x t h. h) & (refl, λ s x t h. h) & (refl, λ s x t h. h) & (refl, λ s x t h. h) & (refl, λ s x t h. h)
      & (refl, λ s x t h. (h.0, (h.1.0, h.1.1, sized_wide (vec (global a)) (vec (global b)) (vec_wide (global a) (global b) global_wide) s h.1.0 h.1.1 h.1.2, h.1.3)))
      & (refl, λ s x t h. h) & (refl, λ s x t h. h)
      & (refl, λ s x t h. (h.0, (h.1.0, h.1.1, sized_wide (vec (element a)) (vec (element b)) (vec_wide (element a) (element b) element_wide) s h.1.0 h.1.1 h.1.2, h.1.3)))
      & (refl, λ s x t h. (h.0, (h.1.0, h.1.1, sized_wide (funcs a so_far.indices) (funcs b so_far.indices) (funcs_wide so_far.indices) s h.1.0 h.1.1 h.1.2, h.1.3)))
      & (refl, λ s x t h. (h.0, (h.1.0, h.1.1, sized_wide (vec (fill a)) (vec (fill b)) (vec_wide (fill a) (fill b) fill_wide) s h.1.0 h.1.1 h.1.2, h.1.3))) & tt

  section_wide : (so_far : Sections) → Wide (section a so_far) (section b so_far)
  unfolding section
  section_wide so_far s x t h = (h.0, h.1, h.2, among_wide (section_rows a so_far) (section_rows b so_far) _ (rows_wide so_far) h.0 h.1 x t h.3)

  pub wider : (bytes : List ℕ) (m : Module) → SpellsWithin a bytes m → SpellsWithin b bytes m
  unfolding module_format
  wider bytes m h =
      let k = h.3.3 in
      (h.0, h.1, h.2, (h.3.0, h.3.1, h.3.2, (k.0, k.1, runs_wide has_more (section a) (section b) section_wide k.2, k.3)))

-- Bytes spell one module at most, within whatever bounds.
pub one_spelled : (a b : Bounds) (bytes : List ℕ) (m n : Module) → SpellsWithin a bytes m → SpellsWithin b bytes n → m ≡ n
one_spelled a b bytes m n h k =
    let c : Bounds = record { blocks = a.blocks + b.blocks; locals = a.locals + b.locals } in
    one_module c bytes m n (wider a c (omega arith) (omega arith) bytes m h) (wider b c (omega arith) (omega arith) bytes n k)
