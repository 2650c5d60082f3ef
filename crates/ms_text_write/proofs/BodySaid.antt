-- The steps of a body that is written build its sequences again.
use Rattle.std.proofs.Common.{◌≡◌, ℕ, suc, List, [], ◌∷◌, ◌++◌, length, refl, sym, ap, subst, ◌∙◌, append_assoc}
use Rattle.std.specs.Prelude.{map, Option, None}
use Rattle.std.proofs.lemmas.List.{append-nil}
use Rattle.ms_types.specs.declared.types.FuncType.{FuncType}
use Rattle.ms_module.specs.declared.instr.Instr.{Instr}
use Rattle.ms_module.specs.declared.instr.Instr.TheVariants as instr
use Rattle.ms_module.specs.Building.{IsNumbered, State}
use Rattle.ms_flat.specs.Flat.{Item, Plain, Begin, Else, End, flat}
use Rattle.ms_flat.specs.refinement.Rebuilt.{after}
use Rattle.ms_flat.proofs.Arriving.{flat_leads}
use Rattle.ms_text_lex.specs.declared.token.Token.{Token}
use Rattle.ms_text_grammar.specs.declared.surface.Index.TheVariants.{Number}
use Rattle.ms_text_grammar.specs.declared.surface.TypeUse.{TypeUse}
use Rattle.ms_text_grammar.specs.Identifiers.{With, each, resolved, right}
use Rattle.ms_text_grammar.specs.TypeUses.{Scope, use_index, with_uses}
use Rattle.ms_text_grammar.specs.ResolvedBodies.{Built, built, code_of, instr_of, nothing_built, number_at, targets, targets_of, with_begin, with_else, with_end, with_instr}
use Rattle.ms_text_write.proofs.Said.{body_said, ops_of, plain_of, uses_behind, uses_of_instr, uses_of_item, uses_of_items}

-- ---- numbers stand for themselves

pub numbers_are : (source : List ℕ) (ids : List (Option Token)) (ns : List ℕ) → each (resolved source ids) (map Number ns) ≡ right ns
numbers_are source ids [] = refl
numbers_are source ids (n ∷ ns) = rw (numbers_are source ids ns) refl

targets_end : (l : ℕ) (ls : List ℕ) (d : ℕ) → targets l (ls ++ d ∷ []) ≡ record { labels = l ∷ ls; default = d }
targets_end l [] d = refl
targets_end l (m ∷ ls) d = rw (targets_end m ls d) refl

targets_last : (ls : List ℕ) (d : ℕ) → targets_of (ls ++ d ∷ []) ≡ record { labels = ls; default = d }
targets_last [] d = refl
targets_last (l ∷ ls) d = targets_end l ls d

-- ---- type uses

-- the types that an instruction, and items, name
abbrev called : Instr → List ℕ
called (instr.CallIndirect x) = x ∷ []
called i = []

abbrev called_by : Item → List ℕ
called_by (Plain i) = called i
called_by _ = []

abbrev all_called : List Item → List ℕ
all_called [] = []
all_called (x ∷ xs) = called_by x ++ all_called xs

-- a use that is written names its type, and adds none
pub with_instr_uses : (i : Instr) (us : List TypeUse) (tys : List FuncType) → with_uses (uses_of_instr i ++ us) tys ≡ with_uses us tys
with_instr_uses (instr.CallIndirect x) us tys = refl
with_instr_uses _ us tys = refl

with_item_uses : (x : Item) (us : List TypeUse) (tys : List FuncType) → with_uses (uses_of_item x ++ us) tys ≡ with_uses us tys
with_item_uses (Plain i) us tys = with_instr_uses i us tys
with_item_uses _ us tys = refl

pub with_items_uses : (xs : List Item) (us : List TypeUse) (tys : List FuncType) → with_uses (uses_of_items xs ++ us) tys ≡ with_uses us tys
with_items_uses [] us tys = refl
with_items_uses (x ∷ xs) us tys = rw append_assoc (with_item_uses x (uses_of_items xs ++ us) tys ∙ with_items_uses xs us tys)

module _ (source : List ℕ) (scope : Scope) where
  instr_uses : (i : Instr) (us : List TypeUse) (ns : List ℕ) → each (use_index source scope) us ≡ right ns → each (use_index source scope) (uses_of_instr i ++ us) ≡ right (called i ++ ns)
  instr_uses (instr.CallIndirect x) us ns e = rw e refl
  instr_uses _ us ns e = e

  item_uses : (x : Item) (us : List TypeUse) (ns : List ℕ) → each (use_index source scope) us ≡ right ns → each (use_index source scope) (uses_of_item x ++ us) ≡ right (called_by x ++ ns)
  item_uses (Plain i) us ns e = instr_uses i us ns e
  item_uses _ us ns e = e

  uses_are : (xs : List Item) → each (use_index source scope) (uses_of_items xs) ≡ right (all_called xs)
  uses_are [] = refl
  uses_are (x ∷ xs) = item_uses x (uses_of_items xs) (all_called xs) (uses_are xs)

-- ---- steps

number_behind : (before : List ℕ) (n : ℕ) (ns : List ℕ) → number_at (before ++ n ∷ ns) (length before) ≡ n
number_behind [] n ns = refl
number_behind (m ∷ before) n ns = number_behind before n ns

one_more : (before : List ℕ) (n : ℕ) → suc (length before) ≡ length (before ++ n ∷ [])
one_more [] n = refl
one_more (m ∷ before) n = ap suc (one_more before n)

uses_go_on : (before : List ℕ) (i : Instr) → uses_behind (length before) i ≡ length (before ++ called i)
uses_go_on before (instr.CallIndirect x) = one_more before x
uses_go_on before _ = ap length (sym (append-nil before))

module _ (source : List ℕ) (scope : Scope) (locals : List (Option Token)) where
  instr_is : (before : List ℕ) (i : Instr) (ns : List ℕ) (labels : List (Option Token))
      → instr_of source scope locals (before ++ (called i ++ ns)) labels (plain_of (length before) i) ≡ right i
  instr_is before (instr.BrTable t) ns labels = rw (numbers_are source labels (t.labels ++ t.default ∷ []), targets_last t.labels t.default) refl
  instr_is before (instr.CallIndirect x) ns labels = rw (number_behind before x ns) refl
  instr_is before _ ns labels = refl

  -- what items build, and that they add nothing wrong
  abbrev Makes : Built → List Item → Built → Type 0
  Makes b xs c = (c.st ≡ after b.st xs) × (c.wrong ≡ b.wrong)

  built_is : (before : List ℕ) (xs : List Item) (ns : List ℕ) (b : Built) → ns ≡ before ++ all_called xs → Makes b xs (built source scope locals ns (ops_of (length before) xs) b)
  built_is before [] ns b e = (refl, refl)
  built_is before (Plain i ∷ xs) ns b e =
      let c = with_instr source scope (right i) b in
      let is : instr_of source scope locals ns b.labels (plain_of (length before) i) ≡ right i = rw e (instr_is before i (all_called xs) b.labels) in
      let rest = built_is (before ++ called i) xs ns c (e ∙ sym (append_assoc before (called i) (all_called xs))) in
      let from : Makes c xs (built source scope locals ns (ops_of (uses_behind (length before) i) xs) c) =
      subst (λ (k : ℕ). Makes c xs (built source scope locals ns (ops_of k xs) c)) (sym (uses_go_on before i)) rest in
      subst (λ (w : With Instr). Makes b (Plain i ∷ xs) (built source scope locals ns (ops_of (uses_behind (length before) i) xs) (with_instr source scope w b))) (sym is)
      (from.0, from.1 ∙ append-nil b.wrong)
  built_is before (Begin opening ty ∷ xs) ns b e = built_is before xs ns (with_begin opening None ty b) e
  built_is before (Else ∷ xs) ns b e = built_is before xs ns (with_else b) e
  built_is before (End ∷ xs) ns b e = built_is before xs ns (with_end b) e

-- a body that is written is its sequences
pub code_is : (source : List ℕ) (scope : Scope) (locals : List (Option Token)) (ss : List (List Instr)) → IsNumbered ss → code_of source scope locals (body_said ss) ≡ right ss
unfolding body_said
code_is source scope locals ss h =
    let uses = uses_are source scope (flat ss) in
    let made = built_is source scope locals [] (flat ss) (all_called (flat ss)) nothing_built refl in
    let seqs : (built source scope locals (all_called (flat ss)) (ops_of 0 (flat ss)) nothing_built).st.seqs ≡ ss = ap (λ (s : State). s.seqs) (made.0 ∙ (flat_leads ss h).0) in
    rw uses (rw (seqs, made.1) refl)
