-- One module more in two parts is one module more.
use Rattle.std.proofs.Common.{◌≡◌, ◌≤◌, ℕ, List, [], ◌∷◌, ◌++◌, All, Bool, true, false, nat_le, if◌then◌else◌, length, Option, Some, None, Ok, Err, refl, sym, ap, ◌∙◌, subst}
use Rattle.std.proofs.lemmas.Bool.{leb-true}
use Rattle.std.proofs.lemmas.List.Elements.{All-cons, All-nil}
use Rattle.ms_linear.specs.Memory.{most_pages}
use Rattle.ms_linear.specs.Table.{most_entries}
use Rattle.ms_module.specs.declared.module.Export.{Export}
use Rattle.ms_module.specs.declared.module.Module.{Module}
use Rattle.ms_types.specs.declared.types.FuncType.{FuncType}
use Rattle.ms_types.specs.declared.types.Limits.{Limits}
use Rattle.ms_machine.specs.declared.externs.Extern.{Extern}
use Rattle.ms_machine.specs.declared.externs.Why.TheVariants.{TooLarge}
use Rattle.ms_machine.specs.declared.store.Instance.{Instance}
use Rattle.ms_machine.specs.Externs.{Fault, Made, fault_at}
use Rattle.ms_machine.specs.Linked.{if_inside, instance_in, or_next, outside, sizes_fit, too_large, unless, with_module}
use Rattle.ms_import.specs.refinement.Adding.{Adds}
use Rattle.ms_link.specs.refinement.Adding.{Begins}
use Rattle.ms_link.specs.refinement.Answers.{LinkAnswers, Tests}
use Rattle.ms_link.specs.declared.fault.LinkFault.{LinkFault}
use Rattle.ms_link.specs.declared.adding.Begun.{Begun}
use Rattle.ms_link.proofs.Refusing.{fit_refuses}

-- ---- sizes that are small

sizes_none : (number item most : ℕ) (ls : List Limits) → sizes_fit number item most ls ≡ None → All (λ (l : Limits). l.min ≤ most) ls
sizes_none number item most [] e = All-nil (λ (l : Limits). l.min ≤ most)
sizes_none number item most (l ∷ ls) e = by (nat_le l.min most) refl (sizes_none number item most ls) e where
  by : (b : Bool) → nat_le l.min most ≡ b → (sizes_fit number item most ls ≡ None → All (λ (l : Limits). l.min ≤ most) ls) → (if b then sizes_fit number item most ls else Some (fault_at number item TooLarge)) ≡ None → All (λ (l : Limits). l.min ≤ most) (l ∷ ls)
  by true is later e = All-cons (λ (l : Limits). l.min ≤ most) l ls (leb-true l.min most is) (later e)
  by false is later e = cc

pub small_parts : (number : ℕ) (tables memories : List Limits) → too_large number tables memories ≡ None → All (λ (l : Limits). l.min ≤ most_entries) tables × All (λ (l : Limits). l.min ≤ most_pages) memories
small_parts number tables memories e = by (sizes_fit number 0 most_entries tables) refl e where
  by : (o : Option Fault) → sizes_fit number 0 most_entries tables ≡ o → or_next o (sizes_fit number 1 most_pages memories) ≡ None → All (λ (l : Limits). l.min ≤ most_entries) tables × All (λ (l : Limits). l.min ≤ most_pages) memories
  by None is e = (sizes_none number 0 most_entries tables is, sizes_none number 1 most_pages memories e)
  by (Some fault) is e = cc

-- ---- what it adds

pub begins_along : (was made new : Made) (m : Module) (es : List Extern) (b : Begun) → was ≡ made → Begins was new m es b → Begins made new m es b
begins_along was made new m es b same h = subst (λ (x : Made). Begins x new m es b) same h

pub same_instance : (exports : List Export) (start : Option ℕ) (types types' : List FuncType) (funcs funcs' : List ℕ) (table table' memory memory' : Option ℕ) (globals globals' : List ℕ)
    → types ≡ types' → funcs ≡ funcs' → table ≡ table' → memory ≡ memory' → globals ≡ globals'
    → ◌≡◌ {A = Instance} (record { types = types; funcs = funcs; table = table; memory = memory; globals = globals; exports = exports; start = start }) (record { types = types'; funcs = funcs'; table = table'; memory = memory'; globals = globals'; exports = exports; start = start })
same_instance exports start types types' funcs funcs' table table' memory memory' globals globals' a b c d e =
    ap (λ x. record { types = x; funcs = funcs; table = table; memory = memory; globals = globals; exports = exports; start = start }) a
    ∙ ap (λ x. record { types = types'; funcs = x; table = table; memory = memory; globals = globals; exports = exports; start = start }) b
    ∙ ap (λ x. record { types = types'; funcs = funcs'; table = x; memory = memory; globals = globals; exports = exports; start = start }) c
    ∙ ap (λ x. record { types = types'; funcs = funcs'; table = table'; memory = x; globals = globals; exports = exports; start = start }) d
    ∙ ap (λ x. record { types = types'; funcs = funcs'; table = table'; memory = memory'; globals = x; exports = exports; start = start }) e

same_made : (a b : Made) → a.names ≡ b.names → a.funcs ≡ b.funcs → a.instances ≡ b.instances → a.tables ≡ b.tables → a.memories ≡ b.memories → a.globals ≡ b.globals → a.elements ≡ b.elements → a.fills ≡ b.fills → a ≡ b
same_made a b n f i t m g e d =
    ap (λ x. record { names = x; funcs = a.funcs; instances = a.instances; tables = a.tables; memories = a.memories; globals = a.globals; elements = a.elements; fills = a.fills }) n
    ∙ ap (λ x. record { names = b.names; funcs = x; instances = a.instances; tables = a.tables; memories = a.memories; globals = a.globals; elements = a.elements; fills = a.fills }) f
    ∙ ap (λ x. record { names = b.names; funcs = b.funcs; instances = x; tables = a.tables; memories = a.memories; globals = a.globals; elements = a.elements; fills = a.fills }) i
    ∙ ap (λ x. record { names = b.names; funcs = b.funcs; instances = b.instances; tables = x; memories = a.memories; globals = a.globals; elements = a.elements; fills = a.fills }) t
    ∙ ap (λ x. record { names = b.names; funcs = b.funcs; instances = b.instances; tables = b.tables; memories = x; globals = a.globals; elements = a.elements; fills = a.fills }) m
    ∙ ap (λ x. record { names = b.names; funcs = b.funcs; instances = b.instances; tables = b.tables; memories = b.memories; globals = x; elements = a.elements; fills = a.fills }) g
    ∙ ap (λ x. record { names = b.names; funcs = b.funcs; instances = b.instances; tables = b.tables; memories = b.memories; globals = b.globals; elements = x; fills = a.fills }) e
    ∙ ap (λ x. record { names = b.names; funcs = b.funcs; instances = b.instances; tables = b.tables; memories = b.memories; globals = b.globals; elements = b.elements; fills = x }) d

module _ (made new : Made) (name : List ℕ) (m : Module) (es : List Extern) (b : Begun) (begins : Begins made new m es b) where
  abbrev next : Made
  next = with_module made name m es

  abbrev tested : Option Fault
  tested = outside (length new.instances) new.globals new.tables new.memories b.instance b.own_elements b.own_fills

  abbrev wanted : Option Fault
  wanted = outside (length made.instances) next.globals next.tables next.memories (instance_in made m es) m.elements m.fills

  same_fault : tested ≡ wanted
  same_fault =
      ap (λ x. outside (length x) new.globals new.tables new.memories b.instance b.own_elements b.own_fills) begins.instances
      ∙ ap (λ x. outside (length made.instances) x new.tables new.memories b.instance b.own_elements b.own_fills) begins.globals
      ∙ ap (λ x. outside (length made.instances) next.globals x new.memories b.instance b.own_elements b.own_fills) begins.tables
      ∙ ap (λ x. outside (length made.instances) next.globals next.tables x b.instance b.own_elements b.own_fills) begins.memories
      ∙ ap (λ x. outside (length made.instances) next.globals next.tables next.memories x b.own_elements b.own_fills) begins.instance
      ∙ ap (λ x. outside (length made.instances) next.globals next.tables next.memories (instance_in made m es) x b.own_fills) begins.own_elements
      ∙ ap (λ x. outside (length made.instances) next.globals next.tables next.memories (instance_in made m es) m.elements x) begins.own_fills

  pub fit_is_refused : (e : LinkFault) → Tests {A = Unit {0}} tested (Err e) → LinkAnswers (if_inside made name m es) (Err e)
  fit_is_refused e tests = fit_refuses (Unit {0}) wanted next e (subst (λ o. Tests {A = Unit {0}} o (Err e)) same_fault tests)

  pub ended_is : (last : Made) → tested ≡ None → Adds new b.instance b.own_elements b.own_fills name last → if_inside made name m es ≡ Ok last
  ended_is last fits ends =
      ap (λ o. unless o next) (sym same_fault ∙ fits)
      ∙ ap Ok (sym (same_made last next
      (ends.names ∙ ap (λ x. x ++ name ∷ []) begins.names)
      (ends.funcs ∙ begins.funcs)
      (ends.instances ∙ ap (λ x. x ++ b.instance ∷ []) begins.instances ∙ ap (λ x. made.instances ++ x ∷ []) begins.instance)
      (ends.tables ∙ begins.tables)
      (ends.memories ∙ begins.memories)
      (ends.globals ∙ begins.globals)
      (ends.elements ∙ ap (λ x. x ++ b.own_elements ∷ []) begins.elements ∙ ap (λ x. made.elements ++ x ∷ []) begins.own_elements)
      (ends.fills ∙ ap (λ x. x ++ b.own_fills ∷ []) begins.fills ∙ ap (λ x. made.fills ++ x ∷ []) begins.own_fills)))
