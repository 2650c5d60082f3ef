-- What the code answers at each part of linking one module more, and of all modules.
use Rattle.std.proofs.Common.{◌≡◌, ℕ, List, [], ◌∷◌, ◌++◌, length, map, Option, None, Result, Ok, Err, sym, ap, ◌∙◌, subst, append_assoc}
use Rattle.std.specs.List.{AllZip}
use Rattle.ms_linear.specs.declared.global.GlobalInst.{GlobalInst}
use Rattle.ms_linear.specs.Memory.{Memory as Linear}
use Rattle.ms_linear.specs.Table.{Table as TableInst}
use Rattle.ms_module.specs.declared.module.Element.{Element}
use Rattle.ms_module.specs.declared.module.Fill.{Fill}
use Rattle.ms_module.specs.declared.module.Module.{Module}
use Rattle.ms_rules.specs.Modules.{AreDistinct}
use Rattle.ms_machine.specs.declared.externs.Extern.{Extern}
use Rattle.ms_task.specs.declared.func.FuncInst.{FuncInst}
use Rattle.ms_machine.specs.declared.store.Instance.{Instance}
use Rattle.ms_machine.specs.Externs.{Fault, Made, externs}
use Rattle.ms_machine.specs.Linked.{all_more, and_then, if_inside, if_small, one_more, too_large, unless, with_externs}
use Rattle.ms_link.specs.refinement.Answers.{LinkAnswers, Tests}
use Rattle.ms_link.specs.refinement.Fitting.{ElementsFit, ElementsThere, FillsThere, MadeTyped, byte_count, entry_count}
use Rattle.ms_link.specs.declared.fault.LinkFault.{LinkFault}
use Rattle.ms_link.specs.declared.fault.LinkFault.TheVariants.{Refused, Memory}
use Rattle.ms_link.proofs.Fits.{one_more_adds}
use Rattle.ms_link.proofs.Standing.{zip_weaker}

-- ---- a fault of a part is the fault of the whole

pub inside_answers : (made : Made) (name : List ℕ) (m : Module) (es : List Extern) (r : Result Made LinkFault) → externs made m.sigs 0 m.imports ≡ Ok es → too_large (length made.instances) m.tables m.memories ≡ None
    → LinkAnswers (if_inside made name m es) r → LinkAnswers (one_more made name m) r
inside_answers made name m es r given small answers =
    subst (λ w. LinkAnswers w r) (sym (ap (with_externs made name m) given ∙ ap (λ o. if_small o (if_inside made name m es)) small)) answers

pub fit_refuses : (A : Type 0) (o : Option Fault) (next : Made) (e : LinkFault) → Tests {A = A} o (Err e) → LinkAnswers (unless o next) (Err e)
fit_refuses A o next (Refused n item why) is = ap (λ o. unless o next) is
fit_refuses A o next Memory is = tt

-- ---- all modules

pub all_go_on : (ms : List (List ℕ × Module)) (all : Result Made Fault) (made next : Made) (m : List ℕ × Module) → all_more (m ∷ ms) made ≡ all → one_more made m.0 m.1 ≡ Ok next → all_more ms next ≡ all
all_go_on ms all made next m so is = sym (ap (λ r. and_then r (all_more ms)) is) ∙ so

pub names_go_on : (ms : List (List ℕ × Module)) (made next : Made) (m : List ℕ × Module) → AreDistinct (made.names ++ map (λ (m : List ℕ × Module). m.0) (m ∷ ms)) → one_more made m.0 m.1 ≡ Ok next
    → AreDistinct (next.names ++ map (λ (m : List ℕ × Module). m.0) ms)
names_go_on ms made next m distinct is =
    let names = map (λ (m : List ℕ × Module). m.0) ms in
    let adds = one_more_adds made m.0 m.1 next is in
    subst (λ (x : Made). AreDistinct (x.names ++ names)) adds.is (subst AreDistinct (sym (append_assoc made.names (m.0 ∷ []) names)) distinct)

-- ---- what is written has room

pub elements_there : (made : Made) → MadeTyped made → AllZip (ElementsThere (map entry_count made.tables) (length made.funcs) made.globals) made.instances made.elements
elements_there made typed =
    zip_weaker (ElementsFit made) (ElementsThere (map entry_count made.tables) (length made.funcs) made.globals) made.instances made.elements
    (λ i es k found fit. record { fit = fit; funcs = (typed.instances k i found).funcs }) typed.elements

-- as they are handed on
pub elements_given : (made : Made) → MadeTyped made → (tables : List TableInst) (funcs : List FuncInst) (globals : List GlobalInst) (instances : List Instance) (elements : List (List Element)) → tables ≡ made.tables → funcs ≡ made.funcs → globals ≡ made.globals → instances ≡ made.instances → elements ≡ made.elements
    → AllZip (ElementsThere (map entry_count tables) (length funcs) globals) instances elements
elements_given made typed tables funcs globals instances elements t f g i e =
    subst (λ x. AllZip (ElementsThere (map entry_count x) (length funcs) globals) instances elements) (sym t)
    (subst (λ x. AllZip (ElementsThere (map entry_count made.tables) (length x) globals) instances elements) (sym f)
    (subst (λ x. AllZip (ElementsThere (map entry_count made.tables) (length made.funcs) x) instances elements) (sym g)
    (subst (λ x. AllZip (ElementsThere (map entry_count made.tables) (length made.funcs) made.globals) x elements) (sym i)
    (subst (AllZip (ElementsThere (map entry_count made.tables) (length made.funcs) made.globals) made.instances) (sym e) (elements_there made typed)))))

pub fills_given : (made : Made) → MadeTyped made → (memories : List Linear) (globals : List GlobalInst) (instances : List Instance) (fills : List (List Fill)) → memories ≡ made.memories → globals ≡ made.globals → instances ≡ made.instances → fills ≡ made.fills
    → AllZip (FillsThere (map byte_count memories) globals) instances fills
fills_given made typed memories globals instances fills m g i f =
    subst (λ x. AllZip (FillsThere (map byte_count x) globals) instances fills) (sym m)
    (subst (λ x. AllZip (FillsThere (map byte_count made.memories) x) instances fills) (sym g)
    (subst (λ x. AllZip (FillsThere (map byte_count made.memories) made.globals) x fills) (sym i)
    (subst (AllZip (FillsThere (map byte_count made.memories) made.globals) made.instances) (sym f) typed.fills)))
