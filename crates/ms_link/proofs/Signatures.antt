-- The types of a module's functions, by their indices.
use Rattle.std.proofs.Common.{◌≡◌, ℕ, ◌<◌, List, [], ◌∷◌, All, get_or, length, map, slice_get, Some, refl, sym, ap, ◌∙◌}
use Rattle.std.proofs.lemmas.List.Elements.{All-head, All-tail}
use Rattle.std.proofs.lemmas.Option.{slice_get-get_or}
use Rattle.ms_module.specs.declared.module.Func.{Func}
use Rattle.ms_types.specs.declared.types.FuncType.{FuncType}
use Rattle.ms_machine.specs.Linked.{no_type}

sig_is : (sigs : List FuncType) (i : ℕ) → i < length sigs → Some (get_or sigs i no_type) ≡ slice_get sigs i
sig_is sigs i lt = sym (slice_get-get_or sigs i no_type lt)

pub sigs_are : (sigs : List FuncType) (fs : List Func) → All (λ f. f.sig < length sigs) fs → map (λ f. Some (get_or sigs f.sig no_type)) fs ≡ map (λ i. slice_get sigs i) (map (λ f. f.sig) fs)
sigs_are sigs [] below = refl
sigs_are sigs (f ∷ fs) below =
    ap (λ o. o ∷ map (λ f. Some (get_or sigs f.sig no_type)) fs) (sig_is sigs f.sig (All-head (λ f. f.sig < length sigs) f fs below))
    ∙ ap (λ l. slice_get sigs f.sig ∷ l) (sigs_are sigs fs (All-tail (λ f. f.sig < length sigs) f fs below))
