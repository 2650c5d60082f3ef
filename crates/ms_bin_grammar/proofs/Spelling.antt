-- A text spells one module at most.
use Rattle.std.proofs.Common.{◌≡◌, List, [], ℕ, length, Ok, sym, ap, ◌∙◌, Result}
use Rattle.ms_bin_grammar.specs.declared.fault.ReadFault.{ReadFault}
use Rattle.ms_bin_grammar.specs.Module.{SpellsWithin, module_format}
use Rattle.ms_bin_grammar.specs.Bounds.{Bounds}
use Rattle.ms_module.specs.declared.module.Module.{Module}

abbrev whole : Module → Result (Module × List ℕ) ReadFault
whole m = Ok (m, [])

pub one_module : (bounds : Bounds) (bytes : List ℕ) (m n : Module) → SpellsWithin bounds bytes m → SpellsWithin bounds bytes n → m ≡ n
one_module bounds bytes m n h k =
    let format = module_format bounds in
    let both : whole m ≡ whole n = sym (format.again (length bytes) bytes m [] h) ∙ format.again (length bytes) bytes n [] k in
    let pairs : ◌≡◌ {A = Module × List ℕ} (m, []) (n, []) = cc in
    ap (λ (p : Module × List ℕ). p.0) pairs
