-- What is shown of a module that bytes spell spells the module.
use Rattle.std.specs.Prelude.{ℕ, List}
use Rattle.std.proofs.Common.{arith}
use Rattle.ms_module.specs.declared.module.Module.{Module}
use Rattle.ms_bin_grammar.specs.Bounds.{usual}
use Rattle.ms_bin_grammar.specs.Module.{SpellsWithin}
use Rattle.ms_text_grammar.specs.Bounds as text
use Rattle.ms_text_grammar.specs.TextSpells.{TextSpells}
use Rattle.ms_text_write.specs.Shown.{shown}
use Rattle.ms_text_write.proofs.BinaryModules.{bodies, can_be_shown, sayable}
use Rattle.ms_text_write.proofs.ModuleSpelled.{shown_spells}
use Rattle.ms_text_write.proofs.Showable.{AreBytes}

pub disassembled : (bytes : List ℕ) (m : Module) → AreBytes bytes → SpellsWithin usual bytes m → TextSpells (shown m) m
disassembled bytes m bs h = let say = sayable bytes m bs h in shown_spells text.usual m (omega arith) (can_be_shown m say) say (bodies m say)
