-- The text of a module, as it is written, spells the module.
use Rattle.std.proofs.Common.{◌≡◌, ℕ, List, sym}
use Rattle.ms_module.specs.declared.module.Module.{Module}
use Rattle.ms_text_grammar.specs.Bounds.{Bounds}
use Rattle.ms_text_grammar.specs.TextSpells.{TextSpellsUnbounded, TextSpellsWithin}
use Rattle.ms_text_grammar.proofs.Agreeing.{agree_from_scan}
use Rattle.ms_text_grammar.proofs.Wider.{less_deep, one_spelled}
use Rattle.ms_text_write.specs.refinement.Limits.{KeepsBounds, most_parens}
use Rattle.ms_text_write.specs.refinement.Ranges.{PartsFit, UsesFit}
use Rattle.ms_text_write.specs.Shown.{shown}
use Rattle.ms_text_write.proofs.GrammarOfFiles.{fields_said}
use Rattle.ms_text_write.proofs.Kept.{bodies, can_be_shown, keeps_wide, sayable, wide}
use Rattle.ms_text_write.proofs.LayoutGroups.{agrees, shallow}
use Rattle.ms_text_write.proofs.LayoutModule.{lexed}
use Rattle.ms_text_write.proofs.ModuleSaid.{Bodies, module_said}
use Rattle.ms_text_write.proofs.Sayable.{Sayable}
use Rattle.ms_text_write.proofs.Showable.{CanBeShown}
use Rattle.std.specs.Prelude.{◌≤◌}

-- what the writer shows of a module spells it
pub shown_spells : (bounds : Bounds) (m : Module) → most_parens ≤ bounds.parens → CanBeShown m → Sayable bounds m → Bodies m → TextSpellsWithin bounds (shown m) m
shown_spells bounds m room can say numbered =
    let text = lexed m can in
    let shows = text.2 in
    let said = fields_said bounds (shown m) text.0 m say shows in
    let is = module_said (shown m) said.0 m numbered said.2 in
    record {
      tokens = text.0;
      fields = said.0;
      lexed = text.1;
      spelled = record {
        grammar = said.1;
        agrees = agree_from_scan (shown m) bounds text.0 said.0 said.1 (agrees (shown m) text.0 m shows);
        shallow = less_deep most_parens bounds.parens 0 room text.0 (shallow (shown m) text.0 m shows);
      };
      named = is.1;
      is = sym is.0;
    }

module _ (m : Module) (parts : PartsFit m) (uses : UsesFit m) (text : List ℕ) (is : text ≡ shown m) where
  -- what was written spells the module within all bounds that it keeps
  pub written_within : (bounds : Bounds) → KeepsBounds bounds m → TextSpellsWithin bounds text m
  written_within bounds kept = rw is (shown_spells bounds m kept.parens (can_be_shown m parts uses) (sayable bounds m parts uses kept) (bodies m parts uses))

  pub written_spells : TextSpellsUnbounded text m
  written_spells = (wide m, written_within (wide m) (keeps_wide m (bodies m parts uses)))

  -- it spells no other module
  pub written_only : (other : Module) → TextSpellsUnbounded text other → other ≡ m
  written_only other h = one_spelled h.0 written_spells.0 text other m h.1 written_spells.1
