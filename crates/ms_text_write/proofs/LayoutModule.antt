-- The text of a module, as it is written, is lexed as the tokens of its pieces.
use Rattle.std.proofs.Common.{ℕ, List, [], ◌++◌, Option, Some, None, All, length, refl, sym, subst, append_assoc}
use Rattle.std.specs.List.{flat_map}
use Rattle.std.proofs.lemmas.List.{append-nil}
use Rattle.ms_bytes.specs.Runs.{Runs, rests}
use Rattle.ms_module.specs.declared.module.Module.{Module}
use Rattle.ms_text_lex.specs.declared.token.Token.{Token}
use Rattle.ms_text_lex.specs.Lexing.{Lexes, lexeme, lexemes, lexing_goes}
use Rattle.ms_text_grammar.specs.declared.word.Word.TheVariants as word
use Rattle.ms_text_write.specs.Types.{func_type_text, memory_text, table_text}
use Rattle.ms_text_write.specs.Shown.{element_text, export_text, fill_text, func_text, global_text, import_text, lead, lines, parts_text, shown, start_line, uses_text}
use Rattle.ms_text_write.proofs.Pieces.{Piece, Shows, element_pieces, export_pieces, fill_pieces, func_pieces, func_type_pieces, global_pieces, import_pieces, memory_pieces, module_pieces, none, parts_pieces, start_pieces, table_pieces, uses_pieces}
use Rattle.ms_text_write.proofs.Showable.{AreBytes, CanBeShown, HasNames}
use Rattle.ms_text_write.proofs.LayoutSteps.{At, Past, close, line, newline}
use Rattle.ms_text_write.proofs.LayoutParts.{each_past, func_type_at, indexed_at, memory_at, opened_at, table_at}
use Rattle.ms_text_write.proofs.LayoutFields.{element_at, export_at, fill_at, func_at, global_at, import_at}

-- ---- lines

-- fields, each behind the beginning of a line
lines_past : {A : Type 0} (source : List ℕ) (text : A → List ℕ) (pieces : A → List Piece) (P : A → Type 0)
    → ((x : A) → P x → (rest : List ℕ) (ps : List Piece) → Past source rest ps → At source (text x ++ rest) (pieces x ++ ps))
    → (xs : List A) → All P xs → {rest : List ℕ} {ps : List Piece} → Past source rest ps → Past source (lines text xs ++ rest) (flat_map pieces xs ++ ps)
unfolding lines
lines_past source text pieces P one xs all past = each_past source lead text (λ s qs at. line at) pieces P one xs all past

abbrev Any : {A : Type 0} → A → Type 0
Any x = Unit {0}

start_past : {source rest : List ℕ} {ps : List Piece} (start : Option ℕ) → Past source rest ps → Past source (start_line start ++ rest) (start_pieces start ++ ps)
start_past None past = past
start_past (Some x) past = line (indexed_at word.Start x past)

-- ---- all of a module

parts_past : {source rest : List ℕ} {ps : List Piece} (m : Module) → CanBeShown m → Past source rest ps → Past source (parts_text m ++ rest) (parts_pieces m ++ ps)
unfolding parts_text parts_pieces
parts_past {source} m can past =
    simp append_assoc
    (lines_past source func_type_text func_type_pieces Any (λ x u s qs p. func_type_at x p) m.sigs (λ k d h. tt)
    (lines_past source import_text import_pieces (λ i. HasNames i) (λ x u s qs p. import_at x u p) m.imports can.imports
    (lines_past source func_text func_pieces Any (λ x u s qs p. func_at x p) m.funcs (λ k d h. tt)
    (lines_past source table_text table_pieces Any (λ x u s qs p. table_at x p) m.tables (λ k d h. tt)
    (lines_past source memory_text memory_pieces Any (λ x u s qs p. memory_at x p) m.memories (λ k d h. tt)
    (lines_past source global_text global_pieces Any (λ x u s qs p. global_at x p) m.globals (λ k d h. tt) past))))))

uses_past : {source rest : List ℕ} {ps : List Piece} (m : Module) → CanBeShown m → Past source rest ps → Past source (uses_text m ++ rest) (uses_pieces m ++ ps)
unfolding uses_text uses_pieces
uses_past {source} m can past =
    simp append_assoc
    (lines_past source export_text export_pieces (λ e. AreBytes e.name) (λ x u s qs p. export_at x u p) m.exports can.exports
    (start_past m.start
    (lines_past source element_text element_pieces Any (λ x u s qs p. element_at x p) m.elements (λ k d h. tt)
    (lines_past source fill_text fill_pieces (λ f. AreBytes f.bytes) (λ x u s qs p. fill_at x u p) m.fills can.fills past))))

end_at : (source : List ℕ) → At source [] []
end_at source = record {
  starts = refl;
  lexed = λ before e ts. ([], subst (λ (l : List Token). Runs lexing_goes (lexeme (length source)) ts [] l []) (sym (append-nil ts)) (rests refl), none);
}

all_at : (m : Module) → CanBeShown m → At (shown m) (shown m) (module_pieces m)
all_at m can = opened_at word.Module (parts_past m can (uses_past m can (close (newline (end_at (shown m))))))

pub lexed : (m : Module) → CanBeShown m → (tokens : List Token) × Lexes (shown m) tokens × Shows (shown m) tokens (module_pieces m)
unfolding lexemes
lexed m can = (all_at m can).lexed [] refl []
