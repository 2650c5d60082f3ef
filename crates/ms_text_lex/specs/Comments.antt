-- Comments (WebAssembly 1.0, 6.2.4).
use Rattle.std.specs.Prelude.{◌==◌, ◌-◌, ◌≤◌, ◌&&◌, not, ℕ, suc, Bool, List, [], ◌∷◌, if◌then◌else◌}
use Rattle.std.proofs.Common.{arith}
use Rattle.std.specs.Str.{is_utf8}
use Rattle.ms_bytes.specs.Format.{Format}
use Rattle.ms_bytes.specs.Parts.{choose_least, item, pure}
use Rattle.ms_bytes.specs.Runs.{TakesItem}
use Rattle.ms_bytes.specs.RunLaws.{takes_least}
use Rattle.ms_bytes.specs.Repetition.{run}
use Rattle.ms_bytes.specs.Tests.{longest, only, whole}
use Rattle.ms_text_lex.specs.declared.class.Class.TheVariants.{Line}
use Rattle.ms_text_lex.specs.declared.comments.Comment.{Comment}
use Rattle.ms_text_lex.specs.declared.comments.Mark.{Mark}
use Rattle.ms_text_lex.specs.declared.comments.Mark.TheVariants.{Closes, Neither, Opens}
use Rattle.ms_text_lex.specs.Classes.{is_in}
use Rattle.ms_text_lex.specs.Fault.{Fault, any, broken, char_here, inside, ◌>>=◌}

-- ---- up to the line's end

unfoldable pub line_text : Format ℕ Fault (Unit {0})
line_text = do
  first ← item broken any
  text ← longest (is_in Line)
  pure tt

-- ---- in brackets, where comments are nested

-- a mark that opens or closes a comment
abbrev pub mark_of : List ℕ → Mark
mark_of [] = Neither
mark_of (a ∷ []) = Neither
mark_of (a ∷ b ∷ s) = if (a == 40) && (b == 59) then Opens else if (a == 59) && (b == 41) then Closes else Neither

unfoldable pub behind_mark : ℕ → Mark → Format ℕ Fault Comment
behind_mark depth Opens = do
  a ← item broken any
  b ← item broken any
  pure (record { depth = suc depth })
behind_mark depth Closes = do
  a ← item broken any
  b ← item broken any
  pure (record { depth = depth - 1 })
behind_mark depth Neither = do
  a ← item broken any
  pure (record { depth = depth })

pub mark_least : (depth : ℕ) (mark : Mark) → 1 ≤ (behind_mark depth mark).least
unfolding behind_mark
mark_least depth Opens = omega arith
mark_least depth Closes = omega arith
mark_least depth Neither = omega arith

-- a mark, or a byte
unfoldable pub comment_step : Comment → Format ℕ Fault Comment
comment_step st = choose_least 1 mark_of (behind_mark st.depth) (mark_least st.depth)

-- until all are closed
abbrev pub comment_goes : Comment → List ℕ → Bool
comment_goes st s = not (st.depth == 0)

pub comment_takes : TakesItem {F = Fault} comment_goes comment_step
unfolding comment_step
comment_takes = takes_least comment_goes comment_step (λ st. omega arith)

-- a comment with the opening mark of the outermost one first
unfoldable pub comment_text : Format ℕ Fault (Unit {0})
comment_text = do
  a ← item broken any
  b ← item broken any
  inner ← run broken comment_goes comment_step comment_takes (record { depth = 1 })
  pure tt

-- ---- comments are UTF-8, and what is wrong in one stands at its beginning

unfoldable pub line_comment : Format ℕ Fault (Unit {0})
line_comment = only (λ x text. is_utf8 text) char_here line_text

unfoldable pub utf8_comment : Format ℕ Fault (Unit {0})
utf8_comment = only (λ x text. is_utf8 text) char_here comment_text

unfoldable pub block_comment : Format ℕ Fault (Unit {0})
block_comment = whole inside utf8_comment
