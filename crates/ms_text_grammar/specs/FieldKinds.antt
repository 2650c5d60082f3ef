-- The fields of a module by their kinds, and the index spaces that they fill (WebAssembly 1.0, 6.1.3).
use Rattle.std.specs.Prelude.{ℕ, ◌+◌, Bool, true, false, List, [], ◌∷◌, Option, if◌then◌else◌}
use Rattle.ms_text_lex.specs.declared.token.Token.{Token}
use Rattle.ms_text_grammar.specs.declared.surface.Entry.{Entry}
use Rattle.ms_text_grammar.specs.declared.surface.ExternKind.{ExternKind}
use Rattle.ms_text_grammar.specs.declared.surface.ExternKind.TheVariants as kind
use Rattle.ms_text_grammar.specs.declared.surface.Field.{Field}
use Rattle.ms_text_grammar.specs.declared.surface.Field.TheVariants as field
use Rattle.ms_text_grammar.specs.declared.surface.Item.{Item}
use Rattle.ms_text_grammar.specs.declared.surface.Item.TheVariants as item
use Rattle.ms_text_grammar.specs.declared.surface.TypeField.{TypeField}

abbrev pub types_in : List Field → List TypeField
types_in [] = []
types_in (field.Type f ∷ fs) = f ∷ types_in fs
types_in (_ ∷ fs) = types_in fs

abbrev pub entries_in : List Field → List Entry
entries_in [] = []
entries_in (field.Entry e ∷ fs) = e ∷ entries_in fs
entries_in (_ ∷ fs) = entries_in fs

abbrev pub kind_of : Item → ExternKind
kind_of (item.Func sig locals body) = kind.Func
kind_of (item.Table limits) = kind.Table
kind_of (item.Elements funcs) = kind.Table
kind_of (item.Memory limits) = kind.Memory
kind_of (item.Data strings) = kind.Memory
kind_of (item.Global ty init) = kind.Global

abbrev pub same_kind : ExternKind → ExternKind → Bool
same_kind kind.Func kind.Func = true
same_kind kind.Table kind.Table = true
same_kind kind.Memory kind.Memory = true
same_kind kind.Global kind.Global = true
same_kind _ _ = false

-- the entries of a kind; the imported ones stand in front of the defined ones
abbrev pub of_kind : ExternKind → List Entry → List Entry
of_kind k [] = []
of_kind k (e ∷ es) = if same_kind (kind_of e.item) k then e ∷ of_kind k es else of_kind k es

-- how many entries of each kind there are
pub record Counts : Type 0 where
  pub funcs : ℕ
  pub tables : ℕ
  pub memories : ℕ
  pub globals : ℕ

abbrev pub no_entries : Counts
no_entries = record { funcs = 0; tables = 0; memories = 0; globals = 0 }

abbrev pub count_of : Counts → ExternKind → ℕ
count_of n kind.Func = n.funcs
count_of n kind.Table = n.tables
count_of n kind.Memory = n.memories
count_of n kind.Global = n.globals

-- with one of this kind more
abbrev pub counted : Counts → ExternKind → Counts
counted n kind.Func = record n { funcs = n.funcs + 1 }
counted n kind.Table = record n { tables = n.tables + 1 }
counted n kind.Memory = record n { memories = n.memories + 1 }
counted n kind.Global = record n { globals = n.globals + 1 }

abbrev pub entry_ids : List Entry → List (Option Token)
entry_ids [] = []
entry_ids (e ∷ es) = e.id ∷ entry_ids es

abbrev pub type_ids : List TypeField → List (Option Token)
type_ids [] = []
type_ids (f ∷ fs) = f.id ∷ type_ids fs
