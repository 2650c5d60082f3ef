-- Entries of a table, and types that are the same.
use Rattle.std.proofs.Common.{◌≡◌, ℕ, ◌<◌, Option, Some, List, length, get_or, slice_get, refl, ap, sym, subst, ◌∙◌}
use Rattle.std.specs.Bool.{Decides}
use Rattle.std.proofs.lemmas.Option.{slice_get_read}
use Rattle.ms_types.specs.declared.types.ValType.{ValType}
use Rattle.ms_types.specs.declared.types.ValType.TheVariants.{I32, I64, Handle}
use Rattle.ms_types.specs.contracts.types.ValTypePartialEq.TheImpl.{eq-value}
use Rattle.ms_linear.specs.declared.table.Entry.{Entry}
use Rattle.ms_linear.specs.Table.{Table}

-- what was read at an index stands in the table
pub entry-read : (t : Table) (xs : List (Option Entry)) (max : Option ℕ) (i : ℕ) (read x : Option Entry) → record { entries = xs; max = max } ≡ t → i < length xs → read ≡ get_or xs i read → read ≡ x → slice_get t.entries i ≡ Some x
entry-read t xs max i read x view within at is =
    subst (λ (u : Table). slice_get u.entries i ≡ Some x) view (slice_get_read xs (length xs) i x refl within (sym is ∙ (at ∙ ap (get_or xs i) is)))

pub same-Decides : (a b : ValType) → Decides (eq-value.it a b) (a ≡ b)
same-Decides I32 I32 = (λ e. refl, λ e. refl)
same-Decides I32 I64 = (λ e. cc, λ e. cc)
same-Decides I32 Handle = (λ e. cc, λ e. cc)
same-Decides I64 I32 = (λ e. cc, λ e. cc)
same-Decides I64 I64 = (λ e. refl, λ e. refl)
same-Decides I64 Handle = (λ e. cc, λ e. cc)
same-Decides Handle I32 = (λ e. cc, λ e. cc)
same-Decides Handle I64 = (λ e. cc, λ e. cc)
same-Decides Handle Handle = (λ e. refl, λ e. refl)
