-- What the builders make of a definition.
use Rattle.std.proofs.Common.{◌≡◌, ◌∙◌, ◌||◌, ◌+◌, ◌<◌, ◌≤◌, ℕ, List, map, drop, length, true, false, ap, ap₂, sym, Bool, add-one, drop-cons}
use Rattle.std.specs.Prelude.{fold, slice_index_or}
use Rattle.std.proofs.lemmas.List.{drop_all}
use Rattle.clap.specs.Words.{AddsArg, AddsSubcommand, App, Rule, Text, app_of, new_app, rule_of, with_rule, with_subcommand}
use Rattle.clap.specs.Simple.{app_of_fields}
use Rattle.clap.specs.declared.builder.command.Command.TheViews.{out-Command}
use Rattle.clap.specs.declared.builder.command.Command.TheOpen.{Command-F}
use Rattle.clap.specs.declared.builder.arg.Arg.{Arg}
use Rattle.clap.specs.declared.builder.command.Command.{Command}
use Rattle.ms_command_line.specs.Commands.{Is, bare}

pub adds_arg : (app : App) (rule : Rule) (old : Command) (a : Arg) (new : Command) → Is app old → rule_of a ≡ rule → a.global ≡ false
    → AddsArg old a new → Is (with_rule app rule) new
adds_arg app rule old a new was same local added = record {
  shape = added.shape local ∙ ap₂ with_rule was.shape same;
  local = added.globals ∙ ap₂ (λ (x y : Bool). x || y) was.local local;
}

pub adds_subcommand : (app below : App) (old sub new : Command) → Is app old → Is below sub
    → AddsSubcommand old sub new → Is (with_subcommand app below.top) new
adds_subcommand app below old sub new was inner added = record {
  shape = added.shape inner.local ∙ ap₂ with_subcommand was.shape (ap (λ (a : App). a.top) inner.shape);
  local = added.globals ∙ ap₂ (λ (x y : Bool). x || y) was.local inner.local;
}

-- the settings of the top command
pub set_settings : (new settled : Command) (name : Text) → app_of new ≡ new_app name → (out-Command new).has_globals ≡ false
    → out-Command settled ≡ record (record (out-Command new) { subcommand_required = true }) { disable_help_subcommand = true }
    → Is (bare name) settled
set_settings new settled name app local is = record {
  shape = ap app_of_fields is ∙ ap (λ (a : App). record a { top = record a.top { subcommand_required = true; disable_help_subcommand = true } }) app;
  local = ap (λ (f : Command-F Command). f.has_globals) is ∙ local;
}

-- ---- what is made of a list, an item at a time

module _ {A X Y : Type 0} (g : A → Y → A) (f : X → Y) (xs : List X) where
  pub fold_step : (i : ℕ) (d : X) (a total : A) → i < length xs → fold g a (map f (drop i xs)) ≡ total
      → fold g (g a (f (slice_index_or xs i d))) (map f (drop (i + 1) xs)) ≡ total
  fold_step i d a total within e = rw add-one (ap (λ (ys : List X). fold g a (map f ys)) (sym (drop-cons xs i d within)) ∙ e)

  pub fold_done : (i : ℕ) (a total : A) → length xs ≤ i → fold g a (map f (drop i xs)) ≡ total → a ≡ total
  fold_done i a total past e = ap (λ (ys : List X). fold g a (map f ys)) (sym (drop_all i xs past)) ∙ e
