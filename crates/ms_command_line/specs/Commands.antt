-- The commands of the program: a row for each, and what the rows make of the command line and of the usage lines.
use Rattle.std.specs.Prelude.{◌≡◌, ◌≤◌, ℕ, List, [], ◌∷◌, ◌++◌, Some, true, false, codes, map, fold}
use Rattle.std.specs.List.{flat_map}
use Rattle.std.specs.Str.Parse.{digits_value}
use Rattle.clap.specs.Words.{App, Rule, Text, app_of, new_app, new_rule, with_rule, with_subcommand}
use Rattle.clap.specs.declared.builder.command.Command.{Command}
use Rattle.clap.specs.declared.builder.command.Command.TheViews.{out-Command}
use Rattle.clap.specs.declared.builder.value_parser.ValueParser.TheVariants as parser

-- ---- what a row says

-- the option `--name N`, of which N is a number from `least` to `most`, and `default` is written where it isn't given
pub record NumberOption : Type 0 where
  pub name : Text
  pub least : ℕ
  pub most : ℕ
  pub default : Text

-- a word that has to be a number from `least` to `most`
pub record NumberPlace : Type 0 where
  pub name : Text
  pub least : ℕ
  pub most : ℕ

-- a command, the words that have to follow it, in their order, those behind them that have to be numbers, and its options
pub record CommandRow : Type 0 where
  pub name : Text
  pub places : List Text
  pub numbers : List NumberPlace
  pub options : List NumberOption

abbrev pub default_of : NumberOption → ℕ
default_of o = digits_value 10 o.default

abbrev pub IsWithin : (least most : ℕ) → ℕ → Type 0
IsWithin least most n = (least ≤ n) × (n ≤ most)

-- ---- the rows

abbrev pub program : Text
program = codes "mswasm"

abbrev pub file : Text
file = codes "FILE"

abbrev pub out : Text
out = codes "OUT"

abbrev pub job : Text
job = codes "JOB"

-- what the random numbers of `stress` begin with
abbrev pub seed : NumberPlace
seed = record { name = codes "SEED"; least = 1; most = 2147483646 }

-- how many of them `stress` takes
abbrev pub count : NumberPlace
count = record { name = codes "COUNT"; least = 1; most = 100000 }

-- how many steps a run may take
abbrev pub budget : NumberOption
budget = record { name = codes "budget"; least = 0; most = 1000000000000; default = codes "1000000" }

-- how many bytes the segment memory has
abbrev pub memory : NumberOption
memory = record { name = codes "memory"; least = 16; most = 1073741824; default = codes "1048576" }

abbrev pub exec : CommandRow
exec = record { name = codes "exec"; places = file ∷ []; numbers = []; options = budget ∷ memory ∷ [] }

abbrev pub run : CommandRow
run = record { name = codes "run"; places = job ∷ []; numbers = []; options = [] }

abbrev pub check : CommandRow
check = record { name = codes "check"; places = file ∷ []; numbers = []; options = [] }

abbrev pub asm : CommandRow
asm = record { name = codes "asm"; places = file ∷ out ∷ []; numbers = []; options = [] }

abbrev pub dis : CommandRow
dis = record { name = codes "dis"; places = file ∷ out ∷ []; numbers = []; options = [] }

abbrev pub compile : CommandRow
compile = record { name = codes "compile"; places = file ∷ out ∷ []; numbers = []; options = [] }

abbrev pub judge : CommandRow
judge = record { name = codes "judge"; places = file ∷ []; numbers = []; options = memory ∷ [] }

abbrev pub stress : CommandRow
stress = record { name = codes "stress"; places = []; numbers = seed ∷ count ∷ []; options = [] }

abbrev pub commands : List CommandRow
commands = exec ∷ run ∷ check ∷ asm ∷ dis ∷ compile ∷ judge ∷ stress ∷ []

abbrev pub default_budget : ℕ
default_budget = default_of budget

abbrev pub default_memory : ℕ
default_memory = default_of memory

-- ---- the command line that rows define, in the terms of `clap`

abbrev pub place_rule : Text → Rule
place_rule name = record (new_rule name) { required = true }

abbrev pub number_rule : NumberPlace → Rule
number_rule p = record (new_rule p.name) { required = true; parser = Some (parser.Unsigned p.least p.most) }

abbrev pub option_rule : NumberOption → Rule
option_rule o = record (new_rule o.name) {
  long = Some o.name;
  parser = Some (parser.Unsigned o.least o.most);
  defaults = o.default ∷ [];
}

abbrev pub app_of_command : CommandRow → App
app_of_command c =
    fold with_rule (fold with_rule (fold with_rule (new_app c.name) (map place_rule c.places)) (map number_rule c.numbers)) (map option_rule c.options)

-- a command has to be named, and `help` names none
abbrev pub bare : Text → App
bare name = record (new_app name) {
  top = record (new_app name).top { subcommand_required = true; disable_help_subcommand = true };
}

abbrev pub with_command : App → CommandRow → App
with_command app c = with_subcommand app (app_of_command c).top

abbrev pub app_of_commands : List CommandRow → App
app_of_commands rows = fold with_command (bare program) rows

abbrev pub mswasm : App
mswasm = app_of_commands commands

-- the command of `clap` is this one, and nothing in it is global
pub record Is (app : App) (c : Command) : Type 0 where
  pub shape : app_of c ≡ app
  pub local : (out-Command c).has_globals ≡ false

-- one command of `clap` is the other with these commands below it
abbrev pub HasCommands : List CommandRow → Command → Command → Type 0
HasCommands rows old new = (app : App) → Is app old → Is (fold with_command app rows) new

-- ---- the usage lines

-- `usage: mswasm NAME PLACE.. [--OPTION N]..` and LF
abbrev pub usage_line : CommandRow → Text
usage_line c = codes "usage: " ++ program ++ codes " " ++ c.name ++ flat_map (λ place. codes " " ++ place) c.places
    ++ flat_map (λ p. codes " " ++ p.name) c.numbers
    ++ flat_map (λ o. codes " [--" ++ o.name ++ codes " N]") c.options ++ 10 ∷ []

abbrev pub usage_of : List CommandRow → Text
usage_of rows = flat_map usage_line rows

abbrev pub usage_lines : Text
usage_lines = usage_of commands
