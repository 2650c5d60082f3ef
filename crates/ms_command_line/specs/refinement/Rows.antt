-- What the rows of the code say.
use Rattle.std.specs.Prelude.{map}
use Rattle.ms_command_line.specs.Commands as said
use Rattle.ms_command_line.specs.declared.definition.NumberOption.{NumberOption}
use Rattle.ms_command_line.specs.declared.definition.NumberPlace.{NumberPlace}
use Rattle.ms_command_line.specs.declared.definition.CommandRow.{CommandRow}

abbrev pub option_said : NumberOption → said.NumberOption
option_said o = record { name = o.name.now; least = o.least; most = o.most; default = o.default.now }

abbrev pub number_said : NumberPlace → said.NumberPlace
number_said p = record { name = p.name.now; least = p.least; most = p.most }

abbrev pub command_said : CommandRow → said.CommandRow
command_said c = record { name = c.name.now; places = map (λ place. place.now) c.places.now; numbers = map number_said c.numbers.now; options = map option_said c.options.now }
