-- How the logic stores a unit.
use Rattle.std.specs.Prelude.{List}
use Rattle.std.specs.Coded.{Coded, coded_list}
use Rattle.c_tree.specs.contracts.external.External as external_row
use Rattle.c_tree.specs.declared.external.External.{External}

abbrev pub coded_unit : Coded (List External)
coded_unit = coded_list external_row.the_row.coded
