-- How the logic stores the enumerators of an enumeration.
use Rattle.std.specs.Prelude.{List}
use Rattle.std.specs.Coded.{Coded, coded_list}
use Rattle.c_tree.specs.contracts.enumerator.Enumerator as enumerator_row
use Rattle.c_tree.specs.declared.enumerator.Enumerator.{Enumerator}

abbrev pub coded_enumerators : Coded (List Enumerator)
coded_enumerators = coded_list enumerator_row.the_row.coded
