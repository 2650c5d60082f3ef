-- How the logic stores the declarators of a declaration.
use Rattle.std.specs.Prelude.{List}
use Rattle.std.specs.Coded.{Coded, coded_list}
use Rattle.c_tree.specs.contracts.initialiser.Init as init_row
use Rattle.c_tree.specs.declared.initialiser.Init.{Init}

abbrev pub coded_inits : Coded (List Init)
coded_inits = coded_list init_row.the_row.coded
