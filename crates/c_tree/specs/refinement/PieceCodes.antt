-- How the logic stores the parts of a structure's members.
use Rattle.std.specs.Prelude.{List}
use Rattle.std.specs.Coded.{Coded, coded_list}
use Rattle.c_tree.specs.contracts.external.Piece as piece_row
use Rattle.c_tree.specs.declared.external.Piece.{Piece}

abbrev pub coded_pieces : Coded (List Piece)
coded_pieces = coded_list piece_row.the_row.coded
