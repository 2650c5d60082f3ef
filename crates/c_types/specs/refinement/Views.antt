-- The structs as the code keeps them.
use Rattle.std.specs.Prelude.{List, map, Option, Some, None}
use Rattle.c_types.specs.Layout.{Layout, Table}
use Rattle.c_types.specs.Types.{Ty, type_of}
use Rattle.c_types.specs.declared.definition.Definition.{Definition}
use Rattle.c_types.specs.declared.types.CType.{CType}

abbrev pub types_in : List CType → List Ty
types_in ts = map type_of ts

abbrev pub layout_of : Definition → Layout
layout_of d =
    record { members = types_in d.members.items; offsets = d.offsets.items; size = d.size; align = d.align; depth = d.depth }

abbrev pub layout_of_option : Option Definition → Option Layout
layout_of_option None = None
layout_of_option (Some d) = Some (layout_of d)

abbrev pub table_of : List (Option Definition) → Table
table_of ds = map layout_of_option ds
