-- What the code's structs are whose members are being read.
use Rattle.std.specs.Prelude.{List, map}
use Rattle.c_types.specs.refinement.Views.{types_in}
use Rattle.c_declare.specs.declared.structs.Open.{Open as OpenCode}
use Rattle.c_declare.specs.Structs.{Open}

abbrev pub open_of : OpenCode → Open
open_of o = record { number = o.number; names = o.names; types = types_in o.types.items }

abbrev pub opens_of : List OpenCode → List Open
opens_of os = map open_of os
