-- What variables at file scope may be given: constants (C11, 6.7.9, paragraph 4).
use Rattle.std.specs.Prelude.{◌&&◌, Bool, true, false, List, [], ◌∷◌}
use Rattle.c_typed.specs.declared.ops.Variable.TheVariants.{Global}
use Rattle.c_typed.specs.Tree.{Place, of, deref, member, Expr, number, null, no_function, function, literal, decay, address, move, assign, Stmt, perform, fill}

abbrev pub is_number : Expr → Bool
is_number (number t n) = true
is_number _ = false

abbrev mutual
  -- a variable at file scope, or a part of it
  pub is_part : Place → Bool
  is_part (of (Global n)) = true
  is_part (member p n m) = is_part p
  is_part (deref e) = is_way e
  is_part _ = false

  -- the pointer to an element of an array that is such a part
  pub is_way : Expr → Bool
  is_way (decay t n p) = is_part p
  is_way (move t back a b) = is_way a && is_number b
  is_way _ = false

-- a number, a null pointer, or an address (6.6, paragraphs 7 to 9)
abbrev pub is_constant : Expr → Bool
is_constant (number t n) = true
is_constant null = true
is_constant no_function = true
is_constant (function n) = true
is_constant (literal n) = true
is_constant (address p) = is_part p
is_constant e = is_way e

-- an assignment of a constant
abbrev pub assigns_constant : Expr → Bool
assigns_constant (assign s p e) = is_part p && is_constant e
assigns_constant _ = false

-- that, or a string's bytes
abbrev pub gives_constant : Stmt → Bool
gives_constant (perform e) = assigns_constant e
gives_constant (fill p n bytes) = is_part p
gives_constant _ = false

abbrev pub give_constants : List Stmt → Bool
give_constants [] = true
give_constants (s ∷ ss) = gives_constant s && give_constants ss
