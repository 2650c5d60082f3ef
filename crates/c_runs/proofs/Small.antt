-- What an i32 has to count: the bytes of a string, and the groups of a switch, but for one number.
use Rattle.std.specs.Prelude.{ℕ, nat_lt, ◌&&◌, Bool, true, List, length}
use Rattle.c_typed.specs.Tree.{Stmt, nothing, perform, fill, if_else, loop, do_while, switch, scope, return, return_nothing, break, continue, Stmts, done, seq}
use Rattle.c_typed.specs.Statements.{count}

abbrev pub is_short : List ℕ → Bool
is_short bytes = nat_lt (length bytes) 4294967295

abbrev mutual
  pub is_small : Stmt → Bool
  is_small nothing = true
  is_small (perform e) = true
  is_small (fill p n bytes) = is_short bytes
  is_small (if_else c a b) = is_small a && is_small b
  is_small (loop c step s) = is_small s
  is_small (do_while s c) = is_small s
  is_small (switch t e slots cases ss) = nat_lt (count ss) 4294967295 && are_small ss
  is_small (scope slots ss) = are_small ss
  is_small (return e) = true
  is_small return_nothing = true
  is_small break = true
  is_small continue = true

  pub are_small : Stmts → Bool
  are_small done = true
  are_small (seq s ss) = is_small s && are_small ss
