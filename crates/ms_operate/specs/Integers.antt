-- The operations of numeric instructions, by their names (WebAssembly 1.0, 4.3.2).
use Rattle.std.specs.Prelude.{◌==◌, ◌^◌, ◌/◌, ◌%◌, ℕ, zero, suc, Bool, not, nat_lt, nat_le, int_lt, int_le, bit_and, bit_or, bit_xor, Result, Ok, if◌then◌else◌}
use Rattle.ms_num.specs.Integers as int
use Rattle.ms_num.specs.declared.arith.Arith.{Arith}
use Rattle.ms_module.specs.declared.numeric.UnOp.{UnOp}
use Rattle.ms_module.specs.declared.numeric.UnOp.TheVariants.{Clz, Ctz, Popcnt}
use Rattle.ms_module.specs.declared.numeric.BinOp.{BinOp}
use Rattle.ms_module.specs.declared.numeric.BinOp.TheVariants as ops
use Rattle.ms_module.specs.declared.numeric.RelOp.{RelOp}
use Rattle.ms_module.specs.declared.numeric.RelOp.TheVariants as rels

-- how many zeros stand above the highest one of so many bits
abbrev pub leading : ℕ → ℕ → ℕ
leading zero a = 0
leading (suc n) a = if nat_lt a (2 ^ n) then suc (leading n a) else 0

-- how many zeros stand below the lowest one of so many bits
abbrev pub trailing : ℕ → ℕ → ℕ
trailing zero a = 0
trailing (suc n) a = if a % 2 == 0 then suc (trailing n (a / 2)) else 0

abbrev pub unary : UnOp → ℕ → ℕ → ℕ
unary Clz w a = leading w a
unary Ctz w a = trailing w a
unary Popcnt w a = int.ones w a

abbrev pub binary : BinOp → ℕ → ℕ → ℕ → Result ℕ Arith
binary ops.Add w a b = Ok (int.add w a b)
binary ops.Sub w a b = Ok (int.sub w a b)
binary ops.Mul w a b = Ok (int.mul w a b)
binary ops.DivS w a b = int.div_s w a b
binary ops.DivU w a b = int.div_u w a b
binary ops.RemS w a b = int.rem_s w a b
binary ops.RemU w a b = int.rem_u w a b
binary ops.And w a b = Ok (bit_and a b)
binary ops.Or w a b = Ok (bit_or a b)
binary ops.Xor w a b = Ok (bit_xor a b)
binary ops.Shl w a b = Ok (int.shl w a b)
binary ops.ShrS w a b = Ok (int.shr_s w a b)
binary ops.ShrU w a b = Ok (int.shr_u w a b)
binary ops.Rotl w a b = Ok (int.rotl w a b)
binary ops.Rotr w a b = Ok (int.rotr w a b)

abbrev pub compare : RelOp → ℕ → ℕ → ℕ → Bool
compare rels.Eq w a b = a == b
compare rels.Ne w a b = not (a == b)
compare rels.LtS w a b = int_lt (int.signed w a) (int.signed w b)
compare rels.LtU w a b = nat_lt a b
compare rels.GtS w a b = int_lt (int.signed w b) (int.signed w a)
compare rels.GtU w a b = nat_lt b a
compare rels.LeS w a b = int_le (int.signed w a) (int.signed w b)
compare rels.LeU w a b = nat_le a b
compare rels.GeS w a b = int_le (int.signed w b) (int.signed w a)
compare rels.GeU w a b = nat_le b a
