-- Pages rounded up, in two ways.
use Rattle.std.proofs.Common.{◌≡◌, ◌+◌, ◌-◌, ◌/◌, ◌%◌, ℕ, min, arith}
use Rattle.ms_types.specs.Page.{page}

pub rounded_up : (n : ℕ) → n / page + min 1 (n % page) ≡ (n + (page - 1)) / page
rounded_up n = omega arith
