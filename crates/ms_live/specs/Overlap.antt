-- Whether a new segment would overlap one that is live.
use Rattle.std.specs.Prelude.{ℕ, ◌+◌, Bool, ◌&&◌, nat_lt}
use Rattle.ms_live.specs.declared.gaps.Live.{Live}

-- one of the n addresses from the place on lies in the segment
abbrev pub overlaps : ℕ → ℕ → Live → Bool
overlaps place n segment = nat_lt 0 segment.size && (nat_lt segment.base (place + n) && nat_lt place (segment.base + segment.size))
