-- When the probe says that rows are better passed on. Assumes nothing.
use Rattle.std.specs.Prelude.{ℕ, ◌+◌, ◌-◌, ◌^◌, min, Bool, false, cond, ◌&&◌, pos, nat_le, Float}
use Rattle.std.specs.Float.{binary64}
use Rattle.std.specs.Float.Ieee.{of_int, div, lt}
use Rattle.order.specs.declared.skip_partial.SkipAggregationProbe.{SkipAggregationProbe}

-- groups / rows as an f64: each number rounded once, and the quotient once
abbrev pub ratio : ℕ → ℕ → Float
ratio groups rows = div binary64 (of_int binary64 (pos groups)) (of_int binary64 (pos rows))

-- the quotient lies above t; 0 / 0 lies above nothing
abbrev pub exceeds : ℕ → ℕ → Float → Bool
exceeds groups rows t = lt t (ratio groups rows)

pub record Probe : Type 0 where
  pub least : ℕ
  pub threshold : Float
  pub rows : ℕ
  pub skips : Bool

abbrev pub fresh : ℕ → Float → Probe
fresh least t = record { least = least; threshold = t; rows = 0; skips = false }

-- the rows read, of which there are below 2 ^ 64
abbrev pub added : ℕ → ℕ → ℕ
added rows more = min (rows + more) (2 ^ 64 - 1)

-- more rows were read; a yes is final, and nothing is counted after it
abbrev pub told : Probe → ℕ → ℕ → Probe
told p more groups =
    cond p.skips p
    (record {
      least = p.least;
      threshold = p.threshold;
      rows = added p.rows more;
      skips = nat_le p.least (added p.rows more) && exceeds groups (added p.rows more) p.threshold;
    })

-- what the code's probe stands for
abbrev pub probe : SkipAggregationProbe → Probe
probe p = record {
  least = p.probe_rows_threshold;
  threshold = p.probe_ratio_threshold;
  rows = p.input_rows;
  skips = p.should_skip;
}
