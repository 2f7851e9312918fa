-- What is known of a parameter at entry.
use Rattle.std.specs.Prelude.{ℕ, ◌≡◌, ◌^◌, ◌&&◌, true, Option, Some, None}
use Rattle.jz_facts.specs.Facts.{is_among, multiples, is_aligned_by}
use Rattle.jz_intervals.specs.declared.interval.Interval.{Interval}
use Rattle.jz_fact_sets.specs.declared.given.Parameter.{Parameter}
use Rattle.jz_fact_sets.specs.declared.knowledge.Knowledge.{Knowledge}
use Rattle.jz_fact_sets.specs.Kept.{is_times}

abbrev pub lo_in : Option Interval → Option ℕ
lo_in None = None
lo_in (Some i) = Some i.lo

abbrev pub hi_in : Option Interval → Option ℕ
hi_in None = None
hi_in (Some i) = Some i.hi

-- that it is set and what it is, and what its range and its alignment give
pub record IsEntered (p : Parameter) (index : ℕ) (k : Knowledge) : Type 0 where
  pub set : k.set ≡ true
  pub least : k.least ≡ lo_in p.range
  pub most : k.most ≡ hi_in p.range
  pub times :
      (m : ℕ)
      → (is_among m multiples && is_times k.times m)
      ≡ (is_among m multiples && is_aligned_by p.align m)
  pub under : k.under ≡ 0
  pub is : k.is ≡ 2 ^ index
