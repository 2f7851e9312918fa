-- What is known of one variable, and what is known by two.
use Rattle.std.specs.Prelude.{ℕ, nat_le, false, ◌&&◌, Option, Some, None, min, max, bit_and, if◌then◌else◌}
use Rattle.jz_fact_readings.specs.Multiples.{times_of}
use Rattle.jz_fact_readings.specs.declared.times.Times.{Times}
use Rattle.jz_fact_sets.specs.declared.knowledge.Knowledge.{Knowledge}

abbrev pub nothing : Knowledge
nothing = record { set = false; least = None; most = None; times = None; under = 0; is = 0 }

abbrev pub least_of_both : Option ℕ → Option ℕ → Option ℕ
least_of_both None b = None
least_of_both (Some a) None = None
least_of_both (Some a) (Some b) = Some (min a b)

abbrev pub most_of_both : Option ℕ → Option ℕ → Option ℕ
most_of_both None b = None
most_of_both (Some a) None = None
most_of_both (Some a) (Some b) = Some (max a b)

abbrev pub times_of_both : Option Times → Option Times → Option Times
times_of_both None b = None
times_of_both (Some a) None = None
times_of_both (Some a) (Some b) = Some (if nat_le (times_of a) (times_of b) then a else b)

abbrev pub meet : Knowledge → Knowledge → Knowledge
meet a b = record {
  set = a.set && b.set;
  least = least_of_both a.least b.least;
  most = most_of_both a.most b.most;
  times = times_of_both a.times b.times;
  under = bit_and a.under b.under;
  is = bit_and a.is b.is;
}
