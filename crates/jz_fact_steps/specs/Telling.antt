-- What is told of a variable, beside what is known of it.
use Rattle.std.specs.Prelude.{ℕ, nat_le, ◌&&◌, ◌||◌, Option, Some, None, min, max, bit_or, if◌then◌else◌}
use Rattle.jz_tree.specs.declared.expr.Var.{Var}
use Rattle.jz_meaning.specs.States.{same_key}
use Rattle.jz_layers.specs.Spots.{variable_key}
use Rattle.jz_terms.specs.Terms.{Term}
use Rattle.jz_facts.specs.Facts.{Facts, subject}
use Rattle.jz_facts.specs.Tests.{is_var}
use Rattle.jz_fact_readings.specs.Multiples.{times_of}
use Rattle.jz_fact_readings.specs.declared.times.Times.{Times}
use Rattle.jz_fact_sets.specs.declared.given.Given.{Given}
use Rattle.jz_fact_sets.specs.declared.knowledge.Knowledge.{Knowledge}
use Rattle.jz_fact_sets.specs.Renewing.{own}

abbrev pub least_of_some : Option ℕ → Option ℕ → Option ℕ
least_of_some None b = b
least_of_some (Some a) None = Some a
least_of_some (Some a) (Some b) = Some (max a b)

abbrev pub most_of_some : Option ℕ → Option ℕ → Option ℕ
most_of_some None b = b
most_of_some (Some a) None = Some a
most_of_some (Some a) (Some b) = Some (min a b)

abbrev pub times_of_some : Option Times → Option Times → Option Times
times_of_some None b = b
times_of_some (Some a) None = Some a
times_of_some (Some a) (Some b) = Some (if nat_le (times_of a) (times_of b) then b else a)

-- what one of them knows
abbrev pub join : Knowledge → Knowledge → Knowledge
join a b = record {
  set = a.set || b.set;
  least = least_of_some a.least b.least;
  most = most_of_some a.most b.most;
  times = times_of_some a.times b.times;
  under = bit_or a.under b.under;
  is = bit_or a.is b.is;
}

-- the facts on a variable that this says
abbrev pub of_variable : Given → Var → Knowledge → Facts
of_variable g x k f = same_key (subject f) (variable_key x) && own g k f

-- if the term is a variable
abbrev pub of_term : Given → Term → Knowledge → Facts
of_term g t k f = is_var t (subject f) && own g k f
