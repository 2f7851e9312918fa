-- What a set of facts says, with what is given of its function.
use Rattle.jz_facts.specs.Facts.{Facts, Given}
use Rattle.jz_fact_sets.specs.Kept.{given_of, facts_of}
use Rattle.jz_fact_sets.specs.declared.saying.Saying.{Saying}

abbrev pub given_in : Saying → Given
given_in s = given_of s.given.now

abbrev pub facts_in : Saying → Facts
facts_in s = facts_of s.given.now s.set.now
