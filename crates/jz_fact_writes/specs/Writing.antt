-- What a left side gets, by what is known of it.
use Rattle.std.specs.Prelude.{ℕ, ◌≡◌, ◌==◌, if◌then◌else◌}
use Rattle.jz_facts.specs.Facts.{Facts}
use Rattle.jz_facts.specs.Holding as holding
use Rattle.jz_facts.specs.Holding.{none, some_value, the_word, of_word}
use Rattle.jz_fact_sets.specs.declared.given.Given.{Given}
use Rattle.jz_fact_sets.specs.declared.knowledge.Knowledge.{Knowledge}
use Rattle.jz_fact_sets.specs.Kept.{given_of}
use Rattle.jz_fact_sets.specs.Renewing.{own}
use Rattle.jz_fact_writes.specs.declared.writes.Gets.{Gets}
use Rattle.jz_fact_writes.specs.declared.writes.Gets.TheVariants as gets

-- what is known of a word has the facts of the word
abbrev pub StandsFor : Given → Facts → Gets → holding.Gets → Type 0
StandsFor g s gets.Nothing none = Unit {0}
StandsFor g s gets.Value some_value = Unit {0}
StandsFor g s (gets.Word k) (the_word z t) = own g k ≡ of_word (given_of g) s z t
StandsFor g s k v = ⊥

-- the last left side gets the word; so many are left
abbrev pub at_place : ℕ → Knowledge → Gets
at_place n k = if n == 1 then gets.Word k else gets.Value
