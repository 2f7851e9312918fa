-- What is known of a word, fact by fact.
use Rattle.std.proofs.Common.{◌≡◌, ℕ, true, refl}
use Rattle.std.specs.Prelude.{not, ◌&&◌, nat_le}
use Rattle.std.proofs.Math.Path.{fun_ext}
use Rattle.x64_insn.specs.Size.{Size}
use Rattle.jz_meaning.specs.States.{Key}
use Rattle.jz_terms.specs.Terms.{Term}
use Rattle.jz_facts.specs.Facts.{Fact, Set, Cell, AtLeast, AtMost, Under, Is, Multiple, Facts, is_among, multiples}
use Rattle.jz_facts.specs.Intervals.{interval, multiple}
use Rattle.jz_facts.specs.Holding.{is_read, copied, of_word}
use Rattle.jz_fact_sets.specs.declared.given.Given.{Given}
use Rattle.jz_fact_sets.specs.declared.knowledge.Knowledge.{Knowledge}
use Rattle.jz_fact_sets.specs.Kept.{given_of, is_at_least, is_at_most, is_times, is_named}
use Rattle.jz_fact_sets.specs.Renewing.{own}

module _ (g : Given) (s : Facts) (z : Size) (t : Term) (k : Knowledge)
    (set : k.set ≡ true)
    (least : (c : ℕ) → (is_among c g.constants && is_at_least k.least c) ≡ (not (is_read t) && (is_among c g.constants && nat_le c (interval (given_of g) s z t).lo)))
    (most : (c : ℕ) → (is_among c g.constants && is_at_most k.most c) ≡ (not (is_read t) && (is_among c g.constants && nat_le (interval (given_of g) s z t).hi c)))
    (times : (m : ℕ) → (is_among m multiples && is_times k.times m) ≡ (is_among m multiples && multiple (given_of g) s t m))
    (under : (x : Key) → is_named g.params k.under x ≡ copied s t (λ y. Under y x))
    (is : (x : Key) → is_named g.params k.is x ≡ copied s t (λ y. Is y x)) where
  one_fact : (f : Fact) → own g k f ≡ of_word (given_of g) s z t f
  one_fact (Set v) = set
  one_fact (Cell a j) = refl
  one_fact (AtLeast v c) = least c
  one_fact (AtMost v c) = most c
  one_fact (Under v x) = under x
  one_fact (Is v x) = is x
  one_fact (Multiple v m) = times m

  pub word_is : own g k ≡ of_word (given_of g) s z t
  word_is = fun_ext one_fact
