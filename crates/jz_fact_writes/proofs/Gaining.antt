-- What is known of a left side has the facts that it gets.
use Rattle.std.proofs.Common.{◌≡◌, ℕ, Bool, true, false, refl, ap, sym, ◌∙◌}
use Rattle.std.specs.Prelude.{◌&&◌}
use Rattle.std.proofs.Math.Path.{fun_ext}
use Rattle.x64_insn.specs.Size.{Size}
use Rattle.jz_meaning.specs.declared.access.Kind.{Kind}
use Rattle.jz_meaning.specs.declared.access.Kind.TheVariants as kind
use Rattle.jz_facts.specs.Facts.{Fact, Set, Cell, AtLeast, AtMost, Under, Is, Multiple, Facts, is_among, multiples}
use Rattle.jz_facts.specs.Holding as holding
use Rattle.jz_facts.specs.Holding.{none, some_value, the_word, gained, only_set}
use Rattle.jz_fact_sets.specs.declared.given.Given.{Given}
use Rattle.jz_fact_sets.specs.declared.knowledge.Knowledge.{Knowledge}
use Rattle.jz_fact_sets.specs.Knowing.{nothing}
use Rattle.jz_fact_sets.specs.Kept.{given_of}
use Rattle.jz_fact_sets.specs.Renewing.{own}
use Rattle.jz_fact_sets.proofs.NamedBits.{none_named}
use Rattle.jz_fact_writes.specs.declared.writes.Gets.TheVariants as gets
use Rattle.jz_fact_writes.specs.Writing.{StandsFor}

and_none : (a : Bool) → (a && false) ≡ false
and_none true = refl
and_none false = refl

pub own_nothing : (g : Given) → own g nothing ≡ holding.nothing
own_nothing g = fun_ext one
  where
    one : (f : Fact) → own g nothing f ≡ holding.nothing f
    one (Set v) = refl
    one (Cell a j) = refl
    one (AtLeast v c) = and_none (is_among c g.constants)
    one (AtMost v c) = and_none (is_among c g.constants)
    one (Under v x) = none_named g.params x
    one (Is v x) = none_named g.params x
    one (Multiple v m) = and_none (is_among m multiples)

own_set : (g : Given) → own g (record nothing { set = true }) ≡ only_set
own_set g = fun_ext one
  where
    one : (f : Fact) → own g (record nothing { set = true }) f ≡ only_set f
    one (Set v) = refl
    one (Cell a j) = refl
    one (AtLeast v c) = and_none (is_among c g.constants)
    one (AtMost v c) = and_none (is_among c g.constants)
    one (Under v x) = none_named g.params x
    one (Is v x) = none_named g.params x
    one (Multiple v m) = and_none (is_among m multiples)

module _ (g : Given) (s : Facts) where
  pub gains_nothing : (k : Kind) (v : holding.Gets) → StandsFor g s gets.Nothing v → own g nothing ≡ gained (given_of g) s k v
  gains_nothing kind.Undeclared none h = own_nothing g
  gains_nothing kind.Int none h = own_nothing g
  gains_nothing kind.Bool none h = own_nothing g
  gains_nothing (kind.Word y) none h = own_nothing g
  gains_nothing (kind.Array y n) none h = own_nothing g
  gains_nothing k some_value h = absurd h
  gains_nothing k (the_word z t) h = absurd h

  pub gains_value : (k : Kind) (v : holding.Gets) → StandsFor g s gets.Value v → own g (record nothing { set = true }) ≡ gained (given_of g) s k v
  gains_value kind.Undeclared some_value h = own_set g
  gains_value kind.Int some_value h = own_set g
  gains_value kind.Bool some_value h = own_set g
  gains_value (kind.Word y) some_value h = own_set g
  gains_value (kind.Array y n) some_value h = own_set g
  gains_value k none h = absurd h
  gains_value k (the_word z t) h = absurd h

  module _ (x : Knowledge) where
    pub gains_word : (y : Size) (v : holding.Gets) → StandsFor g s (gets.Word x) v → own g x ≡ gained (given_of g) s (kind.Word y) v
    gains_word y (the_word z t) h = h
    gains_word y none h = absurd h
    gains_word y some_value h = absurd h

    pub gains_undeclared : (v : holding.Gets) → StandsFor g s (gets.Word x) v → own g (record nothing { set = true }) ≡ gained (given_of g) s kind.Undeclared v
    gains_undeclared (the_word z t) h = own_set g
    gains_undeclared none h = absurd h
    gains_undeclared some_value h = absurd h

    pub gains_int : (v : holding.Gets) → StandsFor g s (gets.Word x) v → own g (record nothing { set = true }) ≡ gained (given_of g) s kind.Int v
    gains_int (the_word z t) h = own_set g
    gains_int none h = absurd h
    gains_int some_value h = absurd h

    pub gains_bool : (v : holding.Gets) → StandsFor g s (gets.Word x) v → own g (record nothing { set = true }) ≡ gained (given_of g) s kind.Bool v
    gains_bool (the_word z t) h = own_set g
    gains_bool none h = absurd h
    gains_bool some_value h = absurd h

    pub gains_array : (y : Size) (n : ℕ) (v : holding.Gets) → StandsFor g s (gets.Word x) v → own g (record nothing { set = true }) ≡ gained (given_of g) s (kind.Array y n) v
    gains_array y n (the_word z t) h = own_set g
    gains_array y n none h = absurd h
    gains_array y n some_value h = absurd h

    pub gains_word_at : (k : Kind) (y : Size) → k ≡ kind.Word y → (v : holding.Gets) → StandsFor g s (gets.Word x) v → own g x ≡ gained (given_of g) s k v
    gains_word_at k y e v h = gains_word y v h ∙ ap (λ k. gained (given_of g) s k v) (sym e)

    pub gains_array_at : (k : Kind) (y : Size) (n : ℕ) → k ≡ kind.Array y n → (v : holding.Gets) → StandsFor g s (gets.Word x) v → own g (record nothing { set = true }) ≡ gained (given_of g) s k v
    gains_array_at k y n e v h = gains_array y n v h ∙ ap (λ k. gained (given_of g) s k v) (sym e)
