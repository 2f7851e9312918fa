-- The facts of the code, by the keys of their variables.
use Rattle.jz_meaning.specs.Values.{key_of, ref_of}
use Rattle.jz_facts.specs.declared.fact.Fact as code
use Rattle.jz_facts.specs.declared.fact.Fact.TheVariants as f
use Rattle.jz_facts.specs.Facts.{Fact, Set, Cell, AtLeast, AtMost, Under, Is, Multiple}

abbrev pub fact_of : code.Fact → Fact
fact_of (f.Set v) = Set (key_of (ref_of v))
fact_of (f.Cell a k) = Cell (key_of (ref_of a)) k
fact_of (f.AtLeast v c) = AtLeast (key_of (ref_of v)) c
fact_of (f.AtMost v c) = AtMost (key_of (ref_of v)) c
fact_of (f.Under v x) = Under (key_of (ref_of v)) (key_of (ref_of x))
fact_of (f.Is v x) = Is (key_of (ref_of v)) (key_of (ref_of x))
fact_of (f.Multiple v m) = Multiple (key_of (ref_of v)) m
