-- Left sides: what stands in them, and the size of an assignment to them.
use Rattle.std.specs.Prelude.{◌≡◌, true, List, [], ◌∷◌, Option, None}
use Rattle.std.specs.Option.{option_or}
use Rattle.jz_tree.specs.Size.{Size}
use Rattle.jz_tree.specs.declared.expr.Expr.TheViews.{out-Access}
use Rattle.jz_tree.specs.declared.stmt.Lval.{Lval}
use Rattle.jz_tree.specs.declared.stmt.Lval.TheVariants as lval
use Rattle.jz_type_names.specs.Kinds.{whole_array}
use Rattle.jz_type_sizes.specs.Sides.{left_form}
use Rattle.jz_run_laws.specs.Counted.{is_counted, Counted}

-- the length of each array in it is a written number, and it is no array as a whole
abbrev pub CountedParts : Lval → Type 0
CountedParts (lval.Skip at) = Unit {0}
CountedParts (lval.Var v) = is_counted v ≡ true
CountedParts (lval.Cell v i) = (is_counted v ≡ true) × Counted i
CountedParts (lval.Store a) = Counted (out-Access a).at

abbrev pub IsCountedLeft : Lval → Type 0
IsCountedLeft d = CountedParts d × (whole_array d ≡ None)

-- what typing finds of several: the size of the first that has one
abbrev pub typed_lefts : List Lval → Option Size
typed_lefts [] = None
typed_lefts (d ∷ ds) = option_or (left_form d).size (typed_lefts ds)
