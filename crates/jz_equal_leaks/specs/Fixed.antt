-- What typing and expansion give of the expressions of a function that is judged: an array of the
-- frame is no scalar, and the right part of `&&` or `||`, which may be left out, leaks nothing.
use Rattle.std.specs.Prelude.{◌≡◌, Bool, true, false, List, [], ◌∷◌, Option, Some, None}
use Rattle.jz_tree.specs.Operators.{joins, divides}
use Rattle.jz_tree.specs.declared.expr.Expr.{Expr}
use Rattle.jz_tree.specs.declared.expr.Var.{Var}
use Rattle.jz_tree.specs.declared.program.Param.{Param}
use Rattle.jz_meaning.specs.States.{Key}
use Rattle.jz_meaning.specs.Values.{Ref, key_of, ref_of}
use Rattle.jz_meaning.specs.Statements.{Operation, Condition}
use Rattle.jz_terms.specs.Terms.{Term, num, truth, var, cell, load, neg, inv, cast, bin}
use Rattle.jz_labels.specs.Operations.{Left, nothing, scalar, element, bytes, Plain, plain_of, tested_by}

-- a variable, or what a cell is a cell of
abbrev pub whole : Key → Key
whole k = record { name = k.name; copy = k.copy; cell = None }

-- no access and no division is in it
abbrev pub IsSilent : Term → Type 0
IsSilent (num i at) = Unit {0}
IsSilent (truth b at) = Unit {0}
IsSilent (var x) = Unit {0}
IsSilent (cell x i) = ⊥
IsSilent (load p a) = ⊥
IsSilent (neg a at) = IsSilent a
IsSilent (inv a at) = IsSilent a
IsSilent (cast z sign a at) = IsSilent a
IsSilent (bin op a b at) = (divides op ≡ false) × IsSilent a × IsSilent b

-- some arrays are in the frame; those in registers have become scalars, each a cell by its name
module _ (in_frame : Key → Bool) where
  abbrev pub IsScalar : Ref → Type 0
  IsScalar x = in_frame (whole (key_of x)) ≡ false

  abbrev pub IsArray : Ref → Type 0
  IsArray x = (in_frame (whole (key_of x)) ≡ true) × (x.cell ≡ None)

  abbrev pub IsFixed : Term → Type 0
  IsFixed (num i at) = Unit {0}
  IsFixed (truth b at) = Unit {0}
  IsFixed (var x) = IsScalar x
  IsFixed (cell x i) = IsArray x × IsFixed i
  IsFixed (load p a) = IsFixed a
  IsFixed (neg a at) = IsFixed a
  IsFixed (inv a at) = IsFixed a
  IsFixed (cast z sign a at) = IsFixed a
  IsFixed (bin op a b at) = IsFixed a × IsFixed b × (joins op ≡ true → IsSilent b)

  abbrev pub AreFixed : List Term → Type 0
  AreFixed [] = Unit {0}
  AreFixed (t ∷ ts) = IsFixed t × AreFixed ts

  abbrev pub IsFixedLeft : Left → Type 0
  IsFixedLeft nothing = Unit {0}
  IsFixedLeft (scalar x) = IsScalar x
  IsFixedLeft (element x i) = IsArray x × IsFixed i
  IsFixedLeft (bytes p a) = IsFixed a

  abbrev pub AreFixedLefts : List Left → Type 0
  AreFixedLefts [] = Unit {0}
  AreFixedLefts (d ∷ ds) = IsFixedLeft d × AreFixedLefts ds

  abbrev pub IsFixedOperation : Operation → Type 0
  IsFixedOperation o = AreFixed (plain_of o).reads × AreFixedLefts (plain_of o).to

  abbrev pub IsFixedTest : Condition → Type 0
  IsFixedTest c = IsFixed (tested_by c)

  abbrev pub AreScalars : List Param → Type 0
  AreScalars [] = Unit {0}
  AreScalars (p ∷ ps) = IsScalar (ref_of p.var) × AreScalars ps
