-- What a listing tells of a function to its callers.
use Rattle.std.specs.Prelude.{◌≡◌, ℕ, List, [], ◌∷◌, map, ⊤}
use Rattle.x64_insn.specs.declared.types.Reg.{Reg}
use Rattle.jz_tree.specs.declared.expr.Var.{Var}
use Rattle.jz_tree.specs.declared.program.Fun.{Fun}
use Rattle.jz_tree.specs.declared.program.Param.{Param}
use Rattle.jz_tree.specs.declared.program.Ret.{Ret}
use Rattle.jz_meaning.specs.declared.access.Kind.{Kind}
use Rattle.jz_meaning.specs.declared.access.Kind.TheVariants as kind
use Rattle.jz_meaning.specs.Values.{ref_of, declared_kind}
use Rattle.jz_annotations.specs.declared.precondition.Pre as declared
use Rattle.jz_annotations.specs.declared.precondition.Pre.TheVariants.{Region, Range, Align}
use Rattle.jz_preconditions.specs.Stating.{preconditions_of}
use Rattle.jz_listing.specs.declared.compiled.Arg.{Arg}
use Rattle.jz_listing.specs.declared.compiled.Pre.{Pre}
use Rattle.jz_listing.specs.declared.compiled.Pre.TheVariants as pre

-- a line for a word of this name, in this register
abbrev pub IsLineOf : List ℕ → Kind → Reg → Arg → Type 0
IsLineOf name k r a = (a.name ≡ name) × (k ≡ kind.Word a.size) × (a.reg ≡ r)

-- a line for each parameter, in the order of the text and of the registers
abbrev pub AreArgumentLines : List Reg → List Param → List Arg → Type 0
AreArgumentLines rs [] [] = ⊤
AreArgumentLines (r ∷ rs) (p ∷ ps) (a ∷ args) =
    IsLineOf (ref_of p.var).name (ref_of p.var).kind r a × AreArgumentLines rs ps args
AreArgumentLines _ _ _ = ⊥

-- a line for each result, with the declared type
abbrev pub AreResultLines : List Reg → List Var → List Ret → List Arg → Type 0
AreResultLines rs [] [] [] = ⊤
AreResultLines (r ∷ rs) (v ∷ vs) (t ∷ ts) (a ∷ args) =
    IsLineOf (ref_of v).name (declared_kind t.decl) r a × AreResultLines rs vs ts args
AreResultLines _ _ _ _ = ⊥

-- a precondition as it is listed
abbrev pub listed : declared.Pre → Pre
listed (Region p factor v constant) = pre.Region p factor v constant
listed (Range x low high) = pre.Range x low high
listed (Align p multiple) = pre.Align p multiple

-- those of a function, in the order of its text
abbrev pub listed_preconditions : Fun → List Pre
listed_preconditions f = map listed (preconditions_of f)
