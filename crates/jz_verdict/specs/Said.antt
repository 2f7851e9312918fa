-- What a listing says of a function about constant time.
use Rattle.std.specs.Prelude.{◌≡◌, ℕ, List, codes, Some}
use Rattle.jz_io.specs.declared.verdict.Ct.{Ct}
use Rattle.jz_io.specs.declared.verdict.Ct.TheVariants as ct
use Rattle.jz_io.specs.declared.verdict.CtKind.{CtKind}
use Rattle.jz_io.specs.declared.verdict.CtKind.TheVariants as kind
use Rattle.jz_tree.specs.declared.program.Fun.{Fun}
use Rattle.jz_tree.specs.declared.program.Program.{Program}
use Rattle.jz_variable_text.specs.Variables.{variable_text}
use Rattle.jz_change.specs.Changes.{Change}
use Rattle.jz_ct.specs.Expansions.{IsExpansion}
use Rattle.jz_labels.specs.Labels.{Secret, named, memory}
use Rattle.jz_labels.specs.Required.{Reason, Branch, Address, Divide, Breach}
use Rattle.jz_ct.specs.Told.{IsConstantTime, HasFirstBreach}

-- a variable, or `mem`
abbrev pub secret_text : Secret → List ℕ
secret_text (named name cell) = variable_text name cell
secret_text memory = codes "mem"

abbrev pub reason_of : CtKind → Reason
reason_of kind.Branch = Branch
reason_of kind.Address = Address
reason_of kind.Divide = Divide

-- it is listed as this breach
abbrev pub IsListedOf : Breach → Ct → Type 0
IsListedOf b ct.Yes = ⊥
IsListedOf b (ct.No at why var) =
    (at ≡ b.span) × (reason_of why ≡ b.why) × (var ≡ secret_text b.secret)

-- of an expanded function: some labels meet the rules; or this is its first breach
abbrev pub IsSaidOf : Fun → Ct → Type 0
IsSaidOf g ct.Yes = IsConstantTime g
IsSaidOf g (ct.No at why var) =
    (x : Secret) × (var ≡ secret_text x)
    × HasFirstBreach g (Some (record { span = at; why = reason_of why; secret = x }))

-- of a function of a program: that of an expansion
pub record IsSaid (p : Program) (f : Fun) (said : Ct) : Type 0 where
  pub expanded : Fun
  pub change : Change
  pub count : ℕ
  pub expansion : IsExpansion p f expanded change count
  pub said_of : IsSaidOf expanded said
