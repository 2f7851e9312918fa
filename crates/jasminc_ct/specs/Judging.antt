-- Which export functions are constant time, and the first breach of one that is not.
use Rattle.std.specs.Prelude.{◌≡◌, ℕ, Bool, true, false, List, [], ◌∷◌, ◌++◌}
use Rattle.std.specs.Prelude.{All, codes, Option, Some}
use Rattle.jz_tree.specs.declared.program.Fun.{Fun}
use Rattle.jz_tree.specs.declared.program.Program.{Program}
use Rattle.jz_type_rows.specs.Exports.{is_exported}
use Rattle.jz_change.specs.Changes.{Change}
use Rattle.jasminc_expansions.specs.Expansions.{IsExpansion}
use Rattle.jz_labels.specs.Required.{Breach}
use Rattle.jz_ct.specs.Told.{breach_of, IsConstantTime, HasFirstBreach}
use Rattle.jasminc_ct.specs.declared.breaches.FunBreach.{FunBreach}

-- some labels of an expansion of the function f meet the rules
pub record IsConstant (p : Program) (f : Fun) : Type 0 where
  pub expanded : Fun
  pub change : Change
  pub count : ℕ
  pub expansion : IsExpansion p f expanded change count
  pub constant : IsConstantTime expanded

-- an expansion of the function f has this first breach, or none
pub record IsJudged (p : Program) (f : Fun) (w : Option Breach) : Type 0 where
  pub expanded : Fun
  pub change : Change
  pub count : ℕ
  pub expansion : IsExpansion p f expanded change count
  pub first : HasFirstBreach expanded w

abbrev pub ConstantIfExported : Program → Fun → Type 0
ConstantIfExported p f = is_exported f.kind ≡ true → IsConstant p f

-- of the export functions the first that is not constant time is this one, and this is its first
-- breach
pub record HasBreach (p : Program) (x : FunBreach) : Type 0 where
  pub front : List Fun
  pub function : Fun
  pub rest : List Fun
  pub split : p.funs ≡ front ++ function ∷ rest
  pub earlier : All (ConstantIfExported p) front
  pub exported : is_exported function.kind ≡ true
  pub named : x.fun ≡ function.name
  pub judged : IsJudged p function (Some (breach_of x.breach))

-- ---- the text of what is constant time

abbrev pub yes_line : Fun → List ℕ
yes_line f = codes "ct " ++ f.name ++ codes " yes\n"

-- the line of a function, if it is exported, before the rest of a text
abbrev pub YesLine : Bool → Program → Fun → (List ℕ → Type 0) → List ℕ → Type 0
YesLine true p f Rest text =
    IsConstant p f × (rest : List ℕ) × (text ≡ yes_line f ++ rest) × Rest rest
YesLine false p f Rest text = Rest text

-- each export function is constant time, and this is a line for each of them in their order
abbrev pub AreConstant : Program → List Fun → List ℕ → Type 0
AreConstant p [] text = text ≡ []
AreConstant p (f ∷ fs) text = YesLine (is_exported f.kind) p f (AreConstant p fs) text
