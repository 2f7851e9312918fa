-- Which export functions are safe, and the first alarm of one that is not.
use Rattle.std.specs.Prelude.{◌≡◌, ℕ, Bool, true, false, List, [], ◌∷◌, ◌++◌, All}
use Rattle.std.specs.Prelude.{codes, decimal, Option, Some, None}
use Rattle.jz_tree.specs.declared.program.Fun.{Fun}
use Rattle.jz_tree.specs.declared.program.Program.{Program}
use Rattle.jz_type_rows.specs.Exports.{is_exported}
use Rattle.jz_change.specs.Changes.{Change}
use Rattle.jasminc_expansions.specs.Expansions.{IsExpansion}
use Rattle.jz_preconditions.specs.Stating.{preconditions_of}
use Rattle.jz_alarms.specs.Conditions as conditions
use Rattle.jz_asked.specs.declared.alarms.Alarm.{Alarm}
use Rattle.jz_asked.specs.Asked.{alarm_of}
use Rattle.jz_first_alarm.specs.FirstAlarms.{HasFirstAlarm}

-- an expansion of the function f, with so many statements in expanded order, has this first alarm
-- under the preconditions of f, or none
pub record IsJudged (p : Program) (f : Fun) (count : ℕ) (w : Option conditions.Alarm) : Type 0 where
  pub expanded : Fun
  pub change : Change
  pub expansion : IsExpansion p f expanded change count
  pub first : HasFirstAlarm expanded (preconditions_of f) w

abbrev pub IsSafe : Program → Fun → ℕ → Type 0
IsSafe p f n = IsJudged p f n None

abbrev pub SafeIfExported : Program → Fun → Type 0
SafeIfExported p f = is_exported f.kind ≡ true → (n : ℕ) × IsSafe p f n

-- of the export functions the first that is not safe has this alarm first
pub record HasAlarm (p : Program) (a : Alarm) : Type 0 where
  pub front : List Fun
  pub function : Fun
  pub rest : List Fun
  pub split : p.funs ≡ front ++ function ∷ rest
  pub earlier : All (SafeIfExported p) front
  pub exported : is_exported function.kind ≡ true
  pub count : ℕ
  pub judged : IsJudged p function count (Some (alarm_of a))

-- ---- the text of what is safe

abbrev pub safe_line : Fun → ℕ → List ℕ
safe_line f n = codes "safe " ++ f.name ++ codes " " ++ decimal n ++ codes "\n"

-- the line of a function, if it is exported, before the rest of a text
abbrev pub SafeLine : Bool → Program → Fun → (List ℕ → Type 0) → List ℕ → Type 0
SafeLine true p f Rest text =
    (n : ℕ) × IsSafe p f n × (rest : List ℕ) × (text ≡ safe_line f n ++ rest) × Rest rest
SafeLine false p f Rest text = Rest text

-- each export function is safe, and this is a line for each of them in their order
abbrev pub AreSafe : Program → List Fun → List ℕ → Type 0
AreSafe p [] text = text ≡ []
AreSafe p (f ∷ fs) text = SafeLine (is_exported f.kind) p f (AreSafe p fs) text
