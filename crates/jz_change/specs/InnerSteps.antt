-- What loops over steps keep.
use Rattle.std.specs.Prelude.{ℕ, ◌≡◌, Bool, true, false, List, [], ◌++◌, map, drop}
use Rattle.jz_leak.specs.declared.transformer.Tr.{Tr}
use Rattle.jz_leak.specs.declared.transformer.Case.{Case}
use Rattle.jz_change.specs.declared.change.Numbers.{Numbers}
use Rattle.jz_change.specs.declared.change.Change.{Change as CodeChange}
use Rattle.jz_change.specs.declared.change.Step.{Step}
use Rattle.jz_change.specs.declared.change.Step.TheOpen.{Step-F}
use Rattle.jz_change.specs.declared.change.Step.TheViews.{out-Step}
use Rattle.jz_change.specs.Changes.{Change, ops}
use Rattle.jz_change.specs.Composing.{JoinedChange, JoinedRounds, add_step, join_if, join}
use Rattle.jz_change.specs.Flattening.{FlatCases, FlatRounds, add_case, flat}
use Rattle.jz_change.specs.Views.{chain, changes_before, then_step, change_of, steps_of}

-- ---- kinds of steps

abbrev pub keeps_if : Step-F Step CodeChange → Bool
keeps_if (Step-F.If before test then_part else_part) = true
keeps_if _ = false

-- an `if` stays one
abbrev pub KeepsIf : Step → Type 0
KeepsIf s = keeps_if (out-Step s) ≡ true

abbrev pub keeps_while : Step-F Step CodeChange → Bool
keeps_while (Step-F.While prologue before test body) = true
keeps_while _ = false

-- a `while` stays one
abbrev pub KeepsWhile : Step → Type 0
KeepsWhile s = keeps_while (out-Step s) ≡ true

-- ---- cases

-- what a step makes of the first cases, whatever follows
abbrev pub GivesCase : Step → List Case → Case → List Case → Type 0
GivesCase s b c b2 = (r : Change) → flat (then_step s r) b ≡ add_case c (flat r b2)

abbrev pub cases_and : List Case → List Case → FlatCases
cases_and cs b = record { cases = cs; rest = b }

abbrev pub cases_before : List Case → FlatCases → FlatCases
cases_before cs f = record { cases = cs ++ f.cases; rest = f.rest }

abbrev pub trees_before : List Tr → FlatRounds → FlatRounds
trees_before ts f = record { trs = ts ++ f.trs; rest = f.rest }

-- ---- steps

-- what a step makes of the first steps of another change, whatever follows
abbrev pub GivesStep : Step → Change → Step → Change → Type 0
GivesStep s b c b2 = (r : Change) → join (then_step s r) b ≡ add_step (then_step c) (join r b2)

-- an `if` whose operations became these, by the steps behind them, before what follows
abbrev pub joined_if : Step-F Step CodeChange → List Numbers → Change → Change → Change
joined_if (Step-F.If before test then_part else_part) items b r =
    join_if items test (join (change_of then_part)) (join (change_of else_part)) b r
joined_if _ items b r = ops [] r

-- what it makes of the first of those steps, whatever follows
abbrev pub GivesIf : Step → List Numbers → Step → Step → Type 0
GivesIf s items second c =
    (b r : Change) → then_step c r ≡ joined_if (out-Step s) items (then_step second b) r

abbrev pub steps_and : List Step → Change → JoinedChange
steps_and ss b = record { change = steps_of ss; rest = b }

abbrev pub steps_before : List Step → JoinedChange → JoinedChange
steps_before ss j = record { change = chain (map then_step ss) j.change; rest = j.rest }

abbrev pub rounds_before : List CodeChange → JoinedRounds → JoinedRounds
rounds_before cs j = record {
  changes = changes_before (map change_of cs) j.changes;
  rest = j.rest;
}

-- the same of lists and places in them
abbrev pub GivesCaseAt : Step → List Case → ℕ → Case → ℕ → Type 0
GivesCaseAt s cs at c to = GivesCase s (drop at cs) c (drop to cs)

abbrev pub GivesStepAt : Step → List Step → ℕ → Step → ℕ → Type 0
GivesStepAt s ss at c to = GivesStep s (steps_of (drop at ss)) c (steps_of (drop to ss))
