-- The change that a value of the code stands for.
use Rattle.std.specs.Prelude.{List, [], ◌∷◌, map}
use Rattle.jz_change.specs.Changes as model
use Rattle.jz_change.specs.declared.change.Change.{Change}
use Rattle.jz_change.specs.declared.change.Step.{Step}
use Rattle.jz_change.specs.declared.change.Step.TheOpen.{Step-F, Change-F}
use Rattle.jz_change.specs.declared.change.Step.TheFolds.{fold-Step, fold-Change}

-- steps one after another, before what follows
abbrev pub chain : {A : Type 0} → List (A → A) → A → A
chain [] r = r
chain (f ∷ fs) r = f (chain fs r)

-- changes before others
abbrev pub changes_before : List model.Change → model.Changes → model.Changes
changes_before [] rest = rest
changes_before (t ∷ ts) rest = model.more t (changes_before ts rest)

-- one step, its parts not opened, before what follows
abbrev pub layer_change :
    Step-F (model.Change → model.Change) model.Change → model.Change → model.Change
layer_change (Step-F.Ops items) r = model.ops items r
layer_change (Step-F.If before test then_part else_part) r =
    model.stays_if before test then_part else_part r
layer_change (Step-F.Arm answer before part) r = model.arm answer before part r
layer_change (Step-F.While prologue before test body) r =
    model.stays_while prologue before test body r
layer_change (Step-F.Once prologue before) r = model.once prologue before r
layer_change (Step-F.For body) r = model.stays_for body r
layer_change (Step-F.Unrolled rounds) r = model.unrolled (changes_before rounds model.none) r
layer_change (Step-F.Opened arguments body results) r = model.opened arguments body results r

abbrev pub steps_change : Change-F (model.Change → model.Change) model.Change → model.Change
steps_change c = chain c.steps model.ends

-- a step before what follows
abbrev pub then_step : Step → model.Change → model.Change
then_step = fold-Step (model.Change → model.Change) model.Change layer_change steps_change

abbrev pub change_of : Change → model.Change
change_of = fold-Change (model.Change → model.Change) model.Change layer_change steps_change

-- a list of steps, or of changes
abbrev pub steps_of : List Step → model.Change
steps_of ss = chain (map then_step ss) model.ends

abbrev pub changes_of : List Change → model.Changes
changes_of cs = changes_before (map change_of cs) model.none
