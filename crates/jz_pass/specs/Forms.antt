-- The parts of a shape as the code asks for them.
use Rattle.std.specs.Prelude.{◌≡◌, List, ⊤}
use Rattle.jz_runs.specs.Trees.{Tree}
use Rattle.jz_change.specs.declared.change.Numbers.{Numbers}
use Rattle.jz_pass.specs.declared.form.Form.{Form}
use Rattle.jz_pass.specs.declared.form.Form.TheVariants as form
use Rattle.jz_pass.specs.Rewriting.{Rewriting, Shape, one, hidden, either, turns, other, OpBecomes, QuietBecomes, IfBecomes, WhileBecomes}

-- the kind of a shape
abbrev pub form_of : {O T St : Type 0} → Shape O T St → Form
form_of (one o) = form.Operation
form_of (hidden o) = form.Quiet
form_of (either p a b) = form.If
form_of (turns h q p b) = form.While
form_of other = form.Other

abbrev pub HasForm : {O T St : Type 0} → Shape O T St → Form → Type 0
HasForm shape f = form_of shape ≡ f

-- what a rule makes of a statement, where its shape is one for it

abbrev pub OperationMade :
    {O T O2 T2 F2 C2 St St2 : Type 0} → Rewriting O T O2 T2
    → (St2 → Tree O2 T2 F2 C2 → Tree O2 T2 F2 C2) → Shape O T St → List St2 → List Numbers
    → Type 0
OperationMade R before (one o) made items = OpBecomes R before o made items
OperationMade R before _ made items = ⊤

abbrev pub QuietMade :
    {O T O2 T2 F2 C2 St St2 : Type 0} → Rewriting O T O2 T2
    → (St2 → Tree O2 T2 F2 C2 → Tree O2 T2 F2 C2) → Shape O T St → List St2 → Type 0
QuietMade R before (hidden o) made = QuietBecomes R before o made
QuietMade R before _ made = ⊤

-- of what its arms have become, or its prologue and body
abbrev pub ChoiceMade :
    {O T O2 T2 F2 C2 St St2 : Type 0} → Rewriting O T O2 T2
    → (St2 → Tree O2 T2 F2 C2 → Tree O2 T2 F2 C2) → Shape O T St → List St2 → List St2
    → List St2 → List Numbers → Numbers → Type 0
ChoiceMade R before (either p a b) a2 b2 made items numbers =
    IfBecomes R before p a2 b2 made items numbers
ChoiceMade R before (turns h q p b) q2 b2 made items numbers =
    WhileBecomes R before h q2 p b2 made items numbers
ChoiceMade R before _ a2 b2 made items numbers = ⊤
