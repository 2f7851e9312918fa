-- Lists of cases beside items: what each list of events has to be by what is known of its item.
use Rattle.std.specs.Prelude.{List, [], ◌∷◌, All, ⊤}
use Rattle.jz_leak.specs.declared.transformer.Out.{Out}
use Rattle.jz_leak.specs.declared.transformer.Case.{Case}
use Rattle.jz_leak.specs.declared.transformer.Case.TheVariants.{Op}
use Rattle.jz_leak.specs.declared.transformer.Case.TheOpen.{Case-F}
use Rattle.jz_leak.specs.declared.transformer.Case.TheViews.{out-Case}
use Rattle.jz_leak.specs.Applying.{Layer}
use Rattle.jz_case_names.specs.Items.{Items, no_item, op_item, if_item, while_item, for_item, call_item}

-- an arm or a body of which nothing is left has no case
abbrev pub IfAny : (List Case → Type 0) → List Case → Type 0
IfAny Has [] = ⊤
IfAny Has (x ∷ cs) = Has (x ∷ cs)

module _ {A : Type 0} (Suits : A → List Out → Type 0) where
  abbrev pub OpSuits : A → Case → Type 0
  OpSuits a (Op outs) = Suits a outs
  OpSuits a _ = ⊥

  abbrev pub IfSuits : A → (List Case → Type 0) → (List Case → Type 0) → Layer → Type 0
  IfSuits a Then Else (Case-F.If test then_outs then_tr else_outs else_tr) =
      Suits a test × Suits a then_outs × Then then_tr.cases × Suits a else_outs
      × Else else_tr.cases
  IfSuits a Then Else _ = ⊥

  abbrev pub WhileSuits : A → (List Case → Type 0) → (List Case → Type 0) → Layer → Type 0
  WhileSuits a Prologue Body (Case-F.While prologue test more_outs body leave_outs) =
      Prologue prologue.cases × Suits a test × Suits a more_outs × Body body.cases
      × Suits a leave_outs
  WhileSuits a Prologue Body _ = ⊥

  abbrev pub ForSuits : (List Case → Type 0) → Layer → Type 0
  ForSuits Round (Case-F.For trs) = All (λ t. Round t.cases) trs
  ForSuits Round _ = ⊥

  abbrev pub CallSuits : A → (List Case → Type 0) → Layer → Type 0
  CallSuits a Callee (Case-F.Call arguments body results) =
      Suits a arguments × Callee body.cases × Suits a results
  CallSuits a Callee _ = ⊥

  -- a case for each item
  abbrev pub AreCases : Items A → List Case → Type 0
  AreCases no_item [] = ⊤
  AreCases (op_item a X) (x ∷ cs) = OpSuits a x × AreCases X cs
  AreCases (if_item a XA XB X) (x ∷ cs) =
      IfSuits a (AreCases XA) (AreCases XB) (out-Case x) × AreCases X cs
  AreCases (while_item a XP XB X) (x ∷ cs) =
      WhileSuits a (AreCases XP) (AreCases XB) (out-Case x) × AreCases X cs
  AreCases (for_item XB X) (x ∷ cs) = ForSuits (AreCases XB) (out-Case x) × AreCases X cs
  AreCases (call_item a XB X) (x ∷ cs) = CallSuits a (AreCases XB) (out-Case x) × AreCases X cs
  AreCases _ _ = ⊥

  -- a case for each item that is left
  abbrev pub AreLeft : Items A → List Case → Type 0
  AreLeft no_item [] = ⊤
  AreLeft (op_item a X) (x ∷ cs) = OpSuits a x × AreLeft X cs
  AreLeft (if_item a XA XB X) (x ∷ cs) =
      IfSuits a (IfAny (AreLeft XA)) (IfAny (AreLeft XB)) (out-Case x) × AreLeft X cs
  AreLeft (while_item a XP XB X) (x ∷ cs) =
      WhileSuits a (AreLeft XP) (IfAny (AreLeft XB)) (out-Case x) × AreLeft X cs
  AreLeft (for_item XB X) (x ∷ cs) = ForSuits (AreLeft XB) (out-Case x) × AreLeft X cs
  AreLeft (call_item a XB X) (x ∷ cs) = CallSuits a (AreLeft XB) (out-Case x) × AreLeft X cs
  AreLeft _ _ = ⊥
