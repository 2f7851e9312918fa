-- What a transformer may show of the frame: the places of stack variables that the statement names.
use Rattle.std.specs.Prelude.{ℕ, suc, ◌+◌, ◌*◌, ℤ, ◌≤ℤ◌, ◌<ℤ◌, List, [], ◌∷◌, ◌++◌, map, flat_map, Contains, All, option_to_list, ⊤}
use Rattle.jz_words.specs.Sizes.{bytes_of}
use Rattle.x64_insn.specs.declared.types.Reg.{Reg}
use Rattle.jz_tree.specs.declared.expr.Expr.{Expr}
use Rattle.jz_tree.specs.declared.stmt.Lval.{Lval}
use Rattle.jz_tree.specs.declared.stmt.Lval.TheVariants as lval
use Rattle.jz_tree.specs.declared.expr.Expr.TheViews.{out-Access}
use Rattle.jz_tree.specs.declared.program.Fun.{Fun}
use Rattle.jz_tree.specs.declared.program.Program.{Program}
use Rattle.jz_runs.specs.Trees.{done, op, quiet, choose, loop, each, call}
use Rattle.jz_leak.specs.declared.transformer.Form.{Form}
use Rattle.jz_leak.specs.declared.transformer.Form.TheVariants as form
use Rattle.jz_leak.specs.declared.transformer.Out.{Out}
use Rattle.jz_leak.specs.declared.transformer.Out.TheVariants as out
use Rattle.jz_leak.specs.declared.transformer.Case.{Case}
use Rattle.jz_leak.specs.declared.transformer.Case.TheOpen.{Case-F}
use Rattle.jz_leak.specs.declared.transformer.Case.TheViews.{out-Case}
use Rattle.jz_leak.specs.Applying.{Layer}
use Rattle.jz_type_names.specs.Parts.{names_in}
use Rattle.jz_meaning.specs.Values.{ref_of}
use Rattle.jz_meaning.specs.Statements.{Operation, assign, instruction, Call, Block}
use Rattle.jz_pass.specs.Copying.{copies}
use Rattle.jz_frames.specs.Names.{Names}
use Rattle.jz_frames.specs.Calls.{names_of_callee}
use Rattle.jz_listing.specs.declared.compiled.Compiled.{Compiled}
use Rattle.jz_correct.specs.Frames.{saved_slots, from_entry}
use Rattle.jz_compiled.specs.Layout.{Name, Place, layout_end}

-- ---- names

-- the names in an expression, and those of a left side
abbrev pub expression_names : Expr → List (List ℕ)
expression_names e = map (λ n. n.0) (names_in e)

abbrev pub left_names : Lval → List (List ℕ)
left_names (lval.Skip at) = []
left_names (lval.Var v) = (ref_of v).name ∷ []
left_names (lval.Cell v e) = (ref_of v).name ∷ expression_names e
left_names (lval.Store a) = expression_names (out-Access a).at

-- those that a statement names
abbrev pub operation_names : Operation → List (List ℕ)
operation_names (assign to o e c at) =
    flat_map left_names to ++ expression_names e
    ++ flat_map expression_names (option_to_list c)
operation_names (instruction to n args at) =
    flat_map left_names to ++ flat_map expression_names args
operation_names other = []

-- those that a call names, and the parameters and results of what it calls
abbrev pub call_names : Names → Names → Call → List Name
call_names outer inner q =
    map outer (flat_map left_names q.to ++ flat_map expression_names q.args)
    ++ map inner
    (map (λ p. (ref_of p.var).name) q.callee.params ++ map (λ v. (ref_of v).name) q.callee.result)

-- ---- forms

module _ (places : List Place) (frame : ℕ) where
  -- an offset from the stack pointer at entry lies in the place of one of these variables
  abbrev pub LiesInPlace : List Name → ℤ → Type 0
  LiesInPlace names offset =
      (q : Place) × Contains places q × Contains names q.of.name
      × (from_entry frame q.offset ≤ℤ offset)
      × (offset <ℤ from_entry frame (q.offset + q.of.count * bytes_of q.of.cell))

  -- a form that counts from the stack pointer does so from a place of such a variable
  abbrev pub FormStaysIn : List Name → Form → Type 0
  FormStaysIn names (form.Num n) = ⊤
  FormStaysIn names (form.Leaked i) = ⊤
  FormStaysIn names (form.Frame offset) = LiesInPlace names offset
  FormStaysIn names (form.Indexed offset factor i) = LiesInPlace names offset

  -- each form of an event does, and of each event of a list
  abbrev pub OutStaysIn : List Name → Out → Type 0
  OutStaysIn names (out.Branch taken) = ⊤
  OutStaysIn names (out.Addr address) = FormStaysIn names address
  OutStaysIn names (out.Div high low divisor) =
      FormStaysIn names high × FormStaysIn names low × FormStaysIn names divisor

  abbrev pub OutsStayIn : List Name → List Out → Type 0
  OutsStayIn names outs = All (OutStaysIn names) outs

  -- ---- the lists of an item, and the trees of its parts

  abbrev pub OpStays : List Name → Layer → Type 0
  OpStays names (Case-F.Op outs) = OutsStayIn names outs
  OpStays names _ = ⊥

  abbrev pub IfStays :
      List Name → (List Case → Type 0) → (List Case → Type 0) → Layer → Type 0
  IfStays names ThenStays ElseStays (Case-F.If test then_outs then_tr else_outs else_tr) =
      OutsStayIn names test
      × OutsStayIn names then_outs
      × ThenStays then_tr.cases
      × OutsStayIn names else_outs
      × ElseStays else_tr.cases
  IfStays names ThenStays ElseStays _ = ⊥

  abbrev pub WhileStays :
      List Name → (List Case → Type 0) → (List Case → Type 0) → Layer → Type 0
  WhileStays names PrologueStays BodyStays
      (Case-F.While prologue test more_outs body leave_outs) =
      PrologueStays prologue.cases
      × OutsStayIn names test
      × OutsStayIn names more_outs
      × BodyStays body.cases
      × OutsStayIn names leave_outs
  WhileStays names PrologueStays BodyStays _ = ⊥

  abbrev pub ForStays : (List Case → Type 0) → Layer → Type 0
  ForStays RoundStays (Case-F.For trs) = All (λ t. RoundStays t.cases) trs
  ForStays RoundStays _ = ⊥

  abbrev pub CallStays : List Name → (List Case → Type 0) → Layer → Type 0
  CallStays names CalleeStays (Case-F.Call arguments body results) =
      OutsStayIn names arguments × CalleeStays body.cases × OutsStayIn names results
  CallStays names CalleeStays _ = ⊥

  -- an arm or a body of which nothing is left has no case
  abbrev pub IfThere : (List Case → Type 0) → List Case → Type 0
  IfThere Stays [] = ⊤
  IfThere Stays (x ∷ cs) = Stays (x ∷ cs)

  -- A case for each statement of a body, whose names stand for these variables (an array parameter
  -- for the array that is passed), and in which the next call has the number c: the offset of each form of the frame lies in the place of a stack variable
  -- that its statement names.
  abbrev pub CasesStayIn : Names → ℕ → Block → List Case → Type 0
  CasesStayIn named c done [] = ⊤
  CasesStayIn named c (op o r) (x ∷ cs) =
      OpStays (map named (operation_names o)) (out-Case x) × CasesStayIn named c r cs
  CasesStayIn named c (quiet o r) cs = CasesStayIn named c r cs
  CasesStayIn named c (choose t a b r) (x ∷ cs) =
      IfStays (map named (expression_names t.cond)) (IfThere (CasesStayIn named c a))
      (IfThere (CasesStayIn named (c + copies a) b)) (out-Case x)
      × CasesStayIn named (c + copies a + copies b) r cs
  CasesStayIn named c (loop q p t b r) (x ∷ cs) =
      WhileStays (map named (expression_names t.cond)) (CasesStayIn named c p)
      (IfThere (CasesStayIn named (c + copies p) b)) (out-Case x)
      × CasesStayIn named (c + copies p + copies b) r cs
  CasesStayIn named c (each f b r) (x ∷ cs) =
      ForStays (CasesStayIn named c b) (out-Case x) × CasesStayIn named (c + copies b) r cs
  CasesStayIn named c (call q b r) (x ∷ cs) =
      CallStays (call_names named (names_of_callee named c q) q)
      (CasesStayIn (names_of_callee named c q) (suc c) b) (out-Case x)
      × CasesStayIn named (suc c + copies b) r cs
  CasesStayIn _ _ _ _ = ⊥

-- ---- saved registers

-- the access to a slot of the frame
abbrev pub slot_access : ℕ → Reg × ℕ → Out
slot_access frame slot = out.Addr (form.Frame (from_entry frame slot.1))

-- the accesses of the prologue: one for each preserved register that is saved
abbrev pub saving_accesses : Program → Fun → Compiled → List Out
saving_accesses p f c = map (slot_access c.frame) (saved_slots (layout_end p f) c.saved)
