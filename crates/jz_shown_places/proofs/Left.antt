-- Cases of named items are what is asked of a transformer.
use Rattle.std.proofs.Common.{ℕ, suc, ◌+◌, List, [], ◌∷◌, map, sym, ap, ◌∙◌, subst}
use Rattle.std.proofs.lemmas.List.Elements.{All-weaker}
use Rattle.jz_leak.specs.declared.transformer.Out.{Out}
use Rattle.jz_leak.specs.declared.transformer.Tr.{Tr}
use Rattle.jz_leak.specs.declared.transformer.Case.{Case}
use Rattle.jz_leak.specs.declared.transformer.Case.TheVariants as case
use Rattle.jz_leak.specs.declared.transformer.Case.TheVariants.{Op}
use Rattle.jz_leak.specs.declared.transformer.Case.TheOpen.{Case-F}
use Rattle.jz_leak.specs.declared.transformer.Case.TheViews.{out-Case, out-roll-Case}
use Rattle.jz_leak.specs.Applying.{Layer}
use Rattle.jz_runs.specs.Trees.{done, op, quiet, choose, loop, each, call}
use Rattle.jz_meaning.specs.Statements.{Block}
use Rattle.jz_pass.specs.Copying.{copies}
use Rattle.jz_inline.specs.Names.{Names}
use Rattle.jz_inline.specs.Calls.{names_of_callee}
use Rattle.jz_compiled.specs.Layout.{Name, Place}
use Rattle.jz_compiled.specs.Showing.{expression_names, operation_names, call_names, OutsStayIn, OpStays, IfStays, WhileStays, ForStays, CallStays, IfThere, CasesStayIn}
use Rattle.jz_case_names.specs.Listed.{IfAny, OpSuits, IfSuits, WhileSuits, ForSuits, CallSuits, AreLeft}
use Rattle.jz_item_names.specs.Names.{named_items}

module _ (places : List Place) (frame : ℕ) where
  abbrev S : List Name → List Out → Type 0
  S = OutsStayIn places frame

  there : (Has Stays : List Case → Type 0) (cs : List Case) → ((ds : List Case) → Has ds → Stays ds) → IfAny Has cs → IfThere places frame Stays cs
  there Has Stays [] go h = tt
  there Has Stays (c ∷ cs) go h = go (c ∷ cs) h

  op_stays : (a : List Name) (x : Case) → OpSuits S a x → OpStays places frame a (out-Case x)
  op_stays a (Op outs) h = subst (OpStays places frame a) (sym (ap out-Case (sym (case.rolls-Op outs)) ∙ out-roll-Case (Case-F.Op outs))) h
  op_stays a _ h = absurd h

  if_stays : (a : List Name) (HA HB SA SB : List Case → Type 0) (v : Layer) → ((ds : List Case) → HA ds → SA ds) → ((ds : List Case) → HB ds → SB ds) → IfSuits S a (IfAny HA) (IfAny HB) v → IfStays places frame a (IfThere places frame SA) (IfThere places frame SB) v
  if_stays a HA HB SA SB (Case-F.If test then_outs then_tr else_outs else_tr) f g h = (h.0, h.1, there HA SA then_tr.cases f h.2, h.3, there HB SB else_tr.cases g h.4)
  if_stays a HA HB SA SB _ f g h = absurd h

  while_stays : (a : List Name) (HP HB SP SB : List Case → Type 0) (v : Layer) → ((ds : List Case) → HP ds → SP ds) → ((ds : List Case) → HB ds → SB ds) → WhileSuits S a HP (IfAny HB) v → WhileStays places frame a SP (IfThere places frame SB) v
  while_stays a HP HB SP SB (Case-F.While prologue test more_outs body leave_outs) f g h = (f prologue.cases h.0, h.1, h.2, there HB SB body.cases g h.3, h.4)
  while_stays a HP HB SP SB _ f g h = absurd h

  for_stays : (H T : List Case → Type 0) (v : Layer) → ((ds : List Case) → H ds → T ds) → ForSuits S H v → ForStays places frame T v
  for_stays H T (Case-F.For trs) f h = All-weaker (λ (t : Tr). H t.cases) (λ (t : Tr). T t.cases) (λ t k. f t.cases k) trs h
  for_stays H T _ f h = absurd h

  call_stays : (a : List Name) (H T : List Case → Type 0) (v : Layer) → ((ds : List Case) → H ds → T ds) → CallSuits S a H v → CallStays places frame a T v
  call_stays a H T (Case-F.Call arguments body results) f h = (h.0, f body.cases h.1, h.2)
  call_stays a H T _ f h = absurd h

  pub stays : (b : Block) (named : Names) (c : ℕ) (cs : List Case) → AreLeft S (named_items named c b) cs → CasesStayIn places frame named c b cs
  stays done named c [] h = tt
  stays done named c (x ∷ cs) h = absurd h
  stays (op o r) named c [] h = absurd h
  stays (op o r) named c (x ∷ cs) h = (op_stays (map named (operation_names o)) x h.0, stays r named c cs h.1)
  stays (quiet o r) named c cs h = stays r named c cs h
  stays (choose t a b r) named c [] h = absurd h
  stays (choose t a b r) named c (x ∷ cs) h = (
    if_stays (map named (expression_names t.cond)) (AreLeft S (named_items named c a)) (AreLeft S (named_items named (c + copies a) b)) (CasesStayIn places frame named c a) (CasesStayIn places frame named (c + copies a) b) (out-Case x)
        (λ ds k. stays a named c ds k) (λ ds k. stays b named (c + copies a) ds k) h.0,
    stays r named (c + copies a + copies b) cs h.1,
  )
  stays (loop q p t b r) named c [] h = absurd h
  stays (loop q p t b r) named c (x ∷ cs) h = (
    while_stays (map named (expression_names t.cond)) (AreLeft S (named_items named c p)) (AreLeft S (named_items named (c + copies p) b)) (CasesStayIn places frame named c p) (CasesStayIn places frame named (c + copies p) b) (out-Case x)
        (λ ds k. stays p named c ds k) (λ ds k. stays b named (c + copies p) ds k) h.0,
    stays r named (c + copies p + copies b) cs h.1,
  )
  stays (each f b r) named c [] h = absurd h
  stays (each f b r) named c (x ∷ cs) h = (
    for_stays (AreLeft S (named_items named c b)) (CasesStayIn places frame named c b) (out-Case x) (λ ds k. stays b named c ds k) h.0,
    stays r named (c + copies b) cs h.1,
  )
  stays (call q b r) named c [] h = absurd h
  stays (call q b r) named c (x ∷ cs) h =
      let y = names_of_callee named c q in (
        call_stays (call_names named y q) (AreLeft S (named_items y (suc c) b)) (CasesStayIn places frame y (suc c) b) (out-Case x) (λ ds k. stays b y (suc c) ds k) h.0,
        stays r named (suc c + copies b) cs h.1,
      )
