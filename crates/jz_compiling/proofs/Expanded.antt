-- A compiled function beside the function of the text.
use Rattle.std.proofs.Common.{◌≡◌, ℕ, zero, suc, ◌<◌, List, [], ◌∷◌, ◌++◌, map, length, get_or, All, Contains, None, refl, sym, ap, ◌∙◌, subst, arith}
use Rattle.std.specs.Prelude.{slice_get}
use Rattle.std.specs.List.{AllZip}
use Rattle.std.proofs.Math.Path.{fun_ext}
use Rattle.std.proofs.lemmas.List.Elements.{All-head, All-tail}
use Rattle.jz_words.specs.declared.size.Size.{Size}
use Rattle.x64_insn.specs.declared.types.Reg.{Reg}
use Rattle.jz_tree.specs.declared.expr.Var.{Var}
use Rattle.jz_tree.specs.declared.program.Fun.{Fun}
use Rattle.jz_tree.specs.declared.program.Param.{Param}
use Rattle.jz_tree.specs.declared.program.Program.{Program}
use Rattle.jz_tree.specs.declared.program.Ret.{Ret}
use Rattle.jz_type_names.specs.Scopes.{variables_of}
use Rattle.jz_meaning.specs.declared.access.Kind.{Kind}
use Rattle.jz_meaning.specs.declared.access.Kind.TheVariants as kind
use Rattle.jz_meaning.specs.Values.{ref_of, declared_kind}
use Rattle.jz_meaning.specs.Statements as statements
use Rattle.jz_runs.specs.Rules.{Goes}
use Rattle.jz_ir.specs.Places.{place_at}
use Rattle.jz_operations.specs.declared.operation.Stacked.{Stacked}
use Rattle.jz_operations.specs.Rows.{Frame}
use Rattle.jz_placing.specs.Variables.{variables}
use Rattle.jz_change.specs.Changes.{Change}
use Rattle.jz_change.specs.Views.{change_of}
use Rattle.jz_pass.specs.Laws.{Carries}
use Rattle.jz_function_runs.specs.FunctionRuns.{plain_body}
use Rattle.jz_place.specs.Bodies as ir
use Rattle.jz_homes.specs.Homes.{Homes, IsHoming}
use Rattle.jz_every_row.specs.Bodies.{beside}
use Rattle.jz_lowering.specs.Tables as homing
use Rattle.jz_lowering.specs.Tables.{no_homes}
use Rattle.jz_lowering.proofs.EntryLemmas.{none_entered, all_entered}
use Rattle.jz_lowering.proofs.HomingLemmas.{table_is_homing}
use Rattle.jz_signature.specs.Declared.{Differ, AreDeclared, held_of, kept_of}
use Rattle.jz_signature.specs.DeclaredLaws.{IsOfDeclarations}
use Rattle.jz_signature.proofs.Places.{of_declarations}
use Rattle.jz_lowering.specs.Functions.{table_of, homes_for}
use Rattle.jz_listing.specs.declared.compiled.Arg.{Arg}
use Rattle.jz_listing.specs.declared.compiled.Compiled.{Compiled}
use Rattle.jz_correct.specs.Registers.{argument_registers, result_registers}
use Rattle.jz_linear.specs.LineRuns.{at_place}
use Rattle.jz_stack.specs.Laying as laying
use Rattle.jz_compiled.specs.Lines.{AreArgumentLines, AreResultLines, listed_preconditions}
use Rattle.jz_compiled.specs.Matching.{CarriesOver}
use Rattle.jz_signature.proofs.Sized.{sized}
use Rattle.jz_joined.specs.Making.{HaveSizes, IsListedAs, IsExpandedTo, IsNeverStuck, IsLoweredTo, IsMade}
use Rattle.jz_joined.proofs.Joining.{carries}
use Rattle.jz_compiling.specs.Made.{IsMadeOf, KeepsHead, IsUsed, HasPlainHead}
use Rattle.jz_compiling.proofs.Needs.{needs_met}

-- ---- the frame by numbers
place_same : (ss : List Stacked) (v : ℕ) → slice_get ss v ≡ at_place ss v
place_same [] v = refl
place_same (s ∷ ss) zero = refl
place_same (s ∷ ss) (suc v) = place_same ss v

frames_same : (ss : List Stacked) → homing.frame_of ss ≡ laying.frame_of ss
frames_same ss = fun_ext (place_same ss)

-- ---- sizes
module _ (g : Fun) (home : Homes) (differ : Differ (variables_of g)) (are : AreDeclared (held_of g) (kept_of g) home) where
  same_words : (k : Kind) (z y : Size) → k ≡ kind.Word z → k ≡ kind.Word y → z ≡ y
  same_words k z y e h = let s : kind.Word z ≡ kind.Word y = sym e ∙ h in cc

  pub param_sizes : (rs : List Reg) (ps : List Param) (args : List Arg) → ((q : Param) → Contains ps q → Contains (variables_of g) q.var) → All (λ (q : Param). (ref_of q.var).cell ≡ None) ps → AreArgumentLines rs ps args → HaveSizes home (map (λ q. q.var) ps) args
  param_sizes rs [] [] among whole lines = tt
  param_sizes [] [] (a ∷ args) among whole lines = absurd lines
  param_sizes (r ∷ rs) [] (a ∷ args) among whole lines = absurd lines
  param_sizes [] (q ∷ ps) args among whole lines = absurd lines
  param_sizes (r ∷ rs) (q ∷ ps) [] among whole lines = absurd lines
  param_sizes (r ∷ rs) (q ∷ ps) (a ∷ args) among whole lines = (
    λ n z e. same_words (ref_of q.var).kind z a.size (sized g home differ are q.var q.var (among q (0, omega arith, refl)) (record { name = refl; copy = refl; kind = refl; whole = All-head (λ (u : Param). (ref_of u.var).cell ≡ None) q ps whole }) n z e) lines.0.1,
    param_sizes rs ps args (λ u i. among u (suc i.0, omega (arith, i.1), i.2)) (All-tail (λ (u : Param). (ref_of u.var).cell ≡ None) q ps whole) lines.1,
  )

  pub result_sizes : (rs : List Reg) (xs : List Var) (ts : List Ret) (rets : List Arg) → All (IsUsed g) xs → AllZip (λ x t. (ref_of x).kind ≡ declared_kind t.decl) xs ts → AreResultLines rs xs ts rets → HaveSizes home xs rets
  result_sizes rs [] [] [] whole kinds lines = tt
  result_sizes [] [] [] (a ∷ rets) whole kinds lines = absurd lines
  result_sizes (r ∷ rs) [] [] (a ∷ rets) whole kinds lines = absurd lines
  result_sizes rs [] (t ∷ ts) rets whole kinds lines = absurd kinds
  result_sizes rs (x ∷ xs) [] rets whole kinds lines = absurd kinds
  result_sizes [] (x ∷ xs) (t ∷ ts) rets whole kinds lines = absurd lines
  result_sizes (r ∷ rs) (x ∷ xs) (t ∷ ts) [] whole kinds lines = absurd lines
  result_sizes (r ∷ rs) (x ∷ xs) (t ∷ ts) (a ∷ rets) whole kinds lines =
      let w = All-head (IsUsed g) x xs whole in (
        λ n z e. same_words (ref_of x).kind z a.size (sized g home differ are w.variable x w.among w.is n z e) (kinds.0 ∙ lines.0.1),
        result_sizes rs xs ts rets (All-tail (IsUsed g) x xs whole) kinds.1 lines.1,
      )

-- ---- the whole
behind_one : (x : Var) (xs : List Var) (y : Var) → Contains xs y → Contains (x ∷ xs) y
behind_one x xs y h = (suc h.0, omega (arith, h.1), h.2)

pub first_of : (ps : List Param) (vs : List Var) (k : ℕ) (q : Param) → k < length ps → get_or ps k q ≡ q → Contains (map (λ u. u.var) ps ++ vs) q.var
first_of [] vs k q lt e = absurd (omega (arith, lt))
first_of (p ∷ ps) vs zero q lt e = (0, omega arith, ap (λ (u : Param). u.var) e)
first_of (p ∷ ps) vs (suc k) q lt e = behind_one p.var (map (λ u. u.var) ps ++ vs) q.var (first_of ps vs k q (omega (arith, lt)) e)

module _ (p : Program) (f g : Fun) (k : Change) (c : Compiled) (of_program : Contains p.funs f) (head : KeepsHead f g) (expansion : IsExpandedTo p f g k) (m : IsMadeOf g k c) (plain : HasPlainHead g) (safe : IsNeverStuck f g c) where
  pub declared : IsOfDeclarations g (table_of g)
  declared = of_declarations g plain.differ

  homing_is : IsHoming (homing.frame_of m.lowered.stack) (homes_for g)
  homing_is = subst (λ s. IsHoming (homing.frame_of s) (homes_for g)) (sym m.is_lowered.stack) (table_is_homing (table_of g) (all_entered no_homes (variables_of g) none_entered))

  pub listed : IsListedAs f c
  listed = record {
    args = subst (λ ps. AreArgumentLines argument_registers ps c.args) head.params m.args;
    rets = subst (λ xs. AreResultLines result_registers xs f.rets c.rets) head.result (subst (λ ts. AreResultLines result_registers g.result ts c.rets) head.rets m.rets);
    pre = m.pre ∙ ap (λ ps. listed_preconditions (record g { params = ps })) head.params ∙ ap (λ ns. listed_preconditions (record g { params = f.params; notes = ns })) head.notes;
  }

  pub lowering : IsLoweredTo g (homes_for g) m.lowered.ir m.lowered.stack (change_of m.lowered.change)
  lowering = record {
    homing = subst (λ fr. IsHoming fr (homes_for g)) (frames_same m.lowered.stack) homing_is;
    made = m.is_lowered.lowered;
    carries = subst (λ (fr : Frame). Carries (beside (homes_for g)) (λ s n. Goes statements.source (plain_body g) n s) (λ σ n. Goes (variables fr) (ir.body_of m.lowered.ir.body) n σ) (change_of m.lowered.change)) (frames_same m.lowered.stack)
        (m.keeps (λ v. place_at m.is_code.places v) (needs_met m.lowered.ir m.is_code.places m.ready m.is_code.rule));
  }

  abbrev pub made : IsMade p f c
  made = record {
    of_program = of_program;
    listed = listed;
    expanded = g;
    first = k;
    expansion = expansion;
    safe = safe;
    home = homes_for g;
    body = m.lowered.ir;
    stack = m.lowered.stack;
    second = change_of m.lowered.change;
    lowering = lowering;
    params = subst (λ ps. HaveSizes (homes_for g) (map (λ (q : Param). q.var) ps) c.args) head.params
        (param_sizes g (homes_for g) plain.differ declared.homes argument_registers g.params c.args (λ q i. first_of g.params g.vars i.0 q i.1 i.2) plain.params m.args);
    results = subst (λ xs. HaveSizes (homes_for g) xs c.rets) head.result
        (result_sizes g (homes_for g) plain.differ declared.homes result_registers g.result g.rets c.rets plain.results plain.kinds m.rets);
    code = m.code;
    ready = m.ready;
    is_code = m.is_code;
    has = m.has;
    transformer = m.transformer;
  }

  pub carries_over : CarriesOver p f c
  carries_over = carries p f c made
