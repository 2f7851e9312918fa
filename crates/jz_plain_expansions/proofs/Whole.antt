-- The three passes of an expansion.
use Rattle.std.proofs.Common.{◌≡◌, ℕ, List, [], ◌∷◌, Option, Some, None, Bool, map, refl, sym, subst}
use Rattle.std.specs.Prelude.{All, Contains, option_map, ⊤}
use Rattle.std.proofs.lemmas.List.Elements.{All-nil, All-cons, All-head, All-tail}
use Rattle.jz_tree.specs.declared.expr.Expr.{Expr}
use Rattle.jz_tree.specs.declared.expr.Var.{Var}
use Rattle.jz_tree.specs.declared.stmt.Lval.{Lval}
use Rattle.jz_tree.specs.declared.program.Fun.{Fun}
use Rattle.jz_tree.specs.declared.program.Program.{Program}
use Rattle.jz_type_names.specs.Kinds.{Known}
use Rattle.jz_type_names.specs.Scopes.{variables_of}
use Rattle.jz_types.specs.TypedPrograms.{IsTypedProgram}
use Rattle.jz_texts.specs.Texts.{IsText}
use Rattle.jz_runs.specs.Trees.{done, op}
use Rattle.jz_meaning.specs.States.{Key}
use Rattle.jz_meaning.specs.Statements.{Operation, assign, instruction, unset, meaningless, Block}
use Rattle.jz_run_laws.specs.Kinds.{Kinds}
use Rattle.jz_typed_runs.specs.TypedTexts.{IsTypedText}
use Rattle.jz_change.specs.Changes.{Change}
use Rattle.jz_pass.specs.Unrolling.{u_done, u_op, u_quiet, u_if, u_arm, u_while, u_once, u_for, Unrolls}
use Rattle.jz_pass.specs.Rewriting.{knowing_of, Rewrites}
use Rattle.jz_inline.specs.Functions.{inlined_body}
use Rattle.jz_inline.proofs.Made.{inlined_is}
use Rattle.jz_expansion.specs.Inlined.{inlined_function}
use Rattle.jz_unroll.specs.Unrolling.{unrolling}
use Rattle.jz_unrolling_values.specs.InlineNames.{inline_names}
use Rattle.jz_unrolling_values.specs.Numbers.{no_numbers}
use Rattle.jz_arrays.specs.Cells.{with_scalars, left_with_scalars}
use Rattle.jz_arrays.specs.Arrays.{assigns, instructs, tests, arrays}
use Rattle.jz_expansion.specs.Functions.{function_with_scalars, scalar_change}
use Rattle.jz_expansion.specs.Ready.{IsReady}
use Rattle.jz_expansion.proofs.Keeping.{keeps_runs}
use Rattle.jz_function_runs.specs.FunctionRuns.{plain_body}
use Rattle.jz_copied_variables.specs.CopiedKinds.{copied_kinds}
use Rattle.jz_copied_variables.proofs.Whole.{ready_law}
use Rattle.jz_expansion.specs.Expansions.{IsExpansion}
use Rattle.jz_plain_operands.specs.Plain.{IsPlainExpr, IsPlainLeft}
use Rattle.jz_copied_variables.specs.Variables.{frame_of, known_at, IsSeen, IsMarked, OverBody}
use Rattle.jz_copied_variables.proofs.Copied.{copies_have_variables}
use Rattle.jz_plain_expansions.specs.PlainExpansions.{expanded_kinds, IfPlain, IsMarkPlain, IsPlainBody, IsWithinBody, ExpansionsArePlain}
use Rattle.jz_plain_expansions.proofs.Clear.{IsClear, IfClear, LeftClear}
use Rattle.jz_plain_expansions.proofs.Variables.{K}
use Rattle.jz_plain_expansions.proofs.Passes.{ClearBody, rounds_are_clear}
use Rattle.jz_plain_expansions.proofs.Final.{plain_of, left_plain}
use Rattle.jz_plain_expansions.proofs.Within.{IfNone, LeftNone, ExprNone, assign_none, instruction_none, condition_none}

-- ---- words in place of cells
module _ (kinds : Kinds) (frame : Key → Bool) (store : Key → Known) where
  abbrev P : Var → Type 0
  P v = IsSeen kinds frame store v

  abbrev D : Kinds
  D = K kinds frame

  lefts_plain : (ds : List Lval) → All (LeftClear P) ds → All LeftNone (map left_with_scalars ds) → All (IsPlainLeft D frame) (map left_with_scalars ds)
  lefts_plain [] h q = All-nil (IsPlainLeft D frame)
  lefts_plain (d ∷ ds) h q =
      All-cons (IsPlainLeft D frame) (left_with_scalars d) (map left_with_scalars ds)
      (left_plain kinds frame store d (All-head (LeftClear P) d ds h) (All-head LeftNone (left_with_scalars d) (map left_with_scalars ds) q))
      (lefts_plain ds (All-tail (LeftClear P) d ds h) (All-tail LeftNone (left_with_scalars d) (map left_with_scalars ds) q))

  all_plain : (es : List Expr) → All (IsClear P) es → All ExprNone (map with_scalars es) → All (IsPlainExpr D frame) (map with_scalars es)
  all_plain [] h q = All-nil (IsPlainExpr D frame)
  all_plain (e ∷ es) h q =
      All-cons (IsPlainExpr D frame) (with_scalars e) (map with_scalars es)
      (plain_of kinds frame store (All-head (IsClear P) e es h) (All-head ExprNone (with_scalars e) (map with_scalars es) q)).is
      (all_plain es (All-tail (IsClear P) e es h) (All-tail ExprNone (with_scalars e) (map with_scalars es) q))

  if_plain : (c : Option Expr) → IfClear P c → IfNone (option_map with_scalars c) → IfPlain D frame (option_map with_scalars c)
  if_plain None h q = tt
  if_plain (Some e) h q = (plain_of kinds frame store h q).is

  marks_plain : (o : Operation) → IsMarked P frame o → IsMarkPlain D frame o
  marks_plain (assign to o e c at) h = absurd h
  marks_plain (instruction to n args at) h = absurd h
  marks_plain (unset vs) h = h
  marks_plain (meaningless at) h = absurd h

  abbrev Plain : Block → Type 0
  Plain b = IsPlainBody D frame b

  scaled_plain : (wanted : Kinds) {t rest u : Block} {e e1 : ⊤} {k : Change} → Unrolls (knowing_of (arrays wanted)) t e rest u e1 k → ClearBody P frame t → (IsWithinBody rest → Plain rest) → IsWithinBody u → Plain u
  scaled_plain wanted u_done f r w = r w
  scaled_plain wanted (u_op (assigns {to = to} {op = o} {e = e} {c = c} {at = at} h) x) f r w =
      let n = assign_none (map left_with_scalars to) o (with_scalars e) (option_map with_scalars c) at w.0 in
      ((lefts_plain to f.0.0 n.lefts, (plain_of kinds frame store f.0.1 n.value).is, if_plain c f.0.2 n.condition), scaled_plain wanted x f.1 r w.1)
  scaled_plain wanted (u_op (instructs {to = to} {n = n} {args = args} {at = at} h) x) f r w =
      let q = instruction_none (map left_with_scalars to) n (map with_scalars args) at w.0 in
      ((lefts_plain to f.0.0 q.0, all_plain args f.0.1 q.1), scaled_plain wanted x f.1 r w.1)
  scaled_plain wanted (u_quiet {o = o} q x) f r w = (subst (IsMarkPlain D frame) q (marks_plain o f.0), scaled_plain wanted x f.1 r w)
  scaled_plain wanted (u_if {p} (tests h) a b l m x) f r w =
      ((plain_of kinds frame store f.0 (condition_none (with_scalars p.cond) w.0)).is, scaled_plain wanted a f.1 (λ n. tt) w.1, scaled_plain wanted b f.2 (λ n. tt) w.2, scaled_plain wanted x f.3 r w.3)
  scaled_plain wanted (u_arm c y x) f r w = absurd c
  scaled_plain wanted (u_while {p} l (tests h) q b m n x) f r w =
      ((plain_of kinds frame store f.0 (condition_none (with_scalars p.cond) w.0)).is, scaled_plain wanted q f.1 (λ n. tt) w.1, scaled_plain wanted b f.2 (λ n. tt) w.2, scaled_plain wanted x f.3 r w.3)
  scaled_plain wanted (u_once q c x) f r w = absurd c
  scaled_plain wanted (u_for v es x) f r w = absurd v

-- ---- the whole
module _ (p : Program) (f g : Fun) (k : Change) (count : ℕ) (typed : IsTypedProgram p) (text : IsText p) (has : Contains p.funs f) (x : IsExpansion p f g k count) (within : IsWithinBody (plain_body g)) where
  whole : IsTypedText p
  whole = record { typed = typed; text = text }

  abbrev Q : Var → Type 0
  Q v = IsSeen (copied_kinds p f) (frame_of p f) (known_at p f) v

  copied : OverBody Q (frame_of p f) (inlined_body p f)
  copied = copies_have_variables p f typed text has

  pub rounds : ClearBody Q (frame_of p f) (plain_body x.unrolled)
  rounds = rounds_are_clear Q (frame_of p f) (inline_names (variables_of (inlined_function p f))) x.body.body (subst (OverBody Q (frame_of p f)) (inlined_is p f) copied)

  ready : IsReady (copied_kinds p f) (plain_body x.unrolled)
  ready =
      ready_law p f (inline_names (variables_of (inlined_function p f))) no_numbers x.body.behind (plain_body x.unrolled) x.rounds whole has
      (subst (λ (t : Block). Unrolls (unrolling (inline_names (variables_of (inlined_function p f)))) t no_numbers done (plain_body x.unrolled) x.body.behind x.rounds) (sym (inlined_is p f)) x.body.body)

  pub rewritten : Rewrites (arrays (copied_kinds p f)) (plain_body x.unrolled) done (plain_body (function_with_scalars x.unrolled)) (scalar_change x.unrolled)
  rewritten =
      (keeps_runs x.unrolled (function_with_scalars x.unrolled) (scalar_change x.unrolled) (record { function = refl; change = refl }) (copied_kinds p f) ready).rewritten

  whole_plain : IsPlainBody (expanded_kinds p f) (frame_of p f) (plain_body g)
  whole_plain =
      subst (λ h. IsPlainBody (expanded_kinds p f) (frame_of p f) (plain_body h)) (sym x.function)
      (scaled_plain (copied_kinds p f) (frame_of p f) (known_at p f) (copied_kinds p f) rewritten rounds (λ n. tt) (subst (λ h. IsWithinBody (plain_body h)) x.function within))

pub expansions_are_plain : ExpansionsArePlain
expansions_are_plain p f g k count typed text has x within = whole_plain p f g k count typed text has x within
