-- Words in place of cells of register arrays: each assignment has a row.
use Rattle.std.proofs.Common.{◌≡◌, ℤ, List, [], ◌∷◌, Option, Some, None, map, Bool, true, sym, ap, ◌∙◌, subst}
use Rattle.std.specs.Prelude.{All, option_map, ⊤}
use Rattle.std.proofs.lemmas.List.Elements.{All-nil, All-cons, All-head, All-tail}
use Rattle.jz_tree.specs.Span.{Span}
use Rattle.jz_tree.specs.declared.expr.BinOp.{BinOp}
use Rattle.jz_tree.specs.declared.expr.Expr.{Expr}
use Rattle.jz_tree.specs.declared.expr.Expr.TheVariants as expr
use Rattle.jz_tree.specs.declared.expr.Var.{Var}
use Rattle.jz_tree.specs.declared.expr.Expr.TheOpen.{Expr-F}
use Rattle.jz_tree.specs.declared.expr.Expr.TheViews.{out-Expr, out-roll-Expr}
use Rattle.jz_tree.specs.declared.stmt.Lval.{Lval}
use Rattle.jz_tree.specs.declared.stmt.Lval.TheVariants as lval
use Rattle.jz_type_names.specs.Kinds.{Known, known_of, is_register_array}
use Rattle.jz_select.specs.Trees.{Named, named_variable, tree_of}
use Rattle.jz_judgement.specs.HasType.{Layer}
use Rattle.jz_runs.specs.Trees.{done, op}
use Rattle.jz_meaning.specs.declared.access.Kind.{Kind}
use Rattle.jz_meaning.specs.States.{Key}
use Rattle.jz_meaning.specs.Statements.{assign, Block}
use Rattle.jz_run_laws.specs.Kinds.{Kinds}
use Rattle.jz_change.specs.Changes.{Change}
use Rattle.jz_pass.specs.Unrolling.{u_done, u_op, u_quiet, u_if, u_arm, u_while, u_once, u_for, Unrolls}
use Rattle.jz_pass.specs.Rewriting.{knowing_of, Rewrites}
use Rattle.jz_arrays.specs.Cells.{with_scalars, left_with_scalars}
use Rattle.jz_arrays.specs.Arrays.{assigns, instructs, tests, arrays}
use Rattle.jz_copied_variables.specs.Variables.{IsInteger, integer, IntegerLayer, i_number, IsOver, over, IsOverLayer, o_number, o_truth, o_variable, o_cell, o_load, o_minus, o_denial, o_cast, o_two, LeftOver}
use Rattle.jz_plain_expansions.proofs.Clear.{IsWritten, IsClear, clear, IsClearLayer, c_number, c_truth, c_variable, c_cell, c_load, c_minus, c_denial, c_cast, c_two, LeftClear}
use Rattle.jz_plain_expansions.proofs.Passes.{ClearBody}
use Rattle.jz_meetings.specs.Turns.{IsNumeral, OverTree}
use Rattle.jz_meetings.proofs.OfTrees.{tree_form, tree_rolled, tree_out}
use Rattle.jz_kept_patterns.specs.KeptPatterns.{AreTold, LeftNumbered, Whatever, AreKinds}
use Rattle.jz_kept_patterns.proofs.Whole.{word_always, word_pair, word_instruction}
use Rattle.jz_expanded_patterns.proofs.Bodies.{HasRow, HaveRows}

-- ---- numbers
out_number : (n : ℤ) (at : Span) → out-Expr (expr.Num n at) ≡ Expr-F.Num n at
out_number n at = ap out-Expr (sym (expr.rolls-Num n at)) ∙ out-roll-Expr (Expr-F.Num n at)

written_integer : (i : Expr) → IsWritten i → IsInteger i
written_integer i w = subst IsInteger (sym w.2) (integer (subst IntegerLayer (sym (out_number w.0 w.1)) i_number))

written_numeral : (i : Expr) → IsWritten i → IsNumeral (tree_of i)
written_numeral i w = (w.0, ap tree_of (w.2 ∙ sym (expr.rolls-Num w.0 w.1)) ∙ tree_rolled (Expr-F.Num w.0 w.1))

module _ (P : Var → Type 0) where
  mutual
    clear_over : {e : Expr} → IsClear P e → IsOver P e
    clear_over (clear h) = over (layer_over h)

    layer_over : {x : Layer} → IsClearLayer P x → IsOverLayer P x
    layer_over c_number = o_number
    layer_over c_truth = o_truth
    layer_over (c_variable p n i) = o_variable p n
    layer_over (c_cell {i = i} p y r h) = o_cell p y (λ t. written_integer i (r t)) (clear_over h)
    layer_over (c_load h) = o_load (clear_over h)
    layer_over (c_minus n h) = o_minus (clear_over h)
    layer_over (c_denial n h) = o_denial (clear_over h)
    layer_over (c_cast h) = o_cast (clear_over h)
    layer_over (c_two n h l) = o_two (clear_over h) (clear_over l)

  left_over : (d : Lval) → LeftClear P d → LeftOver P d
  left_over (lval.Skip at) h = tt
  left_over (lval.Var v) h = (h.0, h.1)
  left_over (lval.Cell v i) h = (h.0, h.1, (λ t. written_integer i (h.2 t)), clear_over h.3)
  left_over (lval.Store a) h = clear_over h

module _ (P : Var → Type 0) (known : Named → Known) (kind : Named → Kind) (told : AreTold P known) (kinds : AreKinds P kind) where
  abbrev R : Named → Bool
  R v = is_register_array (known v)

  numbered : (v : Var) (i : Expr) → P v → (is_register_array (known_of v) ≡ true → IsWritten i) → R (named_variable v) ≡ true → IsNumeral (tree_of i)
  numbered v i p r t = written_numeral i (r (sym (ap is_register_array (told.stored v p)) ∙ t))

  mutual
    clear_numbers : {e : Expr} → IsClear P e → OverTree Whatever R (tree_of e)
    clear_numbers {e = e} (clear h) = subst (OverTree Whatever R) (sym (tree_out e)) (layer_numbers h)

    layer_numbers : {x : Layer} → IsClearLayer P x → OverTree Whatever R (tree_form x)
    layer_numbers c_number = tt
    layer_numbers c_truth = tt
    layer_numbers (c_variable p n i) = tt
    layer_numbers (c_cell {v = v} {i = i} p y r h) = (tt, (λ t. numbered v i p r t), clear_numbers h)
    layer_numbers (c_load h) = clear_numbers h
    layer_numbers (c_minus n h) = clear_numbers h
    layer_numbers (c_denial n h) = clear_numbers h
    layer_numbers (c_cast h) = clear_numbers h
    layer_numbers (c_two n h l) = (clear_numbers h, clear_numbers l)

  left_numbers : (d : Lval) → LeftClear P d → LeftNumbered R d
  left_numbers (lval.Skip at) h = tt
  left_numbers (lval.Var v) h = tt
  left_numbers (lval.Cell v i) h = λ t. numbered v i h.0 h.2 t
  left_numbers (lval.Store a) h = tt

  row_scaled : (to : List Lval) (o : Option BinOp) (e : Expr) (c : Option Expr) (at : Span) → All (LeftClear P) to → IsClear P e → HasRow (assign to o e c at) → HasRow (assign (map left_with_scalars to) o (with_scalars e) (option_map with_scalars c) at)
  row_scaled [] o e c at l h r = tt
  row_scaled (d ∷ []) o e c at l h r =
      let x = All-head (LeftClear P) d [] l in
      word_always P known kind told kinds d o e c (left_over P d x) (clear_over P h) (left_numbers d x) (clear_numbers h) r
  row_scaled (f ∷ d ∷ []) o e None at l h r =
      let x = All-head (LeftClear P) d [] (All-tail (LeftClear P) f (d ∷ []) l) in
      word_pair P known kind told kinds f d o e (left_over P d x) (clear_over P h) (left_numbers d x) (clear_numbers h) r
  row_scaled (f ∷ d ∷ []) o e (Some c) at l h r = tt
  row_scaled (f ∷ d ∷ b ∷ ds) o e c at l h r = tt

  abbrev Numbered : Lval → Type 0
  Numbered d = LeftOver P d × LeftNumbered R d

  abbrev Numbers : Expr → Type 0
  Numbers e = IsOver P e × OverTree Whatever R (tree_of e)

  lefts_scaled : (to : List Lval) → All (LeftClear P) to → All Numbered to
  lefts_scaled [] l = All-nil Numbered
  lefts_scaled (d ∷ ds) l =
      let x = All-head (LeftClear P) d ds l in
      All-cons Numbered d ds (left_over P d x, left_numbers d x) (lefts_scaled ds (All-tail (LeftClear P) d ds l))

  args_scaled : (es : List Expr) → All (IsClear P) es → All Numbers es
  args_scaled [] h = All-nil Numbers
  args_scaled (e ∷ es) h =
      let x = All-head (IsClear P) e es h in
      All-cons Numbers e es (clear_over P x, clear_numbers x) (args_scaled es (All-tail (IsClear P) e es h))

  scaled_rows : (frame : Key → Bool) (wanted : Kinds) {t rest u : Block} {e e1 : ⊤} {k : Change} → Unrolls (knowing_of (arrays wanted)) t e rest u e1 k → ClearBody P frame t → HaveRows t → HaveRows rest → HaveRows u
  scaled_rows frame wanted u_done f i r = r
  scaled_rows frame wanted (u_op (assigns {to = to} {op = o} {e = e} {c = c} {at = at} h) x) f i r = (row_scaled to o e c at f.0.0 f.0.1 i.0, scaled_rows frame wanted x f.1 i.1 r)
  scaled_rows frame wanted (u_op (instructs {to = to} {n = n} {args = args} h) x) f i r =
      (word_instruction P known kind told kinds to n args (lefts_scaled to f.0.0) (args_scaled args f.0.1) i.0, scaled_rows frame wanted x f.1 i.1 r)
  scaled_rows frame wanted (u_quiet q x) f i r = scaled_rows frame wanted x f.1 i r
  scaled_rows frame wanted (u_if (tests h) a b l m x) f i r = (scaled_rows frame wanted a f.1 i.0 tt, scaled_rows frame wanted b f.2 i.1 tt, scaled_rows frame wanted x f.3 i.2 r)
  scaled_rows frame wanted (u_arm c y x) f i r = absurd c
  scaled_rows frame wanted (u_while l (tests h) q b m n x) f i r = (scaled_rows frame wanted q f.1 i.0 tt, scaled_rows frame wanted b f.2 i.1 tt, scaled_rows frame wanted x f.3 i.2 r)
  scaled_rows frame wanted (u_once q c x) f i r = absurd c
  scaled_rows frame wanted (u_for v es x) f i r = absurd v

  pub words_have_rows : (frame : Key → Bool) (wanted : Kinds) (t u : Block) (k : Change) → Rewrites (arrays wanted) t done u k → ClearBody P frame t → HaveRows t → HaveRows u
  words_have_rows frame wanted t u k x f i = scaled_rows frame wanted x f i tt
