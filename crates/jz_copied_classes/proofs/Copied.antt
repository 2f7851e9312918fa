-- A copy keeps the classes of operands and results, and so of statements.
use Rattle.std.proofs.Common.{◌≡◌, inr, Bool, true, false, ◌&&◌, List, [], ◌∷◌, map, Option, Some, None, refl, sym, ap, ◌∙◌, subst}
use Rattle.std.specs.Prelude.{option_map}
use Rattle.std.proofs.lemmas.Bool.{false≢true, and_parts, and_from}
use Rattle.jz_tree.specs.declared.expr.Expr.{Expr}
use Rattle.jz_tree.specs.declared.expr.Expr.TheOpen.{Expr-F}
use Rattle.jz_tree.specs.declared.expr.Expr.TheViews.{out-Expr}
use Rattle.jz_tree.specs.declared.stmt.Lval.{Lval}
use Rattle.jz_tree.specs.declared.stmt.Lval.TheVariants as lval
use Rattle.jz_type_names.specs.Kinds.{is_inline_int, is_inline}
use Rattle.jz_type_rows.specs.Matching.{is_set_inline, may_be_inline, sets_inline}
use Rattle.jz_select.specs.Operands.{dest_of}
use Rattle.jz_select.specs.Shapes.{is_test}
use Rattle.jz_judgement.specs.HasType.{Layer}
use Rattle.jz_meaning.specs.Statements.{assign, instruction, unset, meaningless}
use Rattle.jz_run_laws.specs.Counted as counted
use Rattle.jz_unroll.proofs.InlineParts.{inline_layer, inline_out}
use Rattle.jz_inline.specs.Names.{Names, expr_in, lval_in}
use Rattle.jz_inline.proofs.Reading.{layer_in}
use Rattle.jz_kept_types.proofs.Instructed.{size_kept}
use Rattle.jz_copied_types.proofs.Copying.{out_in, known_in, access_turns, copies_turn}
use Rattle.jz_kept_classes.specs.Classes.{KeepsClass}
use Rattle.jz_kept_classes.proofs.Formed.{Formed, FormedLayer, formed}
use Rattle.jz_kept_classes.proofs.Kept.{Becomes, b_number, b_truth, b_variable, b_cell, b_load, b_minus, b_denial, b_cast, b_two, LeftBecomes, l_nothing, l_variable, l_cell, l_store, Turned, classes_kept}
use Rattle.jz_kept_rows.proofs.Operations.{assign_stays, instance_stays, test_stays}
use Rattle.jz_copied_classes.specs.CopiedClasses.{CopiesKeepClasses, CopiesStayRowed}

module _ (names : Names) where
  abbrev T : Expr → Expr
  T = expr_in names

  layer_copied : (x : Layer) → Becomes T x (layer_in names x)
  layer_copied (Expr-F.Num n at) = b_number
  layer_copied (Expr-F.Expr::Bool b at) = b_truth
  layer_copied (Expr-F.Var v) = b_variable (known_in names v)
  layer_copied (Expr-F.Cell v i) = b_cell (known_in names v)
  layer_copied (Expr-F.Load a) = b_load (access_turns names a)
  layer_copied (Expr-F.Neg a at) = b_minus
  layer_copied (Expr-F.Not a at) = b_denial
  layer_copied (Expr-F.Cast z s a at) = b_cast
  layer_copied (Expr-F.Bin o a b at) = b_two

  becomes_copy : (e : Expr) → Becomes T (out-Expr e) (out-Expr (expr_in names e))
  becomes_copy e = subst (Becomes T (out-Expr e)) (sym (out_in names e)) (layer_copied (out-Expr e))

  pub copies_turned : Turned (expr_in names)
  copies_turned e f = inr (becomes_copy e)

  left_copied : (d : Lval) → LeftBecomes T d (lval_in names d)
  left_copied (lval.Skip at) = l_nothing
  left_copied (lval.Var v) = l_variable (known_in names v)
  left_copied (lval.Cell v i) = l_cell (known_in names v)
  left_copied (lval.Store a) = l_store (access_turns names a)

  -- ---- what is inline stays inline
  mutual
    inline_copied : (e : Expr) → Formed e → is_inline e ≡ true → is_inline (expr_in names e) ≡ true
    inline_copied e (counted.expression f) h = inline_out (expr_in names e) ∙ layer_inline f (becomes_copy e) (sym (inline_out e) ∙ h)

    layer_inline : {x y : Layer} → FormedLayer x → Becomes T x y → inline_layer x ≡ true → inline_layer y ≡ true
    layer_inline counted.number b_number h = refl
    layer_inline counted.bool b_truth h = refl
    layer_inline (counted.variable p) (b_variable k) h = ap is_inline_int k ∙ h
    layer_inline (counted.cell p f) t h = absurd (false≢true h)
    layer_inline (counted.load f) t h = absurd (false≢true h)
    layer_inline (counted.negated {a = a} f) b_minus h = inline_copied a f h
    layer_inline (counted.inverted {a = a} f) b_denial h = inline_copied a f h
    layer_inline (counted.cast f) t h = absurd (false≢true h)
    layer_inline (counted.operation {a = a} {b = b} f g) b_two h =
        let k = and_parts (is_inline a) (is_inline b) h in
        and_from (is_inline (expr_in names a)) (is_inline (expr_in names b)) (inline_copied a f k.0) (inline_copied b g k.1)

  set_copied : (d : Lval) → is_set_inline (lval_in names d) ≡ is_set_inline d
  set_copied (lval.Skip at) = refl
  set_copied (lval.Var v) = ap is_inline_int (known_in names v)
  set_copied (lval.Cell v i) = refl
  set_copied (lval.Store a) = refl

  both_false : (a b c d : Bool) → c ≡ a → (b ≡ true → d ≡ true) → (c && d) ≡ false → (a && b) ≡ false
  both_false true true c d e f h = absurd (false≢true (sym h ∙ and_from c d e (f refl)))
  both_false true false c d e f h = refl
  both_false false b c d e f h = refl

  may_copied : (c : Option Expr) → may_be_inline c ≡ true → may_be_inline (option_map T c) ≡ true
  may_copied None h = refl
  may_copied (Some c) h = inline_copied c (formed c) h

  -- what sets no inline variable behind set none before
  sets_before : (to : List Lval) (c : Option Expr) → sets_inline (map (lval_in names) to) (option_map T c) ≡ false → sets_inline to c ≡ false
  sets_before [] c h = refl
  sets_before (d ∷ []) c h = both_false (is_set_inline d) (may_be_inline c) (is_set_inline (lval_in names d)) (may_be_inline (option_map T c)) (set_copied d) (may_copied c) h
  sets_before (d ∷ b ∷ ds) c h = refl

pub copies_keep_classes : CopiesKeepClasses
copies_keep_classes names = classes_kept (expr_in names) (copies_turned names) (lval_in names) (left_copied names)

abbrev pub copied_left : (names : Names) (d : Lval) → KeepsClass (dest_of d) (dest_of (lval_in names d))
copied_left names d = (copies_keep_classes names).lefts d

pub copies_stay_rowed : CopiesStayRowed
copies_stay_rowed names (assign to o e c at) t r =
    λ h. assign_stays (expr_in names) (lval_in names) (copies_turned names) (copied_left names) to o e c (r (sets_before names to c h))
copies_stay_rowed names (instruction to n args at) t r =
    instance_stays (expr_in names) (lval_in names) (copies_turned names) (copied_left names) (size_kept (expr_in names) (lval_in names) (copies_turn names)) to n args t r
copies_stay_rowed names (unset vs) t r = tt
copies_stay_rowed names (meaningless at) t r = absurd r

pub copied_test : (names : Names) (c : Expr) → is_test c ≡ true → is_test (expr_in names c) ≡ true
copied_test names c h = test_stays (expr_in names) (lval_in names) (copies_turned names) (copied_left names) c h
