-- The tree of an expression whose inline parts are their values.
use Rattle.std.proofs.Common.{◌≡◌, inl, inr, ℤ, pos, negsuc, Bool, true, false, not, ◌&&◌, Option, Some, None, refl, sym, ap, ap₂, ◌∙◌, subst, if◌then◌else◌}
use Rattle.std.specs.Prelude.{◌⊎◌, is_some}
use Rattle.std.proofs.lemmas.Bool.{false≢true, and_parts}
use Rattle.jz_tree.specs.Span.{Span}
use Rattle.jz_tree.specs.declared.expr.Expr.{Expr}
use Rattle.jz_tree.specs.declared.expr.Expr.TheVariants as expr
use Rattle.jz_tree.specs.declared.expr.Access.{Access}
use Rattle.jz_tree.specs.declared.expr.Var.{Var}
use Rattle.jz_tree.specs.declared.expr.Expr.TheOpen.{Expr-F}
use Rattle.jz_tree.specs.declared.expr.Expr.TheViews.{out-Access, roll-out-Access}
use Rattle.jz_tree.specs.declared.stmt.Lval.{Lval}
use Rattle.jz_tree.specs.declared.stmt.Lval.TheVariants as lval
use Rattle.jz_type_names.specs.Kinds.{Known, is_inline_int, is_inline}
use Rattle.jz_type_names.specs.Parts.{span_of}
use Rattle.jz_integers.specs.declared.constant.Constant.{Constant}
use Rattle.jz_integers.specs.declared.constant.Constant.TheVariants as constant
use Rattle.jz_integers.specs.Integers.{KnownNumbers, inline_value, minus, opposite}
use Rattle.jz_select.specs.Trees.{Named, named_variable, Tree, Number, Truth, Name, CellOf, Loaded, Minus, Opposite, CastTo, Both, tree_of}
use Rattle.jz_judgement.specs.HasType.{Layer}
use Rattle.jz_unroll.specs.Values.{constant_expr, with_values, left_with_values, InlineNames, is_inline_var, has_values, access_has_values, left_has_values}
use Rattle.jz_unroll.proofs.InlineParts.{inline_layer, inline_out}
use Rattle.jz_unroll.proofs.Valued.{parts_in, parts_layer, access_known_is}
use Rattle.jz_unroll.proofs.Parts.{inline_whole, out_plain, inline_some, plain_known}
use Rattle.jz_kept_types.proofs.Valuing as valuing
use Rattle.jz_copied_variables.specs.Variables.{IsOver, over, IsOverLayer, o_number, o_truth, o_variable, o_cell, o_load, o_minus, o_denial, o_cast, o_two, LeftOver}
use Rattle.jz_meetings.specs.Meetings.{tree_value, no_values, CellAt, AtMemory, place_of}
use Rattle.jz_meetings.specs.Turns.{Turn, word_of, or_tree, cell_or, turned, place_or, turned_place, IsConstant, IsTurn}
use Rattle.jz_meetings.proofs.OfTrees.{tree_form, tree_rolled, tree_out, value_is}
use Rattle.jz_meetings.proofs.Kept.{Values, made, joined_made}
use Rattle.jz_kept_patterns.specs.Passes as passes
use Rattle.jz_kept_patterns.specs.Passes.{inline_tree, constant_tree}
use Rattle.jz_kept_patterns.specs.KeptPatterns.{AreTold}
use Rattle.jz_kept_patterns.proofs.CopiedTrees.{none_some}

test : (b : Bool) → (b ≡ true) ⊎ (b ≡ false)
test true = inl refl
test false = inr refl

abbrev constant_as : Constant → Tree
constant_as (constant.Int i) = Number i
constant_as (constant.Bool b) = Truth b

constant_or : (c : Constant) (b : Tree) → or_tree (constant_tree (Some c)) b ≡ constant_as c
constant_or (constant.Int i) b = refl
constant_or (constant.Bool v) b = refl

same_constant : (a b : Constant) → Some a ≡ Some b → a ≡ b
same_constant a b e = cc

same_tree : (a b : Tree) → Some a ≡ Some b → a ≡ b
same_tree a b e = cc

-- ---- values behind
module _ (i : Named → Bool) (k : KnownNumbers) where
  abbrev V : Turn
  V = passes.valuing i k

  no_value : (y : Option Constant) → Values None y
  no_value y c e = absurd (none_some c e)

  -- what has a value by itself has it with these numbers
  grown : (s : Tree) → Values (tree_value no_values s) (tree_value k s)
  grown (Number n) c e = e
  grown (Truth b) c e = e
  grown (Name v) c e = no_value (tree_value k (Name v)) c e
  grown (CellOf v j) c e = e
  grown (Loaded a) c e = e
  grown (Minus a) c e = made minus (tree_value no_values a) (tree_value k a) refl (grown a) c e
  grown (Opposite a) c e = made opposite (tree_value no_values a) (tree_value k a) refl (grown a) c e
  grown (CastTo z s a) c e = e
  grown (Both o a b) c e = joined_made o (tree_value no_values a) (tree_value k a) (tree_value no_values b) (tree_value k b) (grown a) (grown b) c e

  constant_by : (c : Tree) (v : Option Constant) → constant_tree v ≡ Some c → IsConstant c
  constant_by c None e = absurd (none_some c e)
  constant_by c (Some (constant.Int n)) e = subst IsConstant (same_tree (Number n) c e) tt
  constant_by c (Some (constant.Bool b)) e = subst IsConstant (same_tree (Truth b) c e) tt

  constant_if : (c : Tree) (v : Option Constant) (b : Bool) → (if b then constant_tree v else None) ≡ Some c → IsConstant c
  constant_if c v true e = constant_by c v e
  constant_if c v false e = absurd (none_some c e)

  value_back : (c : Constant) → tree_value no_values (constant_as c) ≡ Some c
  value_back (constant.Int n) = refl
  value_back (constant.Bool b) = refl

  constant_some : (c : Constant) → constant_tree (Some c) ≡ Some (constant_as c)
  constant_some (constant.Int n) = refl
  constant_some (constant.Bool b) = refl

  written_by : (s c : Tree) (v : Constant) → tree_value k s ≡ Some v → constant_tree (tree_value k s) ≡ Some c → tree_value no_values c ≡ Some v
  written_by s c v h e =
      let is : constant_as v ≡ c = same_tree (constant_as v) c (sym (constant_some v) ∙ (sym (ap constant_tree h) ∙ e)) in
      ap (tree_value no_values) (sym is) ∙ value_back v

  written_if : (s c : Tree) (v : Constant) (b : Bool) → (if b then constant_tree (tree_value k s) else None) ≡ Some c → tree_value no_values s ≡ Some v → tree_value no_values c ≡ Some v
  written_if s c v true e h = written_by s c v (grown s v h) e
  written_if s c v false e h = absurd (none_some c e)

  pub value_turn : IsTurn (passes.valuing i k)
  value_turn = record {
    constant = λ s c e. constant_if c (tree_value k s) (inline_tree i s) e;
    written = λ s c v e h. written_if s c v (inline_tree i s) e h;
  }

  whole_constant : (s b : Tree) (c : Constant) → inline_tree i s ≡ true → tree_value k s ≡ Some c → or_tree (V.whole s) b ≡ constant_as c
  whole_constant s b c q e =
      ap (λ x. or_tree (if x then constant_tree (tree_value k s) else None) b) q ∙ (ap (λ x. or_tree (constant_tree x) b) e ∙ constant_or c b)

  pub whole_none : (s b : Tree) → inline_tree i s ≡ false → or_tree (V.whole s) b ≡ b
  whole_none s b q = ap (λ x. or_tree (if x then constant_tree (tree_value k s) else None) b) q

  constant_is : (s : Tree) (c : Constant) → inline_tree i s ≡ true → tree_value k s ≡ Some c → turned V s ≡ constant_as c
  constant_is (Number n) c q e = ap constant_as (same_constant (constant.Int n) c e)
  constant_is (Truth b) c q e = ap constant_as (same_constant (constant.Bool b) c e)
  constant_is (Name v) c q e = whole_constant (Name v) (Name v) c q e
  constant_is (CellOf v j) c q e = absurd (false≢true q)
  constant_is (Loaded a) c q e = absurd (false≢true q)
  constant_is (Minus a) c q e = whole_constant (Minus a) (Minus (turned V a)) c q e
  constant_is (Opposite a) c q e = whole_constant (Opposite a) (Opposite (turned V a)) c q e
  constant_is (CastTo z s a) c q e = absurd (false≢true q)
  constant_is (Both o a b) c q e = whole_constant (Both o a b) (Both o (turned V a) (turned V b)) c q e

  no_word : (v : Named) (j : Tree) → word_of V v j ≡ None
  no_word v (Number (pos n)) = refl
  no_word v (Number (negsuc n)) = refl
  no_word v (Truth b) = refl
  no_word v (Name u) = refl
  no_word v (CellOf u j) = refl
  no_word v (Loaded a) = refl
  no_word v (Minus a) = refl
  no_word v (Opposite a) = refl
  no_word v (CastTo z s a) = refl
  no_word v (Both o a b) = refl

  as_cell : (v : Named) (j : Tree) → CellOf v (turned V j) ≡ cell_or v (turned V j) (word_of V v j)
  as_cell v j = sym (ap (cell_or v (turned V j)) (no_word v j))

  as_place : (v : Named) (j : Tree) → CellAt v (turned V j) ≡ place_or v (turned V j) (word_of V v j)
  as_place v j = sym (ap (place_or v (turned V j)) (no_word v j))

-- ---- expressions
module _ (names : InlineNames) (k : KnownNumbers) (known : Named → Known) (P : Var → Type 0) (told : AreTold P known) where
  abbrev I : Named → Bool
  I v = is_inline_int (known v)

  abbrev W : Turn
  W = passes.valuing I k

  mutual
    inline_as : {e : Expr} → IsOver P e → is_inline e ≡ inline_tree I (tree_of e)
    inline_as {e = e} (over h) = inline_out e ∙ (layer_inline h ∙ sym (ap (inline_tree I) (tree_out e)))

    layer_inline : {x : Layer} → IsOverLayer P x → inline_layer x ≡ inline_tree I (tree_form x)
    layer_inline o_number = refl
    layer_inline o_truth = refl
    layer_inline (o_variable {v = v} p n) = ap is_inline_int (sym (told.stored v p))
    layer_inline (o_cell p y r h) = refl
    layer_inline (o_load h) = refl
    layer_inline (o_minus h) = inline_as h
    layer_inline (o_denial h) = inline_as h
    layer_inline (o_cast h) = refl
    layer_inline (o_two h l) = ap₂ (λ x y. x && y) (inline_as h) (inline_as l)

  number_tree : (n : ℤ) (at : Span) → tree_of (expr.Num n at) ≡ Number n
  number_tree n at = ap tree_of (sym (expr.rolls-Num n at)) ∙ tree_rolled (Expr-F.Num n at)

  truth_tree : (b : Bool) (at : Span) → tree_of (expr.Bool b at) ≡ Truth b
  truth_tree b at = ap tree_of (sym (expr.rolls-Bool b at)) ∙ tree_rolled (Expr-F.Expr::Bool b at)

  constant_valued : (e : Expr) (c : Option Constant) → inline_value k e ≡ c → is_some c ≡ true → is_inline e ≡ true → inline_tree I (tree_of e) ≡ true → tree_of (with_values k e) ≡ turned W (tree_of e)
  constant_valued e None v s q t = absurd (false≢true s)
  constant_valued e (Some (constant.Int n)) v s q t =
      ap tree_of (inline_whole k e q ∙ ap (constant_expr (span_of e) e) v) ∙ (number_tree n (span_of e) ∙ sym (constant_is I k (tree_of e) (constant.Int n) t (sym (value_is k e) ∙ v)))
  constant_valued e (Some (constant.Bool b)) v s q t =
      ap tree_of (inline_whole k e q ∙ ap (constant_expr (span_of e) e) v) ∙ (truth_tree b (span_of e) ∙ sym (constant_is I k (tree_of e) (constant.Bool b) t (sym (value_is k e) ∙ v)))

  access_has : (a : Access) → access_has_values names k a ≡ true → has_values names k (out-Access a).at ≡ true
  access_has a h = sym (ap (access_has_values names k) (sym (roll-out-Access a)) ∙ access_known_is names k (out-Access a)) ∙ h

  mutual
    pub valued_tree : {e : Expr} → IsOver P e → has_values names k e ≡ true → tree_of (with_values k e) ≡ turned W (tree_of e)
    valued_tree {e = e} (over h) v =
        elim (test (is_inline e)) [
          | inl q ↦ constant_valued e (inline_value k e) refl (inline_some names k e q v).1 q (sym (inline_as (over h)) ∙ q)
          | inr q ↦ tree_out (with_values k e) ∙ (ap tree_form (out_plain k e q) ∙ (layer_valued h (sym (inline_out e) ∙ q) (plain_known names k e q v) ∙ sym (ap (turned W) (tree_out e))))
        ]

    layer_valued : {x : Layer} → IsOverLayer P x → inline_layer x ≡ false → parts_layer names k x ≡ true → tree_form (parts_in k x) ≡ turned W (tree_form x)
    layer_valued o_number q v = absurd (false≢true (sym q))
    layer_valued o_truth q v = absurd (false≢true (sym q))
    layer_valued (o_variable {v = w} p n) q v = sym (whole_none I k (Name (named_variable w)) (Name (named_variable w)) (ap is_inline_int (told.stored w p) ∙ q))
    layer_valued (o_cell {v = w} {i = i} p y r h) q v =
        ap (CellOf (named_variable w)) (valued_tree h (and_parts (not (is_inline_var names w)) (has_values names k i) v).1) ∙ as_cell I k (named_variable w) (tree_of i)
    layer_valued (o_load {a = a} h) q v =
        ap (λ x. Loaded (tree_of x)) (valuing.access_turns k a).at ∙ ap Loaded (valued_tree h (access_has a v))
    layer_valued (o_minus {a = a} h) q v =
        ap Minus (valued_tree h v) ∙ sym (whole_none I k (Minus (tree_of a)) (Minus (turned W (tree_of a))) (sym (inline_as h) ∙ q))
    layer_valued (o_denial {a = a} h) q v =
        ap Opposite (valued_tree h v) ∙ sym (whole_none I k (Opposite (tree_of a)) (Opposite (turned W (tree_of a))) (sym (inline_as h) ∙ q))
    layer_valued (o_cast {z = z} {s = s} h) q v = ap (CastTo z s) (valued_tree h v)
    layer_valued (o_two {o = o} {a = a} {b = b} h l) q v =
        let s = and_parts (has_values names k a) (has_values names k b) v in
        ap₂ (λ x y. Both o x y) (valued_tree h s.0) (valued_tree l s.1)
        ∙ sym (whole_none I k (Both o (tree_of a) (tree_of b)) (Both o (turned W (tree_of a)) (turned W (tree_of b))) (sym (ap₂ (λ x y. x && y) (inline_as h) (inline_as l)) ∙ q))

  pub valued_place : (d : Lval) → LeftOver P d → left_has_values names k d ≡ true → place_of (left_with_values k d) ≡ turned_place W (place_of d)
  valued_place (lval.Skip at) h v = refl
  valued_place (lval.Var w) h v = refl
  valued_place (lval.Cell w i) h v =
      ap (CellAt (named_variable w)) (valued_tree h.3 (and_parts (not (is_inline_var names w)) (has_values names k i) v).1) ∙ as_place I k (named_variable w) (tree_of i)
  valued_place (lval.Store a) h v =
      ap (λ x. AtMemory (tree_of x)) (valuing.access_turns k a).at ∙ ap AtMemory (valued_tree h (access_has a v))
