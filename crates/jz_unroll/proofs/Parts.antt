-- Expressions, left sides and whole right sides whose inline parts are their values, part by part.
use Rattle.std.proofs.Common.{◌≡◌, List, [], ◌∷◌, map, Option, Some, None, Bool, true, false, refl, ap, sym, ◌∙◌, subst}
use Rattle.std.specs.Prelude.{◌&&◌, ◌||◌, not, is_some, option_map, if◌then◌else◌}
use Rattle.std.specs.List.{list_all}
use Rattle.std.proofs.lemmas.Bool.{and_parts, and_from}
use Rattle.jz_tree.specs.Span.{Span}
use Rattle.jz_tree.specs.Operators.{carries}
use Rattle.jz_tree.specs.declared.expr.BinOp.{BinOp}
use Rattle.jz_tree.specs.declared.expr.Expr.{Expr}
use Rattle.jz_tree.specs.declared.expr.Expr.TheVariants as expr
use Rattle.jz_tree.specs.declared.expr.Access.{Access}
use Rattle.jz_tree.specs.declared.expr.Var.{Var}
use Rattle.jz_tree.specs.declared.expr.Expr.TheOpen.{Expr-F}
use Rattle.jz_tree.specs.declared.expr.Expr.TheViews.{roll-Expr, out-Expr, roll-out-Expr, out-roll-Expr}
use Rattle.jz_tree.specs.declared.stmt.Lval.{Lval}
use Rattle.jz_tree.specs.declared.stmt.Lval.TheVariants as lval
use Rattle.jz_type_names.specs.Kinds.{is_inline}
use Rattle.jz_type_names.specs.Parts.{span_of}
use Rattle.jz_integers.specs.Integers.{KnownNumbers, inline_value}
use Rattle.jz_integers.specs.declared.constant.Constant.{Constant}
use Rattle.jz_integers.specs.declared.constant.Constant.TheVariants as constant
use Rattle.jz_meaning.specs.Assignments.{as_expr, left_span, last_left, whole_of, updated_layer, updated, is_flag_layer, is_flag}
use Rattle.jz_unroll.specs.Values.{constant_expr, has_no_cell, with_values, access_with_values, left_with_values, InlineNames, is_inline_var, is_known, has_values, left_has_values}
use Rattle.jz_unroll.proofs.Layers.{Layer}
use Rattle.jz_unroll.proofs.InlineParts.{inline_layer, inline_is, inline_out, inline_var, inline_bin, no_flag}
use Rattle.jz_unroll.proofs.Valued.{parts_in, values_is, parts_layer, known_is}

pub not_true : (b : Bool) → not b ≡ true → b ≡ false
not_true true q = absurd cc
not_true false q = refl

pub and_first_false : (a b : Bool) → a ≡ false → (a && b) ≡ false
and_first_false true b e = absurd cc
and_first_false false b e = refl

and_false : (a : Bool) → (a && false) ≡ false
and_false true = refl
and_false false = refl

module _ (e : KnownNumbers) where
  abbrev W : Expr → Expr
  W x = with_values e x

  pub whole_is : (x : Expr) → with_values e x ≡ (if is_inline x then constant_expr (span_of x) x (inline_value e x) else roll-Expr (parts_in e (out-Expr x)))
  whole_is x =
      ap W (sym (roll-out-Expr x)) ∙ values_is e (out-Expr x)
      ∙ ap (λ k. if is_inline k then constant_expr (span_of k) k (inline_value e k) else roll-Expr (parts_in e (out-Expr x))) (roll-out-Expr x)

  -- what is inline is its value
  pub inline_whole : (x : Expr) → is_inline x ≡ true → with_values e x ≡ constant_expr (span_of x) x (inline_value e x)
  inline_whole x q = whole_is x ∙ ap (λ b. if b then constant_expr (span_of x) x (inline_value e x) else roll-Expr (parts_in e (out-Expr x))) q

  -- of what is not, the parts are their values
  pub plain_whole : (x : Expr) → is_inline x ≡ false → with_values e x ≡ roll-Expr (parts_in e (out-Expr x))
  plain_whole x q = whole_is x ∙ ap (λ b. if b then constant_expr (span_of x) x (inline_value e x) else roll-Expr (parts_in e (out-Expr x))) q

  pub plain_layer : (y : Layer) → is_inline (roll-Expr y) ≡ false → with_values e (roll-Expr y) ≡ roll-Expr (parts_in e y)
  plain_layer y q = values_is e y ∙ ap (λ b. if b then constant_expr (span_of (roll-Expr y)) (roll-Expr y) (inline_value e (roll-Expr y)) else roll-Expr (parts_in e y)) q

  pub out_plain : (x : Expr) → is_inline x ≡ false → out-Expr (with_values e x) ≡ parts_in e (out-Expr x)
  out_plain x q = ap out-Expr (plain_whole x q) ∙ out-roll-Expr (parts_in e (out-Expr x))

  pub values_bin : (op : BinOp) (a b : Expr) (at : Span) → is_inline (expr.Bin op a b at) ≡ false → with_values e (expr.Bin op a b at) ≡ expr.Bin op (with_values e a) (with_values e b) at
  values_bin op a b at q =
      ap W (sym (expr.rolls-Bin op a b at)) ∙ plain_layer (Expr-F.Bin op a b at) (ap is_inline (expr.rolls-Bin op a b at) ∙ q) ∙ expr.rolls-Bin op (W a) (W b) at

  pub values_var : (v : Var) → is_inline (expr.Var v) ≡ false → with_values e (expr.Var v) ≡ expr.Var v
  values_var v q = ap W (sym (expr.rolls-Var v)) ∙ plain_layer (Expr-F.Var v) (ap is_inline (expr.rolls-Var v) ∙ q) ∙ expr.rolls-Var v

  pub values_cell : (v : Var) (i : Expr) → with_values e (expr.Cell v i) ≡ expr.Cell v (with_values e i)
  values_cell v i = ap W (sym (expr.rolls-Cell v i)) ∙ plain_layer (Expr-F.Cell v i) (inline_is (Expr-F.Cell v i)) ∙ expr.rolls-Cell v (W i)

  pub values_load : (a : Access) → with_values e (expr.Load a) ≡ expr.Load (access_with_values e a)
  values_load a = ap W (sym (expr.rolls-Load a)) ∙ plain_layer (Expr-F.Load a) (inline_is (Expr-F.Load a)) ∙ expr.rolls-Load (access_with_values e a)

  -- ---- flags

  flag_parts : (y : Layer) → is_flag_layer (parts_in e y) ≡ is_flag_layer y
  flag_parts (Expr-F.Num n at) = refl
  flag_parts (Expr-F.Expr::Bool b at) = refl
  flag_parts (Expr-F.Var v) = refl
  flag_parts (Expr-F.Cell v i) = refl
  flag_parts (Expr-F.Load a) = refl
  flag_parts (Expr-F.Neg a at) = refl
  flag_parts (Expr-F.Not a at) = refl
  flag_parts (Expr-F.Cast z s a at) = refl
  flag_parts (Expr-F.Bin o a b at) = refl

  flag_constant : (at : Span) (x : Expr) (c : Option Constant) → is_flag x ≡ false → is_flag (constant_expr at x c) ≡ false
  flag_constant at x None q = q
  flag_constant at x (Some (constant.Int i)) q = ap is_flag (sym (expr.rolls-Num i at)) ∙ ap is_flag_layer (out-roll-Expr (Expr-F.Num i at))
  flag_constant at x (Some (constant.Bool b)) q = ap is_flag (sym (expr.rolls-Bool b at)) ∙ ap is_flag_layer (out-roll-Expr (Expr-F.Expr::Bool b at))

  pub flag_so : (x : Expr) → is_flag (with_values e x) ≡ is_flag x
  flag_so x = by_inline (is_inline x) refl
    where
      by_inline : (b : Bool) → is_inline x ≡ b → is_flag (with_values e x) ≡ is_flag x
      by_inline true q = let f = no_flag x q in ap is_flag (inline_whole x q) ∙ flag_constant (span_of x) x (inline_value e x) f ∙ sym f
      by_inline false q = ap is_flag_layer (out_plain x q) ∙ flag_parts (out-Expr x)

  -- ---- `d op= x`

  -- of an inline right side it is one operation
  pub inline_updated : (op : BinOp) (d x : Expr) (at : Span) (y : Layer) → inline_layer y ≡ true → updated_layer op d x at y ≡ expr.Bin op d x at
  inline_updated op d x at (Expr-F.Num n p) q = refl
  inline_updated op d x at (Expr-F.Expr::Bool b p) q = refl
  inline_updated op d x at (Expr-F.Var v) q = refl
  inline_updated op d x at (Expr-F.Cell v i) q = refl
  inline_updated op d x at (Expr-F.Load a) q = refl
  inline_updated op d x at (Expr-F.Neg a p) q = refl
  inline_updated op d x at (Expr-F.Not a p) q = refl
  inline_updated op d x at (Expr-F.Cast z s a p) q = refl
  inline_updated op d x at (Expr-F.Bin p a c inner) q =
      let k = and_parts (is_inline a) _ q in
      ap (λ b. if carries op p && b then expr.Bin p (expr.Bin op d a at) c at else expr.Bin op d x at) (no_flag c k.1)
      ∙ ap (λ (b : Bool). if b then expr.Bin p (expr.Bin op d a at) c at else expr.Bin op d x at) (and_false (carries op p))

  constant_updated : (op : BinOp) (d x : Expr) (at : Span) (place : Span) (y : Expr) (c : Constant) → updated_layer op d x at (out-Expr (constant_expr place y (Some c))) ≡ expr.Bin op d x at
  constant_updated op d x at place y (constant.Int i) = ap (λ k. updated_layer op d x at (out-Expr k)) (sym (expr.rolls-Num i place)) ∙ ap (updated_layer op d x at) (out-roll-Expr (Expr-F.Num i place))
  constant_updated op d x at place y (constant.Bool b) = ap (λ k. updated_layer op d x at (out-Expr k)) (sym (expr.rolls-Bool b place)) ∙ ap (updated_layer op d x at) (out-roll-Expr (Expr-F.Expr::Bool b place))

  picked : (b : Bool) (p q p2 q2 : Expr) → p2 ≡ with_values e p → q2 ≡ with_values e q → (if b then p2 else q2) ≡ with_values e (if b then p else q)
  picked true p q p2 q2 u v = u
  picked false p q p2 q2 u v = v

  module _ (op : BinOp) (d : Expr) (at : Span) (plain : is_inline d ≡ false) where
    bin_plain : (x : Expr) → is_inline (expr.Bin op d x at) ≡ false
    bin_plain x = inline_bin op d x at ∙ and_first_false (is_inline d) (is_inline x) plain

    plain_updated : (x : Expr) (y : Layer) → updated_layer op (W d) (W x) at (parts_in e y) ≡ W (updated_layer op d x at y)
    plain_updated x (Expr-F.Num n p) = sym (values_bin op d x at (bin_plain x))
    plain_updated x (Expr-F.Expr::Bool b p) = sym (values_bin op d x at (bin_plain x))
    plain_updated x (Expr-F.Var v) = sym (values_bin op d x at (bin_plain x))
    plain_updated x (Expr-F.Cell v i) = sym (values_bin op d x at (bin_plain x))
    plain_updated x (Expr-F.Load a) = sym (values_bin op d x at (bin_plain x))
    plain_updated x (Expr-F.Neg a p) = sym (values_bin op d x at (bin_plain x))
    plain_updated x (Expr-F.Not a p) = sym (values_bin op d x at (bin_plain x))
    plain_updated x (Expr-F.Cast z s a p) = sym (values_bin op d x at (bin_plain x))
    plain_updated x (Expr-F.Bin p a c inner) =
        let outer : is_inline (expr.Bin p (expr.Bin op d a at) c at) ≡ false = inline_bin p (expr.Bin op d a at) c at ∙ and_first_false (is_inline (expr.Bin op d a at)) (is_inline c) (bin_plain a) in
        ap (λ b. if carries op p && b then expr.Bin p (expr.Bin op (W d) (W a) at) (W c) at else expr.Bin op (W d) (W x) at) (flag_so c)
        ∙ picked (carries op p && is_flag c) (expr.Bin p (expr.Bin op d a at) c at) (expr.Bin op d x at) _ _
        (ap (λ k. expr.Bin p k (W c) at) (sym (values_bin op d a at (bin_plain a))) ∙ sym (values_bin p (expr.Bin op d a at) c at outer))
        (sym (values_bin op d x at (bin_plain x)))

    pub updated_so : (x : Expr) → is_inline x ≡ true → is_some (inline_value e x) ≡ true → updated_layer op (W d) (W x) at (out-Expr (W x)) ≡ W (updated_layer op d x at (out-Expr x))
    updated_so x q ok = by_value (inline_value e x) refl ok
      where
        by_value : (c : Option Constant) → inline_value e x ≡ c → is_some c ≡ true → updated_layer op (W d) (W x) at (out-Expr (W x)) ≡ W (updated_layer op d x at (out-Expr x))
        by_value None u k = absurd cc
        by_value (Some c) u k =
            ap (λ y. updated_layer op (W d) (W x) at (out-Expr y)) (inline_whole x q ∙ ap (constant_expr (span_of x) x) u) ∙ constant_updated op (W d) (W x) at (span_of x) x c
            ∙ sym (values_bin op d x at (bin_plain x)) ∙ ap W (sym (inline_updated op d x at (out-Expr x) (sym (inline_out x) ∙ q)))

    pub updated_plain : (x : Expr) → is_inline x ≡ false → updated_layer op (W d) (W x) at (out-Expr (W x)) ≡ W (updated_layer op d x at (out-Expr x))
    updated_plain x q = ap (updated_layer op (W d) (W x) at) (out_plain x q) ∙ plain_updated x (out-Expr x)

-- ---- where all parts have values

module _ (names : InlineNames) (e : KnownNumbers) where
  abbrev H : Expr → Bool
  H x = has_values names e x

  known_out : (x : Expr) → has_values names e x ≡ (if is_inline x then is_known names e x else parts_layer names e (out-Expr x))
  known_out x =
      ap H (sym (roll-out-Expr x)) ∙ known_is names e (out-Expr x)
      ∙ ap (λ k. if is_inline k then is_known names e k else parts_layer names e (out-Expr x)) (roll-out-Expr x)

  -- an inline expression with values has one
  pub inline_some : (x : Expr) → is_inline x ≡ true → has_values names e x ≡ true → (has_no_cell x ≡ true) × (is_some (inline_value e x) ≡ true)
  inline_some x q ok = and_parts (has_no_cell x) _ (ap (λ b. if b then is_known names e x else parts_layer names e (out-Expr x)) (sym q) ∙ sym (known_out x) ∙ ok)

  pub inline_known : (x : Expr) → is_inline x ≡ true → has_no_cell x ≡ true → is_some (inline_value e x) ≡ true → has_values names e x ≡ true
  inline_known x q p r = known_out x ∙ ap (λ b. if b then is_known names e x else parts_layer names e (out-Expr x)) q ∙ and_from (has_no_cell x) (is_some (inline_value e x)) p r

  pub plain_known : (x : Expr) → is_inline x ≡ false → has_values names e x ≡ true → parts_layer names e (out-Expr x) ≡ true
  plain_known x q ok = ap (λ b. if b then is_known names e x else parts_layer names e (out-Expr x)) (sym q) ∙ sym (known_out x) ∙ ok

  pub layer_known : (y : Layer) → is_inline (roll-Expr y) ≡ false → parts_layer names e y ≡ true → has_values names e (roll-Expr y) ≡ true
  layer_known y q ok = known_is names e y ∙ ap (λ b. if b then is_known names e (roll-Expr y) else parts_layer names e y) q ∙ ok

  pub bin_known : (op : BinOp) (a b : Expr) (at : Span) → is_inline (expr.Bin op a b at) ≡ false → has_values names e a ≡ true → has_values names e b ≡ true → has_values names e (expr.Bin op a b at) ≡ true
  bin_known op a b at q p r = ap H (sym (expr.rolls-Bin op a b at)) ∙ layer_known (Expr-F.Bin op a b at) (ap is_inline (expr.rolls-Bin op a b at) ∙ q) (and_from (H a) (H b) p r)

  -- ---- left sides

  -- read, a left side is no inline expression, and its parts have values
  pub record IsReadLeft (x : Expr) : Type 0 where
    pub plain : is_inline x ≡ false
    pub known : has_values names e x ≡ true

  abbrev pub IfReadLeft : Option Expr → Type 0
  IfReadLeft None = Unit {0}
  IfReadLeft (Some x) = IsReadLeft x

  pub left_read : (d : Lval) → left_has_values names e d ≡ true → IfReadLeft (as_expr d)
  left_read (lval.Skip at) ok = tt
  left_read (lval.Var v) ok =
      let p = and_parts (not (is_inline_var names v)) _ ok in let q = not_true (is_inline (expr.Var v)) p.1 in
      record { plain = q; known = ap H (sym (expr.rolls-Var v)) ∙ layer_known (Expr-F.Var v) (ap is_inline (expr.rolls-Var v) ∙ q) p.0 }
  left_read (lval.Cell v i) ok =
      record { plain = ap is_inline (sym (expr.rolls-Cell v i)) ∙ inline_is (Expr-F.Cell v i); known = ap H (sym (expr.rolls-Cell v i)) ∙ layer_known (Expr-F.Cell v i) (inline_is (Expr-F.Cell v i)) ok }
  left_read (lval.Store a) ok =
      record { plain = ap is_inline (sym (expr.rolls-Load a)) ∙ inline_is (Expr-F.Load a); known = ap H (sym (expr.rolls-Load a)) ∙ layer_known (Expr-F.Load a) (inline_is (Expr-F.Load a)) ok }

  pub left_as_expr : (d : Lval) → left_has_values names e d ≡ true → as_expr (left_with_values e d) ≡ option_map (with_values e) (as_expr d)
  left_as_expr (lval.Skip at) ok = refl
  left_as_expr (lval.Var v) ok = ap Some (sym (values_var e v (not_true (is_inline (expr.Var v)) (and_parts (not (is_inline_var names v)) _ ok).1)))
  left_as_expr (lval.Cell v i) ok = ap Some (sym (values_cell e v i))
  left_as_expr (lval.Store a) ok = ap Some (sym (values_load e a))

  pub last_values : (ds : List Lval) → last_left (map (left_with_values e) ds) ≡ option_map (left_with_values e) (last_left ds)
  last_values [] = refl
  last_values (d ∷ []) = refl
  last_values (d ∷ f ∷ ds) = last_values (f ∷ ds)

  pub last_known : (ds : List Lval) → list_all (left_has_values names e) ds ≡ true → (f : Lval) → last_left ds ≡ Some f → left_has_values names e f ≡ true
  last_known [] l f q = absurd cc
  last_known (d ∷ []) l f q = let p : d ≡ f = cc in subst (λ k. left_has_values names e k ≡ true) p (and_parts (left_has_values names e d) _ l).0
  last_known (d ∷ g ∷ ds) l f q = last_known (g ∷ ds) (and_parts (left_has_values names e d) _ l).1 f q

  -- ---- the whole right side

  updated_known : (op : BinOp) (d x : Expr) (at : Span) (y : Layer) → IsReadLeft d → out-Expr x ≡ y → has_values names e x ≡ true → has_values names e (updated_layer op d x at y) ≡ true
  updated_known op d x at (Expr-F.Num n p) r u ok = bin_known op d x at (bin_plain e op d at r.plain x) r.known ok
  updated_known op d x at (Expr-F.Expr::Bool b p) r u ok = bin_known op d x at (bin_plain e op d at r.plain x) r.known ok
  updated_known op d x at (Expr-F.Var v) r u ok = bin_known op d x at (bin_plain e op d at r.plain x) r.known ok
  updated_known op d x at (Expr-F.Cell v i) r u ok = bin_known op d x at (bin_plain e op d at r.plain x) r.known ok
  updated_known op d x at (Expr-F.Load a) r u ok = bin_known op d x at (bin_plain e op d at r.plain x) r.known ok
  updated_known op d x at (Expr-F.Neg a p) r u ok = bin_known op d x at (bin_plain e op d at r.plain x) r.known ok
  updated_known op d x at (Expr-F.Not a p) r u ok = bin_known op d x at (bin_plain e op d at r.plain x) r.known ok
  updated_known op d x at (Expr-F.Cast z s a p) r u ok = bin_known op d x at (bin_plain e op d at r.plain x) r.known ok
  updated_known op d x at (Expr-F.Bin p a c inner) r u ok = by_flag (is_flag c) refl (carries op p)
    where
      Picked : Bool → Expr
      Picked b = if b then expr.Bin p (expr.Bin op d a at) c at else expr.Bin op d x at

      one : has_values names e (expr.Bin op d x at) ≡ true
      one = bin_known op d x at (bin_plain e op d at r.plain x) r.known ok

      plain_flag : is_flag c ≡ true → is_inline x ≡ false
      plain_flag f = by_inline (is_inline x) refl
        where
          by_inline : (b : Bool) → is_inline x ≡ b → b ≡ false
          by_inline false q = refl
          by_inline true q =
              let k : (is_inline a && is_inline c) ≡ true = sym (ap inline_layer u) ∙ sym (inline_out x) ∙ q in
              absurd (let g : is_flag c ≡ false = no_flag c (and_parts (is_inline a) _ k).1 in cc)

      by_flag : (b : Bool) → is_flag c ≡ b → (z : Bool) → has_values names e (Picked (z && is_flag c)) ≡ true
      by_flag false f false = one
      by_flag true f false = one
      by_flag false f true = subst (λ b. has_values names e (Picked (true && b)) ≡ true) (sym f) one
      by_flag true f true =
          let parts : (H a && H c) ≡ true = sym (ap (parts_layer names e) u) ∙ plain_known x (plain_flag f) ok in
          let both = and_parts (H a) _ parts in
          let outer : is_inline (expr.Bin p (expr.Bin op d a at) c at) ≡ false = inline_bin p (expr.Bin op d a at) c at ∙ and_first_false (is_inline (expr.Bin op d a at)) (is_inline c) (bin_plain e op d at r.plain a) in
          subst (λ b. has_values names e (Picked (true && b)) ≡ true) (sym f) (bin_known p (expr.Bin op d a at) c at outer (bin_known op d a at (bin_plain e op d at r.plain a) r.known both.0) both.1)

  abbrev pub IfKnown : Option Expr → Type 0
  IfKnown None = Unit {0}
  IfKnown (Some w) = has_values names e w ≡ true

  pub whole_known : (d : Option Lval) (o : Option BinOp) (x : Expr) → ((f : Lval) → d ≡ Some f → left_has_values names e f ≡ true) → has_values names e x ≡ true → IfKnown (whole_of d o x)
  whole_known d None x h ok = ok
  whole_known None (Some op) x h ok = tt
  whole_known (Some d) (Some op) x h ok = by_expr (as_expr d) (left_read d (h d refl))
    where
      by_expr : (a : Option Expr) → IfReadLeft a → IfKnown (updated a op x (left_span d))
      by_expr None r = tt
      by_expr (Some a) r = updated_known op a x (left_span d) (out-Expr x) r refl ok
