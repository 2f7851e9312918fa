-- What is found of an expression of each form.
use Rattle.std.proofs.Common.{◌≡◌, Bool, true, false, List, [], ◌∷◌, ◌++◌, Option, Some, None, refl, sym, ap, ◌∙◌, subst, if◌then◌else◌}
use Rattle.std.specs.Prelude.{ℤ, ◌&&◌, ◌||◌, pos, is_some, option_map, option_to_list}
use Rattle.jz_tree.specs.Span.{Span}
use Rattle.jz_tree.specs.Size.{Size}
use Rattle.jz_tree.specs.declared.expr.BinOp.{BinOp}
use Rattle.jz_tree.specs.declared.expr.BinOp.TheVariants as op
use Rattle.jz_tree.specs.declared.expr.Storage.{Storage}
use Rattle.jz_tree.specs.declared.expr.Expr.{Expr}
use Rattle.jz_tree.specs.declared.expr.Expr.TheVariants as expr
use Rattle.jz_tree.specs.declared.expr.Ty.{Ty}
use Rattle.jz_tree.specs.declared.expr.Access.{Access}
use Rattle.jz_tree.specs.declared.expr.Decl.{Decl}
use Rattle.jz_tree.specs.declared.expr.Var.{Var}
use Rattle.jz_tree.specs.declared.expr.Expr.TheOpen.{Expr-F, Ty-F, Access-F, Decl-F, Var-F}
use Rattle.jz_tree.specs.declared.expr.Expr.TheViews.{out-Expr, out-roll-Expr, roll-Expr, roll-Ty, out-Ty, roll-out-Ty, out-Access, roll-Access, roll-out-Access, roll-Decl, out-Var, out-roll-Var, roll-Var, roll-out-Var}
use Rattle.jz_tree.specs.declared.expr.Expr.TheFolds.{fold-Ty, fold-Access, fold-Decl, fold-Var, fold-roll-Expr, fold-roll-Ty, fold-roll-Decl, fold-roll-Var, para-Access, para-roll-Expr, para-roll-Access, ind-Decl, map-Expr, map-Ty, map-Access, map-Var}
use Rattle.jz_tree.specs.Operators.{is_shift}
use Rattle.jz_integers.specs.Integers.{KnownNumbers, inline_value, value_step, the_number, joined, minus, opposite, number}
use Rattle.jz_integers.specs.declared.constant.Constant.{Constant}
use Rattle.jz_integers.specs.declared.constant.Constant.TheVariants as constant
use Rattle.jz_type_names.specs.declared.kinds.Kind.{Kind}
use Rattle.jz_type_names.specs.declared.kinds.Declared.{Declared}
use Rattle.jz_type_names.specs.Kinds.{Known, kind_step, declared_step, known_step, inline_step, is_inline, is_inline_int, is_register_array, kind_of, declared_of, known_of}
use Rattle.jz_type_names.specs.Parts.{span_layer, span_of}
use Rattle.jz_meaning.specs.Values.{Meaning, size_of, expr_step, ty_step, access_step as meaning_access, decl_step, var_step, ref_of, own_size}
use Rattle.jz_limits.specs.Limits.{Limit}
use Rattle.jz_limits.specs.declared.limit.Limit.TheVariants.{InlineWidth, ImmRange}
use Rattle.jz_limits.specs.declared.looked.Asking.{Asking}
use Rattle.jz_limits.specs.Asked.{Told, Beside, unless, AccessBeside, whole, place_or, no_value, immediate, bad_count, has_index, has_fields, or_zero, has_immediate, is_count, cell_range, index_fields, counted, scale_of, told_as, told_step, access_step, told, part_widths, part_ranges, part_operands, part_terms, part_scales}
use Rattle.jz_limits.specs.InnerLooked.{first, sooner, if_not, are_scales, Seen, Part, seen_as, part_of, look_of, no_part, inner_part, range_of, index_field, address_field, cell_part, load_part, count_field, scale_value, product_scaled, operation_terms, operation_scaled, operation_part, operation_seen}
use Rattle.jz_limits.proofs.Sides.{first_both, first_unless, first_if, scales_both, scale_one}

abbrev Layer : Type 0
Layer = Expr-F Expr Ty Access Decl Var

-- ---- whether a variable is inline, by the definition's folds

abbrev ty_inline : Ty → Kind
ty_inline = fold-Ty Bool Kind Bool Declared Known inline_step kind_step (λ a. a.at) declared_step known_step

abbrev decl_inline : Decl → Declared
decl_inline = fold-Decl Bool Kind Bool Declared Known inline_step kind_step (λ a. a.at) declared_step known_step

abbrev var_inline : Var → Known
var_inline = fold-Var Bool Kind Bool Declared Known inline_step kind_step (λ a. a.at) declared_step known_step

abbrev access_inline : Access → Bool
access_inline = fold-Access Bool Kind Bool Declared Known inline_step kind_step (λ a. a.at) declared_step known_step

kind_inline : (x : Ty-F Expr Ty Access Decl Var) → kind_step (map-Ty _ _ _ _ _ Bool Kind Bool Declared Known is_inline ty_inline access_inline decl_inline var_inline x) ≡ kind_step x
kind_inline Ty-F.Int = refl
kind_inline Ty-F.Ty::Bool = refl
kind_inline (Ty-F.Word z) = refl
kind_inline (Ty-F.Array z n) = refl

ty_kind : (t : Ty) → ty_inline t ≡ kind_of t
ty_kind t = ap ty_inline (sym (roll-out-Ty t)) ∙ fold-roll-Ty Bool Kind Bool Declared Known inline_step kind_step (λ a. a.at) declared_step known_step (out-Ty t) ∙ kind_inline (out-Ty t)

abbrev declaring : Storage → Kind → Declared
declaring s k = record { storage = s; kind = k }

decl_case : (x : Decl-F Expr Ty Access Decl Var) → decl_inline (roll-Decl x) ≡ declared_of (roll-Decl x)
decl_case x = fold-roll-Decl Bool Kind Bool Declared Known inline_step kind_step (λ a. a.at) declared_step known_step x ∙ ap (declaring x.storage) (ty_kind x.ty)

decl_declared : (d : Decl) → decl_inline d ≡ declared_of d
decl_declared =
    ind-Decl (λ e. Unit {0}) (λ t. Unit {0}) (λ a. Unit {0}) (λ d. decl_inline d ≡ declared_of d) (λ v. Unit {0})
    (λ x y is. tt) (λ x y is. tt) (λ x y is. tt) (λ x y is. decl_case x) (λ x y is. tt)

abbrev var_layer : Var-F Expr Ty Access Decl Var → Known
var_layer x = known_step (map-Var _ _ _ _ _ Bool Kind Bool Declared Known is_inline ty_inline access_inline decl_inline var_inline x)

abbrev declared : Var-F Expr Ty Access Decl Var → Known
declared x = option_map declared_of x.decl

by_decl : (x : Var-F Expr Ty Access Decl Var) → var_layer x ≡ declared x
by_decl x = elim x.decl as (λ d. var_layer (record x { decl = d }) ≡ declared (record x { decl = d })) [ None ↦ refl | Some d ↦ ap (λ (z : Declared). Some z) (decl_declared d) ]

var_case : (x : Var-F Expr Ty Access Decl Var) → var_inline (roll-Var x) ≡ known_of (roll-Var x)
var_case x = fold-roll-Var Bool Kind Bool Declared Known inline_step kind_step (λ a. a.at) declared_step known_step x ∙ by_decl x ∙ ap declared (sym (out-roll-Var x))

var_known : (v : Var) → var_inline v ≡ known_of v
var_known v = subst (λ w. var_inline w ≡ known_of w) (roll-out-Var v) (var_case (out-Var v))

inline_is : (y : Layer) → is_inline (roll-Expr y) ≡ inline_step (map-Expr _ _ _ _ _ Bool Kind Bool Declared Known is_inline ty_inline access_inline decl_inline var_inline y)
inline_is y = fold-roll-Expr Bool Kind Bool Declared Known inline_step kind_step (λ a. a.at) declared_step known_step y

pub inline_var : (v : Var) → is_inline (expr.Var v) ≡ is_inline_int (known_of v)
inline_var v = ap is_inline (sym (expr.rolls-Var v)) ∙ (inline_is (Expr-F.Var v) ∙ ap is_inline_int (var_known v))

pub own_var : (v : Var) → own_size (expr.Var v) ≡ size_of (ref_of v).kind
own_var v = ap own_size (sym (expr.rolls-Var v)) ∙ ap (λ (m : Meaning). m.size) (fold-roll-Expr _ _ _ _ _ expr_step ty_step meaning_access decl_step var_step (Expr-F.Var v))

module _ (e : KnownNumbers) where
  -- ---- values

  abbrev number_at : Var → Option ℤ
  number_at = fold-Var _ _ _ _ _ value_step (λ t. tt) (λ a. tt) (λ d. tt) (λ v. e v.name v.copy)

  number_known : (v : Var) → number_at v ≡ e (out-Var v).name (out-Var v).copy
  number_known v = ap number_at (sym (roll-out-Var v)) ∙ fold-roll-Var _ _ _ _ _ value_step (λ t. tt) (λ a. tt) (λ d. tt) (λ v. e v.name v.copy) (out-Var v)

  abbrev Nothing : Type 0
  Nothing = Unit {0}

  value_is : (y : Layer) → inline_value e (roll-Expr y) ≡ value_step (map-Expr _ _ _ _ _ (Option Constant) Nothing Nothing Nothing (Option ℤ) (inline_value e) (λ t. tt) (λ a. tt) (λ d. tt) number_at y)
  value_is y = fold-roll-Expr _ _ _ _ _ value_step (λ t. tt) (λ a. tt) (λ d. tt) (λ v. e v.name v.copy) y

  pub value_var : (v : Var) → inline_value e (expr.Var v) ≡ number (e (out-Var v).name (out-Var v).copy)
  value_var v = ap (inline_value e) (sym (expr.rolls-Var v)) ∙ value_is (Expr-F.Var v) ∙ ap number (number_known v)

  -- ---- what is told

  abbrev told_access : Access → Told
  told_access = para-Access Told (Unit {0}) Told (Unit {0}) (Unit {0}) (told_step e) (λ t. tt) (access_step e) (λ d. tt) (λ v. tt)

  abbrev paired : Layer → Beside
  paired y = map-Expr _ _ _ _ _ _ _ _ _ _ (λ x. (x, told e x)) (λ t. (t, tt)) (λ a. (a, told_access a)) (λ d. (d, tt)) (λ v. (v, tt)) y

  told_is : (y : Layer) → told e (roll-Expr y) ≡ told_step e (paired y)
  told_is y = para-roll-Expr Told (Unit {0}) Told (Unit {0}) (Unit {0}) (told_step e) (λ t. tt) (access_step e) (λ d. tt) (λ v. tt) y

  abbrev access_paired : Access-F Expr Ty Access Decl Var → AccessBeside
  access_paired y = map-Access _ _ _ _ _ _ _ _ _ _ (λ x. (x, told e x)) (λ t. (t, tt)) (λ a. (a, told_access a)) (λ d. (d, tt)) (λ v. (v, tt)) y

  access_is : (a : Access) → told_access a ≡ access_step e (access_paired (out-Access a))
  access_is a = ap told_access (sym (roll-out-Access a)) ∙ para-roll-Access Told (Unit {0}) Told (Unit {0}) (Unit {0}) (told_step e) (λ t. tt) (access_step e) (λ d. tt) (λ v. tt) (out-Access a)

  whole_is : (y : Layer) → whole (paired y) ≡ roll-Expr y
  whole_is (Expr-F.Num n at) = refl
  whole_is (Expr-F.Expr::Bool b at) = refl
  whole_is (Expr-F.Var v) = refl
  whole_is (Expr-F.Cell v i) = refl
  whole_is (Expr-F.Load a) = refl
  whole_is (Expr-F.Neg a at) = refl
  whole_is (Expr-F.Not a at) = refl
  whole_is (Expr-F.Cast z s a at) = refl
  whole_is (Expr-F.Bin o a b at) = refl

  -- ---- what is found, by what is told

  abbrev seen_in : Bool → Option Constant → Span → Asking → Told → Seen
  seen_in i v at q t =
      record {
        span = at;
        inline = i;
        value = v;
        width = first (t.widths q.place);
        range = first t.ranges;
        operand = first (t.operands q.size);
        terms = t.terms;
        scaled = are_scales t.scales;
      }

  abbrev inline_seen : Option Constant → Span → Asking → Beside → Option Limit → Option Limit → Seen
  inline_seen v at q x w o =
      record {
        span = at;
        inline = true;
        value = v;
        width = w;
        range = first (part_ranges e x);
        operand = o;
        terms = or_zero (the_number v);
        scaled = true;
      }

  seen_told : (i : Bool) (v : Option Constant) (at : Span) (q : Asking) (x : Beside) → seen_in i v at q (told_as e i v at x) ≡ seen_as i v at q (part_of e q x)
  seen_told true v at q x =
      ap (λ w. inline_seen v at q x w (first (immediate q.size v at))) (first_unless (is_some v) (InlineWidth (place_or q.place at)))
      ∙ ap (inline_seen v at q x (if_not (is_some v) (InlineWidth (place_or q.place at)))) (first_unless (has_immediate q.size (the_number v)) (ImmRange at))
  seen_told false v at q x = refl

  look_is : (q : Asking) (y : Layer) (i : Bool) (v : Option Constant) → is_inline (roll-Expr y) ≡ i → inline_value e (roll-Expr y) ≡ v → look_of e q (roll-Expr y) ≡ seen_as i v (span_layer y) q (part_of e q (paired y))
  look_is q y i v hi hv =
      let x = roll-Expr y in
      ap (seen_in (is_inline x) (inline_value e x) (span_of x) q) (told_is y ∙ ap (λ w. told_as e (is_inline w) (inline_value e w) (span_of w) (paired y)) (whole_is y))
      ∙ (seen_told (is_inline x) (inline_value e x) (span_of x) q (paired y)
      ∙ (ap (λ k. seen_as k (inline_value e x) (span_of x) q (part_of e q (paired y))) hi
      ∙ (ap (λ k. seen_as i k (span_of x) q (part_of e q (paired y))) hv
      ∙ ap (λ k. seen_as i v (span_layer k) q (part_of e q (paired y))) (out-roll-Expr y))))

  -- ---- the parts of each form

  abbrev parted : Option Limit → Option Limit → Option Limit → ℤ → Bool → Part
  parted w r o t s = record { width = w; range = r; operand = o; terms = t; scaled = s }

  cell_is : (q : Asking) (v : Var) (i : Expr) → part_of e q (paired (Expr-F.Cell v i)) ≡ cell_part v (look_of e (record { place = Some (out-Var v).span; size = None }) i)
  cell_is q v i =
      let w = first ((told e i).widths (Some (out-Var v).span)) in
      ap (λ r. parted w r (first (index_fields v (told e i))) (pos 0) true) (first_both (cell_range v (inline_value e i)) (told e i).ranges)
      ∙ ap (λ o. parted w (sooner (range_of v (inline_value e i)) (first (told e i).ranges)) o (pos 0) true)
      (first_unless (is_register_array (known_of v) || has_index (ref_of v).kind (told e i).terms) (ImmRange (out-Var v).span))

  load_is : (q : Asking) (a : Access) → part_of e q (paired (Expr-F.Load a)) ≡ load_part (out-Access a).span (look_of e (record { place = Some (out-Access a).span; size = None }) (out-Access a).at)
  load_is q a =
      let t = told e (out-Access a).at in
      ap (λ (s : Told). parted (first (s.widths q.place)) (first s.ranges) (first (s.operands q.size)) (pos 0) true) (access_is a)
      ∙ ap (λ o. parted (first (t.widths (Some (out-Access a).span))) (first t.ranges) o (pos 0) true) (first_unless (has_fields t) (ImmRange (out-Access a).span))

  -- ---- operations

  abbrev AllTerms : BinOp → Type 0
  AllTerms o = (q : Asking) (a b : Expr) (at : Span) → part_terms e (paired (Expr-F.Bin o a b at)) ≡ operation_terms o (look_of e q a) (look_of e q b)

  abbrev AllScales : BinOp → Type 0
  AllScales o = (q : Asking) (a b : Expr) (at : Span) → are_scales (part_scales e (paired (Expr-F.Bin o a b at))) ≡ operation_scaled o (look_of e q a) (look_of e q b)

  scales_by : (i j : Bool) (a b : Option ℤ) (xs : List ℤ) → xs ≡ (if i then option_to_list a else if j then option_to_list b else []) → are_scales xs ≡ (if i then scale_value a else if j then scale_value b else true)
  scales_by true j a b xs h = ap are_scales h ∙ scale_one a
  scales_by false true a b xs h = ap are_scales h ∙ scale_one b
  scales_by false false a b xs h = ap are_scales h

  terms_is : (o : BinOp) → AllTerms o
  terms_is op.OrElse q a b at = refl
  terms_is op.AndThen q a b at = refl
  terms_is op.Or q a b at = refl
  terms_is op.Xor q a b at = refl
  terms_is op.And q a b at = refl
  terms_is op.Eq q a b at = refl
  terms_is op.Ne q a b at = refl
  terms_is op.Lt q a b at = refl
  terms_is op.Le q a b at = refl
  terms_is op.Gt q a b at = refl
  terms_is op.Ge q a b at = refl
  terms_is op.LtS q a b at = refl
  terms_is op.LeS q a b at = refl
  terms_is op.GtS q a b at = refl
  terms_is op.GeS q a b at = refl
  terms_is op.Shl q a b at = refl
  terms_is op.Shr q a b at = refl
  terms_is op.Sar q a b at = refl
  terms_is op.Rol q a b at = refl
  terms_is op.Ror q a b at = refl
  terms_is op.Add q a b at = refl
  terms_is op.Sub q a b at = refl
  terms_is op.Mul q a b at = refl
  terms_is op.Div q a b at = refl
  terms_is op.Rem q a b at = refl
  terms_is op.DivS q a b at = refl
  terms_is op.RemS q a b at = refl

  scales_is : (o : BinOp) → AllScales o
  scales_is op.OrElse q a b at = refl
  scales_is op.AndThen q a b at = refl
  scales_is op.Or q a b at = refl
  scales_is op.Xor q a b at = refl
  scales_is op.And q a b at = refl
  scales_is op.Eq q a b at = refl
  scales_is op.Ne q a b at = refl
  scales_is op.Lt q a b at = refl
  scales_is op.Le q a b at = refl
  scales_is op.Gt q a b at = refl
  scales_is op.Ge q a b at = refl
  scales_is op.LtS q a b at = refl
  scales_is op.LeS q a b at = refl
  scales_is op.GtS q a b at = refl
  scales_is op.GeS q a b at = refl
  scales_is op.Shl q a b at = refl
  scales_is op.Shr q a b at = refl
  scales_is op.Sar q a b at = refl
  scales_is op.Rol q a b at = refl
  scales_is op.Ror q a b at = refl
  scales_is op.Add q a b at = scales_both (told e a).scales (told e b).scales
  scales_is op.Sub q a b at = refl
  scales_is op.Mul q a b at = scales_by (is_inline a) (is_inline b) (the_number (inline_value e a)) (the_number (inline_value e b)) (scale_of e a b) refl
  scales_is op.Div q a b at = refl
  scales_is op.Rem q a b at = refl
  scales_is op.DivS q a b at = refl
  scales_is op.RemS q a b at = refl

  pub count_is : (i : Bool) (fine : Bool) (l : Limit) (parts : List Limit) → first (if i then unless fine l else parts) ≡ (if i then if_not fine l else first parts)
  count_is true fine l parts = first_unless fine l
  count_is false fine l parts = refl

  behind_is : (sh : Bool) (q : Asking) (b : Expr) → first (if sh then counted e q.size b ((told e b).operands q.size) else (told e b).operands q.size) ≡ (if sh then count_field q.size (look_of e q b) else first ((told e b).operands q.size))
  behind_is true q b = count_is (is_inline b) (is_count q.size (the_number (inline_value e b))) (ImmRange (span_of b)) ((told e b).operands q.size)
  behind_is false q b = refl

  bin_is : (o : BinOp) (q : Asking) (a b : Expr) (at : Span) → part_of e q (paired (Expr-F.Bin o a b at)) ≡ operation_part o q.size (look_of e q a) (look_of e q b)
  bin_is o q a b at =
      let x = told e a in
      let y = told e b in
      let z = paired (Expr-F.Bin o a b at) in
      let ws = sooner (first (x.widths q.place)) (first (y.widths q.place)) in
      let rs = sooner (first x.ranges) (first y.ranges) in
      let second = (if is_shift o then counted e q.size b (y.operands q.size) else y.operands q.size) in
      let os = sooner (first (x.operands q.size)) (if is_shift o then count_field q.size (look_of e q b) else first (y.operands q.size)) in
      ap (λ w. parted w (first (part_ranges e z)) (first (part_operands e z q.size)) (part_terms e z) (are_scales (part_scales e z))) (first_both (x.widths q.place) (y.widths q.place))
      ∙ (ap (λ r. parted ws r (first (part_operands e z q.size)) (part_terms e z) (are_scales (part_scales e z))) (first_both x.ranges y.ranges)
      ∙ (ap (λ p. parted ws rs p (part_terms e z) (are_scales (part_scales e z))) (first_both (x.operands q.size) second ∙ ap (sooner (first (x.operands q.size))) (behind_is (is_shift o) q b))
      ∙ (ap (λ t. parted ws rs os t (are_scales (part_scales e z))) (terms_is o q a b at)
      ∙ ap (parted ws rs os (operation_terms o (look_of e q a) (look_of e q b))) (scales_is o q a b at))))

  -- ---- each form

  pub look_num : (q : Asking) (n : ℤ) (at : Span) → look_of e q (expr.Num n at) ≡ seen_as true (Some (constant.Int n)) at q no_part
  look_num q n at = ap (look_of e q) (sym (expr.rolls-Num n at)) ∙ look_is q (Expr-F.Num n at) true (Some (constant.Int n)) (inline_is (Expr-F.Num n at)) (value_is (Expr-F.Num n at))

  pub look_bool : (q : Asking) (b : Bool) (at : Span) → look_of e q (expr.Bool b at) ≡ seen_as true (Some (constant.Bool b)) at q no_part
  look_bool q b at = ap (look_of e q) (sym (expr.rolls-Bool b at)) ∙ look_is q (Expr-F.Expr::Bool b at) true (Some (constant.Bool b)) (inline_is (Expr-F.Expr::Bool b at)) (value_is (Expr-F.Expr::Bool b at))

  pub look_var : (q : Asking) (v : Var) → look_of e q (expr.Var v) ≡ seen_as (is_inline_int (known_of v)) (number (e (out-Var v).name (out-Var v).copy)) (out-Var v).span q no_part
  look_var q v =
      ap (look_of e q) (sym (expr.rolls-Var v))
      ∙ look_is q (Expr-F.Var v) (is_inline_int (known_of v)) (number (e (out-Var v).name (out-Var v).copy)) (inline_is (Expr-F.Var v) ∙ ap is_inline_int (var_known v)) (value_is (Expr-F.Var v) ∙ ap number (number_known v))

  pub look_cell : (q : Asking) (v : Var) (i : Expr) → look_of e q (expr.Cell v i) ≡ seen_as false None (out-Var v).span q (cell_part v (look_of e (record { place = Some (out-Var v).span; size = None }) i))
  look_cell q v i =
      ap (look_of e q) (sym (expr.rolls-Cell v i))
      ∙ (look_is q (Expr-F.Cell v i) false None (inline_is (Expr-F.Cell v i)) (value_is (Expr-F.Cell v i)) ∙ ap (seen_as false None (out-Var v).span q) (cell_is q v i))

  pub look_load : (q : Asking) (a : Access) → look_of e q (expr.Load a) ≡ seen_as false None (out-Access a).span q (load_part (out-Access a).span (look_of e (record { place = Some (out-Access a).span; size = None }) (out-Access a).at))
  look_load q a =
      ap (look_of e q) (sym (expr.rolls-Load a))
      ∙ (look_is q (Expr-F.Load a) false None (inline_is (Expr-F.Load a)) (value_is (Expr-F.Load a)) ∙ ap (seen_as false None (out-Access a).span q) (load_is q a))

  pub look_neg : (q : Asking) (a : Expr) (at : Span) → look_of e q (expr.Neg a at) ≡ seen_as (is_inline a) (minus (inline_value e a)) at q (inner_part (look_of e q a))
  look_neg q a at = ap (look_of e q) (sym (expr.rolls-Neg a at)) ∙ look_is q (Expr-F.Neg a at) (is_inline a) (minus (inline_value e a)) (inline_is (Expr-F.Neg a at)) (value_is (Expr-F.Neg a at))

  pub look_not : (q : Asking) (a : Expr) (at : Span) → look_of e q (expr.Not a at) ≡ seen_as (is_inline a) (opposite (inline_value e a)) at q (inner_part (look_of e q a))
  look_not q a at = ap (look_of e q) (sym (expr.rolls-Not a at)) ∙ look_is q (Expr-F.Not a at) (is_inline a) (opposite (inline_value e a)) (inline_is (Expr-F.Not a at)) (value_is (Expr-F.Not a at))

  pub look_cast : (q : Asking) (z : Size) (s : Bool) (a : Expr) (at : Span) → look_of e q (expr.Cast z s a at) ≡ seen_as false None at q (inner_part (look_of e (record { place = q.place; size = own_size a }) a))
  look_cast q z s a at = ap (look_of e q) (sym (expr.rolls-Cast z s a at)) ∙ look_is q (Expr-F.Cast z s a at) false None (inline_is (Expr-F.Cast z s a at)) (value_is (Expr-F.Cast z s a at))

  pub look_bin : (q : Asking) (o : BinOp) (a b : Expr) (at : Span) → look_of e q (expr.Bin o a b at) ≡ operation_seen q o at (look_of e q a) (look_of e q b)
  look_bin q o a b at =
      ap (look_of e q) (sym (expr.rolls-Bin o a b at))
      ∙ (look_is q (Expr-F.Bin o a b at) (is_inline a && is_inline b) (joined o (inline_value e a) (inline_value e b)) (inline_is (Expr-F.Bin o a b at)) (value_is (Expr-F.Bin o a b at))
      ∙ ap (seen_as (is_inline a && is_inline b) (joined o (inline_value e a) (inline_value e b)) at q) (bin_is o q a b at))
