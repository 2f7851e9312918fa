-- Statements with a row keep the classes of their results and operands.
use Rattle.std.proofs.Common.{◌≡◌, ◌⊎◌, inl, inr, ℕ, true, false, ◌&&◌, not, List, [], ◌∷◌, map, Option, Some, None, refl, sym, ap, ◌∙◌, subst}
use Rattle.std.specs.Prelude.{option_map}
use Rattle.std.specs.List.{list_all}
use Rattle.std.proofs.lemmas.Bool.{and_parts}
use Rattle.jz_tree.specs.declared.expr.BinOp.{BinOp}
use Rattle.jz_tree.specs.declared.expr.Expr.{Expr}
use Rattle.jz_tree.specs.declared.expr.Expr.TheVariants as expr
use Rattle.jz_tree.specs.declared.expr.Expr.TheViews.{out-Expr}
use Rattle.jz_tree.specs.declared.stmt.Lval.{Lval}
use Rattle.jz_tree.specs.declared.stmt.Lval.TheVariants as lval
use Rattle.jz_type_names.specs.Kinds.{is_inline}
use Rattle.jz_type_sizes.specs.Signatures.{Signature, instance_signature, signature}
use Rattle.jz_type_sizes.specs.Intrinsics.{size_of_intrinsic}
use Rattle.jz_type_rows.specs.Matching.{is_set_inline, may_be_inline, sets_inline}
use Rattle.jz_integers.specs.Integers.{KnownNumbers}
use Rattle.jz_select.specs.declared.class.Class.TheVariants as class
use Rattle.jz_select.specs.declared.class.Sum.{Sum}
use Rattle.jz_select.specs.Look.{look_of}
use Rattle.jz_select.specs.Operands.{class_of, dest_of}
use Rattle.jz_select.specs.Rows.{is_r, is_rm, is_rmi, is_flag, is_flag_result, is_pinned, is_wide, class_size}
use Rattle.jz_select.specs.Shapes.{Asked, is_test, has_flags, value_layer}
use Rattle.jz_judgement.specs.WellTyped.{Instructs}
use Rattle.jz_meaning.specs.Statements.{assign, instruction, unset, meaningless}
use Rattle.jz_row_laws.proofs.Booleans.{or_parts, or_left, or_right}
use Rattle.jz_unroll.specs.Values.{InlineNames, is_inline_var, with_values, left_with_values, left_has_values}
use Rattle.jz_unroll.proofs.InlineParts.{inline_var}
use Rattle.jz_unroll.proofs.Parts.{not_true}
use Rattle.jz_arrays.specs.Cells.{with_scalars, left_with_scalars}
use Rattle.jz_row_classes.specs.Instructed.{Shape, a_flag, a_word, a_pinned, shapes_of, Form, one_word, two_words, three_words, with_carry, with_count, an_address, a_condition, form_of}
use Rattle.jz_kept_types.proofs.Valuing.{values_turn}
use Rattle.jz_kept_types.proofs.Scaling.{scalars_turn}
use Rattle.jz_kept_types.proofs.Instructed.{size_kept}
use Rattle.jz_kept_classes.specs.Classes.{KeepsClass, the_same}
use Rattle.jz_kept_classes.proofs.Formed.{formed}
use Rattle.jz_kept_classes.proofs.Kept.{test_kept, same_class, Turned, all_kept, operand_kept}
use Rattle.jz_kept_classes.proofs.Turned.{values_turned, scalars_turned, values_keep_classes, scalars_keep_classes}
use Rattle.jz_row_classes.specs.RowClasses.{AreOperands, ValueClassed, IsOneClassed, IsChosen, PairFits, PairValue, Classed, LeftClassed, LeftsClassed, IsInstanceClassed, AreClassed}
use Rattle.jz_kept_rows.specs.KeptRows.{ValuesStayClassed, ScalarsStayClassed}
use Rattle.jz_kept_rows.proofs.Values.{class_at, layer_turned, update_kept}
use Rattle.jz_kept_rows.proofs.Closed.{count_kept, any_operands, operands_closed, inline_row, pairs_closed, inline_no_pair}

module _ (T : Expr → Expr) (K : Turned T) where
  abbrev C : (e : Expr) → KeepsClass (class_of e) (class_of (T e))
  C = class_at T K

  rmi_at : (e : Expr) → is_rmi (class_of e) ≡ true → is_rmi (class_of (T e)) ≡ true
  rmi_at e h = test_kept is_rmi refl (class_of e) (class_of (T e)) (C e) h

  -- ---- one value
  value_stays : (asked : Asked) (d l : Lval) → KeepsClass (dest_of d) (dest_of l) → (o : Option BinOp) (e : Expr) → ValueClassed asked d o e → ValueClassed asked l o (T e)
  value_stays asked d l f None e h =
      elim (K e (formed e)) [
        | inl k ↦ any_operands (class_of (T e)) (value_layer asked l (out-Expr (T e))) (rmi_at e (inline_row asked d e k.inline h))
        | inr t ↦ layer_turned T K (AreOperands (class_of e)) (AreOperands (class_of (T e))) (operands_closed (class_of e) (class_of (T e)) (C e)) asked d l t h
      ]
  value_stays asked d l f (Some o) e h =
      update_kept T K (AreOperands class.Other) (AreOperands class.Other) (operands_closed class.Other class.Other the_same) asked d l f o e h

  pub one_stays : (d l : Lval) → KeepsClass (dest_of d) (dest_of l) → (o : Option BinOp) (e : Expr) → IsOneClassed d o e → IsOneClassed l o (T e)
  one_stays d l f o e r = record {
    to = test_kept is_rm refl (dest_of d) (dest_of l) f r.to;
    asked = r.asked;
    operands = value_stays r.asked d l f o e r.operands;
  }

  pub flags_stay : (c : Expr) → has_flags c ≡ true → has_flags (T c) ≡ true
  flags_stay c h = (all_kept T K c (formed c)).flags h

module _ (T : Expr → Expr) (L : Lval → Lval) (K : Turned T) (F : (d : Lval) → KeepsClass (dest_of d) (dest_of (L d))) where
  chosen_stays : (d : Lval) (e c : Expr) → IsChosen d e c → IsChosen (L d) (T e) (T c)
  chosen_stays d e c r = record {
    to = test_kept is_r refl (dest_of d) (dest_of (L d)) (F d) r.to;
    wide = ap (λ x. is_wide (class_size x)) (same_class is_r refl (dest_of d) (dest_of (L d)) (F d) r.to) ∙ r.wide;
    operand = test_kept is_rm refl (class_of e) (class_of (T e)) (C T K e) r.operand;
    flags = flags_stay T K c r.flags;
  }

  -- ---- two results
  pair_stays : (asked : Asked) (x d : Lval) (o : Option BinOp) (e : Expr) → PairValue asked x d o e → PairValue asked (L x) (L d) o (T e)
  pair_stays asked x d None e h =
      elim (K e (formed e)) [
        | inl k ↦ absurd (inline_no_pair asked (dest_of x) (dest_of d) d e k.inline h)
        | inr t ↦ layer_turned T K (PairFits (dest_of x) (dest_of d)) (PairFits (dest_of (L x)) (dest_of (L d))) (pairs_closed (dest_of x) (dest_of (L x)) (dest_of d) (dest_of (L d)) (F x) (F d)) asked d (L d) t h
      ]
  pair_stays asked x d (Some o) e h =
      update_kept T K (PairFits (dest_of x) (dest_of d)) (PairFits (dest_of (L x)) (dest_of (L d))) (pairs_closed (dest_of x) (dest_of (L x)) (dest_of d) (dest_of (L d)) (F x) (F d)) asked d (L d) (F d) o e h

  pub assign_stays : (to : List Lval) (o : Option BinOp) (e : Expr) (c : Option Expr) → AreClassed to o e c → AreClassed (map L to) o (T e) (option_map T c)
  assign_stays (d ∷ []) o e None h = one_stays T K d (L d) (F d) o e h
  assign_stays (d ∷ []) None e (Some c) h = chosen_stays d e c h
  assign_stays (d ∷ []) (Some o) e (Some c) h = absurd h
  assign_stays (x ∷ d ∷ []) o e None h = record { asked = h.asked; fits = pair_stays h.asked x d o e h.fits }
  assign_stays (x ∷ d ∷ []) o e (Some c) h = absurd h
  assign_stays [] o e c h = absurd h
  assign_stays (x ∷ y ∷ d ∷ ds) o e c h = absurd h

  -- ---- instructions
  left_stays : (h : Shape) (d : Lval) → LeftClassed h d → LeftClassed h (L d)
  left_stays a_flag d t = test_kept is_flag_result refl (dest_of d) (dest_of (L d)) (F d) t
  left_stays (a_word z) d t = test_kept is_rm refl (dest_of d) (dest_of (L d)) (F d) t
  left_stays (a_pinned z) d t = test_kept is_pinned refl (dest_of d) (dest_of (L d)) (F d) t

  lefts_stay : (hs : List Shape) (ds : List Lval) → LeftsClassed hs ds → LeftsClassed hs (map L ds)
  lefts_stay [] [] t = tt
  lefts_stay (h ∷ hs) (d ∷ ds) t = (left_stays h d t.0, lefts_stay hs ds t.1)
  lefts_stay [] (d ∷ ds) t = absurd t
  lefts_stay (h ∷ hs) [] t = absurd t

  flag_at : (e : Expr) → is_flag (class_of e) ≡ true → is_flag (class_of (T e)) ≡ true
  flag_at e h = test_kept is_flag refl (class_of e) (class_of (T e)) (C T K e) h

  sum_at : (e : Expr) → (look_of e).sum.good ≡ true → (look_of (T e)).sum.good ≡ true
  sum_at e h = ap (λ (s : Sum). s.good) ((operand_kept T K e).sum h) ∙ h

  operands_stay : (f : Form) (es : List Expr) → Classed f es → Classed f (map T es)
  operands_stay one_word (a ∷ []) h = rmi_at T K a h
  operands_stay two_words (a ∷ b ∷ []) h = (rmi_at T K a h.0, rmi_at T K b h.1)
  operands_stay three_words (a ∷ b ∷ c ∷ []) h = (rmi_at T K a h.0, rmi_at T K b h.1, rmi_at T K c h.2)
  operands_stay with_carry (a ∷ b ∷ c ∷ []) h = (rmi_at T K a h.0, rmi_at T K b h.1, flag_at c h.2)
  operands_stay with_count (a ∷ n ∷ []) h = (rmi_at T K a h.0, count_kept (class_of n) (class_of (T n)) (C T K n) h.1)
  operands_stay an_address (a ∷ []) h = sum_at a h
  operands_stay a_condition (c ∷ []) h = flags_stay T K c h
  operands_stay f es h = absurd h

  module _ (S : (g : Signature) (to : List Lval) (args : List Expr) → Instructs (Some g) to args → size_of_intrinsic g (map L to) (map T args) ≡ size_of_intrinsic g to args) where
    pub instance_stays : (to : List Lval) (n : List ℕ) (args : List Expr) → Instructs (signature n) to args → IsInstanceClassed to n args → IsInstanceClassed (map L to) n (map T args)
    instance_stays to n args t r =
        let g = instance_signature r.instance in
        let s : size_of_intrinsic g (map L to) (map T args) ≡ size_of_intrinsic g to args = S g to args (subst (λ x. Instructs (option_map instance_signature x) to args) r.is t) in
        record {
          instance = r.instance;
          is = r.is;
          lefts = λ z. lefts_stay (shapes_of r.instance.name z) to (r.lefts z);
          operands = operands_stay (form_of r.instance.name) args r.operands;
          size = λ h. (let z = r.size h in (z.0, s ∙ z.1));
          address = λ h. s ∙ r.address h;
        }

  -- ---- tests
  pub test_stays : (c : Expr) → is_test c ≡ true → is_test (T c) ≡ true
  test_stays c h = by_part (or_parts (has_flags c) (look_of c).condition h)
    where
      by_part : (has_flags c ≡ true) ⊎ ((look_of c).condition ≡ true) → is_test (T c) ≡ true
      by_part (inl t) = or_left (has_flags (T c)) (look_of (T c)).condition (flags_stay T K c t)
      by_part (inr t) = or_right (has_flags (T c)) (look_of (T c)).condition ((all_kept T K c (formed c)).condition t)

-- ---- what sets no inline variable
no_inline_left : (names : InlineNames) (k : KnownNumbers) (d : Lval) → left_has_values names k d ≡ true → is_set_inline d ≡ false
no_inline_left names k (lval.Skip at) h = refl
no_inline_left names k (lval.Var v) h = sym (inline_var v) ∙ not_true (is_inline (expr.Var v)) (and_parts (not (is_inline_var names v)) _ h).1
no_inline_left names k (lval.Cell v i) h = refl
no_inline_left names k (lval.Store a) h = refl

sets_none : (names : InlineNames) (k : KnownNumbers) (to : List Lval) (c : Option Expr) → list_all (left_has_values names k) to ≡ true → sets_inline to c ≡ false
sets_none names k [] c h = refl
sets_none names k (d ∷ []) c h = ap (λ b. b && may_be_inline c) (no_inline_left names k d (and_parts (left_has_values names k d) _ h).0)
sets_none names k (d ∷ b ∷ ds) c h = refl

-- ---- values and words of cells
abbrev values_left : (k : KnownNumbers) (d : Lval) → KeepsClass (dest_of d) (dest_of (left_with_values k d))
values_left k d = (values_keep_classes k).lefts d

abbrev scalars_left : (d : Lval) → KeepsClass (dest_of d) (dest_of (left_with_scalars d))
scalars_left d = scalars_keep_classes.lefts d

pub values_stay_classed : ValuesStayClassed
values_stay_classed names k (assign to o e c at) t r v =
    assign_stays (with_values k) (left_with_values k) (values_turned k) (values_left k) to o e c (r (sets_none names k to c (and_parts (list_all (left_has_values names k) to) _ v).0))
values_stay_classed names k (instruction to n args at) t r v =
    instance_stays (with_values k) (left_with_values k) (values_turned k) (values_left k) (size_kept (with_values k) (left_with_values k) (values_turn k)) to n args t r
values_stay_classed names k (unset vs) t r v = tt
values_stay_classed names k (meaningless at) t r v = absurd r

pub scalars_stay_classed : ScalarsStayClassed
scalars_stay_classed (assign to o e c at) t r = assign_stays with_scalars left_with_scalars scalars_turned scalars_left to o e c r
scalars_stay_classed (instruction to n args at) t r =
    instance_stays with_scalars left_with_scalars scalars_turned scalars_left (size_kept with_scalars left_with_scalars scalars_turn) to n args t r
scalars_stay_classed (unset vs) t r = tt
scalars_stay_classed (meaningless at) t r = absurd r

pub values_test : (k : KnownNumbers) (c : Expr) → is_test c ≡ true → is_test (with_values k c) ≡ true
values_test k c h = test_stays (with_values k) (left_with_values k) (values_turned k) (values_left k) c h

pub scalars_test : (c : Expr) → is_test c ≡ true → is_test (with_scalars c) ≡ true
scalars_test c h = test_stays with_scalars left_with_scalars scalars_turned scalars_left c h
