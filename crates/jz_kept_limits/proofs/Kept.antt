-- Values in place of inline parts pass the limits that those pass.
use Rattle.std.proofs.Common.{◌≡◌, Bool, true, false, Some, None, refl, sym, ap, ◌∙◌}
use Rattle.jz_tree.specs.Size.{Size}
use Rattle.jz_tree.specs.Span.{Span}
use Rattle.jz_tree.specs.declared.expr.Access.{Access}
use Rattle.jz_tree.specs.declared.expr.BinOp.{BinOp}
use Rattle.jz_tree.specs.declared.expr.Decl.{Decl}
use Rattle.jz_tree.specs.declared.expr.Ty.{Ty}
use Rattle.jz_tree.specs.declared.expr.Expr.{Expr}
use Rattle.jz_tree.specs.declared.expr.Expr.TheVariants as expr
use Rattle.jz_tree.specs.declared.expr.Expr.TheOpen.{Access-F}
use Rattle.jz_tree.specs.declared.expr.Expr.TheViews.{out-Var, out-Access}
use Rattle.jz_tree.specs.declared.expr.Var.{Var}
use Rattle.jz_integers.specs.Integers.{KnownNumbers, inline_value, minus, opposite, number}
use Rattle.jz_integers.specs.declared.constant.Constant.{Constant}
use Rattle.jz_integers.specs.declared.constant.Constant.TheVariants as constant
use Rattle.jz_type_names.specs.Kinds.{is_inline, known_of, is_inline_int}
use Rattle.jz_type_names.specs.Parts.{span_of}
use Rattle.jz_meaning.specs.Values.{own_size}
use Rattle.jz_unroll.specs.Values.{constant_expr, with_values, access_with_values}
use Rattle.jz_unroll.proofs.Parts.{inline_whole, values_var, values_cell, values_load}
use Rattle.jz_limits.specs.declared.looked.Asking.{Asking}
use Rattle.jz_limits.specs.Values.{no_numbers}
use Rattle.jz_limits.specs.InnerLooked.{seen_as, look_of, no_part, inner_part, cell_part, load_part, operation_seen}
use Rattle.jz_limits.proofs.Layers.{inline_var, look_num, look_bool, look_var, look_cell, look_load, look_neg, look_not, look_cast, look_bin}
use Rattle.jz_kept_limits.specs.Passing.{Passes}
use Rattle.jz_kept_limits.proofs.ValuedParts.{IsValued, an_inline, a_variable, a_cell, a_load, a_minus, a_denial, a_cast, of_two}
use Rattle.jz_kept_limits.proofs.SizeLemmas.{values_access_out, values_minus, values_denial, values_cast, values_two, values_own}
use Rattle.jz_kept_limits.proofs.Passed.{passes_as, plain, form, no_parts, inner_parts, cell_parts, load_parts, constant_passes, both_pass}

-- where a part of an access or of a cell is asked
abbrev pub part_at : Span → Asking
part_at at = record { place = Some at; size = None }

-- ---- an access of which the address passes
pub load_passes : (e f : KnownNumbers) (q : Asking) (a b : Access) (x : Expr) → (out-Access b).span ≡ (out-Access a).span → (out-Access b).at ≡ x → ((r : Asking) → Passes (look_of e r (out-Access a).at) (look_of f r x))
    → Passes (look_of e q (expr.Load a)) (look_of f q (expr.Load b))
load_passes e f q a b x here is p =
    let at = (out-Access a).span in
    let r = part_at at in
    passes_as (seen_as false None at q (load_part at (look_of e r (out-Access a).at))) (seen_as false None at q (load_part at (look_of f r x))) (look_of e q (expr.Load a)) (look_of f q (expr.Load b))
    (look_load e q a)
    (look_load f q b ∙ ap (λ s. seen_as false None s q (load_part s (look_of f (part_at s) (out-Access b).at))) here
    ∙ ap (λ y. seen_as false None at q (load_part at (look_of f r y))) is)
    (plain None None at at q q (load_part at (look_of e r (out-Access a).at)) (load_part at (look_of f r x)) refl
    (load_parts at (look_of e r (out-Access a).at) (look_of f r x) (p r)))

-- a cell of which the index passes
pub cell_passes : (e f : KnownNumbers) (q : Asking) (v : Var) (i x : Expr) → ((r : Asking) → Passes (look_of e r i) (look_of f r x)) → Passes (look_of e q (expr.Cell v i)) (look_of f q (expr.Cell v x))
cell_passes e f q v i x p =
    let at = (out-Var v).span in
    let r = part_at at in
    passes_as (seen_as false None at q (cell_part v (look_of e r i))) (seen_as false None at q (cell_part v (look_of f r x))) (look_of e q (expr.Cell v i)) (look_of f q (expr.Cell v x))
    (look_cell e q v i) (look_cell f q v x)
    (plain None None at at q q (cell_part v (look_of e r i)) (cell_part v (look_of f r x)) refl (cell_parts v (look_of e r i) (look_of f r x) (p r)))

-- ---- forms of one operand
pub minus_passes : (e f : KnownNumbers) (q : Asking) (a x : Expr) (at : Span) → Passes (look_of e q a) (look_of f q x) → Passes (look_of e q (expr.Neg a at)) (look_of f q (expr.Neg x at))
minus_passes e f q a x at p =
    passes_as (seen_as (is_inline a) (minus (inline_value e a)) at q (inner_part (look_of e q a))) (seen_as (is_inline x) (minus (inline_value f x)) at q (inner_part (look_of f q x)))
    (look_of e q (expr.Neg a at)) (look_of f q (expr.Neg x at)) (look_neg e q a at) (look_neg f q x at)
    (form (is_inline a) (is_inline x) (minus (inline_value e a)) (minus (inline_value f x)) at q (inner_part (look_of e q a)) (inner_part (look_of f q x)) p.inline (ap minus p.value)
    (inner_parts (look_of e q a) (look_of f q x) p))

pub denial_passes : (e f : KnownNumbers) (q : Asking) (a x : Expr) (at : Span) → Passes (look_of e q a) (look_of f q x) → Passes (look_of e q (expr.Not a at)) (look_of f q (expr.Not x at))
denial_passes e f q a x at p =
    passes_as (seen_as (is_inline a) (opposite (inline_value e a)) at q (inner_part (look_of e q a))) (seen_as (is_inline x) (opposite (inline_value f x)) at q (inner_part (look_of f q x)))
    (look_of e q (expr.Not a at)) (look_of f q (expr.Not x at)) (look_not e q a at) (look_not f q x at)
    (form (is_inline a) (is_inline x) (opposite (inline_value e a)) (opposite (inline_value f x)) at q (inner_part (look_of e q a)) (inner_part (look_of f q x)) p.inline (ap opposite p.value)
    (inner_parts (look_of e q a) (look_of f q x) p))

pub cast_passes : (e f : KnownNumbers) (q : Asking) (z : Size) (s : Bool) (a x : Expr) (at : Span) → own_size x ≡ own_size a → ((r : Asking) → Passes (look_of e r a) (look_of f r x))
    → Passes (look_of e q (expr.Cast z s a at)) (look_of f q (expr.Cast z s x at))
cast_passes e f q z s a x at own p =
    let r : Asking = record { place = q.place; size = own_size a } in
    passes_as (seen_as false None at q (inner_part (look_of e r a))) (seen_as false None at q (inner_part (look_of f r x))) (look_of e q (expr.Cast z s a at)) (look_of f q (expr.Cast z s x at))
    (look_cast e q z s a at)
    (look_cast f q z s x at ∙ ap (λ w. seen_as false None at q (inner_part (look_of f (record { place = q.place; size = w }) x))) own)
    (plain None None at at q q (inner_part (look_of e r a)) (inner_part (look_of f r x)) refl (inner_parts (look_of e r a) (look_of f r x) (p r)))

pub two_pass : (e f : KnownNumbers) (q : Asking) (o : BinOp) (a b x y : Expr) (at : Span) → Passes (look_of e q a) (look_of f q x) → Passes (look_of e q b) (look_of f q y)
    → Passes (look_of e q (expr.Bin o a b at)) (look_of f q (expr.Bin o x y at))
two_pass e f q o a b x y at p r =
    passes_as (operation_seen q o at (look_of e q a) (look_of e q b)) (operation_seen q o at (look_of f q x) (look_of f q y)) (look_of e q (expr.Bin o a b at)) (look_of f q (expr.Bin o x y at))
    (look_bin e q o a b at) (look_bin f q o x y at) (both_pass q o at (look_of e q a) (look_of e q b) (look_of f q x) (look_of f q y) p r)

-- ---- values
module _ (k : KnownNumbers) where
  abbrev pub Kept : Expr → Type 0
  Kept e = (q : Asking) → Passes (look_of k q e) (look_of no_numbers q (with_values k e))

  kept_as : (q : Asking) (e w : Expr) → with_values k e ≡ w → Passes (look_of k q e) (look_of no_numbers q w) → Passes (look_of k q e) (look_of no_numbers q (with_values k e))
  kept_as q e w t p = passes_as (look_of k q e) (look_of no_numbers q w) (look_of k q e) (look_of no_numbers q (with_values k e)) refl (ap (look_of no_numbers q) t) p

  constant_kept : (e : Expr) (c : Constant) → is_inline e ≡ true → inline_value k e ≡ Some c → Kept e
  constant_kept e (constant.Int i) h v q =
      kept_as q e (expr.Num i (span_of e)) (inline_whole k e h ∙ ap (constant_expr (span_of e) e) v)
      (passes_as (look_of k q e) (seen_as true (Some (constant.Int i)) (span_of e) q no_part) (look_of k q e) (look_of no_numbers q (expr.Num i (span_of e))) refl (look_num no_numbers q i (span_of e))
      (constant_passes k q e (constant.Int i) (span_of e) h v))
  constant_kept e (constant.Bool b) h v q =
      kept_as q e (expr.Bool b (span_of e)) (inline_whole k e h ∙ ap (constant_expr (span_of e) e) v)
      (passes_as (look_of k q e) (seen_as true (Some (constant.Bool b)) (span_of e) q no_part) (look_of k q e) (look_of no_numbers q (expr.Bool b (span_of e))) refl (look_bool no_numbers q b (span_of e))
      (constant_passes k q e (constant.Bool b) (span_of e) h v))

  variable_kept : (v : Var) → is_inline (expr.Var v) ≡ false → k (out-Var v).name (out-Var v).copy ≡ None → Kept (expr.Var v)
  variable_kept v n u q =
      let at = (out-Var v).span in
      let known = number (k (out-Var v).name (out-Var v).copy) in
      let plain_var : is_inline_int (known_of v) ≡ false = sym (inline_var v) ∙ n in
      kept_as q (expr.Var v) (expr.Var v) (values_var k v n)
      (passes_as (seen_as false known at q no_part) (seen_as false (number None) at q no_part) (look_of k q (expr.Var v)) (look_of no_numbers q (expr.Var v))
      (look_var k q v ∙ ap (λ b. seen_as b known at q no_part) plain_var) (look_var no_numbers q v ∙ ap (λ b. seen_as b (number None) at q no_part) plain_var)
      (plain known (number None) at at q q no_part no_part (ap number (sym u)) no_parts))

  pub kept : (e : Expr) → IsValued k e → Kept e
  kept e (an_inline e2 c h v) q = constant_kept e c h v q
  kept e (a_variable v n u) q = variable_kept v n u q
  kept e (a_cell v i x) q = kept_as q (expr.Cell v i) (expr.Cell v (with_values k i)) (values_cell k v i) (cell_passes k no_numbers q v i (with_values k i) (kept i x))
  kept e (a_load a x) q =
      kept_as q (expr.Load a) (expr.Load (access_with_values k a)) (values_load k a)
      (load_passes k no_numbers q a (access_with_values k a) (with_values k (out-Access a).at) (ap (λ (m : Access-F Expr Ty Access Decl Var). m.span) (values_access_out k a))
      (ap (λ (m : Access-F Expr Ty Access Decl Var). m.at) (values_access_out k a)) (kept (out-Access a).at x))
  kept e (a_minus a at n x) q = kept_as q (expr.Neg a at) (expr.Neg (with_values k a) at) (values_minus k a at n) (minus_passes k no_numbers q a (with_values k a) at (kept a x q))
  kept e (a_denial a at n x) q = kept_as q (expr.Not a at) (expr.Not (with_values k a) at) (values_denial k a at n) (denial_passes k no_numbers q a (with_values k a) at (kept a x q))
  kept e (a_cast z s a at x) q =
      kept_as q (expr.Cast z s a at) (expr.Cast z s (with_values k a) at) (values_cast k z s a at) (cast_passes k no_numbers q z s a (with_values k a) at (values_own k a x) (kept a x))
  kept e (of_two o a b at n x y) q =
      kept_as q (expr.Bin o a b at) (expr.Bin o (with_values k a) (with_values k b) at) (values_two k o a b at n)
      (two_pass k no_numbers q o a b (with_values k a) (with_values k b) at (kept a x q) (kept b y q))
