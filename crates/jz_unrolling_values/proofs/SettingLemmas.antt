-- What sets one inline variable.
use Rattle.std.proofs.Common.{◌≡◌, Bool, false, List, [], ◌∷◌, length, slice_get, Option, Some, None, true, refl, ap, sym, ◌∙◌, arith}
use Rattle.std.specs.Prelude.{ℤ, is_none}
use Rattle.std.proofs.lemmas.Bool.{and_parts, and_from}
use Rattle.jz_tree.specs.Span.{Span}
use Rattle.jz_tree.specs.declared.expr.BinOp.{BinOp}
use Rattle.jz_tree.specs.declared.expr.Expr.{Expr}
use Rattle.jz_tree.specs.declared.expr.Expr.TheOpen.{Expr-F}
use Rattle.jz_tree.specs.declared.expr.Expr.TheVariants as expr
use Rattle.jz_tree.specs.declared.expr.Expr.TheViews.{out-Expr, out-Var, roll-out-Expr}
use Rattle.jz_tree.specs.declared.expr.Var.{Var}
use Rattle.jz_tree.specs.declared.stmt.Lval.{Lval}
use Rattle.jz_type_names.specs.Kinds.{is_inline}
use Rattle.jz_integers.specs.Integers.{KnownNumbers, inline_value, number, joined}
use Rattle.jz_integers.specs.declared.constant.Constant.{Constant}
use Rattle.jz_integers.specs.declared.constant.Constant.TheVariants as constant
use Rattle.jz_meaning.specs.Values.{ref_of}
use Rattle.jz_unroll.specs.Values.{InlineNames, has_no_cell, is_inline_var, is_int}
use Rattle.jz_unroll.specs.Unrolling.{IsInlineInt}
use Rattle.jz_unroll.proofs.Inline.{cells_is}
use Rattle.jz_unroll.proofs.InlineParts.{inline_is}
use Rattle.jz_unroll.proofs.Parts.{inline_updated}
use Rattle.jz_unrolling_values.specs.Parts.{updated_value, HasWhole, IsInlinePart, IsPlainPart, is_number}
use Rattle.jz_type_names.specs.Parts.{span_of}
use Rattle.jz_unrolling_values.specs.declared.conditions.Test.TheVariants.{Always}
use Rattle.jz_unrolling_values.specs.Refusals.{is_part, NeverTests, NeverWhole, NeverIf}
use Rattle.jz_unrolling_values.proofs.PartLemmas.{found_is, ref_name, ref_copy}
use Rattle.jz_unrolling_values.proofs.RefusalLemmas.{inline_part_is}

pub one_left : (xs : List Lval) (x y : Lval) → length xs ≡ 1 → Some x ≡ slice_get xs 0 → x ≡ y → xs ≡ y ∷ []
one_left [] x y n q e = absurd cc
one_left (z ∷ []) x y n q e = let p : x ≡ z = cc in ap (λ w. w ∷ []) (sym p ∙ e)
one_left (z ∷ w ∷ ws) x y n q e = absurd (omega (arith, n))

module _ (names : InlineNames) (e : KnownNumbers) where
  read_value : (v : Var) → inline_value e (expr.Var v) ≡ number (e (out-Var v).name (out-Var v).copy)
  read_value v = ap (inline_value e) (sym (expr.rolls-Var v)) ∙ found_is e (Expr-F.Var v)

  read_cells : (v : Var) → is_none (ref_of v).cell ≡ true → has_no_cell (expr.Var v) ≡ true
  read_cells v c = ap has_no_cell (sym (expr.rolls-Var v)) ∙ cells_is (Expr-F.Var v) ∙ c

  both_value : (o : BinOp) (a b : Expr) (at : Span) → inline_value e (expr.Bin o a b at) ≡ joined o (inline_value e a) (inline_value e b)
  both_value o a b at = ap (inline_value e) (sym (expr.rolls-Bin o a b at)) ∙ found_is e (Expr-F.Bin o a b at)

  both_cells : (o : BinOp) (a b : Expr) (at : Span) → has_no_cell a ≡ true → has_no_cell b ≡ true → has_no_cell (expr.Bin o a b at) ≡ true
  both_cells o a b at p q = ap has_no_cell (sym (expr.rolls-Bin o a b at)) ∙ cells_is (Expr-F.Bin o a b at) ∙ and_from (has_no_cell a) (has_no_cell b) p q

  -- without an operation it is the right side; with one it is an operation on the variable, whatever
  -- the inline right side is
  pub whole_so : (v : Var) (o : Option BinOp) (x : Expr) (n : ℤ) (found : Option Constant) (at : Span) → is_none (ref_of v).cell ≡ true → IsInlinePart names e x found at → updated_value e v o found ≡ Some (constant.Int n) → HasWhole e v o x n
  whole_so v None x n found at c p f = (x, refl, (p.whole, sym p.value ∙ f))
  whole_so v (Some o) x n found at c p f =
      let place = (ref_of v).span in (
        expr.Bin o (expr.Var v) x place,
        ap Some (inline_updated e o (expr.Var v) x place (out-Expr x) (sym (inline_is (out-Expr x)) ∙ ap is_inline (roll-out-Expr x) ∙ p.inline)),
        (
          both_cells o (expr.Var v) x place (read_cells v c) p.whole,
          both_value o (expr.Var v) x place ∙ ap (λ j. joined o j (inline_value e x)) (read_value v) ∙ ap (joined o (number (e (out-Var v).name (out-Var v).copy))) (sym p.value) ∙ f,
        ),
      )

  -- ---- refusals

  bin_cells : (o : BinOp) (a b : Expr) (at : Span) → has_no_cell (expr.Bin o a b at) ≡ true → has_no_cell b ≡ true
  bin_cells o a b at q = (and_parts (has_no_cell a) (has_no_cell b) (sym (ap has_no_cell (sym (expr.rolls-Bin o a b at)) ∙ cells_is (Expr-F.Bin o a b at)) ∙ q)).1

  some_one : {A : Type 0} {p q : A} → Some p ≡ Some q → p ≡ q
  some_one r = cc

  -- what the whole of an inline right side says of the right side
  whole_value : (v : Var) (o : Option BinOp) (x : Expr) (n : ℤ) → is_inline x ≡ true → HasWhole e v o x n → (has_no_cell x ≡ true) × (updated_value e v o (inline_value e x) ≡ Some (constant.Int n))
  whole_value v None x n i h =
      let y : x ≡ h.0 = some_one h.1 in
      (ap has_no_cell y ∙ h.2.0, ap (inline_value e) y ∙ h.2.1)
  whole_value v (Some o) x n i h =
      let place = (ref_of v).span in
      let is : expr.Bin o (expr.Var v) x place ≡ h.0
      = some_one (sym (ap Some (inline_updated e o (expr.Var v) x place (out-Expr x) (sym (inline_is (out-Expr x)) ∙ ap is_inline (roll-out-Expr x) ∙ i))) ∙ h.1) in (
        bin_cells o (expr.Var v) x place (ap has_no_cell is ∙ h.2.0),
        ap (λ j. joined o j (inline_value e x)) (sym (read_value v)) ∙ sym (both_value o (expr.Var v) x place) ∙ ap (inline_value e) is ∙ h.2.1,
      )

  pub part_no_whole : (v : Var) (o : Option BinOp) (x : Expr) → is_part names e x ≡ false → NeverWhole e v o x
  part_no_whole v o x fails = λ n i h. let z : true ≡ false = sym (whole_value v o x n i h).0 ∙ sym (inline_part_is names e x i) ∙ fails in absurd cc

  pub plain_no_whole : (v : Var) (o : Option BinOp) (x y : Expr) → IsPlainPart names e x y → NeverWhole e v o x
  plain_no_whole v o x y p = λ n i h. let z : true ≡ false = sym i ∙ p.plain in absurd cc

  pub other_no_whole : (v : Var) (o : Option BinOp) (x : Expr) (found : Option Constant) (at : Span) → IsInlinePart names e x found at → ((n : ℤ) → updated_value e v o found ≡ Some (constant.Int n) → ⊥) → NeverWhole e v o x
  other_no_whole v o x found at p fails = λ n i h. fails n (ap (updated_value e v o) p.value ∙ (whole_value v o x n i h).1)

  -- ---- inline variables that are integers

  pub number_is : (v : Var) → is_number names v ≡ true → IsInlineInt names v
  number_is v q =
      let p = and_parts (is_none (ref_of v).cell) _ q in
      let r = and_parts (is_int (ref_of v).kind) _ p.1 in
      record { named = r.1; whole = p.0; int = r.0 }

  pub no_number : (v : Var) → is_number names v ≡ false → IsInlineInt names v → ⊥
  no_number v q h =
      let z : true ≡ false = sym (and_from (is_none (ref_of v).cell) _ h.whole (and_from (is_int (ref_of v).kind) (is_inline_var names v) h.int h.named)) ∙ q in
      absurd cc

  pub never_if : (v : Var) (c : Expr) → NeverTests names e c → NeverIf e v (Some c)
  never_if v c fails = λ b inline cond. fails (Always b (span_of c)) (inline, cond.0, refl)

pub named_inline : (names : InlineNames) (v : Var) → names (out-Var v).name (out-Var v).copy ≡ true → is_inline_var names v ≡ true
named_inline names v q = ap (λ n. names n (ref_of v).copy) (ref_name v) ∙ ap (names (out-Var v).name) (ref_copy v) ∙ q

-- a truth is no number
pub truth_no_number : (x : Option Constant) (b : Bool) (n : ℤ) → x ≡ Some (constant.Bool b) → x ≡ Some (constant.Int n) → ⊥
truth_no_number x b n p q = let r : Some (constant.Bool b) ≡ Some (constant.Int n) = sym p ∙ q in absurd cc

pub none_no_number : (x : Option Constant) (n : ℤ) → x ≡ None → x ≡ Some (constant.Int n) → ⊥
none_no_number x n p q = absurd cc
