-- A statement that matches a row has classes.
use Rattle.std.proofs.Common.{◌≡◌, ℕ, Bool, true, false, ◌&&◌, ◌||◌, List, [], ◌∷◌, Option, Some, None, refl, sym, ap, ◌∙◌, subst}
use Rattle.std.proofs.lemmas.Bool.{false≢true, and_parts}
use Rattle.jz_tree.specs.Size.TheVariants.{S64}
use Rattle.jz_tree.specs.Span.{Span}
use Rattle.jz_tree.specs.Spellings.{spelled}
use Rattle.jz_tree.specs.declared.expr.BinOp.{BinOp}
use Rattle.jz_tree.specs.declared.expr.Expr.{Expr}
use Rattle.jz_tree.specs.declared.expr.Expr.TheViews.{out-Expr}
use Rattle.jz_tree.specs.declared.stmt.Lval.{Lval}
use Rattle.jz_tree.specs.declared.stmt.Rhs.{Rhs}
use Rattle.jz_tree.specs.declared.stmt.Rhs.TheVariants as rhs
use Rattle.jz_tree.specs.declared.stmt.Stmt.{Stmt}
use Rattle.jz_tree.specs.declared.stmt.StmtKind.TheVariants as stmt
use Rattle.jz_tree.specs.declared.stmt.StmtKind.TheOpen.{StmtKind-F}
use Rattle.jz_tree.specs.declared.stmt.StmtKind.TheViews.{out-StmtKind, out-roll-StmtKind}
use Rattle.jz_tree.specs.declared.intrinsic.Intrinsic.TheVariants as name
use Rattle.jz_tree.specs.declared.intrinsic.Instance.{Instance}
use Rattle.jz_type_sizes.specs.Signatures.{instance_signature}
use Rattle.jz_type_sizes.specs.Intrinsics.{size_of_intrinsic}
use Rattle.jz_select.specs.declared.class.Class.TheVariants as class
use Rattle.jz_select.specs.declared.shape.Shape.TheVariants as shapes
use Rattle.jz_select.specs.declared.shaping.Flags.TheVariants as flags
use Rattle.jz_select.specs.Look.{terms_of}
use Rattle.jz_select.specs.Sums.{is_sum}
use Rattle.jz_select.specs.Places.{Answers}
use Rattle.jz_select.specs.Operands.{class_of, dest_of}
use Rattle.jz_select.specs.Rows.{is_r, is_rm, is_wide, is_longest, class_size, conditional_row}
use Rattle.std.specs.Option.{option_or}
use Rattle.jz_select.specs.Shapes.{whichever, has_flags, is_test, value_layer, update_layer, value_behind, address_shape, intrinsic_shape, named_shape, kind_layer}
use Rattle.jz_row_laws.proofs.Copied.{Matches, selected_matches, no_free}
use Rattle.jz_stuck_runs.specs.Sizes.{gives_byte}
use Rattle.jz_stuck_runs.proofs.RowSizes.{named_fits}
use Rattle.jz_stuck_runs.proofs.Instructing.{lea_size}
use Rattle.jz_row_classes.specs.RowClasses.{IsChosen, AreClassed, IsOfSize, HasSize, IsInstanceClassed}
use Rattle.jz_row_classes.specs.RowLaws.{HasRow, AssignmentsHaveClasses, InstructionsHaveClasses}
use Rattle.jz_row_classes.proofs.ValueRows.{found}
use Rattle.jz_row_classes.proofs.PairRows.{pair_fits}
use Rattle.jz_row_classes.proofs.InstructionRows.{row_facts}

out_assign : (to : List Lval) (o : Option BinOp) (r : Rhs) (c : Option Expr) → out-StmtKind (stmt.Assign to o r c) ≡ StmtKind-F.Assign to o r c
out_assign to o r c = ap out-StmtKind (sym (stmt.rolls-Assign to o r c)) ∙ out-roll-StmtKind (StmtKind-F.Assign to o r c)

pub statement_matches : (to : List Lval) (o : Option BinOp) (r : Rhs) (c : Option Expr) → HasRow (stmt.Assign to o r c) → (a : Answers) × Matches (kind_layer (whichever a) (StmtKind-F.Assign to o r c))
statement_matches to o r c h =
    let m = selected_matches (stmt.Assign to o r c) h.0 h.1 in
    (m.0, subst (λ k. Matches (kind_layer (whichever m.0) k)) (out_assign to o r c) m.1)

-- ---- assignments
or_false : (b : Bool) → (b || false) ≡ true → b ≡ true
or_false true h = refl
or_false false h = absurd (false≢true h)

chosen : (d : Lval) (e c : Expr) → Matches (shapes.Conditional (dest_of d) (class_of e) (has_flags c)) → IsChosen d e c
chosen d e c m =
    let h : conditional_row (shapes.Conditional (dest_of d) (class_of e) (has_flags c)) ≡ true = or_false (conditional_row (shapes.Conditional (dest_of d) (class_of e) (has_flags c))) m in
    let p = and_parts (is_r (dest_of d)) _ h in
    let q = and_parts (is_wide (class_size (dest_of d))) _ p.1 in
    let r = and_parts (is_rm (class_of e)) (has_flags c) q.1 in
    record { to = p.0; wide = q.0; operand = r.0; flags = r.1 }

pub value_classed : (a : Answers) (to : List Lval) (o : Option BinOp) (e : Expr) (c : Option Expr) → Matches (kind_layer (whichever a) (StmtKind-F.Assign to o (rhs.Value e) c)) → AreClassed to o e c
value_classed a [] o e None m = absurd (no_free m)
value_classed a (d ∷ []) None e None m =
    let f = found (dest_of d) (class_of e) (value_layer (whichever a) d (out-Expr e)) m in
    record { to = f.0; asked = whichever a; operands = f.1 }
value_classed a (d ∷ []) (Some o) e None m =
    let f = found (dest_of d) class.Other (update_layer (whichever a) d o e (out-Expr e)) m in
    record { to = f.0; asked = whichever a; operands = f.1 }
value_classed a (x ∷ d ∷ []) None e None m =
    record { asked = whichever a; fits = pair_fits (dest_of x) (dest_of d) (class_of e) (value_layer (whichever a) d (out-Expr e)) m }
value_classed a (x ∷ d ∷ []) (Some o) e None m =
    record { asked = whichever a; fits = pair_fits (dest_of x) (dest_of d) class.Other (update_layer (whichever a) d o e (out-Expr e)) m }
value_classed a (x ∷ y ∷ d ∷ ds) o e None m = absurd (no_free m)
value_classed a [] o e (Some c) m = absurd (no_free m)
value_classed a (d ∷ []) None e (Some c) m = chosen d e c m
value_classed a (d ∷ []) (Some o) e (Some c) m = absurd (no_free m)
value_classed a (x ∷ d ∷ ds) o e (Some c) m = absurd (no_free m)

-- ---- instructions
abbrev Sized : Instance → List Lval → List Expr → Type 0
Sized i to args = gives_byte i.name ≡ false → HasSize i to args

address_sized : (i : Instance) (to : List Lval) (args : List Expr) → i.name ≡ name.Lea → Matches (address_shape i (value_behind flags.Zero to) args) → IsOfSize i to args S64
address_sized i (d ∷ []) (a ∷ []) e m =
    let f = named_fits name.Lea (is_r (dest_of d) && (is_longest (option_or i.size (class_size (dest_of d))) && is_sum (terms_of a))) m in
    let s = (and_parts (is_longest (option_or i.size (class_size (dest_of d)))) _ (and_parts (is_r (dest_of d)) _ f).1).0 in
    ap (λ n. size_of_intrinsic (instance_signature (record { name = n; size = i.size })) (d ∷ []) (a ∷ [])) e ∙ lea_size i.size d None s
address_sized i [] args e m = absurd (no_free m)
address_sized i (d ∷ b ∷ ds) args e m = absurd (no_free m)
address_sized i (d ∷ []) [] e m = absurd (no_free m)
address_sized i (d ∷ []) (a ∷ b ∷ args) e m = absurd (no_free m)

instance_classed : (a : Answers) (to : List Lval) (n : List ℕ) (args : List Expr) (x : Option Instance) → spelled n ≡ x → ((i : Instance) → spelled n ≡ Some i → Sized i to args) → Matches (named_shape (whichever a) x to args) → IsInstanceClassed to n args
instance_classed a to n args None e s m = absurd (no_free m)
instance_classed a to n args (Some i) e s m = record {
  instance = i;
  is = e;
  lefts = λ z. (row_facts (whichever a) i z i.name refl to args m).0;
  operands = (row_facts (whichever a) i S64 i.name refl to args m).1;
  size = s i e;
  address = λ l. address_sized i to args l (subst (λ k. Matches (intrinsic_shape (whichever a) k i to args)) l m);
}

pub instruction_classed : (a : Answers) (to : List Lval) (n : List ℕ) (args : List Expr) (at : Span) → ((i : Instance) → spelled n ≡ Some i → Sized i to args) → Matches (kind_layer (whichever a) (StmtKind-F.Assign to None (rhs.Intrinsic n args at) None)) → IsInstanceClassed to n args
instruction_classed a to n args at s m = instance_classed a to n args (spelled n) refl s m

-- ---- tests
test_true : (b : Bool) → Matches (shapes.Test b) → b ≡ true
test_true true h = refl
test_true false h = absurd (false≢true h)

pub branch_classed : (a : Answers) (c : Expr) (x y : List Stmt) → Matches (kind_layer (whichever a) (StmtKind-F.If c x y)) → is_test c ≡ true
branch_classed a c x y m = test_true (is_test c) m

pub loop_classed : (a : Answers) (p : List Stmt) (c : Expr) (b : Option (List Stmt)) → Matches (kind_layer (whichever a) (StmtKind-F.While p c b)) → is_test c ≡ true
loop_classed a p c b m = test_true (is_test c) m

-- ---- laws
pub assignments_have_classes : AssignmentsHaveClasses
assignments_have_classes to o e c h = let m = statement_matches to o (rhs.Value e) c h in value_classed m.0 to o e c m.1

pub instructions_have_classes : InstructionsHaveClasses
instructions_have_classes to n args at s h = let m = statement_matches to None (rhs.Intrinsic n args at) None h in instruction_classed m.0 to n args at s m.1
