-- A statement that has a row with the hardest answers has it with all, and the hardest answers are
-- answers.
use Rattle.std.proofs.Common.{◌≡◌, Bool, true, false, ◌&&◌, ◌||◌, not, List, [], ◌∷◌, Option, Some, None, refl, sym, ap, ◌∙◌, inl, inr}
use Rattle.std.specs.Prelude.{◌⊎◌, if◌then◌else◌}
use Rattle.jz_tree.specs.declared.expr.BinOp.{BinOp}
use Rattle.jz_tree.specs.declared.expr.Expr.{Expr}
use Rattle.jz_tree.specs.declared.expr.Expr.TheOpen.{Expr-F}
use Rattle.jz_tree.specs.declared.expr.Expr.TheViews.{out-Expr}
use Rattle.jz_tree.specs.declared.stmt.Lval.{Lval}
use Rattle.jz_tree.specs.declared.stmt.Rhs.{Rhs}
use Rattle.jz_tree.specs.declared.stmt.Rhs.TheVariants as rhs
use Rattle.jz_tree.specs.declared.stmt.Stmt.{Stmt}
use Rattle.jz_tree.specs.declared.stmt.StmtKind.{StmtKind}
use Rattle.jz_tree.specs.declared.stmt.StmtKind.TheOpen.{StmtKind-F}
use Rattle.jz_tree.specs.declared.stmt.StmtKind.TheViews.{out-StmtKind}
use Rattle.jz_tree.specs.declared.intrinsic.Intrinsic.{Intrinsic}
use Rattle.jz_tree.specs.declared.intrinsic.Intrinsic.TheVariants as name
use Rattle.jz_tree.specs.declared.intrinsic.Instance.{Instance}
use Rattle.jz_tree.specs.Spellings.{spelled}
use Rattle.jz_tree.specs.Operators.{divides, carries}
use Rattle.jz_select.specs.declared.class.Class.{Class}
use Rattle.jz_select.specs.declared.class.Class.TheVariants as class
use Rattle.jz_select.specs.declared.class.Meeting.TheVariants as meeting
use Rattle.jz_select.specs.declared.class.Operand.{Operand}
use Rattle.jz_select.specs.declared.pattern.Pattern.{Pattern}
use Rattle.jz_select.specs.declared.shape.Value.{Value}
use Rattle.jz_select.specs.declared.shape.Value.TheVariants as values
use Rattle.jz_select.specs.declared.shape.Shape.{Shape}
use Rattle.jz_select.specs.declared.shape.Shape.TheVariants as shapes
use Rattle.jz_select.specs.declared.shaping.Flags.TheVariants as flags
use Rattle.jz_select.specs.Places.{Layer, Answers}
use Rattle.jz_select.specs.Operands.{class_of, dest_of, operand_of}
use Rattle.jz_select.specs.Rows.{is_m, is_rm, is_rmi, is_flag, is_pinned, is_same, computes, changes}
use Rattle.jz_select.specs.Shapes.{Asked, whichever, itself, five_lead, value_behind, conditional, beside, carry_layer, value_layer, update_layer, assign_of, value_shape, one_shape, two_shape, three_shape, product_shape, stand_apart, division_shape, intrinsic_shape, named_shape, rhs_shape, kind_layer, shape_of}
use Rattle.jz_select.specs.Shapes as shaped
use Rattle.jz_select.specs.Hardest.{guess, index_beside, hardest}
use Rattle.std.specs.Option.{option_or}
use Rattle.jz_select.specs.Selected.{pattern_chosen, table, first_of}
use Rattle.jz_select.proofs.Meetings.{same_or_apart, no_same, but_same, but_apart, yes_apart}
use Rattle.jz_select.proofs.Keeping.{Goes, an, first, second, and_kept, two_goes, quotient_goes, carry_goes, one_goes, two_kept, three_kept, one_kept, product_kept, named_kept}

-- ---- an operation whose first operand is where the result goes, or is copied there
abbrev any : Bool → Bool → Bool → Bool
any x y z = x || (y || z)

any_first : (x y z : Bool) → x ≡ true → any x y z ≡ true
any_first x y z e = ap (λ b. b || (y || z)) e

or_true : (x : Bool) → (x || true) ≡ true
or_true true = refl
or_true false = refl

any_second : (x y z : Bool) → y ≡ true → any x y z ≡ true
any_second x y z e = ap (λ b. x || (b || z)) e ∙ or_true x

any_third : (x y z : Bool) → z ≡ true → any x y z ≡ true
any_third x y z e = ap (λ b. x || (y || b)) e ∙ (ap (λ b. x || b) (or_true y) ∙ or_true x)

any_kept : (r x y z w : Bool) → (x ≡ true → w ≡ true) → (y ≡ true → w ≡ true) → (z ≡ true → w ≡ true) → (r && any x y z) ≡ true → (r && w) ≡ true
any_kept false x y z w f g h e = absurd cc
any_kept true true y z w f g h e = f refl
any_kept true false true z w f g h e = g refl
any_kept true false false z w f g h e = h e

and_yes : (b : Bool) → b ≡ true → (b && true) ≡ true
and_yes b e = ap (λ x. x && true) e

both : (a b : Bool) → a ≡ true → b ≡ true → (a && b) ≡ true
both a b p q = ap (λ x. x && b) p ∙ q

-- a register; a and o: the operand is the destination, p: it is apart
reg_kept : (r s a o p a' o' p' : Bool) → (a ≡ true → a' ≡ true) → (o ≡ true → (o' ≡ true) ⊎ (p' ≡ true)) → (p ≡ true → (a' ≡ true) ⊎ (p' ≡ true))
    → (r && any (a && true) (s && (o && true)) p) ≡ true → (r && any (a' && true) (s && (o' && true)) p') ≡ true
reg_kept r s a o p a' o' p' f g h e =
    any_kept r (a && true) (s && (o && true)) p (any (a' && true) (s && (o' && true)) p')
    (λ x. any_first _ _ p' (and_yes a' (f (first a true x))))
    (λ x. elim (g (first o true (second s (o && true) x))) [
      | inl y ↦ any_second (a' && true) _ p' (both s (o' && true) (first s (o && true) x) (and_yes o' y))
      | inr y ↦ any_third (a' && true) (s && (o' && true)) p' y
    ])
    (λ x. elim (h x) [
      | inl y ↦ any_first _ _ p' (and_yes a' y)
      | inr y ↦ any_third (a' && true) (s && (o' && true)) p' y
    ])
    e

-- memory; v and w: the other operand is no memory
mem_kept : (r s a o v w a' o' : Bool) → (a ≡ true → a' ≡ true) → (o ≡ true → o' ≡ true)
    → (r && any (a && v) (s && (o && w)) false) ≡ true → (r && any (a' && v) (s && (o' && w)) false) ≡ true
mem_kept r s a o v w a' o' f g e =
    any_kept r (a && v) (s && (o && w)) false (any (a' && v) (s && (o' && w)) false)
    (λ x. any_first _ _ false (both a' v (f (first a v x)) (second a v x)))
    (λ x. let rest = second s (o && w) x in any_second (a' && v) _ false (both s (o' && w) (first s (o && w) x) (both o' w (g (first o w rest)) (second o w rest))))
    (λ x. absurd cc)
    e

abbrev pub itself_in : Class → Operand
itself_in c = an c meeting.Same

module _ (B : Answers) (d : Lval) where
  -- ---- with a first operand
  module _ (a : Expr) where
    abbrev pub asked_by : Class → Answers
    asked_by c = guess (is_m c) (index_beside d a)

    computed_by : (o : Expr) (swapped : Bool) (c : Class) → computes swapped c (operand_of (asked_by c) d a) (operand_of (asked_by c) d o) ≡ true
        → computes swapped c (operand_of B d a) (operand_of B d o) ≡ true
    computed_by o swapped (class.Reg z) e =
        reg_kept (is_rmi (class_of a)) swapped _ _ _ _ _ _ (but_same B d a)
        (same_or_apart (guess false (index_beside d a)) B d o)
        (but_apart B d a o) e
    computed_by o swapped (class.Mem z) e =
        mem_kept (is_rmi (class_of a)) swapped _ _ (not (is_m (class_of o))) (not (is_m (class_of a))) _ _
        (no_same B (index_beside d a) d a)
        (no_same B (index_beside d a) d o) e
    computed_by o swapped class.Inline e = absurd cc
    computed_by o swapped class.Flag e = absurd cc
    computed_by o swapped (class.Masked m) e = absurd cc
    computed_by o swapped class.Skip e = absurd cc
    computed_by o swapped class.Other e = absurd cc

    pub computed : (o : Expr) (swapped : Bool) → computes swapped (dest_of d) (beside hardest d (Some a) a) (beside hardest d (Some a) o) ≡ true
        → computes swapped (dest_of d) (operand_of B d a) (operand_of B d o) ≡ true
    computed o swapped = computed_by o swapped (dest_of d)

    changed_by : (c : Class) → changes c (operand_of (asked_by c) d a) ≡ true → changes c (operand_of B d a) ≡ true
    changed_by (class.Reg z) e = and_kept (is_rmi (class_of a)) _ _ (λ x. or_true (is_same (operand_of B d a))) e
    changed_by (class.Mem z) e =
        and_kept (is_rmi (class_of a)) _ _ (λ x. or_kept_first _ _ (no_same B (index_beside d a) d a) x) e
      where
        or_kept_first : (x y : Bool) → (x ≡ true → y ≡ true) → (x || false) ≡ true → (y || false) ≡ true
        or_kept_first true y h e = ap (λ b. b || false) (h refl)
        or_kept_first false y h e = absurd cc
    changed_by class.Inline e = absurd cc
    changed_by class.Flag e = absurd cc
    changed_by (class.Masked m) e = absurd cc
    changed_by class.Skip e = absurd cc
    changed_by class.Other e = absurd cc

    pub changed : changes (dest_of d) (beside hardest d (Some a) a) ≡ true → changes (dest_of d) (operand_of B d a) ≡ true
    changed = changed_by (dest_of d)

  -- ---- with the destination as the first operand
  pub itself_by : (o : Expr) (swapped : Bool) (c : Class) → computes swapped c (itself_in c) (operand_of (guess false None) d o) ≡ true
      → computes swapped c (itself_in c) (operand_of B d o) ≡ true
  itself_by o swapped (class.Reg z) e = refl
  itself_by o swapped (class.Mem z) e =
      any_kept true _ _ false _
      (λ x. any_first (not (is_m (class_of o))) _ false x)
      (λ x. absurd (let rest : (is_same (operand_of (guess false None) d o) && false) ≡ true = second swapped _ x in let clash : false ≡ true = second (is_same (operand_of (guess false None) d o)) false rest in cc))
      (λ x. absurd cc)
      e
  itself_by o swapped class.Inline e = absurd cc
  itself_by o swapped class.Flag e = absurd cc
  itself_by o swapped (class.Masked m) e = absurd cc
  itself_by o swapped class.Skip e = absurd cc
  itself_by o swapped class.Other e = absurd cc

  itself_kept : (o : Expr) (swapped : Bool) → computes swapped (dest_of d) (itself d) (beside hardest d None o) ≡ true
      → computes swapped (dest_of d) (itself d) (operand_of B d o) ≡ true
  itself_kept o swapped = itself_by o swapped (dest_of d)

  -- ---- right sides
  abbrev pub ValueGoes : Value → Value → Type 0
  ValueGoes v w = (lead : Option Class) (c : Class) → Goes (shapes.Assign lead (dest_of d) c v) (shapes.Assign lead (dest_of d) c w)

  two_by : (o : BinOp) (a b : Expr) (f : Bool) → divides o ≡ f
      → ValueGoes (values.Two o (beside hardest d (if f then None else Some a) a) (beside hardest d (if f then None else Some a) b)) (values.Two o (operand_of B d a) (operand_of B d b))
  two_by o a b true h = λ lead c. quotient_goes (dest_of d) (class_of a) (class_of b) _ _ _ _ (yes_apart B d b) lead c o h
  two_by o a b false h = λ lead c. two_goes (dest_of d) (class_of a) (class_of b) _ _ _ _ (computed a b) (changed a) lead c o h

  two_value : (o : BinOp) (a b : Expr) → ValueGoes (values.Two o (beside hardest d (shaped.first_of o a) a) (beside hardest d (shaped.first_of o a) b)) (values.Two o (operand_of B d a) (operand_of B d b))
  two_value o a b = two_by o a b (divides o) refl

  carry_value : (o : BinOp) (a b : Expr) → ValueGoes (values.Carry o (beside hardest d (Some a) a) (beside hardest d (Some a) b)) (values.Carry o (operand_of B d a) (operand_of B d b))
  carry_value o a b = λ lead c. carry_goes (dest_of d) (class_of a) (class_of b) _ _ _ _ (computed a b) (changed a) lead c o

  carry_by : (o : BinOp) (a b : Expr) (f : Bool) → ValueGoes (if f then values.Carry o (beside hardest d (Some a) a) (beside hardest d (Some a) b) else values.Alone) (if f then values.Carry o (operand_of B d a) (operand_of B d b) else values.Alone)
  carry_by o a b true = carry_value o a b
  carry_by o a b false = λ lead c q e. e

  carry_layer_goes : (o : BinOp) (y : Layer) → ValueGoes (carry_layer hardest d o y) (carry_layer (whichever B) d o y)
  carry_layer_goes o (Expr-F.Bin p a b at) = carry_by o a b (carries o p)
  carry_layer_goes o _ = λ lead c q e. e

  bin_by : (o : BinOp) (a b : Expr) (f : Bool)
      → ValueGoes (if f then carry_layer hardest d o (out-Expr a) else values.Two o (beside hardest d (shaped.first_of o a) a) (beside hardest d (shaped.first_of o a) b))
      (if f then carry_layer (whichever B) d o (out-Expr a) else values.Two o (operand_of B d a) (operand_of B d b))
  bin_by o a b true = carry_layer_goes o (out-Expr a)
  bin_by o a b false = two_value o a b

  value_goes : (y : Layer) → ValueGoes (value_layer hardest d y) (value_layer (whichever B) d y)
  value_goes (Expr-F.Bin o a b at) = bin_by o a b (is_flag (class_of b))
  value_goes (Expr-F.Neg a at) = λ lead c. one_goes (dest_of d) (class_of a) _ _ (changed a) lead c
  value_goes (Expr-F.Not a at) = λ lead c. one_goes (dest_of d) (class_of a) _ _ (changed a) lead c
  value_goes _ = λ lead c q e. e

  update_by : (o : BinOp) (e : Expr) (f : Bool) → divides o ≡ f → ValueGoes (values.Two o (itself d) (beside hardest d None e)) (values.Two o (itself d) (operand_of B d e))
  update_by o e true h = λ lead c. quotient_goes (dest_of d) (dest_of d) (class_of e) _ _ _ _ (yes_apart B d e) lead c o h
  update_by o e false h = λ lead c. two_goes (dest_of d) (dest_of d) (class_of e) _ _ _ _ (itself_kept e) (λ x. x) lead c o h

  update_two : (o : BinOp) (e : Expr) → ValueGoes (values.Two o (itself d) (beside hardest d None e)) (values.Two o (itself d) (operand_of B d e))
  update_two o e = update_by o e (divides o) refl

  update_carry : (o : BinOp) (e a : Expr) (f : Bool)
      → ValueGoes (if f then values.Carry o (itself d) (beside hardest d None a) else values.Two o (itself d) (beside hardest d None e))
      (if f then values.Carry o (itself d) (operand_of B d a) else values.Two o (itself d) (operand_of B d e))
  update_carry o e a true = λ lead c. carry_goes (dest_of d) (dest_of d) (class_of a) _ _ _ _ (itself_kept a) (λ x. x) lead c o
  update_carry o e a false = update_two o e

  update_goes : (o : BinOp) (e : Expr) (y : Layer) → ValueGoes (update_layer hardest d o e y) (update_layer (whichever B) d o e y)
  update_goes o e (Expr-F.Bin p a b at) = update_carry o e a (carries o p && is_flag (class_of b))
  update_goes o e _ = update_two o e

-- ---- statements
abbrev pub Keeps : Shape → Shape → Type 0
Keeps s t = (q : Pattern) → pattern_chosen s ≡ Some q → pattern_chosen t ≡ Some q

or_none : (x : Option Pattern) → option_or x None ≡ x
or_none None = refl
or_none (Some q) = refl

assign_keeps : (lead : Option Class) (d c : Class) (v w : Value) → Goes (shapes.Assign lead d c v) (shapes.Assign lead d c w) → Keeps (shapes.Assign lead d c v) (shapes.Assign lead d c w)
unfolding pattern_chosen
assign_keeps lead d c v w g q e =
    or_none (first_of table (shapes.Assign lead d c w)) ∙ g q (sym (or_none (first_of table (shapes.Assign lead d c v))) ∙ e)

shape_kept : (f : Bool) (s t : Shape) → Keeps s t → Keeps (if f then s else shapes.Free) (if f then t else shapes.Free)
shape_kept true s t h = h
shape_kept false s t h = λ q e. e

and_front : (a b c : Bool) → (a ≡ true → b ≡ true) → (a && c) ≡ true → (b && c) ≡ true
and_front true b c h e = ap (λ x. x && c) (h refl) ∙ e
and_front false b c h e = absurd cc

and_both : (a b c d : Bool) → (a ≡ true → c ≡ true) → (b ≡ true → d ≡ true) → (a && b) ≡ true → (c && d) ≡ true
and_both a b c d f g e = both c d (f (first a b e)) (g (second a b e))

module _ (B : Answers) where
  pub assign_kept : (lead : Option Class) (d : Lval) (p : Option BinOp) (e : Expr) → Keeps (assign_of hardest lead d p e) (assign_of (whichever B) lead d p e)
  assign_kept lead d None e = assign_keeps lead (dest_of d) (class_of e) _ _ (value_goes B d (out-Expr e) lead (class_of e))
  assign_kept lead d (Some o) e = assign_keeps lead (dest_of d) class.Other _ _ (update_goes B d o e (out-Expr e) lead class.Other)

  value_kept : (to : List Lval) (p : Option BinOp) (e : Expr) → Keeps (value_shape hardest to p e) (value_shape (whichever B) to p e)
  value_kept [] p e = λ q h. h
  value_kept (d ∷ []) p e = assign_kept None d p e
  value_kept (x ∷ d ∷ []) p e = assign_kept (Some (dest_of x)) d p e
  value_kept (x ∷ d ∷ y ∷ ds) p e = λ q h. h

  one_shape_kept : (i : Instance) (to : Option Lval) (args : List Expr) → Keeps (one_shape hardest i to args) (one_shape (whichever B) i to args)
  unfolding pattern_chosen
  one_shape_kept i None args q e = e
  one_shape_kept i (Some d) [] q e = e
  one_shape_kept i (Some d) (a ∷ []) q e = named_kept i.name _ _ (one_kept (dest_of d) (class_of a) _ _ (changed B d a) i.name i.size) q e
  one_shape_kept i (Some d) (a ∷ o ∷ es) q e = e

  two_shape_kept : (i : Instance) (to : Option Lval) (args : List Expr) → Keeps (two_shape hardest i to args) (two_shape (whichever B) i to args)
  unfolding pattern_chosen
  two_shape_kept i (Some d) (a ∷ o ∷ []) q e =
      named_kept i.name _ _ (two_kept (dest_of d) (class_of a) (class_of o) _ _ _ _ (computed B d a o) (changed B d a) i.name i.size) q e
  two_shape_kept i _ _ q e = e

  three_shape_kept : (i : Instance) (to : Option Lval) (args : List Expr) → Keeps (three_shape hardest i to args) (three_shape (whichever B) i to args)
  unfolding pattern_chosen
  three_shape_kept i (Some d) (a ∷ o ∷ c ∷ []) q e =
      named_kept i.name _ _ (three_kept (dest_of d) (class_of a) (class_of o) _ _ _ _ (computed B d a o) (changed B d a) i.name (class_of c)) q e
  three_shape_kept i _ _ q e = e

  product_by : (i : Instance) (h l : Lval) (a b : Expr)
      → Keeps (shapes.Product i.size (dest_of h) (dest_of l) (beside hardest l (Some a) a) (beside hardest l (Some a) b)) (shapes.Product i.size (dest_of h) (dest_of l) (operand_of B l a) (operand_of B l b))
  unfolding pattern_chosen
  product_by i h l a b q e = named_kept name.Mul _ _ (product_kept (dest_of l) (class_of a) (class_of b) _ _ _ _ (computed B l a b) (changed B l a) i.size (dest_of h)) q e

  product_shape_kept : (i : Instance) (to : List Lval) (args : List Expr) → Keeps (product_shape hardest i to args) (product_shape (whichever B) i to args)
  product_shape_kept i (of' ∷ cf ∷ sf ∷ pf ∷ zf ∷ h ∷ l ∷ []) (a ∷ b ∷ []) = shape_kept (five_lead of' cf sf pf zf) _ _ (product_by i h l a b)
  product_shape_kept i _ _ = λ q e. e

  apart_kept : (q r : Lval) (hi b : Expr) → stand_apart hardest q r hi b ≡ true → stand_apart (whichever B) q r hi b ≡ true
  apart_kept q r hi b = and_both _ _ _ _ (yes_apart B q hi) (and_both _ _ _ _ (yes_apart B q b) (yes_apart B r b))

  division_by : (i : Instance) (q r : Lval) (hi lo b : Expr)
      → Keeps (shapes.Division i.size (dest_of q) (dest_of r) (class_of hi) (class_of lo) (class_of b) (stand_apart hardest q r hi b))
      (shapes.Division i.size (dest_of q) (dest_of r) (class_of hi) (class_of lo) (class_of b) (stand_apart (whichever B) q r hi b))
  unfolding pattern_chosen
  division_by i q r hi lo b p e =
      named_kept name.Div _ _
      (and_kept (is_pinned (dest_of q)) _ _ (and_kept (is_pinned (dest_of r)) _ _ (and_kept (is_rmi (class_of hi)) _ _ (and_kept (is_rmi (class_of lo)) _ _ (and_kept (is_rm (class_of b)) _ _ (and_front _ _ _ (apart_kept q r hi b)))))))
      p e

  division_shape_kept : (i : Instance) (to : List Lval) (args : List Expr) → Keeps (division_shape hardest i to args) (division_shape (whichever B) i to args)
  division_shape_kept i (of' ∷ cf ∷ sf ∷ pf ∷ zf ∷ q ∷ r ∷ []) (hi ∷ lo ∷ b ∷ []) = shape_kept (five_lead of' cf sf pf zf) _ _ (division_by i q r hi lo b)
  division_shape_kept i _ _ = λ q e. e

  intrinsic_kept : (n : Intrinsic) (i : Instance) (to : List Lval) (args : List Expr) → Keeps (intrinsic_shape hardest n i to args) (intrinsic_shape (whichever B) n i to args)
  intrinsic_kept name.Neg i to args = one_shape_kept i (value_behind flags.Five to) args
  intrinsic_kept name.Inc i to args = one_shape_kept i (value_behind flags.Four to) args
  intrinsic_kept name.Dec i to args = one_shape_kept i (value_behind flags.Four to) args
  intrinsic_kept name.Not i to args = one_shape_kept i (value_behind flags.Zero to) args
  intrinsic_kept name.Bswap i to args = one_shape_kept i (value_behind flags.Zero to) args
  intrinsic_kept name.Lea i to args = λ q e. e
  intrinsic_kept name.Setcc i to args = λ q e. e
  intrinsic_kept name.Adc i to args = three_shape_kept i (value_behind flags.Five to) args
  intrinsic_kept name.Sbb i to args = three_shape_kept i (value_behind flags.Five to) args
  intrinsic_kept name.Cmp i to args = λ q e. e
  intrinsic_kept name.Test i to args = λ q e. e
  intrinsic_kept name.Mul i to args = product_shape_kept i to args
  intrinsic_kept name.Div i to args = division_shape_kept i to args
  intrinsic_kept name.Rol i to args = two_shape_kept i (value_behind flags.Two to) args
  intrinsic_kept name.Ror i to args = two_shape_kept i (value_behind flags.Two to) args
  intrinsic_kept _ i to args = two_shape_kept i (value_behind flags.Five to) args

  spelled_kept : (i : Option Instance) (to : List Lval) (args : List Expr) → Keeps (named_shape hardest i to args) (named_shape (whichever B) i to args)
  spelled_kept None to args = λ q e. e
  spelled_kept (Some i) to args = intrinsic_kept i.name i to args

  rhs_kept : (to : List Lval) (p : Option BinOp) (r : Rhs) → Keeps (rhs_shape hardest to p r) (rhs_shape (whichever B) to p r)
  rhs_kept to p (rhs.Value e) = value_kept to p e
  rhs_kept to None (rhs.Intrinsic n args at) = spelled_kept (spelled n) to args
  rhs_kept to (Some p) (rhs.Intrinsic n args at) = λ q e. e
  rhs_kept to p (rhs.Call f args at) = λ q e. e

  layer_kept : (y : StmtKind-F StmtKind Stmt) → Keeps (kind_layer hardest y) (kind_layer (whichever B) y)
  layer_kept (StmtKind-F.Assign to p from None) = rhs_kept to p from
  layer_kept (StmtKind-F.Assign to p from (Some c)) = λ q e. e
  layer_kept (StmtKind-F.If c a b) = λ q e. e
  layer_kept (StmtKind-F.While p c b) = λ q e. e
  layer_kept (StmtKind-F.For i from down to b) = λ q e. e
  layer_kept (StmtKind-F.Mark vs) = λ q e. e

  pub statement_kept : (k : StmtKind) → Keeps (shape_of hardest k) (shape_of (whichever B) k)
  statement_kept k = layer_kept (out-StmtKind k)
