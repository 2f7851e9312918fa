-- How a destination and an operand meet: one place is one operand, and a register that stands
-- nowhere in an operand is free of it.
use Rattle.std.proofs.Common.{◌≡◌, ℕ, Bool, true, false, not, ◌&&◌, ◌||◌, List, [], ◌∷◌, ◌++◌, Option, Some, None, refl, sym, ap, ◌∙◌, subst, inl, inr, if◌then◌else◌, ℤ, pos, ◌+ℤ◌, ◌-ℤ◌}
use Rattle.std.specs.Prelude.{nat_eq, ◌⊎◌}
use Rattle.std.specs.Ordering.{int_eq}
use Rattle.std.proofs.lemmas.Bool.{false≢true, true≢false, eq-eqb, ne_eqb}
use Rattle.std.proofs.lemmas.Bool.Decides.{Decides-int_eq}
use Rattle.jz_words.specs.declared.size.Size.{Size}
use Rattle.jz_words.specs.declared.size.Size.TheVariants.{S64}
use Rattle.jz_words.specs.Words.{residue}
use Rattle.jz_tree.specs.Span.{Span}
use Rattle.jz_tree.specs.declared.expr.BinOp.{BinOp}
use Rattle.jz_tree.specs.declared.expr.BinOp.TheVariants as op
use Rattle.jz_tree.specs.declared.expr.Expr.{Expr}
use Rattle.jz_tree.specs.declared.expr.Expr.TheVariants as expr
use Rattle.jz_tree.specs.declared.expr.Expr.TheOpen.{Expr-F}
use Rattle.jz_tree.specs.declared.expr.Expr.TheViews.{out-Expr, out-Var, out-Access, roll-Expr, roll-out-Expr, roll-out-Var}
use Rattle.jz_tree.specs.declared.expr.Expr.TheFolds.{fold-Access, fold-Var, fold-roll-Expr, fold-roll-Var, map-Expr}
use Rattle.jz_tree.specs.declared.expr.Access.{Access}
use Rattle.jz_tree.specs.declared.expr.Var.{Var}
use Rattle.jz_tree.specs.declared.stmt.Lval.{Lval}
use Rattle.jz_tree.specs.declared.stmt.Lval.TheVariants as lval
use Rattle.jz_ir.specs.Paths.{among}
use Rattle.jz_integers.specs.Integers.{written_number}
use Rattle.jz_select.specs.Trees.{Named, named_variable, named_step, names_eq, Tree, Number, Name, Both, tree_step, tree_of, numbered_tree, index_of, tree_eq}
use Rattle.jz_select.specs.Places.{Layer, Answers, is_number, one_cell, touches, elsewhere, one_or_apart, var_layer_meets, cell_layer_meets, store_layer_meets, meeting_of}
use Rattle.jz_select.specs.InnerLayers.{touches_layer}
use Rattle.jz_select.specs.declared.class.Meeting.{Meeting}
use Rattle.jz_select.specs.Rows.{is_same_place, is_apart_from}
use Rattle.jz_select.proofs.Uses.{touches_out}
use Rattle.jz_select.proofs.TreeLaws.{tree_one}
use Rattle.jz_row_laws.proofs.Booleans.{or_parts}
use Rattle.jz_one_row.proofs.Outs.{out_num, out_var, out_cell, out_load, out_bin}
use Rattle.jz_one_row.proofs.Sums.{one_address, one_index}
use Rattle.jz_meaning.specs.States.{Key, same_key}
use Rattle.jz_meaning.specs.Values.{key_of, cell_key, ref_of}
use Rattle.jz_typed_runs.proofs.KindsOf.{ref_is}
use Rattle.jz_operations.specs.declared.operation.Address.{Address}
use Rattle.jz_operations.specs.declared.operation.Arg.{Arg}
use Rattle.jz_operations.specs.declared.operation.Arg.TheVariants as arg
use Rattle.jz_operations.specs.Rows.{Frame}
use Rattle.jz_operations.proofs.Somes.{same_some}
use Rattle.jz_homes.specs.Homes.{Home, Homes, in_register, in_cell, IsHoming}
use Rattle.jz_homes.specs.Sums.{Sum, sum_of, IsSum, a_number, a_variable, a_multiple, multiple_of, added, less, IsAddress, of_base, of_both, of_swapped, IsIndex, constant, variable}
use Rattle.jz_homes.specs.Operands as operands
use Rattle.jz_homes.specs.Operands.{Leaks, AreCells, IsArg, IsDest, to_word, to_scalar, to_cell, to_memory}
use Rattle.jz_row_operations.specs.Table.{same_option, same_index, same_arg, is_free}
use Rattle.jz_total_rows.proofs.Written.{written_sum}

-- ---- names
name_one : (v w : Named) → Name v ≡ Name w → v ≡ w
name_one v w e = cc

pub named_one : (v w : Named) → names_eq v w ≡ true → v ≡ w
named_one v w e = name_one v w (tree_one (Name v) (Name w) e)

abbrev key_by : Named → Key
key_by v = record { name = v.name; copy = v.copy; cell = v.cell }

key_is : (v : Var) → key_of (ref_of v) ≡ key_by (named_variable v)
key_is v = ap key_of (ref_is v)

one_key : (v w : Var) → names_eq (named_variable v) (named_variable w) ≡ true → key_of (ref_of v) ≡ key_of (ref_of w)
one_key v w e = key_is v ∙ (ap key_by (named_one (named_variable v) (named_variable w) e) ∙ sym (key_is w))

abbrev cell_by : Named → ℕ → Key
cell_by v i = record { name = v.name; copy = v.copy; cell = Some i }

cell_is : (v : Var) (i : ℕ) → cell_key (ref_of v) i ≡ cell_by (named_variable v) i
cell_is v i = ap (λ r. cell_key r i) (ref_is v)

one_cell_key : (v w : Var) (i : ℕ) → names_eq (named_variable v) (named_variable w) ≡ true → cell_key (ref_of v) i ≡ cell_key (ref_of w) i
one_cell_key v w i e = cell_is v i ∙ (ap (λ n. cell_by n i) (named_one (named_variable v) (named_variable w) e) ∙ sym (cell_is w i))

-- names that differ are other keys
other_key : (v w : Var) → names_eq (named_variable v) (named_variable w) ≡ false → same_key (key_of (ref_of v)) (key_of (ref_of w)) ≡ false
other_key v w e = ap (λ k. same_key k (key_of (ref_of w))) (key_is v) ∙ (ap (λ k. same_key (key_by (named_variable v)) k) (key_is w) ∙ e)

-- ---- the sum of a tree
abbrev of_register : Option Home → Option Sum
of_register (Some (in_register n z)) = Some (sum_of ((n, 1) ∷ []) (pos 0))
of_register _ = None

abbrev of_multiple : Option Home → ℤ → Option Sum
of_multiple (Some (in_register n z)) k = Some (sum_of ((n, residue S64 k) ∷ []) (pos 0))
of_multiple _ k = None

abbrev sum_both : Option Sum → Option Sum → Option Sum
sum_both (Some t) (Some u) = Some (sum_of (t.terms ++ u.terms) (t.number +ℤ u.number))
sum_both _ u = None

abbrev sum_less : Option Sum → ℤ → Option Sum
sum_less (Some t) i = Some (sum_of t.terms (t.number -ℤ i))
sum_less None i = None

abbrev tree_sum : Homes → Tree → Option Sum
tree_sum home (Number i) = Some (sum_of [] i)
tree_sum home (Name v) = of_register (home (key_by v))
tree_sum home (Both op.Mul (Name v) (Number k)) = of_multiple (home (key_by v)) k
tree_sum home (Both op.Mul (Number k) (Name v)) = of_multiple (home (key_by v)) k
tree_sum home (Both op.Add a b) = sum_both (tree_sum home a) (tree_sum home b)
tree_sum home (Both op.Sub a (Number i)) = sum_less (tree_sum home a) i
tree_sum home _ = None

-- ---- trees by their forms
abbrev var_named : Var → Named
var_named = fold-Var Tree (Unit {0}) Tree (Unit {0}) Named tree_step (λ t. tt) (λ a. a.at) (λ d. tt) named_step

abbrev at_tree : Access → Tree
at_tree = fold-Access Tree (Unit {0}) Tree (Unit {0}) Named tree_step (λ t. tt) (λ a. a.at) (λ d. tt) named_step

abbrev tree_layer : Layer → Tree
tree_layer y = tree_step (map-Expr _ _ _ _ _ Tree (Unit {0}) Tree (Unit {0}) Named tree_of (λ t. tt) at_tree (λ d. tt) var_named y)

tree_is : (y : Layer) → tree_of (roll-Expr y) ≡ tree_layer y
tree_is y = fold-roll-Expr Tree (Unit {0}) Tree (Unit {0}) Named tree_step (λ t. tt) (λ a. a.at) (λ d. tt) named_step y

tree_at : (e : Expr) (l : Layer) → out-Expr e ≡ l → tree_of e ≡ tree_layer l
tree_at e l s = ap tree_of (sym (roll-out-Expr e)) ∙ (tree_is (out-Expr e) ∙ ap tree_layer s)

var_is : (v : Var) → var_named v ≡ named_variable v
var_is v = ap var_named (sym (roll-out-Var v)) ∙ fold-roll-Var Tree (Unit {0}) Tree (Unit {0}) Named tree_step (λ t. tt) (λ a. a.at) (λ d. tt) named_step (out-Var v)

tree_num : (i : ℤ) (at : Span) → tree_of (expr.Num i at) ≡ Number i
tree_num i at = tree_at (expr.Num i at) (Expr-F.Num i at) (out_num i at)

tree_var : (v : Var) → tree_of (expr.Var v) ≡ Name (named_variable v)
tree_var v = tree_at (expr.Var v) (Expr-F.Var v) (out_var v) ∙ ap Name (var_is v)

tree_bin : (o : BinOp) (a b : Expr) (at : Span) → tree_of (expr.Bin o a b at) ≡ Both o (tree_of a) (tree_of b)
tree_bin o a b at = tree_at (expr.Bin o a b at) (Expr-F.Bin o a b at) (out_bin o a b at)

home_named : (home : Homes) (v : Var) (n : ℕ) → home (key_of (ref_of v)) ≡ Some (in_register n S64) → home (key_by (named_variable v)) ≡ Some (in_register n S64)
home_named home v n h = ap home (sym (key_is v)) ∙ h

pub sum_of_tree : (home : Homes) (e : Expr) (t : Sum) → IsSum home e t → tree_sum home (tree_of e) ≡ Some t
sum_of_tree home e t (a_number i at) = ap (tree_sum home) (tree_num i at)
sum_of_tree home e t (a_variable v n h) = ap (tree_sum home) (tree_var v) ∙ ap of_register (home_named home v n h)
sum_of_tree home e t (a_multiple v n k at here h) =
    ap (tree_sum home) (tree_bin op.Mul (expr.Var v) (expr.Num k at) here)
    ∙ (ap (λ x. tree_sum home (Both op.Mul x (tree_of (expr.Num k at)))) (tree_var v)
    ∙ (ap (λ x. tree_sum home (Both op.Mul (Name (named_variable v)) x)) (tree_num k at)
    ∙ ap (λ x. of_multiple x k) (home_named home v n h)))
sum_of_tree home e t (multiple_of v n k at here h) =
    ap (tree_sum home) (tree_bin op.Mul (expr.Num k at) (expr.Var v) here)
    ∙ (ap (λ x. tree_sum home (Both op.Mul x (tree_of (expr.Var v)))) (tree_num k at)
    ∙ (ap (λ x. tree_sum home (Both op.Mul (Number k) x)) (tree_var v)
    ∙ ap (λ x. of_multiple x k) (home_named home v n h)))
sum_of_tree home e t (added {a} {b} {t = u} {u = w} here p q) =
    ap (tree_sum home) (tree_bin op.Add a b here)
    ∙ (ap (λ x. sum_both x (tree_sum home (tree_of b))) (sum_of_tree home a u p)
    ∙ ap (sum_both (Some u)) (sum_of_tree home b w q))
sum_of_tree home e t (less {a} {t = u} i at here p) =
    ap (tree_sum home) (tree_bin op.Sub a (expr.Num i at) here)
    ∙ (ap (λ x. tree_sum home (Both op.Sub (tree_of a) x)) (tree_num i at)
    ∙ ap (λ x. sum_less x i) (sum_of_tree home a u p))

-- equal trees are equal sums
pub same_sum : (home : Homes) (a b : Expr) (t u : Sum) → IsSum home a t → IsSum home b u → tree_of a ≡ tree_of b → t ≡ u
same_sum home a b t u p q e = same_some t u (sym (sum_of_tree home a t p) ∙ (ap (tree_sum home) e ∙ sum_of_tree home b u q))

-- ---- the index of a cell, also where its number is written
sum_of_index : (home : Homes) (e : Expr) (t : Sum) → IsSum home e t → tree_sum home (index_of e) ≡ Some t
sum_of_index home e t p = by_number (written_number e) refl
  where
    by_number : (o : Option ℤ) → written_number e ≡ o → tree_sum home (numbered_tree o (tree_of e)) ≡ Some t
    by_number None s = sum_of_tree home e t p
    by_number (Some n) s = ap (λ x. Some x) (sym (written_sum home e t p n s))

pub same_index_sum : (home : Homes) (a b : Expr) (t u : Sum) → IsSum home a t → IsSum home b u → index_of a ≡ index_of b → t ≡ u
same_index_sum home a b t u p q e = same_some t u (sym (sum_of_index home a t p) ∙ (ap (tree_sum home) e ∙ sum_of_index home b u q))

-- ---- operands that are one
number_itself : (n : ℕ) → nat_eq n n ≡ true
number_itself n = eq-eqb n n refl

int_itself : (i : ℤ) → int_eq i i ≡ true
int_itself i = (Decides-int_eq i i).1 refl

both_true : (a b : Bool) → a ≡ true → b ≡ true → (a && b) ≡ true
both_true true b e f = f
both_true false b e f = e

option_itself : (o : Option ℕ) → same_option o o ≡ true
option_itself None = refl
option_itself (Some n) = number_itself n

index_itself : (o : Option (ℕ × ℕ)) → same_index o o ≡ true
index_itself None = refl
index_itself (Some i) = both_true (nat_eq i.0 i.0) (nat_eq i.1 i.1) (number_itself i.0) (number_itself i.1)

address_itself : (m : Address) → same_arg (arg.Mem m) (arg.Mem m) ≡ true
address_itself m =
    both_true (same_option m.base m.base) _ (option_itself m.base)
    (both_true (same_index m.index m.index) (int_eq m.disp m.disp) (index_itself m.index) (int_itself m.disp))

cell_itself : (w : ℕ) (b : Option ℕ) (i : ℤ) → same_arg (arg.Cell (record { of = w; index = b; offset = i })) (arg.Cell (record { of = w; index = b; offset = i })) ≡ true
cell_itself w b i = both_true (nat_eq w w) _ (number_itself w) (both_true (same_option b b) (int_eq i i) (option_itself b) (int_itself i))

-- a destination is itself
pub dest_itself : (home : Homes) (z : Size) (d : Lval) (b : Arg) (r : Leaks) → IsDest home z d b r → same_arg b b ≡ true
dest_itself home z d b r (to_word v n k h) = number_itself n
dest_itself home z d b r (to_scalar v w k h) = cell_itself w None (pos 0)
dest_itself home z d b r (to_cell v i n w t c j cells s k) = cell_itself w c j
dest_itself home z d b r (to_memory a t m k s j) = address_itself m

-- ---- meetings that are one place
no_same_elsewhere : (b : Bool) → is_same_place (elsewhere b) ≡ true → ⊥
no_same_elsewhere true h = false≢true h
no_same_elsewhere false h = false≢true h

same_only : (b : Bool) → is_same_place (one_or_apart b) ≡ true → b ≡ true
same_only true h = refl
same_only false h = absurd (false≢true h)

same_home : (x y : Home) → ◌≡◌ {A = Option Home} (Some x) (Some y) → x ≡ y
same_home x y e = same_some x y e

register_one : (m n : ℕ) (z y : Size) → in_register m z ≡ in_register n y → m ≡ n
register_one m n z y e = cc

cell_one : (v w i j : ℕ) (z y : Size) → in_cell v i z ≡ in_cell w j y → v ≡ w
cell_one v w i j z y e = cc

register_cell : (m v i : ℕ) (z y : Size) → in_register m z ≡ in_cell v i y → ⊥
register_cell m v i z y e = absurd cc

never : (b : Bool) → (b && false) ≡ true → ⊥
never true h = false≢true h
never false h = false≢true h

cell_same : (s t : Tree) → one_cell (λ x y. false) s t ≡ true → s ≡ t
cell_same s t h = by_part (or_parts (tree_eq s t) (not (is_number s && is_number t) && false) h)
  where
    by_part : (tree_eq s t ≡ true) ⊎ ((not (is_number s && is_number t) && false) ≡ true) → s ≡ t
    by_part (inl e) = tree_one s t e
    by_part (inr e) = absurd (never (not (is_number s && is_number t)) e)

if_named : (b : Bool) (m n : Meeting) → is_same_place (if b then m else n) ≡ true → (is_same_place n ≡ true → ⊥) → (b ≡ true) × (is_same_place m ≡ true)
if_named true m n h f = (refl, h)
if_named false m n h f = absurd (f h)

-- ---- one place, one operand
abbrev pub A : Answers
A = λ x y. false

module _ (home : Homes) (z : Size) where
  same_cells : (w w2 : ℕ) (c c2 : Option ℕ) (j j2 : ℤ) → w ≡ w2 → c ≡ c2 → j ≡ j2
      → same_arg (arg.Cell (record { of = w; index = c; offset = j })) (arg.Cell (record { of = w2; index = c2; offset = j2 })) ≡ true
  same_cells w w2 c c2 j j2 e f g =
      subst (λ x. same_arg (arg.Cell (record { of = w; index = c; offset = j })) x ≡ true) (λ i. arg.Cell (record { of = e i; index = f i; offset = g i })) (cell_itself w c j)

  var_named_same : (v w : Var) → is_same_place (meeting_of A (lval.Var v) (expr.Var w)) ≡ true → names_eq (named_variable w) (named_variable v) ≡ true
  var_named_same v w s = same_only _ (sym (ap (λ k. is_same_place (var_layer_meets A (named_variable v) (expr.Var w) k)) (out_var w)) ∙ s)

  var_elsewhere : (v : Var) (e : Expr) (l : Layer) → out-Expr e ≡ l → (is_same_place (var_layer_meets A (named_variable v) e l) ≡ true → ⊥) → is_same_place (meeting_of A (lval.Var v) e) ≡ true → ⊥
  var_elsewhere v e l s f h = f (sym (ap (λ k. is_same_place (var_layer_meets A (named_variable v) e k)) s) ∙ h)

  cell_elsewhere : (v : Var) (i e : Expr) (l : Layer) → out-Expr e ≡ l → (is_same_place (cell_layer_meets A (named_variable v) (index_of i) e l) ≡ true → ⊥) → is_same_place (meeting_of A (lval.Cell v i) e) ≡ true → ⊥
  cell_elsewhere v i e l s f h = f (sym (ap (λ k. is_same_place (cell_layer_meets A (named_variable v) (index_of i) e k)) s) ∙ h)

  register_same : (v w : Var) (n m : ℕ) → home (key_of (ref_of v)) ≡ Some (in_register n z) → home (key_of (ref_of w)) ≡ Some (in_register m z) → names_eq (named_variable w) (named_variable v) ≡ true → n ≡ m
  register_same v w n m h g e = register_one n m z z (same_some _ _ (sym h ∙ (sym (ap home (one_key w v e)) ∙ g)))

  -- which are one place
  record CellsMeet (v : Var) (i : Expr) (w : Var) (j : Expr) : Type 0 where
    pub names : names_eq (named_variable w) (named_variable v) ≡ true
    pub indexes : index_of i ≡ index_of j

  cells_meet : (v : Var) (i : Expr) (w : Var) (j : Expr) → is_same_place (meeting_of A (lval.Cell v i) (expr.Cell w j)) ≡ true → CellsMeet v i w j
  cells_meet v i w j h =
      let p = if_named (names_eq (named_variable w) (named_variable v)) (one_or_apart (one_cell A (index_of i) (index_of j))) (elsewhere (touches A (named_variable v) (Some (index_of i)) (expr.Cell w j)))
      (sym (ap (λ k. is_same_place (cell_layer_meets A (named_variable v) (index_of i) (expr.Cell w j) k)) (out_cell w j)) ∙ h)
      (no_same_elsewhere (touches A (named_variable v) (Some (index_of i)) (expr.Cell w j)))
      in
      record { names = p.0; indexes = cell_same (index_of i) (index_of j) (same_only (one_cell A (index_of i) (index_of j)) p.1) }

  arrays_same : (v w : Var) (n m u x : ℕ) → AreCells home v z n u → AreCells home w z m x → names_eq (named_variable w) (named_variable v) ≡ true → u ≡ x
  arrays_same v w n m u x c d e = cell_one u x 0 0 z z (same_some _ _ (sym (c.2 0 c.1) ∙ (sym (ap home (one_cell_key w v 0 e)) ∙ d.2 0 d.1)))

  pub same_place : (d : Lval) (e : Expr) (b x : Arg) (r p : Leaks) → IsDest home z d b r → IsArg home z e x p → is_same_place (meeting_of A d e) ≡ true → same_arg b x ≡ true
  same_place d e b x r p (to_word v n k h) (operands.a_word w m g) s = eq-eqb n m (register_same v w n m h g (var_named_same v w s))
  same_place d e b x r p (to_word v n k h) (operands.a_scalar w c g) s =
      absurd (register_cell n c 0 z z (same_some _ _ (sym h ∙ (sym (ap home (one_key w v (var_named_same v w s))) ∙ g))))
  same_place d e b x r p (to_word v n k h) (operands.a_number i at) s = absurd (var_elsewhere v (expr.Num i at) (Expr-F.Num i at) (out_num i at) (no_same_elsewhere _) s)
  same_place d e b x r p (to_word v n k h) (operands.a_cell w i m y t c j cells u q) s = absurd (var_elsewhere v (expr.Cell w i) (Expr-F.Cell w i) (out_cell w i) (no_same_elsewhere _) s)
  same_place d e b x r p (to_word v n k h) (operands.a_load a t m f u q) s = absurd (var_elsewhere v (expr.Load a) (Expr-F.Load a) (out_load a) (no_same_elsewhere _) s)
  same_place d e b x r p (to_scalar v c k h) (operands.a_word w m g) s =
      absurd (register_cell m c 0 z z (same_some _ _ (sym g ∙ (ap home (one_key w v (var_named_same v w s)) ∙ h))))
  same_place d e b x r p (to_scalar v c k h) (operands.a_scalar w u g) s =
      same_cells c u None None (pos 0) (pos 0) (cell_one c u 0 0 z z (same_some _ _ (sym h ∙ (sym (ap home (one_key w v (var_named_same v w s))) ∙ g)))) refl refl
  same_place d e b x r p (to_scalar v c k h) (operands.a_number i at) s = absurd (var_elsewhere v (expr.Num i at) (Expr-F.Num i at) (out_num i at) (no_same_elsewhere _) s)
  same_place d e b x r p (to_scalar v c k h) (operands.a_cell w i m y t u j cells f q) s = absurd (var_elsewhere v (expr.Cell w i) (Expr-F.Cell w i) (out_cell w i) (no_same_elsewhere _) s)
  same_place d e b x r p (to_scalar v c k h) (operands.a_load a t m f u q) s = absurd (var_elsewhere v (expr.Load a) (Expr-F.Load a) (out_load a) (no_same_elsewhere _) s)
  same_place d e b x r p (to_cell v i n u t c j cells f q) (operands.a_word w m g) s = absurd (cell_elsewhere v i (expr.Var w) (Expr-F.Var w) (out_var w) (no_same_elsewhere _) s)
  same_place d e b x r p (to_cell v i n u t c j cells f q) (operands.a_scalar w y g) s = absurd (cell_elsewhere v i (expr.Var w) (Expr-F.Var w) (out_var w) (no_same_elsewhere _) s)
  same_place d e b x r p (to_cell v i n u t c j cells f q) (operands.a_number k at) s = absurd (cell_elsewhere v i (expr.Num k at) (Expr-F.Num k at) (out_num k at) (no_same_elsewhere _) s)
  same_place d e b x r p (to_cell v i n u t c j cells f q) (operands.a_load a y m g o k) s = absurd (cell_elsewhere v i (expr.Load a) (Expr-F.Load a) (out_load a) (no_same_elsewhere _) s)
  same_place d e b x r p (to_cell v i n u t c j cells f q) (operands.a_cell w k m y t2 c2 j2 cells2 f2 q2) s =
      let o = cells_meet v i w k s in
      let g = one_index t t2 c c2 j j2 (same_index_sum home i k t t2 f f2 o.indexes) q q2 in
      same_cells u y c c2 j j2 (arrays_same v w n m u y cells cells2 o.names) g.0 g.1
  same_place d e b x r p (to_memory a t m k f q) (operands.a_word w n g) s = absurd (false≢true (sym (ap (λ k. is_same_place (store_layer_meets (tree_of (out-Access a).at) k)) (out_var w)) ∙ s))
  same_place d e b x r p (to_memory a t m k f q) (operands.a_scalar w y g) s = absurd (false≢true (sym (ap (λ k. is_same_place (store_layer_meets (tree_of (out-Access a).at) k)) (out_var w)) ∙ s))
  same_place d e b x r p (to_memory a t m k f q) (operands.a_number i at) s = absurd (false≢true (sym (ap (λ k. is_same_place (store_layer_meets (tree_of (out-Access a).at) k)) (out_num i at)) ∙ s))
  same_place d e b x r p (to_memory a t m k f q) (operands.a_cell w i n y t2 c j cells g o) s =
      absurd (false≢true (sym (ap (λ k. is_same_place (store_layer_meets (tree_of (out-Access a).at) k)) (out_cell w i)) ∙ s))
  same_place d e b x r p (to_memory a t m k f q) (operands.a_load c t2 m2 k2 f2 q2) s =
      let g = same_only (tree_eq (tree_of (out-Access a).at) (tree_of (out-Access c).at)) (sym (ap (λ k. is_same_place (store_layer_meets (tree_of (out-Access a).at) k)) (out_load c)) ∙ s) in
      let u = same_sum home a.at c.at t t2 f f2 (tree_one (tree_of a.at) (tree_of c.at) g) in
      subst (λ y. same_arg (arg.Mem m) (arg.Mem y) ≡ true) (one_address t t2 m m2 u q q2) (address_itself m)

-- ---- a register that stands nowhere in the operand
module _ (frame : Frame) (home : Homes) (homing : IsHoming frame home) (v : Var) (n : ℕ) (z : Size) (at : home (key_of (ref_of v)) ≡ Some (in_register n z)) where
  other_register : (w : Var) (m : ℕ) (y : Size) → home (key_of (ref_of w)) ≡ Some (in_register m y) → names_eq (named_variable w) (named_variable v) ≡ false → m ≡ n → ⊥
  other_register w m y g e = homing.apart (key_of (ref_of w)) (key_of (ref_of v)) (in_register m y) (in_register n z) (other_key w v e) g at

  abbrev Others : List (ℕ × ℕ) → Type 0
  Others [] = Unit {0}
  Others (t ∷ ts) = (t.0 ≡ n → ⊥) × Others ts

  both_others : (ts us : List (ℕ × ℕ)) → Others ts → Others us → Others (ts ++ us)
  both_others [] us f g = g
  both_others (t ∷ ts) us f g = (f.0, both_others ts us f.1 g)

  abbrev nowhere : Expr → Bool
  nowhere e = touches A (named_variable v) None e

  nowhere_at : (e : Expr) (l : Layer) → out-Expr e ≡ l → nowhere e ≡ false → touches_layer A (named_variable v) None l ≡ false
  nowhere_at e l s h = sym (touches_out A (named_variable v) None e ∙ ap (touches_layer A (named_variable v) None) s) ∙ h

  neither : (a b : Bool) → (a || b) ≡ false → (a ≡ false) × (b ≡ false)
  neither true b h = absurd (true≢false h)
  neither false b h = (refl, h)

  variable_nowhere : (w : Var) → nowhere (expr.Var w) ≡ false → names_eq (named_variable w) (named_variable v) ≡ false
  variable_nowhere w h = nowhere_at (expr.Var w) (Expr-F.Var w) (out_var w) h

  two_nowhere : (o : BinOp) (a b : Expr) (here : Span) → nowhere (expr.Bin o a b here) ≡ false → (nowhere a ≡ false) × (nowhere b ≡ false)
  two_nowhere o a b here h = let p = neither (nowhere b) (nowhere a) (nowhere_at (expr.Bin o a b here) (Expr-F.Bin o a b here) (out_bin o a b here) h) in (p.1, p.0)

  sum_others : (e : Expr) (t : Sum) → IsSum home e t → nowhere e ≡ false → Others t.terms
  sum_others e t (a_number i there) h = tt
  sum_others e t (a_variable w m g) h = (other_register w m S64 g (variable_nowhere w h), tt)
  sum_others e t (a_multiple w m k there here g) h = (other_register w m S64 g (variable_nowhere w (two_nowhere op.Mul (expr.Var w) (expr.Num k there) here h).0), tt)
  sum_others e t (multiple_of w m k there here g) h = (other_register w m S64 g (variable_nowhere w (two_nowhere op.Mul (expr.Num k there) (expr.Var w) here h).1), tt)
  sum_others e t (added {a} {b} {t = u} {u = x} here p q) h =
      let k = two_nowhere op.Add a b here h in both_others u.terms x.terms (sum_others a u p k.0) (sum_others b x q k.1)
  sum_others e t (less {a} {t = u} i there here p) h = sum_others a u p (two_nowhere op.Sub a (expr.Num i there) here h).0

  free_of_one : (m : ℕ) → (m ≡ n → ⊥) → not (among (m ∷ []) n) ≡ true
  free_of_one m f = ap (λ b. not (b || false)) (ne_eqb m n f)

  free_of_two : (m k : ℕ) → (m ≡ n → ⊥) → (k ≡ n → ⊥) → not (among (m ∷ k ∷ []) n) ≡ true
  free_of_two m k f g = ap (λ b. not (b || (nat_eq k n || false))) (ne_eqb m n f) ∙ ap (λ b. not (b || false)) (ne_eqb k n g)

  address_free : (t : Sum) (m : Address) → IsAddress t m → Others t.terms → is_free (arg.Var n) (arg.Mem m) ≡ true
  address_free t m (of_base b i) o = free_of_one b o.0
  address_free t m (of_both b j k i) o = free_of_two b j o.0 o.1.0
  address_free t m (of_swapped b j k i ne) o = free_of_two b j o.1.0 o.0

  cell_free : (t : Sum) (w : ℕ) (c : Option ℕ) (j : ℤ) → IsIndex t c j → Others t.terms → is_free (arg.Var n) (arg.Cell (record { of = w; index = c; offset = j })) ≡ true
  cell_free t w c j (constant i) o = refl
  cell_free t w c j (variable b i) o = free_of_one b o.0

  apart_elsewhere : (b : Bool) → is_apart_from (elsewhere b) ≡ true → b ≡ false
  apart_elsewhere true h = absurd (false≢true h)
  apart_elsewhere false h = refl

  apart_only : (b : Bool) → is_apart_from (one_or_apart b) ≡ true → b ≡ false
  apart_only true h = absurd (false≢true h)
  apart_only false h = refl

  apart_at : (e : Expr) (l : Layer) → out-Expr e ≡ l → is_apart_from (meeting_of A (lval.Var v) e) ≡ true → is_apart_from (var_layer_meets A (named_variable v) e l) ≡ true
  apart_at e l s h = sym (ap (λ k. is_apart_from (var_layer_meets A (named_variable v) e k)) s) ∙ h

  pub apart_place : (y : Size) (e : Expr) (x : Arg) (p : Leaks) → IsArg home y e x p → is_apart_from (meeting_of A (lval.Var v) e) ≡ true → is_free (arg.Var n) x ≡ true
  apart_place y e x p (operands.a_word w m g) s =
      free_of_one m (other_register w m y g (apart_only (names_eq (named_variable w) (named_variable v)) (apart_at (expr.Var w) (Expr-F.Var w) (out_var w) s)))
  apart_place y e x p (operands.a_number i there) s = refl
  apart_place y e x p (operands.a_scalar w c g) s = refl
  apart_place y e x p (operands.a_cell w i m u t c j cells f q) s =
      let h = apart_elsewhere (nowhere (expr.Cell w i)) (apart_at (expr.Cell w i) (Expr-F.Cell w i) (out_cell w i) s) in
      let k = neither (names_eq (named_variable w) (named_variable v) && true) (nowhere i) (nowhere_at (expr.Cell w i) (Expr-F.Cell w i) (out_cell w i) h) in
      cell_free t u c j q (sum_others i t f k.1)
  apart_place y e x p (operands.a_load a t m k f q) s =
      let h = apart_elsewhere (nowhere (expr.Load a)) (apart_at (expr.Load a) (Expr-F.Load a) (out_load a) s) in
      address_free t m q (sum_others a.at t f (nowhere_at (expr.Load a) (Expr-F.Load a) (out_load a) h))

  -- and in a masked count it stands where its variable does
  pub masked_apart : (o : BinOp) (w : Var) (b : Expr) (here : Span) (m : ℕ) (y : Size) → home (key_of (ref_of w)) ≡ Some (in_register m y)
      → is_apart_from (meeting_of A (lval.Var v) (expr.Bin o (expr.Var w) b here)) ≡ true → is_free (arg.Var n) (arg.Var m) ≡ true
  masked_apart o w b here m y g s =
      let e = expr.Bin o (expr.Var w) b here in
      let h = apart_elsewhere (nowhere e) (apart_at e (Expr-F.Bin o (expr.Var w) b here) (out_bin o (expr.Var w) b here) s) in
      free_of_one m (other_register w m y g (variable_nowhere w (two_nowhere o (expr.Var w) b here h).0))

-- an operation is no place
pub operation_not_same : (d : Lval) (o : BinOp) (a b : Expr) (at : Span) → is_same_place (meeting_of A d (expr.Bin o a b at)) ≡ true → ⊥
operation_not_same (lval.Skip here) o a b at h = false≢true h
operation_not_same (lval.Var v) o a b at h =
    no_same_elsewhere _ (sym (ap (λ k. is_same_place (var_layer_meets A (named_variable v) (expr.Bin o a b at) k)) (out_bin o a b at)) ∙ h)
operation_not_same (lval.Cell v i) o a b at h =
    no_same_elsewhere _ (sym (ap (λ k. is_same_place (cell_layer_meets A (named_variable v) (index_of i) (expr.Bin o a b at) k)) (out_bin o a b at)) ∙ h)
operation_not_same (lval.Store c) o a b at h =
    false≢true (sym (ap (λ k. is_same_place (store_layer_meets (tree_of (out-Access c).at) k)) (out_bin o a b at)) ∙ h)
