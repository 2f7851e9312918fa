-- How a destination meets an operand with the hardest answers, and with others.
use Rattle.std.proofs.Common.{◌≡◌, Bool, true, false, Option, Some, None, refl, ap, inl, inr}
use Rattle.std.specs.Prelude.{◌⊎◌, if◌then◌else◌}
use Rattle.jz_tree.specs.declared.expr.Expr.{Expr}
use Rattle.jz_tree.specs.declared.expr.Expr.TheOpen.{Expr-F}
use Rattle.jz_tree.specs.declared.expr.Expr.TheViews.{out-Expr}
use Rattle.jz_tree.specs.declared.stmt.Lval.{Lval}
use Rattle.jz_tree.specs.declared.stmt.Lval.TheVariants as lval
use Rattle.jz_select.specs.declared.class.Meeting.{Meeting}
use Rattle.jz_select.specs.Trees.{Named, named_variable, names_eq, Tree, index_of}
use Rattle.jz_select.specs.Places.{Layer, Answers, one_cell, same_index, touches, elsewhere, one_or_apart, var_layer_meets, cell_layer_meets, meeting_of}
use Rattle.jz_select.specs.Rows.{is_same_place, is_apart_from}
use Rattle.jz_select.specs.Hardest.{guess, cell_index, index_beside}
use Rattle.jz_select.proofs.Answering.{yes_hardest, no_hardest, but_itself, but_hardest, touches_kept}

elsewhere_apart : (b : Bool) → is_apart_from (elsewhere b) ≡ true → b ≡ false
elsewhere_apart true p = absurd cc
elsewhere_apart false p = refl

elsewhere_not_same : (b : Bool) → is_same_place (elsewhere b) ≡ true → ⊥
elsewhere_not_same true p = cc
elsewhere_not_same false p = cc

one_apart : (b : Bool) → is_apart_from (one_or_apart b) ≡ true → b ≡ false
one_apart true p = absurd cc
one_apart false p = refl

one_same : (b : Bool) → is_same_place (one_or_apart b) ≡ true → b ≡ true
one_same true p = refl
one_same false p = absurd cc

either : (b : Bool) → (is_same_place (one_or_apart b) ≡ true) ⊎ (is_apart_from (one_or_apart b) ≡ true)
either true = inl refl
either false = inr refl

-- ---- apart with answers, then apart with others
module _ (A B : Answers) (Q : Type 0) where
  abbrev Harder : Tree → Type 0
  Harder x = (y : Tree) → one_cell A x y ≡ false → Q ⊎ (one_cell B x y ≡ false)

  abbrev HarderFor : Lval → Type 0
  HarderFor (lval.Cell v k) = Harder (index_of k)
  HarderFor d = Unit {0}

  elsewhere_kept : (d : Named) (i : Option Tree) (e : Expr) → ((y : Tree) → same_index A i y ≡ false → Q ⊎ (same_index B i y ≡ false))
      → is_apart_from (elsewhere (touches A d i e)) ≡ true → Q ⊎ (is_apart_from (elsewhere (touches B d i e)) ≡ true)
  elsewhere_kept d i e h p =
      elim (touches_kept A B Q d i h e (elsewhere_apart (touches A d i e) p))
      [ inl q ↦ inl q | inr n ↦ inr (ap (λ b. is_apart_from (elsewhere b)) n) ]

  whole_kept : (d : Named) (e : Expr) → is_apart_from (elsewhere (touches A d None e)) ≡ true → Q ⊎ (is_apart_from (elsewhere (touches B d None e)) ≡ true)
  whole_kept d e p = elsewhere_kept d None e (λ y c. absurd cc) p

  var_apart : (d : Named) (e : Expr) (y : Layer) → is_apart_from (var_layer_meets A d e y) ≡ true → Q ⊎ (is_apart_from (var_layer_meets B d e y) ≡ true)
  var_apart d e (Expr-F.Var v) p = inr p
  var_apart d e _ p = whole_kept d e p

  by_name : (d : Named) (x t : Tree) (e : Expr) → Harder x → (n : Bool)
      → is_apart_from (if n then one_or_apart (one_cell A x t) else elsewhere (touches A d (Some x) e)) ≡ true
      → Q ⊎ (is_apart_from (if n then one_or_apart (one_cell B x t) else elsewhere (touches B d (Some x) e)) ≡ true)
  by_name d x t e h true p =
      elim (h t (one_apart (one_cell A x t) p))
      [ inl q ↦ inl q | inr n ↦ inr (ap (λ b. is_apart_from (one_or_apart b)) n) ]
  by_name d x t e h false p = elsewhere_kept d (Some x) e h p

  cell_apart : (d : Named) (x : Tree) (e : Expr) → Harder x → (y : Layer) → is_apart_from (cell_layer_meets A d x e y) ≡ true → Q ⊎ (is_apart_from (cell_layer_meets B d x e y) ≡ true)
  cell_apart d x e h (Expr-F.Cell v at) p = by_name d x (index_of at) e h (names_eq (named_variable v) d) p
  cell_apart d x e h _ p = elsewhere_kept d (Some x) e h p

  pub apart_kept : (d : Lval) (o : Expr) → HarderFor d → is_apart_from (meeting_of A d o) ≡ true → Q ⊎ (is_apart_from (meeting_of B d o) ≡ true)
  apart_kept (lval.Skip at) o h p = inr p
  apart_kept (lval.Var v) o h p = var_apart (named_variable v) o (out-Expr o) p
  apart_kept (lval.Cell v k) o h p = cell_apart (named_variable v) (index_of k) o h (out-Expr o) p
  apart_kept (lval.Store a) o h p = inr p

-- ---- one place with some answers, then one place or apart with others
module _ (A B : Answers) where
  abbrev OneOrApart : Meeting → Type 0
  OneOrApart m = (is_same_place m ≡ true) ⊎ (is_apart_from m ≡ true)

  var_one : (d : Named) (e : Expr) (y : Layer) → is_same_place (var_layer_meets A d e y) ≡ true → is_same_place (var_layer_meets B d e y) ≡ true
  var_one d e (Expr-F.Var v) p = p
  var_one d e _ p = absurd (elsewhere_not_same (touches A d None e) p)

  name_one : (d : Named) (x t : Tree) (e : Expr) (n : Bool)
      → is_same_place (if n then one_or_apart (one_cell A x t) else elsewhere (touches A d (Some x) e)) ≡ true
      → OneOrApart (if n then one_or_apart (one_cell B x t) else elsewhere (touches B d (Some x) e))
  name_one d x t e true p = either (one_cell B x t)
  name_one d x t e false p = absurd (elsewhere_not_same (touches A d (Some x) e) p)

  cell_one : (d : Named) (x : Tree) (e : Expr) (y : Layer) → is_same_place (cell_layer_meets A d x e y) ≡ true → OneOrApart (cell_layer_meets B d x e y)
  cell_one d x e (Expr-F.Cell v at) p = name_one d x (index_of at) e (names_eq (named_variable v) d) p
  cell_one d x e _ p = absurd (elsewhere_not_same (touches A d (Some x) e) p)

  pub same_or_apart : (d : Lval) (o : Expr) → is_same_place (meeting_of A d o) ≡ true → OneOrApart (meeting_of B d o)
  same_or_apart (lval.Skip at) o p = absurd cc
  same_or_apart (lval.Var v) o p = inl (var_one (named_variable v) o (out-Expr o) p)
  same_or_apart (lval.Cell v k) o p = cell_one (named_variable v) (index_of k) o (out-Expr o) p
  same_or_apart (lval.Store a) o p = inl p

-- ---- the hardest answers
module _ (B : Answers) where
  -- no cell is one but by its index
  no_name : (s : Option Tree) (d : Named) (x t : Tree) (e : Expr) (n : Bool)
      → is_same_place (if n then one_or_apart (one_cell (guess true s) x t) else elsewhere (touches (guess true s) d (Some x) e)) ≡ true
      → is_same_place (if n then one_or_apart (one_cell B x t) else elsewhere (touches B d (Some x) e)) ≡ true
  no_name s d x t e true p = ap (λ b. is_same_place (one_or_apart b)) (no_hardest B s x t (one_same (one_cell (guess true s) x t) p))
  no_name s d x t e false p = absurd (elsewhere_not_same (touches (guess true s) d (Some x) e) p)

  no_cell : (s : Option Tree) (d : Named) (x : Tree) (e : Expr) (y : Layer) → is_same_place (cell_layer_meets (guess true s) d x e y) ≡ true → is_same_place (cell_layer_meets B d x e y) ≡ true
  no_cell s d x e (Expr-F.Cell v at) p = no_name s d x (index_of at) e (names_eq (named_variable v) d) p
  no_cell s d x e _ p = absurd (elsewhere_not_same (touches (guess true s) d (Some x) e) p)

  pub no_same : (s : Option Tree) (d : Lval) (o : Expr) → is_same_place (meeting_of (guess true s) d o) ≡ true → is_same_place (meeting_of B d o) ≡ true
  no_same s (lval.Skip at) o p = p
  no_same s (lval.Var v) o p = var_one (guess true s) B (named_variable v) o (out-Expr o) p
  no_same s (lval.Cell v k) o p = no_cell s (named_variable v) (index_of k) o (out-Expr o) p
  no_same s (lval.Store a) o p = p

  -- the first operand is no cell but by its index
  abbrev index_if_named : Bool → Tree → Option Tree
  index_if_named n t = if n then Some t else None

  but_name : (d : Named) (x t : Tree) (e : Expr) (n : Bool)
      → is_same_place (if n then one_or_apart (one_cell (guess false (index_if_named n t)) x t) else elsewhere (touches (guess false (index_if_named n t)) d (Some x) e)) ≡ true
      → is_same_place (if n then one_or_apart (one_cell B x t) else elsewhere (touches B d (Some x) e)) ≡ true
  but_name d x t e true p = ap (λ b. is_same_place (one_or_apart b)) (but_itself B x t (one_same (one_cell (guess false (Some t)) x t) p))
  but_name d x t e false p = absurd (elsewhere_not_same (touches (guess false None) d (Some x) e) p)

  but_cell : (d : Named) (x : Tree) (e : Expr) (y : Layer) → is_same_place (cell_layer_meets (guess false (cell_index d y)) d x e y) ≡ true → is_same_place (cell_layer_meets B d x e y) ≡ true
  but_cell d x e (Expr-F.Cell v at) p = but_name d x (index_of at) e (names_eq (named_variable v) d) p
  but_cell d x e _ p = absurd (elsewhere_not_same (touches (guess false None) d (Some x) e) p)

  pub but_same : (d : Lval) (a : Expr) → is_same_place (meeting_of (guess false (index_beside d a)) d a) ≡ true → is_same_place (meeting_of B d a) ≡ true
  but_same (lval.Skip at) a p = p
  but_same (lval.Var v) a p = var_one (guess false None) B (named_variable v) a (out-Expr a) p
  but_same (lval.Cell v k) a p = but_cell (named_variable v) (index_of k) a (out-Expr a) p
  but_same (lval.Store x) a p = p

  -- what is apart then is apart, or the first operand is the destination
  harder_name : (d : Named) (x t z : Tree) (e : Expr) (n : Bool) → one_cell (guess false (index_if_named n t)) x z ≡ false
      → (is_same_place (if n then one_or_apart (one_cell B x t) else elsewhere (touches B d (Some x) e)) ≡ true) ⊎ (one_cell B x z ≡ false)
  harder_name d x t z e true p =
      elim (but_hardest B x t z p) [ inl one ↦ inl (ap (λ b. is_same_place (one_or_apart b)) one) | inr two ↦ inr two ]
  harder_name d x t z e false p = inr (yes_hardest B x z p)

  harder_cell : (d : Named) (x z : Tree) (e : Expr) (y : Layer) → one_cell (guess false (cell_index d y)) x z ≡ false
      → (is_same_place (cell_layer_meets B d x e y) ≡ true) ⊎ (one_cell B x z ≡ false)
  harder_cell d x z e (Expr-F.Cell v at) p = harder_name d x (index_of at) z e (names_eq (named_variable v) d) p
  harder_cell d x z e _ p = inr (yes_hardest B x z p)

  harder_for : (d : Lval) (a : Expr) → HarderFor (guess false (index_beside d a)) B (is_same_place (meeting_of B d a) ≡ true) d
  harder_for (lval.Skip at) a = tt
  harder_for (lval.Var v) a = tt
  harder_for (lval.Cell v k) a = λ z p. harder_cell (named_variable v) (index_of k) z a (out-Expr a) p
  harder_for (lval.Store x) a = tt

  pub but_apart : (d : Lval) (a o : Expr) → is_apart_from (meeting_of (guess false (index_beside d a)) d o) ≡ true
      → (is_same_place (meeting_of B d a) ≡ true) ⊎ (is_apart_from (meeting_of B d o) ≡ true)
  but_apart d a o p = apart_kept (guess false (index_beside d a)) B (is_same_place (meeting_of B d a) ≡ true) d o (harder_for d a) p

  -- all cells are one
  yes_for : (d : Lval) → HarderFor (guess false None) B ⊥ d
  yes_for (lval.Skip at) = tt
  yes_for (lval.Var v) = tt
  yes_for (lval.Cell v k) = λ z p. inr (yes_hardest B (index_of k) z p)
  yes_for (lval.Store x) = tt

  pub yes_apart : (d : Lval) (o : Expr) → is_apart_from (meeting_of (guess false None) d o) ≡ true → is_apart_from (meeting_of B d o) ≡ true
  yes_apart d o p = elim (apart_kept (guess false None) B ⊥ d o (yes_for d) p) [ inl never ↦ absurd never | inr q ↦ q ]
