-- The tree of a copy.
use Rattle.std.proofs.Common.{◌≡◌, pos, negsuc, Some, None, refl, sym, ap, ap₂, ◌∙◌}
use Rattle.jz_tree.specs.declared.expr.Expr.{Expr}
use Rattle.jz_tree.specs.declared.expr.Ty.{Ty}
use Rattle.jz_tree.specs.declared.expr.Access.{Access}
use Rattle.jz_tree.specs.declared.expr.Decl.{Decl}
use Rattle.jz_tree.specs.declared.expr.Var.{Var}
use Rattle.jz_tree.specs.declared.expr.Expr.TheOpen.{Var-F}
use Rattle.jz_tree.specs.declared.expr.Expr.TheViews.{out-Access, out-roll-Var}
use Rattle.jz_tree.specs.declared.stmt.Lval.{Lval}
use Rattle.jz_tree.specs.declared.stmt.Lval.TheVariants as lval
use Rattle.jz_select.specs.Trees.{Named, named_step, named_variable, Tree, Number, Truth, Name, CellOf, Loaded, Minus, Opposite, CastTo, Both, tree_of}
use Rattle.jz_judgement.specs.HasType.{Layer}
use Rattle.jz_run_laws.specs.Counted as counted
use Rattle.jz_inline.specs.Names.{Names, var_in, expr_in, lval_in}
use Rattle.jz_inline.proofs.Reading.{layer_in}
use Rattle.jz_copied_types.proofs.Copying.{out_in, access_turns}
use Rattle.jz_kept_classes.proofs.Formed.{Formed, FormedLayer, formed}
use Rattle.jz_meetings.specs.Meetings.{Whole, CellAt, AtMemory, place_of}
use Rattle.jz_meetings.specs.Turns.{Turn, word_of, cell_or, turned, place_or, turned_place, IsTurn}
use Rattle.jz_meetings.proofs.OfTrees.{tree_form, tree_out}
use Rattle.jz_kept_patterns.specs.Passes.{name_in, renaming}

pub none_some : {A : Type 0} (x : A) → None ≡ Some x → ⊥
none_some x e = cc

pub rename_turn : (n : Named → Named) → IsTurn (renaming n)
rename_turn n = record { constant = λ s c e. absurd (none_some c e); written = λ s c v e h. absurd (none_some c e) }

pub no_word : (n : Named → Named) (v : Named) (j : Tree) → word_of (renaming n) v j ≡ None
no_word n v (Number (pos i)) = refl
no_word n v (Number (negsuc i)) = refl
no_word n v (Truth b) = refl
no_word n v (Name u) = refl
no_word n v (CellOf u i) = refl
no_word n v (Loaded a) = refl
no_word n v (Minus a) = refl
no_word n v (Opposite a) = refl
no_word n v (CastTo z s a) = refl
no_word n v (Both o a b) = refl

module _ (names : Names) where
  abbrev N : Named → Named
  N = name_in names

  abbrev R : Turn
  R = renaming (name_in names)

  pub named_in : (v : Var) → named_variable (var_in names v) ≡ name_in names (named_variable v)
  named_in v = ap (λ (x : Var-F Expr Ty Access Decl Var). named_step x) (out-roll-Var _)

  as_cell : (v : Named) (j : Tree) → CellOf (N v) (turned R j) ≡ cell_or (N v) (turned R j) (word_of R v j)
  as_cell v j = sym (ap (cell_or (N v) (turned R j)) (no_word N v j))

  mutual
    copied : (e : Expr) → Formed e → tree_of (expr_in names e) ≡ turned R (tree_of e)
    copied e (counted.expression f) = tree_out (expr_in names e) ∙ (ap tree_form (out_in names e) ∙ (layer_copied f ∙ sym (ap (turned R) (tree_out e))))

    layer_copied : {x : Layer} → FormedLayer x → tree_form (layer_in names x) ≡ turned R (tree_form x)
    layer_copied counted.number = refl
    layer_copied counted.bool = refl
    layer_copied (counted.variable {v = v} p) = ap Name (named_in v)
    layer_copied (counted.cell {v = v} {i = i} p f) = ap₂ (λ x y. CellOf x y) (named_in v) (copied i f) ∙ as_cell (named_variable v) (tree_of i)
    layer_copied (counted.load {a = a} f) = ap (λ x. Loaded (tree_of x)) (access_turns names a).at ∙ ap Loaded (copied (out-Access a).at f)
    layer_copied (counted.negated {a = a} f) = ap Minus (copied a f)
    layer_copied (counted.inverted {a = a} f) = ap Opposite (copied a f)
    layer_copied (counted.cast {z = z} {s = s} {a = a} f) = ap (CastTo z s) (copied a f)
    layer_copied (counted.operation {o = o} {a = a} {b = b} f g) = ap₂ (λ x y. Both o x y) (copied a f) (copied b g)

  pub copied_tree : (e : Expr) → tree_of (expr_in names e) ≡ turned R (tree_of e)
  copied_tree e = copied e (formed e)

  pub copied_place : (d : Lval) → place_of (lval_in names d) ≡ turned_place R (place_of d)
  copied_place (lval.Skip at) = refl
  copied_place (lval.Var v) = ap Whole (named_in v)
  copied_place (lval.Cell v i) =
      ap₂ (λ x y. CellAt x y) (named_in v) (copied_tree i) ∙ sym (ap (place_or (N (named_variable v)) (turned R (tree_of i))) (no_word N (named_variable v) (tree_of i)))
  copied_place (lval.Store a) = ap (λ x. AtMemory (tree_of x)) (access_turns names a).at ∙ ap AtMemory (copied_tree (out-Access a).at)
