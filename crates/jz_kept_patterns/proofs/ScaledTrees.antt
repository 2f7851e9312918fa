-- The tree of an expression with words in place of cells of register arrays.
use Rattle.std.proofs.Common.{◌≡◌, ℕ, pos, negsuc, Bool, true, false, ◌&&◌, Option, Some, None, refl, sym, ap, ap₂, ◌∙◌, if◌then◌else◌}
use Rattle.std.specs.Prelude.{is_some, option_map}
use Rattle.jz_tree.specs.Size.{Size}
use Rattle.jz_tree.specs.declared.expr.Storage.{Storage}
use Rattle.jz_tree.specs.declared.expr.Storage.TheVariants as storage
use Rattle.jz_tree.specs.declared.expr.Expr.{Expr}
use Rattle.jz_tree.specs.declared.expr.Ty.{Ty}
use Rattle.jz_tree.specs.declared.expr.Access.{Access}
use Rattle.jz_tree.specs.declared.expr.Decl.{Decl}
use Rattle.jz_tree.specs.declared.expr.Var.{Var}
use Rattle.jz_tree.specs.declared.expr.Expr.TheOpen.{Expr-F, Ty-F, Var-F}
use Rattle.jz_tree.specs.declared.expr.Expr.TheViews.{out-Expr, out-Var, out-Ty, roll-Expr, out-roll-Expr, out-roll-Var}
use Rattle.jz_tree.specs.declared.stmt.Lval.{Lval}
use Rattle.jz_tree.specs.declared.stmt.Lval.TheVariants as lval
use Rattle.jz_type_names.specs.Kinds.{Known, kind_step, declared_of, known_of, same_storage, is_array_kind, is_register_array}
use Rattle.jz_select.specs.Trees.{Named, named_step, named_variable, Name, Loaded, Minus, Opposite, CastTo, Both, tree_of}
use Rattle.jz_judgement.specs.HasType.{Layer}
use Rattle.jz_meaning.specs.declared.access.Kind.{Kind}
use Rattle.jz_meaning.specs.Values.{ref_of}
use Rattle.jz_arrays.specs.Cells.{is_register, cells_of_ty, cells_of_decl, size_at, constant_layer, is_below, number_below, cell_in, scalar, access_with_scalars, with_scalars, left_or, left_with_scalars}
use Rattle.jz_arrays.specs.Cells as cells
use Rattle.jz_arrays.proofs.Reading.{rolled}
use Rattle.jz_kept_types.proofs.Scaling.{access_turns, out_is}
use Rattle.jz_copied_variables.specs.Variables.{IsOver, over, IsOverLayer, o_number, o_truth, o_variable, o_cell, o_load, o_minus, o_denial, o_cast, o_two, LeftOver}
use Rattle.jz_meetings.specs.Meetings.{Whole, AtMemory, place_of}
use Rattle.jz_meetings.specs.Turns.{Turn, word_name, word_of, cell_or, turned, place_or, turned_place, IsTurn}
use Rattle.jz_meetings.proofs.OfTrees.{tree_form, tree_out}
use Rattle.jz_kept_patterns.specs.Passes.{wording}
use Rattle.jz_kept_patterns.specs.KeptPatterns.{AreTold, AreKinds}
use Rattle.jz_kept_patterns.proofs.CopiedTrees.{none_some}

pub word_turn : (c : Named → ℕ → Bool) → IsTurn (wording c)
word_turn c = record { constant = λ s d e. absurd (none_some d e); written = λ s d v e h. absurd (none_some d e) }

at_rolled : (y : Layer) → tree_form (out-Expr (roll-Expr y)) ≡ tree_form y
at_rolled y = ap tree_form (out-roll-Expr y)

-- ---- arrays in registers
size_ty : (s : Storage) (t : Ty-F Expr Ty Access Decl Var) → is_some (if is_register s then cells_of_ty t else None) ≡ (same_storage s storage.Reg && is_array_kind (kind_step t))
size_ty storage.Reg (Ty-F.Array z n) = refl
size_ty storage.Reg Ty-F.Int = refl
size_ty storage.Reg Ty-F.Ty::Bool = refl
size_ty storage.Reg (Ty-F.Word z) = refl
size_ty storage.Stack t = refl
size_ty storage.Inline t = refl

size_decl : (o : Option Decl) → is_some (cells_of_decl o) ≡ is_register_array (option_map declared_of o)
size_decl None = refl
size_decl (Some d) = size_ty d.storage (out-Ty d.ty)

size_is : (v : Var) → is_some (size_at v) ≡ is_register_array (known_of v)
size_is v = size_decl (out-Var v).decl

-- ---- the word of a cell
abbrev word_by : Named → Option Size → Option ℕ → Option Named
word_by v (Some z) (Some n) = Some (word_name v n)
word_by v _ _ = None

word_none : (v : Named) (z : Option Size) → None ≡ word_by v z None
word_none v None = refl
word_none v (Some z) = refl

numeral : (v : Named) (n : ℕ) (r b : Bool) (z : Option Size) → r ≡ is_some z → (if r && b then Some (word_name v n) else None) ≡ word_by v z (if b then Some n else None)
numeral v n r true None e = ap (λ x. if x && true then Some (word_name v n) else None) e
numeral v n r false None e = ap (λ x. if x && false then Some (word_name v n) else None) e
numeral v n r true (Some z) e = ap (λ x. if x && true then Some (word_name v n) else None) e
numeral v n r false (Some z) e = ap (λ x. if x && false then Some (word_name v n) else None) e

module _ (known : Named → Known) (kind : Named → Kind) where
  abbrev pub becomes_word : Named → ℕ → Bool
  becomes_word v n = is_register_array (known v) && is_below (kind v) n

  abbrev W : Turn
  W = wording becomes_word

  pub of_register : (v : Named) (n : ℕ) → becomes_word v n ≡ true → is_register_array (known v) ≡ true
  of_register v n e = by (is_register_array (known v)) (is_below (kind v) n) e
    where
      by : (a b : Bool) → (a && b) ≡ true → a ≡ true
      by true b h = refl
      by false b h = h

  module _ (P : Var → Type 0) (told : AreTold P known) (kinds : AreKinds P kind) where
    word_layer : (v : Var) → P v → (x : Layer) → word_of W (named_variable v) (tree_form x) ≡ word_by (named_variable v) (size_at v) (number_below (ref_of v).kind (constant_layer x))
    word_layer v p (Expr-F.Num (pos n) at) =
        ap (λ k. if is_register_array (known (named_variable v)) && is_below k n then Some (word_name (named_variable v) n) else None) (kinds v p)
        ∙ numeral (named_variable v) n (is_register_array (known (named_variable v))) (is_below (ref_of v).kind n) (size_at v) (ap is_register_array (told.stored v p) ∙ sym (size_is v))
    word_layer v p (Expr-F.Num (negsuc n) at) = word_none (named_variable v) (size_at v)
    word_layer v p (Expr-F.Expr::Bool b at) = word_none (named_variable v) (size_at v)
    word_layer v p (Expr-F.Var w) = word_none (named_variable v) (size_at v)
    word_layer v p (Expr-F.Cell w i) = word_none (named_variable v) (size_at v)
    word_layer v p (Expr-F.Load a) = word_none (named_variable v) (size_at v)
    word_layer v p (Expr-F.Neg a at) = word_none (named_variable v) (size_at v)
    word_layer v p (Expr-F.Not a at) = word_none (named_variable v) (size_at v)
    word_layer v p (Expr-F.Cast z s a at) = word_none (named_variable v) (size_at v)
    word_layer v p (Expr-F.Bin o a b at) = word_none (named_variable v) (size_at v)

    word_is : (v : Var) (i : Expr) → P v → word_of W (named_variable v) (tree_of i) ≡ word_by (named_variable v) (size_at v) (cell_in v i)
    word_is v i p = ap (word_of W (named_variable v)) (tree_out i) ∙ word_layer v p (out-Expr i)

    named_scalar : (v : Var) (z : Size) (n : ℕ) → named_variable (scalar v z n) ≡ word_name (named_variable v) n
    named_scalar v z n = ap (λ (x : Var-F Expr Ty Access Decl Var). named_step x) (out-roll-Var _)

    cell_form : (v : Var) (j : Expr) (z : Option Size) (n : Option ℕ) → tree_form (out-Expr (cells.cell_or v j z n)) ≡ cell_or (named_variable v) (tree_of j) (word_by (named_variable v) z n)
    cell_form v j (Some z) (Some n) = at_rolled (Expr-F.Var (scalar v z n)) ∙ ap Name (named_scalar v z n)
    cell_form v j (Some z) None = at_rolled (Expr-F.Cell v j)
    cell_form v j None (Some n) = at_rolled (Expr-F.Cell v j)
    cell_form v j None None = at_rolled (Expr-F.Cell v j)

    mutual
      pub scaled_tree : {e : Expr} → IsOver P e → tree_of (with_scalars e) ≡ turned W (tree_of e)
      scaled_tree {e = e} (over h) = tree_out (with_scalars e) ∙ (ap tree_form (out_is e) ∙ (layer_scaled h ∙ sym (ap (turned W) (tree_out e))))

      layer_scaled : {x : Layer} → IsOverLayer P x → tree_form (out-Expr (rolled x)) ≡ turned W (tree_form x)
      layer_scaled (o_number {i = i} {at = at}) = at_rolled (Expr-F.Num i at)
      layer_scaled (o_truth {b = b} {at = at}) = at_rolled (Expr-F.Expr::Bool b at)
      layer_scaled (o_variable {v = v} p n) = at_rolled (Expr-F.Var v)
      layer_scaled (o_cell {v = v} {i = i} p y r h) =
          cell_form v (with_scalars i) (size_at v) (cell_in v i)
          ∙ ap₂ (λ j w. cell_or (named_variable v) j w) (scaled_tree h) (sym (word_is v i p))
      layer_scaled (o_load {a = a} h) =
          at_rolled (Expr-F.Load (access_with_scalars a)) ∙ (ap (λ x. Loaded (tree_of x)) (access_turns a).at ∙ ap Loaded (scaled_tree h))
      layer_scaled (o_minus {a = a} {at = at} h) = at_rolled (Expr-F.Neg (with_scalars a) at) ∙ ap Minus (scaled_tree h)
      layer_scaled (o_denial {a = a} {at = at} h) = at_rolled (Expr-F.Not (with_scalars a) at) ∙ ap Opposite (scaled_tree h)
      layer_scaled (o_cast {z = z} {s = s} {a = a} {at = at} h) = at_rolled (Expr-F.Cast z s (with_scalars a) at) ∙ ap (CastTo z s) (scaled_tree h)
      layer_scaled (o_two {o = o} {a = a} {b = b} {at = at} h l) =
          at_rolled (Expr-F.Bin o (with_scalars a) (with_scalars b) at) ∙ ap₂ (λ x y. Both o x y) (scaled_tree h) (scaled_tree l)

    -- ---- left sides
    place_form : (v : Var) (i : Expr) (z : Option Size) (n : Option ℕ) → place_of (left_or v i z n) ≡ place_or (named_variable v) (tree_of (with_scalars i)) (word_by (named_variable v) z n)
    place_form v i (Some z) (Some n) = ap Whole (named_scalar v z n)
    place_form v i (Some z) None = refl
    place_form v i None (Some n) = refl
    place_form v i None None = refl

    pub scaled_place : (d : Lval) → LeftOver P d → place_of (left_with_scalars d) ≡ turned_place W (place_of d)
    scaled_place (lval.Skip at) h = refl
    scaled_place (lval.Var v) h = refl
    scaled_place (lval.Cell v i) h =
        place_form v i (size_at v) (cell_in v i) ∙ ap₂ (λ j w. place_or (named_variable v) j w) (scaled_tree h.3) (sym (word_is v i h.0))
    scaled_place (lval.Store a) h = ap (λ x. AtMemory (tree_of x)) (access_turns a).at ∙ ap AtMemory (scaled_tree h)
