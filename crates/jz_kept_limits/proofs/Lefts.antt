-- Left sides that stand in the place of left sides.
use Rattle.std.proofs.Common.{◌≡◌, ℕ, true, false, Option, Some, None, refl, sym, ap, ◌∙◌, if◌then◌else◌}
use Rattle.std.specs.Prelude.{◌||◌, not, pos, option_map}
use Rattle.jz_tree.specs.Size.{Size}
use Rattle.jz_tree.specs.Span.{Span}
use Rattle.jz_tree.specs.declared.expr.Access.{Access}
use Rattle.jz_tree.specs.declared.expr.Decl.{Decl}
use Rattle.jz_tree.specs.declared.expr.Ty.{Ty}
use Rattle.jz_tree.specs.declared.expr.Ty.TheVariants as ty
use Rattle.jz_tree.specs.declared.expr.Expr.{Expr}
use Rattle.jz_tree.specs.declared.expr.Expr.TheVariants as expr
use Rattle.jz_tree.specs.declared.expr.Expr.TheOpen.{Ty-F, Var-F}
use Rattle.jz_tree.specs.declared.expr.Expr.TheViews.{out-Var, out-Access, out-roll-Ty, out-roll-Var}
use Rattle.jz_tree.specs.declared.expr.Var.{Var}
use Rattle.jz_tree.specs.declared.stmt.Lval.TheVariants as lval
use Rattle.jz_integers.specs.Integers.{KnownNumbers, the_number}
use Rattle.jz_type_names.specs.declared.kinds.Kind.TheVariants as scope
use Rattle.jz_type_names.specs.Kinds.{Known, kind_step, kind_of, declared_of, known_of, is_register_word, is_register_array, is_word_kind}
use Rattle.jz_meaning.specs.declared.access.Kind.{Kind}
use Rattle.jz_meaning.specs.Values.{Ref, size_of, access_of, ref_of}
use Rattle.jz_arrays.specs.Cells.{size_at, cell_in, scalar, with_scalars, left_or}
use Rattle.jz_arrays.proofs.Reading.{kind_size, scalar_is, below_is, cell_is}
use Rattle.jz_limits.specs.declared.limit.Limit.TheVariants.{IndexRange, ImmRange}
use Rattle.jz_limits.specs.declared.looked.Asking.{Asking}
use Rattle.jz_limits.specs.Values.{is_int, only_int}
use Rattle.jz_limits.specs.Asked.{unless, within_cells, has_index}
use Rattle.jz_limits.specs.InnerLooked.{first, sooner, if_not, Seen, Part, seen_as, look_of, cell_part}
use Rattle.jz_limits.proofs.Layers.{look_cell}
use Rattle.jz_kept_limits.specs.Passing.{Passes}
use Rattle.jz_kept_limits.proofs.Passed.{passes_as, passes_itself, passes_then}
use Rattle.jz_kept_limits.proofs.Kept.{part_at, load_passes, cell_passes}
use Rattle.jz_kept_limits.proofs.Firsts.{clean_none}
use Rattle.jz_kept_limits.proofs.Turned.{operand_clean, LeftTurned}

-- ---- variables that are declared alike, at one place
pub record AreAlike (v w : Var) : Type 0 where
  pub known : known_of w ≡ known_of v
  pub kind : (ref_of w).kind ≡ (ref_of v).kind
  pub span : (out-Var w).span ≡ (out-Var v).span

pub alike_itself : (v : Var) → AreAlike v v
alike_itself v = record { known = refl; kind = refl; span = refl }

-- a cell by the declaration of its variable
abbrev part_by : Known → Kind → Span → Seen → Part
part_by d k at s = record {
  width = s.width;
  range = sooner (first (unless (not (is_register_array d) || within_cells (the_number s.value) k) (IndexRange at))) s.range;
  operand = if_not (is_register_array d || has_index k s.terms) (ImmRange at);
  terms = pos 0;
  scaled = true;
}

part_alike : (v w : Var) (s : Seen) → AreAlike v w → cell_part w s ≡ cell_part v s
part_alike v w s a = (λ j. part_by (a.known j) (a.kind j) (a.span j) s)

seen_alike : (f : KnownNumbers) (q : Asking) (v w : Var) (x : Expr) → AreAlike v w
    → seen_as false None (out-Var w).span q (cell_part w (look_of f (part_at (out-Var w).span) x)) ≡ seen_as false None (out-Var v).span q (cell_part v (look_of f (part_at (out-Var v).span) x))
seen_alike f q v w x a =
    ap (λ s. seen_as false None s q (cell_part w (look_of f (part_at s) x))) a.span
    ∙ ap (seen_as false None (out-Var v).span q) (part_alike v w (look_of f (part_at (out-Var v).span) x) a)

pub renamed_passes : (f : KnownNumbers) (q : Asking) (v w : Var) (x : Expr) → AreAlike v w → Passes (look_of f q (expr.Cell v x)) (look_of f q (expr.Cell w x))
renamed_passes f q v w x a =
    let s = seen_as false None (out-Var v).span q (cell_part v (look_of f (part_at (out-Var v).span) x)) in
    passes_as s s (look_of f q (expr.Cell v x)) (look_of f q (expr.Cell w x)) (look_cell f q v x) (look_cell f q w x ∙ seen_alike f q v w x a) (passes_itself s)

-- ---- a word in place of a cell
word_ty : (z : Size) → kind_of (ty.Word z) ≡ scope.Word z
word_ty z = ap (λ t. kind_of t) (sym (ty.rolls-Word z)) ∙ ap kind_step (out-roll-Ty (Ty-F.Word z))

scalar_register : (v : Var) (z : Size) (n : ℕ) → is_register_word (known_of (scalar v z n)) ≡ true
scalar_register v z n = ap (λ (x : Var-F Expr Ty Access Decl Var). is_register_word (option_map declared_of x.decl)) (out-roll-Var _) ∙ ap is_word_kind (word_ty z)

scalar_int : (v : Var) (z : Size) (n : ℕ) → only_int (lval.Var (scalar v z n)) ≡ None
scalar_int v z n = ap (λ (r : Ref). if is_int r.kind then Some (scalar v z n) else None) (scalar_is v z n)

-- ---- left sides
module _ (e f : KnownNumbers) (v w : Var) (i x : Expr) (alike : AreAlike v w) (passes : (q : Asking) → Passes (look_of e q i) (look_of f q (with_scalars x))) where
  cell_left : LeftTurned e f (lval.Cell v i) (lval.Cell w (with_scalars x))
  cell_left = record {
    parts = λ c. operand_clean e f None (expr.Cell v i) (expr.Cell w (with_scalars x))
        (λ q. passes_then (look_of e q (expr.Cell v i)) (look_of f q (expr.Cell v (with_scalars x))) (look_of f q (expr.Cell w (with_scalars x))) (cell_passes e f q v i (with_scalars x) passes)
        (renamed_passes f q v w (with_scalars x) alike)) c;
    size = ap size_of alike.kind;
    register = λ t. ap is_register_array alike.known ∙ t;
    int = refl;
    unknown = λ u q. absurd cc;
  }

  word_left : (z : Size) (n : ℕ) → size_at w ≡ Some z → cell_in w x ≡ Some n → LeftTurned e f (lval.Cell v i) (lval.Var (scalar w z n))
  word_left z n s c =
      let b = below_is (ref_of w).kind n (cell_is w x n c).1 in
      record {
        parts = λ p. clean_none;
        size = ap (λ (r : Ref). size_of r.kind) (scalar_is w z n) ∙ ap Some (kind_size w z b.0 b.1 s b.2) ∙ ap size_of (sym b.2) ∙ ap size_of alike.kind;
        register = λ t. scalar_register w z n;
        int = scalar_int w z n;
        unknown = λ u q. absurd cc;
      }

  pub chosen_left : (z : Option Size) (n : Option ℕ) → size_at w ≡ z → cell_in w x ≡ n → LeftTurned e f (lval.Cell v i) (left_or w x z n)
  chosen_left (Some z) (Some n) s c = word_left z n s c
  chosen_left (Some z) None s c = cell_left
  chosen_left None (Some n) s c = cell_left
  chosen_left None None s c = cell_left

pub store_left : (e f : KnownNumbers) (a b : Access) (x : Expr) → (out-Access b).span ≡ (out-Access a).span → (out-Access b).at ≡ x → (access_of b).size ≡ (access_of a).size → ((q : Asking) → Passes (look_of e q (out-Access a).at) (look_of f q x))
    → LeftTurned e f (lval.Store a) (lval.Store b)
store_left e f a b x here is size passes = record {
  parts = λ c. operand_clean e f None (expr.Load a) (expr.Load b) (λ q. load_passes e f q a b x here is passes) c;
  size = size;
  register = λ t. t;
  int = refl;
  unknown = λ u q. absurd cc;
}
