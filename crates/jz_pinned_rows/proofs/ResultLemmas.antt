-- Left sides that are flags, and words in RAX and RDX.
use Rattle.std.proofs.Common.{◌≡◌, ℕ, List, Option, Some, None, refl, sym, ap, ◌∙◌, subst}
use Rattle.jz_words.specs.declared.size.Size.{Size}
use Rattle.jz_tree.specs.Span.{Span}
use Rattle.jz_tree.specs.declared.expr.Access.{Access}
use Rattle.jz_tree.specs.declared.expr.Expr.{Expr}
use Rattle.jz_tree.specs.declared.expr.Var.{Var}
use Rattle.jz_tree.specs.declared.stmt.Lval.{Lval}
use Rattle.jz_tree.specs.declared.stmt.Lval.TheVariants as lval
use Rattle.jz_meaning.specs.declared.access.Kind.{Kind}
use Rattle.jz_meaning.specs.declared.access.Kind.TheVariants as kind
use Rattle.jz_meaning.specs.Values.{key_of, ref_of}
use Rattle.jz_operations.specs.declared.operation.Pinned.{Pinned}
use Rattle.jz_operations.specs.declared.operation.Flags.{Flags}
use Rattle.jz_operations.specs.declared.operation.Action.{Action}
use Rattle.jz_change.specs.declared.change.Numbers.{Numbers}
use Rattle.jz_homes.specs.Homes.{Homes, in_register, in_flag}
use Rattle.jz_row_operations.specs.Codes.{no_flag}
use Rattle.jz_flag_rows.specs.Results.{IsFlag, no_variable, a_variable, IsPinned, no_word, a_word}
use Rattle.jz_operands.specs.Refusals.{FindsOr}
use Rattle.jz_pinned_rows.specs.declared.row.Acts.{Acts}
use Rattle.jz_pinned_rows.specs.declared.row.PinnedRow.{PinnedRow}
use Rattle.jz_pinned_rows.specs.Rows.{FindsActs, FindsRow, Nowhere}
use Rattle.jz_pinned_rows.specs.InnerRows.{plain_row, Unflagged}

-- ---- no flag of actions
pub no_acts : (o : Option Acts) → o ≡ None → None ≡ plain_row o
no_acts None e = refl
no_acts (Some a) e = absurd cc

pub some_acts : (o : Option Acts) (a : Acts) (fl : Flags) → o ≡ Some a → fl ≡ no_flag → Some (record { acts = a; flags = fl }) ≡ plain_row o
some_acts o a fl e f = ap (λ u. Some (record { acts = a; flags = u })) f ∙ sym (ap plain_row e)

pub plain_finds : (P : List Action → List Numbers → Type 0) (o : Option Acts) (r : Option PinnedRow) → r ≡ plain_row o → FindsActs P o → FindsRow (Unflagged P) r
plain_finds P o r e h = subst (FindsRow (Unflagged P)) (sym e) (by o h)
  where
    by : (o : Option Acts) → FindsActs P o → FindsRow (Unflagged P) (plain_row o)
    by None none = λ fl acts items k can. none acts items k.1 can
    by (Some a) row = (refl, row)

-- ---- flags
module _ (home : Homes) where
  flag_parts : (x : Var) (k : Option Pinned) → IsFlag home (lval.Var x) k → (n : ℕ) × ((ref_of x).kind ≡ kind.Bool) × (home (key_of (ref_of x)) ≡ Some (in_flag n))
  flag_parts x k (a_variable y j own h s) = (j.variable, own, h)

  pub no_flag_kind : (x : Var) → ((ref_of x).kind ≡ kind.Bool → ⊥) → Nowhere (IsFlag home (lval.Var x))
  no_flag_kind x none k h = none (flag_parts x k h).1

  pub no_flag_home : (x : Var) → ((n : ℕ) → home (key_of (ref_of x)) ≡ Some (in_flag n) → ⊥) → Nowhere (IsFlag home (lval.Var x))
  no_flag_home x none k h = let r = flag_parts x k h in none r.0 r.2

  pub flag_is : (x : Var) (k : Pinned) → (ref_of x).kind ≡ kind.Bool → home (key_of (ref_of x)) ≡ Some (in_flag k.variable) → k.span ≡ (ref_of x).span → IsFlag home (lval.Var x) (Some k)
  flag_is x k own h s = a_variable x k own h s

  pub flag_skip : (d : Lval) (at : Span) → d ≡ lval.Skip at → IsFlag home d None
  flag_skip d at e = subst (λ u. IsFlag home u None) (sym e) (no_variable at)

  pub flag_left : (d : Lval) (x : Var) (o : Option (Option Pinned)) → d ≡ lval.Var x → FindsOr o (IsFlag home (lval.Var x)) (Nowhere (IsFlag home (lval.Var x))) → FindsOr o (IsFlag home d) (Nowhere (IsFlag home d))
  flag_left d x o e h = subst (λ u. FindsOr o (IsFlag home u) (Nowhere (IsFlag home u))) (sym e) h

  flag_no_cell : (x : Var) (e : Expr) (k : Option Pinned) → IsFlag home (lval.Cell x e) k → ⊥
  flag_no_cell x e k h = elim h [ ]

  pub flag_cell : (d : Lval) (x : Var) (e : Expr) → d ≡ lval.Cell x e → Nowhere (IsFlag home d)
  flag_cell d x e is k h = flag_no_cell x e k (subst (λ u. IsFlag home u k) is h)

  flag_no_store : (a : Access) (k : Option Pinned) → IsFlag home (lval.Store a) k → ⊥
  flag_no_store a k h = elim h [ ]

  pub flag_store : (d : Lval) (a : Access) → d ≡ lval.Store a → Nowhere (IsFlag home d)
  flag_store d a is k h = flag_no_store a k (subst (λ u. IsFlag home u k) is h)

-- ---- words
module _ (home : Homes) (z : Size) where
  word_parts : (x : Var) (k : Option Pinned) → IsPinned home z (lval.Var x) k → (n : ℕ) × ((ref_of x).kind ≡ kind.Word z) × (home (key_of (ref_of x)) ≡ Some (in_register n z))
  word_parts x k (a_word y j own h s) = (j.variable, own, h)

  pub no_word_kind : (x : Var) → ((ref_of x).kind ≡ kind.Word z → ⊥) → Nowhere (IsPinned home z (lval.Var x))
  no_word_kind x none k h = none (word_parts x k h).1

  word_size : (y : Size) → ◌≡◌ {A = Kind} (kind.Word y) (kind.Word z) → y ≡ z
  word_size y e = cc

  pub no_word_size : (x : Var) (own : Size) → (ref_of x).kind ≡ kind.Word own → (own ≡ z → ⊥) → Nowhere (IsPinned home z (lval.Var x))
  no_word_size x own e none = no_word_kind x (λ f. none (word_size own (sym e ∙ f)))

  pub no_word_home : (x : Var) → ((n : ℕ) → home (key_of (ref_of x)) ≡ Some (in_register n z) → ⊥) → Nowhere (IsPinned home z (lval.Var x))
  no_word_home x none k h = let r = word_parts x k h in none r.0 r.2

  pub word_is : (x : Var) (n : ℕ) (at : Span) → (ref_of x).kind ≡ kind.Word z → home (key_of (ref_of x)) ≡ Some (in_register n z) → at ≡ (ref_of x).span → IsPinned home z (lval.Var x) (Some (record { variable = n; span = at }))
  word_is x n at own h s = a_word x (record { variable = n; span = at }) own h s

  pub word_skip : (d : Lval) (at : Span) → d ≡ lval.Skip at → IsPinned home z d None
  word_skip d at e = subst (λ u. IsPinned home z u None) (sym e) (no_word at)

  pub word_left : (d : Lval) (x : Var) (o : Option (Option Pinned)) → d ≡ lval.Var x → FindsOr o (IsPinned home z (lval.Var x)) (Nowhere (IsPinned home z (lval.Var x))) → FindsOr o (IsPinned home z d) (Nowhere (IsPinned home z d))
  word_left d x o e h = subst (λ u. FindsOr o (IsPinned home z u) (Nowhere (IsPinned home z u))) (sym e) h

  word_no_cell : (x : Var) (e : Expr) (k : Option Pinned) → IsPinned home z (lval.Cell x e) k → ⊥
  word_no_cell x e k h = elim h [ ]

  pub word_cell : (d : Lval) (x : Var) (e : Expr) → d ≡ lval.Cell x e → Nowhere (IsPinned home z d)
  word_cell d x e is k h = word_no_cell x e k (subst (λ u. IsPinned home z u k) is h)

  word_no_store : (a : Access) (k : Option Pinned) → IsPinned home z (lval.Store a) k → ⊥
  word_no_store a k h = elim h [ ]

  pub word_store : (d : Lval) (a : Access) → d ≡ lval.Store a → Nowhere (IsPinned home z d)
  word_store d a is k h = word_no_store a k (subst (λ u. IsPinned home z u k) is h)
