-- Rows of statements.
use Rattle.std.proofs.Common.{◌≡◌, ℕ, ◌+◌, Bool, List, [], ◌∷◌, map, Option, Some, None, refl, sym, ap, ◌∙◌, subst}
use Rattle.std.specs.Prelude.{All, IsTrue, ◌↔◌}
use Rattle.std.specs.Option.{option_or}
use Rattle.std.proofs.lemmas.List.Elements.{All-nil, All-cons, All-head}
use Rattle.jz_words.specs.declared.size.Size.{Size}
use Rattle.x64_insn.specs.declared.types.Cond.{Cond}
use Rattle.jz_tree.specs.Span.{Span}
use Rattle.jz_tree.specs.declared.expr.BinOp.{BinOp}
use Rattle.jz_tree.specs.declared.expr.Expr.{Expr}
use Rattle.jz_tree.specs.declared.expr.Expr.TheVariants as expr
use Rattle.jz_tree.specs.declared.expr.Var.{Var}
use Rattle.jz_tree.specs.declared.stmt.Lval.{Lval}
use Rattle.jz_tree.specs.declared.stmt.Lval.TheVariants as lval
use Rattle.jz_meaning.specs.declared.access.Kind.TheVariants as kind
use Rattle.jz_meaning.specs.Values.{key_of, ref_of, own_size}
use Rattle.jz_meaning.specs.Assignments.{left_sizes, whole_of}
use Rattle.jz_operations.specs.declared.operation.Condition.TheVariants as condition
use Rattle.jz_operations.specs.declared.operation.Action.{Action}
use Rattle.jz_operations.specs.declared.operation.Action.TheVariants as action
use Rattle.jz_meaning.specs.Statements.{assign}
use Rattle.jz_encodable.specs.Encodable.{can_encode, CanEncode}
use Rattle.jz_change.specs.declared.change.Numbers.TheVariants.{These}
use Rattle.jz_homes.specs.Homes.{Homes, in_register}
use Rattle.jz_homes.specs.Operands.{count_of, IsArg}
use Rattle.jz_row_operations.specs.Codes.{no_flag, plain, lasting}
use Rattle.jz_row_operations.specs.Rows.{IsWide, NotImm, opposite}
use Rattle.jz_row_operations.specs.Lowering.{numbers_from, IsCompared, denies, condition_shown, Lowers, sets, sets_if}
use Rattle.jz_operands.specs.declared.operands.Operand.{Operand}
use Rattle.jz_operands.specs.TableHomes.{leaks_of}
use Rattle.jz_rows.specs.declared.row.Row.{Row}
use Rattle.jz_rows.specs.declared.row.Act.{Act}
use Rattle.jz_rows.specs.declared.row.Shown.{Shown}
use Rattle.jz_rows.specs.declared.comparing.Comparison.{Comparison}
use Rattle.jz_rows.specs.Rows.{nth_of, item_of, acts_of, items_of, Compares, IsRowOf}
use Rattle.jz_rows.specs.InnerRows.{IsSet}
use Rattle.jz_rows.proofs.BringLemmas.{item_both, item_one}

-- ---- actions that can be encoded
pub one_can : (a : Act) → CanEncode a.action → All CanEncode (a.action ∷ [])
one_can a h = All-cons CanEncode a.action [] h (All-nil CanEncode)

pub alone_can : (r : Row) → r.before ≡ None → CanEncode r.last.action → All CanEncode (acts_of r)
alone_can r e h = subst (λ b. All CanEncode (acts_of (record { before = b; last = r.last }))) (sym e) (one_can r.last h)

can_first : (a : Action) (rest : List Action) → All CanEncode (a ∷ rest) → CanEncode a
can_first a rest h = All-head CanEncode a rest h

pub alone_encodes : (r : Row) (b : Bool) → r.before ≡ None → b ≡ can_encode r.last.action → IsTrue b ↔ All CanEncode (acts_of r)
alone_encodes r b e is = (
  λ t. alone_can r e (sym is ∙ t),
  λ all. is ∙ can_first r.last.action [] (subst (λ o. All CanEncode (acts_of (record { before = o; last = r.last }))) e all),
)

-- ---- `to = value` and `to op= value`
lasting_plain : (at : Span) (acts : List Action) → lasting at no_flag acts ≡ map (plain at) acts
lasting_plain at [] = refl
lasting_plain at (a ∷ []) = refl
lasting_plain at (a ∷ b ∷ bs) = ap (λ l. plain at a ∷ l) (lasting_plain at (b ∷ bs))

pub set_is : (home : Homes) (d : Lval) (o : Option BinOp) (e w : Expr) (left : Option Size) (r : Row) → whole_of (Some d) o e ≡ Some w → left ≡ left_sizes (d ∷ []) → IsSet home left d w r → IsRowOf home (d ∷ []) o e None r
set_is home d o e w left r whole size h = λ at.
    subst (λ os. Lowers home (assign (d ∷ []) o e None at) os (items_of r)) (lasting_plain at (acts_of r))
    (sets whole (ap (λ z. option_or z (own_size w)) (sym size) ∙ h.is_size) h.row h.can)

-- ---- comparisons
pub denied_is : (home : Homes) (e : Expr) (here : Span) (c : Comparison) (k : Cond) → Compares home e c → k ≡ opposite c.cond → Compares home (expr.Not e here) (record { action = c.action; cond = k; first = c.first; second = c.second })
denied_is home e here c k h f = λ at. subst (λ j. IsCompared home at (expr.Not e here) (plain at c.action) j (leaks_of c.first) (leaks_of c.second)) (sym f) (denies here (h at))

pub shown_is : (c : Comparison) (n m : ℕ) (s t : Option ℕ) → m ≡ n + count_of (leaks_of c.first) → nth_of s ≡ numbers_from (leaks_of c.first) n → nth_of t ≡ numbers_from (leaks_of c.second) m
    → item_of (record { first = s; second = t }) ≡ condition_shown (leaks_of c.first) (leaks_of c.second) n
shown_is c n m s t e f g = item_both s t (numbers_from (leaks_of c.first) n) (numbers_from (leaks_of c.second) (n + count_of (leaks_of c.first))) f (g ∙ ap (numbers_from (leaks_of c.second)) e)

-- ---- `r = o if c`
pub choice_is : (home : Homes) (x : Var) (e k : Expr) (y : Operand) (z : Size) (m : ℕ) (c : Comparison) (s : Shown) (u : Option ℕ) (n : ℕ) → IsWide z → (ref_of x).kind ≡ kind.Word z → home (key_of (ref_of x)) ≡ Some (in_register m z)
    → IsArg home z e y.arg (leaks_of y.leaks) → NotImm y.arg → Compares home k c → n ≡ count_of (leaks_of y.leaks)
    → item_of s ≡ condition_shown (leaks_of c.first) (leaks_of c.second) n → nth_of u ≡ numbers_from (leaks_of y.leaks) 0
    → CanEncode (action.Cmov (condition.Cc c.cond) z m y.arg) → IsRowOf home (lval.Var x ∷ []) None e (Some k) (record {
      before = Some (record { action = c.action; shown = s });
      last = record { action = action.Cmov (condition.Cc c.cond) z m y.arg; shown = record { first = u; second = None } };
    })
choice_is home x e k y z m c s u n wide kind' h ie ni cmp is f j can = λ at.
    let p = leaks_of c.first in
    let q = leaks_of c.second in
    let compare : item_of s ≡ condition_shown p q (count_of (leaks_of y.leaks)) = f ∙ ap (λ i. condition_shown p q i) is in
    let choose : item_of (record { first = u; second = None }) ≡ These (numbers_from (leaks_of y.leaks) 0) = item_one u (numbers_from (leaks_of y.leaks) 0) j in
    subst (λ l. Lowers home (assign (lval.Var x ∷ []) None e (Some k) at) (plain at c.action ∷ plain at (action.Cmov (condition.Cc c.cond) z m y.arg) ∷ []) (l ∷ item_of (record { first = u; second = None }) ∷ [])) (sym compare)
    (subst (λ l. Lowers home (assign (lval.Var x ∷ []) None e (Some k) at) (plain at c.action ∷ plain at (action.Cmov (condition.Cc c.cond) z m y.arg) ∷ []) (condition_shown p q (count_of (leaks_of y.leaks)) ∷ l ∷ [])) (sym choose)
    (sets_if z wide kind' h ie ni (cmp at) can))
