-- The first row of a list, and the first of all rows.
use Rattle.std.proofs.Common.{Bool, true, false, List, [], ◌∷◌, ◌++◌, ◌≡◌, refl, sym, ap, subst, ◌∙◌, Option, Some, None, if◌then◌else◌}
use Rattle.std.specs.Prelude.{map}
use Rattle.std.proofs.lemmas.List.Elements.{All-nil, All-cons, All-head, All-tail}
use Rattle.jz_select.specs.declared.pattern.Pattern.{Pattern}
use Rattle.jz_select.specs.declared.pattern.Pattern.TheVariants as pattern
use Rattle.jz_tree.specs.declared.intrinsic.Intrinsic.{Intrinsic}
use Rattle.jz_tree.specs.declared.intrinsic.Intrinsic.TheVariants as name
use Rattle.jz_select.specs.declared.shape.Shape.{Shape}
use Rattle.jz_select.specs.Rows.{intrinsic_of}
use Rattle.jz_tree.specs.declared.stmt.StmtKind.{StmtKind}
use Rattle.jz_tree.specs.declared.expr.Expr.{Expr}
use Rattle.jz_tree.specs.declared.stmt.Lval.{Lval}
use Rattle.jz_select.specs.Places.{Answers}
use Rattle.jz_select.specs.Shapes.{Asked, whichever, assign_of, shape_of}
use Rattle.jz_select.specs.Hardest.{hardest}
use Rattle.jz_select.proofs.Choices.{Keeps, assign_kept, statement_kept}
use Rattle.jz_select.proofs.SomeAnswers.{assign_some, statement_some}
use Rattle.std.specs.Option.{option_or}
use Rattle.jz_select.specs.Selected.{Row, table, rows, intrinsics, intrinsic_row, is_named, NoneMatches, Tells, TellsAll, IsCopied, IsSelected, first_of, pattern_named, pattern_chosen}

all_nil : (s : Shape) → NoneMatches [] s
all_nil s = All-nil (λ q. q.1 s ≡ false)

at_head : (r : Row) (rs : List Row) (s : Shape) → r.1 s ≡ true → Tells (r ∷ rs) s (Some r.0)
at_head r rs s e = (r, refl, ([], rs, refl, e, all_nil s))

behind_head : (r : Row) (rs : List Row) (s : Shape) (answer : Option Pattern) → r.1 s ≡ false → Tells rs s answer → Tells (r ∷ rs) s answer
behind_head r rs s None e t = All-cons (λ q. q.1 s ≡ false) r rs e t
behind_head r rs s (Some p) e (q, is, (before, after, parts, holds, none)) =
    (q, is, (r ∷ before, after, ap (λ xs. r ∷ xs) parts, holds, All-cons (λ x. x.1 s ≡ false) r before e none))

one_more : (r : Row) (rs : List Row) (s : Shape) (b : Bool) → r.1 s ≡ b → Tells rs s (first_of rs s) → Tells (r ∷ rs) s (if b then Some r.0 else first_of rs s)
one_more r rs s true e t = at_head r rs s e
one_more r rs s false e t = behind_head r rs s (first_of rs s) e t

pub first_tells : (rs : List Row) (s : Shape) → Tells rs s (first_of rs s)
first_tells [] s = all_nil s
first_tells (r ∷ rs) s = one_more r rs s (r.1 s) refl (first_tells rs s)

or_if : (b : Bool) (p : Pattern) (x y : Option Pattern) → (if b then Some p else option_or x y) ≡ option_or (if b then Some p else x) y
or_if true p x y = refl
or_if false p x y = refl

first_append : (xs ys : List Row) (s : Shape) → first_of (xs ++ ys) s ≡ option_or (first_of xs s) (first_of ys s)
first_append [] ys s = refl
first_append (r ∷ rs) ys s = ap (λ x. if r.1 s then Some r.0 else x) (first_append rs ys s) ∙ or_if (r.1 s) r.0 (first_of rs s) (first_of ys s)

-- the rows of the intrinsics by the intrinsic that the statement is
abbrev by_name : List Intrinsic → Option Intrinsic → Option Pattern
by_name [] o = None
by_name (n ∷ ns) o = if is_named n o then Some (pattern.Intrinsic n) else by_name ns o

rows_by_name : (ns : List Intrinsic) (s : Shape) → first_of (map intrinsic_row ns) s ≡ by_name ns (intrinsic_of s)
rows_by_name [] s = refl
rows_by_name (n ∷ ns) s = ap (λ x. if is_named n (intrinsic_of s) then Some (pattern.Intrinsic n) else x) (rows_by_name ns s)

all_named : (o : Option Intrinsic) → by_name intrinsics o ≡ pattern_named o
all_named None = refl
all_named (Some name.Add) = refl
all_named (Some name.Sub) = refl
all_named (Some name.And) = refl
all_named (Some name.Or) = refl
all_named (Some name.Xor) = refl
all_named (Some name.Adc) = refl
all_named (Some name.Sbb) = refl
all_named (Some name.Neg) = refl
all_named (Some name.Inc) = refl
all_named (Some name.Dec) = refl
all_named (Some name.Not) = refl
all_named (Some name.Bswap) = refl
all_named (Some name.Lea) = refl
all_named (Some name.Cmp) = refl
all_named (Some name.Test) = refl
all_named (Some name.Shl) = refl
all_named (Some name.Shr) = refl
all_named (Some name.Sar) = refl
all_named (Some name.Rol) = refl
all_named (Some name.Ror) = refl
all_named (Some name.Imul) = refl
all_named (Some name.Mul) = refl
all_named (Some name.Div) = refl
all_named (Some name.Setcc) = refl

chosen_is : (s : Shape) → first_of rows s ≡ pattern_chosen s
unfolding pattern_chosen
chosen_is s = first_append table (map intrinsic_row intrinsics) s
    ∙ ap (option_or (first_of table s)) (rows_by_name intrinsics s ∙ all_named (intrinsic_of s))

chosen_tells : (s : Shape) (answer : Option Pattern) → answer ≡ pattern_chosen s → Tells rows s answer
chosen_tells s answer e = subst (λ x. Tells rows s x) (chosen_is s ∙ sym e) (first_tells rows s)

-- what has a row with the hardest answers has it with all, and they are answers
tells_all : (shape : Asked → Shape) → ((B : Answers) → Keeps (shape hardest) (shape (whichever B))) → (B : Answers) × (shape (whichever B) ≡ shape hardest)
    → (answer : Option Pattern) → answer ≡ pattern_chosen (shape hardest) → TellsAll (λ B. shape (whichever B)) answer
tells_all shape keeps (B, is) None e = (B, chosen_tells (shape (whichever B)) None (e ∙ ap pattern_chosen (sym is)))
tells_all shape keeps some (Some p) e = λ B. chosen_tells (shape (whichever B)) (Some p) (sym (keeps B p (sym e)))

pub is_selected : (k : StmtKind) (answer : Option Pattern) → answer ≡ pattern_chosen (shape_of hardest k) → IsSelected k answer
unfolding IsSelected
is_selected k answer e = tells_all (λ asked. shape_of asked k) (λ B. statement_kept B k) (statement_some k) answer e

pub is_copied : (to : Lval) (x : Expr) (answer : Option Pattern) → answer ≡ pattern_chosen (assign_of hardest None to None x) → IsCopied to x answer
unfolding IsCopied
is_copied to x answer e = tells_all (λ asked. assign_of asked None to None x) (λ B. assign_kept B None to None x) (assign_some None to None x) answer e

none_first : (rs : List Row) (s : Shape) → NoneMatches rs s → first_of rs s ≡ None
none_first [] s none = refl
none_first (r ∷ rs) s none = ap (λ b. if b then Some r.0 else first_of rs s) (All-head (λ q. q.1 s ≡ false) r rs none)
    ∙ none_first rs s (All-tail (λ q. q.1 s ≡ false) r rs none)

first_behind : (before : List Row) (r : Row) (after : List Row) (s : Shape) → NoneMatches before s → r.1 s ≡ true → first_of (before ++ r ∷ after) s ≡ Some r.0
first_behind [] r after s none e = ap (λ b. if b then Some r.0 else first_of after s) e
first_behind (q ∷ qs) r after s none e = ap (λ b. if b then Some q.0 else first_of (qs ++ r ∷ after) s) (All-head (λ x. x.1 s ≡ false) q qs none)
    ∙ first_behind qs r after s (All-tail (λ x. x.1 s ≡ false) q qs none) e

told : (rs : List Row) (s : Shape) (answer : Option Pattern) → Tells rs s answer → answer ≡ first_of rs s
told rs s None t = sym (none_first rs s t)
told rs s (Some p) (r, is, (before, after, parts, holds, none)) =
    sym (ap (λ xs. first_of xs s) parts ∙ (first_behind before r after s none holds ∙ ap Some is))

-- one answer at most is selected
one_told : (shape : Answers → Shape) (a b : Option Pattern) → TellsAll shape a → TellsAll shape b → a ≡ b
one_told shape None None t u = refl
one_told shape None (Some q) (B, t) u = told rows (shape B) None t ∙ sym (told rows (shape B) (Some q) (u B))
one_told shape (Some p) None t (B, u) = told rows (shape B) (Some p) (t B) ∙ sym (told rows (shape B) None u)
one_told shape (Some p) (Some q) t u =
    let B : Answers = λ x y. false in
    told rows (shape B) (Some p) (t B) ∙ sym (told rows (shape B) (Some q) (u B))

pub one_selected : (k : StmtKind) (a b : Option Pattern) → IsSelected k a → IsSelected k b → a ≡ b
unfolding IsSelected
one_selected k a b t u = one_told (λ B. shape_of (whichever B) k) a b t u
