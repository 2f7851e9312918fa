-- What is gathered as a list, by its earliest.
use Rattle.std.proofs.Common.{◌≡◌, true, not, List, [], ◌∷◌, ◌++◌, map, flat_map, Option, Some, None, refl, sym, ap, ◌∙◌, subst}
use Rattle.jz_tree.specs.Span.{Span}
use Rattle.jz_tree.specs.declared.expr.Expr.TheViews.{out-Var}
use Rattle.jz_tree.specs.declared.stmt.Lval.{Lval}
use Rattle.jz_tree.specs.declared.stmt.Lval.TheVariants as lval
use Rattle.jz_tree.specs.declared.stmt.Stmt.{Stmt}
use Rattle.jz_tree.specs.declared.stmt.StmtKind.{StmtKind}
use Rattle.jz_tree.specs.declared.stmt.StmtKind.TheOpen.{StmtKind-F, Stmt-F}
use Rattle.jz_tree.specs.declared.stmt.StmtKind.TheViews.{roll-Stmt, roll-StmtKind}
use Rattle.jz_tree.specs.declared.stmt.StmtKind.TheFolds.{fold-Stmt, fold-StmtKind, fold-roll-Stmt, fold-roll-StmtKind, ind-Stmt, map-Stmt, map-StmtKind}
use Rattle.jz_type_names.specs.Order.{unless, earlier, earliest}
use Rattle.jz_type_names.specs.Kinds.{is_inline}
use Rattle.jz_type_names.proofs.Earliest.{earliest-append}
use Rattle.jz_type_storage.specs.Settings.{Around, Setting, is_counter, all_set, left_set, entered_around, counting, set_step}
use Rattle.jz_type_storage.specs.InnerFirstSet.{FirstSet, first_all, first_left, first_lefts, first_step, first_set, first_set_kind, first_set_all}

abbrev set : Stmt → Setting
set = fold-Stmt Setting Setting set_step (λ s. s.kind)

abbrev set_kind : StmtKind → Setting
set_kind = fold-StmtKind Setting Setting set_step (λ s. s.kind)

abbrev StmtLaw : Stmt → Type 0
StmtLaw s = (w : Around) → earliest (set s w) ≡ first_set s w

abbrev KindLaw : StmtKind → Type 0
KindLaw k = (w : Around) → earliest (set_kind k w) ≡ first_set_kind k w

abbrev Kinds : Type 0
Kinds = StmtKind-F ((k : StmtKind) × KindLaw k) ((s : Stmt) × StmtLaw s)

abbrev bare : Kinds → StmtKind-F StmtKind Stmt
bare y = map-StmtKind _ _ _ _ (λ e. e.0) (λ e. e.0) y

two : (xs ys : List Span) (x y : Option Span) → earliest xs ≡ x → earliest ys ≡ y → earliest (xs ++ ys) ≡ earlier x y
two xs ys x y p q = earliest-append xs ys ∙ (ap (λ z. earlier z (earliest ys)) p ∙ ap (earlier x) q)

rows : (w : Around) (ss : List ((s : Stmt) × StmtLaw s)) → earliest (all_set (map set (map (λ e. e.0) ss)) w) ≡ first_all (map first_set (map (λ e. e.0) ss)) w
rows w [] = refl
rows w (s ∷ ss) = two (set s.0 w) (all_set (map set (map (λ e. e.0) ss)) w) _ _ (s.1 w) (rows w ss)

abbrev these : List ((s : Stmt) × StmtLaw s) → Around → List Span
these ss w = all_set (map set (map (λ e. e.0) ss)) w

both_rows : (w : Around) (a b : List ((s : Stmt) × StmtLaw s))
    → earliest (these a w ++ these b w) ≡ earlier (first_all (map first_set (map (λ e. e.0) a)) w) (first_all (map first_set (map (λ e. e.0) b)) w)
both_rows w a b = two (these a w) (these b w) _ _ (rows w a) (rows w b)

lefts : (w : Around) (to : List Lval) → earliest (flat_map (λ l. left_set l w) to) ≡ first_lefts to w
lefts w [] = refl
lefts w (l ∷ ls) = two (left_set l w) (flat_map (λ l. left_set l w) ls) _ _ (left l) (lefts w ls)
  where
    left : (l : Lval) → earliest (left_set l w) ≡ first_left l w
    left (lval.Skip at) = refl
    left (lval.Var v) = refl
    left (lval.Cell v at) = refl
    left (lval.Store a) = refl

layer_law : (y : Kinds) (w : Around) → earliest (set_step (map-StmtKind _ _ Setting Setting set_kind set (bare y)) w) ≡ first_step (map-StmtKind _ _ FirstSet FirstSet first_set_kind first_set (bare y)) w
layer_law (StmtKind-F.Assign to op from cond) w = lefts w to
layer_law (StmtKind-F.If c a b) w = both_rows (entered_around (not (is_inline c)) w) a b
layer_law (StmtKind-F.While p c None) w = rows (entered_around true w) p
layer_law (StmtKind-F.While p c (Some b)) w = both_rows (entered_around true w) p b
layer_law (StmtKind-F.For i from down to b) w = two (unless (not (is_counter w i)) (out-Var i).span) (these b (counting i w)) _ _ refl (rows (counting i w) b)
layer_law (StmtKind-F.Mark vs) w = refl

kind_case : (y : Kinds) → KindLaw (roll-StmtKind (bare y))
kind_case y w =
    ap (λ (f : Setting). earliest (f w)) (fold-roll-StmtKind _ _ set_step (λ s. s.kind) (bare y))
    ∙ (layer_law y w ∙ sym (ap (λ (f : FirstSet). f w) (fold-roll-StmtKind _ _ first_step (λ s. s.kind) (bare y))))

stmt_case : (y : Stmt-F ((k : StmtKind) × KindLaw k) ((s : Stmt) × StmtLaw s)) → StmtLaw (roll-Stmt (map-Stmt _ _ _ _ (λ e. e.0) (λ e. e.0) y))
stmt_case y w =
    let x = map-Stmt _ _ StmtKind Stmt (λ e. e.0) (λ e. e.0) y in
    ap (λ (f : Setting). earliest (f w)) (fold-roll-Stmt _ _ set_step (λ s. s.kind) x)
    ∙ (y.kind.1 w ∙ sym (ap (λ (f : FirstSet). f w) (fold-roll-Stmt _ _ first_step (λ s. s.kind) x)))

set_fused : (s : Stmt) → StmtLaw s
set_fused =
    ind-Stmt KindLaw StmtLaw
    (λ x y is. subst (λ z. KindLaw (roll-StmtKind z)) is (kind_case y))
    (λ x y is. subst (λ z. StmtLaw (roll-Stmt z)) is (stmt_case y))

pub all_fused : (w : Around) (ss : List Stmt) → first_set_all ss w ≡ earliest (all_set (map set ss) w)
all_fused w [] = refl
all_fused w (s ∷ ss) = sym (two (set s w) (all_set (map set ss) w) _ _ (set_fused s w) (sym (all_fused w ss)))
