-- What assignments read.
use Rattle.std.proofs.Common.{◌≡◌, ◌-◌, suc, Bool, true, false, List, [], ◌∷◌, ◌++◌, Option, Some, if◌then◌else◌, refl, sym, ap, ◌∙◌, length, arith, append_assoc, append-nil}
use Rattle.std.specs.Prelude.{◌&&◌, slice_get}
use Rattle.jz_tree.specs.Span.{Span}
use Rattle.jz_tree.specs.declared.expr.BinOp.{BinOp}
use Rattle.jz_tree.specs.declared.expr.BinOp.TheVariants as o
use Rattle.jz_tree.specs.declared.expr.Expr.{Expr}
use Rattle.jz_tree.specs.declared.expr.Expr.TheVariants as expr
use Rattle.jz_tree.specs.declared.expr.Expr.TheOpen.{Expr-F}
use Rattle.jz_tree.specs.declared.expr.Expr.TheViews.{out-Expr, roll-Expr, roll-out-Expr}
use Rattle.jz_tree.specs.declared.stmt.Lval.{Lval}
use Rattle.jz_tree.specs.Operators.{divides, carries}
use Rattle.jz_meaning.specs.Assignments.{Layer, is_flag, updated_layer, updated, last_left, whole_of}
use Rattle.jz_meaning.specs.Statements.{assign}
use Rattle.jz_terms.specs.Terms.{Term, term_of}
use Rattle.jz_terms.proofs.TermForms.{term_bin}
use Rattle.jz_labels.specs.Operations.{read_if, with_condition, plain_of}
use Rattle.jz_required.specs.Readings.{Reading, operation_reading, both_readings, no_reading, reading, all_readings, right_reading}

pub last_is : (ds : List Lval) → slice_get ds (length ds - 1) ≡ last_left ds
last_is [] = refl
last_is (d ∷ []) = refl
last_is (d ∷ e ∷ ds) =
    let two : length (d ∷ e ∷ ds) - 1 ≡ suc (length ds) = omega arith in
    let one : length (e ∷ ds) - 1 ≡ length ds = omega arith in
    ap (slice_get (d ∷ e ∷ ds)) two ∙ ap (slice_get (e ∷ ds)) (sym one) ∙ last_is (e ∷ ds)

same_reading : (a b : Reading) → a.origins ≡ b.origins → a.demands ≡ b.demands → a ≡ b
same_reading a b p q = λ i. record { origins = p i; demands = q i }

pub then_nothing : (a : Reading) → both_readings a no_reading ≡ a
then_nothing a = same_reading (both_readings a no_reading) a (append-nil a.origins) (append-nil a.demands)

pub both_apart : (a b c : Reading) → both_readings (both_readings a b) c ≡ both_readings a (both_readings b c)
both_apart a b c = same_reading (both_readings (both_readings a b) c) (both_readings a (both_readings b c)) (append_assoc a.origins b.origins c.origins) (append_assoc a.demands b.demands c.demands)

pub readings_both : (xs ys : List Term) → all_readings (xs ++ ys) ≡ both_readings (all_readings xs) (all_readings ys)
readings_both [] ys = refl
readings_both (x ∷ xs) ys = ap (both_readings (reading x)) (readings_both xs ys) ∙ sym (both_apart (reading x) (all_readings xs) (all_readings ys))

pub one_term : (t : Term) → all_readings (t ∷ []) ≡ reading t
one_term t = then_nothing (reading t)

-- a flag behind the right side
undivided : (op p : BinOp) → carries op p ≡ true → (divides op ≡ false) × (divides p ≡ false)
undivided o.Add o.Add e = (refl, refl)
undivided o.Sub o.Sub e = (refl, refl)
undivided op p e = absurd (cc e)

carried : (c d : Bool) (at inner : Span) (x y z : Reading) → c ≡ false → d ≡ false → operation_reading d inner (operation_reading c at x y) z ≡ operation_reading c at x (operation_reading d inner y z)
carried true d at inner x y z e f = absurd (cc e)
carried false true at inner x y z e f = absurd (cc f)
carried false false at inner x y z e f =
    same_reading (operation_reading false inner (operation_reading false at x y) z) (operation_reading false at x (operation_reading false inner y z)) (append_assoc x.origins y.origins z.origins)
    (ap (λ l. (x.demands ++ l) ++ (z.demands ++ [])) (append-nil y.demands) ∙ ap (λ l. (x.demands ++ y.demands) ++ l) (append-nil z.demands) ∙ append_assoc x.demands y.demands z.demands
    ∙ ap (λ l. x.demands ++ (y.demands ++ l)) (sym (append-nil z.demands)) ∙ ap (λ l. x.demands ++ l) (sym (append-nil (y.demands ++ (z.demands ++ [])))))

abbrev whole_reading : BinOp → Span → Expr → Expr → Reading
whole_reading op at d e = operation_reading (divides op) at (reading (term_of d)) (reading (term_of e))

plainly : (op : BinOp) (d e : Expr) (at : Span) → reading (term_of (expr.Bin op d e at)) ≡ whole_reading op at d e
plainly op d e at = ap reading (term_bin (expr.Bin op d e at) op d e at refl)

by_layer : (op : BinOp) (d e : Expr) (at : Span) (x : Layer) → e ≡ roll-Expr x → reading (term_of (updated_layer op d e at x)) ≡ whole_reading op at d e
by_layer op d e at (Expr-F.Num i n) h = plainly op d e at
by_layer op d e at (Expr-F.Expr::Bool c n) h = plainly op d e at
by_layer op d e at (Expr-F.Var v) h = plainly op d e at
by_layer op d e at (Expr-F.Cell v i) h = plainly op d e at
by_layer op d e at (Expr-F.Load a) h = plainly op d e at
by_layer op d e at (Expr-F.Neg a n) h = plainly op d e at
by_layer op d e at (Expr-F.Not a n) h = plainly op d e at
by_layer op d e at (Expr-F.Cast z s a n) h = plainly op d e at
by_layer op d e at (Expr-F.Bin p a c inner) h = by (carries op p) (is_flag c) refl
  where
    whole : e ≡ expr.Bin p a c inner
    whole = h ∙ expr.rolls-Bin p a c inner

    by : (k f : Bool) → carries op p ≡ k → reading (term_of (if k && f then expr.Bin p (expr.Bin op d a at) c at else expr.Bin op d e at)) ≡ whole_reading op at d e
    by false f q = plainly op d e at
    by true false q = plainly op d e at
    by true true q =
        let u = undivided op p q in
        plainly p (expr.Bin op d a at) c at ∙ ap (λ r. operation_reading (divides p) at r (reading (term_of c))) (plainly op d a at)
        ∙ ap (λ b. operation_reading b at (operation_reading (divides op) at (reading (term_of d)) (reading (term_of a))) (reading (term_of c))) u.1
        ∙ carried (divides op) false at inner (reading (term_of d)) (reading (term_of a)) (reading (term_of c)) u.0 refl
        ∙ ap (λ b. operation_reading (divides op) at (reading (term_of d)) (operation_reading b inner (reading (term_of a)) (reading (term_of c)))) (sym u.1)
        ∙ ap (operation_reading (divides op) at (reading (term_of d))) (sym (plainly p a c inner))
        ∙ ap (λ y. operation_reading (divides op) at (reading (term_of d)) (reading (term_of y))) (sym whole)

-- `d op= e` reads both, whatever is a flag in e
pub updated_is : (op : BinOp) (d e : Expr) (at : Span) → all_readings (read_if (updated (Some d) op e at)) ≡ whole_reading op at d e
updated_is op d e at = one_term (term_of (updated_layer op d e at (out-Expr e))) ∙ by_layer op d e at (out-Expr e) (sym (roll-out-Expr e))

pub assigned_is : (to : List Lval) (op : Option BinOp) (e : Expr) (c : Option Expr) (at : Span) (x y z : Reading)
    → x ≡ all_readings (read_if (whole_of (last_left to) op e)) → y ≡ all_readings (with_condition c (last_left to)) → z ≡ both_readings x y
    → z ≡ right_reading (plain_of (assign to op e c at))
assigned_is to op e c at x y z p q r =
    r ∙ ap (λ v. both_readings v y) p ∙ ap (both_readings (all_readings (read_if (whole_of (last_left to) op e)))) q
    ∙ sym (readings_both (read_if (whole_of (last_left to) op e)) (with_condition c (last_left to)))
