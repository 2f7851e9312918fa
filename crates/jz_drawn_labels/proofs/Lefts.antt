-- What left sides draw.
use Rattle.std.proofs.Common.{◌≡◌, ℕ, ◌+◌, ◌<◌, ◌≤◌, List, [], ◌∷◌, ◌++◌, map, length, take, get_or, refl, sym, ap, ◌∙◌, append_assoc, append-nil}
use Rattle.std.proofs.lemmas.List.{take_more, take_all, map-append}
use Rattle.jz_tree.specs.Span.{Span}
use Rattle.jz_tree.specs.declared.expr.Access.{Access}
use Rattle.jz_tree.specs.declared.expr.Expr.{Expr}
use Rattle.jz_tree.specs.declared.expr.Var.{Var}
use Rattle.jz_tree.specs.declared.stmt.Lval.{Lval}
use Rattle.jz_tree.specs.declared.stmt.Lval.TheVariants as lval
use Rattle.jz_labels.specs.Operations.{Left, left_of}
use Rattle.jz_layers.specs.Spots.{variable_key}
use Rattle.jz_required.specs.Readings.{left_demands}
use Rattle.jz_secrets.specs.Graphs.{drawn, array}
use Rattle.jz_drawing.specs.Drawings.{View, put_node, put_left, put_lefts, left_arrows, lefts_arrows, lefts_asked, asks_in, arrow_between}
use Rattle.jz_drawn_labels.specs.InnerLefts.{left_written, left_drawn, lefts_drawn}

pub same_view : (v w : View) → v.nodes ≡ w.nodes → v.arrows ≡ w.arrows → v.asked ≡ w.asked → v ≡ w
same_view v w p q r = λ i. record { nodes = p i; arrows = q i; asked = r i }

no_arrows : (n : ℕ) (d : Left) (v : View) → put_left n d v.nodes ≡ v.nodes → left_arrows n d ≡ [] → v ≡ left_written n d v
no_arrows n d v p q = same_view v (left_written n d v) (sym p) (sym (append-nil v.arrows) ∙ ap (λ xs. v.arrows ++ xs) (sym q)) refl

pub write_skip : (d : Lval) (at : Span) (n : ℕ) (v : View) → d ≡ lval.Skip at → v ≡ left_written n (left_of d) v
write_skip d at n v e = no_arrows n (left_of (lval.Skip at)) v refl refl ∙ ap (λ x. left_written n (left_of x) v) (sym e)

pub write_store : (d : Lval) (a : Access) (n : ℕ) (v : View) → d ≡ lval.Store a → v ≡ left_written n (left_of d) v
write_store d a n v e = no_arrows n (left_of (lval.Store a)) v refl refl ∙ ap (λ x. left_written n (left_of x) v) (sym e)

pub write_var : (d : Lval) (x : Var) (n : ℕ) (v w : View) → d ≡ lval.Var x → w.nodes ≡ put_node (variable_key x) n v.nodes → w.arrows ≡ v.arrows → w.asked ≡ v.asked → w ≡ left_written n (left_of d) v
write_var d x n v w e p q r =
    same_view w (left_written n (left_of (lval.Var x)) v) p (q ∙ sym (append-nil v.arrows)) r ∙ ap (λ y. left_written n (left_of y) v) (sym e)

pub write_cell : (d : Lval) (x : Var) (i : Expr) (n : ℕ) (v w : View) → d ≡ lval.Cell x i → w.nodes ≡ v.nodes → w.arrows ≡ v.arrows ++ arrow_between (drawn n) (array (variable_key x)) ∷ [] → w.asked ≡ v.asked → w ≡ left_written n (left_of d) v
write_cell d x i n v w e p q r = same_view w (left_written n (left_of (lval.Cell x i)) v) p q r ∙ ap (λ y. left_written n (left_of y) v) (sym e)

-- it is evaluated, and then written
pub left_is_drawn : (n : ℕ) (d : Left) (v m w : View) → w ≡ left_written n d m → m.nodes ≡ v.nodes → m.arrows ≡ v.arrows → m.asked ≡ v.asked ++ asks_in v.nodes (left_demands d) → w ≡ left_drawn n d v
left_is_drawn n d v m w e p q r =
    e ∙ ap (left_written n d) (same_view m (record { nodes = v.nodes; arrows = v.arrows; asked = v.asked ++ asks_in v.nodes (left_demands d) }) p q r)

-- ---- several

lefts_then : (n : ℕ) (xs : List Left) (d : Left) (v : View) → lefts_drawn n (xs ++ d ∷ []) v ≡ left_drawn n d (lefts_drawn n xs v)
lefts_then n [] d v = refl
lefts_then n (x ∷ xs) d v = lefts_then n xs d (left_drawn n x v)

pub lefts_more : (n : ℕ) (ds : List Lval) (i : ℕ) (d : Lval) (v m w : View) → i < length ds → d ≡ get_or ds i d → w ≡ left_drawn n (left_of d) m → m ≡ lefts_drawn n (map left_of (take i ds)) v → w ≡ lefts_drawn n (map left_of (take (i + 1) ds)) v
lefts_more n ds i d v m w lt is e h =
    e ∙ ap (left_drawn n (left_of d)) h ∙ sym (lefts_then n (map left_of (take i ds)) (left_of d) v)
    ∙ ap (λ xs. lefts_drawn n xs v) (sym (ap (map left_of) (take_more ds i d lt ∙ ap (λ y. take i ds ++ y ∷ []) (sym is)) ∙ map-append left_of (take i ds) (d ∷ [])))

pub lefts_all : (n : ℕ) (ds : List Lval) (i : ℕ) (v m : View) → length ds ≤ i → m ≡ lefts_drawn n (map left_of (take i ds)) v → m ≡ lefts_drawn n (map left_of ds) v
lefts_all n ds i v m l h = h ∙ ap (λ xs. lefts_drawn n (map left_of xs) v) (take_all i ds l)

-- all of them at once
pub lefts_are : (n : ℕ) (ds : List Left) (v : View) → lefts_drawn n ds v ≡ record { nodes = put_lefts n ds v.nodes; arrows = v.arrows ++ lefts_arrows n ds; asked = v.asked ++ lefts_asked n ds v.nodes }
lefts_are n [] v = same_view v (record { nodes = v.nodes; arrows = v.arrows ++ []; asked = v.asked ++ [] }) refl (sym (append-nil v.arrows)) (sym (append-nil v.asked))
lefts_are n (d ∷ ds) v =
    lefts_are n ds (left_drawn n d v)
    ∙ same_view
    (record {
      nodes = put_lefts n ds (put_left n d v.nodes);
      arrows = (v.arrows ++ left_arrows n d) ++ lefts_arrows n ds;
      asked = (v.asked ++ asks_in v.nodes (left_demands d)) ++ lefts_asked n ds (put_left n d v.nodes);
    })
    (record { nodes = put_lefts n (d ∷ ds) v.nodes; arrows = v.arrows ++ lefts_arrows n (d ∷ ds); asked = v.asked ++ lefts_asked n (d ∷ ds) v.nodes })
    refl
    (append_assoc v.arrows (left_arrows n d) (lefts_arrows n ds))
    (append_assoc v.asked (asks_in v.nodes (left_demands d)) (lefts_asked n ds (put_left n d v.nodes)))
