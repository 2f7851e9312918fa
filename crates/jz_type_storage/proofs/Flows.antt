-- The flow of each kind of statement.
use Rattle.std.proofs.Common.{◌≡◌, Bool, List, Option, Some, None, sym, ap, ◌∙◌}
use Rattle.jz_tree.specs.declared.expr.Expr.{Expr}
use Rattle.jz_tree.specs.declared.expr.Var.{Var}
use Rattle.jz_tree.specs.declared.stmt.Stmt.{Stmt}
use Rattle.jz_tree.specs.declared.stmt.StmtKind.{StmtKind}
use Rattle.jz_tree.specs.declared.stmt.StmtKind.TheVariants as kind
use Rattle.jz_tree.specs.declared.stmt.StmtKind.TheOpen.{StmtKind-F}
use Rattle.jz_tree.specs.declared.stmt.StmtKind.TheFolds.{fold-roll-StmtKind}
use Rattle.jz_type_names.specs.Scopes.{name_of}
use Rattle.jz_type_storage.specs.Paths.{Skip, Does, Sets, Then, Either, Repeat, reading_expr, flow_step, flow_of_all}
use Rattle.jz_type_storage.specs.InnerWalks.{flow_of_kind}

pub if_flow : (k : StmtKind) (c : Expr) (a b : List Stmt) → k ≡ kind.If c a b → flow_of_kind k ≡ Then (reading_expr c) (Either (flow_of_all a) (flow_of_all b))
if_flow k c a b e = ap flow_of_kind (e ∙ sym (kind.rolls-If c a b)) ∙ fold-roll-StmtKind _ _ flow_step (λ s. s.kind) (StmtKind-F.If c a b)

pub bare_flow : (k : StmtKind) (p : List Stmt) (c : Expr) (o : Option (List Stmt)) → k ≡ kind.While p c o → o ≡ None
    → flow_of_kind k ≡ Then (Repeat (Then (flow_of_all p) (reading_expr c))) (Then (flow_of_all p) (reading_expr c))
bare_flow k p c o e n =
    ap flow_of_kind (e ∙ (ap (kind.While p c) n ∙ sym (kind.rolls-While p c None))) ∙ fold-roll-StmtKind _ _ flow_step (λ s. s.kind) (StmtKind-F.While p c None)

pub body_flow : (k : StmtKind) (p : List Stmt) (c : Expr) (o : Option (List Stmt)) (b : List Stmt) → k ≡ kind.While p c o → o ≡ Some b
    → flow_of_kind k ≡ Then (Repeat (Then (flow_of_all p) (Then (reading_expr c) (flow_of_all b)))) (Then (flow_of_all p) (reading_expr c))
body_flow k p c o b e n =
    ap flow_of_kind (e ∙ (ap (kind.While p c) n ∙ sym (kind.rolls-While p c (Some b)))) ∙ fold-roll-StmtKind _ _ flow_step (λ s. s.kind) (StmtKind-F.While p c (Some b))

pub for_flow : (k : StmtKind) (i : Var) (from : Expr) (down : Bool) (to : Expr) (b : List Stmt) → k ≡ kind.For i from down to b
    → flow_of_kind k ≡ Then (reading_expr from) (Then (reading_expr to) (Repeat (Then (Does (Sets (name_of i).0)) (flow_of_all b))))
for_flow k i from down to b e = ap flow_of_kind (e ∙ sym (kind.rolls-For i from down to b)) ∙ fold-roll-StmtKind _ _ flow_step (λ s. s.kind) (StmtKind-F.For i from down to b)

pub mark_flow : (k : StmtKind) (vs : List Var) → k ≡ kind.Mark vs → flow_of_kind k ≡ Skip
mark_flow k vs e = ap flow_of_kind (e ∙ sym (kind.rolls-Mark vs)) ∙ fold-roll-StmtKind _ _ flow_step (λ s. s.kind) (StmtKind-F.Mark vs)
