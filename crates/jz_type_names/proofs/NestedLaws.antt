-- The statements in a statement, one layer at a time.
use Rattle.std.proofs.Common.{◌≡◌, List, [], ◌∷◌, ◌++◌, Some, None, map, refl, sym, ap, ap₂, ◌∙◌}
use Rattle.jz_tree.specs.declared.stmt.Stmt.{Stmt}
use Rattle.jz_tree.specs.declared.stmt.StmtKind.{StmtKind}
use Rattle.jz_tree.specs.declared.stmt.StmtKind.TheOpen.{StmtKind-F, Stmt-F}
use Rattle.jz_tree.specs.declared.stmt.StmtKind.TheViews.{out-StmtKind, roll-out-StmtKind, roll-Stmt, roll-StmtKind}
use Rattle.jz_tree.specs.declared.stmt.StmtKind.TheFolds.{para-StmtKind, para-roll-Stmt, para-roll-StmtKind, map-StmtKind}
use Rattle.jz_type_names.specs.Parts.{Layer, nested_statements, nested_step, statements_in, statements_of}
use Rattle.jz_type_names.specs.InnerNested.{nested_layer, nested_of}

-- all that stand in a statement of that kind
unfoldable pub in_kind : StmtKind → List Stmt
in_kind = para-StmtKind (List Stmt) (List Stmt) nested_step (λ s. roll-Stmt (record { notes = s.notes; span = s.span; kind = s.kind.0 }) ∷ s.kind.1)

-- a statement, with itself and all that stand in it
abbrev pub pair : Stmt → Stmt × List Stmt
pair s = (s, statements_in s)

unfoldable pub pairs : Layer → StmtKind-F (StmtKind × List Stmt) (Stmt × List Stmt)
pairs k = map-StmtKind _ _ _ _ (λ y. (y, in_kind y)) pair k

pub opened : (x : Layer) → in_kind (roll-StmtKind x) ≡ nested_step (pairs x)
unfolding in_kind pairs
opened x = para-roll-StmtKind (List Stmt) (List Stmt) nested_step (λ s. roll-Stmt (record { notes = s.notes; span = s.span; kind = s.kind.0 }) ∷ s.kind.1) x

pub in_stmt : (x : Stmt-F StmtKind Stmt) → statements_in (roll-Stmt x) ≡ roll-Stmt x ∷ in_kind x.kind
unfolding in_kind
in_stmt x = para-roll-Stmt (List Stmt) (List Stmt) nested_step (λ s. roll-Stmt (record { notes = s.notes; span = s.span; kind = s.kind.0 }) ∷ s.kind.1) x

nested_is : (ss : List Stmt) → nested_statements (map (λ s. (s, statements_in s)) ss) ≡ statements_of ss
nested_is [] = refl
nested_is (s ∷ ss) = ap (λ l. statements_in s ++ l) (nested_is ss)

step_is : (k : Layer) → nested_step (pairs k) ≡ nested_layer k
unfolding pairs
step_is (StmtKind-F.Assign to op from cond) = refl
step_is (StmtKind-F.If c a b) = ap₂ (λ x y. x ++ y) (nested_is a) (nested_is b)
step_is (StmtKind-F.While p c None) = nested_is p
step_is (StmtKind-F.While p c (Some b)) = ap₂ (λ x y. x ++ y) (nested_is p) (nested_is b)
step_is (StmtKind-F.For i from down to b) = nested_is b
step_is (StmtKind-F.Mark vs) = refl

kind_is : (k : StmtKind) → in_kind k ≡ nested_of k
kind_is k = ap in_kind (sym (roll-out-StmtKind k)) ∙ (opened (out-StmtKind k) ∙ step_is (out-StmtKind k))

pub statements_out : (s : Stmt) → statements_in s ≡ s ∷ nested_of s.kind
statements_out s = in_stmt (record { notes = s.notes; span = s.span; kind = s.kind }) ∙ ap (λ l. s ∷ l) (kind_is s.kind)
