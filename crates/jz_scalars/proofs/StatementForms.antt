-- What a statement of each form becomes.
use Rattle.std.proofs.Common.{◌≡◌, Bool, List, Option, Some, None, sym, ap, ◌∙◌}
use Rattle.jz_tree.specs.declared.expr.BinOp.{BinOp}
use Rattle.jz_tree.specs.declared.expr.Expr.{Expr}
use Rattle.jz_tree.specs.declared.expr.Var.{Var}
use Rattle.jz_tree.specs.declared.stmt.Lval.{Lval}
use Rattle.jz_tree.specs.declared.stmt.Rhs.{Rhs}
use Rattle.jz_tree.specs.declared.stmt.Stmt.{Stmt}
use Rattle.jz_tree.specs.declared.stmt.StmtKind.TheVariants as kind
use Rattle.jz_tree.specs.declared.stmt.StmtKind.TheOpen.{StmtKind-F}
use Rattle.jz_tree.specs.declared.stmt.StmtKind.TheViews.{roll-Stmt}
use Rattle.jz_tree.specs.declared.stmt.StmtKind.TheFolds.{fold-roll-Stmt, fold-roll-StmtKind}
use Rattle.jz_scalars.specs.declared.made.MadeKind.{MadeKind}
use Rattle.jz_scalars.specs.declared.made.MadeOne.{MadeOne}
use Rattle.jz_scalars.specs.Scalars.{made_assign, made_if, made_until, made_turns, made_for, made_mark, made_layer, one_made, kind_made, statement_made, block_made}

abbrev pub one_of : Stmt → MadeKind → MadeOne
one_of s k = record { stmt = roll-Stmt (record { notes = s.notes; span = s.span; kind = k.kind }); steps = k.steps }

pub statement_is : (s : Stmt) → statement_made s ≡ one_of s (kind_made s.kind)
statement_is s = fold-roll-Stmt MadeKind MadeOne made_layer one_made (record { notes = s.notes; span = s.span; kind = s.kind })

pub assign_is : (to : List Lval) (o : Option BinOp) (r : Rhs) (c : Option Expr) → kind_made (kind.Assign to o r c) ≡ made_assign to o r c
assign_is to o r c = ap kind_made (sym (kind.rolls-Assign to o r c)) ∙ fold-roll-StmtKind MadeKind MadeOne made_layer one_made (StmtKind-F.Assign to o r c)

pub if_is : (c : Expr) (a b : List Stmt) → kind_made (kind.If c a b) ≡ made_if c (block_made a) (block_made b)
if_is c a b = ap kind_made (sym (kind.rolls-If c a b)) ∙ fold-roll-StmtKind MadeKind MadeOne made_layer one_made (StmtKind-F.If c a b)

pub until_is : (p : List Stmt) (c : Expr) → kind_made (kind.While p c None) ≡ made_until (block_made p) c
until_is p c = ap kind_made (sym (kind.rolls-While p c None)) ∙ fold-roll-StmtKind MadeKind MadeOne made_layer one_made (StmtKind-F.While p c None)

pub turns_is : (p : List Stmt) (c : Expr) (b : List Stmt) → kind_made (kind.While p c (Some b)) ≡ made_turns (block_made p) c (block_made b)
turns_is p c b = ap kind_made (sym (kind.rolls-While p c (Some b))) ∙ fold-roll-StmtKind MadeKind MadeOne made_layer one_made (StmtKind-F.While p c (Some b))

pub for_is : (i : Var) (from : Expr) (down : Bool) (to : Expr) (b : List Stmt) → kind_made (kind.For i from down to b) ≡ made_for i from down to (block_made b)
for_is i from down to b = ap kind_made (sym (kind.rolls-For i from down to b)) ∙ fold-roll-StmtKind MadeKind MadeOne made_layer one_made (StmtKind-F.For i from down to b)

pub mark_is : (xs : List Var) → kind_made (kind.Mark xs) ≡ made_mark xs
mark_is xs = ap kind_made (sym (kind.rolls-Mark xs)) ∙ fold-roll-StmtKind MadeKind MadeOne made_layer one_made (StmtKind-F.Mark xs)
