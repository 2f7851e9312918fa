-- Assignments to two left sides have operations.
use Rattle.std.proofs.Common.{[], ◌∷◌}
use Rattle.jz_io.specs.declared.span.Span.{Span}
use Rattle.jz_tree.specs.declared.expr.BinOp.{BinOp}
use Rattle.jz_tree.specs.declared.expr.Expr.{Expr}
use Rattle.std.specs.Prelude.{Option, None, Some}
use Rattle.jz_tree.specs.declared.stmt.Lval.{Lval}
use Rattle.jz_select.specs.Operands.{dest_of}
use Rattle.jz_select.specs.Shapes.{whichever, assign_of}
use Rattle.jz_judgement.specs.Lefts as lefts
use Rattle.jz_judgement.specs.Lefts.{Values}
use Rattle.jz_row_laws.proofs.Copied.{Matches}
use Rattle.jz_meaning.specs.Statements.{assign}
use Rattle.jz_operations.specs.Rows.{Frame}
use Rattle.jz_homes.specs.Homes.{Homes, IsHoming}
use Rattle.jz_total_rows.proofs.Meets.{A}
use Rattle.jz_total_flags.specs.Ready.{HasOperations, IsReadyPair, PairsHaveOperations}
use Rattle.jz_total_flags.proofs.Leads.{pair_matches}
use Rattle.jz_total_flags.proofs.Flagged.{flag_left, pair_kept, flagged}
use Rattle.jz_total_flags.proofs.Products.{product}

by_type : (frame : Frame) (home : Homes) (f d : Lval) (o : Option BinOp) (e : Expr) (at : Span) → IsHoming frame home → IsReadyPair home f d o e at → Matches (assign_of (whichever A) (Some (dest_of f)) d o e) → Values (f ∷ d ∷ []) o e → HasOperations home (assign (f ∷ d ∷ []) o e None at)
by_type frame home f d o e at homing r m (lefts.product is p) = product frame home homing f d r.first r.second o e at r.right is p (pair_kept f d o e at r.within) m
by_type frame home f d o e at homing r m (lefts.flagged n b t) = flagged frame home homing f d r.second (flag_left home f r.first b) o e at r.right n t (pair_kept f d o e at r.within) m

pub pairs : PairsHaveOperations
pairs frame home f d o e at homing r row = by_type frame home f d o e at homing r (pair_matches f d o e row.0 row.1) r.typed
