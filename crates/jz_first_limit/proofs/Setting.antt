-- What is known behind assignments.
use Rattle.std.proofs.Common.{◌≡◌, Bool, true, false, List, Option, Some, None, refl, sym, ap, ◌∙◌, if◌then◌else◌}
use Rattle.jz_tree.specs.Span.{Span}
use Rattle.jz_tree.specs.declared.expr.BinOp.{BinOp}
use Rattle.jz_tree.specs.declared.expr.Expr.{Expr}
use Rattle.jz_tree.specs.declared.expr.Var.{Var}
use Rattle.jz_tree.specs.declared.stmt.Lval.{Lval}
use Rattle.jz_tree.specs.declared.stmt.Lval.TheVariants as lval
use Rattle.jz_integers.specs.Integers.{KnownNumbers, the_number}
use Rattle.jz_meaning.specs.Assignments.{whole_of}
use Rattle.jz_meaning.specs.Statements.{assign}
use Rattle.jz_limits.specs.Asked.{set_value}
use Rattle.jz_limits.specs.Values.{with_number, holds_in, inline_target, chosen, set_to, first_left, known_after}
use Rattle.jz_first_limit.specs.InnerStraight.{is_true}

abbrev pub set_if : KnownNumbers → Var → Option BinOp → Expr → Bool → KnownNumbers
set_if e v o x b = if b then with_number e v (the_number (set_value e v o x)) else e

set_by : (e : KnownNumbers) (v : Var) (o : Option BinOp) (x : Expr) (c : Option Expr) (t : Option Bool) → holds_in e c ≡ t → set_to e (Some v) (whole_of (first_left (Some v)) o x) c ≡ set_if e v o x (is_true t)
set_by e v None x c None h = ap (chosen e v (Some x)) h
set_by e v None x c (Some true) h = ap (chosen e v (Some x)) h
set_by e v None x c (Some false) h = ap (chosen e v (Some x)) h
set_by e v (Some o) x c None h = ap (chosen e v (whole_of (Some (lval.Var v)) (Some o) x)) h
set_by e v (Some o) x c (Some true) h = ap (chosen e v (whole_of (Some (lval.Var v)) (Some o) x)) h
set_by e v (Some o) x c (Some false) h = ap (chosen e v (whole_of (Some (lval.Var v)) (Some o) x)) h

-- nothing is set but one inline variable
pub other_known : (e : KnownNumbers) (to : List Lval) (o : Option BinOp) (x : Expr) (c : Option Expr) (at : Span) → None ≡ inline_target to → e ≡ known_after e (assign to o x c at)
other_known e to o x c at h = ap (λ t. set_to e t (whole_of (first_left t) o x) c) h

pub set_known : (e : KnownNumbers) (to : List Lval) (v : Var) (o : Option BinOp) (x : Expr) (c : Option Expr) (at : Span) → Some v ≡ inline_target to → set_if e v o x (is_true (holds_in e c)) ≡ known_after e (assign to o x c at)
set_known e to v o x c at h =
    sym (set_by e v o x c (holds_in e c) refl) ∙ ap (λ t. set_to e t (whole_of (first_left t) o x) c) h
