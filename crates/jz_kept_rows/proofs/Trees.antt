-- Bodies keep the classes of their statements and tests.
use Rattle.std.proofs.Common.{◌≡◌, ℤ, List, Bool, true, false, sym, ap, ◌∙◌}
use Rattle.std.specs.Prelude.{if◌then◌else◌, ⊤}
use Rattle.jz_tree.specs.Span.{Span}
use Rattle.jz_tree.specs.declared.expr.Expr.TheVariants as expr
use Rattle.jz_tree.specs.declared.expr.Expr.TheOpen.{Expr-F}
use Rattle.jz_type_names.specs.Parts.{span_of}
use Rattle.jz_integers.specs.Integers.{KnownNumbers}
use Rattle.jz_select.specs.Look.{Look, look_of}
use Rattle.jz_select.specs.Shapes.{is_test, has_flags}
use Rattle.jz_meaning.specs.Statements.{assign, instruction, Counter, Block}
use Rattle.jz_run_laws.specs.Kinds.{Kinds}
use Rattle.jz_row_laws.proofs.Booleans.{or_right}
use Rattle.jz_row_laws.proofs.Fixed.{look_is}
use Rattle.jz_change.specs.Changes.{Change, Changes}
use Rattle.jz_pass.specs.Unrolling.{u_done, u_op, u_quiet, u_if, u_arm, u_while, u_once, u_for, u_none, u_more, Unrolls, UnrollsEach}
use Rattle.jz_pass.specs.Rewriting.{knowing_of}
use Rattle.jz_unroll.specs.Values.{InlineNames}
use Rattle.jz_unroll.specs.Unrolling.{stays, vanishes, tested, loops, always, unrolling}
use Rattle.jz_arrays.specs.Arrays.{assigns, instructs, tests, arrays}
use Rattle.jz_kept_types.specs.Operations.{IsTypedBody}
use Rattle.jz_row_classes.specs.RowClasses.{IsClassedBody}
use Rattle.jz_kept_rows.specs.KeptRows.{IsRowedBody, UnrolledBodiesAreClassed, BodiesOfScalarsAreClassed}
use Rattle.jz_kept_rows.proofs.Operations.{values_stay_classed, scalars_stay_classed, values_test, scalars_test}

-- ---- values
truth_look : (b : Bool) (at : Span) → (look_of (expr.Bool b at)).condition ≡ true
truth_look b at = ap (λ x. (look_of x).condition) (sym (expr.rolls-Bool b at)) ∙ ap (λ (l : Look). l.condition) (look_is (Expr-F.Expr::Bool b at))

truth_test : (b : Bool) (at : Span) → is_test (expr.Bool b at) ≡ true
truth_test b at = or_right (has_flags (expr.Bool b at)) (look_of (expr.Bool b at)).condition (truth_look b at)

module _ (names : InlineNames) where
  arm_rowed : (z : Bool) (a b : Block) → IsRowedBody a → IsRowedBody b → IsRowedBody (if z then a else b)
  arm_rowed true a b f g = f
  arm_rowed false a b f g = g

  arm_typed : (z : Bool) (a b : Block) → IsTypedBody a → IsTypedBody b → IsTypedBody (if z then a else b)
  arm_typed true a b f g = f
  arm_typed false a b f g = g

  mutual
    unrolled_classed : {t rest u : Block} {e e1 : KnownNumbers} {k : Change} → Unrolls (unrolling names) t e rest u e1 k → IsTypedBody t → IsRowedBody t → IsClassedBody rest → IsClassedBody u
    unrolled_classed u_done t f r = r
    unrolled_classed (u_op {o} {e = e} (stays h) x) t f r = (values_stay_classed names e o t.0 f.0 h, unrolled_classed x t.1 f.1 r)
    unrolled_classed (u_op (vanishes b i w v c) x) t f r = unrolled_classed x t.1 f.1 r
    unrolled_classed (u_quiet q x) t f r = unrolled_classed x t f r
    unrolled_classed (u_if {p} {e = e} (tested i h) a b l m x) t f r =
        (values_test e p.cond f.0, unrolled_classed a t.1 f.1 tt, unrolled_classed b t.2 f.2 tt, unrolled_classed x t.3 f.3 r)
    unrolled_classed (u_arm {a} {b} {z = z} c y x) t f r = unrolled_classed y (arm_typed z a b t.1 t.2) (arm_rowed z a b f.1 f.2) (unrolled_classed x t.3 f.3 r)
    unrolled_classed (u_while {p} {eq = eq} l (loops i h) q b m n x) t f r =
        (values_test eq p.cond f.0, unrolled_classed q t.1 f.1 tt, unrolled_classed b t.2 f.2 tt, unrolled_classed x t.3 f.3 r)
    unrolled_classed (u_while {p} l (always i h) q b m n x) t f r =
        (truth_test true (span_of p.cond), unrolled_classed q t.1 f.1 tt, unrolled_classed b t.2 f.2 tt, unrolled_classed x t.3 f.3 r)
    unrolled_classed (u_once q c x) t f r = unrolled_classed q t.1 f.1 (unrolled_classed x t.3 f.3 r)
    unrolled_classed (u_for v es x) t f r = rounds_classed es t.0 f.0 (unrolled_classed x t.1 f.1 r)

    rounds_classed : {i : Counter} {b rest u : Block} {is : List ℤ} {e e1 : KnownNumbers} {ts : Changes} → UnrollsEach (unrolling names) i b is e rest u e1 ts → IsTypedBody b → IsRowedBody b → IsClassedBody rest → IsClassedBody u
    rounds_classed u_none t f r = r
    rounds_classed (u_more y x) t f r = unrolled_classed y t f (rounds_classed x t f r)

pub unrolled_are_classed : UnrolledBodiesAreClassed
unrolled_are_classed names e e1 b u k x t f = unrolled_classed names x t f tt

-- ---- words in place of cells
module _ (kinds : Kinds) where
  scaled_classed : {t rest u : Block} {e e1 : ⊤} {k : Change} → Unrolls (knowing_of (arrays kinds)) t e rest u e1 k → IsTypedBody t → IsClassedBody t → IsClassedBody rest → IsClassedBody u
  scaled_classed u_done t f r = r
  scaled_classed (u_op (assigns {to = to} {op = o} {e = e} {c = c} {at = at} h) x) t f r = (scalars_stay_classed (assign to o e c at) t.0 f.0, scaled_classed x t.1 f.1 r)
  scaled_classed (u_op (instructs {to = to} {n = n} {args = args} {at = at} h) x) t f r = (scalars_stay_classed (instruction to n args at) t.0 f.0, scaled_classed x t.1 f.1 r)
  scaled_classed (u_quiet q x) t f r = scaled_classed x t f r
  scaled_classed (u_if {p} (tests h) a b l m x) t f r =
      (scalars_test p.cond f.0, scaled_classed a t.1 f.1 tt, scaled_classed b t.2 f.2 tt, scaled_classed x t.3 f.3 r)
  scaled_classed (u_arm c y x) t f r = absurd c
  scaled_classed (u_while {p} l (tests h) q b m n x) t f r =
      (scalars_test p.cond f.0, scaled_classed q t.1 f.1 tt, scaled_classed b t.2 f.2 tt, scaled_classed x t.3 f.3 r)
  scaled_classed (u_once q c x) t f r = absurd c
  scaled_classed (u_for v es x) t f r = absurd v

pub scalar_bodies_are_classed : BodiesOfScalarsAreClassed
scalar_bodies_are_classed kinds b u k x t f = scaled_classed kinds x t f tt
