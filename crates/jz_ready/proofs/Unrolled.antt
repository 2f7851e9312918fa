-- What unrolling makes of a fit body is ready.
use Rattle.std.proofs.Common.{List, Some, Bool, true, false, ap}
use Rattle.std.specs.Prelude.{if◌then◌else◌, ℤ}
use Rattle.jz_integers.specs.Integers.{KnownNumbers}
use Rattle.jz_type_names.specs.Parts.{span_of}
use Rattle.jz_meaning.specs.Shapes.{Shape}
use Rattle.jz_meaning.specs.Statements.{Counter, Condition, Block}
use Rattle.jz_run_laws.specs.Kinds.{Kinds}
use Rattle.jz_change.specs.Changes.{Change, Changes}
use Rattle.jz_pass.specs.Unrolling.{u_done, u_op, u_quiet, u_if, u_arm, u_while, u_once, u_for, u_none, u_more, Unrolls, UnrollsEach}
use Rattle.jz_unroll.specs.Values.{InlineNames}
use Rattle.jz_unroll.specs.Unrolling.{stays, vanishes, tested, loops, always, unrolling}
use Rattle.jz_scalars.specs.Ready.{IsReadyTest, IsReady}
use Rattle.jz_ready.proofs.FitParts.{FitIf, IsFit, operation_ready}
use Rattle.jz_ready.proofs.ValuedParts.{truth_is, value_fit, operation_fit}

module _ (kinds : Kinds) (names : InlineNames) where
  test_ready : (p : Condition) → FitIf kinds (Some p.cond) → IsReadyTest kinds p
  test_ready p f = record { known = f.1; sorted = f.0 }

  arm_fit : (z : Bool) (a b : Block) → IsFit kinds a → IsFit kinds b → IsFit kinds (if z then a else b)
  arm_fit true a b f g = f
  arm_fit false a b f g = g

  mutual
    pub unrolled_ready :
        {t rest u : Block} {e e1 : KnownNumbers} {k : Change}
        → Unrolls (unrolling names) t e rest u e1 k → IsFit kinds t → IsReady kinds rest → IsReady kinds u
    unrolled_ready u_done f r = r
    unrolled_ready (u_op {o} {e = e} (stays h) x) f r = (operation_ready kinds _ (operation_fit kinds e o f.0), unrolled_ready x f.1 r)
    unrolled_ready (u_op (vanishes b i w v c) x) f r = unrolled_ready x f.1 r
    unrolled_ready (u_quiet q x) f r = unrolled_ready x f r
    unrolled_ready (u_if {p} {e = e} (tested i h) a b l m x) f r =
        (test_ready _ (value_fit kinds e p.cond f.0), unrolled_ready a f.1 tt, unrolled_ready b f.2 tt, unrolled_ready x f.3 r)
    unrolled_ready (u_arm {a} {b} {z = z} c y x) f r = unrolled_ready y (arm_fit z a b f.1 f.2) (unrolled_ready x f.3 r)
    unrolled_ready (u_while {p} {eq = eq} l (loops i h) q b m n x) f r =
        (test_ready _ (value_fit kinds eq p.cond f.0), unrolled_ready q f.1 tt, unrolled_ready b f.2 tt, unrolled_ready x f.3 r)
    unrolled_ready (u_while {p} {e = e} l (always i h) q b m n x) f r =
        let t = truth_is kinds e true (span_of p.cond) in
        (test_ready _ (t.0, ap (λ (s : Shape). s.fixed) t.1), unrolled_ready q f.1 tt, unrolled_ready b f.2 tt, unrolled_ready x f.3 r)
    unrolled_ready (u_once q c x) f r = unrolled_ready q f.1 (unrolled_ready x f.3 r)
    unrolled_ready (u_for v es x) f r = rounds_ready es f.0 (unrolled_ready x f.1 r)

    rounds_ready :
        {i : Counter} {b rest u : Block} {is : List ℤ} {e e1 : KnownNumbers} {ts : Changes}
        → UnrollsEach (unrolling names) i b is e rest u e1 ts → IsFit kinds b → IsReady kinds rest → IsReady kinds u
    rounds_ready u_none f r = r
    rounds_ready (u_more y x) f r = unrolled_ready y f (rounds_ready x f r)
