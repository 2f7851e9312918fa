-- Bodies stay typed.
use Rattle.std.proofs.Common.{ℤ, List, Bool, true, false}
use Rattle.std.specs.Prelude.{if◌then◌else◌, ⊤}
use Rattle.jz_type_names.specs.Parts.{span_of}
use Rattle.jz_integers.specs.Integers.{KnownNumbers}
use Rattle.jz_judgement.specs.Places.{truth}
use Rattle.jz_meaning.specs.Statements.{assign, instruction, Counter, Block}
use Rattle.jz_arrays.specs.Kinds.{Kinds}
use Rattle.jz_change.specs.Changes.{Change, Changes}
use Rattle.jz_pass.specs.Unrolling.{u_done, u_op, u_quiet, u_if, u_arm, u_while, u_once, u_for, u_none, u_more, Unrolls, UnrollsEach}
use Rattle.jz_pass.specs.Rewriting.{knowing_of}
use Rattle.jz_unroll.specs.Values.{InlineNames}
use Rattle.jz_unroll.specs.Unrolling.{stays, vanishes, tested, loops, always, unrolling}
use Rattle.jz_arrays.specs.Arrays.{assigns, instructs, tests, arrays}
use Rattle.jz_kept_types.specs.Operations.{IsTypedBody}
use Rattle.jz_kept_types.specs.KeptLaws.{UnrolledBodiesStayTyped, BodiesOfScalarsStayTyped}
use Rattle.jz_kept_types.proofs.Valuing.{truth_type}
use Rattle.jz_kept_types.proofs.Whole.{values_keep, values_stay, scalars_keep, scalars_stay}

-- ---- values
module _ (names : InlineNames) where
  arm_typed : (z : Bool) (a b : Block) → IsTypedBody a → IsTypedBody b → IsTypedBody (if z then a else b)
  arm_typed true a b f g = f
  arm_typed false a b f g = g

  mutual
    unrolled_typed : {t rest u : Block} {e e1 : KnownNumbers} {k : Change} → Unrolls (unrolling names) t e rest u e1 k → IsTypedBody t → IsTypedBody rest → IsTypedBody u
    unrolled_typed u_done f r = r
    unrolled_typed (u_op {o} {e = e} (stays h) x) f r = (values_stay names e o f.0 h, unrolled_typed x f.1 r)
    unrolled_typed (u_op (vanishes b i w v c) x) f r = unrolled_typed x f.1 r
    unrolled_typed (u_quiet q x) f r = unrolled_typed x f r
    unrolled_typed (u_if {p} {e = e} (tested i h) a b l m x) f r =
        (values_keep e p.cond truth f.0, unrolled_typed a f.1 tt, unrolled_typed b f.2 tt, unrolled_typed x f.3 r)
    unrolled_typed (u_arm {a} {b} {z = z} c y x) f r = unrolled_typed y (arm_typed z a b f.1 f.2) (unrolled_typed x f.3 r)
    unrolled_typed (u_while {p} {eq = eq} l (loops i h) q b m n x) f r =
        (values_keep eq p.cond truth f.0, unrolled_typed q f.1 tt, unrolled_typed b f.2 tt, unrolled_typed x f.3 r)
    unrolled_typed (u_while {p} l (always i h) q b m n x) f r =
        (truth_type true (span_of p.cond) truth tt, unrolled_typed q f.1 tt, unrolled_typed b f.2 tt, unrolled_typed x f.3 r)
    unrolled_typed (u_once q c x) f r = unrolled_typed q f.1 (unrolled_typed x f.3 r)
    unrolled_typed (u_for v es x) f r = rounds_typed es f.0 (unrolled_typed x f.1 r)

    rounds_typed : {i : Counter} {b rest u : Block} {is : List ℤ} {e e1 : KnownNumbers} {ts : Changes} → UnrollsEach (unrolling names) i b is e rest u e1 ts → IsTypedBody b → IsTypedBody rest → IsTypedBody u
    rounds_typed u_none f r = r
    rounds_typed (u_more y x) f r = unrolled_typed y f (rounds_typed x f r)

pub unrolled_stay : UnrolledBodiesStayTyped
unrolled_stay names e e1 b u k x f = unrolled_typed names x f tt

-- ---- words in place of cells
module _ (kinds : Kinds) where
  scaled_typed : {t rest u : Block} {e e1 : ⊤} {k : Change} → Unrolls (knowing_of (arrays kinds)) t e rest u e1 k → IsTypedBody t → IsTypedBody rest → IsTypedBody u
  scaled_typed u_done f r = r
  scaled_typed (u_op (assigns {to = to} {op = o} {e = e} {c = c} {at = at} h) x) f r = (scalars_stay (assign to o e c at) f.0, scaled_typed x f.1 r)
  scaled_typed (u_op (instructs {to = to} {n = n} {args = args} {at = at} h) x) f r = (scalars_stay (instruction to n args at) f.0, scaled_typed x f.1 r)
  scaled_typed (u_quiet q x) f r = scaled_typed x f r
  scaled_typed (u_if {p} (tests h) a b l m x) f r =
      (scalars_keep p.cond truth f.0, scaled_typed a f.1 tt, scaled_typed b f.2 tt, scaled_typed x f.3 r)
  scaled_typed (u_arm c y x) f r = absurd c
  scaled_typed (u_while {p} l (tests h) q b m n x) f r =
      (scalars_keep p.cond truth f.0, scaled_typed q f.1 tt, scaled_typed b f.2 tt, scaled_typed x f.3 r)
  scaled_typed (u_once q c x) f r = absurd c
  scaled_typed (u_for v es x) f r = absurd v

pub scalar_bodies_stay : BodiesOfScalarsStayTyped
scalar_bodies_stay kinds b u k x f = scaled_typed kinds x f tt
