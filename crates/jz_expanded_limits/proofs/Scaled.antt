-- Words in place of the cells of register arrays, in a body of which each statement is within the
-- limits with them.
use Rattle.std.proofs.Common.{ℕ, ◌+◌, ◌≤◌, arith}
use Rattle.std.specs.Prelude.{⊤}
use Rattle.jz_runs.specs.Trees.{done}
use Rattle.jz_meaning.specs.Statements.{Block}
use Rattle.jz_run_laws.specs.Kinds.{Kinds}
use Rattle.jz_change.specs.Changes.{Change}
use Rattle.jz_pass.specs.Unrolling.{u_done, u_op, u_quiet, u_if, u_arm, u_while, u_once, u_for, Unrolls}
use Rattle.jz_pass.specs.Rewriting.{Rewrites, knowing_of}
use Rattle.jz_arrays.specs.Arrays.{assigns, instructs, tests, arrays}
use Rattle.jz_meaning.specs.Lengths.{statements_in}
use Rattle.jz_expanded_limits.specs.WithinBodies.{IsWithinBody}
use Rattle.jz_expanded_limits.proofs.CopiedSets.{Good}

-- ---- counts
none_more : (n : ℕ) → n ≤ 0 + n
none_more n = omega arith

one_more : (u t r : ℕ) → u ≤ t + r → 1 + u ≤ (1 + t) + r
one_more u t r h = omega (arith, h)

three_more : (a b u x y t r : ℕ) → a ≤ x + 0 → b ≤ y + 0 → u ≤ t + r → 1 + a + b + u ≤ (1 + x + y + t) + r
three_more a b u x y t r h k l = omega (arith, h, k, l)

module _ (kinds : Kinds) where
  scaled : {t rest u : Block} {e e1 : ⊤} {k : Change} → Unrolls (knowing_of (arrays kinds)) t e rest u e1 k → Good t → IsWithinBody rest → IsWithinBody u
  scaled u_done g r = r
  scaled (u_op (assigns h) x) g r = (g.0, scaled x g.1 r)
  scaled (u_op (instructs h) x) g r = (g.0, scaled x g.1 r)
  scaled (u_quiet q x) g r = scaled x g r
  scaled (u_if (tests h) a b l m x) g r = (g.0, scaled a g.1 tt, scaled b g.2 tt, scaled x g.3 r)
  scaled (u_arm c y x) g r = absurd c
  scaled (u_while l (tests h) q b m n x) g r = (g.0, scaled q g.1 tt, scaled b g.2 tt, scaled x g.3 r)
  scaled (u_once q c x) g r = absurd c
  scaled (u_for v es x) g r = absurd v

  -- with no statement more
  counted : {t rest u : Block} {e e1 : ⊤} {k : Change} → Unrolls (knowing_of (arrays kinds)) t e rest u e1 k → statements_in u ≤ statements_in t + statements_in rest
  counted (u_done {rest = rest}) = none_more (statements_in rest)
  counted (u_op {r = t} {rest = rest} {u = u} (assigns h) x) = one_more (statements_in u) (statements_in t) (statements_in rest) (counted x)
  counted (u_op {r = t} {rest = rest} {u = u} (instructs h) x) = one_more (statements_in u) (statements_in t) (statements_in rest) (counted x)
  counted (u_quiet q x) = counted x
  counted (u_if {a = a} {b = b} {r = t} {rest = rest} {u = u} {a2 = a2} {b2 = b2} (tests h) x y l m z) =
      three_more (statements_in a2) (statements_in b2) (statements_in u) (statements_in a) (statements_in b) (statements_in t) (statements_in rest) (counted x) (counted y) (counted z)
  counted (u_arm c y x) = absurd c
  counted (u_while {q = q} {b = b} {r = t} {rest = rest} {u = u} {q2 = q2} {b2 = b2} l (tests h) x y m n z) =
      three_more (statements_in q2) (statements_in b2) (statements_in u) (statements_in q) (statements_in b) (statements_in t) (statements_in rest) (counted x) (counted y) (counted z)
  counted (u_once q c x) = absurd c
  counted (u_for v es x) = absurd v

pub scaled_counted : (kinds : Kinds) (b u : Block) (k : Change) → Rewrites (arrays kinds) b done u k → statements_in u ≤ statements_in b + 0
scaled_counted kinds b u k x = counted kinds x

pub scaled_within : (kinds : Kinds) (b u : Block) (k : Change) → Rewrites (arrays kinds) b done u k → Good b → IsWithinBody u
scaled_within kinds b u k x g = scaled kinds x g tt
