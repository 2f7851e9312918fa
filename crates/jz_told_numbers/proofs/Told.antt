-- The passes of the expansion, in two runs at a time.
use Rattle.std.proofs.Common.{ℕ, refl}
use Rattle.jz_tree.specs.declared.program.Fun.{Fun}
use Rattle.jz_runs.specs.Trees.{done}
use Rattle.jz_meaning.specs.States.{State}
use Rattle.jz_meaning.specs.Statements.{Block, source}
use Rattle.jz_pass.specs.Copying.{inlined}
use Rattle.jz_pass.specs.Rewriting.{knowing_of}
use Rattle.jz_bodies.specs.Scopes.{Scope}
use Rattle.jz_bodies.specs.Bodies.{IsBody}
use Rattle.jz_arrays.specs.Arrays.{arrays}
use Rattle.jz_arrays.proofs.Keeping.{arrays_known}
use Rattle.jz_inline.proofs.Copies.{ScopeCopy, IsBelow, Stands, inline}
use Rattle.jz_inline.proofs.Keeping.{copy_of_body}
use Rattle.jz_unroll.specs.Unrolling.{unrolling}
use Rattle.jz_unroll.proofs.Keeping.{unrolling_known}
use Rattle.jz_two_runs.specs.Two.{GoTogether}
use Rattle.jz_two_runs.proofs.Unrolled.{unrolled_together}
use Rattle.jz_two_runs.proofs.Copied.{copied_together}
use Rattle.jz_told_numbers.specs.ToldLaws.{ScalarsTell, RoundsTell}
use Rattle.jz_told_numbers.proofs.Arrays.{arrays_told}
use Rattle.jz_told_numbers.proofs.Rounds.{rounds_told}
use Rattle.jz_inline.proofs.Keeping.{kept}
use Rattle.jz_told_numbers.proofs.Calls.{calls_told}

pub scalars_tell : ScalarsTell
scalars_tell kinds b u k n s t h i j g =
    unrolled_together source source (knowing_of (arrays kinds)) (arrays_known kinds) (arrays_told kinds) {e = tt} {e1 = tt} tt h (record { one = refl; held = i }) (record { one = refl; held = j }) g

pub rounds_tell : RoundsTell
rounds_tell names e e1 b u k n s t v w h i j g = unrolled_together source source (unrolling names) (unrolling_known names) (rounds_told names) {e = e} {e1 = e1} tt h i j g

pub copies_tell : (scopes : Fun → Scope) (x : ScopeCopy) (c : ℕ) (b : Block) (n : ℕ) (s r t v : State) → IsBody scopes x.scope b → IsBelow x c → Stands x s t → Stands x r v → GoTogether source (inlined (inline scopes) x c b done) n t v → GoTogether source b n s r
copies_tell scopes x c b n s r t v i below p q g = copied_together source (inline scopes) (kept scopes) (calls_told scopes) x c (copy_of_body scopes b x i) below p q g
