-- What is compiled of an export function of a typed text shows nothing that is secret, where its
-- expansion is constant time, or the listing says yes.
use Rattle.std.specs.Prelude.{◌≡◌}
use Rattle.jz_io.specs.declared.verdict.Ct.TheVariants as ct
use Rattle.jz_tree.specs.declared.program.Fun.{Fun}
use Rattle.jz_tree.specs.declared.program.Program.{Program}
use Rattle.jz_from_text.specs.Expanded.{Expanded}
use Rattle.jz_listing.specs.declared.compiled.Compiled.{Compiled}
use Rattle.jz_verdict.specs.Told.{IsConstantTime}
use Rattle.jz_verdict.specs.Said.{IsSaid}
use Rattle.jz_from_text.specs.Laws.{IsCompiledFrom}
use Rattle.jz_constant_time.specs.Shown.{ShowsNothingSecret}

-- where the expansion e of the function f is constant time
abbrev pub CompiledShowsNothingSecret : Type 0
CompiledShowsNothingSecret =
    (p : Program) (f : Fun) (e : Expanded) (c : Compiled)
    → IsCompiledFrom p f e c → IsConstantTime e.fun → ShowsNothingSecret f c

-- where the listing says yes, and says what is so
abbrev pub SaidShowsNothingSecret : Type 0
SaidShowsNothingSecret =
    (p : Program) (f : Fun) (e : Expanded) (c : Compiled)
    → IsCompiledFrom p f e c → IsSaid p f c.ct → c.ct ≡ ct.Yes → ShowsNothingSecret f c
