use Rattle.std.proofs.Common.{subst}
use Rattle.jz_whole_pipeline.specs.NotCompiled.{NotCompiled}
use Rattle.jasminc_compile.specs.InnerMaking.{IsRefusedAt}
use Rattle.jasminc_compile.proofs.compiling.unmade_at.Goals as goal

pub uncoded_at-requires-clause-refused : goal.uncoded_at-requires-clause-refused
uncoded_at-requires-clause-refused c =
    subst (λ (w : NotCompiled). IsRefusedAt c.args.typed.now.program c.args.place w) c.in-Code.is c.requires.refused
