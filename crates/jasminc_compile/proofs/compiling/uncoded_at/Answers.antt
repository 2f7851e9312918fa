use Rattle.std.proofs.Common.{subst}
use Rattle.jz_code.specs.declared.code.NoCode.{NoCode}
use Rattle.jz_whole_pipeline.specs.NotCompiled.TheVariants as uncompiled
use Rattle.jasminc_compile.specs.InnerMaking.{IsRefusedAt}
use Rattle.jasminc_compile.proofs.Making.{no_place}
use Rattle.jasminc_compile.proofs.compiling.uncoded_at.Goals as goal

pub frame_at-requires-clause-refused : goal.frame_at-requires-clause-refused
frame_at-requires-clause-refused c =
    subst (λ (w : NoCode). IsRefusedAt c.args.typed.now.program c.args.place (uncompiled.Code w)) c.in-Frame.is c.requires.refused

pub returns-in_ok-unplaced-in-Place : goal.returns-in_ok-unplaced-in-Place
returns-in_ok-unplaced-in-Place c =
    no_place c.args.typed.now.program c.args.place c.in-Place.refused c.in_ok-unplaced-in-Place.unplaced c.in_ok-unplaced-in-Place.ensures
    (subst (λ (w : NoCode). IsRefusedAt c.args.typed.now.program c.args.place (uncompiled.Code w)) c.in-Place.is c.requires.refused)
