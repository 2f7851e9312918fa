-- What is made of a text is correct, and shows nothing that is secret where it is listed so.
use Rattle.std.specs.Prelude.{List}
use Rattle.std.specs.List.{AllZip}
use Rattle.jz_tree.specs.declared.program.Program.{Program}
use Rattle.jz_listing.specs.declared.compiled.Compiled.{Compiled}
use Rattle.jz_compiled.specs.Correct.{AreCorrect}
use Rattle.jz_verdict.specs.Said.{IsSaid}
use Rattle.jasminc_compile.specs.SafeFunctions.{exports_of}
use Rattle.jasminc_compile.specs.Making.{AreMade, ShowsIfListed}

abbrev pub MadeIsCorrect : Type 0
MadeIsCorrect =
    (p : Program) (cs : List Compiled) → AreMade p cs
    → AreCorrect IsSaid p (exports_of p.funs) cs

abbrev pub MadeShowsNothingSecret : Type 0
MadeShowsNothingSecret =
    (p : Program) (cs : List Compiled) → AreMade p cs
    → AllZip ShowsIfListed (exports_of p.funs) cs
