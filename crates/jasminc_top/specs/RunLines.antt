-- The lines that tell why a function of a text is not called, without their line feeds.
use Rattle.std.specs.Prelude.{List, ℕ, codes}
use Rattle.jasminc_selfrun.specs.Refused.{Refused}
use Rattle.jasminc_selfrun.specs.Refused.TheVariants as refused
use Rattle.jasminc_top.specs.CompileLines.{uncompiled_text}
use Rattle.jasminc_top.specs.InterpLines.{unknown_text, unmet_text}

abbrev pub uncalled_text : Refused → List ℕ
uncalled_text (refused.Compile r) = uncompiled_text r
uncalled_text (refused.NoFunction name) = unknown_text name
uncalled_text refused.Items = codes "precondition items"
uncalled_text (refused.Unmet pre) = unmet_text pre
