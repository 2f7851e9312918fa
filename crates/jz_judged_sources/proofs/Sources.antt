-- Functions of a text that `ct` answers with yes.
use Rattle.jz_source_leaks.specs.SafeExpansions.{IsExpandedExport}
use Rattle.jasminc_source.proofs.Causing.{text_typed}
use Rattle.jasminc_expansions.proofs.Typing.{text_text}
use Rattle.jz_judged.proofs.Texts.{judged_alike}
use Rattle.jz_source_leaks.proofs.Back.{loses_nothing}
use Rattle.jz_judged_sources.specs.JudgedSources.{JudgedSourcesLeakTheSame}

pub judged_sources : JudgedSourcesLeakTheSame
judged_sources text output g f has exported given other one two equal n o q u v =
    let a = judged_alike text output g f has exported in
    let x : IsExpandedExport g.program f a.expanded a.change a.count = record {
      typed = text_typed text g.program g.types;
      text = text_text text g.program g.types;
      there = has;
      exported = exported;
      expansion = a.expansion;
    } in
    loses_nothing g.program f a.expanded a.change a.count x given other one two n o q u v (a.sources given other one two equal n o q u v)
