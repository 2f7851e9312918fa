use Rattle.jz_place.specs.Codes.{code_in}
use Rattle.jz_code.proofs.Lines.{lines_once, lines_named, lines_spelled, lines_counted}
use Rattle.jz_code.proofs.code.encode_body.Goals as goal

pub assemble-requires-clause-once : goal.assemble-requires-clause-once
assemble-requires-clause-once c = lines_once (code_in c.args.nodes.now) c.in_ok-code.code.lines c.in_ok-code.ensures.lines

pub assemble-requires-clause-named : goal.assemble-requires-clause-named
assemble-requires-clause-named c = lines_named (code_in c.args.nodes.now) c.in_ok-code.code.lines c.in_ok-code.ensures.lines

pub assemble-requires-clause-spelled : goal.assemble-requires-clause-spelled
assemble-requires-clause-spelled c = lines_spelled (code_in c.args.nodes.now) c.in_ok-code.code.lines c.in_ok-code.ensures.lines c.requires.plain

pub returns-clause-insns : goal.returns-clause-insns
returns-clause-insns c =
    lines_counted (code_in c.args.nodes.now) c.in_ok-code.code.lines c.in_ok-code.ensures.lines c.instructions-insns.result c.as_slice-lines.result.now c.as_slice-lines.ensures c.instructions-insns.ensures
