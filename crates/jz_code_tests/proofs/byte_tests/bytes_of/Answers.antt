use Rattle.jz_code_tests.proofs.LoopLemmas.{spelled, short}
use Rattle.jz_code_tests.proofs.byte_tests.bytes_of.Goals as goal

pub assemble-requires-clause-spelled : goal.assemble-requires-clause-spelled
assemble-requires-clause-spelled c = spelled c.args.nodes.now c.in_ok-code.code.lines c.requires c.in_ok-code.ensures.lines

pub assemble-requires-clause-short : goal.assemble-requires-clause-short
assemble-requires-clause-short c = short c.args.nodes.now c.in_ok-code.code.lines c.requires c.in_ok-code.ensures.lines
