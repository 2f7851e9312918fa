use Rattle.std.proofs.Common.{◌∙◌, length, rules}
use Rattle.std.specs.Int.{w32}
use Rattle.std.proofs.lemmas.Int.{to_z-of_z}
use Rattle.x64_assemble.proofs.CodeFound.{jcc_ready, jmp_ready, call_ready}
use Rattle.x64_assemble.proofs.bytes.put_line.Goals as goal

pub put-requires-in-Jcc : goal.put-requires-in-Jcc
put-requires-in-Jcc c =
    jcc_ready c.args.table.now (length c.args.bytes.now.items) c.args.line.now c.in-Jcc.cond c.in-Jcc.label c.target.result _ _ c.in-Jcc.is c.requires c.target.ensures (search rules)
    (to_z-of_z w32 c.distance-jump.result (search rules) ∙ c.distance-jump.ensures)

pub put-requires-in-Jmp : goal.put-requires-in-Jmp
put-requires-in-Jmp c =
    jmp_ready c.args.table.now (length c.args.bytes.now.items) c.args.line.now c.in-Jmp.label c.target-in-Jmp.result _ _ c.in-Jmp.is c.requires c.target-in-Jmp.ensures (search rules)
    (to_z-of_z w32 c.distance-jump-in-Jmp.result (search rules) ∙ c.distance-jump-in-Jmp.ensures)

pub put-requires-in-Call : goal.put-requires-in-Call
put-requires-in-Call c =
    call_ready c.args.table.now (length c.args.bytes.now.items) c.args.line.now c.in-Call.label c.target-in-Call.result _ _ c.in-Call.is c.requires c.target-in-Call.ensures (search rules)
    (to_z-of_z w32 c.distance-jump-in-Call.result (search rules) ∙ c.distance-jump-in-Call.ensures)
