use Rattle.std.proofs.Common.{◌≡◌, sym, subst}
use Rattle.x64_assemble.specs.Assembling.{AreSpelled, insns_of_lines, bytes_of_lines}
use Rattle.x64_assemble.proofs.CodeFound.{ready_as, bytes_as}
use Rattle.x64_assemble.proofs.Spellable.{lines_spellable, code_spelled}
use Rattle.x64_assemble.proofs.bytes.assemble.Goals as goal

pub line_bytes-requires : goal.line_bytes-requires
line_bytes-requires c =
    ready_as c.args.code.now.lines c.as_slice-lines.result.now c.as_slice.result.now c.in_ok-table.table.offsets.items c.requires.once c.requires.named c.as_slice-lines.ensures c.in_ok-table.ensures.offsets c.as_slice.ensures.value
    c.requires.spelled c.requires.short

pub returns-clause-bytes : goal.returns-clause-bytes
returns-clause-bytes c =
    bytes_as c.args.code.now.lines c.as_slice-lines.result.now c.as_slice.result.now c.in_ok-table.table.offsets.items c.requires.once c.requires.named c.as_slice-lines.ensures c.in_ok-table.ensures.offsets c.as_slice.ensures.value
    c.in_ok-bytes.bytes.items c.from_vec.result c.in_ok-bytes.ensures c.from_vec.ensures

pub returns-clause-decodes : goal.returns-clause-decodes
returns-clause-decodes c =
    let is : c.from_vec.result ≡ bytes_of_lines c.args.code.now.lines =
    bytes_as c.args.code.now.lines c.as_slice-lines.result.now c.as_slice.result.now c.in_ok-table.table.offsets.items c.requires.once c.requires.named c.as_slice-lines.ensures c.in_ok-table.ensures.offsets c.as_slice.ensures.value
    c.in_ok-bytes.bytes.items c.from_vec.result c.in_ok-bytes.ensures c.from_vec.ensures in
    subst (AreSpelled (insns_of_lines c.args.code.now.lines)) (sym is) (code_spelled (insns_of_lines c.args.code.now.lines) (lines_spellable c.args.code.now.lines c.requires.spelled c.requires.short))
