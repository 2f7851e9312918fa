-- There is room for the immediate.
use Rattle.std.proofs.Common.{arith}
use Rattle.x64_encode.proofs.PushedBytes.{longer_none, longer_option, longer_byte, longer_signed}
use Rattle.x64_encode.proofs.fields.ChosenFields.bytes.Goals as goal

pub push_signed-requires-2-clause-room : goal.push_signed-requires-2-clause-room
push_signed-requires-2-clause-room c =
    let a = longer_option _ _ _ c.push_option.ensures in
    let b = longer_option _ _ _ c.push_option-2.ensures in
    let d = longer_option _ _ _ c.push_option-3.ensures in
    let e = longer_byte _ _ _ c.push.ensures in
    let f = longer_option _ _ _ c.push_option-4.ensures in
    let g = longer_option _ _ _ c.push_option-5.ensures in
    let h = longer_signed _ _ _ _ c.push_signed.ensures in
    let i = longer_none _ c.new-code.ensures in
    omega (arith, a, b, d, e, f, g, h, i, c.requires)
