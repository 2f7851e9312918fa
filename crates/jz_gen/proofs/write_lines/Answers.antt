-- Each turn appends one line.
use Rattle.std.proofs.Common.{◌≡◌, ◌≤◌, ◌++◌, rules}
use Rattle.jz_gen.specs.Programs.{line}
use Rattle.jz_gen.proofs.Lines.{next_below, one_more, all_made}
use Rattle.jz_gen.proofs.write_lines.Goals as goal

pub loop-preserved : goal.loop-preserved
loop-preserved c =
    let more : c.write_line.new.text.items ≡ c.loop.text.items ++ line c.next-number.result = search rules in (
      next_below c.loop.number c.next-number.result c.next-number.ensures,
      one_more c.loop.number c.next-number.result c.args.size c.loop.counter c.loop.text.items _ _
          c.next-number.ensures c.loop-test.true more c.loop.invariant.1,
    )

pub returns : goal.returns
returns c =
    let le : c.args.size ≤ c.loop.counter = search rules in
    all_made c.loop.number c.args.size c.loop.counter c.loop.text.items _ le c.loop.invariant.1
