use Rattle.jasminc_ct.proofs.Readying.{judged_at}
use Rattle.jasminc_ct.proofs.functions.judge_at.Goals as goal

pub returns : goal.returns
returns c =
    judged_at c.args.typed.now.program c.args.place c.in_ok-expanded.expanded c.in_ok-ct.ct c.in_ok-expanded.ensures c.in_ok-ct.ensures.yes c.in_ok-ct.ensures.breach
