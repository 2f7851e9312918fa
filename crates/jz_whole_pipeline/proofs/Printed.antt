-- The runs of a correct compilation, by the printed preconditions.
use Rattle.jz_compiled.proofs.Printed.{meets}
use Rattle.jz_whole_pipeline.specs.Headline.{CompilationsRunAsPrinted}

pub run_as_printed : CompilationsRunAsPrinted
run_as_printed p f c h = λ words memory n printed.
    let declared = (meets f c words memory h.args h.pre).1 printed in
    let run = h.carries.runs words memory n declared in
    (run.0, run.1, λ rsp0 base s start. h.carries.matches words memory n run.0 declared run.1 rsp0 base s start)
