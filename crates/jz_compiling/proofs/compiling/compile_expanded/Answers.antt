use Rattle.std.proofs.Common.{◌∙◌, sym, subst}
use Rattle.jz_correct.specs.Registers.{argument_registers, result_registers}
use Rattle.jz_compiled.specs.Lines.{AreArgumentLines, AreResultLines}
use Rattle.jz_compiling.proofs.compiling.compile_expanded.Goals as goal

pub returns-clause-made : goal.returns-clause-made
returns-clause-made c =
    let h = c.in_ok-head.ensures.lines in
    let t = c.in_ok-compiled.ensures in (
      record {
        name = t.name;
        args = subst (AreArgumentLines argument_registers c.args.fun.now.params) (sym t.args) h.args;
        rets = subst (AreResultLines result_registers c.args.fun.now.result c.args.fun.now.rets) (sym t.rets) h.rets;
        pre = t.pre ∙ h.pre;
        lowered = c.in_ok-lowered.lowered;
        is_lowered = c.in_ok-lowered.ensures.made;
        keeps = c.in_ok-lowered.ensures.law;
        ready = c.in_ok-lowered.ensures.ready;
        code = c.in_ok-code.code;
        is_code = c.in_ok-code.ensures.code;
        has = t.has;
        saved = t.saved;
        transformer = t.transformer;
      },
      t.ct,
    )
