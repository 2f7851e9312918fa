use Rattle.std.proofs.Common.{ap, ◌∙◌}
use Rattle.jz_tree.specs.declared.program.Fun.{Fun}
use Rattle.jz_declared.specs.Declared.{held_of}
use Rattle.jz_unplaced.specs.Names.{refusal_of}
use Rattle.jasminc_compile.proofs.compiling.named_at.Goals as goal

pub returns : goal.returns
returns c = record {
  expanded = c.in_ok-expanded.expanded;
  at = c.in_ok-expanded.ensures;
  named = c.in_ok-unplaced.ensures ∙ ap (λ (g : Fun). refusal_of (held_of g) c.args.refused) c.fun.ensures;
}
