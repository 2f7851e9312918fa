use Rattle.std.proofs.Common.{◌≡◌, ◌++◌, List, ℕ, subst}
use Rattle.std.specs.Prelude.{OnOk}
use Rattle.jasminc_top.specs.CompileLines.{holder_text}
use Rattle.jasminc_top.proofs.Dashes.{some_texts}
use Rattle.jasminc_top.proofs.compile_lines.write_holders.Goals as goal

pub returns-else-is_empty : goal.returns-else-is_empty
returns-else-is_empty c =
    subst (λ (t : List ℕ). OnOk c.write_each_holder.result (c.write_each_holder.new.line.items ≡ c.args.line.now.items ++ t))
    (some_texts holder_text c.args.holders.now (λ e. let yes = c.is_empty.ensures.1 e in let no = c.if-is_empty.false in cc)) c.write_each_holder.ensures
