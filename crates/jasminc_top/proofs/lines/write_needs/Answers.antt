use Rattle.std.proofs.Common.{◌≡◌, ◌++◌, List, ℕ, subst}
use Rattle.std.specs.Prelude.{OnOk}
use Rattle.jasminc_top.specs.Lines.{need_text}
use Rattle.jasminc_top.proofs.Dashes.{some_texts}
use Rattle.jasminc_top.proofs.lines.write_needs.Goals as goal

pub returns-else-is_empty : goal.returns-else-is_empty
returns-else-is_empty c =
    subst (λ (t : List ℕ). OnOk c.write_each_need.result (c.write_each_need.new.line.items ≡ c.args.line.now.items ++ t))
    (some_texts need_text c.args.needs.now (λ e. let yes = c.is_empty.ensures.1 e in let no = c.if-is_empty.false in cc)) c.write_each_need.ensures
