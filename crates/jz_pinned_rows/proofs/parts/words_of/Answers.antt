use Rattle.std.proofs.Common.{rules, sym, ◌∙◌}
use Rattle.jz_operands.specs.TableHomes.{homes_of}
use Rattle.jz_operands.proofs.SumLemmas.{none_or}
use Rattle.jz_pinned_rows.specs.Rows.{AreWords}
use Rattle.jz_pinned_rows.proofs.PartLemmas.{no_words, imm_words, words_are}
use Rattle.jz_pinned_rows.proofs.parts.words_of.Goals as goal

pub returns : goal.returns
returns c = words_are (homes_of c.args.homes.now) c.args.size c.args.first.now c.args.second.now c.in_ok-both.both c.in_ok-both.ensures (sym c.is_imm.ensures ∙ c.if-is_imm.false)

pub returns-in_err-both : goal.returns-in_err-both
returns-in_err-both c =
    none_or (AreWords (homes_of c.args.homes.now) c.args.size c.args.first.now c.args.second.now) c.from_residual.result (search rules) (no_words (homes_of c.args.homes.now) c.args.size c.args.first.now c.args.second.now c.in_err-both.ensures)

pub returns-then-is_imm : goal.returns-then-is_imm
returns-then-is_imm c = imm_words (homes_of c.args.homes.now) c.args.size c.args.first.now c.args.second.now c.in_ok-both.both c.in_ok-both.ensures (sym c.is_imm.ensures ∙ c.if-is_imm.true)
