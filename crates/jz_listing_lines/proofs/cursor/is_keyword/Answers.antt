use Rattle.std.proofs.Common.{sym}
use Rattle.jz_lex.specs.LexingWords.{keywords}
use Rattle.jz_lex.proofs.LexingWords.{none_among}
use Rattle.jz_listing_lines.proofs.cursor.is_keyword.Goals as goal

pub returns-in_default : goal.returns-in_default
unfolding keywords
returns-in_default c = sym (none_among keywords c.args.word.now (c.in_default.not-param, (c.in_default.not-int, (c.in_default.not-inline, (c.in_default.not-export, (c.in_default.not-fn, (c.in_default.not-reg, (c.in_default.not-stack, (c.in_default.not-bool, (c.in_default.not-u8, (c.in_default.not-u16, (c.in_default.not-u32, (c.in_default.not-u64, (c.in_default.not-return, (c.in_default.not-if, (c.in_default.not-else, (c.in_default.not-while, (c.in_default.not-for, (c.in_default.not-to, (c.in_default.not-downto, (c.in_default.not-true, (c.in_default.not-false, (c.in_default.not-text, tt)))))))))))))))))))))))
