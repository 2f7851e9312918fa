use Rattle.std.proofs.Common.{◌∙◌, sym}
use Rattle.jz_lex.proofs.LexingFront.{blank_part, word_part, quoted_part, unquoted_part, sign_part, none_part}
use Rattle.jz_lex.proofs.front.no_comment_at.Goals as goal

pub returns-then-is_blank : goal.returns-then-is_blank
returns-then-is_blank c = blank_part c.args.text.now c.requires.some (sym c.is_blank.ensures ∙ c.if-is_blank.true)

pub returns-then-begins_word : goal.returns-then-begins_word
returns-then-begins_word c = word_part c.args.text.now c.word_length.result c.requires.some c.requires.no_comment (sym c.begins_word.ensures ∙ c.if-begins_word.true) c.word_length.ensures.value

pub returns-in-Some : goal.returns-in-Some
returns-in-Some c = quoted_part c.args.text.now c.in-Some.length c.requires.some c.requires.no_comment c.if-first-eq34.true c.in-Some.ensures.value

pub returns-in-None : goal.returns-in-None
returns-in-None c = unquoted_part c.args.text.now c.requires.some c.requires.no_comment c.if-first-eq34.true c.in-None.ensures.value

pub returns-in-Some-sign_length : goal.returns-in-Some-sign_length
returns-in-Some-sign_length c = sign_part c.args.text.now c.in-Some-sign_length.length c.requires.some c.requires.no_comment (sym c.begins_word.ensures ∙ c.if-begins_word.false) (sym c.is_digit.ensures ∙ c.if-is_digit.false) c.if-first-eq34.false (sym c.in-Some-sign_length.ensures)

pub returns-in-None-sign_length : goal.returns-in-None-sign_length
returns-in-None-sign_length c = none_part c.args.text.now c.requires.some c.requires.no_comment (sym c.is_blank.ensures ∙ c.if-is_blank.false) (sym c.begins_word.ensures ∙ c.if-begins_word.false) (sym c.is_digit.ensures ∙ c.if-is_digit.false) c.if-first-eq34.false (sym c.in-None-sign_length.ensures)
