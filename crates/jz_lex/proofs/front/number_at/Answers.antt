use Rattle.std.proofs.Common.{◌≤◌, ◌∙◌, sym, subst, length}
use Rattle.jz_lex.specs.LexingWords.{value_of_numeral}
use Rattle.jz_lex.specs.InnerFront.{IsFront}
use Rattle.jz_lex.specs.declared.front.Shape.TheVariants as shape
use Rattle.jz_lex.specs.declared.front.Front.TheVariants as front
use Rattle.jz_lex.proofs.LexingFront.{split_is, kept_signed, letter_part, large_part, number_part, number_fits}
use Rattle.jz_lex.proofs.front.number_at.Goals as goal

pub split_at-requires : goal.split_at-requires
split_at-requires c = subst (λ n. n ≤ length c.args.text.now) (sym c.numeral_length-length.ensures) (number_fits c.args.text.now c.requires.digit c.requires.no_cast)

pub returns-then-begins_with_letter : goal.returns-then-begins_with_letter
returns-then-begins_with_letter c =
    letter_part c.args.text.now c.split_at.result.0.now c.split_at.result.1.now c.requires.digit c.requires.no_cast
    (split_is c.numeral_length-length.result c.args.text.now c.split_at.result.0.now c.split_at.result.1.now c.split_at.ensures.front c.split_at.ensures.back)
    (c.split_at.ensures.front_len ∙ c.numeral_length-length.ensures)
    (sym c.begins_with_letter.ensures ∙ c.if-begins_with_letter.true)

pub returns-in-Some : goal.returns-in-Some
returns-in-Some c =
    let text = c.args.text.now in
    let k = sym c.in-Some.ensures in
    let m = number_part text c.split_at.result.0.now c.split_at.result.1.now c.in-Some.value c.requires.digit c.requires.no_cast
    (split_is c.numeral_length-length.result text c.split_at.result.0.now c.split_at.result.1.now c.split_at.ensures.front c.split_at.ensures.back)
    (c.split_at.ensures.front_len ∙ c.numeral_length-length.ensures)
    (sym c.begins_with_letter.ensures ∙ c.if-begins_with_letter.false)
    k in
    subst (λ z. IsFront text (front.Lexeme (shape.Number z) c.numeral_length-length.result)) (sym (kept_signed (value_of_numeral c.split_at.result.0.now) c.in-Some.value k))
    (subst (λ n. IsFront text (front.Lexeme (shape.Number c.in-Some.value) n)) (sym c.numeral_length-length.ensures) m)

pub returns-in-None : goal.returns-in-None
returns-in-None c =
    large_part c.args.text.now c.split_at.result.0.now c.split_at.result.1.now c.requires.digit c.requires.no_cast
    (split_is c.numeral_length-length.result c.args.text.now c.split_at.result.0.now c.split_at.result.1.now c.split_at.ensures.front c.split_at.ensures.back)
    (c.split_at.ensures.front_len ∙ c.numeral_length-length.ensures)
    (sym c.in-None.ensures)
