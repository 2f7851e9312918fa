use Rattle.std.proofs.Common.{◌≡◌, ◌++◌, ◌∷◌, [], sym, ap, subst, arith, length, length-append}
use Rattle.jz_lex.specs.LexingWords.{kind_of_word}
use Rattle.jz_lex.proofs.LexingFront.{split_is}
use Rattle.jz_lex.proofs.Lexing.{Until, skipped_step, lexeme_here, lexeme_step, lexeme_length}
use Rattle.jz_lex.proofs.text.lex.Goals as goal

pub loop-rest-preserved-in-Skipped : goal.loop-rest-preserved-in-Skipped
loop-rest-preserved-in-Skipped c =
    let w = c.split_at.result.0.now in
    let more = c.split_at.result.1.now in
    let e = split_is c.in-Skipped.length c.loop-rest.rest.now w more c.split_at.ensures.front c.split_at.ensures.back in
    let u = skipped_step c.args.text.now c.loop-rest.tokens c.loop-rest.span c.loop-rest.rest.now w more c.in-Skipped.length c.loop-rest.invariant.0 c.in-Skipped.ensures e c.split_at.ensures.front_len in
    let n : length c.loop-rest.rest.now ≡ length (w ++ more) = ap length e in
    let m = length-append w more in (
      subst (λ z. Until c.args.text.now c.loop-rest.tokens z more) (sym c.after-span.ensures.value) u,
      omega (arith, n, m, c.after-span.ensures.line, c.loop-rest.invariant.1),
      omega (arith, n, m, c.after-span.ensures.col, c.loop-rest.invariant.2),
    )

pub loop-rest-smaller : goal.loop-rest-smaller
loop-rest-smaller c =
    omega (arith, lexeme_length c.loop-rest.rest.now c.in-Lexeme.shape c.in-Lexeme.length c.in-Lexeme.ensures, c.split_at-in-Lexeme.ensures.back_len)

pub loop-rest-preserved : goal.loop-rest-preserved
loop-rest-preserved c =
    let w = c.split_at-in-Lexeme.result.0.now in
    let more = c.split_at-in-Lexeme.result.1.now in
    let e = split_is c.in-Lexeme.length c.loop-rest.rest.now w more c.split_at-in-Lexeme.ensures.front c.split_at-in-Lexeme.ensures.back in
    let u = lexeme_step c.args.text.now c.loop-rest.tokens c.loop-rest.span c.loop-rest.rest.now w more c.in-Lexeme.shape c.in-Lexeme.length c.loop-rest.invariant.0 c.in-Lexeme.ensures e c.split_at-in-Lexeme.ensures.front_len in
    let n : length c.loop-rest.rest.now ≡ length (w ++ more) = ap length e in
    let m = length-append w more in
    let k : c.in_ok-kind-in-Lexeme.kind ≡ kind_of_word w = c.in_ok-kind-in-Lexeme.ensures in (
      subst (λ z. Until c.args.text.now z c.after-span-in-Lexeme.result more) (sym c.in_ok-push-in-Lexeme.ensures.ok)
          (subst (λ z. Until c.args.text.now (c.loop-rest.tokens ++ record { kind = z; span = c.loop-rest.span } ∷ []) c.after-span-in-Lexeme.result more) (sym k)
          (subst (λ z. Until c.args.text.now (c.loop-rest.tokens ++ record { kind = kind_of_word w; span = c.loop-rest.span } ∷ []) z more) (sym c.after-span-in-Lexeme.ensures.value) u)),
      omega (arith, n, m, c.after-span-in-Lexeme.ensures.line, c.loop-rest.invariant.1),
      omega (arith, n, m, c.after-span-in-Lexeme.ensures.col, c.loop-rest.invariant.2),
    )

pub kind_of-requires-clause-lexeme : goal.kind_of-requires-clause-lexeme
kind_of-requires-clause-lexeme c =
    let rest = c.loop-rest.rest.now in
    let w = c.split_at-in-Lexeme.result.0.now in
    let more = c.split_at-in-Lexeme.result.1.now in
    let e = split_is c.in-Lexeme.length rest w more c.split_at-in-Lexeme.ensures.front c.split_at-in-Lexeme.ensures.back in
    (lexeme_here rest w more c.in-Lexeme.shape c.in-Lexeme.length c.in-Lexeme.ensures e c.split_at-in-Lexeme.ensures.front_len).0
