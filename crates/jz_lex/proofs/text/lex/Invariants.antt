use Rattle.std.proofs.Common.{◌≤◌, ◌+◌, length}
use Rattle.jz_lex.proofs.Lexing.{Until}
use Rattle.jz_lex.proofs.text.lex.Given as goal

abbrev pub invariant-loop-rest : goal.invariant-loop-rest
invariant-loop-rest l = Until l.fn.text l.tokens l.span l.rest × (l.span.line + length l.rest ≤ 1 + length l.fn.text) × (l.span.col + length l.rest ≤ 1 + length l.fn.text)

abbrev pub decreases-loop-rest : goal.decreases-loop-rest
decreases-loop-rest l = length l.rest
