use Rattle.std.proofs.Common.{◌≡◌, ◌≤◌, ◌+◌, drop}
use Rattle.jz_lex.specs.Lexing.{after}
use Rattle.jz_lex.proofs.text.after.Given as goal

abbrev pub invariant-loop-byte : goal.invariant-loop-byte
invariant-loop-byte l = (after (record { line = l.line; col = l.col }) (drop l.byte-index l.bytes) ≡ after l.fn.start l.bytes) × (l.line ≤ l.fn.start.line + l.byte-index) × (l.col ≤ l.fn.start.col + l.byte-index)
