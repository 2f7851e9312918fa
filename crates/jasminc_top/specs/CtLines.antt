-- The lines that tell why functions of a text are not constant time, without their line feeds.
use Rattle.std.specs.Prelude.{List, ℕ}
use Rattle.jasminc_ct.specs.declared.refused.Refused.{Refused}
use Rattle.jasminc_ct.specs.declared.refused.Refused.TheVariants as refused
use Rattle.jasminc_ct.specs.BreachLines.{breach_line}
use Rattle.jasminc_top.specs.InterpLines.{unread_text, limit_text}

abbrev pub breached_text : Refused → List ℕ
breached_text (refused.Unread u) = unread_text u
breached_text (refused.Limit l) = limit_text l
breached_text (refused.Breach b) = breach_line b
