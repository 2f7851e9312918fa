-- The lines of a body become bytes, and have as many instructions.
use Rattle.std.proofs.Common.{◌≡◌, ℕ, ◌^◌, ◌<◌, List, length, sym, ap, ◌∙◌, subst}
use Rattle.std.proofs.lemmas.List.{length-map}
use Rattle.jz_placing.specs.Instructions.{Code}
use Rattle.jz_linear.specs.declared.line.Line.{Line}
use Rattle.jz_linear.specs.Plain.{IsPlainCode}
use Rattle.jz_linear.specs.Lines.{linear_of}
use Rattle.jz_linear.specs.LineRuns.{instructions_in, place_of, Once}
use Rattle.jz_linear.proofs.Places.{linear_once}
use Rattle.x64_assemble.specs.Assembling.{wide_line, all_wide, target_in, AllSpelled, Named, total, insns_of_lines, bytes_of_lines}
use Rattle.x64_assemble.proofs.Named.{linear_named}
use Rattle.x64_assemble.proofs.Spellable.{linear_spelled, insns_counted}

pub line_count : (ls : List Line) → length (insns_of_lines ls) ≡ length (instructions_in ls)
line_count ls = insns_counted (target_in (all_wide ls) (place_of ls)) 0 (all_wide ls) ∙ length-map (instructions_in ls) wide_line

module _ (t : Code) (ls : List Line) (is : ls ≡ linear_of t) where
  pub lines_once : Once ls
  lines_once = subst Once (sym is) (linear_once t)

  pub lines_named : Named ls ls
  lines_named = subst (λ l. Named l l) (sym is) (linear_named t)

  pub lines_spelled : IsPlainCode t → AllSpelled ls
  lines_spelled ok = subst AllSpelled (sym is) (linear_spelled t ok)

  pub lines_short : total (linear_of t) < 2 ^ 31 → total ls < 2 ^ 31
  lines_short lt = subst (λ l. total l < 2 ^ 31) (sym is) lt

  pub lines_bytes : (bs : List ℕ) → bs ≡ bytes_of_lines ls → bs ≡ bytes_of_lines (linear_of t)
  lines_bytes bs e = e ∙ ap bytes_of_lines is

  pub lines_counted : (n : ℕ) (xs : List Line) → xs ≡ ls → n ≡ length (instructions_in xs) → n ≡ length (insns_of_lines (linear_of t))
  lines_counted n xs e c = c ∙ ap (λ l. length (instructions_in l)) (e ∙ is) ∙ sym (line_count (linear_of t))
