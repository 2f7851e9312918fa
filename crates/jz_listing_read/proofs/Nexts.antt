-- A line that may not come, by its text.
use Rattle.std.proofs.Common.{◌≡◌, ℕ, List, None, sym, ap, ◌∙◌}
use Rattle.jz_listing_lines.specs.declared.line.Line.{Line}
use Rattle.jz_listing_lines.specs.Lines.{line_text, IsLine}
use Rattle.jz_listing_lines.proofs.LineLaws.{one_line}
use Rattle.jz_listing_read.specs.declared.state.State.{State}
use Rattle.jz_listing_read.specs.InnerStates.{take}
use Rattle.jz_listing_read.specs.InnerLines.{NoNext}

pub no_next : (s : State) (bytes : List ℕ) (l : Line) → IsLine l → line_text l ≡ bytes → take s l ≡ None → NoNext s bytes
no_next s bytes l h e n = λ m k f. ap (take s) (one_line m l k h (f ∙ sym e)) ∙ n
