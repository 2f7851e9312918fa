-- The regions of a function as lines.
use Rattle.std.specs.Prelude.{ℕ, List, map}
use Rattle.std.specs.List.{concat}
use Rattle.jz_tree.specs.Memory.{Memory}
use Rattle.jz_tree.specs.declared.program.Fun.{Fun}
use Rattle.jz_annotations.specs.declared.precondition.Pre.{Pre}
use Rattle.jz_annotations.specs.declared.precondition.Pre.TheVariants as pre
use Rattle.jz_preconditions.specs.Stating.{preconditions_of}
use Rattle.jz_preconditions.specs.Meeting.{names_of, region_of}
use Rattle.jz_inputs.specs.Inputs.{bytes_in}
use Rattle.jasminc_lines.specs.Preconditions.{region_line}

-- the parameter that a precondition names first
abbrev pub pointer_of : Pre → List ℕ
pointer_of (pre.Region p factor v constant) = p
pointer_of (pre.Range x low high) = x
pointer_of (pre.Align p multiple) = p

-- the region that a precondition declares for argument words, with its bytes
abbrev pub region_text : Fun → List ℕ → Memory → Pre → List ℕ
region_text f words m p =
    concat (map (λ r. region_line (pointer_of p) (bytes_in m r)) (region_of (names_of f) words p))

-- all regions of a function, in the order of its text
abbrev pub regions_text : Fun → List ℕ → Memory → List ℕ
regions_text f words m = concat (map (region_text f words m) (preconditions_of f))
