-- What commands read.
use Rattle.std.specs.Prelude.{ℕ, List}
use Rattle.jasminc_words.specs.declared.inputs.Input.{Input}
use Rattle.jasminc_words.specs.declared.inputs.Input.TheVariants as input
use Rattle.jasminc_words.specs.Wanted.{Wanted, compile, exec, interp, leak, disasm, check, ct}
use Rattle.jasminc_words.specs.Wanted.{gen, selfrun}

-- a file, by its name, or the program of a seed and a size
pub data Origin : Type 0 where
  of_file : List ℕ → Origin
  of_seed : ℕ → ℕ → Origin

abbrev pub input_of : Input → Origin
input_of (input.File name) = of_file name.now
input_of (input.Program seed size) = of_seed seed size

abbrev pub origin_of : Wanted → Origin
origin_of (compile name) = of_file name
origin_of (exec call) = of_file call.file
origin_of (interp call) = of_file call.file
origin_of (leak call) = of_file call.file
origin_of (disasm name) = of_file name
origin_of (check name) = of_file name
origin_of (ct name) = of_file name
origin_of (gen seed size) = of_seed seed size
origin_of (selfrun seed size fuel) = of_seed seed size
