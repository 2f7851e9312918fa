-- Words that are commands, and words that are none.
use Rattle.std.proofs.Common.{◌≡◌, [], ◌∷◌, Some, None, refl, codes}
use Rattle.clap.proofs.OnLiterals.{clap_on_literals}
use Rattle.jz_items.specs.declared.item.Item.TheVariants.{Number}
use Rattle.jasminc_words.specs.Wanted.{compile, exec, interp, leak, disasm, check, ct, gen, selfrun, wanted_command}

pub a_file : wanted_command (codes "jasminc" ∷ codes "compile" ∷ codes "a" ∷ []) ≡ Some (compile (codes "a"))
unfolding wanted_command clap_on_literals
a_file = refl

pub a_listing : wanted_command (codes "jasminc" ∷ codes "disasm" ∷ codes "a" ∷ []) ≡ Some (disasm (codes "a"))
unfolding wanted_command clap_on_literals
a_listing = refl

pub a_question : wanted_command (codes "jasminc" ∷ codes "check" ∷ codes "a" ∷ []) ≡ Some (check (codes "a"))
unfolding wanted_command clap_on_literals
a_question = refl

pub another_question : wanted_command (codes "jasminc" ∷ codes "ct" ∷ codes "a" ∷ []) ≡ Some (ct (codes "a"))
unfolding wanted_command clap_on_literals
another_question = refl

pub no_file : wanted_command (codes "jasminc" ∷ codes "compile" ∷ []) ≡ None
unfolding wanted_command clap_on_literals
no_file = refl

pub no_words : wanted_command [] ≡ None
unfolding wanted_command clap_on_literals
no_words = refl

pub a_run : wanted_command (codes "jasminc" ∷ codes "interp" ∷ codes "a" ∷ codes "f" ∷ codes "2" ∷ codes "0x0B" ∷ codes "--fuel" ∷ codes "5" ∷ [])
    ≡ Some (interp (record { file = codes "a"; fun = codes "f"; items = Number 2 ∷ Number 11 ∷ []; fuel = 5 }))
unfolding wanted_command clap_on_literals
a_run = refl

pub no_fuel : wanted_command (codes "jasminc" ∷ codes "exec" ∷ codes "a" ∷ codes "f" ∷ [])
    ≡ Some (exec (record { file = codes "a"; fun = codes "f"; items = []; fuel = 1000000 }))
unfolding wanted_command clap_on_literals
no_fuel = refl

pub a_leak : wanted_command (codes "jasminc" ∷ codes "leak" ∷ codes "a" ∷ codes "f" ∷ codes "2" ∷ codes "--fuel" ∷ codes "5" ∷ [])
    ≡ Some (leak (record { file = codes "a"; fun = codes "f"; items = Number 2 ∷ []; fuel = 5 }))
unfolding wanted_command clap_on_literals
a_leak = refl

pub a_program : wanted_command (codes "jasminc" ∷ codes "gen" ∷ codes "2147483647" ∷ codes "30000" ∷ []) ≡ Some (gen 2147483647 30000)
unfolding wanted_command clap_on_literals
a_program = refl

pub too_large_a_seed : wanted_command (codes "jasminc" ∷ codes "gen" ∷ codes "2147483648" ∷ codes "1" ∷ []) ≡ None
unfolding wanted_command clap_on_literals
too_large_a_seed = refl

pub too_large_a_size : wanted_command (codes "jasminc" ∷ codes "selfrun" ∷ codes "1" ∷ codes "30001" ∷ []) ≡ None
unfolding wanted_command clap_on_literals
too_large_a_size = refl

pub a_run_of_its_own : wanted_command (codes "jasminc" ∷ codes "selfrun" ∷ codes "1" ∷ codes "0x8" ∷ codes "--fuel" ∷ codes "7" ∷ []) ≡ Some (selfrun 1 8 7)
unfolding wanted_command clap_on_literals
a_run_of_its_own = refl
