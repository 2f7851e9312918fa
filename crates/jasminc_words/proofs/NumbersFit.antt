-- The numbers of a command are words of 64 bits.
use Rattle.std.proofs.Common.{◌≡◌, ℕ, ◌<◌, ◌≤◌, ◌^◌, arith, Bool, true, false, if◌then◌else◌, List, [], ◌∷◌, codes, Option, Some, None, refl, subst, lit<}
use Rattle.std.specs.Prelude.{nat_le, unwrap_or}
use Rattle.std.specs.Option.{option_and_then, option_map}
use Rattle.std.proofs.lemmas.Bool.Decides.{nat_tests}
use Rattle.std.specs.Str.{bytes_eq}
use Rattle.clap.specs.Words.{Row, Text, first_of, all_of, fault_of, subcommand_of}
use Rattle.jasminc_words.specs.Commands.{jasminc_app}
use Rattle.jz_items.specs.declared.item.Item.{Item}
use Rattle.jz_items.specs.Items.{items_of, ItemsFit, AreItems}
use Rattle.jz_items.specs.Numbers.{number_of_word}
use Rattle.jz_items.proofs.Fitting.{word_fits, items_fit}
use Rattle.jasminc_words.specs.Wanted.{Called, Wanted, compile, exec, interp, leak, disasm, check, ct, gen, selfrun, HasFit, HasNumbers, number_or, fuel_in, items_in, call_of, call_in, most_seed, most_size, up_to, number_up_to, seed_in, size_in, gen_of, gen_in, selfrun_of, selfrun_in, named_program, wanted_in, none_or, wanted_command}

fuel_fits : (o : Option Text) (n : ℕ) → number_or 1000000 o ≡ Some n → n < 2 ^ 64
fuel_fits None n e = let same : 1000000 ≡ n = cc in subst (λ k. k < 2 ^ 64) same (lit< tt)
fuel_fits (Some word) n e = word_fits word n e

-- ---- a run
called_fits : (file fun : Option Text) (fuel : Option ℕ) (items : Option (List Item)) (call : Called) → call_of file fun fuel items ≡ Some call
    → ((n : ℕ) → fuel ≡ Some n → n < 2 ^ 64) → ((ns : List Item) → items ≡ Some ns → AreItems ns × ItemsFit ns) → HasFit call
called_fits None fun fuel items call e h k = cc
called_fits (Some file) None fuel items call e h k = cc
called_fits (Some file) (Some fun) None items call e h k = cc
called_fits (Some file) (Some fun) (Some n) None call e h k = cc
called_fits (Some file) (Some fun) (Some n) (Some ns) call e h k =
    let made : Called = record { file = file; fun = fun; items = ns; fuel = n } in
    let same : made ≡ call = cc in
    let given = k ns refl in
    let fits : HasFit made = (given.0, given.1, h n refl) in
    subst HasFit same fits

some_items : (words : List Text) (ns : List Item) → items_of words ≡ Some ns → AreItems ns × ItemsFit ns
some_items words ns e = ((words, e), items_fit words ns e)

call_fits : (rows : List Row) (call : Called) → call_in rows ≡ Some call → HasFit call
call_fits rows call e =
    called_fits (first_of (codes "FILE") rows) (first_of (codes "FUN") rows) (fuel_in rows) (items_in rows) call e
    (fuel_fits (first_of (codes "fuel") rows)) (some_items (unwrap_or (all_of (codes "ITEM") rows) []))

-- ---- a command
compile_fits : (file : Option Text) (wish : Wanted) → option_map compile file ≡ Some wish → HasNumbers wish
compile_fits None wish e = cc
compile_fits (Some file) wish e = let same : compile file ≡ wish = cc in subst HasNumbers same tt

exec_fits : (o : Option Called) (wish : Wanted) → option_map exec o ≡ Some wish → ((call : Called) → o ≡ Some call → HasFit call) → HasNumbers wish
exec_fits None wish e h = cc
exec_fits (Some call) wish e h = let same : exec call ≡ wish = cc in subst HasNumbers same (h call refl)

interp_fits : (o : Option Called) (wish : Wanted) → option_map interp o ≡ Some wish → ((call : Called) → o ≡ Some call → HasFit call) → HasNumbers wish
interp_fits None wish e h = cc
interp_fits (Some call) wish e h = let same : interp call ≡ wish = cc in subst HasNumbers same (h call refl)

leak_fits : (o : Option Called) (wish : Wanted) → option_map leak o ≡ Some wish → ((call : Called) → o ≡ Some call → HasFit call) → HasNumbers wish
leak_fits None wish e h = cc
leak_fits (Some call) wish e h = let same : leak call ≡ wish = cc in subst HasNumbers same (h call refl)

disasm_fits : (file : Option Text) (wish : Wanted) → option_map disasm file ≡ Some wish → HasNumbers wish
disasm_fits None wish e = cc
disasm_fits (Some file) wish e = let same : disasm file ≡ wish = cc in subst HasNumbers same tt

check_fits : (file : Option Text) (wish : Wanted) → option_map check file ≡ Some wish → HasNumbers wish
check_fits None wish e = cc
check_fits (Some file) wish e = let same : check file ≡ wish = cc in subst HasNumbers same tt

ct_fits : (file : Option Text) (wish : Wanted) → option_map ct file ≡ Some wish → HasNumbers wish
ct_fits None wish e = cc
ct_fits (Some file) wish e = let same : ct file ≡ wish = cc in subst HasNumbers same tt

-- ---- a program from a number
small : (most n k : ℕ) → up_to most n ≡ Some k → k ≤ most
small most n k e = by (nat_le n most) refl e
  where
    by : (b : Bool) → nat_le n most ≡ b → (if b then Some n else None) ≡ Some k → k ≤ most
    by true le h = let same : n ≡ k = cc in subst (λ i. i ≤ most) same (grind (arith, nat_tests, le))
    by false le h = cc

word_small : (most : ℕ) (o : Option ℕ) (k : ℕ) → option_and_then (up_to most) o ≡ Some k → k ≤ most
word_small most None k e = cc
word_small most (Some n) k e = small most n k e

value_small : (most : ℕ) (o : Option Text) (k : ℕ) → option_and_then (number_up_to most) o ≡ Some k → k ≤ most
value_small most None k e = cc
value_small most (Some word) k e = word_small most (number_of_word word) k e

gen_fits : (seed size : Option ℕ) (wish : Wanted) → gen_of seed size ≡ Some wish → ((n : ℕ) → seed ≡ Some n → n ≤ most_seed) → ((n : ℕ) → size ≡ Some n → n ≤ most_size) → HasNumbers wish
gen_fits None size wish e h k = cc
gen_fits (Some a) None wish e h k = cc
gen_fits (Some a) (Some b) wish e h k = let same : gen a b ≡ wish = cc in subst HasNumbers same (h a refl, k b refl)

selfrun_fits : (seed size fuel : Option ℕ) (wish : Wanted) → selfrun_of seed size fuel ≡ Some wish → ((n : ℕ) → seed ≡ Some n → n ≤ most_seed) → ((n : ℕ) → size ≡ Some n → n ≤ most_size)
    → ((n : ℕ) → fuel ≡ Some n → n < 2 ^ 64) → HasNumbers wish
selfrun_fits None size fuel wish e h k l = cc
selfrun_fits (Some a) None fuel wish e h k l = cc
selfrun_fits (Some a) (Some b) None wish e h k l = cc
selfrun_fits (Some a) (Some b) (Some n) wish e h k l = let same : selfrun a b n ≡ wish = cc in subst HasNumbers same (h a refl, k b refl, l n refl)

program_fits : (name : Text) (rows : List Row) (wish : Wanted) → named_program name rows ≡ Some wish → HasNumbers wish
program_fits name rows wish e = by (bytes_eq name (codes "gen")) (bytes_eq name (codes "selfrun")) e
  where
    by : (a b : Bool) → (if a then gen_in rows else (if b then selfrun_in rows else None)) ≡ Some wish → HasNumbers wish
    by true b h = gen_fits (seed_in rows) (size_in rows) wish h (value_small most_seed (first_of (codes "SEED") rows)) (value_small most_size (first_of (codes "SIZE") rows))
    by false true h =
        selfrun_fits (seed_in rows) (size_in rows) (fuel_in rows) wish h (value_small most_seed (first_of (codes "SEED") rows))
        (value_small most_size (first_of (codes "SIZE") rows)) (fuel_fits (first_of (codes "fuel") rows))
    by false false h = cc

-- ---- by the name
-- the commands that read a file and call nothing, or another one
by_question : (f g k : Bool) (file : Option Text) (other : Option Wanted) (wish : Wanted)
    → (if f then option_map disasm file else (if g then option_map check file else (if k then option_map ct file else other))) ≡ Some wish
    → (other ≡ Some wish → HasNumbers wish) → HasNumbers wish
by_question true g k file other wish e fits = disasm_fits file wish e
by_question false true k file other wish e fits = check_fits file wish e
by_question false false true file other wish e fits = ct_fits file wish e
by_question false false false file other wish e fits = fits e

by_name : (a b d l f g k : Bool) (file : Option Text) (o : Option Called) (other : Option Wanted) (wish : Wanted)
    → (if a then option_map compile file else (if b then option_map exec o else (if d then option_map interp o else (if l then option_map leak o
    else (if f then option_map disasm file else (if g then option_map check file else (if k then option_map ct file else other))))))) ≡ Some wish
    → ((call : Called) → o ≡ Some call → HasFit call) → (other ≡ Some wish → HasNumbers wish) → HasNumbers wish
by_name true b d l f g k file o other wish e h fits = compile_fits file wish e
by_name false true d l f g k file o other wish e h fits = exec_fits o wish e h
by_name false false true l f g k file o other wish e h fits = interp_fits o wish e h
by_name false false false true f g k file o other wish e h fits = leak_fits o wish e h
by_name false false false false f g k file o other wish e h fits = by_question f g k file other wish e fits

rows_fit : (rows : Option (Text × List Row)) (wish : Wanted) → wanted_in rows ≡ Some wish → HasNumbers wish
rows_fit None wish e = cc
rows_fit (Some p) wish e =
    by_name (bytes_eq p.0 (codes "compile")) (bytes_eq p.0 (codes "exec")) (bytes_eq p.0 (codes "interp")) (bytes_eq p.0 (codes "leak")) (bytes_eq p.0 (codes "disasm")) (bytes_eq p.0 (codes "check")) (bytes_eq p.0 (codes "ct")) (first_of (codes "FILE") p.1) (call_in p.1) (named_program p.0 p.1) wish e
    (λ call h. call_fits p.1 call h) (program_fits p.0 p.1 wish)

no_faults : {X : Type 0} (faults : List X) (o : Option Wanted) (wish : Wanted) → none_or faults o ≡ Some wish → o ≡ Some wish
no_faults [] o wish e = e
no_faults (x ∷ xs) o wish e = cc

pub words_fit : (words : List (List ℕ)) (wish : Wanted) → wanted_command words ≡ Some wish → HasNumbers wish
unfolding wanted_command
words_fit words wish e =
    rows_fit (subcommand_of jasminc_app words) wish (no_faults (fault_of jasminc_app words) (wanted_in (subcommand_of jasminc_app words)) wish e)
