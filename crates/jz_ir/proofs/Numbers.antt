-- The numbers of places.
use Rattle.std.specs.Prelude.{ℕ, ◌==◌, if◌then◌else◌}
use Rattle.std.proofs.Common.{◌≡◌, refl, sym, ap, ◌∙◌}
use Rattle.x64_insn.specs.declared.types.Place.{Place}
use Rattle.x64_insn.specs.declared.types.Place.TheVariants as place
use Rattle.x64_insn.specs.declared.types.Reg.TheVariants as reg
use Rattle.x64_insn.specs.declared.types.Flag.TheVariants as flag
use Rattle.jz_ir.specs.Order.{number_of}

abbrev back : ℕ → Place
back n =
    if n == 0 then place.Reg reg.Rax
    else if n == 1 then place.Reg reg.Rcx
    else if n == 2 then place.Reg reg.Rdx
    else if n == 3 then place.Reg reg.Rbx
    else if n == 4 then place.Reg reg.Rbp
    else if n == 5 then place.Reg reg.Rsi
    else if n == 6 then place.Reg reg.Rdi
    else if n == 7 then place.Reg reg.R8
    else if n == 8 then place.Reg reg.R9
    else if n == 9 then place.Reg reg.R10
    else if n == 10 then place.Reg reg.R11
    else if n == 11 then place.Reg reg.R12
    else if n == 12 then place.Reg reg.R13
    else if n == 13 then place.Reg reg.R14
    else if n == 14 then place.Reg reg.R15
    else if n == 15 then place.Flag flag.Cf
    else if n == 16 then place.Flag flag.Of
    else if n == 17 then place.Flag flag.Sf
    else if n == 18 then place.Flag flag.Pf
    else if n == 19 then place.Flag flag.Zf
    else place.Reg reg.Rsp

back_again : (p : Place) → back (number_of p) ≡ p
back_again (place.Reg reg.Rax) = refl
back_again (place.Reg reg.Rcx) = refl
back_again (place.Reg reg.Rdx) = refl
back_again (place.Reg reg.Rbx) = refl
back_again (place.Reg reg.Rbp) = refl
back_again (place.Reg reg.Rsi) = refl
back_again (place.Reg reg.Rdi) = refl
back_again (place.Reg reg.R8) = refl
back_again (place.Reg reg.R9) = refl
back_again (place.Reg reg.R10) = refl
back_again (place.Reg reg.R11) = refl
back_again (place.Reg reg.R12) = refl
back_again (place.Reg reg.R13) = refl
back_again (place.Reg reg.R14) = refl
back_again (place.Reg reg.R15) = refl
back_again (place.Flag flag.Cf) = refl
back_again (place.Flag flag.Of) = refl
back_again (place.Flag flag.Sf) = refl
back_again (place.Flag flag.Pf) = refl
back_again (place.Flag flag.Zf) = refl
back_again (place.Reg reg.Rsp) = refl

pub one_place : (p q : Place) → number_of p ≡ number_of q → p ≡ q
one_place p q e = sym (back_again p) ∙ ap back e ∙ back_again q
