-- The small loop as nodes, and that its lines become bytes.
use Rattle.std.proofs.Common.{◌≡◌, ◌^◌, ◌<◌, false, List, [], ◌∷◌, refl, sym, ap, ◌∙◌, subst, arith}
use Rattle.std.specs.Prelude.{Some}
use Rattle.x64_insn.specs.declared.types.Reg.TheVariants as reg
use Rattle.x64_insn.specs.declared.types.Cond.TheVariants as cond
use Rattle.x64_insn.specs.Chosen.{is_spelled}
use Rattle.jz_runs.specs.Trees.{done, op, loop}
use Rattle.jz_placing.specs.Instructions.{if_holds}
use Rattle.jz_place.specs.declared.placed.PlacedTest.TheVariants as test
use Rattle.jz_place.specs.declared.placed.PlacedNode.{PlacedNode}
use Rattle.jz_place.specs.declared.placed.PlacedNode.TheVariants.{Do, While}
use Rattle.jz_place.specs.Codes.{code_in}
use Rattle.jz_linear.specs.declared.line.Line.{Line}
use Rattle.jz_linear.specs.Plain.{IsPlain, IsPlainCode}
use Rattle.jz_linear.specs.Lines.{labels_in, linear_of}
use Rattle.jz_linear.specs.LineRuns.{Once}
use Rattle.jz_linear.proofs.NodeLines.{do_is, while_is}
use Rattle.jz_linear.proofs.Places.{linear_once}
use Rattle.x64_assemble.specs.Assembling.{AllSpelled, Named, total}
use Rattle.x64_assemble.proofs.Named.{linear_named}
use Rattle.x64_assemble.proofs.Short.{linear_short}
use Rattle.x64_assemble.proofs.Spellable.{linear_spelled}
use Rattle.jz_code_tests.specs.Loops.{add_one, compare, small_loop}

pub loop_is : (p b ns : List PlacedNode) → p ≡ Do (add_one reg.Rax) ∷ [] → b ≡ Do (add_one reg.Rdi) ∷ [] → ns ≡ While false p (test.If (Some compare) cond.B) b ∷ [] → code_in ns ≡ small_loop
loop_is p b ns ep eb en =
    ap code_in en ∙ while_is false p (test.If (Some compare) cond.B) b
    ∙ ap (λ x. loop false x (if_holds (Some compare) cond.B) (code_in b) done) (ap code_in ep ∙ do_is (add_one reg.Rax))
    ∙ ap (λ x. loop false (op (add_one reg.Rax) done) (if_holds (Some compare) cond.B) x done) (ap code_in eb ∙ do_is (add_one reg.Rdi))

plain_rax : IsPlain (add_one reg.Rax)
unfolding is_spelled
plain_rax = (refl, refl)

plain_rdi : IsPlain (add_one reg.Rdi)
unfolding is_spelled
plain_rdi = (refl, refl)

plain_compare : IsPlain compare
unfolding is_spelled
plain_compare = (refl, refl)

plain : IsPlainCode small_loop
plain = (plain_compare, tt, (plain_rax, tt), (plain_rdi, tt), tt)

pub few : (ns : List PlacedNode) → code_in ns ≡ small_loop → labels_in (code_in ns) < 2 ^ 32
few ns is = let e : labels_in (code_in ns) ≡ 2 = ap labels_in is in omega (arith, e)

module _ (ns : List PlacedNode) (ls : List Line) (is : code_in ns ≡ small_loop) (lines : ls ≡ linear_of (code_in ns)) where
  same : ls ≡ linear_of small_loop
  same = lines ∙ ap linear_of is

  pub once : Once ls
  once = subst Once (sym same) (linear_once small_loop)

  pub named : Named ls ls
  named = subst (λ l. Named l l) (sym same) (linear_named small_loop)

  pub spelled : AllSpelled ls
  spelled = subst AllSpelled (sym same) (linear_spelled small_loop plain)

  pub short : total ls < 2 ^ 31
  short = let h = linear_short small_loop plain in subst (λ l. total l < 2 ^ 31) (sym same) (omega (arith, h))
