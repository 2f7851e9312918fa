use Rattle.std.proofs.Common.{◌≡◌, true, sym, ◌∙◌, arith}
use Rattle.jz_tree.specs.declared.expr.Expr.TheVariants.{Bin}
use Rattle.jz_meaning.specs.Values.{gives_word}
use Rattle.jz_meaning.proofs.LeftSideLemmas.{found_behind, bin_within}
use Rattle.jz_meaning.proofs.left.+sizes.Goals as goal

pub own_size-loop-rest-preserved : goal.own_size-loop-rest-preserved
own_size-loop-rest-preserved t c =
    let rest = c.loop-rest.rest.now in
    let whole : Bin c.in-Bin.op c.get-rest.result.now c.get.result.now c.in-Bin.field-3 ≡ rest = rw (c.get-rest.ensures, c.get.ensures) (sym c.in-Bin.is) in
    let word : gives_word c.in-Bin.op ≡ true = sym c.gives_word.ensures ∙ c.if-not-gives_word.false in
    let within = bin_within _ rest c.in-Bin.op c.get-rest.result.now c.get.result.now c.in-Bin.field-3 whole c.loop-rest.invariant.1 in
    (found_behind c.in-Bin.op c.get-rest.result.now c.get.result.now rest c.in-Bin.field-3 c.loop-rest.found c.size_behind-found.result _ whole word c.size_behind-found.ensures c.loop-rest.invariant.0, omega (arith, within.0))
