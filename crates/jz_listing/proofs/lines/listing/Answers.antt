use Rattle.std.proofs.Common.{arith, refl}
use Rattle.std.specs.Prelude.{codes}
use Rattle.jz_text.proofs.NextLines.{next_line}
use Rattle.jz_listing.specs.Listing.{compiled_text}
use Rattle.jz_listing.proofs.lines.listing.Goals as goal

pub loop-fun-preserved : goal.loop-fun-preserved
loop-fun-preserved c =
    next_line compiled_text c.args.funs.now c.args.funs.now c.loop-fun.fun-index c.fun-item.result c.fun-item.result (codes "jasmin-listing 1\n")
    c.loop-fun.text.items c.write_function.new.text.items refl (omega arith) c.loop-fun.invariant
    c.in_ok-write_function.ensures c.fun-item.is
