use Rattle.std.proofs.Common.{◌≡◌, ◌≤◌, List, length, ap, ◌∙◌, arith}
use Rattle.jz_tree.specs.declared.program.Fun.{Fun}
use Rattle.jz_frames.specs.Frames.{copies_in}
use Rattle.jz_frames.proofs.Bounds.{pieces_few}
use Rattle.jz_frames.proofs.frame.frame_vars.Goals as goal

pub push_frame-requires : goal.push_frame-requires
push_frame-requires c =
    let fs : List Fun = c.args.program.now.funs in
    let f : Fun = c.args.fun.now in
    let same : copies_in c.in_ok-callable.callable.funs.now c.len-left.result f ≡ copies_in fs (length fs) f =
    ap (λ n. copies_in c.in_ok-callable.callable.funs.now n f) c.len-left.ensures
    ∙ ap (λ gs. copies_in gs (length gs) f) c.in_ok-callable.ensures in
    let few : copies_in fs (length fs) f ≤ 65536 = (let x = pieces_few c.args.program.now f in omega (arith, x, c.requires.few)) in
    record { few = omega (arith, same, few) }
