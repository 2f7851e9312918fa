use Rattle.std.proofs.Common.{◌≡◌, ◌∙◌, ◌+◌, ◌≤◌, length, ap, sym, subst, arith}
use Rattle.jz_inline.specs.Names.{Names}
use Rattle.jz_inline.specs.Functions.{own_names}
use Rattle.jz_inline.specs.Statements.{CopiedFuns, body_piece, copied_funs}
use Rattle.jz_inlining.specs.InnerCopies.{IsCopied}
use Rattle.jz_frames.proofs.Bounds.{pieces_few}
use Rattle.jz_inlining.proofs.inlining.copy_statements.Goals as goal

pub copy_body-requires : goal.copy_body-requires
copy_body-requires c =
    let p = c.args.program.now in
    let f = c.args.fun.now in
    let same : copied_funs c.in_ok-callable.callable.funs.now c.len-left.result ≡ copied_funs p.funs (length p.funs) =
    ap (copied_funs c.in_ok-callable.callable.funs.now) c.len-left.ensures ∙ ap (λ fs. copied_funs fs (length fs)) c.in_ok-callable.ensures in
    let few = pieces_few p f in
    record { few = subst (λ (z : CopiedFuns). 1 + (body_piece z f.body).copies ≤ 65537) (sym same) (omega (arith, few, c.requires.few)) }

pub returns : goal.returns
returns c =
    let p = c.args.program.now in
    let f = c.args.fun.now in
    let same : copied_funs c.in_ok-callable.callable.funs.now c.len-left.result ≡ copied_funs p.funs (length p.funs) =
    ap (copied_funs c.in_ok-callable.callable.funs.now) c.len-left.ensures ∙ ap (λ fs. copied_funs fs (length fs)) c.in_ok-callable.ensures in
    subst (λ (z : CopiedFuns). IsCopied (body_piece z f.body) own_names 1 c.in_ok-body.body) same
    (subst (λ (n : Names). IsCopied (body_piece (copied_funs c.in_ok-callable.callable.funs.now c.len-left.result) f.body) n 1 c.in_ok-body.body) c.own-names.ensures c.in_ok-body.ensures)
