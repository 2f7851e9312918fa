use Rattle.jz_drawn_labels.proofs.Operated.{next_of}
use Rattle.jz_breaches.proofs.Answered.{entry_drawn, edges_below, some_label, answered}
use Rattle.jz_breaches.proofs.breach.first_breach.Goals as goal

pub draw_block-requires : goal.draw_block-requires
draw_block-requires c = entry_drawn c.args.params.now c.args.body.now c.in_ok-drawing.drawing c.in_ok-drawing.drawing c.in_ok-drawing.ensures.floor c.in_ok-drawing.ensures.view

pub secrets_of-requires-clause-below : goal.secrets_of-requires-clause-below
secrets_of-requires-clause-below c =
    let e = c.draw_block.new.drawing in
    edges_below c.args.params.now c.args.body.now c.in_ok-drawing.drawing e c.in_ok-drawing.ensures.floor c.in_ok-drawing.ensures.view c.in_ok-draw_block.ensures c.next-count.result c.as_slice.result.now (next_of e c.next-count.result c.next-count.ensures)
    c.as_slice.ensures.value

pub secrets_of-requires-clause-some : goal.secrets_of-requires-clause-some
secrets_of-requires-clause-some c =
    let e = c.draw_block.new.drawing in
    some_label c.args.params.now c.args.body.now c.in_ok-drawing.drawing e c.in_ok-drawing.ensures.floor c.in_ok-drawing.ensures.view c.in_ok-draw_block.ensures c.next-count.result c.as_slice.result.now (next_of e c.next-count.result c.next-count.ensures)
    c.as_slice.ensures.value

pub returns : goal.returns
returns c =
    let e = c.draw_block.new.drawing in
    answered c.args.params.now c.args.body.now c.in_ok-drawing.drawing e c.in_ok-drawing.ensures.floor c.in_ok-drawing.ensures.view c.in_ok-draw_block.ensures c.next-count.result c.as_slice.result.now (next_of e c.next-count.result c.next-count.ensures)
    c.as_slice.ensures.value c.in_ok-secrets.secrets c.as_slice-2.result.now c.first_asked.result c.in_ok-secrets.ensures c.as_slice-2.ensures.value c.first_asked.ensures
