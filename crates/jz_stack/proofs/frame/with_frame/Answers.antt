use Rattle.jz_stack.proofs.SavedAll.{named_all}
use Rattle.jz_stack.proofs.frame.with_frame.Goals as goal

pub returns-clause-named : goal.returns-clause-named
returns-clause-named c =
    named_all c.frame_size-size.result c.slots_at.result c.in_ok-saved.saved c.as_slice-2.result.now c.args.body c.in_ok-code.code c.in_ok-saved.ensures.is c.as_slice-2.ensures c.in_ok-code.ensures
