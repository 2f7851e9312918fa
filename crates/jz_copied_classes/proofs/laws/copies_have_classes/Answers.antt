use Rattle.jz_copied_classes.proofs.Copied.{copies_keep_classes, copies_stay_rowed}
use Rattle.jz_copied_classes.proofs.Copies.{copies_have_classes}
use Rattle.jz_copied_classes.proofs.laws.copies_have_classes.Goals as goal

pub returns-clause-kept : goal.returns-clause-kept
returns-clause-kept c = copies_keep_classes

pub returns-clause-stay : goal.returns-clause-stay
returns-clause-stay c = copies_stay_rowed

pub returns-clause-all : goal.returns-clause-all
returns-clause-all c = copies_have_classes
