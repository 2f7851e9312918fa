use Rattle.std.proofs.Common.{sym, subst}
use Rattle.std.specs.Prelude.{IsTrue, ◌↔◌, All}
use Rattle.jz_encodable.specs.Encodable.{CanEncode}
use Rattle.jz_rows.specs.Rows.{actions_in}
use Rattle.jz_pinned_rows.specs.Rows.{actions_of}
use Rattle.jz_pinned_rows.proofs.PartLemmas.{three_encode}
use Rattle.jz_pinned_rows.proofs.parts.can_encode_all.Goals as goal

pub returns : goal.returns
returns c =
    subst (λ b. IsTrue b ↔ All CanEncode (actions_of c.args.acts)) (sym c.all_three.ensures)
    (three_encode (actions_in c.args.acts.before) (actions_in c.args.acts.between) c.args.acts.last.action c.can_encode_if-before.result c.can_encode_if-between.result c.can_encode-last.result c.can_encode_if-before.ensures c.can_encode_if-between.ensures c.can_encode-last.ensures)
