use Rattle.std.proofs.Common.{sym, subst}
use Rattle.std.specs.Prelude.{All, IsTrue, ◌↔◌, true}
use Rattle.jz_encodable.specs.Encodable.{CanEncode}
use Rattle.jz_rows.specs.Rows.{actions_in}
use Rattle.jz_pinned_rows.proofs.PartLemmas.{none_encode, one_encodes}
use Rattle.jz_pinned_rows.proofs.parts.can_encode_if.Goals as goal

pub returns-in-None : goal.returns-in-None
returns-in-None c = subst (λ o. IsTrue true ↔ All CanEncode (actions_in o)) (sym c.in-None.is) none_encode

pub returns-in-Some : goal.returns-in-Some
returns-in-Some c = subst (λ o. IsTrue c.can_encode.result ↔ All CanEncode (actions_in o)) (sym c.in-Some.is) (one_encodes c.in-Some.act.action c.can_encode.result c.can_encode.ensures)
