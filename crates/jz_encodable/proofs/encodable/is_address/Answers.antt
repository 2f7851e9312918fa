use Rattle.std.proofs.Common.{rules}
use Rattle.jz_encodable.proofs.CodeLemmas.{address_by}
use Rattle.jz_encodable.proofs.encodable.is_address.Goals as goal

pub returns : goal.returns
returns c = address_by c.args.slot c.args.address c.is_index.result (c.is_index.ensures c.args.slot) (search rules)
