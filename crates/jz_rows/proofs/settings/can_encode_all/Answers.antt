use Rattle.jz_rows.proofs.SettingLemmas.{alone_encodes}
use Rattle.jz_rows.proofs.settings.can_encode_all.Goals as goal

pub returns-in-None : goal.returns-in-None
returns-in-None c = alone_encodes c.args.row c.can_encode.result c.in-None.is c.can_encode.ensures
