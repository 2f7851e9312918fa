use Rattle.jz_run_laws.proofs.Texts.{texts_declare}
use Rattle.jz_run_laws.proofs.kind_laws.texts_declare_bodies.Goals as goal

pub returns : goal.returns
returns c = texts_declare
