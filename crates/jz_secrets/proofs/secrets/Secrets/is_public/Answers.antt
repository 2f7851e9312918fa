use Rattle.std.proofs.Common.{◌∙◌, ap, sym}
use Rattle.jz_layers.specs.Spots.{spot_of, variable_key}
use Rattle.jz_secrets.specs.declared.edge.Node.{Node}
use Rattle.jz_secrets.specs.Graphs.{vertex_of}
use Rattle.jz_secrets.specs.Kept.{public_by}
use Rattle.jz_secrets.proofs.Fewest.{no_number, its_number}
use Rattle.jz_secrets.proofs.secrets.Secrets.is_public.Goals as goal

pub returns-in-None : goal.returns-in-None
returns-in-None c =
    no_number c.args.self.now (spot_of c.of.result) (variable_key c.in-Array.var.now) c.of.ensures c.in-None.ensures.value ∙ sym (ap (λ (n : Node). public_by c.args.self.now (vertex_of n)) c.in-Array.is)

pub returns-in-Some : goal.returns-in-Some
returns-in-Some c =
    its_number c.args.self.now (spot_of c.of.result) (variable_key c.in-Array.var.now) c.in-Some.number.now c.is_marked-in-Some.result c.of.ensures c.in-Some.ensures.value c.is_marked-in-Some.ensures
    ∙ sym (ap (λ (n : Node). public_by c.args.self.now (vertex_of n)) c.in-Array.is)
