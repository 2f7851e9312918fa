use Rattle.std.proofs.Common.{refl, arith}
use Rattle.jz_secrets.specs.Graphs.{arrow_of}
use Rattle.jz_secrets.proofs.Graphing.{edge_added, number_behind}
use Rattle.jz_secrets.proofs.graph.Graph.add.Goals as goal

pub index_mut-requires : goal.index_mut-requires
index_mut-requires c =
    let below =
    number_behind c.args.self.now c.number_of.new.self c.number_of-2.new.self c.args.self.now.count (arrow_of c.args.edge).from c.in_ok-from.from c.in_ok-from.ensures.fine c.in_ok-from.ensures.grows c.in_ok-to.ensures.grows refl
    c.in_ok-from.ensures.number c.requires.below in
    omega (arith, below, c.number_of-2.new.self.rows.ok.0)

pub returns-clause-fine : goal.returns-clause-fine
returns-clause-fine c =
    (edge_added (arrow_of c.args.edge) c.args.self.now c.number_of.new.self c.number_of-2.new.self _ c.in_ok-from.from c.in_ok-to.to c.index_mut.result.now _ c.in_ok-from.ensures.grows c.in_ok-to.ensures.grows c.in_ok-to.ensures.fine c.in_ok-from.ensures.number
    c.in_ok-to.ensures.number refl refl (number_behind c.args.self.now c.number_of.new.self c.number_of-2.new.self c.args.self.now.count (arrow_of c.args.edge).from c.in_ok-from.from c.in_ok-from.ensures.fine c.in_ok-from.ensures.grows c.in_ok-to.ensures.grows refl
    c.in_ok-from.ensures.number c.requires.below) c.index_mut.ensures.value c.in_ok-push.ensures.ok refl).0

pub returns-clause-adds : goal.returns-clause-adds
returns-clause-adds c =
    (edge_added (arrow_of c.args.edge) c.args.self.now c.number_of.new.self c.number_of-2.new.self _ c.in_ok-from.from c.in_ok-to.to c.index_mut.result.now _ c.in_ok-from.ensures.grows c.in_ok-to.ensures.grows c.in_ok-to.ensures.fine c.in_ok-from.ensures.number
    c.in_ok-to.ensures.number refl refl (number_behind c.args.self.now c.number_of.new.self c.number_of-2.new.self c.args.self.now.count (arrow_of c.args.edge).from c.in_ok-from.from c.in_ok-from.ensures.fine c.in_ok-from.ensures.grows c.in_ok-to.ensures.grows refl
    c.in_ok-from.ensures.number c.requires.below) c.index_mut.ensures.value c.in_ok-push.ensures.ok refl).1
