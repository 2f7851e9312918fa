use Rattle.std.proofs.Common.{◌≡◌, drop}
use Rattle.jz_place.specs.Bodies.{body_of}
use Rattle.jz_codable.specs.Ready.{parts_of}
use Rattle.jz_codable.specs.InnerParts.{left_of}
use Rattle.jz_codable.proofs.parts.+parts.Given as goal

abbrev pub invariant-without_all-loop-node : goal.invariant-without_all-loop-node
invariant-without_all-loop-node l = left_of l.rest (parts_of (body_of (drop l.node-index l.nodes))) ≡ left_of l.fn.left (parts_of (body_of l.nodes))
