-- Bodies whose displacements fit, part by part.
use Rattle.std.proofs.Common.{◌≡◌, ℕ, ◌+◌, ◌<◌, Bool, List, length, get_or, take, sym, ap, ◌∙◌, subst}
use Rattle.jz_runs.specs.Trees.{done, op, quiet, choose, loop, each, call}
use Rattle.jz_operations.specs.declared.operation.Operation.{Operation}
use Rattle.jz_operations.specs.Rows.{accesses}
use Rattle.jz_operations.specs.Insns.{AllFit}
use Rattle.jz_placing.specs.Variables.{Body}
use Rattle.jz_place.specs.declared.tree.Test.{Test}
use Rattle.jz_place.specs.declared.tree.Node.{Node}
use Rattle.jz_place.specs.declared.tree.Node.TheVariants as over
use Rattle.jz_place.specs.Bodies.{asked_of, then_body, body_of}
use Rattle.jz_place.specs.Codes.{TestFits, BodyFits}
use Rattle.jz_place.proofs.Bodies.{then_all, block_more, do_is, if_is, while_is}

both_fit : (slots : ℕ → ℕ) (t r : Body) → BodyFits slots t → BodyFits slots r → BodyFits slots (then_all t r)
both_fit slots done r f g = g
both_fit slots (op o t) r f g = (f.0, both_fit slots t r f.1 g)
both_fit slots (quiet o t) r f g = both_fit slots t r f g
both_fit slots (choose c a b t) r f g = (f.0, f.1, f.2, both_fit slots t r f.3 g)
both_fit slots (loop q p c b t) r f g = (f.0, f.1, f.2, both_fit slots t r f.3 g)
both_fit slots (each h b t) r f g = absurd h
both_fit slots (call c b t) r f g = absurd c

pub one_more : (slots : ℕ → ℕ) (ns : List Node) (i : ℕ) (n : Node) → i < length ns → n ≡ get_or ns i n → BodyFits slots (body_of (take i ns)) → BodyFits slots (then_body n done) → BodyFits slots (body_of (take (i + 1) ns))
one_more slots ns i n lt is f g = subst (BodyFits slots) (sym (block_more ns i n lt is)) (both_fit slots (body_of (take i ns)) (then_body n done) f g)

-- ---- the nodes of each kind
pub do_fits : (slots : ℕ → ℕ) (o : Operation) (n : Node) → n ≡ over.Do o → AllFit slots (accesses o.action) → BodyFits slots (then_body n done)
do_fits slots o n is f = subst (BodyFits slots) (sym (ap (λ z. then_body z done) is ∙ do_is o)) (f, tt)

pub if_fits : (slots : ℕ → ℕ) (t : Test) (a b : List Node) (n : Node) → n ≡ over.If t a b → TestFits slots (asked_of t) → BodyFits slots (body_of a) → BodyFits slots (body_of b) → BodyFits slots (then_body n done)
if_fits slots t a b n is f g h = subst (BodyFits slots) (sym (ap (λ z. then_body z done) is ∙ if_is t a b)) (f, g, h, tt)

pub while_fits : (slots : ℕ → ℕ) (q : Bool) (p : List Node) (t : Test) (b : List Node) (n : Node) → n ≡ over.While q p t b → BodyFits slots (body_of p) → TestFits slots (asked_of t) → BodyFits slots (body_of b) → BodyFits slots (then_body n done)
while_fits slots q p t b n is f g h = subst (BodyFits slots) (sym (ap (λ z. then_body z done) is ∙ while_is q p t b)) (f, g, h, tt)
