-- The cases of a body, statement by statement.
use Rattle.std.proofs.Common.{◌≡◌, ℕ, ◌+◌, ◌<◌, Bool, List, [], ◌∷◌, ◌++◌, length, get_or, take, refl, sym, ap, ◌∙◌}
use Rattle.jz_leak.specs.declared.transformer.Out.{Out}
use Rattle.jz_leak.specs.declared.transformer.Case.{Case}
use Rattle.jz_leak.specs.declared.transformer.Case.TheVariants as case
use Rattle.jz_runs.specs.Trees.{done, op, quiet, choose, loop, each, call}
use Rattle.jz_operations.specs.declared.operation.Operation.{Operation}
use Rattle.jz_placing.specs.Variables.{Body}
use Rattle.jz_place.specs.declared.tree.Test.{Test}
use Rattle.jz_place.specs.declared.tree.Node.{Node}
use Rattle.jz_place.specs.declared.tree.Node.TheVariants.{Do, If, While}
use Rattle.jz_place.specs.Bodies.{asked_of, then_body, body_of}
use Rattle.jz_place.proofs.Bodies.{then_all, block_more, do_is, if_is, while_is}
use Rattle.jz_events.specs.Outs.{operation_outs}
use Rattle.jz_events.specs.Cases.{if_case, while_case, cases_over}

module _ (slots : ℕ → ℕ) (size : ℕ) where
  abbrev over : Body → List Case
  over = cases_over slots size

  over_all : (t r : Body) → over (then_all t r) ≡ over t ++ over r
  over_all done r = refl
  over_all (op o t) r = ap (λ cs. case.Op (operation_outs slots size o.action) ∷ cs) (over_all t r)
  over_all (quiet o t) r = over_all t r
  over_all (choose c a b t) r = ap (λ cs. if_case slots size c (over a) (over b) ∷ cs) (over_all t r)
  over_all (loop q p c b t) r = ap (λ cs. while_case slots size q (over p) c (over b) ∷ cs) (over_all t r)
  over_all (each f b t) r = absurd f
  over_all (call c b t) r = absurd c

  pub one_more : (ns : List Node) (i : ℕ) (n : Node) (c : Case) (old new : List Case) → i < length ns → n ≡ get_or ns i n → old ≡ over (body_of (take i ns)) → c ∷ [] ≡ over (then_body n done) → new ≡ old ++ c ∷ [] → new ≡ over (body_of (take (i + 1) ns))
  one_more ns i n c old new lt is e g h =
      h ∙ ap (λ cs. cs ++ c ∷ []) e ∙ ap (λ cs. over (body_of (take i ns)) ++ cs) g
      ∙ sym (over_all (body_of (take i ns)) (then_body n done)) ∙ ap over (sym (block_more ns i n lt is))

  pub do_case : (o : Operation) (outs : List Out) (n : Node) → n ≡ Do o → outs ≡ operation_outs slots size o.action → case.Op outs ∷ [] ≡ over (then_body n done)
  do_case o outs n is e = ap (λ x. case.Op x ∷ []) e ∙ ap over (sym (ap (λ z. then_body z done) is ∙ do_is o))

  pub if_made : (t : Test) (a b : List Node) (n : Node) (c : Case) → n ≡ If t a b → c ≡ if_case slots size (asked_of t) (over (body_of a)) (over (body_of b)) → c ∷ [] ≡ over (then_body n done)
  if_made t a b n c is e = ap (λ x. x ∷ []) e ∙ ap over (sym (ap (λ z. then_body z done) is ∙ if_is t a b))

  pub while_made : (q : Bool) (p : List Node) (t : Test) (b : List Node) (n : Node) (c : Case) → n ≡ While q p t b → c ≡ while_case slots size q (over (body_of p)) (asked_of t) (over (body_of b)) → c ∷ [] ≡ over (then_body n done)
  while_made q p t b n c is e = ap (λ x. x ∷ []) e ∙ ap over (sym (ap (λ z. then_body z done) is ∙ while_is q p t b))
