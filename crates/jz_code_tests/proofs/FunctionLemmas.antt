-- The small function is ready.
use Rattle.std.proofs.Common.{◌≡◌, ℕ, ◌^◌, ◌<◌, List, [], ◌∷◌, ◌++◌, IsTrue, refl, sym, ap, ◌∙◌, subst, arith}
use Rattle.std.specs.Prelude.{Contains, slice_index_or}
use Rattle.std.specs.List.{All}
use Rattle.std.proofs.lemmas.Bool.Decides.{nat_tests}
use Rattle.std.proofs.lemmas.List.Elements.{All-nil, All-cons}
use Rattle.x64_insn.specs.declared.types.Place.{Place}
use Rattle.x64_insn.specs.declared.types.Reg.TheVariants as reg
use Rattle.x64_insn.specs.Chosen.{is_spelled}
use Rattle.jz_ir.specs.declared.code.Kind.{Kind}
use Rattle.jz_ir.specs.declared.code.Kind.TheVariants.{Word}
use Rattle.jz_ir.specs.declared.code.Need.{Need}
use Rattle.jz_ir.specs.Paths.{among}
use Rattle.jz_ir.specs.Places.{Below}
use Rattle.jz_ir.specs.Tree.{ops_of}
use Rattle.jz_runs.specs.Trees.{done, op}
use Rattle.jz_operations.specs.declared.operation.Operation.{Operation}
use Rattle.jz_operations.specs.Reading.{seen_of}
use Rattle.jz_encodable.specs.Encodable.{IsEncodable}
use Rattle.jz_encodable.proofs.Spelling as encoding
use Rattle.jz_placing.specs.Flow.{flow}
use Rattle.jz_placing.specs.Variables.{Body, test_of}
use Rattle.jz_place.specs.declared.tree.Ir.{Ir}
use Rattle.jz_place.specs.declared.tree.Passed.{Passed}
use Rattle.jz_place.specs.declared.tree.Node.{Node}
use Rattle.jz_place.specs.declared.tree.Node.TheVariants.{Do}
use Rattle.jz_place.specs.Bodies.{body_of, return_op, returns_of}
use Rattle.jz_place.specs.Sorts.{IsSorted, AreSorted}
use Rattle.jz_place.proofs.Bodies.{do_is}
use Rattle.jz_correct.specs.Frames.{preserved_registers}
use Rattle.jz_codable.specs.Ready.{AreEncodable, parts_of, IsReady}
use Rattle.jz_code.proofs.Shapes.{member, preserved_other}
use Rattle.jz_code_tests.specs.Functions.{mov_five, in_rax}

first : (v : ℕ) → IsTrue (among (0 ∷ []) v) → 0 ≡ v
first v t = grind (arith, nat_tests, t)

sorted : IsSorted (Word ∷ []) mov_five
sorted = record {
  words = λ v t. subst (λ x. (x < 1) × (slice_index_or (Word ∷ []) x Word ≡ Word)) (first v t) (omega arith, refl);
  stack = refl;
  one = tt;
}

encodable : IsEncodable mov_five
unfolding is_spelled
encodable = encoding.encodable mov_five refl

one_below : All (λ v. v < 1) (0 ∷ [])
one_below = All-cons (λ v. v < 1) 0 [] (omega arith) (All-nil (λ v. v < 1))

mov_below : Below 1 (seen_of mov_five)
mov_below = record { reads = All-nil (λ v. v < 1); writes = one_below; needs = All-nil (λ (k : Need). k.variable < 1) }

return_below : Below 1 (return_op in_rax)
return_below = record {
  reads = one_below;
  writes = All-nil (λ v. v < 1);
  needs = All-cons (λ (k : Need). k.variable < 1) _ [] (omega arith) (All-nil (λ (k : Need). k.variable < 1));
}

rax_free : Contains preserved_registers reg.Rax → ⊥
rax_free h = let o = preserved_other reg.Rax (member preserved_registers reg.Rax h) in o.not_rax refl

abbrev small : List Place → Ir
small in_use = record { entry = []; body = Do mov_five ∷ []; results = in_rax ∷ []; kinds = Word ∷ []; in_use = in_use }

body_is : body_of (Do mov_five ∷ []) ≡ op mov_five done
body_is = do_is mov_five

small_ready : (in_use : List Place) → IsReady (small in_use)
small_ready in_use = record {
  within = subst (λ (t : Body). All (Below 1) (ops_of (flow seen_of test_of t (returns_of (small in_use))))) (sym body_is)
      (All-cons (Below 1) (seen_of mov_five) (return_op in_rax ∷ []) mov_below (All-cons (Below 1) (return_op in_rax) [] return_below (All-nil (Below 1))));
  count = omega arith;
  sorted = subst (AreSorted (Word ∷ [])) (sym body_is) (sorted, tt);
  encodable = subst AreEncodable (sym body_is) (encodable, tt);
  short = subst (λ t. parts_of t < 2 ^ 26) (sym body_is) (omega arith);
  results = (rax_free, tt);
}

pub five_ready : (f : Ir) (body0 : List Node) (results0 : List Passed) (kinds0 : List Kind) (o : Operation) (r : Passed) → f.entry ≡ [] → body0 ≡ [] → o ≡ mov_five → f.body ≡ body0 ++ Do o ∷ []
    → results0 ≡ [] → r ≡ in_rax → f.results ≡ results0 ++ r ∷ [] → kinds0 ≡ [] → f.kinds ≡ kinds0 ++ Word ∷ [] → IsReady f
five_ready f body0 results0 kinds0 o r e b0 m b r0 p rs k0 k =
    let body : f.body ≡ Do mov_five ∷ [] = b ∙ ap (λ l. l ++ Do o ∷ []) b0 ∙ ap (λ x. Do x ∷ []) m in
    let results : f.results ≡ in_rax ∷ [] = rs ∙ ap (λ l. l ++ r ∷ []) r0 ∙ ap (λ x. x ∷ []) p in
    let kinds : f.kinds ≡ Word ∷ [] = k ∙ ap (λ l. l ++ Word ∷ []) k0 in
    let same : small f.in_use ≡ f =
    ap (λ x. record { entry = x; body = Do mov_five ∷ []; results = in_rax ∷ []; kinds = Word ∷ []; in_use = f.in_use }) (sym e)
    ∙ ap (λ x. record { entry = f.entry; body = x; results = in_rax ∷ []; kinds = Word ∷ []; in_use = f.in_use }) (sym body)
    ∙ ap (λ x. record { entry = f.entry; body = f.body; results = x; kinds = Word ∷ []; in_use = f.in_use }) (sym results)
    ∙ ap (λ x. record { entry = f.entry; body = f.body; results = f.results; kinds = x; in_use = f.in_use }) (sym kinds) in
    subst IsReady same (small_ready f.in_use)
