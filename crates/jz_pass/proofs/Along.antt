-- A copy depends on its naming alone, whatever else is known beside it.
use Rattle.std.proofs.Common.{◌≡◌, ℕ, suc, ◌+◌, [], ◌∷◌, refl, ap, ◌∙◌}
use Rattle.jz_runs.specs.Trees.{Tree, done, op, quiet, choose, loop, each, call}
use Rattle.jz_change.specs.declared.change.Numbers.TheVariants.{Same}
use Rattle.jz_change.specs.Changes.{ops, opened}
use Rattle.jz_pass.specs.Operations.{in_turn}
use Rattle.jz_pass.specs.Copying.{Copying, copies, inlined, inlining, along}

module _ {O T F C N X : Type 0} (K : Copying O T F C N) (naming : X → N) (callee : X → ℕ → C → X) (same_callee : (x : X) (c : ℕ) (q : C) → naming (callee x c q) ≡ K.callee (naming x) c q) where
  pub inlined_along : (t : Tree O T F C) (x : X) (c : ℕ) (rest : Tree O T F C) → inlined (along K naming callee) x c t rest ≡ inlined K (naming x) c t rest
  inlined_along done x c rest = refl
  inlined_along (op o r) x c rest = ap (op (K.op_in (naming x) o)) (inlined_along r x c rest)
  inlined_along (quiet o r) x c rest = ap (quiet (K.op_in (naming x) o)) (inlined_along r x c rest)
  inlined_along (choose t a b r) x c rest =
      let e = inlined_along a x c done in let f = inlined_along b x (c + copies a) done in let g = inlined_along r x (c + copies a + copies b) rest in rw (e, f, g)
  inlined_along (loop q p t b r) x c rest =
      let e = inlined_along p x c done in let f = inlined_along b x (c + copies p) done in let g = inlined_along r x (c + copies p + copies b) rest in rw (e, f, g)
  inlined_along (each f b r) x c rest = let e = inlined_along b x c done in let g = inlined_along r x (c + copies b) rest in rw (e, g)
  inlined_along (call q b r) x c rest =
      let n = naming x in
      ap (λ u. in_turn (K.arguments n c q) (quiet (K.mark n c q) (inlined (along K naming callee) (callee x c q) (suc c) b (in_turn (K.results n c q) u)))) (inlined_along r x (suc c + copies b) rest)
      ∙ ap (λ u. in_turn (K.arguments n c q) (quiet (K.mark n c q) u)) (inlined_along b (callee x c q) (suc c) (in_turn (K.results n c q) (inlined K n (suc c + copies b) r rest)) ∙ ap (λ m. inlined K m (suc c) b (in_turn (K.results n c q) (inlined K n (suc c + copies b) r rest))) (same_callee x c q))

  pub inlining_along : (t : Tree O T F C) (x : X) (c : ℕ) → inlining (along K naming callee) x c t ≡ inlining K (naming x) c t
  inlining_along done x c = refl
  inlining_along (op o r) x c = ap (ops (Same ∷ [])) (inlining_along r x c)
  inlining_along (quiet o r) x c = inlining_along r x c
  inlining_along (choose t a b r) x c = let e = inlining_along a x c in let f = inlining_along b x (c + copies a) in let g = inlining_along r x (c + copies a + copies b) in rw (e, f, g)
  inlining_along (loop q p t b r) x c = let e = inlining_along p x c in let f = inlining_along b x (c + copies p) in let g = inlining_along r x (c + copies p + copies b) in rw (e, f, g)
  inlining_along (each f b r) x c = let e = inlining_along b x c in let g = inlining_along r x (c + copies b) in rw (e, g)
  inlining_along (call q b r) x c =
      let n = naming x in
      ap (λ u. opened (K.argument_items n q) (inlining (along K naming callee) (callee x c q) (suc c) b) (K.result_items n q) u) (inlining_along r x (suc c + copies b))
      ∙ ap (λ u. opened (K.argument_items n q) u (K.result_items n q) (inlining K n (suc c + copies b) r)) (inlining_along b (callee x c q) (suc c) ∙ ap (λ m. inlining K m (suc c) b) (same_callee x c q))
