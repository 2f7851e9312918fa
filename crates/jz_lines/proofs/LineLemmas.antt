-- Lines of parameters and results, one after another.
use Rattle.std.proofs.Common.{◌≡◌, ℕ, zero, suc, ◌+◌, ◌<◌, ◌≤◌, List, [], ◌∷◌, ◌++◌, length, take, get_or, Option, Some, None, Result, Ok, Err, refl, sym, ap, ◌∙◌, subst, arith, length-append}
use Rattle.std.specs.Prelude.{slice_get, IfErr, IsErrAnd, ℤ, pos, negsuc}
use Rattle.std.proofs.lemmas.List.{take_more, take_all}
use Rattle.jz_data.specs.Failures.{IfRefused}
use Rattle.jz_data.specs.declared.failure.Failure.{Failure}
use Rattle.jz_data.specs.declared.failure.Failure.TheVariants.{Refused, OutOfMemory}
use Rattle.jz_words.specs.declared.size.Size.{Size}
use Rattle.x64_insn.specs.declared.types.Reg.{Reg}
use Rattle.jz_tree.specs.declared.expr.Var.{Var}
use Rattle.jz_tree.specs.declared.expr.Expr.TheViews.{out-Var}
use Rattle.jz_tree.specs.declared.program.Param.{Param}
use Rattle.jz_tree.specs.declared.program.Ret.{Ret}
use Rattle.jz_meaning.specs.declared.access.Kind.{Kind}
use Rattle.jz_meaning.specs.declared.access.Kind.TheVariants as kind
use Rattle.jz_meaning.specs.Values.{ref_of, declared_kind, array_kind}
use Rattle.jz_listing.specs.declared.compiled.Arg.{Arg}
use Rattle.jz_compiled.specs.Lines.{AreArgumentLines, AreResultLines}
use Rattle.jz_compiled.proofs.KindLemmas.{name_is}
use Rattle.jz_lines.specs.InnerLines.{word_size, result_word, AddsLine, HasNoLine}

-- ---- words
pub is_word : (k : Kind) (z : Size) → word_size k ≡ Some z → k ≡ kind.Word z
is_word (kind.Word y) z e = cc
is_word kind.Undeclared z e = cc
is_word kind.Int z e = cc
is_word kind.Bool z e = cc
is_word (kind.Array y n) z e = cc

pub word_is : (k : Kind) (z : Size) → k ≡ kind.Word z → word_size k ≡ Some z
word_is k z e = ap word_size e

pub no_word : (s : Size) (o : Option ℤ) → word_size (array_kind s o) ≡ None
no_word s None = refl
no_word s (Some (pos n)) = refl
no_word s (Some (negsuc n)) = refl

-- ---- refusals that are handed on
of_cause : {S : Type 0} (w : Failure S) (P Q : Type 0) → IfRefused w (λ _. P) → (P → Q) → IfRefused w (λ _. Q)
of_cause (Refused s) P Q p f = f p
of_cause OutOfMemory P Q p f = tt

pub handed : {T S : Type 0} (r : Result T (Failure S)) (e : Failure S) (P Q : Type 0) → IsErrAnd r (λ v. v ≡ e) → IfRefused e (λ _. P) → (P → Q) → IfErr r (λ v. IfRefused v (λ _. Q))
handed (Ok x) e P Q h p f = tt
handed (Err v) e P Q h p f = subst (λ w. IfRefused w (λ _. Q)) (sym h) (of_cause e P Q p f)

-- ---- parameters
-- one more behind those that there are
more_params : (rs : List Reg) (ps : List Param) (as' : List Arg) (p : Param) (a : Arg) → slice_get rs (length as') ≡ Some a.reg → a.name ≡ (ref_of p.var).name → (ref_of p.var).kind ≡ kind.Word a.size → AreArgumentLines rs ps as' → AreArgumentLines rs (ps ++ p ∷ []) (as' ++ a ∷ [])
more_params [] [] [] p a next name word h = cc
more_params (r ∷ rs) [] [] p a next name word h = let e : r ≡ a.reg = cc in ((name, word, sym e), tt)
more_params [] [] (b ∷ bs) p a next name word h = absurd h
more_params (r ∷ rs) [] (b ∷ bs) p a next name word h = absurd h
more_params [] (q ∷ ps) as' p a next name word h = absurd h
more_params (r ∷ rs) (q ∷ ps) [] p a next name word h = absurd h
more_params (r ∷ rs) (q ∷ ps) (b ∷ bs) p a next name word h = (h.0, more_params rs ps bs p a next name word h.1)

-- what each of them has
params_have : (rs : List Reg) (ps : List Param) (as' : List Arg) (i : ℕ) (p : Param) → AreArgumentLines rs ps as' → i < length ps → p ≡ get_or ps i p → (r : Reg) × (z : Size) × (slice_get rs i ≡ Some r) × ((ref_of p.var).kind ≡ kind.Word z)
params_have rs [] as' i p h lt is = absurd (omega (arith, lt))
params_have [] (q ∷ ps) as' i p h lt is = absurd h
params_have (r ∷ rs) (q ∷ ps) [] i p h lt is = absurd h
params_have (r ∷ rs) (q ∷ ps) (b ∷ bs) zero p h lt is = (r, b.size, refl, ap (λ (x : Param). (ref_of x.var).kind) is ∙ h.0.1)
params_have (r ∷ rs) (q ∷ ps) (b ∷ bs) (suc i) p h lt is = params_have rs ps bs i p h.1 (omega (arith, lt)) is

pub record LinedParams (rs : List Reg) (ps : List Param) (as' : List Arg) : Type 0 where
  pub are : AreArgumentLines rs ps as'
  pub many : length as' ≡ length ps

pub params_none : (rs : List Reg) (as' : List Arg) → as' ≡ [] → LinedParams rs [] as'
params_none rs as' e = subst (LinedParams rs []) (sym e) (record { are = tt; many = refl })

pub params_next : (rs : List Reg) (ps : List Param) (i : ℕ) (p : Param) (w : Option Size) (old new : List Arg) → i < length ps → p ≡ get_or ps i p → w ≡ word_size (ref_of p.var).kind → AddsLine rs (out-Var p.var).name w old new → LinedParams rs (take i ps) old
    → LinedParams rs (take (i + 1) ps) new
params_next rs ps i p w old new lt is word n h =
    let more : take (i + 1) ps ≡ take i ps ++ p ∷ [] = take_more ps i p lt ∙ ap (λ y. take i ps ++ y ∷ []) (sym is) in
    let a : Arg = record { name = (out-Var p.var).name; size = n.size; reg = n.reg } in
    subst (λ l. LinedParams rs l new) (sym more)
    (subst (LinedParams rs (take i ps ++ p ∷ [])) (sym n.added)
    (record {
      are = more_params rs (take i ps) old p a n.next (sym (name_is p.var)) (is_word (ref_of p.var).kind n.size (sym word ∙ n.is)) h.are;
      many = length-append old (a ∷ []) ∙ ap (λ k. k + 1) h.many ∙ sym (length-append (take i ps) (p ∷ []));
    }))

pub params_lined : (rs : List Reg) (ps : List Param) (i : ℕ) (as' : List Arg) → length ps ≤ i → LinedParams rs (take i ps) as' → AreArgumentLines rs ps as'
params_lined rs ps i as' e h = subst (λ l. AreArgumentLines rs l as') (take_all i ps e) h.are

taken : {A : Type 0} (xs : List A) (i : ℕ) → i < length xs → length (take i xs) ≡ i
taken [] i lt = absurd (omega (arith, lt))
taken (x ∷ xs) zero lt = refl
taken (x ∷ xs) (suc i) lt = ap suc (taken xs i (omega (arith, lt)))

pub no_params : (rs : List Reg) (ps : List Param) (i : ℕ) (p : Param) (w : Option Size) (old as' : List Arg) → i < length ps → p ≡ get_or ps i p → w ≡ word_size (ref_of p.var).kind → LinedParams rs (take i ps) old → HasNoLine rs w (length old) → AreArgumentLines rs ps as' → ⊥
no_params rs ps i p w old as' lt is word h none lines =
    let g = params_have rs ps as' i p lines lt is in
    none g.0 g.1 (ap (slice_get rs) (h.many ∙ taken ps i lt) ∙ g.2) (word ∙ word_is (ref_of p.var).kind g.1 g.3)

-- ---- results
more_results : (rs : List Reg) (xs : List Var) (ts : List Ret) (as' : List Arg) (x : Var) (t : Ret) (a : Arg) → slice_get rs (length as') ≡ Some a.reg → a.name ≡ (ref_of x).name → declared_kind t.decl ≡ kind.Word a.size → AreResultLines rs xs ts as' → AreResultLines rs (xs ++ x ∷ []) (ts ++ t ∷ []) (as' ++ a ∷ [])
more_results [] [] [] [] x t a next name word h = cc
more_results (r ∷ rs) [] [] [] x t a next name word h = let e : r ≡ a.reg = cc in ((name, word, sym e), tt)
more_results [] [] [] (b ∷ bs) x t a next name word h = absurd h
more_results (r ∷ rs) [] [] (b ∷ bs) x t a next name word h = absurd h
more_results [] [] (s ∷ ts) as' x t a next name word h = absurd h
more_results (r ∷ rs) [] (s ∷ ts) as' x t a next name word h = absurd h
more_results [] (y ∷ xs) ts as' x t a next name word h = absurd h
more_results (r ∷ rs) (y ∷ xs) [] as' x t a next name word h = absurd h
more_results (r ∷ rs) (y ∷ xs) (s ∷ ts) [] x t a next name word h = absurd h
more_results (r ∷ rs) (y ∷ xs) (s ∷ ts) (b ∷ bs) x t a next name word h = (h.0, more_results rs xs ts bs x t a next name word h.1)

results_have : (rs : List Reg) (xs : List Var) (ts : List Ret) (as' : List Arg) (i : ℕ) → AreResultLines rs xs ts as' → i < length xs → (r : Reg) × (z : Size) × (slice_get rs i ≡ Some r) × (result_word (slice_get ts i) ≡ Some z)
results_have rs [] ts as' i h lt = absurd (omega (arith, lt))
results_have [] (y ∷ xs) ts as' i h lt = absurd h
results_have (r ∷ rs) (y ∷ xs) [] as' i h lt = absurd h
results_have (r ∷ rs) (y ∷ xs) (s ∷ ts) [] i h lt = absurd h
results_have (r ∷ rs) (y ∷ xs) (s ∷ ts) (b ∷ bs) zero h lt = (r, b.size, refl, word_is (declared_kind s.decl) b.size h.0.1)
results_have (r ∷ rs) (y ∷ xs) (s ∷ ts) (b ∷ bs) (suc i) h lt = results_have rs xs ts bs i h.1 (omega (arith, lt))

pub record LinedResults (rs : List Reg) (xs : List Var) (ts : List Ret) (as' : List Arg) : Type 0 where
  pub are : AreResultLines rs xs ts as'
  pub many : length as' ≡ length xs

pub results_none : (rs : List Reg) (as' : List Arg) → as' ≡ [] → LinedResults rs [] [] as'
results_none rs as' e = subst (LinedResults rs [] []) (sym e) (record { are = tt; many = refl })

-- the word of a result that is there
there : (ts : List Ret) (i : ℕ) (z : Size) → result_word (slice_get ts i) ≡ Some z → (t : Ret) × (i < length ts) × (t ≡ get_or ts i t) × (declared_kind t.decl ≡ kind.Word z)
there [] i z e = cc
there (t ∷ ts) zero z e = (t, omega arith, refl, is_word (declared_kind t.decl) z e)
there (t ∷ ts) (suc i) z e = let h = there ts i z e in (h.0, omega (arith, h.1), h.2, h.3)

pub results_next : (rs : List Reg) (xs : List Var) (ts : List Ret) (i : ℕ) (x : Var) (w : Option Size) (old new : List Arg) → i < length xs → x ≡ get_or xs i x → w ≡ result_word (slice_get ts (length old)) → AddsLine rs (out-Var x).name w old new
    → LinedResults rs (take i xs) (take i ts) old → LinedResults rs (take (i + 1) xs) (take (i + 1) ts) new
results_next rs xs ts i x w old new lt is word n h =
    let at : length old ≡ i = h.many ∙ taken xs i lt in
    let t = there ts i n.size (ap (λ k. result_word (slice_get ts k)) (sym at) ∙ sym word ∙ n.is) in
    let more : take (i + 1) xs ≡ take i xs ++ x ∷ [] = take_more xs i x lt ∙ ap (λ y. take i xs ++ y ∷ []) (sym is) in
    let more_ts : take (i + 1) ts ≡ take i ts ++ t.0 ∷ [] = take_more ts i t.0 t.1 ∙ ap (λ y. take i ts ++ y ∷ []) (sym t.2) in
    let a : Arg = record { name = (out-Var x).name; size = n.size; reg = n.reg } in
    subst (λ l. LinedResults rs l (take (i + 1) ts) new) (sym more)
    (subst (λ l. LinedResults rs (take i xs ++ x ∷ []) l new) (sym more_ts)
    (subst (LinedResults rs (take i xs ++ x ∷ []) (take i ts ++ t.0 ∷ [])) (sym n.added)
    (record {
      are = more_results rs (take i xs) (take i ts) old x t.0 a n.next (sym (name_is x)) t.3 h.are;
      many = length-append old (a ∷ []) ∙ ap (λ k. k + 1) h.many ∙ sym (length-append (take i xs) (x ∷ []));
    })))

pub results_lined : (rs : List Reg) (xs : List Var) (ts : List Ret) (i : ℕ) (as' : List Arg) → length xs ≤ i → length xs ≡ length ts → LinedResults rs (take i xs) (take i ts) as' → AreResultLines rs xs ts as'
results_lined rs xs ts i as' e same h =
    subst (λ l. AreResultLines rs l ts as') (take_all i xs e) (subst (λ l. AreResultLines rs (take i xs) l as') (take_all i ts (omega (arith, e, same))) h.are)

pub no_results : (rs : List Reg) (xs : List Var) (ts : List Ret) (i : ℕ) (w : Option Size) (old as' : List Arg) → i < length xs → w ≡ result_word (slice_get ts (length old)) → LinedResults rs (take i xs) (take i ts) old → HasNoLine rs w (length old) → AreResultLines rs xs ts as' → ⊥
no_results rs xs ts i w old as' lt word h none lines =
    let g = results_have rs xs ts as' i lines lt in
    let at : length old ≡ i = h.many ∙ taken xs i lt in
    none g.0 g.1 (ap (slice_get rs) at ∙ g.2) (word ∙ ap (λ k. result_word (slice_get ts k)) at ∙ g.3)

-- lists of other lengths have no lines
pub as_many : (rs : List Reg) (xs : List Var) (ts : List Ret) (as' : List Arg) → AreResultLines rs xs ts as' → length xs ≡ length ts
as_many rs [] [] as' h = refl
as_many [] [] (s ∷ ts) as' h = absurd h
as_many (r ∷ rs) [] (s ∷ ts) as' h = absurd h
as_many [] (y ∷ xs) ts as' h = absurd h
as_many (r ∷ rs) (y ∷ xs) [] as' h = absurd h
as_many (r ∷ rs) (y ∷ xs) (s ∷ ts) [] h = absurd h
as_many (r ∷ rs) (y ∷ xs) (s ∷ ts) (b ∷ bs) h = ap suc (as_many rs xs ts bs h.1)
