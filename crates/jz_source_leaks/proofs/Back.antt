-- Two runs of the expansion that go together, from the expansion back to the function of the text.
use Rattle.std.proofs.Common.{◌≡◌, ℕ, List, refl, sym, ap, ◌∙◌, subst, arith}
use Rattle.std.proofs.lemmas.List.Elements.{All-contains}
use Rattle.jz_tree.specs.declared.expr.Var.{Var}
use Rattle.jz_tree.specs.declared.program.Fun.{Fun}
use Rattle.jz_tree.specs.declared.program.Param.{Param}
use Rattle.jz_tree.specs.declared.program.Program.{Program}
use Rattle.jz_type_names.specs.Scopes.{variables_of}
use Rattle.jz_leak.specs.RunLeaks.{Leak}
use Rattle.jz_runs.specs.Trees.{done}
use Rattle.jz_runs.specs.Rules.{stuck, went, Outcome, End, Cut, Stuck, Goes}
use Rattle.jz_meaning.specs.declared.value.Stuck as code
use Rattle.jz_meaning.specs.Attempts.{Evaluation}
use Rattle.jz_meaning.specs.States.{Value, Key, State, same_key, empty_store}
use Rattle.jz_meaning.specs.Shapes.{HoldsSorts}
use Rattle.jz_meaning.specs.Statements.{Block, source}
use Rattle.jz_meaning.specs.Runs.{Returned, FunOutcome, IsInput, IsRun, body_of, with_arguments, entry_state, result_words, outcome_of_words, outcome_of_body}
use Rattle.jz_run_laws.specs.Kinds.{HoldsBytes, IsOfKinds}
use Rattle.jz_typed_runs.specs.TypedTexts.{IsTypedText}
use Rattle.jz_bodies.specs.Scopes.{Has}
use Rattle.jz_bodies.specs.Declared.{scopes_in}
use Rattle.jz_bodies.specs.Typed.{IsTypedFunction}
use Rattle.jz_bodies.proofs.Whole.{bodies_law}
use Rattle.jz_change.specs.Changes.{Change, map_of}
use Rattle.jz_pass.specs.Laws.{Follows, has_ended, was_cut}
use Rattle.jz_pass.specs.Copying.{inlined}
use Rattle.jz_pass.specs.Rewriting.{Rewrites, knowing_of}
use Rattle.jz_pass.specs.Unrolling.{Unrolls}
use Rattle.jz_pass.proofs.Along.{inlined_along}
use Rattle.jz_inline.specs.Calls.{inline_calls}
use Rattle.jz_inline.specs.Functions.{own_names, Given, body_runs}
use Rattle.jz_inline.proofs.Copies.{ScopeCopy, key_in, IsBelow, Stands, callee_copy, inline}
use Rattle.jz_inline.proofs.Made.{inlined_is}
use Rattle.jz_inline.proofs.Naming.{sets_has}
use Rattle.jz_inlining.specs.Inlined.{inlined_function}
use Rattle.jz_unroll.specs.Values.{InlineNames}
use Rattle.jz_unroll.specs.Unrolling.{unrolling}
use Rattle.jz_unroll.specs.ValueLaws.{StandsFor}
use Rattle.jz_unrolling_values.specs.InlineNames.{inline_names}
use Rattle.jz_unrolling_values.specs.Numbers.{no_numbers}
use Rattle.jz_unrolling.proofs.FunctionLemmas.{same_state}
use Rattle.jz_arrays.specs.Arrays.{arrays}
use Rattle.jz_scalars.specs.Functions.{function_with_scalars, scalar_change}
use Rattle.jz_scalars.specs.Ready.{IsReady}
use Rattle.jz_scalars.proofs.Keeping as thins
use Rattle.jz_function_runs.specs.FunctionRuns.{plain_body, alike_where}
use Rattle.jz_ready.specs.CopiedKinds.{copied_kinds}
use Rattle.jz_ready.proofs.Whole.{ready_law, entry_law}
use Rattle.jz_expansion.specs.Expansions.{IsExpansion}
use Rattle.jz_joined.specs.Making.{IsAsked, IsExpandedTo}
use Rattle.jz_expanded_runs.proofs.Followed.{expansions_keep_runs}
use Rattle.jz_two_runs.specs.Two.{GoTogether, SameLeak}
use Rattle.jz_two_runs.specs.Telling.{IsFlat}
use Rattle.jz_two_runs.proofs.Sides.{leaks_same}
use Rattle.jz_two_runs.proofs.Flat.{flat_together, flat_made}
use Rattle.jz_told_numbers.proofs.Told.{scalars_tell, rounds_tell, copies_tell}
use Rattle.jz_equal_leaks.specs.Laws.{LeakTheSame}
use Rattle.jz_constant_leaks.specs.SafeExpansions.{IsExpandedExport}
use Rattle.jz_constant_leaks.specs.ConstantLeaks.{LeakAlike}

-- ---- the function's own variables, as the copy 0
module _ (p : Program) (f : Fun) (typed : IsTypedFunction p f) where
  abbrev own : ScopeCopy
  own = record { names = own_names; scope = scopes_in p f }

  own_key : (k : Key) → Has own.scope k → key_in own_names k ≡ k
  own_key k h = ap (λ n. record { name = k.name; copy = n; cell = k.cell }) (sym (typed.zero k h))

  own_below : IsBelow own 1
  own_below = record { scope = typed.scope; below = λ k h. omega (arith, typed.zero k h); apart = λ k q s h. same k q (own_key k (sets_has own.scope typed.scope k s)) (own_key q h) }
    where
      same : (k q : Key) → key_in own_names k ≡ k → key_in own_names q ≡ q → same_key (key_in own_names k) (key_in own_names q) ≡ same_key k q
      same k q e g = ap (λ v. same_key v (key_in own_names q)) e ∙ ap (same_key k) g

  own_stands : (s : State) → HoldsSorts own.scope.sorts s.store → Stands own s s
  own_stands s h = record { agrees = record { store = λ k has. ap s.store (own_key k has); memory = refl }; sorted = h }

  -- from the body without calls to the body
  calls_back : (n : ℕ) (given other : Given) → IsInput p f given.words → IsInput p f other.words → GoTogether source (plain_body (inlined_function p f)) n (entry_state f given.words given.memory) (entry_state f other.words other.memory)
      → GoTogether source (body_of p f) n (entry_state f given.words given.memory) (entry_state f other.words other.memory)
  calls_back n given other a b g =
      let s = entry_state f given.words given.memory in let t = entry_state f other.words other.memory in
      let e : inlined (inline (scopes_in p)) own 1 (body_of p f) done ≡ plain_body (inlined_function p f) = inlined_along inline_calls (λ y. y.names) (callee_copy (scopes_in p)) (λ x c q. refl) (body_of p f) own 1 done ∙ inlined_is p f in
      copies_tell (scopes_in p) own 1 (body_of p f) n s t s t typed.body own_below (own_stands s (typed.entered given.words given.memory a)) (own_stands t (typed.entered other.words other.memory b))
      (subst (λ (x : Block). GoTogether source x n s t) (sym e) g)

-- ---- an expansion
module _ (p : Program) (f g : Fun) (k : Change) (count : ℕ) (x : IsExpandedExport p f g k count) where
  abbrev e : IsExpansion p f g k count
  e = x.expansion

  abbrev inner : Fun
  inner = inlined_function p f

  abbrev names : InlineNames
  names = inline_names (variables_of inner)

  typed_one : IsTypedFunction p f
  typed_one = All-contains (IsTypedFunction p) p.funs f (bodies_law p x.typed x.text) x.there

  whole : IsTypedText p
  whole = record { typed = x.typed; text = x.text }

  ready : IsReady (copied_kinds p f) (plain_body e.unrolled)
  ready =
      ready_law p f names no_numbers e.body.behind (plain_body e.unrolled) e.rounds whole x.there
      (subst (λ (t : Block). Unrolls (unrolling names) t no_numbers done (plain_body e.unrolled) e.body.behind e.rounds) (sym (inlined_is p f)) e.body.body)

  abbrev made : Fun
  made = function_with_scalars e.unrolled

  rewritten : Rewrites (arrays (copied_kinds p f)) (plain_body e.unrolled) done (plain_body made) (scalar_change e.unrolled)
  rewritten = (thins.keeps_runs e.unrolled made (scalar_change e.unrolled) (record { function = refl; change = refl }) (copied_kinds p f) ready).rewritten

  flat : IsFlat (plain_body made)
  flat = flat_made (knowing_of (arrays (copied_kinds p f))) rewritten tt

  abbrev entered_with : Given → List Param → State
  entered_with given ps = record { store = with_arguments ps given.words empty_store; memory = given.memory }

  begins : (given : Given) → IsAsked p f given → IsOfKinds (copied_kinds p f) (entry_state e.unrolled given.words given.memory)
  begins given i = subst (λ ps. IsOfKinds (copied_kinds p f) (entered_with given ps)) (sym e.head.params) (entry_law p f given.words given.memory whole i.0 i.1)

  stands : (given : Given) → StandsFor names no_numbers (entry_state f given.words given.memory) (entry_state e.unrolled given.words given.memory)
  stands given = subst (λ ps. StandsFor names no_numbers (entry_state f given.words given.memory) (entered_with given ps)) (sym e.head.params) (same_state names (entry_state f given.words given.memory))

  -- two runs of the expansion that leak the same, and the runs of the function
  all_back : (n : ℕ) (given other : Given) → IsAsked p f given → IsAsked p f other → (o q : Outcome State code.Stuck Leak) → Goes source (plain_body made) n (entry_state made given.words given.memory) o → Goes source (plain_body made) n (entry_state made other.words other.memory) q → SameLeak {S = State} {V = State} o q
      → GoTogether source (body_of p f) n (entry_state f given.words given.memory) (entry_state f other.words other.memory)
  all_back n given other a b o q u v same =
      let s = entry_state e.unrolled given.words given.memory in let t = entry_state e.unrolled other.words other.memory in
      let one = flat_together source (plain_body made) flat n s t o q u v same in
      let two = scalars_tell (copied_kinds p f) (plain_body e.unrolled) (plain_body made) (scalar_change e.unrolled) n s t rewritten (begins given a) (begins other b) one in
      let three = rounds_tell names no_numbers e.body.behind (plain_body inner) (plain_body e.unrolled) e.rounds n (entry_state f given.words given.memory) (entry_state f other.words other.memory) s t e.body.body (stands given) (stands other) two in
      calls_back p f typed_one n given other a.0 b.0 three

  -- ---- outcomes
  ended : (xs : List Var) (o : Outcome State code.Stuck Leak) (r : Returned) (m : ℕ) (l : Leak) → outcome_of_body xs o ≡ End r m l → (s : State) × (o ≡ End s m l)
  ended xs (End s n j) r m l q = by_words (result_words xs s.store) q
    where
      by_words : (w : Evaluation (List Value)) → outcome_of_words s.memory n j w ≡ End r m l → (t : State) × (◌≡◌ {A = Outcome State code.Stuck Leak} (End s n j) (End t m l))
      by_words (stuck w) z = absurd cc
      by_words (went ns vs) z = let a : n ≡ m = cc in let b : j ≡ l = cc in (s, ap (λ y. End s y j) a ∙ ap (λ y. End s m y) b)
  ended xs (Cut j) r m l q = absurd cc
  ended xs (Stuck w) r m l q = absurd cc

  was_cut_so : (xs : List Var) (o : Outcome State code.Stuck Leak) (l : Leak) → outcome_of_body xs o ≡ Cut l → o ≡ Cut l
  was_cut_so xs (End s n j) l q = by_words (result_words xs s.store) q
    where
      by_words : (w : Evaluation (List Value)) → ◌≡◌ {A = FunOutcome} (outcome_of_words s.memory n j w) (Cut l) → ◌≡◌ {A = Outcome State code.Stuck Leak} (End s n j) (Cut l)
      by_words (stuck w) z = absurd cc
      by_words (went ns vs) z = absurd cc
  was_cut_so xs (Cut j) l q = let a : j ≡ l = cc in ap Cut a
  was_cut_so xs (Stuck w) l q = absurd cc

  to : IsExpandedTo p f g k
  to = expansions_keep_runs p f g k count x.typed x.text x.there x.exported x.expansion

  module _ (n : ℕ) (given other : Given) (a : IsAsked p f given) (b : IsAsked p f other) where
    abbrev Here : Given → FunOutcome → Type 0
    Here start o = body_runs (plain_body g) g start n o

    as_made : (start : Given) (o : Outcome State code.Stuck Leak) → Goes source (plain_body g) n (entry_state g start.words start.memory) o → Goes source (plain_body made) n (entry_state made start.words start.memory) o
    as_made start o u = subst (λ (h : Fun). Goes source (plain_body h) n (entry_state h start.words start.memory) o) e.function u

    both_end : (r s : Returned) (m : ℕ) (l j : Leak) → Here given (End r m l) → Here other (End s m j) → l ≡ j → GoTogether source (body_of p f) n (entry_state f given.words given.memory) (entry_state f other.words other.memory)
    both_end r s m l j u v q =
        let c = ended g.result u.out r m l u.gives in let d = ended g.result v.out s m j v.gives in
        all_back n given other a b (End c.0 m l) (End d.0 m j) (as_made given (End c.0 m l) (subst (Goes source (plain_body g) n (entry_state g given.words given.memory)) c.1 u.goes)) (as_made other (End d.0 m j) (subst (Goes source (plain_body g) n (entry_state g other.words other.memory)) d.1 v.goes)) (refl, q)

    both_cut : (l j : Leak) → Here given (Cut l) → Here other (Cut j) → l ≡ j → GoTogether source (body_of p f) n (entry_state f given.words given.memory) (entry_state f other.words other.memory)
    both_cut l j u v q =
        let c = was_cut_so g.result u.out l u.gives in let d = was_cut_so g.result v.out j v.gives in
        all_back n given other a b (Cut l) (Cut j) (as_made given (Cut l) (subst (Goes source (plain_body g) n (entry_state g given.words given.memory)) c u.goes)) (as_made other (Cut j) (subst (Goes source (plain_body g) n (entry_state g other.words other.memory)) d v.goes)) q

    abbrev After : Given → FunOutcome → Type 0
    After start o = Follows (alike_where (IsAsked p f)) k (Here start) o

    -- what goes together has the same leaks
    ends_same : (r s : Returned) (m i : ℕ) (l j : Leak) → IsRun p f given.words given.memory n (End r m l) → IsRun p f other.words other.memory n (End s i j) → GoTogether source (body_of p f) n (entry_state f given.words given.memory) (entry_state f other.words other.memory) → (m ≡ i) × (l ≡ j)
    ends_same r s m i l j u v h =
        let c = ended f.result u.out r m l u.gives in let d = ended f.result v.out s i j v.gives in
        leaks_same source h (End c.0 m l) (End d.0 i j) (subst (Goes source (body_of p f) n (entry_state f given.words given.memory)) c.1 u.goes) (subst (Goes source (body_of p f) n (entry_state f other.words other.memory)) d.1 v.goes)

    cuts_same : (l j : Leak) → IsRun p f given.words given.memory n (Cut l) → IsRun p f other.words other.memory n (Cut j) → GoTogether source (body_of p f) n (entry_state f given.words given.memory) (entry_state f other.words other.memory) → l ≡ j
    cuts_same l j u v h =
        let c = was_cut_so f.result u.out l u.gives in let d = was_cut_so f.result v.out j v.gives in
        leaks_same source h (Cut l) (Cut j) (subst (Goes source (body_of p f) n (entry_state f given.words given.memory)) c u.goes) (subst (Goes source (body_of p f) n (entry_state f other.words other.memory)) d v.goes)

    told : (o q : FunOutcome) → IsRun p f given.words given.memory n o → IsRun p f other.words other.memory n q → After given o → After other q → LeakAlike k o q → LeakTheSame {V = Returned} o q
    told (End r m l) (End s i j) u v (has_ended w y fit c) (has_ended z d too h) alike =
        let t = both_end w z m (map_of k l) (map_of k j) c (subst (λ y. Here other (End z y (map_of k j))) (sym alike.0) h) alike.1 in
        let e = ends_same r s m i l j u v t in (e.0, e.1, tt)
    told (End r m l) (Cut j) u v y z alike = absurd alike
    told (End r m l) (Stuck w) u v y z alike = tt
    told (Cut l) (End s i j) u v y z alike = absurd alike
    told (Cut l) (Cut j) u v (was_cut fit c) (was_cut too h) alike = cuts_same l j u v (both_cut (map_of k l) (map_of k j) c h alike)
    told (Cut l) (Stuck w) u v y z alike = tt
    told (Stuck w) (End s i j) u v y z alike = tt
    told (Stuck w) (Cut j) u v y z alike = tt
    told (Stuck w) (Stuck v1) u v y z alike = tt

  pub loses_nothing : (given other : Given) → HoldsBytes given.memory → HoldsBytes other.memory → (n : ℕ) (o q : FunOutcome) → IsRun p f given.words given.memory n o → IsRun p f other.words other.memory n q → LeakAlike k o q → LeakTheSame {V = Returned} o q
  loses_nothing given other one two n o q u v alike =
      told n given other (u.input, one) (v.input, two) o q u v
      (to.carries.forth given given n o (refl, (u.input, one)) u) (to.carries.forth other other n q (refl, (v.input, two)) v) alike
