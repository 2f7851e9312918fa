-- The runs of an expansion follow those of the function.
use Rattle.std.proofs.Common.{◌≡◌, ℕ, List, Some, true, refl, sym, ap, ◌∙◌, subst}
use Rattle.std.specs.Prelude.{Contains, slice_get}
use Rattle.std.proofs.lemmas.Option.{slice_get_within, get_or_from_slice_get}
use Rattle.jz_tree.specs.Memory.{Memory}
use Rattle.jz_tree.specs.declared.program.Fun.{Fun}
use Rattle.jz_tree.specs.declared.program.Param.{Param}
use Rattle.jz_tree.specs.declared.program.Program.{Program}
use Rattle.jz_type_rows.specs.Exports.{is_exported}
use Rattle.jz_types.specs.TypedPrograms.{IsTypedProgram}
use Rattle.jz_texts.specs.Texts.{IsText}
use Rattle.jz_runs.specs.Trees.{done}
use Rattle.jz_meaning.specs.declared.value.Stuck.{Stuck}
use Rattle.jz_meaning.specs.States.{Value, State, empty_store}
use Rattle.jz_meaning.specs.Statements.{Block}
use Rattle.jz_meaning.specs.Runs.{Returned, FunOutcome, IsInput, with_arguments}
use Rattle.jz_run_laws.specs.Kinds.{Kinds, IsOfKinds}
use Rattle.jz_walked_laws.specs.TypedTexts.{IsTypedText}
use Rattle.jz_change.specs.Changes.{Change}
use Rattle.jz_change.specs.Composing.{Composes, compose_of}
use Rattle.jz_change.specs.Views.{change_of}
use Rattle.jz_first_limit.specs.FirstLimits.{IsWithinLimits, expanded_count}
use Rattle.jz_pass.specs.Laws.{Runs, Follows, has_ended, was_cut, was_stuck, Carries, both}
use Rattle.jz_pass.specs.Unrolling.{Unrolls}
use Rattle.jz_pass.proofs.Twice.{carries_both}
use Rattle.jz_inlining.specs.Functions.{Given, alike, runs_of, body_runs}
use Rattle.jz_inlining.proofs.Made.{inlined_is}
use Rattle.jz_inlining.specs.declared.inlining.Inlined.{Inlined}
use Rattle.jz_inlining.specs.Inlined.{IsExport, IsInlined, inlined_function}
use Rattle.jz_inlining.specs.Inlined as inlines
use Rattle.jz_unroll.specs.Values.{InlineNames}
use Rattle.jz_unroll.specs.Unrolling.{unrolling}
use Rattle.jz_unrolling.specs.Unrolled.{IsUnrolled, KeepsHead}
use Rattle.jz_unrolling.specs.Unrolled as unrolls
use Rattle.jz_integers.specs.Integers.{KnownNumbers}
use Rattle.jz_scalars.specs.Functions as thins
use Rattle.jz_scalars.specs.Functions.{BeginsWith, function_with_scalars, scalar_change}
use Rattle.jz_scalars.specs.Ready.{IsReady}
use Rattle.jz_unrolling.specs.FunctionRuns.{plain_body, alike_where, alike_always}
use Rattle.jz_unrollable.specs.CopiedKinds.{copied_kinds}
use Rattle.jz_unrollable.proofs.Whole.{ready_law, entry_law}
use Rattle.jz_expansion.specs.Expansions.{IsExpansion}
use Rattle.jz_expansion.specs.Expanding.{IsInputOf, IsCountedAt}

-- ---- three passes

module _ (p : Program) (f g : Fun) (kinds : Kinds) (begins : (given : Given) → IsInputOf p f given → BeginsWith kinds g given) where
  -- the three relations one after another are one
  follows_once : (k : Change) (Comes : FunOutcome → Type 0) (o : FunOutcome) → Follows (both (both (alike p f) alike_always) (alike_where (BeginsWith kinds g))) k Comes o → Follows (alike_where (IsInputOf p f)) k Comes o
  follows_once k Comes _ (has_ended v2 e fit run) = has_ended v2 ((e.1.1 ∙ e.1.2) ∙ e.2) fit run
  follows_once k Comes _ (was_cut fit run) = was_cut fit run
  follows_once k Comes _ (was_stuck h) = was_stuck (λ x. let y = h ((tt, tt), tt) in (y.0, (y.1.1.1 ∙ y.1.1.2) ∙ y.1.2, y.2))

  starts : (i j : Given) → (i ≡ j) × IsInputOf p f i → (m : Given) × ((l : Given) × ((i ≡ l) × IsInput p f i.words) × (l ≡ m)) × ((m ≡ j) × BeginsWith kinds g m)
  starts i j st = (i, (i, (refl, st.1.words), refl), (st.0, begins i st.1))

  once : (k : Change) (From To : Runs Given Returned Stuck) → Carries (both (both (alike p f) alike_always) (alike_where (BeginsWith kinds g))) From To k → Carries (alike_where (IsInputOf p f)) From To k
  once k From To c = record {
    forth = λ i j n o st run. follows_once k (To j n) o (c.forth i j n o (starts i j st) run);
    back = λ i j n w2 st run. let y = c.back i j n w2 (starts i j st) run in (y.0, (y.1.1.1 ∙ y.1.1.2) ∙ y.1.2, y.2);
  }

  three_follow : (a b c ab k : Change) (F G H T : Runs Given Returned Stuck) → Composes a b ab → Composes ab c k → Carries (alike p f) F G a → Carries alike_always G H b → Carries (alike_where (BeginsWith kinds g)) H T c → Carries (alike_where (IsInputOf p f)) F T k
  three_follow a b c ab k F G H T first second inlines unrolls thins =
      once k F T (carries_both (both (alike p f) alike_always) (alike_where (BeginsWith kinds g)) ab c k second F H T (carries_both (alike p f) alike_always a b ab first F G H inlines unrolls) thins)

-- ---- what is unrolled

module _ (p : Program) (f u : Fun) (b : Change) (h : IsTypedText p) (has : Contains p.funs f) (unrolled : IsUnrolled (inlined_function p f) u b) (head : KeepsHead (inlined_function p f) u) where
  ready_of : (names : InlineNames) (e e1 : KnownNumbers) → Unrolls (unrolling names) (plain_body (inlined_function p f)) e done (plain_body u) e1 b → IsReady (copied_kinds p f) (plain_body u)
  ready_of names e e1 x =
      ready_law p f names e e1 (plain_body u) b h has (subst (λ (t : Block). Unrolls (unrolling names) t e done (plain_body u) e1 b) (sym (inlined_is p f)) x)

  is_ready : IsReady (copied_kinds p f) (plain_body u)
  is_ready = ready_of _ _ _ unrolled.body

  abbrev entered_with : List Value → Memory → List Param → State
  entered_with words memory ps = record { store = with_arguments ps words empty_store; memory = memory }

  begins_with : (given : Given) → IsInputOf p f given → BeginsWith (copied_kinds p f) u given
  begins_with given i =
      subst (λ ps. IsOfKinds (copied_kinds p f) (entered_with given.words given.memory ps)) (sym head.params) (entry_law p f given.words given.memory h i.words i.memory)

-- ---- the whole

pub same_at : (p : Program) (place : ℕ) (f g : Fun) → slice_get p.funs place ≡ Some f → slice_get p.funs place ≡ Some g → f ≡ g
same_at p place f g a b = let e : Some f ≡ Some g = sym a ∙ b in cc

pub contains_at : (p : Program) (place : ℕ) (f : Fun) → slice_get p.funs place ≡ Some f → Contains p.funs f
contains_at p place f e = (place, slice_get_within p.funs place f e, get_or_from_slice_get p.funs place f f e)

module _ (p : Program) (place n : ℕ) (i : Inlined) (u g : Fun) (b k : Change) (counted : IsCountedAt p place n) (made : IsInlined p place i) (unrolled : IsUnrolled i.fun u b) (head : KeepsHead i.fun u)
    (function : g ≡ function_with_scalars u) (change : k ≡ compose_of (compose_of (change_of i.change) b) (scalar_change u)) where
  own_body : IsUnrolled (inlined_function p made.source) u b
  own_body = subst (λ z. IsUnrolled z u b) made.made.function unrolled

  own_head : KeepsHead (inlined_function p made.source) u
  own_head = subst (λ z. KeepsHead z u) made.made.function head

  pub is_expansion : IsExpansion p made.source g k n
  is_expansion = record {
    within = subst (IsWithinLimits p) (same_at p place counted.0 made.source counted.1 made.there) counted.2;
    unrolled = u;
    rounds = b;
    body = own_body;
    head = own_head;
    function = function;
    change = change ∙ ap (λ z. compose_of (compose_of z b) (scalar_change u)) made.made.changed;
    counted = counted.3 ∙ ap (expanded_count p) (same_at p place counted.0 made.source counted.1 made.there);
  }

  -- it follows, where each of the three does
  pub runs_follow : (c ab : Change) → inlines.KeepsRuns p place i → unrolls.KeepsRuns i.fun u b → thins.KeepsRuns u g c → Composes (change_of i.change) b ab → Composes ab c k
      → (h : Fun) → slice_get p.funs place ≡ Some h → is_exported h.kind ≡ true → IsTypedProgram p → IsText p → Carries (alike_where (IsInputOf p h)) (runs_of p h) (body_runs (plain_body g) g) k
  runs_follow c ab inl unr thin first second h there exported typed text =
      let e : made.source ≡ h = same_at p place made.source h made.there there in
      let typed_text : IsTypedText p = record { typed = typed; text = text } in
      let has : Contains p.funs h = contains_at p place h there in
      let body : IsUnrolled (inlined_function p h) u b = subst (λ z. IsUnrolled (inlined_function p z) u b) e own_body in
      let keeps : KeepsHead (inlined_function p h) u = subst (λ z. KeepsHead (inlined_function p z) u) e own_head in
      three_follow p h u (copied_kinds p h) (begins_with p h u b typed_text has body keeps) (change_of i.change) b c ab k (runs_of p h) (body_runs (plain_body i.fun) i.fun) (body_runs (plain_body u) u) (body_runs (plain_body g) g) first second
      (inl h there exported typed text) unr (thin (copied_kinds p h) (is_ready p h u b typed_text has body keeps)).runs
