-- The runs of an expansion follow those of the function of the text.
use Rattle.std.proofs.Common.{◌≡◌, ℕ, List, true, refl, sym, ap, ◌∙◌, subst}
use Rattle.std.specs.Prelude.{Contains}
use Rattle.std.proofs.lemmas.List.Elements.{All-contains}
use Rattle.jz_tree.specs.Memory.{Memory}
use Rattle.jz_tree.specs.declared.program.Fun.{Fun}
use Rattle.jz_tree.specs.declared.program.Param.{Param}
use Rattle.jz_tree.specs.declared.program.Program.{Program}
use Rattle.jz_type_rows.specs.Exports.{is_exported}
use Rattle.jz_types.specs.TypedPrograms.{IsTypedProgram}
use Rattle.jz_texts.specs.Texts.{IsText}
use Rattle.jz_runs.specs.Trees.{done}
use Rattle.jz_meaning.specs.declared.value.Stuck.{Stuck}
use Rattle.jz_meaning.specs.States.{Value, State, empty_store}
use Rattle.jz_meaning.specs.Statements.{Block}
use Rattle.jz_meaning.specs.Runs.{Returned, FunOutcome, IsInput, body_of, with_arguments}
use Rattle.jz_run_laws.specs.Kinds.{Kinds, IsOfKinds}
use Rattle.jz_typed_runs.specs.TypedTexts.{IsTypedText}
use Rattle.jz_bodies.specs.Typed.{IsTypedFunction}
use Rattle.jz_bodies.proofs.Whole.{bodies_law}
use Rattle.jz_change.specs.Changes.{Change}
use Rattle.jz_change.specs.Composing.{Composes, compose_of}
use Rattle.jz_change.proofs.Composition.{composes}
use Rattle.jz_pass.specs.Laws.{Runs, Follows, has_ended, was_cut, was_stuck, Carries, both}
use Rattle.jz_pass.specs.Unrolling.{Unrolls}
use Rattle.jz_pass.proofs.Twice.{carries_both}
use Rattle.jz_inline.specs.Functions.{Given, alike, runs_of, body_runs, inlining_of}
use Rattle.jz_inline.proofs.Made.{inlined_is}
use Rattle.jz_expansion.specs.Inlined.{inlined_function}
use Rattle.jz_expansion.proofs.Kept.{carries_inlined}
use Rattle.jz_unroll.specs.Unrolling.{unrolling}
use Rattle.jz_unrolling_values.specs.InlineNames.{inline_names}
use Rattle.jz_unrolling_values.specs.Numbers.{no_numbers}
use Rattle.jz_type_names.specs.Scopes.{variables_of}
use Rattle.jz_expansion.specs.Unrolled.{GivesPlain}
use Rattle.jz_expansion.proofs.FunctionLemmas as rounds
use Rattle.jz_expansion.specs.CalledBodies.{inlines_of, IsNamed}
use Rattle.jz_expansion.proofs.WalkedLawsWhole.{named_law, called_law, results_law}
use Rattle.jz_expansion.proofs.Unrollable.{unrollable}
use Rattle.jz_expansion.specs.Functions.{BeginsWith, function_with_scalars, scalar_change}
use Rattle.jz_expansion.specs.Ready.{IsReady}
use Rattle.jz_expansion.proofs.Keeping as thins
use Rattle.jz_function_runs.specs.FunctionRuns.{plain_body, alike_where, alike_always}
use Rattle.jz_expansion.specs.CopiedKinds.{copied_kinds}
use Rattle.jz_expansion.proofs.Whole.{ready_law, entry_law}
use Rattle.jz_expansion.specs.Expansions.{IsExpansion}
use Rattle.jz_joined.specs.Making.{IsAsked, IsExpandedTo}
use Rattle.jz_expanded_runs.specs.RunLaws.{ExpansionsKeepRuns}

-- ---- three passes

module _ (p : Program) (f g : Fun) (kinds : Kinds) (begins : (given : Given) → IsAsked p f given → BeginsWith kinds g given) where
  -- the three relations one after another are one
  follows_once : (k : Change) (Comes : FunOutcome → Type 0) (o : FunOutcome) → Follows (both (both (alike p f) alike_always) (alike_where (BeginsWith kinds g))) k Comes o → Follows (alike_where (IsAsked p f)) k Comes o
  follows_once k Comes _ (has_ended v2 e fit run) = has_ended v2 ((e.1.1 ∙ e.1.2) ∙ e.2) fit run
  follows_once k Comes _ (was_cut fit run) = was_cut fit run
  follows_once k Comes _ (was_stuck h) = was_stuck (λ x. let y = h ((tt, tt), tt) in (y.0, (y.1.1.1 ∙ y.1.1.2) ∙ y.1.2, y.2))

  starts : (i j : Given) → i ≡ j → IsAsked p f i → (m : Given) × ((l : Given) × ((i ≡ l) × IsInput p f i.words) × (l ≡ m)) × ((m ≡ j) × BeginsWith kinds g m)
  starts i j e asked = (i, (i, (refl, asked.0), refl), (e, begins i asked))

  once : (k : Change) (From To : Runs Given Returned Stuck) → Carries (both (both (alike p f) alike_always) (alike_where (BeginsWith kinds g))) From To k → Carries (alike_where (IsAsked p f)) From To k
  once k From To c = record {
    forth = λ i j n o st run. follows_once k (To j n) o (c.forth i j n o (starts i j st.0 st.1) run);
    back = λ i j n w2 st run. let y = c.back i j n w2 (starts i j st.0 st.1) run in (y.0, (y.1.1.1 ∙ y.1.1.2) ∙ y.1.2, y.2);
  }

  three_follow : (a b c ab k : Change) (F G H T : Runs Given Returned Stuck) → Composes a b ab → Composes ab c k → Carries (alike p f) F G a → Carries alike_always G H b → Carries (alike_where (BeginsWith kinds g)) H T c → Carries (alike_where (IsAsked p f)) F T k
  three_follow a b c ab k F G H T first second inlines unrolls thin =
      once k F T (carries_both (both (alike p f) alike_always) (alike_where (BeginsWith kinds g)) ab c k second F H T (carries_both (alike p f) alike_always a b ab first F G H inlines unrolls) thin)

-- ---- of an expansion

module _ (p : Program) (f g : Fun) (k : Change) (count : ℕ) (typed : IsTypedProgram p) (text : IsText p) (has : Contains p.funs f) (exported : is_exported f.kind ≡ true) (x : IsExpansion p f g k count) where
  abbrev inlined : Fun
  inlined = inlined_function p f

  whole : IsTypedText p
  whole = record { typed = typed; text = text }

  ready : IsReady (copied_kinds p f) (plain_body x.unrolled)
  ready =
      ready_law p f (inline_names (variables_of inlined)) no_numbers x.body.behind (plain_body x.unrolled) x.rounds whole has
      (subst (λ (t : Block). Unrolls (unrolling (inline_names (variables_of inlined))) t no_numbers done (plain_body x.unrolled) x.body.behind x.rounds) (sym (inlined_is p f)) x.body.body)

  abbrev entered_with : List Value → Memory → List Param → State
  entered_with words memory ps = record { store = with_arguments ps words empty_store; memory = memory }

  begins_with : (given : Given) → IsAsked p f given → BeginsWith (copied_kinds p f) x.unrolled given
  begins_with given i =
      subst (λ ps. IsOfKinds (copied_kinds p f) (entered_with given.words given.memory ps)) (sym x.head.params) (entry_law p f given.words given.memory whole i.0 i.1)

  plain : GivesPlain inlined
  plain =
      (unrollable p f typed text has
      (All-contains (λ h. IsNamed (inlines_of h) (body_of p h)) p.funs f (named_law p whole) has)
      (called_law p f whole has exported x.within)
      (λ j q l. (results_law p f whole has j q l).1)).plain

  first : Carries (alike p f) (runs_of p f) (body_runs (plain_body inlined) inlined) (inlining_of p f)
  first = carries_inlined p f (All-contains (IsTypedFunction p) p.funs f (bodies_law p typed text) has) exported

  second : Carries alike_always (body_runs (plain_body inlined) inlined) (body_runs (plain_body x.unrolled) x.unrolled) x.rounds
  second = rounds.keeps_runs inlined x.unrolled x.rounds x.body x.head plain

  abbrev made : Fun
  made = function_with_scalars x.unrolled

  third : Carries (alike_where (BeginsWith (copied_kinds p f) x.unrolled)) (body_runs (plain_body x.unrolled) x.unrolled) (body_runs (plain_body made) made) (scalar_change x.unrolled)
  third = (thins.keeps_runs x.unrolled made (scalar_change x.unrolled) (record { function = refl; change = refl }) (copied_kinds p f) ready).runs

  abbrev change : Change
  change = compose_of (compose_of (inlining_of p f) x.rounds) (scalar_change x.unrolled)

  all_three : Carries (alike_where (IsAsked p f)) (runs_of p f) (body_runs (plain_body made) made) change
  all_three =
      three_follow p f x.unrolled (copied_kinds p f) begins_with (inlining_of p f) x.rounds (scalar_change x.unrolled) (compose_of (inlining_of p f) x.rounds) change
      (runs_of p f) (body_runs (plain_body inlined) inlined) (body_runs (plain_body x.unrolled) x.unrolled) (body_runs (plain_body made) made)
      (composes (inlining_of p f) x.rounds) (composes (compose_of (inlining_of p f) x.rounds) (scalar_change x.unrolled)) first second third

  expanded_to : IsExpandedTo p f g k
  expanded_to = record {
    params = ap (λ (h : Fun). h.params) x.function ∙ x.head.params;
    result = ap (λ (h : Fun). h.result) x.function ∙ x.head.result;
    carries =
        subst (λ h. Carries (alike_where (IsAsked p f)) (runs_of p f) (body_runs (plain_body h) h) k) (sym x.function)
        (subst (λ c. Carries (alike_where (IsAsked p f)) (runs_of p f) (body_runs (plain_body made) made) c) (sym x.change) all_three);
  }

pub expansions_keep_runs : ExpansionsKeepRuns
expansions_keep_runs p f g k count typed text has exported x = expanded_to p f g k count typed text has exported x
