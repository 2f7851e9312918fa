-- The runs of the source, of the expansion and over variables, one beside the other, down to the bytes.
use Rattle.std.proofs.Common.{◌≡◌, ℕ, List, refl, sym, ap, ◌∙◌, subst}
use Rattle.jz_words.specs.Memory.{Memory}
use Rattle.jz_leak.specs.RunLeaks.{Leak}
use Rattle.jz_leak.specs.Applying.{apply_of, Fits}
use Rattle.jz_tree.specs.declared.program.Fun.{Fun}
use Rattle.jz_tree.specs.declared.program.Program.{Program}
use Rattle.jz_runs.specs.Rules.{stuck, went, Outcome, End, Cut, Stuck, Goes}
use Rattle.jz_meaning.specs.declared.value.Stuck.{Stuck as Reason}
use Rattle.jz_meaning.specs.Attempts.{Evaluation}
use Rattle.jz_meaning.specs.States as source
use Rattle.jz_meaning.specs.States.{Value}
use Rattle.jz_meaning.specs.Statements as statements
use Rattle.jz_meaning.specs.Runs.{Returned, FunOutcome, IsInput, IsRun, entry_state, result_words, outcome_of_words, outcome_of_body}
use Rattle.jz_meaning.proofs.RunLaws.{fun_some}
use Rattle.jz_preconditions.specs.Meeting as declared
use Rattle.jz_operations.specs.Values.{State}
use Rattle.jz_placing.specs.Variables.{variables}
use Rattle.jz_change.specs.Changes.{Change, map_of}
use Rattle.jz_change.specs.Fitting.{LeakFits}
use Rattle.jz_change.specs.Composing.{compose_of, Composes}
use Rattle.jz_change.specs.Flattening.{flatten_of, Flattens}
use Rattle.jz_change.proofs.Composition.{composes}
use Rattle.jz_change.proofs.FlatEvents.{flattens}
use Rattle.jz_pass.specs.Laws.{Follows, has_ended, was_cut, was_stuck}
use Rattle.jz_function_runs.specs.Functions.{Given, body_runs, IsBodyRun}
use Rattle.jz_function_runs.specs.FunctionRuns.{plain_body, alike_where}
use Rattle.jz_place.specs.Bodies as ir
use Rattle.jz_homes.specs.Homes.{IsRelated}
use Rattle.jz_lowered.specs.Bodies.{beside}
use Rattle.jz_lowered.specs.Functions.{entry_of, ArePassed}
use Rattle.jz_lowered.proofs.Entries.{entered}
use Rattle.jz_listing.specs.declared.compiled.Compiled.{Compiled}
use Rattle.x64_machine.specs.Steps.{Config}
use Rattle.jz_correct.specs.Registers.{argument_registers, result_registers}
use Rattle.jz_correct.specs.Starts as printed
use Rattle.jz_correct.specs.Starts.{IsStart}
use Rattle.jz_correct.specs.Agreement.{EndsWith}
use Rattle.jz_called.specs.Laying.{frame_of}
use Rattle.jz_called.specs.Called.{Begins, DoesAsCalled}
use Rattle.jz_called.proofs.Calls.{called}
use Rattle.jz_compiled.specs.Matching.{values_of, MatchesEnd, MatchesCut, Matches, CarriesOver}
use Rattle.jz_compiled.proofs.Printed.{meets_printed}
use Rattle.jz_joined.specs.Making.{IsAsked, IsMade, parameters_of}
use Rattle.jz_joined.proofs.Inputs.{all_fit, words_for, begins}
use Rattle.jz_joined.proofs.Returning.{all_given}

-- ---- an end of a function is an end of its body, whose results have words
pub record EndsSo (f : Fun) (b : statements.Block) (given : Given) (n m : ℕ) (r : Returned) (l : Leak) : Type 0 where
  pub last : source.State
  pub goes : Goes statements.source b n (entry_state f given.words given.memory) (End last m l)
  pub numbers : List ℕ
  pub given_back : result_words f.result last.store ≡ went numbers r.words
  pub memory : last.memory ≡ r.memory

same_end : (r q : Returned) (n m : ℕ) (l k : Leak) → ◌≡◌ {A = FunOutcome} (End r n l) (End q m k) → (r ≡ q) × (n ≡ m) × (l ≡ k)
same_end r q n m l k e = let a : r ≡ q = cc in let b : n ≡ m = cc in let c : l ≡ k = cc in (a, b, c)

words_end : (f : Fun) (b : statements.Block) (given : Given) (n : ℕ) (last : source.State) (m2 m : ℕ) (l2 l : Leak) (r : Returned) (w : Evaluation (List Value)) → result_words f.result last.store ≡ w
    → Goes statements.source b n (entry_state f given.words given.memory) (End last m2 l2) → outcome_of_words last.memory m2 l2 w ≡ End r m l → EndsSo f b given n m r l
words_end f b given n last m2 m l2 l r (stuck w) is goes e = cc
words_end f b given n last m2 m l2 l r (went ns vs) is goes e =
    let h = same_end (record { words = vs; memory = last.memory }) r m2 m l2 l e in
    record {
      last = last;
      goes = subst (λ x. Goes statements.source b n (entry_state f given.words given.memory) (End last x l)) h.1
          (subst (λ x. Goes statements.source b n (entry_state f given.words given.memory) (End last m2 x)) h.2 goes);
      numbers = ns;
      given_back = is ∙ ap (λ (x : Returned). went ns x.words) h.0;
      memory = ap (λ (x : Returned). x.memory) h.0;
    }

pub body_end : (f : Fun) (b : statements.Block) (given : Given) (n m : ℕ) (r : Returned) (l : Leak) (out : Outcome source.State Reason Leak)
    → Goes statements.source b n (entry_state f given.words given.memory) out → outcome_of_body f.result out ≡ End r m l → EndsSo f b given n m r l
body_end f b given n m r l (End last m2 l2) goes e = words_end f b given n last m2 m l2 l r (result_words f.result last.store) refl goes e
body_end f b given n m r l (Cut k) goes e = cc
body_end f b given n m r l (Stuck w) goes e = cc

run_end : (f : Fun) (b : statements.Block) (given : Given) (n m : ℕ) (r : Returned) (l : Leak) → IsBodyRun b f given n (End r m l) → EndsSo f b given n m r l
run_end f b given n m r l h = body_end f b given n m r l h.out h.goes h.gives

-- and a cut is a cut
words_cut : (memory : Memory) (n : ℕ) (k l : Leak) (w : Evaluation (List Value)) → outcome_of_words memory n k w ≡ Cut l → ⊥
words_cut memory n k l (stuck w) e = cc
words_cut memory n k l (went ns vs) e = cc

same_cut : (k l : Leak) → ◌≡◌ {A = FunOutcome} (Cut k) (Cut l) → k ≡ l
same_cut k l e = cc

pub body_cut : (f : Fun) (b : statements.Block) (given : Given) (n : ℕ) (l : Leak) (out : Outcome source.State Reason Leak) → Goes statements.source b n (entry_state f given.words given.memory) out → outcome_of_body f.result out ≡ Cut l
    → Goes statements.source b n (entry_state f given.words given.memory) (Cut l)
body_cut f b given n l (End last m k) goes e = absurd (words_cut last.memory m k l (result_words f.result last.store) e)
body_cut f b given n l (Cut k) goes e = subst (λ x. Goes statements.source b n (entry_state f given.words given.memory) (Cut x)) (same_cut k l e) goes
body_cut f b given n l (Stuck w) goes e = cc

-- ---- one function
module _ (p : Program) (f : Fun) (c : Compiled) (made : IsMade p f c) where
  abbrev both_changes : Change
  both_changes = compose_of made.first made.second

  composed : Composes made.first made.second both_changes
  composed = composes made.first made.second

  flat : Flattens both_changes made.code.transformer (flatten_of both_changes made.code.transformer)
  flat = flattens both_changes made.code.transformer

  -- what the printed transformer makes of a leak
  module _ (l : Leak) (one : LeakFits l made.first) (two : LeakFits (map_of made.first l) made.second) (three : Fits made.code.transformer (map_of made.second (map_of made.first l))) where
    fits_both : LeakFits l both_changes
    fits_both = composed.fits l one two

    last_fits : Fits made.code.transformer (map_of both_changes l)
    last_fits = subst (Fits made.code.transformer) (sym (composed.maps l one two)) three

    fits : Fits c.tr l
    fits = subst (λ t. Fits t l) (sym made.transformer) (flat.fits l fits_both last_fits)

    events : (rsp0 : ℕ) → apply_of made.code.transformer (map_of made.second (map_of made.first l)) rsp0 ≡ apply_of c.tr l rsp0
    events rsp0 =
        ap (λ k. apply_of made.code.transformer k rsp0) (sym (composed.maps l one two))
        ∙ sym (flat.events l rsp0 fits_both last_fits) ∙ ap (λ t. apply_of t l rsp0) (sym made.transformer)

  -- ---- one input
  module _ (words : List ℕ) (memory : Memory) (n : ℕ) (meets : declared.MeetsPreconditions f words memory) where
    abbrev pub values : List Value
    values = values_of c.args words

    abbrev pub given : Given
    given = record { words = values; memory = memory }

    pub as_listed : printed.MeetsPreconditions c words memory
    as_listed = meets_printed f c words memory made.listed.args made.listed.pre meets

    input : IsInput p f values
    input = record { of_program = made.of_program; arguments = all_fit argument_registers f.params c.args words made.listed.args as_listed.sizes }

    pub some_run : (o : FunOutcome) × IsRun p f values memory n o
    some_run = fun_some p f values memory n input

    -- ---- the expansion is not stuck, so the source is not
    expanded_follows : (k : ℕ) (o : FunOutcome) → IsRun p f values memory k o → Follows (alike_where (IsAsked p f)) made.first (body_runs (plain_body made.expanded) made.expanded given k) o
    expanded_follows k o run = made.expansion.carries.forth given given k o (refl, (input, meets.bytes)) run

    -- ---- over variables
    abbrev pub start : source.State
    start = entry_state made.expanded values memory

    abbrev pub begun : State
    begun = entry_of made.home made.expanded.params values memory

    passed : ArePassed made.home argument_registers (parameters_of f) made.body.entry
    passed = subst (λ ps. ArePassed made.home argument_registers ps made.body.entry) (ap (λ ps. parameters_of (record f { params = ps })) made.expansion.params) made.lowering.made.entry

    pub related : IsRelated made.home start begun
    related =
        subst (λ ps. IsRelated made.home (entry_state (record made.expanded { params = ps }) values memory) (entry_of made.home ps values memory)) (sym made.expansion.params)
        (entered (frame_of made.stack) made.home made.lowering.homing memory f.params values (words_for made.home argument_registers f.params made.body.entry c.args words passed made.params as_listed.sizes) meets.bytes)

    pub entry : Begins made.body c.args words memory begun
    entry =
        subst (λ ps. Begins made.body c.args words memory (entry_of made.home ps values memory)) (sym made.expansion.params)
        (begins made.home argument_registers f.params made.body c.args words memory passed made.listed.args)

    pub never : (k : ℕ) → Goes (variables (frame_of made.stack)) (ir.body_of made.body.body) k begun (Stuck tt) → ⊥
    never k g =
        let b = made.lowering.carries.back start begun k tt related g in
        made.safe words memory k b.0 meets (record { out = Stuck b.0; goes = b.2; gives = refl })

    pub does : DoesAsCalled made.body made.stack made.code c
    does = called made.body made.stack made.code c made.ready made.is_code made.has

    -- ---- one start
    module _ (rsp0 base : ℕ) (s : Config) (started : IsStart c words memory rsp0 base s) where
      module _ (l : Leak) (one : LeakFits l made.first) where
        -- an end
        at_end : (m : ℕ) (r : Returned) → EndsSo made.expanded (plain_body made.expanded) given n m r (map_of made.first l) → MatchesEnd c words rsp0 base s n r l
        at_end m r e = from (made.lowering.carries.forth start begun n (End e.last m (map_of made.first l)) related e.goes)
          where
            from : Follows (beside made.home) made.second (λ o. Goes (variables (frame_of made.stack)) (ir.body_of made.body.body) n begun o) (End e.last m (map_of made.first l)) → MatchesEnd c words rsp0 base s n r l
            from (has_ended τ rel two go) =
                let results = subst (λ xs. result_words xs e.last.store ≡ went e.numbers r.words) made.expansion.result e.given_back in
                let returned = subst (λ xs. ArePassed made.home result_registers xs made.body.results) made.expansion.result made.lowering.made.returned in
                let g = all_given made.home e.last τ rel result_registers f.result made.body.results f.rets c.rets e.numbers r.words returned made.listed.rets made.results results in
                let k = does.ends words memory begun as_listed entry never rsp0 base s started n m τ (map_of made.second (map_of made.first l)) g.words go g.results in
                record {
                  fits = fits l one two k.fits;
                  steps = k.steps;
                  within = k.within;
                  results = g.words;
                  given = g.values;
                  ends = subst (λ es. EndsWith c words rsp0 base s k.steps g.words r.memory es) (events l one two k.fits rsp0)
                      (subst (λ x. EndsWith c words rsp0 base s k.steps g.words x (apply_of made.code.transformer (map_of made.second (map_of made.first l)) rsp0)) (rel.memory ∙ e.memory) k.ends);
                }

        -- a cut
        at_cut : Goes statements.source (plain_body made.expanded) n start (Cut (map_of made.first l)) → MatchesCut c rsp0 base s n l
        at_cut goes = from (made.lowering.carries.forth start begun n (Cut (map_of made.first l)) related goes)
          where
            from : Follows (beside made.home) made.second (λ o. Goes (variables (frame_of made.stack)) (ir.body_of made.body.body) n begun o) (Cut (map_of made.first l)) → MatchesCut c rsp0 base s n l
            from (was_cut two go) =
                let k = does.goes_on words memory begun as_listed entry never rsp0 base s started n (map_of made.second (map_of made.first l)) go in
                record {
                  fits = fits l one two k.fits;
                  running = k.running;
                  steps = k.steps;
                  enough = k.enough;
                  within = k.within;
                  running_there = k.running_there;
                  shown = k.shown ∙ events l one two k.fits rsp0;
                  no_fault = k.no_fault;
                }

      matched : (o : FunOutcome) → Follows (alike_where (IsAsked p f)) made.first (body_runs (plain_body made.expanded) made.expanded given n) o → Matches c words rsp0 base s n o
      matched (End r m l) (has_ended r2 same one run) =
          at_end l one m r (subst (λ x. EndsSo made.expanded (plain_body made.expanded) given n m x (map_of made.first l)) (sym same) (run_end made.expanded (plain_body made.expanded) given n m r2 (map_of made.first l) run))
      matched (Cut l) (was_cut one run) = at_cut l one (body_cut made.expanded (plain_body made.expanded) given n (map_of made.first l) run.out run.goes run.gives)
      matched (Stuck w) (was_stuck h) = let k = h tt in made.safe words memory n k.0 meets k.2

      pub matches : (o : FunOutcome) → IsRun p f values memory n o → Matches c words rsp0 base s n o
      matches o run = matched o (expanded_follows n o run)

pub carries : (p : Program) (f : Fun) (c : Compiled) → IsMade p f c → CarriesOver p f c
carries p f c made = record {
  runs = λ words memory n meets. some_run p f c made words memory n meets;
  matches = λ words memory n o meets run rsp0 base s started. matches p f c made words memory n meets rsp0 base s started o run;
}
