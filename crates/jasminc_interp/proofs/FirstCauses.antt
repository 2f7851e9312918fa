-- Which cause is the first, and when none stands.
use Rattle.std.proofs.Common.{◌≡◌, ℕ, ◌<◌, List, length, ◌∙◌, arith, Some, None, subst, ap, refl, sym}
use Rattle.std.specs.Prelude.{All, Result, Ok, Err, slice_get}
use Rattle.jz_tree.specs.Failure.{Failure}
use Rattle.jz_tree.specs.Failure.TheVariants as failure
use Rattle.jz_tree.specs.Failures.{IfRefused, IfAnswered}
use Rattle.jz_tree.specs.declared.program.Fun.{Fun}
use Rattle.jz_tree.specs.declared.program.Program.{Program}
use Rattle.jz_annotations.specs.declared.precondition.Pre.{Pre}
use Rattle.jz_items.specs.declared.item.Item.{Item}
use Rattle.jasminc_source.specs.declared.limits.FunLimit.{FunLimit}
use Rattle.jasminc_source.specs.declared.unread.Unread as source
use Rattle.jasminc_interp.specs.declared.refused.Refused.{Refused}
use Rattle.jasminc_interp.specs.declared.refused.Refused.TheVariants.{Unread, NoFunction, Limit, Items, Unmet}
use Rattle.jasminc_interp.specs.declared.telling.Ran.{Ran}
use Rattle.jasminc_source.specs.Texts.{TypesAs}
use Rattle.jasminc_source.specs.Unreadable.{IsUnread, unread_stage}
use Rattle.jasminc_source.specs.Exports.{export_named, WithinIfExported, HasLimit}
use Rattle.jasminc_calls.specs.Calls.{AllHold, BreaksFirst}
use Rattle.jasminc_interp.specs.Runs.{RunsOn}
use Rattle.jasminc_interp.specs.InnerRuns.{IsRunAt, FunctionAnswers}
use Rattle.jasminc_interp.specs.Causes.{HasNoExport, PassesLimit, HasOtherItems, BreaksPrecondition, Cause, stage_of, Clear, IsFirstCause}
use Rattle.jasminc_interp.specs.Answers.{all_stages, Answers, IsDone}
use Rattle.jasminc_source.proofs.Causing.{types_as_read, first_unread, unread_early, types_one}
use Rattle.jasminc_source.proofs.Limiting.{none_passes}
use Rattle.jasminc_interp.proofs.Told.{same_fun}
use Rattle.jasminc_calls.proofs.Suiting.{none_breaks}

-- ---- what excludes the causes before a stage
pub record Excludes (text fun : List ℕ) (items : List Item) (n : ℕ) : Type 0 where
  pub reading : (u : source.Unread) → unread_stage u < n → IsUnread text u → ⊥
  pub named : (name : List ℕ) → 5 < n → HasNoExport text fun name → ⊥
  pub limits : (l : FunLimit) → 6 < n → PassesLimit text l → ⊥
  pub counted : 10 < n → HasOtherItems text fun items → ⊥
  pub met : (pre : Pre) → 11 < n → BreaksPrecondition text fun items pre → ⊥

cleared : (text fun : List ℕ) (items : List Item) (n : ℕ) → Excludes text fun items n → Clear text fun items n
cleared text fun items n e (Unread u) lt c = e.reading u lt c
cleared text fun items n e (NoFunction name) lt c = e.named name lt c
cleared text fun items n e (Limit l) lt c = e.limits l lt c
cleared text fun items n e Items lt c = e.counted lt c
cleared text fun items n e (Unmet pre) lt c = e.met pre lt c

first_with : (text fun : List ℕ) (items : List Item) (r : Refused) → Cause text fun items r → Excludes text fun items (stage_of r) → IsFirstCause text fun items r
first_with text fun items r c e = record { cause = c; first = cleared text fun items (stage_of r) e }

module _ (text fun : List ℕ) (items : List Item) where
  -- ---- a text without a typed program
  before_reading : (u : source.Unread) → IsUnread text u → Excludes text fun items (unread_stage u)
  before_reading u h =
      let early = unread_early u in
      record {
        reading = λ v lt c. first_unread text u v h lt c;
        named = λ name lt c. absurd (omega (arith, early, lt));
        limits = λ l lt c. absurd (omega (arith, early, lt));
        counted = λ lt c. absurd (omega (arith, early, lt));
        met = λ pre lt c. absurd (omega (arith, early, lt));
      }

  reading_first : (u : source.Unread) → IsUnread text u → IsFirstCause text fun items (Unread u)
  reading_first u c = first_with text fun items (Unread u) c (before_reading u c)

  -- ---- a typed text
  module _ (p : Program) (t : TypesAs text p) where
    before_names : Excludes text fun items 5
    before_names = record {
      reading = λ u lt c. types_as_read text p t u c;
      named = λ name lt c. absurd (omega (arith, lt));
      limits = λ l lt c. absurd (omega (arith, lt));
      counted = λ lt c. absurd (omega (arith, lt));
      met = λ pre lt c. absurd (omega (arith, lt));
    }

    pub function_first : export_named fun p.funs ≡ None → IsFirstCause text fun items (NoFunction fun)
    function_first none = first_with text fun items (NoFunction fun) (record { program = p; types = t; none = none; named = refl }) before_names

    -- ---- with the function
    module _ (f : Fun) (found : export_named fun p.funs ≡ Some f) where
      pub has_function : (name : List ℕ) → HasNoExport text fun name → ⊥
      has_function name h =
          let same = types_one text p h.program t h.types in
          let none : export_named fun p.funs ≡ None = ap (λ (q : Program). export_named fun q.funs) same ∙ h.none in cc

      pub has_items : length items ≡ length f.params → HasOtherItems text fun items → ⊥
      has_items many h =
          let same = types_one text p h.program t h.types in
          let both : export_named fun p.funs ≡ Some h.function = ap (λ (q : Program). export_named fun q.funs) same ∙ h.found in
          let one = same_fun f h.function (export_named fun p.funs) found both in
          h.differ (many ∙ ap (λ (g : Fun). length g.params) one)

      pub all_met : AllHold f items → (pre : Pre) → BreaksPrecondition text fun items pre → ⊥
      all_met held pre h =
          let same = types_one text p h.program t h.types in
          let both : export_named fun p.funs ≡ Some h.function = ap (λ (q : Program). export_named fun q.funs) same ∙ h.found in
          let one = same_fun f h.function (export_named fun p.funs) found both in
          none_breaks h.function items pre (subst (λ (g : Fun). AllHold g items) one held) h.breaks

      before_limits : Excludes text fun items 6
      before_limits = record {
        reading = λ u lt c. types_as_read text p t u c;
        named = λ name lt c. has_function name c;
        limits = λ l lt c. absurd (omega (arith, lt));
        counted = λ lt c. absurd (omega (arith, lt));
        met = λ pre lt c. absurd (omega (arith, lt));
      }

      limit_first : (l : FunLimit) → HasLimit p l → IsFirstCause text fun items (Limit l)
      limit_first l h = first_with text fun items (Limit l) (record { program = p; types = t; limit = h }) before_limits

      -- ---- within the limits
      module _ (within : All (WithinIfExported p) p.funs) where
        no_limit : (l : FunLimit) → PassesLimit text l → ⊥
        no_limit l h = none_passes p l within (subst (λ (q : Program). HasLimit q l) (types_one text h.program p h.types t) h.limit)

        before_items : Excludes text fun items 10
        before_items = record {
          reading = λ u lt c. types_as_read text p t u c;
          named = λ name lt c. has_function name c;
          limits = λ l lt c. no_limit l c;
          counted = λ lt c. absurd (omega (arith, lt));
          met = λ pre lt c. absurd (omega (arith, lt));
        }

        items_first : (length items ≡ length f.params → ⊥) → IsFirstCause text fun items Items
        items_first differ =
            first_with text fun items Items (record { program = p; types = t; function = f; found = found; differ = differ }) before_items

        before_met : length items ≡ length f.params → Excludes text fun items 11
        before_met many = record {
          reading = λ u lt c. types_as_read text p t u c;
          named = λ name lt c. has_function name c;
          limits = λ l lt c. no_limit l c;
          counted = λ lt c. has_items many c;
          met = λ pre lt c. absurd (omega (arith, lt));
        }

        unmet_first : (pre : Pre) → length items ≡ length f.params → BreaksFirst f items pre → IsFirstCause text fun items (Unmet pre)
        unmet_first pre many breaks =
            first_with text fun items (Unmet pre) (record { program = p; types = t; function = f; found = found; many = many; breaks = breaks }) (before_met many)

        before_all : length items ≡ length f.params → AllHold f items → Excludes text fun items all_stages
        before_all many held = record {
          reading = λ u lt c. types_as_read text p t u c;
          named = λ name lt c. has_function name c;
          limits = λ l lt c. no_limit l c;
          counted = λ lt c. has_items many c;
          met = λ pre lt c. all_met held pre c;
        }

        run_done : (fuel : ℕ) (x : Ran) → length items ≡ length f.params → AllHold f items → RunsOn p f items fuel x → IsDone text fun items fuel x
        run_done fuel x many held runs = record {
          clear = cleared text fun items all_stages (before_all many held);
          gives = record { program = p; types = t; function = f; found = found; runs = runs };
        }

        -- ---- what the function at its place answers
        module _ (place fuel : ℕ) (there : slice_get p.funs place ≡ Some f) where
          done_at : (x : Ran) → IsRunAt p place items fuel x → IsDone text fun items fuel x
          done_at x h =
              let same = same_fun h.function f (slice_get p.funs place) h.there there in
              run_done fuel x (subst (λ (g : Fun). length items ≡ length g.params) same h.many) (subst (λ (g : Fun). AllHold g items) same h.held)
              (subst (λ (g : Fun). RunsOn p g items fuel x) same h.runs)

          refused_at : (r : Refused) → FunctionAnswers p place items fuel (Err r) → IsFirstCause text fun items r
          refused_at Items h =
              let same = same_fun h.function f (slice_get p.funs place) h.there there in
              items_first (subst (λ (g : Fun). length items ≡ length g.params → ⊥) same h.differ)
          refused_at (Unmet pre) h =
              let same = same_fun h.function f (slice_get p.funs place) h.there there in
              unmet_first pre (subst (λ (g : Fun). length items ≡ length g.params) same h.many) (subst (λ (g : Fun). BreaksFirst g items pre) same h.breaks)
          refused_at (Unread u) h = absurd h
          refused_at (NoFunction name) h = absurd h
          refused_at (Limit l) h = absurd h

          pub function_answers : (answer : Result Ran (Failure Refused)) → IfAnswered answer (FunctionAnswers p place items fuel) → IfAnswered answer (Answers text fun items fuel)
          function_answers (Ok x) h = done_at x h
          function_answers (Err (failure.Refused r)) h = refused_at r h
          function_answers (Err failure.OutOfMemory) h = tt

-- ---- the same of failures
answered : (text fun : List ℕ) (items : List Item) (fuel : ℕ) (P : Refused → Type 0) (e : Failure Refused) → ((r : Refused) → P r → IsFirstCause text fun items r) → IfRefused e P
    → IfAnswered {A = Ran} (Err e) (Answers text fun items fuel)
answered text fun items fuel P (failure.Refused r) f h = f r h
answered text fun items fuel P failure.OutOfMemory f h = tt

-- no typed program, as a refusal
abbrev pub IsUnreadable : List ℕ → Refused → Type 0
IsUnreadable text r = (u : source.Unread) × (r ≡ Unread u) × IsUnread text u

pub reading_fails : (text fun : List ℕ) (items : List Item) (fuel : ℕ) (e : Failure Refused) → IfRefused e (IsUnreadable text) → IfAnswered {A = Ran} (Err e) (Answers text fun items fuel)
reading_fails text fun items fuel e h =
    answered text fun items fuel (IsUnreadable text) e (λ r k. subst (IsFirstCause text fun items) (sym k.1) (reading_first text fun items k.0 k.2)) h

-- a limit, as a refusal
abbrev pub IsLimit : Program → Refused → Type 0
IsLimit p r = (l : FunLimit) × (r ≡ Limit l) × HasLimit p l

pub limits_fail : (text fun : List ℕ) (items : List Item) (fuel : ℕ) (p : Program) (f : Fun) (e : Failure Refused) → TypesAs text p → export_named fun p.funs ≡ Some f → IfRefused e (IsLimit p)
    → IfAnswered {A = Ran} (Err e) (Answers text fun items fuel)
limits_fail text fun items fuel p f e t found h =
    answered text fun items fuel (IsLimit p) e (λ r k. subst (IsFirstCause text fun items) (sym k.1) (limit_first text fun items p t f found k.0 k.2)) h
