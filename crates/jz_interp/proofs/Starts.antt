-- Arguments in, results out, and what a function's body shows.
use Rattle.std.proofs.Common.{◌≡◌, ℕ, ◌+◌, ◌<◌, ◌≤◌, List, [], ◌∷◌, ◌++◌, drop, length, get_or, Option, Some, None, refl, sym, ap, ◌∙◌, subst, append-nil, append_assoc}
use Rattle.std.specs.Prelude.{slice_get}
use Rattle.std.proofs.lemmas.List.{drop_all, map-append}
use Rattle.std.proofs.lemmas.Option.{get_or_from_slice_get}
use Rattle.jz_tree.specs.Word as code_word
use Rattle.jz_tree.specs.Memory.{Memory}
use Rattle.jz_tree.specs.declared.expr.Var.{Var}
use Rattle.jz_tree.specs.declared.program.Program.{Program}
use Rattle.jz_tree.specs.declared.program.Fun.{Fun}
use Rattle.jz_tree.specs.declared.program.Param.{Param}
use Rattle.jz_leak.specs.declared.leak.Item.{Item}
use Rattle.jz_runs.specs.Views.{leak_view, leak_of, items_view}
use Rattle.jz_runs.specs.ShownRuns.{Runs, Leads}
use Rattle.jz_runs.proofs.Items.{items_so}
use Rattle.jz_runs.proofs.Shown.{ended, was_cut, was_stuck, runs_whole}
use Rattle.jz_meaning.specs.Trees.{done}
use Rattle.jz_meaning.specs.Rules.{stuck, went, Outcome, End, Cut, Stuck}
use Rattle.jz_meaning.specs.declared.value.Stuck as why
use Rattle.jz_meaning.specs.Attempts.{Evaluation, and_then, numbers_first}
use Rattle.jz_meaning.specs.States.{Value, word, Store, put, State}
use Rattle.jz_meaning.specs.Values.{key_of, ref_of}
use Rattle.jz_meaning.specs.Statements.{source}
use Rattle.jz_meaning.specs.Runs.{block, callees_of, with_arguments, entry_state, result_word, result_words, outcome_of_words, outcome_of_body, IsInput}
use Rattle.jz_interp.specs.declared.outcome.Outcome as code
use Rattle.jz_interp.specs.declared.outcome.Outcome.TheVariants as outcome
use Rattle.jz_interp.specs.Outcomes.{values_of, Takes, Shows, Interprets}
use Rattle.jz_interp.specs.InnerAnswers.{values_first, BodyShows}
use Rattle.jz_run_assign.proofs.RestLemmas.{rest_at, rest_some, rest_none}

-- ---- arguments

arguments_nil : (ps : List Param) (vs : Store) → with_arguments ps [] vs ≡ vs
arguments_nil [] vs = refl
arguments_nil (p ∷ ps) vs = refl

module _ (ps : List Param) (ws : List code_word.Word) (i : ℕ) (vs whole : Store) (so : with_arguments (drop i ps) (values_of (drop i ws)) vs ≡ whole) where
  pub arguments_end : slice_get ws i ≡ None → vs ≡ whole
  arguments_end e = sym (ap (λ x. with_arguments (drop i ps) (values_of x) vs) (rest_none ws i e) ∙ arguments_nil (drop i ps) vs) ∙ so

  pub arguments_over : length ps ≤ i → vs ≡ whole
  arguments_over le = sym (ap (λ x. with_arguments x (values_of (drop i ws)) vs) (drop_all i ps le)) ∙ so

  pub arguments_more : (p : Param) (w : code_word.Word) (us : Store) → i < length ps → p ≡ get_or ps i p → slice_get ws i ≡ Some w → us ≡ put vs (key_of (ref_of p.var)) (Some (word w.size w.bits)) → with_arguments (drop (i + 1) ps) (values_of (drop (i + 1) ws)) us ≡ whole
  arguments_more p w us lt ip iw iu =
      ap (with_arguments (drop (i + 1) ps) (values_of (drop (i + 1) ws))) iu
      ∙ sym (ap (λ x. with_arguments x (values_of (drop i ws)) vs) (rest_at ps i p lt ip) ∙ ap (λ x. with_arguments (p ∷ drop (i + 1) ps) (values_of x) vs) (rest_some ws i w iw)) ∙ so

-- ---- results

nothing_before : (g : Evaluation (List Value)) → values_first [] g ≡ g
nothing_before (stuck w) = refl
nothing_before (went ns vs) = refl

values_more : (vs : List Value) (v : Value) (g : Evaluation (List Value)) → values_first (vs ++ v ∷ []) g ≡ values_first vs (and_then g (λ ws. went [] (v ∷ ws)))
values_more vs v (stuck w) = refl
values_more vs v (went ns ws) = ap (went ns) (append_assoc vs (v ∷ []) ws) ∙ ap (λ ms. went ms (vs ++ (v ∷ ws))) (sym (append-nil ns))

numbers_none : {A : Type 0} (g : Evaluation A) → numbers_first [] g ≡ g
numbers_none (stuck w) = refl
numbers_none (went ns x) = refl

module _ (xs : List Var) (i : ℕ) (ws : List code_word.Word) (store : Store) (so : values_first (values_of ws) (result_words (drop i xs) store) ≡ result_words xs store) where
  pub results_end : length xs ≤ i → went [] (values_of ws) ≡ result_words xs store
  results_end le = ap (went []) (sym (append-nil (values_of ws))) ∙ sym (ap (λ ys. values_first (values_of ws) (result_words ys store)) (drop_all i xs le)) ∙ so

  module _ (x : Var) (lt : i < length xs) (ix : x ≡ get_or xs i x) where
    at_variable : values_first (values_of ws) (and_then (result_word x store) (λ v. and_then (result_words (drop (i + 1) xs) store) (λ vs. went [] (v ∷ vs)))) ≡ result_words xs store
    at_variable = sym (ap (λ ys. values_first (values_of ws) (result_words ys store)) (rest_at xs i x lt ix)) ∙ so

    pub results_stuck : (k : why.Stuck) → stuck k ≡ result_word x store → stuck k ≡ result_words xs store
    results_stuck k e = ap (λ g. values_first (values_of ws) (and_then g (λ v. and_then (result_words (drop (i + 1) xs) store) (λ vs. went [] (v ∷ vs))))) e ∙ at_variable

    pub results_more : (w : code_word.Word) (us : List code_word.Word) → went [] (word w.size w.bits) ≡ result_word x store → us ≡ ws ++ w ∷ [] → values_first (values_of us) (result_words (drop (i + 1) xs) store) ≡ result_words xs store
    results_more w us e iu =
        ap (λ y. values_first (values_of y) (result_words (drop (i + 1) xs) store)) iu
        ∙ ap (λ y. values_first y (result_words (drop (i + 1) xs) store)) (map-append (λ w. word w.size w.bits) ws (w ∷ []))
        ∙ values_more (values_of ws) (word w.size w.bits) (result_words (drop (i + 1) xs) store)
        ∙ ap (values_first (values_of ws)) (sym (numbers_none (and_then (result_words (drop (i + 1) xs) store) (λ vs. went [] (word w.size w.bits ∷ vs)))))
        ∙ ap (λ g. values_first (values_of ws) (and_then g (λ v. and_then (result_words (drop (i + 1) xs) store) (λ vs. went [] (v ∷ vs))))) e ∙ at_variable

-- ---- a function's body

module _ (fs : List Fun) (f : Fun) (words : List Value) (memory : Memory) (n d : ℕ) (s : State) (id : d ≡ length fs) (is : s ≡ entry_state f words memory) where
  body_runs : (o : Outcome State why.Stuck (List Item)) → Leads items_view source (block (callees_of fs d) f.body) n s o → Runs items_view source (block (callees_of fs (length fs)) f.body done) n (entry_state f words memory) o
  body_runs o h =
      let r = subst (λ x. Leads items_view source (block (callees_of fs x) f.body) n s o) id h in
      let q = subst (λ x. Leads items_view source (block (callees_of fs (length fs)) f.body) n x o) is r in
      runs_whole items_view source (block (callees_of fs (length fs)) f.body) n (entry_state f words memory) o q

  pub body_stuck : (k : why.Stuck) → Leads items_view source (block (callees_of fs d) f.body) n s (Stuck k) → BodyShows fs f words memory n (outcome.Stuck k)
  body_stuck k h = let r = body_runs (Stuck k) h in record { out = r.out; goes = r.goes; shows = subst (λ o. Shows (outcome_of_body f.result o) (outcome.Stuck k)) (sym (was_stuck (leak_view items_view) r.out k r.is)) refl }

  pub body_cut : (items : List Item) → Leads items_view source (block (callees_of fs d) f.body) n s (Cut items) → BodyShows fs f words memory n (outcome.Cut (record { items = items }))
  body_cut items h =
      let r = body_runs (Cut items) h in let x = was_cut (leak_view items_view) r.out items r.is in
      record { out = r.out; goes = r.goes; shows = subst (λ o. Shows (outcome_of_body f.result o) (outcome.Cut (record { items = items }))) (sym x.1) (ap leak_of (sym (items_so x.0) ∙ x.2)) }

  module _ (t : State) (m : ℕ) (items : List Item) (h : Leads items_view source (block (callees_of fs d) f.body) n s (End t m items)) where
    pub results_are_stuck : (k : why.Stuck) → stuck k ≡ result_words f.result t.store → BodyShows fs f words memory n (outcome.Stuck k)
    results_are_stuck k e =
        let r = body_runs (End t m items) h in let x = ended (leak_view items_view) r.out t m items r.is in
        record {
          out = r.out;
          goes = r.goes;
          shows = subst (λ o. Shows (outcome_of_body f.result o) (outcome.Stuck k)) (sym x.1) (subst (λ g. Shows (outcome_of_words t.memory m x.0 g) (outcome.Stuck k)) e refl);
        }

    pub body_ends : (ws : List code_word.Word) → went [] (values_of ws) ≡ result_words f.result t.store → BodyShows fs f words memory n (outcome.End ws t.memory (record { items = items }))
    body_ends ws e =
        let r = body_runs (End t m items) h in let x = ended (leak_view items_view) r.out t m items r.is in
        record {
          out = r.out;
          goes = r.goes;
          shows = subst (λ o. Shows (outcome_of_body f.result o) (outcome.End ws t.memory (record { items = items }))) (sym x.1) (subst (λ g. Shows (outcome_of_words t.memory m x.0 g) (outcome.End ws t.memory (record { items = items }))) e (refl, refl, ap leak_of (sym (items_so x.0) ∙ x.2)));
        }

-- ---- the function at a place

same_function : (f g : Fun) (o : Option Fun) → o ≡ Some f → o ≡ Some g → f ≡ g
same_function f g o p q = cc

pub found_at : (p : Program) (xs : List Fun) (place : ℕ) (f g : Fun) → xs ≡ p.funs → f ≡ get_or xs place f → slice_get p.funs place ≡ Some g → slice_get p.funs place ≡ Some f
found_at p xs place f g e i h = h ∙ ap Some (sym (get_or_from_slice_get p.funs place g f h) ∙ sym (ap (λ ys. get_or ys place f) e) ∙ sym i)

pub interprets : (p : Program) (place : ℕ) (words : List code_word.Word) (memory : Memory) (n : ℕ) (answer : code.Outcome) (f : Fun) → Takes p place words → slice_get p.funs place ≡ Some f → BodyShows p.funs f (values_of words) memory n answer → Interprets p place words memory n answer
interprets p place words memory n answer f h e b =
    let input : IsInput p f (values_of words) = subst (λ g. IsInput p g (values_of words)) (same_function h.function f (slice_get p.funs place) h.there e) h.input in
    record {
      function = f;
      there = e;
      out = outcome_of_body f.result b.out;
      run = record { input = input; out = b.out; goes = b.goes; gives = refl };
      shows = b.shows;
    }
