-- An example of a view: the events that a transformer gives of a leak. A statement is shown as the
-- function that gives its events by its case, a turn as one of the parts of its loop, a round as
-- one of its tree.
use Rattle.std.proofs.Common.{◌≡◌, ℕ, List, [], ◌∷◌, ◌++◌, refl, ap, ap₂, ◌∙◌, append-nil}
use Rattle.jz_leak.specs.declared.event.Event.{Event}
use Rattle.jz_leak.specs.declared.transformer.Tr.{Tr}
use Rattle.jz_leak.specs.declared.transformer.Case.{Case}
use Rattle.jz_leak.specs.declared.transformer.Case.TheViews.{out-Case}
use Rattle.jz_leak.specs.RunLeaks.{Leak, over, ran, chose, chose_cut, looped, looped_cut, each, each_cut, called, called_cut, Turns, left, turn, prologue_cut, wanted, body_cut, Rounds, no_round, round, round_cut}
use Rattle.jz_leak.specs.Applying.{Loop, events_for, op_events, if_events, while_events, for_events, call_events, begun_call_events, head_events, body_events, turns_events, rounds_events}
use Rattle.jz_runs.specs.Views.{View, leak_view, turns_view, rounds_view}

-- functions and what they are of, in step
abbrev in_step : {A E : Type 0} → List (A → List E) → List A → List E
in_step (f ∷ fs) (x ∷ xs) = f x ++ in_step fs xs
in_step _ xs = []

-- all the functions of one thing
abbrev all_of : {A E : Type 0} → List (A → List E) → A → List E
all_of (f ∷ fs) x = f x ++ all_of fs x
all_of [] x = []

abbrev events_view : ℕ → View (Case → List Event) (Loop → List Event) (Tr → List Event)
events_view rsp0 =
    record {
      operation = λ ns. op_events rsp0 ns ∷ [];
      choice = λ ns z fs. (λ c. if_events rsp0 ns z (in_step fs) (out-Case c)) ∷ [];
      cut_choice = λ ns z fs. (λ c. if_events rsp0 ns z (in_step fs) (out-Case c)) ∷ [];
      turns = λ fs. (λ c. while_events (all_of fs) (out-Case c)) ∷ [];
      cut_turns = λ fs. (λ c. while_events (all_of fs) (out-Case c)) ∷ [];
      rounds = λ fs. (λ c. for_events (in_step fs) (out-Case c)) ∷ [];
      cut_rounds = λ fs. (λ c. for_events (in_step fs) (out-Case c)) ∷ [];
      call = λ ns fs ms. (λ c. call_events rsp0 ns ms (in_step fs) (out-Case c)) ∷ [];
      cut_call = λ ns fs. (λ c. begun_call_events rsp0 ns (in_step fs) (out-Case c)) ∷ [];
      last_turn = λ fs ns. (λ loop. head_events rsp0 ns (in_step fs) loop ++ events_for ns rsp0 loop.leave_outs) ∷ [];
      whole_turn = λ fs ns gs. (λ loop. head_events rsp0 ns (in_step fs) loop ++ events_for ns rsp0 loop.more_outs ++ in_step gs loop.body.cases) ∷ [];
      cut_prologue = λ fs. (λ loop. in_step fs loop.prologue.cases) ∷ [];
      wanted_turn = λ fs ns. (λ loop. head_events rsp0 ns (in_step fs) loop ++ events_for ns rsp0 loop.more_outs) ∷ [];
      cut_turn = λ fs ns gs. (λ loop. head_events rsp0 ns (in_step fs) loop ++ events_for ns rsp0 loop.more_outs ++ in_step gs loop.body.cases) ∷ [];
      whole_round = λ fs. (λ t. in_step fs t.cases) ∷ [];
      cut_round = λ fs. (λ t. in_step fs t.cases) ∷ [];
    }

module _ (rsp0 : ℕ) where
  mutual
    events_so : (l : Leak) (cs : List Case) → in_step (leak_view (events_view rsp0) l) cs ≡ body_events l rsp0 cs
    events_so over cs = refl
    events_so (ran ns l) [] = refl
    events_so (ran ns l) (c ∷ cs) = ap (λ es. op_events rsp0 ns c ++ es) (events_so l cs)
    events_so (chose ns z a l) [] = refl
    events_so (chose ns z a l) (c ∷ cs) =
        let e : in_step (leak_view (events_view rsp0) a) ≡ body_events a rsp0 = (λ i xs. events_so a xs i) in
        ap₂ (λ f es. if_events rsp0 ns z f (out-Case c) ++ es) e (events_so l cs)
    events_so (chose_cut ns z a) [] = refl
    events_so (chose_cut ns z a) (c ∷ cs) =
        let e : in_step (leak_view (events_view rsp0) a) ≡ body_events a rsp0 = (λ i xs. events_so a xs i) in
        append-nil (if_events rsp0 ns z (in_step (leak_view (events_view rsp0) a)) (out-Case c)) ∙ ap (λ f. if_events rsp0 ns z f (out-Case c)) e
    events_so (looped ts l) [] = refl
    events_so (looped ts l) (c ∷ cs) =
        let e : all_of (turns_view (events_view rsp0) ts) ≡ turns_events ts rsp0 = (λ i loop. turns_so ts loop i) in
        ap₂ (λ f es. while_events f (out-Case c) ++ es) e (events_so l cs)
    events_so (looped_cut ts) [] = refl
    events_so (looped_cut ts) (c ∷ cs) =
        let e : all_of (turns_view (events_view rsp0) ts) ≡ turns_events ts rsp0 = (λ i loop. turns_so ts loop i) in
        append-nil (while_events (all_of (turns_view (events_view rsp0) ts)) (out-Case c)) ∙ ap (λ f. while_events f (out-Case c)) e
    events_so (each rs l) [] = refl
    events_so (each rs l) (c ∷ cs) =
        let e : in_step (rounds_view (events_view rsp0) rs) ≡ rounds_events rs rsp0 = (λ i trs. rounds_so rs trs i) in
        ap₂ (λ f es. for_events f (out-Case c) ++ es) e (events_so l cs)
    events_so (each_cut rs) [] = refl
    events_so (each_cut rs) (c ∷ cs) =
        let e : in_step (rounds_view (events_view rsp0) rs) ≡ rounds_events rs rsp0 = (λ i trs. rounds_so rs trs i) in
        append-nil (for_events (in_step (rounds_view (events_view rsp0) rs)) (out-Case c)) ∙ ap (λ f. for_events f (out-Case c)) e
    events_so (called ns b ms l) [] = refl
    events_so (called ns b ms l) (c ∷ cs) =
        let e : in_step (leak_view (events_view rsp0) b) ≡ body_events b rsp0 = (λ i xs. events_so b xs i) in
        ap₂ (λ f es. call_events rsp0 ns ms f (out-Case c) ++ es) e (events_so l cs)
    events_so (called_cut ns b) [] = refl
    events_so (called_cut ns b) (c ∷ cs) =
        let e : in_step (leak_view (events_view rsp0) b) ≡ body_events b rsp0 = (λ i xs. events_so b xs i) in
        append-nil (begun_call_events rsp0 ns (in_step (leak_view (events_view rsp0) b)) (out-Case c)) ∙ ap (λ f. begun_call_events rsp0 ns f (out-Case c)) e

    turns_so : (ts : Turns) (loop : Loop) → all_of (turns_view (events_view rsp0) ts) loop ≡ turns_events ts rsp0 loop
    turns_so (left p ns) loop =
        append-nil (head_events rsp0 ns (in_step (leak_view (events_view rsp0) p)) loop ++ events_for ns rsp0 loop.leave_outs)
        ∙ ap (λ es. es ++ events_for ns rsp0 loop.test ++ events_for ns rsp0 loop.leave_outs) (events_so p loop.prologue.cases)
    turns_so (turn p ns b ts) loop =
        ap (λ es. es ++ events_for ns rsp0 loop.test ++ events_for ns rsp0 loop.more_outs ++ in_step (leak_view (events_view rsp0) b) loop.body.cases ++ all_of (turns_view (events_view rsp0) ts) loop) (events_so p loop.prologue.cases)
        ∙ ap₂ (λ es fs. body_events p rsp0 loop.prologue.cases ++ events_for ns rsp0 loop.test ++ events_for ns rsp0 loop.more_outs ++ es ++ fs) (events_so b loop.body.cases) (turns_so ts loop)
    turns_so (prologue_cut p) loop = append-nil (in_step (leak_view (events_view rsp0) p) loop.prologue.cases) ∙ events_so p loop.prologue.cases
    turns_so (wanted p ns) loop =
        append-nil (head_events rsp0 ns (in_step (leak_view (events_view rsp0) p)) loop ++ events_for ns rsp0 loop.more_outs)
        ∙ ap (λ es. es ++ events_for ns rsp0 loop.test ++ events_for ns rsp0 loop.more_outs) (events_so p loop.prologue.cases)
    turns_so (body_cut p ns b) loop =
        append-nil (head_events rsp0 ns (in_step (leak_view (events_view rsp0) p)) loop ++ events_for ns rsp0 loop.more_outs ++ in_step (leak_view (events_view rsp0) b) loop.body.cases)
        ∙ ap₂ (λ es fs. es ++ events_for ns rsp0 loop.test ++ events_for ns rsp0 loop.more_outs ++ fs) (events_so p loop.prologue.cases) (events_so b loop.body.cases)

    rounds_so : (rs : Rounds) (trs : List Tr) → in_step (rounds_view (events_view rsp0) rs) trs ≡ rounds_events rs rsp0 trs
    rounds_so no_round trs = refl
    rounds_so (round a rs) [] = refl
    rounds_so (round a rs) (t ∷ ts) = ap₂ (λ es fs. es ++ fs) (events_so a t.cases) (rounds_so rs ts)
    rounds_so (round_cut a) [] = refl
    rounds_so (round_cut a) (t ∷ ts) = append-nil (in_step (leak_view (events_view rsp0) a) t.cases) ∙ events_so a t.cases
