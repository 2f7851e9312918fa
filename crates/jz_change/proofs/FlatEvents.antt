-- A leak that fits a change, and of which this makes one that fits the last pass, fits what they are together, and shows the same events.
use Rattle.std.proofs.Common.{◌≡◌, ℕ, Bool, true, false, List, [], ◌∷◌, ◌++◌, refl, sym, ap, ◌∙◌, subst, append_assoc, append-nil}
use Rattle.std.specs.Prelude.{if◌then◌else◌, map}
use Rattle.std.proofs.lemmas.List.{map-append}
use Rattle.std.proofs.lemmas.List.Elements.{All-append, All-nil, All-head, All-tail}
use Rattle.jz_leak.specs.declared.event.Event.{Event}
use Rattle.jz_leak.specs.declared.transformer.Out.{Out}
use Rattle.jz_leak.specs.declared.transformer.Tr.{Tr}
use Rattle.jz_leak.specs.declared.transformer.Case.{Case}
use Rattle.jz_leak.specs.declared.transformer.Transformer.{Transformer}
use Rattle.jz_leak.specs.declared.transformer.Case.TheVariants.{Op}
use Rattle.jz_leak.specs.declared.transformer.Case.TheOpen.{Case-F}
use Rattle.jz_leak.specs.declared.transformer.Case.TheViews.{out-Case, roll-Case, out-roll-Case}
use Rattle.jz_leak.specs.RunLeaks.{Leak, over, chose, chose_cut, looped, looped_cut, each, each_cut, Turns, left, prologue_cut, Rounds}
use Rattle.jz_leak.specs.Applying.{Layer, Loop, events_for, is_cut, is_cut_in_turns, is_cut_in_rounds, if_events, while_events, for_events, call_events, begun_call_events, head_events, body_events, turns_events, rounds_events, last_events, OutFits, OutsFit, IfFits, WhileFits, ForFits, CallFits, BegunCallFits, HeadFits, CasesFit, TurnsFit, RoundsFit}
use Rattle.jz_change.specs.declared.change.Numbers.{Numbers}
use Rattle.jz_change.specs.Changes.{numbers_in, Change, stays_if, Changes, operations, map_before, map_turns, map_each, map_rounds, map_of}
use Rattle.jz_change.specs.Fitting.{HasThese, HasAll, LeakFits, fits_over, fits_ran, fits_if, fits_if_cut, fits_arm, fits_arm_cut, fits_while, fits_while_cut, fits_once, fits_once_cut, fits_for, fits_for_cut, fits_unrolled, fits_unrolled_cut, fits_opened, fits_opened_cut, LeakTurnsFit, turns_left, turns_turn, turns_prologue_cut, turns_wanted, turns_body_cut, once_left, once_cut, LeakEachFits, same_none, same_round, same_cut, LeakRoundsFit, own_none, own_round, own_cut}
use Rattle.jz_change.specs.Flattening.{outs_by, FrontOuts, first_outs, FlatCases, FlatRounds, tr_of, flat_arm, flat_if, flat_while, flat_once, flat_for, flat_first, flat, flat_rounds, flatten_of, Flattens}
use Rattle.jz_change.proofs.CutsKept.{map_cut}
use Rattle.jz_change.proofs.Forms.{events_sub, events_both, outs_there, outs_both}

-- ---- lists in other brackets
abbrev Es : Type 0
Es = List Event

abbrev no_events : Es
no_events = []

module _ (rsp : ℕ) where
  -- what the first cases give, where the operations that become them are before k
  record TakenSo (ns : List ℕ) (k : Leak) (es : List Event) (t : FrontOuts) : Type 0 where
    fits : CasesFit k t.rest
    there : OutsFit ns t.outs
    shows : es ≡ events_for ns rsp t.outs ++ body_events k rsp t.rest

  taken_so : (is : List Numbers) (ns : List ℕ) (k : Leak) (b : List Case) → HasAll ns is → CasesFit (operations is ns k) b → TakenSo ns k (body_events (operations is ns k) rsp b) (first_outs is b)
  taken_so [] ns k b t h = record { fits = h; there = All-nil (OutFits ns); shows = refl }
  taken_so (i ∷ is) ns k [] t h = absurd h
  taken_so (i ∷ is) ns k (Op outs ∷ b) t h =
      let r = taken_so is ns k b (All-tail (HasThese ns) i is t) h.1 in
      record {
        fits = r.fits;
        there = All-append (OutFits ns) (outs_by i outs) (first_outs is b).outs (outs_there rsp ns i outs (All-head (HasThese ns) i is t) h.0) r.there;
        shows = ap (λ x. events_for (numbers_in i ns) rsp outs ++ x) r.shows
            ∙ ap (λ x. x ++ (events_for ns rsp (first_outs is b).outs ++ body_events k rsp (first_outs is b).rest)) (sym (events_sub rsp ns i outs))
            ∙ sym (append_assoc (events_for ns rsp (outs_by i outs)) (events_for ns rsp (first_outs is b).outs) (body_events k rsp (first_outs is b).rest))
            ∙ ap (λ x. x ++ body_events k rsp (first_outs is b).rest) (sym (map-append _ (outs_by i outs) (first_outs is b).outs));
      }
  taken_so (i ∷ is) ns k (_ ∷ b) t h = absurd h.0

  -- ---- what is shown of a leak that a change gives before k: the events of the leak by its own cases, and behind them those of k
  pub record Shows (l k : Leak) (es : Es) (f : FlatCases) : Type 0 where
    pub fits : CasesFit l f.cases
    pub more_fits : is_cut l ≡ false → CasesFit k f.rest
    pub shows : es ≡ body_events l rsp f.cases ++ (if is_cut l then [] else body_events k rsp f.rest)

  whole : {l k : Leak} {es : Es} {f : FlatCases} → Shows l k es f → is_cut l ≡ false → es ≡ body_events l rsp f.cases ++ body_events k rsp f.rest
  whole {l} {k} {f} s w = s.shows ∙ ap (λ z. body_events l rsp f.cases ++ (if z then [] else body_events k rsp f.rest)) w

  same_none_shown : (z : Bool) → (if z then no_events else no_events) ≡ no_events
  same_none_shown true = refl
  same_none_shown false = refl

  pub at_over : {l : Leak} {es : Es} {f : FlatCases} → Shows l over es f → es ≡ body_events l rsp f.cases
  at_over {l} {f} s = s.shows ∙ ap (λ x. body_events l rsp f.cases ++ x) (same_none_shown (is_cut l)) ∙ append-nil _

  -- an item's events, and then what follows
  followed : {l k : Leak} {es2 : Es} {es : Es} {f : FlatCases} (first : Es) → es ≡ first ++ es2 → Shows l k es2 f → es ≡ (first ++ body_events l rsp f.cases) ++ (if is_cut l then [] else body_events k rsp f.rest)
  followed {l} {k} {f} first e s = e ∙ ap (λ x. first ++ x) s.shows ∙ sym (append_assoc first (body_events l rsp f.cases) (if is_cut l then [] else body_events k rsp f.rest))

  -- ---- an `if` that stays
  if_there : (ns : List ℕ) (z : Bool) (ArmFits : List Case → Type 0) (v : Layer) → IfFits ns z ArmFits v → IfFits ns z ArmFits (out-Case (roll-Case v))
  if_there ns z ArmFits v h = subst (IfFits ns z ArmFits) (sym (out-roll-Case v)) h

  abbrev Arms : Leak → Leak → (List Case → FlatCases) → Type 0
  Arms a a1 g = (c : List Case) → CasesFit a1 c → Shows a over (body_events a1 rsp c) (g c)

  if_known : (ns : List ℕ) (i : Numbers) (outs : List Out) (z : Bool) (a a1 : Leak) (fa fb : List Case → FlatCases) (next : FlatCases) (v : Layer) → OutsFit ns outs → HasThese ns i
      → Arms a a1 (if z then fa else fb) → IfFits (numbers_in i ns) z (CasesFit a1) v
      → IfFits ns z (CasesFit a) (out-Case (flat_if outs i fa fb v))
      × (events_for ns rsp outs ++ if_events rsp (numbers_in i ns) z (body_events a1 rsp) v ≡ if_events rsp ns z (body_events a rsp) (out-Case (flat_if outs i fa fb v)))
  if_known ns i outs true a a1 fa fb next (Case-F.If test then_outs then_tr else_outs else_tr) t u arms h =
      let s = arms then_tr.cases h.3 in
      let v = Case-F.If (outs ++ outs_by i test) (outs_by i then_outs) (tr_of (fa then_tr.cases).cases) (outs_by i else_outs) (tr_of (fb else_tr.cases).cases) in (
        if_there ns true (CasesFit a) v (outs_both rsp ns outs i test t u h.0, outs_there rsp ns i then_outs u h.1, outs_there rsp ns i else_outs u h.2, s.fits),
        sym (append_assoc (events_for ns rsp outs) (events_for (numbers_in i ns) rsp test) _)
            ∙ ap (λ x. x ++ (events_for (numbers_in i ns) rsp then_outs ++ body_events a1 rsp then_tr.cases)) (sym (events_both rsp ns outs i test))
            ∙ ap (λ x. events_for ns rsp (outs ++ outs_by i test) ++ (x ++ body_events a1 rsp then_tr.cases)) (sym (events_sub rsp ns i then_outs))
            ∙ ap (λ x. events_for ns rsp (outs ++ outs_by i test) ++ (events_for ns rsp (outs_by i then_outs) ++ x)) (at_over s)
            ∙ ap (if_events rsp ns true (body_events a rsp)) (sym (out-roll-Case v)),
      )
  if_known ns i outs false a a1 fa fb next (Case-F.If test then_outs then_tr else_outs else_tr) t u arms h =
      let s = arms else_tr.cases h.3 in
      let v = Case-F.If (outs ++ outs_by i test) (outs_by i then_outs) (tr_of (fa then_tr.cases).cases) (outs_by i else_outs) (tr_of (fb else_tr.cases).cases) in (
        if_there ns false (CasesFit a) v (outs_both rsp ns outs i test t u h.0, outs_there rsp ns i then_outs u h.1, outs_there rsp ns i else_outs u h.2, s.fits),
        sym (append_assoc (events_for ns rsp outs) (events_for (numbers_in i ns) rsp test) _)
            ∙ ap (λ x. x ++ (events_for (numbers_in i ns) rsp else_outs ++ body_events a1 rsp else_tr.cases)) (sym (events_both rsp ns outs i test))
            ∙ ap (λ x. events_for ns rsp (outs ++ outs_by i test) ++ (x ++ body_events a1 rsp else_tr.cases)) (sym (events_sub rsp ns i else_outs))
            ∙ ap (λ x. events_for ns rsp (outs ++ outs_by i test) ++ (events_for ns rsp (outs_by i else_outs) ++ x)) (at_over s)
            ∙ ap (if_events rsp ns false (body_events a rsp)) (sym (out-roll-Case v)),
      )
  if_known ns i outs z a a1 fa fb next _ t u arms h = absurd h

  if_so : (ns : List ℕ) (i : Numbers) (outs : List Out) (z : Bool) (a a1 l k k2 : Leak) (fa fb fr : List Case → FlatCases) (b : List Case) → OutsFit ns outs → HasThese ns i → is_cut a ≡ false
      → Arms a a1 (if z then fa else fb) → ((c : List Case) → CasesFit k2 c → Shows l k (body_events k2 rsp c) (fr c)) → CasesFit (chose (numbers_in i ns) z a1 k2) b
      → Shows (chose ns z a l) k (events_for ns rsp outs ++ body_events (chose (numbers_in i ns) z a1 k2) rsp b) (flat_first fr (flat_if outs i fa fb) b)
  if_so ns i outs z a a1 l k k2 fa fb fr [] t u w arms next h = absurd h
  if_so ns i outs z a a1 l k k2 fa fb fr (c ∷ b) t u w arms next h =
      let s = next b h.2 in
      let q = if_known ns i outs z a a1 fa fb (fr b) (out-Case c) t u arms h.1 in
      (record {
        fits = (w, q.0, s.fits);
        more_fits = s.more_fits;
        shows = followed _ (sym (append_assoc (events_for ns rsp outs) (if_events rsp (numbers_in i ns) z (body_events a1 rsp) (out-Case c)) (body_events k2 rsp b)) ∙ ap (λ x. x ++ body_events k2 rsp b) q.1) s;
      })

  if_cut_so : (ns : List ℕ) (i : Numbers) (outs : List Out) (z : Bool) (a a1 k : Leak) (fa fb fr : List Case → FlatCases) (b : List Case) → OutsFit ns outs → HasThese ns i → is_cut a ≡ true
      → Arms a a1 (if z then fa else fb) → CasesFit (chose_cut (numbers_in i ns) z a1) b
      → Shows (chose_cut ns z a) k (events_for ns rsp outs ++ body_events (chose_cut (numbers_in i ns) z a1) rsp b) (flat_first fr (flat_if outs i fa fb) b)
  if_cut_so ns i outs z a a1 k fa fb fr [] t u w arms h = absurd h
  if_cut_so ns i outs z a a1 k fa fb fr (c ∷ b) t u w arms h =
      let q = if_known ns i outs z a a1 fa fb (fr b) (out-Case c) t u arms h.1 in
      (record {
        fits = (w, q.0);
        more_fits = λ e. absurd cc;
        shows = q.1 ∙ sym (append-nil _);
      })

  pick : (z : Bool) (ta tb : Change) (P : (List Case → FlatCases) → Type 0) → P (flat (if z then ta else tb)) → P (if z then flat ta else flat tb)
  pick true ta tb P p = p
  pick false ta tb P p = p

  -- ---- an arm alone
  pruned_known : (ns : List ℕ) (z : Bool) (a : Leak) (outs : List Out) (cs : List Case) → OutsFit ns outs → CasesFit a cs
      → IfFits ns z (CasesFit a) (out-Case (roll-Case (flat_arm z outs cs)))
      × (events_for ns rsp outs ++ body_events a rsp cs ≡ if_events rsp ns z (body_events a rsp) (out-Case (roll-Case (flat_arm z outs cs))))
  pruned_known ns true a outs cs t h =
      let v = flat_arm true outs cs in
      (if_there ns true (CasesFit a) v (t, All-nil (OutFits ns), All-nil (OutFits ns), h), ap (if_events rsp ns true (body_events a rsp)) (sym (out-roll-Case v)))
  pruned_known ns false a outs cs t h =
      let v = flat_arm false outs cs in
      (if_there ns false (CasesFit a) v (t, All-nil (OutFits ns), All-nil (OutFits ns), h), ap (if_events rsp ns false (body_events a rsp)) (sym (out-roll-Case v)))

  -- ---- a `while` that stays
  abbrev loop_of : List Numbers → Numbers → (List Case → FlatCases) → (List Case → FlatCases) → Loop → Loop
  loop_of pre i p b loop = record {
    prologue = tr_of (p loop.prologue.cases).cases;
    test = (first_outs pre (p loop.prologue.cases).rest).outs ++ outs_by i loop.test;
    more_outs = outs_by i loop.more_outs;
    body = tr_of (b loop.body.cases).cases;
    leave_outs = outs_by i loop.leave_outs;
  }

  head_so : (ns : List ℕ) (pre : List Numbers) (i : Numbers) (fp fb : List Case → FlatCases) (p p1 : Leak) (loop : Loop) → is_cut p ≡ false → HasAll ns pre → HasThese ns i
      → Shows p (operations pre ns over) (body_events p1 rsp loop.prologue.cases) (fp loop.prologue.cases) → HeadFits (numbers_in i ns) (CasesFit p1) loop
      → HeadFits ns (CasesFit p) (loop_of pre i fp fb loop)
      × (head_events rsp (numbers_in i ns) (body_events p1 rsp) loop ≡ head_events rsp ns (body_events p rsp) (loop_of pre i fp fb loop))
  head_so ns pre i fp fb p p1 loop w t u s h =
      let f = fp loop.prologue.cases in
      let q = taken_so pre ns over f.rest t (s.more_fits w) in
      let os = (first_outs pre f.rest).outs in (
        (s.fits, outs_both rsp ns os i loop.test q.there u h.1, outs_there rsp ns i loop.more_outs u h.2, outs_there rsp ns i loop.leave_outs u h.3),
        ap (λ x. x ++ events_for (numbers_in i ns) rsp loop.test) (whole s w ∙ ap (λ x. body_events p rsp f.cases ++ x) (q.shows ∙ append-nil _))
            ∙ append_assoc (body_events p rsp f.cases) (events_for ns rsp os) (events_for (numbers_in i ns) rsp loop.test)
            ∙ ap (λ x. body_events p rsp f.cases ++ x) (sym (events_both rsp ns os i loop.test)),
      )

  while_there : (AllFit : Loop → Type 0) (v : Layer) → WhileFits AllFit v → WhileFits AllFit (out-Case (roll-Case v))
  while_there AllFit v h = subst (WhileFits AllFit) (sym (out-roll-Case v)) h

  abbrev TurnsSo : Turns → Turns → (Loop → Loop) → Type 0
  TurnsSo ts ts1 f = (loop : Loop) → TurnsFit ts1 loop → TurnsFit ts (f loop) × (turns_events ts1 rsp loop ≡ turns_events ts rsp (f loop))

  while_known : (pre : List Numbers) (i : Numbers) (fp fb : List Case → FlatCases) (next : FlatCases) (ts ts1 : Turns) (v : Layer) → TurnsSo ts ts1 (loop_of pre i fp fb) → WhileFits (TurnsFit ts1) v
      → WhileFits (TurnsFit ts) (out-Case (flat_while pre i fp fb v))
      × (while_events (turns_events ts1 rsp) v ≡ while_events (turns_events ts rsp) (out-Case (flat_while pre i fp fb v)))
  while_known pre i fp fb next ts ts1 (Case-F.While prologue test more_outs body leave_outs) turns h =
      let q = turns _ h in
      let loop = loop_of pre i fp fb (record { prologue = prologue; test = test; more_outs = more_outs; body = body; leave_outs = leave_outs }) in
      let v = Case-F.While loop.prologue loop.test loop.more_outs loop.body loop.leave_outs in
      (while_there (TurnsFit ts) v q.0, q.1 ∙ ap (while_events (turns_events ts rsp)) (sym (out-roll-Case v)))
  while_known pre i fp fb next ts ts1 _ turns h = absurd h

  while_so : (pre : List Numbers) (i : Numbers) (fp fb fr : List Case → FlatCases) (ts ts1 : Turns) (l k k2 : Leak) (b : List Case) → is_cut_in_turns ts ≡ false → TurnsSo ts ts1 (loop_of pre i fp fb)
      → ((c : List Case) → CasesFit k2 c → Shows l k (body_events k2 rsp c) (fr c)) → CasesFit (looped ts1 k2) b
      → Shows (looped ts l) k (body_events (looped ts1 k2) rsp b) (flat_first fr (flat_while pre i fp fb) b)
  while_so pre i fp fb fr ts ts1 l k k2 [] w turns next h = absurd h
  while_so pre i fp fb fr ts ts1 l k k2 (c ∷ b) w turns next h =
      let s = next b h.2 in
      let q = while_known pre i fp fb (fr b) ts ts1 (out-Case c) turns h.1 in
      (record { fits = (w, q.0, s.fits); more_fits = s.more_fits; shows = followed _ (ap (λ x. x ++ body_events k2 rsp b) q.1) s })

  while_cut_so : (pre : List Numbers) (i : Numbers) (fp fb fr : List Case → FlatCases) (ts ts1 : Turns) (k : Leak) (b : List Case) → is_cut_in_turns ts ≡ true → TurnsSo ts ts1 (loop_of pre i fp fb)
      → CasesFit (looped_cut ts1) b → Shows (looped_cut ts) k (body_events (looped_cut ts1) rsp b) (flat_first fr (flat_while pre i fp fb) b)
  while_cut_so pre i fp fb fr ts ts1 k [] w turns h = absurd h
  while_cut_so pre i fp fb fr ts ts1 k (c ∷ b) w turns h =
      let q = while_known pre i fp fb (fr b) ts ts1 (out-Case c) turns h.1 in
      (record { fits = (w, q.0); more_fits = λ e. absurd cc; shows = q.1 ∙ sym (append-nil _) })

  -- ---- a `for` that stays
  for_there : (AllFit : List Tr → Type 0) (v : Layer) → ForFits AllFit v → ForFits AllFit (out-Case (roll-Case v))
  for_there AllFit v h = subst (ForFits AllFit) (sym (out-roll-Case v)) h

  abbrev each_of : (List Case → FlatCases) → List Tr → List Tr
  each_of fb trs = map (λ t. tr_of (fb t.cases).cases) trs

  abbrev RoundsSo : Rounds → Rounds → (List Tr → List Tr) → Type 0
  RoundsSo rs rs1 f = (trs : List Tr) → RoundsFit rs1 trs → RoundsFit rs (f trs) × (rounds_events rs1 rsp trs ≡ rounds_events rs rsp (f trs))

  for_known : (fb : List Case → FlatCases) (next : FlatCases) (rs rs1 : Rounds) (v : Layer) → RoundsSo rs rs1 (each_of fb) → ForFits (RoundsFit rs1) v
      → ForFits (RoundsFit rs) (out-Case (flat_for fb v)) × (for_events (rounds_events rs1 rsp) v ≡ for_events (rounds_events rs rsp) (out-Case (flat_for fb v)))
  for_known fb next rs rs1 (Case-F.For trs) rounds h =
      let q = rounds trs h in
      let v = Case-F.For (each_of fb trs) in
      (for_there (RoundsFit rs) v q.0, q.1 ∙ ap (for_events (rounds_events rs rsp)) (sym (out-roll-Case v)))
  for_known fb next rs rs1 _ rounds h = absurd h

  for_so : (fb fr : List Case → FlatCases) (rs rs1 : Rounds) (l k k2 : Leak) (b : List Case) → is_cut_in_rounds rs ≡ false → RoundsSo rs rs1 (each_of fb)
      → ((c : List Case) → CasesFit k2 c → Shows l k (body_events k2 rsp c) (fr c)) → CasesFit (each rs1 k2) b
      → Shows (each rs l) k (body_events (each rs1 k2) rsp b) (flat_first fr (flat_for fb) b)
  for_so fb fr rs rs1 l k k2 [] w rounds next h = absurd h
  for_so fb fr rs rs1 l k k2 (c ∷ b) w rounds next h =
      let s = next b h.2 in
      let q = for_known fb (fr b) rs rs1 (out-Case c) rounds h.1 in
      (record { fits = (w, q.0, s.fits); more_fits = s.more_fits; shows = followed _ (ap (λ x. x ++ body_events k2 rsp b) q.1) s })

  for_cut_so : (fb fr : List Case → FlatCases) (rs rs1 : Rounds) (k : Leak) (b : List Case) → is_cut_in_rounds rs ≡ true → RoundsSo rs rs1 (each_of fb)
      → CasesFit (each_cut rs1) b → Shows (each_cut rs) k (body_events (each_cut rs1) rsp b) (flat_first fr (flat_for fb) b)
  for_cut_so fb fr rs rs1 k [] w rounds h = absurd h
  for_cut_so fb fr rs rs1 k (c ∷ b) w rounds h =
      let q = for_known fb (fr b) rs rs1 (out-Case c) rounds h.1 in
      (record { fits = (w, q.0); more_fits = λ e. absurd cc; shows = q.1 ∙ sym (append-nil _) })

  -- ---- rounds one after another
  record ShowsRounds (rs : Rounds) (k : Leak) (es : Es) (f : FlatRounds) : Type 0 where
    fits : RoundsFit rs f.trs
    more_fits : is_cut_in_rounds rs ≡ false → CasesFit k f.rest
    shows : es ≡ rounds_events rs rsp f.trs ++ (if is_cut_in_rounds rs then [] else body_events k rsp f.rest)

  -- ---- calls
  call_there : (ns ms : List ℕ) (F : List Case → Type 0) (v : Layer) → CallFits ns ms F v → CallFits ns ms F (out-Case (roll-Case v))
  call_there ns ms F v h = subst (CallFits ns ms F) (sym (out-roll-Case v)) h

  begun_there : (ns : List ℕ) (F : List Case → Type 0) (v : Layer) → BegunCallFits ns F v → BegunCallFits ns F (out-Case (roll-Case v))
  begun_there ns F v h = subst (BegunCallFits ns F) (sym (out-roll-Case v)) h

  -- ---- the law
  mutual
    pub flattened : {l : Leak} {a : Change} → LeakFits l a → (k : Leak) (b : List Case) → CasesFit (map_before l a k) b → Shows l k (body_events (map_before l a k) rsp b) (flat a b)
    flattened fits_over k b h = record { fits = tt; more_fits = λ w. h; shows = refl }
    flattened (fits_ran {ns} {l} {is} {r} g f) k b h =
        let t = taken_so is ns (map_before l r k) b g h in
        let s = flattened f k (first_outs is b).rest t.fits in
        record { fits = (t.there, s.fits); more_fits = s.more_fits; shows = followed _ t.shows s }
    flattened (fits_if {ns} {z} {a} {l} {pre} {i} {ta} {tb} {r} g u w f f2) k b h =
        let a1 = map_before a (if z then ta else tb) over in
        let t = taken_so pre ns (chose (numbers_in i ns) z a1 (map_before l r k)) b g h in
        subst (λ e. Shows (chose ns z a l) k e (flat (stays_if pre i ta tb r) b)) (sym t.shows)
        (if_so ns i (first_outs pre b).outs z a a1 l k (map_before l r k) (flat ta) (flat tb) (flat r) (first_outs pre b).rest t.there u w
        (pick z ta tb (Arms a a1) (λ c h2. flattened f over c h2)) (λ c h2. flattened f2 k c h2) t.fits)
    flattened (fits_if_cut {ns} {z} {a} {pre} {i} {ta} {tb} {r} g u w f) k b h =
        let a1 = map_before a (if z then ta else tb) over in
        let t = taken_so pre ns (chose_cut (numbers_in i ns) z a1) b g h in
        subst (λ e. Shows (chose_cut ns z a) k e (flat (stays_if pre i ta tb r) b)) (sym t.shows)
        (if_cut_so ns i (first_outs pre b).outs z a a1 k (flat ta) (flat tb) (flat r) (first_outs pre b).rest t.there u w
        (pick z ta tb (Arms a a1) (λ c h2. flattened f over c h2)) t.fits)
    flattened (fits_arm {ns} {z} {a} {l} {pre} {ta} {r} g w f f2) k b h =
        let t = taken_so pre ns (map_before a ta (map_before l r k)) b g h in
        let s = flattened f (map_before l r k) (first_outs pre b).rest t.fits in
        let m = flat ta (first_outs pre b).rest in
        let s2 = flattened f2 k m.rest (s.more_fits w) in
        let q = pruned_known ns z a (first_outs pre b).outs m.cases t.there s.fits in
        record {
          fits = (w, q.0, s2.fits);
          more_fits = s2.more_fits;
          shows = followed _ (t.shows ∙ ap (λ x. events_for ns rsp (first_outs pre b).outs ++ x) (whole s w)
              ∙ sym (append_assoc (events_for ns rsp (first_outs pre b).outs) (body_events a rsp m.cases) (body_events (map_before l r k) rsp m.rest))
              ∙ ap (λ x. x ++ body_events (map_before l r k) rsp m.rest) q.1) s2;
        }
    flattened (fits_arm_cut {ns} {z} {a} {pre} {ta} {r} g w f) k b h =
        let t = taken_so pre ns (map_before a ta over) b g h in
        let s = flattened f over (first_outs pre b).rest t.fits in
        let m = flat ta (first_outs pre b).rest in
        let q = pruned_known ns z a (first_outs pre b).outs m.cases t.there s.fits in
        record {
          fits = (w, q.0);
          more_fits = λ e. absurd cc;
          shows = t.shows ∙ ap (λ x. events_for ns rsp (first_outs pre b).outs ++ x) (at_over s) ∙ q.1 ∙ sym (append-nil _);
        }
    flattened (fits_while {ts} {l} {pre} {i} {tp} {tb} {r} w f f2) k b h =
        while_so pre i (flat tp) (flat tb) (flat r) ts (map_turns ts tp pre i tb) l k (map_before l r k) b w (λ loop h2. turns_flat f loop h2) (λ c h2. flattened f2 k c h2) h
    flattened (fits_while_cut {ts} {pre} {i} {tp} {tb} {r} w f) k b h =
        while_cut_so pre i (flat tp) (flat tb) (flat r) ts (map_turns ts tp pre i tb) k b w (λ loop h2. turns_flat f loop h2) h
    flattened (fits_once {l} {r} w (once_left {p} {ns} {tp} {pre} g w2 f) f2) k b h =
        let s = flattened f (operations pre ns (map_before l r k)) b h in
        let m = flat tp b in
        let t = taken_so pre ns (map_before l r k) m.rest g (s.more_fits w2) in
        let s2 = flattened f2 k (first_outs pre m.rest).rest t.fits in
        let v = flat_once (first_outs pre m.rest).outs m.cases in
        record {
          fits = (refl, while_there (TurnsFit (left p ns)) v (w2, (s.fits, t.there, All-nil (OutFits ns), All-nil (OutFits ns))), s2.fits);
          more_fits = s2.more_fits;
          shows = followed _ (whole s w2 ∙ ap (λ x. body_events p rsp m.cases ++ x) t.shows
              ∙ sym (append_assoc (body_events p rsp m.cases) (events_for ns rsp (first_outs pre m.rest).outs) (body_events (map_before l r k) rsp (first_outs pre m.rest).rest))
              ∙ ap (λ x. x ++ body_events (map_before l r k) rsp (first_outs pre m.rest).rest) (sym (append-nil _) ∙ ap (while_events (turns_events (left p ns) rsp)) (sym (out-roll-Case v)))) s2;
        }
    flattened (fits_once w (once_cut w2 f) f2) k b h = absurd cc
    flattened (fits_once_cut w (once_left g w2 f)) k b h = absurd cc
    flattened (fits_once_cut w (once_cut {p} {tp} {pre} w2 f)) k b h =
        let s = flattened f over b h in
        let m = flat tp b in
        let v = flat_once (first_outs pre m.rest).outs m.cases in
        record {
          fits = (refl, while_there (TurnsFit (prologue_cut p)) v (w2, s.fits));
          more_fits = λ e. absurd cc;
          shows = at_over s ∙ ap (while_events (turns_events (prologue_cut p) rsp)) (sym (out-roll-Case v)) ∙ sym (append-nil _);
        }
    flattened (fits_for {rs} {l} {tb} {r} w f f2) k b h =
        for_so (flat tb) (flat r) rs (map_each rs tb) l k (map_before l r k) b w (λ trs h2. each_flat f trs h2) (λ c h2. flattened f2 k c h2) h
    flattened (fits_for_cut {rs} {tb} {r} w f) k b h = for_cut_so (flat tb) (flat r) rs (map_each rs tb) k b w (λ trs h2. each_flat f trs h2) h
    flattened (fits_unrolled {rs} {l} {ts} {r} w f f2) k b h =
        let s = rounds_flat f (map_before l r k) b h in
        let m = flat_rounds ts b in
        let s2 = flattened f2 k m.rest (s.more_fits w) in
        let v = Case-F.For m.trs in
        record {
          fits = (w, for_there (RoundsFit rs) v s.fits, s2.fits);
          more_fits = s2.more_fits;
          shows = followed _ (s.shows ∙ ap (λ z. rounds_events rs rsp m.trs ++ (if z then [] else body_events (map_before l r k) rsp m.rest)) w
              ∙ ap (λ x. x ++ body_events (map_before l r k) rsp m.rest) (ap (for_events (rounds_events rs rsp)) (sym (out-roll-Case v)))) s2;
        }
    flattened (fits_unrolled_cut {rs} {ts} {r} w f) k b h =
        let s = rounds_flat f over b h in
        let m = flat_rounds ts b in
        let v = Case-F.For m.trs in
        record {
          fits = (w, for_there (RoundsFit rs) v s.fits);
          more_fits = λ e. absurd cc;
          shows = s.shows ∙ ap (λ x. rounds_events rs rsp m.trs ++ x) (same_none_shown (is_cut_in_rounds rs))
              ∙ ap (λ x. x ++ []) (ap (for_events (rounds_events rs rsp)) (sym (out-roll-Case v)));
        }
    flattened (fits_opened {ns} {ms} {b = lb} {l} {xs} {ys} {tb} {r} g w f g2 f2) k b h =
        let t = taken_so xs ns (map_before lb tb (operations ys ms (map_before l r k))) b g h in
        let s = flattened f (operations ys ms (map_before l r k)) (first_outs xs b).rest t.fits in
        let m = flat tb (first_outs xs b).rest in
        let u = taken_so ys ms (map_before l r k) m.rest g2 (s.more_fits w) in
        let s2 = flattened f2 k (first_outs ys m.rest).rest u.fits in
        let v = Case-F.Call (first_outs xs b).outs (tr_of m.cases) (first_outs ys m.rest).outs in
        let os = events_for ns rsp (first_outs xs b).outs in let body = body_events lb rsp m.cases in let ps = events_for ms rsp (first_outs ys m.rest).outs in let more = body_events (map_before l r k) rsp (first_outs ys m.rest).rest in
        record {
          fits = (w, call_there ns ms (CasesFit lb) v (t.there, s.fits, u.there), s2.fits);
          more_fits = s2.more_fits;
          shows = followed _ (t.shows ∙ ap (λ x. os ++ x) (whole s w ∙ ap (λ x. body ++ x) u.shows)
              ∙ sym (append_assoc os body (ps ++ more)) ∙ sym (append_assoc (os ++ body) ps more)
              ∙ ap (λ x. x ++ more) (ap (call_events rsp ns ms (body_events lb rsp)) (sym (out-roll-Case v)))) s2;
        }
    flattened (fits_opened_cut {ns} {b = lb} {xs} {ys} {tb} {r} g w f) k b h =
        let t = taken_so xs ns (map_before lb tb over) b g h in
        let s = flattened f over (first_outs xs b).rest t.fits in
        let m = flat tb (first_outs xs b).rest in
        let v = Case-F.Call (first_outs xs b).outs (tr_of m.cases) (first_outs ys m.rest).outs in
        record {
          fits = (w, begun_there ns (CasesFit lb) v (t.there, s.fits));
          more_fits = λ e. absurd cc;
          shows = t.shows ∙ ap (λ x. events_for ns rsp (first_outs xs b).outs ++ x) (at_over s) ∙ ap (begun_call_events rsp ns (body_events lb rsp)) (sym (out-roll-Case v)) ∙ sym (append-nil _);
        }

    turns_flat : {ts : Turns} {tp tb : Change} {pre : List Numbers} {i : Numbers} → LeakTurnsFit ts tp pre i tb → TurnsSo ts (map_turns ts tp pre i tb) (loop_of pre i (flat tp) (flat tb))
    turns_flat (turns_left {p} {ns} {tp} {tb} {pre} {i} g u w f) loop h =
        let q = head_so ns pre i (flat tp) (flat tb) p _ loop w g u (flattened f (operations pre ns over) loop.prologue.cases h.1.0) h.1 in
        ((w, q.0), let e = q.1 in let d = events_sub rsp ns i loop.leave_outs in rw (e, d))
    turns_flat (turns_turn {p} {b} {ns} {ts} {tp} {tb} {pre} {i} g u w f w2 f2 f3) loop h =
        let q = head_so ns pre i (flat tp) (flat tb) p _ loop w g u (flattened f (operations pre ns over) loop.prologue.cases h.1.0) h.1 in
        let s = flattened f2 over loop.body.cases h.3 in
        let n = turns_flat f3 loop h.4 in
        ((w, q.0, w2, s.fits, n.0), let e = q.1 in let d = events_sub rsp ns i loop.more_outs in let x = at_over s in let y = n.1 in rw (e, d, x, y))
    turns_flat (turns_prologue_cut {p} w f) loop h = let s = flattened f over loop.prologue.cases h.1 in ((w, s.fits), at_over s)
    turns_flat (turns_wanted {p} {ns} {tp} {tb} {pre} {i} g u w f) loop h =
        let q = head_so ns pre i (flat tp) (flat tb) p _ loop w g u (flattened f (operations pre ns over) loop.prologue.cases h.1.0) h.1 in
        ((w, q.0), let e = q.1 in let d = events_sub rsp ns i loop.more_outs in rw (e, d))
    turns_flat (turns_body_cut {p} {b} {ns} {tp} {tb} {pre} {i} g u w f w2 f2) loop h =
        let q = head_so ns pre i (flat tp) (flat tb) p _ loop w g u (flattened f (operations pre ns over) loop.prologue.cases h.1.0) h.1 in
        let s = flattened f2 over loop.body.cases h.3 in
        ((w, q.0, w2, s.fits), let e = q.1 in let d = events_sub rsp ns i loop.more_outs in let x = at_over s in rw (e, d, x))

    each_flat : {rs : Rounds} {tb : Change} → LeakEachFits rs tb → RoundsSo rs (map_each rs tb) (each_of (flat tb))
    each_flat same_none [] h = (tt, refl)
    each_flat same_none (t ∷ ts) h = absurd h
    each_flat (same_round w f f2) [] h = absurd h
    each_flat (same_round w f f2) (t ∷ ts) h =
        let s = flattened f over t.cases h.1 in let n = each_flat f2 ts h.2 in
        ((w, s.fits, n.0), let e = at_over s in let d = n.1 in rw (e, d))
    each_flat (same_cut w f) [] h = absurd h
    each_flat (same_cut w f) (t ∷ ts) h = let s = flattened f over t.cases h.1 in ((w, s.fits), at_over s)

    rounds_flat : {rs : Rounds} {ts : Changes} → LeakRoundsFit rs ts → (k : Leak) (b : List Case) → CasesFit (map_rounds rs ts k) b
        → ShowsRounds rs k (body_events (map_rounds rs ts k) rsp b) (flat_rounds ts b)
    rounds_flat own_none k b h = record { fits = tt; more_fits = λ w. h; shows = refl }
    rounds_flat (own_round {a} {rs} {t} {ts} w f f2) k b h =
        let s = flattened f (map_rounds rs ts k) b h in
        let m = flat t b in
        let n = rounds_flat f2 k m.rest (s.more_fits w) in
        record {
          fits = (w, s.fits, n.fits);
          more_fits = n.more_fits;
          shows = whole s w ∙ ap (λ x. body_events a rsp m.cases ++ x) n.shows ∙ sym (append_assoc (body_events a rsp m.cases) (rounds_events rs rsp (flat_rounds ts m.rest).trs) _);
        }
    rounds_flat (own_cut w f) k b h =
        let s = flattened f over b h in
        record { fits = (w, s.fits); more_fits = λ e. absurd cc; shows = at_over s ∙ sym (append-nil _) }

-- ---- a function's transformer

pub flattens : (a : Change) (last : Transformer) → Flattens a last (flatten_of a last)
flattens a last = record {
  fits = λ l f h. let q = flattened 0 f over last.body.cases h.body in record { before = h.before; body = q.fits; after = h.after };
  events = λ l rsp f h.
      let q = flattened rsp f over last.body.cases h.body in
      let e = at_over rsp q in let c = map_cut f in
      ap (λ x. (events_for [] rsp last.before ++ x) ++ last_events l rsp last.after) (sym e)
      ∙ ap (λ z. (events_for [] rsp last.before ++ body_events (map_of a l) rsp last.body.cases) ++ (if z then [] else events_for [] rsp last.after)) (sym c);
}
