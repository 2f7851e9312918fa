-- The safety of export functions, one after another.
use Rattle.std.proofs.Common.{◌≡◌, ℕ, suc, ◌+◌, ◌≤◌, Bool, true, false, List, [], ◌∷◌, ◌++◌, length, cond, take, drop, Some, None, refl, sym, ap, ◌∙◌, subst, inl, inr}
use Rattle.std.specs.Prelude.{All, ◌⊎◌, slice_get}
use Rattle.std.specs.List.{AllZip}
use Rattle.std.proofs.Math.Seq.{split_at}
use Rattle.std.proofs.lemmas.Bool.{false≢true}
use Rattle.std.proofs.lemmas.List.{append-nil, take_more, take_all}
use Rattle.std.proofs.lemmas.List.Elements.{All-nil, All-cons, filter-append}
use Rattle.std.proofs.lemmas.Option.{slice_get_within, get_or_from_slice_get}
use Rattle.jz_tree.specs.declared.program.Fun.{Fun}
use Rattle.jz_tree.specs.declared.program.Program.{Program}
use Rattle.jz_annotations.specs.declared.precondition.Pre.{Pre}
use Rattle.jz_type_rows.specs.Exports.{is_exported}
use Rattle.jz_preconditions.specs.Stating.{preconditions_of}
use Rattle.jz_change.specs.Views.{change_of}
use Rattle.jz_asked.specs.declared.alarms.Alarm.{Alarm}
use Rattle.jz_asked.specs.Asked.{alarm_of}
use Rattle.jasminc_check.specs.FirstAlarms.{HasFirstAlarm}
use Rattle.jz_verdict.specs.Expanding.{IsExpandedAt}
use Rattle.jz_verdict.specs.Expanded.{Expanded}
use Rattle.jz_verdict.proofs.Followed.{same_at, contains_at}
use Rattle.jz_whole_pipeline.specs.Texts.{IsExpandedFrom, IsOfText}
use Rattle.jz_whole_pipeline.specs.Safe.{Safe}
use Rattle.jasminc_check.specs.Ready.{IsReadyAt}
use Rattle.jasminc_check.specs.Safety.{SafeIfExported, HasAlarm}
use Rattle.jasminc_check.specs.InnerSafety.{IsJudgedAt, AlarmAt}
use Rattle.jasminc_compile.specs.declared.safety.SafeFun.{SafeFun}
use Rattle.jasminc_compile.specs.SafeFunctions.{exports_of, IsSafeFun, AreSafe}
use Rattle.jasminc_compile.specs.InnerSafety.{IsSafeAt, AddsSafe}
use Rattle.jasminc_compile.proofs.Heads.{pres_same}

-- ---- one function
module _ (p : Program) (place : ℕ) (h : IsReadyAt p place) (e : Expanded) (x : IsExpandedAt p place e) where
  pub from_there : IsExpandedFrom p x.source e
  from_there = record {
    typed = h.typed;
    text = h.text;
    there = contains_at p place x.source x.there;
    exported = subst (λ (g : Fun). is_exported g.kind ≡ true) (same_at p place h.function x.source h.there x.there) h.exported;
    expansion = x.expansion;
  }

  pub of_text : IsOfText e
  of_text = record { program = p; source = x.source; from = from_there }

  pub safe_there : (s : Safe) → s.expanded ≡ e → HasFirstAlarm e.fun (preconditions_of e.fun) None → IsSafeAt p place s
  safe_there s same none = record {
    function = x.source;
    there = x.there;
    from = subst (λ (z : Expanded). IsExpandedFrom p x.source z) (sym same) from_there;
    none = subst (λ (z : Expanded). HasFirstAlarm z.fun (preconditions_of x.source) None) (sym same)
        (subst (λ (ps : List Pre). HasFirstAlarm e.fun ps None) (pres_same p x.source e.fun (change_of e.change) e.count x.expansion) none);
  }

  pub alarm_there : (a : Alarm) → HasFirstAlarm e.fun (preconditions_of e.fun) (Some (alarm_of a)) → (count : ℕ) × IsJudgedAt p place count (Some (alarm_of a))
  alarm_there a first = (
    e.count,
    record {
      function = x.source;
      there = x.there;
      judged = record {
        expanded = e.fun;
        change = change_of e.change;
        expansion = x.expansion;
        first = subst (λ (ps : List Pre). HasFirstAlarm e.fun ps (Some (alarm_of a))) (pres_same p x.source e.fun (change_of e.change) e.count x.expansion) first;
      };
    },
  )

-- ---- one more
pub added : (p : Program) (place : ℕ) (f : Fun) (s : Safe) (old new : List SafeFun) (h : IsReadyAt p place) → slice_get p.funs place ≡ Some f → is_exported f.kind ≡ true → IsSafeAt p place s
    → new ≡ old ++ record { place = place; safe = s } ∷ [] → AddsSafe p place old new
added p place f s old new h there exported safe e = record {
  function = f;
  there = there;
  one = inl (
    exported,
    record { place = place; safe = s },
    record {
      ready = h;
      there = there;
      from = subst (λ (g : Fun). IsExpandedFrom p g s.expanded) (same_at p place safe.function f safe.there there) safe.from;
      none = subst (λ (g : Fun). HasFirstAlarm s.expanded.fun (preconditions_of g) None) (same_at p place safe.function f safe.there there) safe.none;
    },
    e,
  );
}

pub not_added : (p : Program) (place : ℕ) (f : Fun) (old : List SafeFun) → slice_get p.funs place ≡ Some f → is_exported f.kind ≡ false → AddsSafe p place old old
not_added p place f old there hidden = record { function = f; there = there; one = inr (hidden, refl) }

-- ---- all of them
module _ (p : Program) where
  safe_exported : (f : Fun) (s : SafeFun) → IsSafeFun p f s → SafeIfExported p f
  safe_exported f s h = λ x. (
    s.safe.expanded.count,
    record { expanded = s.safe.expanded.fun; change = change_of s.safe.expanded.change; expansion = h.from.expansion; first = h.none },
  )

  abbrev Safes : List Fun → List SafeFun → Type 0
  Safes fs ss = AllZip (IsSafeFun p) fs ss

  -- the functions of a list are safe where they are exported
  pub each_safe : (fs : List Fun) (ss : List SafeFun) → Safes (exports_of fs) ss → All (SafeIfExported p) fs
  each_safe [] ss h = All-nil (SafeIfExported p)
  each_safe (f ∷ fs) ss h = by (is_exported f.kind) refl ss h (λ xs. each_safe fs xs)
    where
      by : (b : Bool) → is_exported f.kind ≡ b → (xs : List SafeFun) → Safes (cond b (f ∷ exports_of fs) (exports_of fs)) xs
          → ((ys : List SafeFun) → Safes (exports_of fs) ys → All (SafeIfExported p) fs) → All (SafeIfExported p) (f ∷ fs)
      by true e [] k on = absurd k
      by true e (s ∷ xs) k on = All-cons (SafeIfExported p) f fs (safe_exported f s k.0) (on xs k.1)
      by false e xs k on = All-cons (SafeIfExported p) f fs (λ x. absurd (false≢true (sym e ∙ x))) (on xs k)

  pushed : (fs : List Fun) (ss : List SafeFun) (f : Fun) (s : SafeFun) → Safes fs ss → IsSafeFun p f s → Safes (fs ++ f ∷ []) (ss ++ s ∷ [])
  pushed [] [] f s h k = (k, tt)
  pushed [] (t ∷ ss) f s h k = absurd h
  pushed (g ∷ fs) [] f s h k = absurd h
  pushed (g ∷ fs) (t ∷ ss) f s h k = (h.0, pushed fs ss f s h.1 k)

  one_more : (i : ℕ) (f : Fun) → slice_get p.funs i ≡ Some f → take (i + 1) p.funs ≡ take i p.funs ++ f ∷ []
  one_more i f e = take_more p.funs i f (slice_get_within p.funs i f e) ∙ ap (λ x. take i p.funs ++ x ∷ []) (get_or_from_slice_get p.funs i f f e)

  exports_more : (i : ℕ) (f : Fun) → slice_get p.funs i ≡ Some f → exports_of (take (i + 1) p.funs) ≡ exports_of (take i p.funs) ++ cond (is_exported f.kind) (f ∷ []) []
  exports_more i f e = ap exports_of (one_more i f e) ∙ filter-append (λ (g : Fun). is_exported g.kind) (take i p.funs) (f ∷ [])

  pub next_safe : (i : ℕ) (old new : List SafeFun) → Safes (exports_of (take i p.funs)) old → AddsSafe p i old new → Safes (exports_of (take (i + 1) p.funs)) new
  next_safe i old new h a = by a.one
    where
      by : ((is_exported a.function.kind ≡ true) × (s : SafeFun) × IsSafeFun p a.function s × (new ≡ old ++ s ∷ [])) ⊎ ((is_exported a.function.kind ≡ false) × (new ≡ old)) → Safes (exports_of (take (i + 1) p.funs)) new
      by (inl (e, s, k, q)) =
          let more : exports_of (take (i + 1) p.funs) ≡ exports_of (take i p.funs) ++ a.function ∷ [] =
          exports_more i a.function a.there ∙ ap (λ (b : Bool). exports_of (take i p.funs) ++ cond b (a.function ∷ []) []) e in
          subst (λ fs. Safes fs new) (sym more) (subst (Safes (exports_of (take i p.funs) ++ a.function ∷ [])) (sym q) (pushed (exports_of (take i p.funs)) old a.function s h k))
      by (inr (e, q)) =
          let more : exports_of (take (i + 1) p.funs) ≡ exports_of (take i p.funs) =
          exports_more i a.function a.there ∙ ap (λ (b : Bool). exports_of (take i p.funs) ++ cond b (a.function ∷ []) []) e ∙ append-nil (exports_of (take i p.funs)) in
          subst (λ fs. Safes fs new) (sym more) (subst (Safes (exports_of (take i p.funs))) (sym q) h)

  pub first_alarm : (i : ℕ) (ss : List SafeFun) (a : Alarm) → Safes (exports_of (take i p.funs)) ss → AlarmAt p i a → HasAlarm p a
  first_alarm i ss a h k = record {
    front = take i p.funs;
    function = k.function;
    rest = drop (suc i) p.funs;
    split = split_at p.funs i k.function (slice_get_within p.funs i k.function k.there) ∙ ap (λ x. take i p.funs ++ x ∷ drop (suc i) p.funs) (get_or_from_slice_get p.funs i k.function k.function k.there);
    earlier = each_safe (take i p.funs) ss h;
    exported = k.exported;
    count = k.count;
    judged = k.judged;
  }

  pub all_safe : (i : ℕ) (ss : List SafeFun) → length p.funs ≤ i → Safes (exports_of (take i p.funs)) ss → AreSafe p ss
  all_safe i ss le h = subst (λ fs. Safes (exports_of fs) ss) (take_all i p.funs le) h
