-- The lines of functions, one after another.
use Rattle.std.proofs.Common.{◌≡◌, ℕ, suc, ◌+◌, ◌≤◌, Bool, true, false, List, [], ◌∷◌, ◌++◌, length, take, drop, Some, refl, sym, ap, ◌∙◌, subst, inl, inr}
use Rattle.std.specs.Prelude.{All, ◌⊎◌, slice_get}
use Rattle.std.proofs.Math.Seq.{split_at}
use Rattle.std.proofs.lemmas.List.{append_assoc, append-nil, take_more, take_all}
use Rattle.std.proofs.lemmas.List.Elements.{All-nil, All-push}
use Rattle.std.proofs.lemmas.Option.{slice_get_within, get_or_from_slice_get}
use Rattle.jz_tree.specs.declared.program.Fun.{Fun}
use Rattle.jz_tree.specs.declared.program.Program.{Program}
use Rattle.jz_type_rows.specs.Exports.{is_exported}
use Rattle.jz_asked.specs.declared.alarms.Alarm.{Alarm}
use Rattle.jasminc_check.specs.Safety.{IsSafe, SafeIfExported, HasAlarm, safe_line, SafeLine, AreSafe}
use Rattle.jasminc_check.specs.InnerSafety.{AddsLine, AlarmAt}

module _ (p : Program) where
  -- a line more at the end
  pub line_more : (fs : List Fun) (text : List ℕ) (f : Fun) (n : ℕ) → is_exported f.kind ≡ true → IsSafe p f n → AreSafe p fs text → AreSafe p (fs ++ f ∷ []) (text ++ safe_line f n)
  line_more [] text f n e s h =
      subst (λ b. SafeLine b p f (AreSafe p []) (text ++ safe_line f n)) (sym e)
      (n, s, [], ap (λ t. t ++ safe_line f n) h ∙ sym (append-nil (safe_line f n)), refl)
  line_more (g ∷ gs) text f n e s h = by (is_exported g.kind) h (λ rest. line_more gs rest f n e s)
    where
      by : (b : Bool) → SafeLine b p g (AreSafe p gs) text → ((rest : List ℕ) → AreSafe p gs rest → AreSafe p (gs ++ f ∷ []) (rest ++ safe_line f n)) → SafeLine b p g (AreSafe p (gs ++ f ∷ [])) (text ++ safe_line f n)
      by true (m, z, rest, q, r) on = (m, z, rest ++ safe_line f n, ap (λ t. t ++ safe_line f n) q ∙ append_assoc (safe_line g m) rest (safe_line f n), on rest r)
      by false r on = on text r

  pub no_line : (fs : List Fun) (text : List ℕ) (f : Fun) → is_exported f.kind ≡ false → AreSafe p fs text → AreSafe p (fs ++ f ∷ []) text
  no_line [] text f e h = subst (λ b. SafeLine b p f (AreSafe p []) text) (sym e) h
  no_line (g ∷ gs) text f e h = by (is_exported g.kind) h (λ rest. no_line gs rest f e)
    where
      by : (b : Bool) → SafeLine b p g (AreSafe p gs) text → ((rest : List ℕ) → AreSafe p gs rest → AreSafe p (gs ++ f ∷ []) rest) → SafeLine b p g (AreSafe p (gs ++ f ∷ [])) text
      by true (m, z, rest, q, r) on = (m, z, rest, q, on rest r)
      by false r on = on text r

  -- the functions so far
  pub record IsSoFar (i : ℕ) (text : List ℕ) : Type 0 where
    pub safe : AreSafe p (take i p.funs) text
    pub earlier : All (SafeIfExported p) (take i p.funs)

  pub none_so_far : IsSoFar 0 []
  none_so_far = record { safe = refl; earlier = All-nil (SafeIfExported p) }

  one_more : (i : ℕ) (f : Fun) → slice_get p.funs i ≡ Some f → take (i + 1) p.funs ≡ take i p.funs ++ f ∷ []
  one_more i f e = take_more p.funs i f (slice_get_within p.funs i f e) ∙ ap (λ x. take i p.funs ++ x ∷ []) (get_or_from_slice_get p.funs i f f e)

  pub next_so_far : (i : ℕ) (old new : List ℕ) → IsSoFar i old → AddsLine p i old new → IsSoFar (i + 1) new
  next_so_far i old new h a = by a.line
    where
      by : ((is_exported a.function.kind ≡ true) × (n : ℕ) × IsSafe p a.function n × (new ≡ old ++ safe_line a.function n)) ⊎ ((is_exported a.function.kind ≡ false) × (new ≡ old)) → IsSoFar (i + 1) new
      by (inl (e, n, s, q)) = record {
        safe = subst (λ fs. AreSafe p fs new) (sym (one_more i a.function a.there)) (subst (AreSafe p (take i p.funs ++ a.function ∷ [])) (sym q) (line_more (take i p.funs) old a.function n e s h.safe));
        earlier = subst (All (SafeIfExported p)) (sym (one_more i a.function a.there)) (All-push (SafeIfExported p) (take i p.funs) a.function h.earlier (λ x. (n, s)));
      }
      by (inr (e, q)) = record {
        safe = subst (λ fs. AreSafe p fs new) (sym (one_more i a.function a.there)) (subst (AreSafe p (take i p.funs ++ a.function ∷ [])) (sym q) (no_line (take i p.funs) old a.function e h.safe));
        earlier = subst (All (SafeIfExported p)) (sym (one_more i a.function a.there)) (All-push (SafeIfExported p) (take i p.funs) a.function h.earlier (λ x. absurd (let c = sym e ∙ x in cc c)));
      }

  pub alarm_there : (i : ℕ) (text : List ℕ) (v : Alarm) → IsSoFar i text → AlarmAt p i v → HasAlarm p v
  alarm_there i text v h a = record {
    front = take i p.funs;
    function = a.function;
    rest = drop (suc i) p.funs;
    split = split_at p.funs i a.function (slice_get_within p.funs i a.function a.there) ∙ ap (λ x. take i p.funs ++ x ∷ drop (suc i) p.funs) (get_or_from_slice_get p.funs i a.function a.function a.there);
    earlier = h.earlier;
    exported = a.exported;
    count = a.count;
    judged = a.judged;
  }

  pub all_so_far : (i : ℕ) (text : List ℕ) → length p.funs ≤ i → IsSoFar i text → AreSafe p p.funs text
  all_so_far i text le h = subst (λ fs. AreSafe p fs text) (take_all i p.funs le) h.safe
