-- The lines of functions, one after another.
use Rattle.std.proofs.Common.{◌≡◌, ℕ, suc, ◌+◌, ◌≤◌, Bool, true, false, List, [], ◌∷◌, ◌++◌, length, take, drop, Some, refl, sym, ap, ◌∙◌, subst, inl, inr}
use Rattle.std.specs.Prelude.{All, ◌⊎◌, slice_get}
use Rattle.std.proofs.Math.Seq.{split_at}
use Rattle.std.proofs.lemmas.List.{append_assoc, append-nil, take_more, take_all}
use Rattle.std.proofs.lemmas.List.Elements.{All-nil, All-push}
use Rattle.std.proofs.lemmas.Option.{slice_get_within, get_or_from_slice_get}
use Rattle.jz_tree.specs.declared.program.Fun.{Fun}
use Rattle.jz_tree.specs.declared.program.Program.{Program}
use Rattle.jz_type_rows.specs.Exports.{is_exported}
use Rattle.jasminc_ct.specs.declared.breaches.FunBreach.{FunBreach}
use Rattle.jasminc_ct.specs.Judging.{IsConstant, ConstantIfExported, HasBreach, yes_line, YesLine, AreConstant}
use Rattle.jasminc_ct.specs.InnerJudging.{AddsLine, BreachAt}

module _ (p : Program) where
  -- a line more at the end
  pub line_more : (fs : List Fun) (text : List ℕ) (f : Fun) → is_exported f.kind ≡ true → IsConstant p f → AreConstant p fs text → AreConstant p (fs ++ f ∷ []) (text ++ yes_line f)
  line_more [] text f e s h =
      subst (λ b. YesLine b p f (AreConstant p []) (text ++ yes_line f)) (sym e)
      (s, [], ap (λ t. t ++ yes_line f) h ∙ sym (append-nil (yes_line f)), refl)
  line_more (g ∷ gs) text f e s h = by (is_exported g.kind) h (λ rest. line_more gs rest f e s)
    where
      by : (b : Bool) → YesLine b p g (AreConstant p gs) text → ((rest : List ℕ) → AreConstant p gs rest → AreConstant p (gs ++ f ∷ []) (rest ++ yes_line f)) → YesLine b p g (AreConstant p (gs ++ f ∷ [])) (text ++ yes_line f)
      by true (z, rest, q, r) on = (z, rest ++ yes_line f, ap (λ t. t ++ yes_line f) q ∙ append_assoc (yes_line g) rest (yes_line f), on rest r)
      by false r on = on text r

  pub no_line : (fs : List Fun) (text : List ℕ) (f : Fun) → is_exported f.kind ≡ false → AreConstant p fs text → AreConstant p (fs ++ f ∷ []) text
  no_line [] text f e h = subst (λ b. YesLine b p f (AreConstant p []) text) (sym e) h
  no_line (g ∷ gs) text f e h = by (is_exported g.kind) h (λ rest. no_line gs rest f e)
    where
      by : (b : Bool) → YesLine b p g (AreConstant p gs) text → ((rest : List ℕ) → AreConstant p gs rest → AreConstant p (gs ++ f ∷ []) rest) → YesLine b p g (AreConstant p (gs ++ f ∷ [])) text
      by true (z, rest, q, r) on = (z, rest, q, on rest r)
      by false r on = on text r

  -- the functions so far
  pub record IsSoFar (i : ℕ) (text : List ℕ) : Type 0 where
    pub constant : AreConstant p (take i p.funs) text
    pub earlier : All (ConstantIfExported p) (take i p.funs)

  pub none_so_far : IsSoFar 0 []
  none_so_far = record { constant = refl; earlier = All-nil (ConstantIfExported p) }

  one_more : (i : ℕ) (f : Fun) → slice_get p.funs i ≡ Some f → take (i + 1) p.funs ≡ take i p.funs ++ f ∷ []
  one_more i f e = take_more p.funs i f (slice_get_within p.funs i f e) ∙ ap (λ x. take i p.funs ++ x ∷ []) (get_or_from_slice_get p.funs i f f e)

  pub next_so_far : (i : ℕ) (old new : List ℕ) → IsSoFar i old → AddsLine p i old new → IsSoFar (i + 1) new
  next_so_far i old new h a = by a.line
    where
      by : ((is_exported a.function.kind ≡ true) × IsConstant p a.function × (new ≡ old ++ yes_line a.function)) ⊎ ((is_exported a.function.kind ≡ false) × (new ≡ old)) → IsSoFar (i + 1) new
      by (inl (e, s, q)) = record {
        constant = subst (λ fs. AreConstant p fs new) (sym (one_more i a.function a.there)) (subst (AreConstant p (take i p.funs ++ a.function ∷ [])) (sym q) (line_more (take i p.funs) old a.function e s h.constant));
        earlier = subst (All (ConstantIfExported p)) (sym (one_more i a.function a.there)) (All-push (ConstantIfExported p) (take i p.funs) a.function h.earlier (λ x. s));
      }
      by (inr (e, q)) = record {
        constant = subst (λ fs. AreConstant p fs new) (sym (one_more i a.function a.there)) (subst (AreConstant p (take i p.funs ++ a.function ∷ [])) (sym q) (no_line (take i p.funs) old a.function e h.constant));
        earlier = subst (All (ConstantIfExported p)) (sym (one_more i a.function a.there)) (All-push (ConstantIfExported p) (take i p.funs) a.function h.earlier (λ x. absurd (let c = sym e ∙ x in cc c)));
      }

  pub breach_there : (i : ℕ) (text : List ℕ) (v : FunBreach) → IsSoFar i text → BreachAt p i v → HasBreach p v
  breach_there i text v h a = record {
    front = take i p.funs;
    function = a.function;
    rest = drop (suc i) p.funs;
    split = split_at p.funs i a.function (slice_get_within p.funs i a.function a.there) ∙ ap (λ x. take i p.funs ++ x ∷ drop (suc i) p.funs) (get_or_from_slice_get p.funs i a.function a.function a.there);
    earlier = h.earlier;
    exported = a.exported;
    named = a.named;
    judged = a.judged;
  }

  pub all_so_far : (i : ℕ) (text : List ℕ) → length p.funs ≤ i → IsSoFar i text → AreConstant p p.funs text
  all_so_far i text le h = subst (λ fs. AreConstant p fs text) (take_all i p.funs le) h.constant
