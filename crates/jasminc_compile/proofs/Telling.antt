-- What the outcomes of all functions say of what is told.
use Rattle.std.proofs.Common.{◌≡◌, ℕ, zero, suc, true, false, List, [], ◌∷◌, ◌++◌, take, drop, Some, refl, sym, ap, ◌∙◌, subst, arith, inl, inr}
use Rattle.std.specs.Prelude.{All, slice_get}
use Rattle.std.specs.List.{AllZip}
use Rattle.std.proofs.Math.Seq.{split_at}
use Rattle.std.proofs.lemmas.Bool.{false≢true}
use Rattle.std.proofs.lemmas.List.Elements.{All-nil, All-cons, All-head, All-tail}
use Rattle.std.proofs.lemmas.Option.{slice_get_within, get_or_from_slice_get}
use Rattle.jz_tree.specs.declared.program.Fun.{Fun}
use Rattle.jz_tree.specs.declared.program.Program.{Program}
use Rattle.jz_code.specs.declared.code.NoCode.TheVariants as no
use Rattle.jz_whole_pipeline.specs.Refused.{stack_end}
use Rattle.jz_listing.specs.declared.compiled.Compiled.{Compiled}
use Rattle.jz_unplaced.specs.declared.unplaced.Unplaced.{Unplaced}
use Rattle.jasminc_compile.specs.declared.outcome.Outcome.{Outcome}
use Rattle.jasminc_compile.specs.declared.outcome.Outcome.TheVariants.{Made, Not}
use Rattle.jasminc_compile.specs.declared.outcome.Unmade.{Unmade}
use Rattle.jasminc_compile.specs.declared.outcome.Unmade.TheVariants as unmade
use Rattle.jasminc_compile.specs.declared.settling.Stage.TheVariants as stage
use Rattle.jasminc_compile.specs.SafeFunctions.{exports_of}
use Rattle.jasminc_compile.specs.Refusals.{IsTooLargeFun, LeavesUnplaced}
use Rattle.jasminc_compile.specs.Making.{IsMade, HasNone, IsFirstOf}
use Rattle.jasminc_compile.specs.InnerMaking.{IsOutcome, AreOutcomes, IsTold}
use Rattle.jasminc_compile.specs.InnerSettling.{is_of, IsNotAt, IsFirstRefusal, IsFirstUnmade}
use Rattle.jasminc_compile.proofs.Heads.{end_same, codeless_too}

module _ (p : Program) where
  -- ---- what is made is not refused
  pub made_not_large : (f : Fun) (c : Compiled) → IsMade p f c → HasNone (IsTooLargeFun p) f
  made_not_large f c h = λ name large.
      let t = large.1 in
      h.placed no.Frame (codeless_too p f t.expanded h.expanded t.change h.change t.count h.count t.expansion h.from.expansion no.Frame t.over)

  pub made_not_unplaced : (f : Fun) (c : Compiled) → IsMade p f c → HasNone (LeavesUnplaced p) f
  made_not_unplaced f c h = λ u left.
      h.placed (no.Place left.refusal)
      (codeless_too p f left.expanded h.expanded left.change h.change left.count h.count left.expansion h.from.expansion (no.Place left.refusal) left.codeless)

  unplaced_not_large : (f : Fun) (u : Unplaced) → LeavesUnplaced p f u → HasNone (IsTooLargeFun p) f
  unplaced_not_large f u left = λ name large.
      let t = large.1 in
      let same : stack_end t.expanded ≡ stack_end left.expanded = end_same p f t.expanded left.expanded t.change left.change t.count left.count t.expansion left.expansion in
      let over = t.over in
      let within = left.codeless.0 in
      absurd (omega (arith, same, over, within))

  not_large : (f : Fun) (o : Outcome) → IsOutcome p f o → IsNotAt stage.Frame o → HasNone (IsTooLargeFun p) f
  not_large f (Made c) h b = made_not_large f c h
  not_large f (Not (unmade.Frame name)) h b = absurd (false≢true (sym b))
  not_large f (Not (unmade.NoPlace u)) h b = unplaced_not_large f u h

  not_unplaced : (f : Fun) (o : Outcome) → IsOutcome p f o → IsNotAt stage.Frame o → IsNotAt stage.Places o → HasNone (LeavesUnplaced p) f
  not_unplaced f (Made c) h b d = made_not_unplaced f c h
  not_unplaced f (Not (unmade.Frame name)) h b d = absurd (false≢true (sym b))
  not_unplaced f (Not (unmade.NoPlace u)) h b d = absurd (false≢true (sym d))

  -- ---- each function of a list
  abbrev Outcomes : List Fun → List Outcome → Type 0
  Outcomes fs os = AllZip (IsOutcome p) fs os

  none_large : (fs : List Fun) (os : List Outcome) → Outcomes fs os → All (IsNotAt stage.Frame) os → All (HasNone (IsTooLargeFun p)) fs
  none_large [] os h b = All-nil (HasNone (IsTooLargeFun p))
  none_large (f ∷ fs) [] h b = absurd h
  none_large (f ∷ fs) (o ∷ os) h b =
      All-cons (HasNone (IsTooLargeFun p)) f fs (not_large f o h.0 (All-head (IsNotAt stage.Frame) o os b)) (none_large fs os h.1 (All-tail (IsNotAt stage.Frame) o os b))

  none_unplaced : (fs : List Fun) (os : List Outcome) → Outcomes fs os → All (IsNotAt stage.Frame) os → All (IsNotAt stage.Places) os → All (HasNone (LeavesUnplaced p)) fs
  none_unplaced [] os h b d = All-nil (HasNone (LeavesUnplaced p))
  none_unplaced (f ∷ fs) [] h b d = absurd h
  none_unplaced (f ∷ fs) (o ∷ os) h b d =
      All-cons (HasNone (LeavesUnplaced p)) f fs (not_unplaced f o h.0 (All-head (IsNotAt stage.Frame) o os b) (All-head (IsNotAt stage.Places) o os d))
      (none_unplaced fs os h.1 (All-tail (IsNotAt stage.Frame) o os b) (All-tail (IsNotAt stage.Places) o os d))

  pub each_not_large : (fs : List Fun) (cs : List Compiled) → AllZip (IsMade p) fs cs → All (HasNone (IsTooLargeFun p)) fs
  each_not_large [] cs h = All-nil (HasNone (IsTooLargeFun p))
  each_not_large (f ∷ fs) [] h = absurd h
  each_not_large (f ∷ fs) (c ∷ cs) h = All-cons (HasNone (IsTooLargeFun p)) f fs (made_not_large f c h.0) (each_not_large fs cs h.1)

  pub each_not_unplaced : (fs : List Fun) (cs : List Compiled) → AllZip (IsMade p) fs cs → All (HasNone (LeavesUnplaced p)) fs
  each_not_unplaced [] cs h = All-nil (HasNone (LeavesUnplaced p))
  each_not_unplaced (f ∷ fs) [] h = absurd h
  each_not_unplaced (f ∷ fs) (c ∷ cs) h = All-cons (HasNone (LeavesUnplaced p)) f fs (made_not_unplaced f c h.0) (each_not_unplaced fs cs h.1)

  -- ---- in step
  outcome_at : (fs : List Fun) (os : List Outcome) (i : ℕ) (o : Outcome) → Outcomes fs os → slice_get os i ≡ Some o → (f : Fun) × (slice_get fs i ≡ Some f) × IsOutcome p f o
  outcome_at [] [] i o h e = absurd cc
  outcome_at [] (q ∷ os) i o h e = absurd h
  outcome_at (f ∷ fs) [] i o h e = absurd h
  outcome_at (f ∷ fs) (q ∷ os) zero o h e = let same : q ≡ o = cc in (f, refl, subst (λ (z : Outcome). IsOutcome p f z) same h.0)
  outcome_at (f ∷ fs) (q ∷ os) (suc i) o h e = outcome_at fs os i o h.1 e

  taken_too : (fs : List Fun) (os : List Outcome) (i : ℕ) → Outcomes fs os → Outcomes (take i fs) (take i os)
  taken_too fs os zero h = tt
  taken_too [] [] (suc i) h = tt
  taken_too [] (q ∷ os) (suc i) h = absurd h
  taken_too (f ∷ fs) [] (suc i) h = absurd h
  taken_too (f ∷ fs) (q ∷ os) (suc i) h = (h.0, taken_too fs os i h.1)

  taken_all : (P : Outcome → Type 0) (os : List Outcome) (i : ℕ) → All P os → All P (take i os)
  taken_all P os zero h = All-nil P
  taken_all P [] (suc i) h = All-nil P
  taken_all P (o ∷ os) (suc i) h = All-cons P o (take i os) (All-head P o os h) (taken_all P os i (All-tail P o os h))

  first_of : {A : Type 0} (Refuses : Fun → A → Type 0) (fs : List Fun) (i : ℕ) (f : Fun) (a : A) → slice_get fs i ≡ Some f → All (HasNone Refuses) (take i fs) → Refuses f a → IsFirstOf Refuses fs a
  first_of Refuses fs i f a there before here = record {
    front = take i fs;
    function = f;
    rest = drop (suc i) fs;
    split = split_at fs i f (slice_get_within fs i f there) ∙ ap (λ x. take i fs ++ x ∷ drop (suc i) fs) (get_or_from_slice_get fs i f f there);
    earlier = before;
    here = here;
  }

  -- ---- what is told
  module _ (os : List Outcome) (h : AreOutcomes p os) (i : ℕ) where
    abbrev fs : List Fun
    fs = exports_of p.funs

    told_frame : (u : Unmade) → is_of stage.Frame u ≡ true → slice_get os i ≡ Some (Not u) → All (IsNotAt stage.Frame) (take i os) → IsTold p u
    told_frame (unmade.Frame name) e there b =
        let z = outcome_at fs os i (Not (unmade.Frame name)) h there in
        record {
          has = first_of (IsTooLargeFun p) fs i z.0 name z.1 (none_large (take i fs) (take i os) (taken_too fs os i h) b) z.2;
          behind = tt;
        }
    told_frame (unmade.NoPlace u) e there b = absurd (false≢true e)

    told_place : (u : Unmade) → is_of stage.Places u ≡ true → slice_get os i ≡ Some (Not u) → All (IsNotAt stage.Frame) os → All (IsNotAt stage.Places) (take i os) → IsTold p u
    told_place (unmade.Frame name) e there b d = absurd (false≢true e)
    told_place (unmade.NoPlace u) e there b d =
        let z = outcome_at fs os i (Not (unmade.NoPlace u)) h there in
        record {
          has = first_of (LeavesUnplaced p) fs i z.0 u z.1 (none_unplaced (take i fs) (take i os) (taken_too fs os i h) (taken_all (IsNotAt stage.Frame) os i b) d) z.2;
          behind = none_large fs os h b;
        }

  one_refusal : (os : List Outcome) (i : ℕ) (u w : Unmade) → slice_get os i ≡ Some (Not u) → slice_get os i ≡ Some (Not w) → w ≡ u
  one_refusal os i u w a b = let e : Some (Not w) ≡ Some (Not u) = sym b ∙ a in cc

  pub told : (os : List Outcome) (u : Unmade) → AreOutcomes p os → IsFirstUnmade os u → IsTold p u
  told os u h first = by first.first
    where
      by : IsFirstRefusal os first.place → IsTold p u
      by (inl k) = told_frame os h first.place u (subst (λ (w : Unmade). is_of stage.Frame w ≡ true) (one_refusal os first.place u k.unmade first.there k.there) k.here) first.there k.earlier
      by (inr k) = told_place os h first.place u (subst (λ (w : Unmade). is_of stage.Places w ≡ true) (one_refusal os first.place u k.1.unmade first.there k.1.there) k.1.here) first.there k.0 k.1.earlier
