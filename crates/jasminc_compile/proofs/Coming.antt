-- The outcomes of functions, as far as a loop has come.
use Rattle.std.proofs.Common.{◌≡◌, List, [], ◌∷◌, ◌++◌, append_assoc, append-nil, map, refl, sym, ◌∙◌, subst}
use Rattle.std.specs.List.{AllZip}
use Rattle.jz_tree.specs.declared.program.Fun.{Fun}
use Rattle.jz_tree.specs.declared.program.Program.{Program}
use Rattle.jz_verdict.proofs.Followed.{same_at}
use Rattle.jz_listing.specs.declared.compiled.Compiled.{Compiled}
use Rattle.jz_compiled.specs.Correct.{AreCorrect}
use Rattle.jz_verdict.specs.Said.{IsSaid}
use Rattle.jasminc_compile.specs.declared.outcome.Outcome.{Outcome}
use Rattle.jasminc_compile.specs.declared.outcome.Outcome.TheVariants.{Made}
use Rattle.jasminc_compile.specs.declared.safety.SafeFun.{SafeFun}
use Rattle.jasminc_compile.specs.SafeFunctions.{exports_of, IsSafeFun}
use Rattle.jasminc_compile.specs.Making.{IsMade, ShowsIfListed}
use Rattle.jasminc_compile.specs.MakingLaws.{MadeIsCorrect, MadeShowsNothingSecret}
use Rattle.jasminc_compile.specs.InnerMaking.{IsOutcome, IsOutcomeAt, IsSafeSomewhere}

module _ (p : Program) (fs : List Fun) where
  -- the first functions have come to these outcomes, and the others are these
  pub record HasCome (os : List Outcome) (rest : List SafeFun) : Type 0 where
    pub front : List Fun
    pub back : List Fun
    pub split : fs ≡ front ++ back
    pub came : AllZip (IsOutcome p) front os
    pub left : AllZip (IsSafeFun p) back rest

  pub none_came : (ss : List SafeFun) → AllZip (IsSafeFun p) fs ss → HasCome [] ss
  none_came ss h = record { front = []; back = fs; split = refl; came = tt; left = h }

  pub next_is_safe : (os : List Outcome) (s : SafeFun) (rest : List SafeFun) → HasCome os (s ∷ rest) → IsSafeSomewhere p s
  next_is_safe os s rest h = by h.back h.left
    where
      by : (bs : List Fun) → AllZip (IsSafeFun p) bs (s ∷ rest) → IsSafeSomewhere p s
      by [] k = absurd k
      by (b ∷ bs) k = (b, k.0)

  pushed : (gs : List Fun) (os : List Outcome) (g : Fun) (o : Outcome) → AllZip (IsOutcome p) gs os → IsOutcome p g o → AllZip (IsOutcome p) (gs ++ g ∷ []) (os ++ o ∷ [])
  pushed [] [] g o h k = (k, tt)
  pushed [] (q ∷ os) g o h k = absurd h
  pushed (f ∷ gs) [] g o h k = absurd h
  pushed (f ∷ gs) (q ∷ os) g o h k = (h.0, pushed gs os g o h.1 k)

  pub next_came : (os : List Outcome) (s : SafeFun) (rest : List SafeFun) (o : Outcome) → HasCome os (s ∷ rest) → IsOutcomeAt p s.place o → HasCome (os ++ o ∷ []) rest
  next_came os s rest o h (g, there, is) = by h.back h.split h.left
    where
      by : (bs : List Fun) → fs ≡ h.front ++ bs → AllZip (IsSafeFun p) bs (s ∷ rest) → HasCome (os ++ o ∷ []) rest
      by [] e k = absurd k
      by (b ∷ bs) e k = record {
        front = h.front ++ b ∷ [];
        back = bs;
        split = e ∙ sym (append_assoc h.front (b ∷ []) bs);
        came = pushed h.front os b o h.came (subst (λ (f : Fun). IsOutcome p f o) (same_at p s.place g b there k.0.there) is);
        left = k.1;
      }

  pub all_came : (os : List Outcome) → HasCome os [] → AllZip (IsOutcome p) fs os
  all_came os h = by h.back h.split h.left
    where
      by : (bs : List Fun) → fs ≡ h.front ++ bs → AllZip (IsSafeFun p) bs [] → AllZip (IsOutcome p) fs os
      by [] e k = subst (λ gs. AllZip (IsOutcome p) gs os) (sym (append-nil h.front) ∙ sym e) h.came
      by (b ∷ bs) e k = absurd k

-- where all are functions
pub all_are_made : (p : Program) (fs : List Fun) (cs : List Compiled) → AllZip (IsOutcome p) fs (map Made cs) → AllZip (IsMade p) fs cs
all_are_made p [] [] h = tt
all_are_made p [] (c ∷ cs) h = absurd h
all_are_made p (f ∷ fs) [] h = absurd h
all_are_made p (f ∷ fs) (c ∷ cs) h = (h.0, all_are_made p fs cs h.1)

-- what is made is correct
each_correct : (p : Program) (fs : List Fun) (cs : List Compiled) → AllZip (IsMade p) fs cs → AreCorrect IsSaid p fs cs
each_correct p [] [] h = tt
each_correct p [] (c ∷ cs) h = absurd h
each_correct p (f ∷ fs) [] h = absurd h
each_correct p (f ∷ fs) (c ∷ cs) h = (h.0.correct, each_correct p fs cs h.1)

pub made_correct : MadeIsCorrect
made_correct p cs h = each_correct p (exports_of p.funs) cs h

-- and shows nothing that is secret, where it is listed so
pub each_shows : (p : Program) (fs : List Fun) (cs : List Compiled) → AllZip (IsMade p) fs cs → AllZip ShowsIfListed fs cs
each_shows p [] [] h = tt
each_shows p [] (c ∷ cs) h = absurd h
each_shows p (f ∷ fs) [] h = absurd h
each_shows p (f ∷ fs) (c ∷ cs) h = (h.0.secrets, each_shows p fs cs h.1)

pub made_shows : MadeShowsNothingSecret
made_shows p cs h = each_shows p (exports_of p.funs) cs h
