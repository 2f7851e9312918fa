-- Where a statement is refused, a list in which it stands is.
use Rattle.std.proofs.Common.{◌≡◌, List, [], ◌∷◌, Contains, ◌⊎◌, inl, inr, sym, subst, arith, Result, Ok, Err, IfErr, IsErrAnd}
use Rattle.std.proofs.lemmas.List.Elements.{Contains-push, Contains-push_cases}
use Rattle.jz_data.specs.declared.failure.Failure.{Failure}
use Rattle.jz_data.specs.declared.failure.Failure.TheVariants.{Refused, OutOfMemory}
use Rattle.jz_data.specs.Failures.{IfRefused}
use Rattle.jz_pass.specs.Rewriting.{Shape, first_part, second_part, StandsIn, stands_here, stands_first, stands_second, RefusesOne}

pub refused_too : {E : Type 0} (e : Failure E) (P Q : E → Type 0) → ((c : E) → P c → Q c) → IfRefused e P → IfRefused e Q
refused_too (Refused c) P Q f h = f c h
refused_too OutOfMemory P Q f h = tt

-- the same through a result: of a call that is handed on, and of a call at the end
pub passed_refused : {A C : Type 0} (r : Result A (Failure C)) (e : Failure C) (P Q : C → Type 0) → IsErrAnd r (λ v. v ≡ e) → ((c : C) → P c → Q c) → IfRefused e P → IfErr r (λ v. IfRefused v Q)
passed_refused (Ok x) e P Q is f h = tt
passed_refused (Err v) e P Q is f h = refused_too v P Q f (subst (λ w. IfRefused w P) (sym is) h)

pub err_refused : {A C : Type 0} (r : Result A (Failure C)) (P Q : C → Type 0) → ((c : C) → P c → Q c) → IfErr r (λ v. IfRefused v P) → IfErr r (λ v. IfRefused v Q)
err_refused (Ok x) P Q f h = tt
err_refused (Err v) P Q f h = refused_too v P Q f h

only : {St : Type 0} (s x : St) → Contains (s ∷ []) x → s ≡ x
only {St} s x h = cases (Contains-push_cases [] s x h)
  where
    cases : Contains {X = St} [] x ⊎ (s ≡ x) → s ≡ x
    cases (inl k) = absurd (let lt = k.1 in omega (arith, lt))
    cases (inr e) = e

module _ {O T St Cause : Type 0} (shape : St → Shape O T St) (refuses : St → Cause → Type 0) where
  pub refused_here : (s : St) (c : Cause) → refuses s c → RefusesOne shape refuses (s ∷ []) c
  refused_here s c r = (s, stands_here (Contains-push [] s), r)

  moved : {x : St} (ss : List St) (s : St) → Contains ss s → StandsIn shape x (s ∷ []) → StandsIn shape x ss
  moved {x} ss s h (stands_here k) = stands_here (subst (Contains ss) (only s x k) h)
  moved ss s h (stands_first {x = y} k i) = stands_first (subst (Contains ss) (only s y k) h) i
  moved ss s h (stands_second {x = y} k i) = stands_second (subst (Contains ss) (only s y k) h) i

  pub refused_in : (ss : List St) (s : St) (c : Cause) → Contains ss s → RefusesOne shape refuses (s ∷ []) c → RefusesOne shape refuses ss c
  refused_in ss s c h r = (r.0, moved ss s h r.1, r.2)

  pub refused_first : (s : St) (c : Cause) → RefusesOne shape refuses (first_part (shape s)) c → RefusesOne shape refuses (s ∷ []) c
  refused_first s c r = (r.0, stands_first (Contains-push [] s) r.1, r.2)

  pub refused_second : (s : St) (c : Cause) → RefusesOne shape refuses (second_part (shape s)) c → RefusesOne shape refuses (s ∷ []) c
  refused_second s c r = (r.0, stands_second (Contains-push [] s) r.1, r.2)

  -- of the statements that a call gave
  pub refused_in_first : (s : St) (xs : List St) → xs ≡ first_part (shape s) → (c : Cause) → RefusesOne shape refuses xs c → RefusesOne shape refuses (s ∷ []) c
  refused_in_first s xs e c r = refused_first s c (subst (λ ys. RefusesOne shape refuses ys c) e r)

  pub refused_in_second : (s : St) (xs : List St) → xs ≡ second_part (shape s) → (c : Cause) → RefusesOne shape refuses xs c → RefusesOne shape refuses (s ∷ []) c
  refused_in_second s xs e c r = refused_second s c (subst (λ ys. RefusesOne shape refuses ys c) e r)
