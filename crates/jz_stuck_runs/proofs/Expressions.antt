-- Expressions in their places: each is stuck for want of a value of its own, or has a value of its
-- place.
use Rattle.std.proofs.Common.{◌≡◌, ℕ, List, Option, Some, None, refl}
use Rattle.std.specs.Prelude.{All, Contains}
use Rattle.std.proofs.lemmas.List.Elements.{All-contains_itself}
use Rattle.jz_tree.specs.Span.{Span}
use Rattle.jz_tree.specs.Size.{Size}
use Rattle.jz_tree.specs.declared.expr.Expr.{Expr}
use Rattle.jz_tree.specs.declared.expr.Decl.{Decl}
use Rattle.jz_tree.specs.declared.expr.Var.{Var}
use Rattle.jz_judgement.specs.Places.{Place}
use Rattle.jz_judgement.specs.Places as place
use Rattle.jz_judgement.specs.HasType.{value, HasType}
use Rattle.jz_types.specs.Carried.{vars_in}
use Rattle.jz_meaning.specs.declared.value.Stuck as code
use Rattle.jz_meaning.specs.Rules.{went}
use Rattle.jz_meaning.specs.Attempts.{Evaluation, and_then}
use Rattle.jz_meaning.specs.States.{Value, State}
use Rattle.jz_meaning.specs.Operators.{word_at}
use Rattle.jz_meaning.specs.Values.{ref_of, evaluated}
use Rattle.jz_meaning.specs.Assignments.{word_in, truth, bool_in}
use Rattle.jz_meaning.specs.Statements.{number_at, number_in}
use Rattle.jz_run_laws.specs.Kinds.{IsOfKinds}
use Rattle.jz_run_laws.specs.DeclaredKinds.{kinds_of, IsDeclared}
use Rattle.jz_run_laws.specs.Kept.{IfWent}
use Rattle.jz_run_laws.specs.Counted.{IsCounted, Counted, Each}
use Rattle.jz_run_laws.specs.Values.{IsAt, IsWanted}
use Rattle.jz_run_laws.proofs.InPlaces.{in_place}
use Rattle.jz_typed_runs.proofs.Declaring.{IsKept}
use Rattle.jz_typed_runs.proofs.OperatorCauses.{IfStuck}
use Rattle.jz_typed_runs.proofs.Causing.{stuck_then, cause_law}
use Rattle.jz_typed_runs.proofs.ReachedCauses.{each_by, kept_counted}
use Rattle.jz_stuck_runs.specs.Lacking.{IsLacking}
use Rattle.jz_stuck_runs.proofs.Steps.{Lacks, by_stuck, weaker, word_there, truth_there, number_there}

-- ---- what is known of the variables of an expression
module _ (declared : List ℕ → Option Decl) where
  abbrev pub Kept : Var → Type 0
  Kept v = IsKept declared v

  abbrev pub HasKept : Expr → Type 0
  HasKept e = All Kept (vars_in e)

  pub counted_of : (e : Expr) → HasKept e → Counted e
  counted_of e k = each_by IsCounted e (λ i d lt. kept_counted declared _ (k i d lt))

  pub declared_of : (e : Expr) → HasKept e → Each (λ v. IsDeclared (kinds_of declared) (ref_of v)) e
  declared_of e k = each_by (λ v. IsDeclared (kinds_of declared) (ref_of v)) e (λ i d lt. (k i d lt).own_kind)

  module _ (s : State) (h : IsOfKinds (kinds_of declared) s) where
    pub at_place : (e : Expr) (p : Place) (w : Option Size) → HasKept e → HasType (value e) p → IsWanted p w → IfWent (IsAt p) (evaluated e w s)
    at_place e p w k t i = in_place (kinds_of declared) s e p w h (counted_of e k) (declared_of e k) t i

    pub caused : (e : Expr) (p : Place) (w : Option Size) → HasKept e → HasType (value e) p → IsWanted p w → IfStuck (Lacks (IsLacking e s)) (evaluated e w s)
    caused e p w k t i =
        by_stuck (Lacks (IsLacking e s)) (evaluated e w s)
        (λ u is. cause_law (kinds_of declared) s (vars_in e) e p w u h (counted_of e k) (declared_of e k) (each_by (Contains (vars_in e)) e (All-contains_itself (vars_in e))) t i is)

    module _ (D : code.Stuck → Type 0) where
      -- the reason of the expression is one of the whole
      abbrev pub Goes : Expr → Type 0
      Goes e = (u : code.Stuck) → IsLacking e s u → D u

      pub alone : (e : Expr) (p : Place) (w : Option Size) → HasKept e → HasType (value e) p → IsWanted p w → Goes e → IfStuck (Lacks D) (evaluated e w s)
      alone e p w k t i g = weaker (Lacks (IsLacking e s)) (Lacks D) (evaluated e w s) (λ u c is. g u (c is)) (caused e p w k t i)

      pub after : {A : Type 0} (e : Expr) (p : Place) (w : Option Size) (f : Value → Evaluation A) → HasKept e → HasType (value e) p → IsWanted p w → Goes e
          → ((ns : List ℕ) (x : Value) → evaluated e w s ≡ went ns x → IsAt p x → IfStuck (Lacks D) (f x)) → IfStuck (Lacks D) (and_then (evaluated e w s) f)
      after e p w f k t i g n = stuck_then (Lacks D) (IsAt p) (evaluated e w s) f (alone e p w k t i g) (at_place e p w k t i) n

      pub word_fine : (at : Span) (z : Size) (e : Expr) → HasKept e → HasType (value e) (place.word z) → Goes e → IfStuck (Lacks D) (word_in at z e s)
      word_fine at z e k t g = after e (place.word z) (Some z) (word_at at z) k t refl g (λ ns x is q. word_there (Lacks D) at z x q)

      pub bool_fine : (at : Span) (e : Expr) → HasKept e → HasType (value e) place.truth → Goes e → IfStuck (Lacks D) (bool_in at e s)
      bool_fine at e k t g = after e place.truth None (truth at) k t tt g (λ ns x is q. truth_there (Lacks D) at x q)

      pub number_fine : (at : Span) (e : Expr) → HasKept e → HasType (value e) place.integer → Goes e → IfStuck (Lacks D) (number_in at e s)
      number_fine at e k t g = after e place.integer None (number_at at) k t tt g (λ ns x is q. number_there (Lacks D) at x q)
