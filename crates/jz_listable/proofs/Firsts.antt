-- What holds of each condition that is not given holds of the first one along a body.
use Rattle.std.proofs.Common.{true, false, Option, Some, None, refl, sym, subst}
use Rattle.std.specs.Prelude.{⊤}
use Rattle.jz_runs.specs.Trees.{Tree, done, op, quiet, choose, loop, each, call}
use Rattle.jz_flow.specs.Sets.{Facts, common}
use Rattle.jz_flow.specs.Flow.{Steps}
use Rattle.jz_flow.specs.Alarms.{Asks, FirstOf, no_more, First}

module _ {O T N C : Type 0} (Op : O → Type 0) (Test : T → Type 0) where
  -- Op of each operation, Test of each test
  abbrev pub HasParts : Tree O T N C → Type 0
  HasParts done = ⊤
  HasParts (op o r) = Op o × HasParts r
  HasParts (quiet o r) = HasParts r
  HasParts (choose c a b r) = Test c × HasParts a × HasParts b × HasParts r
  HasParts (loop w p c b r) = Test c × HasParts p × HasParts b × HasParts r
  HasParts (each f b r) = ⊤
  HasParts (call c b r) = ⊤

-- of what is asked first, or else of what follows
now_or : {W : Type 0} (P : Option W → Type 0) (x w : Option W) (Q : Type 0) → FirstOf x w Q → P x → (Q → P w) → P w
now_or P None w Q h k f = f (h.later refl)
now_or P (Some a) w Q h k f = subst P (sym (h.now a refl)) k

none_left : {F W : Type 0} (P : Option W → Type 0) → P None → (s : Facts F) (w : Option W) → no_more s w → P w
none_left P none s w e = subst P (sym e) none

module _ {O T F N C W : Type 0} (R : Steps O T F) (A : Asks O T F W) (P : Option W → Type 0) (none : P None) (Op : O → Type 0) (Test : T → Type 0) (op_so : (o : O) (s : Facts F) → Op o → P (A.op o s))
    (test_so : (c : T) (s : Facts F) → Test c → P (A.test c s)) where
  pub first_so : (t : Tree O T N C) → HasParts Op Test t → (s : Facts F) (w : Option W) (Then : Facts F → Option W → Type 0) → First R A t s w Then → ((x : Facts F) → Then x w → P w) → P w
  first_so done k s w Then h f = f s h
  first_so (op o r) k s w Then h f = now_or P (A.op o s) w _ h (op_so o s k.0) (λ g. first_so r k.1 (R.does o s) w Then g f)
  first_so (quiet o r) k s w Then h f = first_so r k (R.quiets o s) w Then h f
  first_so (choose c a b r) k s w Then h f =
      now_or P (A.test c s) w _ h (test_so c s k.0) (λ g.
      now_or P g.0 w _ g.2 (first_so a k.1 (R.tests c true s) g.0 no_more g.1 (λ x e. none_left P none x g.0 e)) (λ i.
      now_or P i.0 w _ i.2 (first_so b k.2 (R.tests c false s) i.0 no_more i.1 (λ x e. none_left P none x i.0 e)) (λ j.
      first_so r k.3 (common j.0 j.1) w Then j.4 f)))
  first_so (loop n p c b r) k s w Then h f =
      now_or P h.2 w _ h.4 (first_so p k.1 h.0 h.2 no_more h.3 (λ x e. none_left P none x h.2 e)) (λ g.
      now_or P (A.test c g.0) w _ g.2 (test_so c g.0 k.0) (λ i.
      now_or P i.0 w _ i.2 (first_so b k.2 (R.tests c true g.0) i.0 no_more i.1 (λ x e. none_left P none x i.0 e)) (λ j.
      first_so r k.3 (R.leaves c h.0 g.0) w Then j f)))
  first_so (each n b r) k s w Then h f = absurd h
  first_so (call n b r) k s w Then h f = absurd h
