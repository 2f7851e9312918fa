-- Places by the kinds of variables suit a body whose words are told by them.
use Rattle.std.proofs.Common.{◌≡◌, ◌≢◌, ℕ, ◌<◌, List, IsTrue, length, get_or, Some, None, refl, subst, arith}
use Rattle.std.specs.List.{list_all}
use Rattle.std.proofs.lemmas.Bool.{and_parts, ltb-true}
use Rattle.x64_insn.specs.declared.types.Place.{Place}
use Rattle.x64_insn.specs.declared.types.Place.TheVariants as place
use Rattle.x64_insn.specs.declared.types.Reg.TheVariants as reg
use Rattle.x64_insn.specs.declared.types.Flag.TheVariants as flag
use Rattle.jz_ir.specs.declared.code.Code.{Code}
use Rattle.jz_ir.specs.declared.code.Kind.{Kind}
use Rattle.jz_ir.specs.declared.code.Kind.TheVariants.{Word}
use Rattle.jz_ir.specs.Order.{number_of, has_place}
use Rattle.jz_ir.specs.Places.{is_of_kind, kind_has, op_fits, place_at, IsPlacing}
use Rattle.jz_runs.specs.Trees.{done, op, quiet, choose, loop, each, call}
use Rattle.jz_operations.specs.declared.operation.Condition.TheVariants as condition
use Rattle.jz_operations.specs.declared.operation.Operation.{Operation}
use Rattle.jz_operations.specs.Insns.{reg_of}
use Rattle.jz_placing.specs.Variables.{Asked, always, asks, Body}
use Rattle.jz_placing.specs.Placing.{Suits, SuitsTest, AreSuited}
use Rattle.jz_place.specs.Sorts.{IsSorted, TestSorted, AreSorted}

-- the first fifteen places are registers, none of them the stack pointer
registers : (p : Place) → number_of p < 15 → (p ≡ place.Reg (reg_of p)) × (reg_of p ≢ reg.Rsp)
registers (place.Reg r) lt = (refl, λ e. absurd (let l : number_of (place.Reg reg.Rsp) < 15 = subst (λ x. number_of (place.Reg x) < 15) e lt in omega (arith, l)))
registers (place.Flag flag.Cf) lt = absurd (omega (arith, lt))
registers (place.Flag flag.Of) lt = absurd (omega (arith, lt))
registers (place.Flag flag.Sf) lt = absurd (omega (arith, lt))
registers (place.Flag flag.Pf) lt = absurd (omega (arith, lt))
registers (place.Flag flag.Zf) lt = absurd (omega (arith, lt))

module _ (code : Code) (Live : ℕ → ℕ → Type 0) (list : List Place) (p : IsPlacing code Live list) where
  word_place : (v : ℕ) → v < length code.kinds → get_or code.kinds v Word ≡ Word → number_of (place_at list v) < 15
  word_place v l e =
      let q : ℕ = number_of (place_at list v) in
      let k = (and_parts (kind_has code.kinds code.in_use v q) (list_all (op_fits v q) code.ops) (p.meets_needs v l)).0 in
      let w = (and_parts (is_of_kind (get_or code.kinds v Word) q) (has_place code.in_use q) k).0 in
      ltb-true q 15 (subst (λ x. IsTrue (is_of_kind x q)) e w)

  suits : (o : Operation) → IsSorted code.kinds o → Suits list o
  suits o s = record {
    words = λ v t. let z = s.words v t in registers (place_at list v) (word_place v z.0 z.1);
    stack = s.stack;
    one = s.one;
  }

  test_suits : (c : Asked) → TestSorted code.kinds c → SuitsTest list c
  test_suits always s = tt
  test_suits (asks (Some o) (condition.Cc c)) s = suits o s
  test_suits (asks None (condition.Flag v no')) s = tt
  test_suits (asks (Some o) (condition.Flag v no')) s = absurd s
  test_suits (asks None (condition.Cc c)) s = absurd s

  pub suited : (t : Body) → AreSorted code.kinds t → AreSuited list t
  suited done s = tt
  suited (op o r) s = (suits o s.0, suited r s.1)
  suited (quiet o r) s = suited r s
  suited (choose c a b r) s = (test_suits c s.0, s.1, suited a s.2, suited b s.3, suited r s.4)
  suited (loop q y c b r) s = (suited y s.0, test_suits c s.1, suited b s.2, suited r s.3)
  suited (each f b r) s = absurd f
  suited (call c b r) s = absurd c
