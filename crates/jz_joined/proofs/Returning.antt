-- What a function gives back, in the variables of its results and as words of its listing.
use Rattle.std.proofs.Common.{◌≡◌, ℕ, ◌<◌, ◌%◌, List, [], ◌∷◌, Some, sym, ap, ap₂, ◌∙◌, subst}
use Rattle.std.proofs.Math.Nat.{mod-eq_of_lt}
use Rattle.jz_words.specs.declared.size.Size.{Size}
use Rattle.jz_words.specs.Sizes.{modulus}
use Rattle.x64_insn.specs.declared.types.Reg.{Reg}
use Rattle.jz_tree.specs.declared.expr.Var.{Var}
use Rattle.jz_tree.specs.declared.program.Ret.{Ret}
use Rattle.jz_runs.specs.Rules.{went}
use Rattle.jz_meaning.specs.Attempts.{and_then}
use Rattle.jz_meaning.specs.States as source
use Rattle.jz_meaning.specs.Values.{key_of, ref_of}
use Rattle.jz_meaning.specs.Runs.{result_word, result_words}
use Rattle.jz_operations.specs.Values.{State, word}
use Rattle.jz_place.specs.declared.tree.Passed.{Passed}
use Rattle.jz_homes.specs.Homes.{Homes, IsRelated, in_register}
use Rattle.jz_homes.proofs.Parts.{both_went, went_same}
use Rattle.jz_lowered.specs.Functions.{ArePassed, none_passed, one_passed}
use Rattle.jz_lowered.proofs.Entries.{returned}
use Rattle.jz_listing.specs.declared.compiled.Arg.{Arg}
use Rattle.jz_called.specs.Called.{AreResults}
use Rattle.jz_compiled.specs.Lines.{AreResultLines}
use Rattle.jz_compiled.specs.Matching.{values_of}
use Rattle.jz_joined.specs.Making.{HaveSizes}

-- the words of results, as the listing has them and as the source gives them
pub record AreGiven (τ : State) (rets : List Arg) (qs : List Passed) (vs : List source.Value) : Type 0 where
  pub words : List ℕ
  pub results : AreResults τ rets qs words
  pub values : vs ≡ values_of rets words

module _ (home : Homes) (s : source.State) (τ : State) (related : IsRelated home s τ) where
  one_more : (x : Var) (q : Passed) (qs : List Passed) (a : Arg) (rets : List Arg) (r : Reg) (z : Size) (ns : List ℕ) (v : source.Value) (vs : List source.Value) → home (key_of (ref_of x)) ≡ Some (in_register q.variable.variable z)
      → z ≡ a.size → q.reg ≡ r → a.reg ≡ r → result_word x s.store ≡ went ns v → AreGiven τ rets qs vs → AreGiven τ (a ∷ rets) (q ∷ qs) (v ∷ vs)
  one_more x q qs a rets r z ns v vs h same reg line run g =
      let k = returned home s τ x q.variable.variable z ns v related h run in
      record {
        words = k.0 ∷ g.words;
        results = ((line ∙ sym reg, (k.0, k.3 ∙ ap (λ y. Some (word y k.0)) same, small k.0 a.size (subst (λ y. k.0 < modulus y) same k.2))), g.results);
        values = ap₂ (λ u us. u ∷ us) (k.1 ∙ ap (λ y. source.word y k.0) same) g.values;
      }
    where
      small : (n : ℕ) (y : Size) → n < modulus y → n ≡ n % modulus y
      small n y lt = sym (mod-eq_of_lt lt)

  pub all_given : (rs : List Reg) (xs : List Var) (qs : List Passed) (ts : List Ret) (rets : List Arg) (ns : List ℕ) (vs : List source.Value) → ArePassed home rs xs qs → AreResultLines rs xs ts rets → HaveSizes home xs rets
      → result_words xs s.store ≡ went ns vs → AreGiven τ rets qs vs
  all_given rs [] [] ts rets ns vs none_passed lines sized run = none rets sized
    where
      empty : vs ≡ []
      empty = sym (went_same [] ns [] vs run).1

      none : (as' : List Arg) → HaveSizes home [] as' → AreGiven τ as' [] vs
      none [] h = record { words = []; results = tt; values = empty }
      none (a ∷ as') h = absurd h
  all_given rs [] (q ∷ qs) ts rets ns vs passed lines sized run = elim passed [ ]
  all_given rs (x ∷ xs) qs [] rets ns vs (one_passed {r = r} {rs = rs2} {p = q} {ps = qs2} z h span reg more) lines sized run = absurd lines
  all_given rs (x ∷ xs) qs (t ∷ ts) [] ns vs (one_passed {r = r} {rs = rs2} {p = q} {ps = qs2} z h span reg more) lines sized run = absurd lines
  all_given rs (x ∷ xs) qs (t ∷ ts) (a ∷ rets) ns vs (one_passed {r = r} {rs = rs2} {p = q} {ps = qs2} z h span reg more) lines sized run =
      let first = both_went (result_word x s.store) (λ v. and_then (result_words xs s.store) (λ us. went [] (v ∷ us))) ns vs run in
      let rest = both_went (result_words xs s.store) (λ us. went [] (first.value ∷ us)) first.second vs first.went_on in
      let list = went_same [] rest.second (first.value ∷ rest.value) vs rest.went_on in
      subst (AreGiven τ (a ∷ rets) (q ∷ qs2)) list.1
      (one_more x q qs2 a rets r z first.first first.value rest.value h (sized.0 q.variable.variable z h) reg lines.0.2 first.came
      (all_given rs2 xs qs2 ts rets rest.first rest.value more lines.1 sized.1 rest.came))
