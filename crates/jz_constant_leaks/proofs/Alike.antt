-- An expansion that is constant time, and the function of the text.
use Rattle.std.proofs.Common.{◌≡◌, ℕ, List, refl, sym, subst}
use Rattle.jz_tree.specs.declared.program.Fun.{Fun}
use Rattle.jz_tree.specs.declared.program.Param.{Param}
use Rattle.jz_tree.specs.declared.program.Program.{Program}
use Rattle.jz_runs.specs.Rules.{End, Cut, Stuck}
use Rattle.jz_meaning.specs.Runs.{Returned, FunOutcome, outcome_of_body}
use Rattle.jz_run_laws.specs.Kinds.{HoldsBytes}
use Rattle.jz_change.specs.Changes.{Change, map_of}
use Rattle.jz_pass.specs.Laws.{Follows, has_ended, was_cut}
use Rattle.jz_inline.specs.Functions.{Given, runs_of, body_runs}
use Rattle.jz_function_runs.specs.FunctionRuns.{plain_body, alike_where}
use Rattle.jz_safe_expansions.specs.Making.{IsAsked, IsExpandedTo}
use Rattle.jz_safe_expansions.proofs.Followed.{expansions_keep_runs}
use Rattle.jz_safe_expansions.specs.Safety.{IsFineFunction}
use Rattle.jz_equal_leaks.specs.Laws.{AreEqualAtPublic, IsFixedFunction, LeakTheSame}
use Rattle.jz_equal_leaks.proofs.Entry.{leaks_same}
use Rattle.jz_fixed.proofs.FixedBodies.{function_fixed}
use Rattle.jz_ct.specs.Told.{IsConstantTime}
use Rattle.jz_safe_expansions.specs.SafeExpansions.{IsExpandedExport}
use Rattle.jz_safe_expansions.proofs.Whole.{expansions_are_fine}
use Rattle.jz_constant_leaks.specs.ConstantLeaks.{LeakAlike, ConstantExpansionsLeakTheSame, ConstantFunctionsLeakAlike}

-- an expansion is of the forms of which equal leaks are proved
pub expanded_fixed : (p : Program) (f g : Fun) (k : Change) (count : ℕ) → IsExpandedExport p f g k count → IsFixedFunction g (plain_body g)
expanded_fixed p f g k count x =
    let fine : IsFineFunction (plain_body g) g = expansions_are_fine p f g k count x in
    function_fixed fine.kinds fine.in_frame g (plain_body g) fine.params fine.body

module _ (p : Program) (f g : Fun) (k : Change) (count : ℕ) (x : IsExpandedExport p f g k count) (constant : IsConstantTime g) where
  to : IsExpandedTo p f g k
  to = expansions_keep_runs p f g k count x.typed x.text x.there x.exported x.expansion

  fixed : IsFixedFunction g (plain_body g)
  fixed = expanded_fixed p f g k count x

  module _ (given other : Given) (equal : AreEqualAtPublic f.params given.words other.words) (n : ℕ) where
    expanded_same : (o q : FunOutcome) → body_runs (plain_body g) g given n o → body_runs (plain_body g) g other n q → LeakTheSame {V = Returned} o q
    expanded_same o q a b =
        subst (λ (y : FunOutcome). LeakTheSame {V = Returned} o y) b.gives
        (subst (λ (y : FunOutcome). LeakTheSame {V = Returned} y (outcome_of_body g.result b.out)) a.gives
        (leaks_same g (plain_body g) fixed constant given.words other.words
        (subst (λ (ps : List Param). AreEqualAtPublic ps given.words other.words) (sym to.params) equal) given.memory other.memory n a.out b.out a.goes b.goes))

    abbrev After : Given → FunOutcome → Type 0
    After start o = Follows (alike_where (IsAsked p f)) k (body_runs (plain_body g) g start n) o

    both_follow : (o q : FunOutcome) → After given o → After other q → LeakAlike k o q
    both_follow (End r m l) (End s j i) (has_ended v e fit a) (has_ended w d too b) =
        let h : (m ≡ j) × (map_of k l ≡ map_of k i) × Unit {0} = expanded_same (End v m (map_of k l)) (End w j (map_of k i)) a b in (h.0, h.1)
    both_follow (End r m l) (Cut i) (has_ended v e fit a) (was_cut too b) = expanded_same (End v m (map_of k l)) (Cut (map_of k i)) a b
    both_follow (End r m l) (Stuck w) y z = tt
    both_follow (Cut l) (End s j i) (was_cut fit a) (has_ended w d too b) = expanded_same (Cut (map_of k l)) (End w j (map_of k i)) a b
    both_follow (Cut l) (Cut i) (was_cut fit a) (was_cut too b) = expanded_same (Cut (map_of k l)) (Cut (map_of k i)) a b
    both_follow (Cut l) (Stuck w) y z = tt
    both_follow (Stuck w) q y z = tt

    sources_alike : HoldsBytes given.memory → HoldsBytes other.memory → (o q : FunOutcome) → runs_of p f given n o → runs_of p f other n q → LeakAlike k o q
    sources_alike one two o q a b =
        both_follow o q (to.carries.forth given given n o (refl, (a.input, one)) a) (to.carries.forth other other n q (refl, (b.input, two)) b)

pub expansions_same : ConstantExpansionsLeakTheSame
expansions_same p f g k count x constant given other equal n o q a b = expanded_same p f g k count x constant given other equal n o q a b

pub functions_alike : ConstantFunctionsLeakAlike
functions_alike p f g k count x constant given other one two equal n o q a b = sources_alike p f g k count x constant given other equal n one two o q a b
