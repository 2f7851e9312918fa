-- All that holds at entry.
use Rattle.std.proofs.Common.{◌≡◌, ℕ, suc, ◌+◌, ◌<◌, ◌≤◌, List, [], ◌∷◌, map, flat_map, Bool, true, refl, sym, ap, subst, arith}
use Rattle.std.specs.Prelude.{All}
use Rattle.jz_fact_laws.specs.Saying.{InRanges}
use Rattle.std.proofs.lemmas.List.Elements.{All-nil, All-cons}
use Rattle.x64_insn.specs.Memory.{Memory}
use Rattle.jz_tree.specs.declared.program.Fun.{Fun}
use Rattle.jz_type_names.specs.Scopes.{text_of_param}
use Rattle.jz_annotations.specs.declared.precondition.Pre.{Pre}
use Rattle.jz_preconditions.specs.Stating.{preconditions_of}
use Rattle.jz_preconditions.specs.Meeting.{ByteRange, IsBelowEnd, MeetsPreconditions, regions_for}
use Rattle.jz_preconditions.specs.Meeting as meeting
use Rattle.jz_meaning.specs.States.{Value, Key, Store, empty_store}
use Rattle.jz_meaning.specs.Runs.{with_arguments, entry_state}
use Rattle.jz_run_laws.specs.Kinds.{Kinds, IsOfKinds}
use Rattle.jz_facts.specs.Facts.{Start, of_parameters, least_of, at_entry}
use Rattle.jz_fact_sets.specs.declared.given.Given.{Given}
use Rattle.jz_fact_sets.specs.Kept.{start_of, region_of, given_of}
use Rattle.jz_given.specs.Giving as giving
use Rattle.jz_standing.specs.Standing.{AreValid, Stands}
use Rattle.jz_fact_entry.specs.Entry.{entry_of, AreWords, DifferByName, IsGivenOf}
use Rattle.jz_fact_entry.specs.EntryLaws.{AreOutside, InputsStand}
use Rattle.jz_fact_entry.proofs.Words.{AllFit, all_fit}
use Rattle.jz_fact_entry.proofs.Entering.{all_say, all_apart, all_ranged, all_least}
use Rattle.jz_fact_entry.proofs.Regions.{IsThere, all_valid}

abbrev AreBytes : Memory → ByteRange → Type 0
AreBytes m r = (i : ℕ) → i < r.count → meeting.IsValid m (r.from + i)

-- all of a list have what each has that is in it
all_there : (m : Memory) (rs : List ByteRange) → All IsBelowEnd rs → All (AreBytes m) rs → All (IsThere m) rs
all_there m rs a b = λ i r lt. record { ends = a i r lt; bytes = b i r lt }

covered : (m : Memory) (rs : List ByteRange) → ((q : ℕ) → meeting.IsInOne rs q → meeting.IsValid m q) → All (AreBytes m) rs
covered m [] h = All-nil (AreBytes m)
covered m (r ∷ rs) h =
    All-cons (AreBytes m) r rs (λ i lt. h (r.from + i) (0, r, omega arith, refl, (omega arith, omega (arith, lt))))
    (covered m rs (λ q a. h q (suc a.0, a.1, omega (arith, a.2), a.3, a.4)))

module _ (f : Fun) (g : Given) (kinds : Kinds) (in_frame : Key → Bool) (words : List ℕ) (values : List Value) (memory : Memory)
    (made : IsGivenOf f g) (apart : DifferByName f.params) (outside : AreOutside in_frame f.params)
    (meets : MeetsPreconditions f words memory) (are : AreWords f.params words values) (kept : IsOfKinds kinds (entry_state f values memory)) where
  abbrev pres : List Pre
  pres = preconditions_of f

  abbrev store : Store
  store = with_arguments f.params values empty_store

  abbrev names : List (List ℕ)
  names = map text_of_param f.params

  abbrev entry : Key → ℕ
  entry = entry_of store

  fit : AllFit store names words f.params
  fit = all_fit f.params words values empty_store apart are

  starts_are : map start_of g.params ≡ map start_of (map (giving.param_of pres) f.params)
  starts_are = ap (map start_of) made.params

  regions_are : map region_of g.regions ≡ map region_of (flat_map (giving.region_of (giving.variables f.params)) pres)
  regions_are = ap (map region_of) made.regions

  there : All (IsThere memory) (regions_for f words)
  there = all_there memory (regions_for f words) meets.below_end (covered memory (regions_for f words) (λ q i. (meets.covered q).1 i))

  stands : Stands (given_of g) kinds in_frame entry (at_entry (given_of g)) (entry_state f values memory)
  stands = record {
    says = λ h e. all_say g.constants pres names words store meets.met f.params fit h (subst (λ (ss : List Start). of_parameters g.constants ss h ≡ true) starts_are e);
    apart = λ h e. all_apart g.constants pres names words store meets.met in_frame f.params fit outside h (subst (λ (ss : List Start). of_parameters g.constants ss h ≡ true) starts_are e);
    kept = kept;
    ranges = subst (InRanges entry) (sym starts_are) (all_ranged g.constants pres names words store meets.met kinds kept.variables f.params fit);
    least = λ y. subst (λ (ss : List Start). least_of ss y ≤ entry y) (sym starts_are) (all_least g.constants pres names words store meets.met f.params fit y);
    regions = subst (AreValid entry memory) (sym regions_are) (all_valid f.params words store memory fit pres there);
  }

pub inputs_stand : InputsStand
inputs_stand f g kinds in_frame words values memory made apart outside meets are kept = stands f g kinds in_frame words values memory made apart outside meets are kept
