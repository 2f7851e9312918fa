-- Parameters and results.
use Rattle.std.proofs.Common.{◌≡◌, ℕ, ◌<◌, List, [], ◌∷◌, Option, Some, None, refl, sym, ap, ◌∙◌, subst}
use Rattle.std.specs.List.{AllZip}
use Rattle.std.specs.FinMap.{get}
use Rattle.jz_words.specs.declared.size.Size.{Size}
use Rattle.jz_words.specs.Sizes.{modulus}
use Rattle.jz_words.specs.Memory.{Memory}
use Rattle.jz_tree.specs.declared.expr.Var.{Var}
use Rattle.jz_tree.specs.declared.program.Param.{Param}
use Rattle.jz_runs.specs.Rules.{went}
use Rattle.jz_meaning.specs.States as source
use Rattle.jz_meaning.specs.States.{Store, empty_store}
use Rattle.jz_meaning.specs.Values.{key_of, ref_of, variable_value}
use Rattle.jz_meaning.specs.Runs.{with_arguments, only_word, result_word}
use Rattle.jz_operations.specs.Values.{Value, State, word}
use Rattle.jz_operations.specs.Rows.{Frame}
use Rattle.jz_homes.specs.Homes.{Home, Homes, IsHoming, IsRelated, in_register}
use Rattle.jz_homes.proofs.Parts.{both_went, went_same, defined_went}
use Rattle.jz_homes.proofs.Writing.{related_word, set_same, set_other}
use Rattle.jz_lowered.specs.Functions.{with_parameter, with_parameters, no_flags, entry_of}
use Rattle.jz_lowered.specs.Laws.{IsWordFor}

abbrev state_with : (ℕ → Option Value) → Memory → State
state_with vars memory = record { vars = vars; left = λ r. None; flags = no_flags; cells = λ v i. None; memory = memory }

abbrev source_with : Store → Memory → source.State
source_with store memory = record { store = store; memory = memory }

none_related : (home : Homes) (memory : Memory) → ((a b : ℕ) → get memory a ≡ Some b → b < 256) → IsRelated home (source_with empty_store memory) (state_with (λ v. None) memory)
none_related home memory bytes = record { holds = λ k x v h e. absurd (let f : ◌≡◌ {A = Option source.Value} None (Some v) = e in cc); memory = refl; bytes = bytes }

with_is : (h : Option Home) (n : ℕ) (z : Size) (a : ℕ) (v : source.Value) (vars : ℕ → Option Value) → h ≡ Some (in_register n z) → v ≡ source.word z a → with_parameter h v vars ≡ with_parameter (Some (in_register n z)) (source.word z a) vars
with_is h n z a v vars e f = ap (λ x. with_parameter x v vars) e ∙ ap (λ x. with_parameter (Some (in_register n z)) x vars) f

module _ (frame : Frame) (home : Homes) (homing : IsHoming frame home) (memory : Memory) where
  one_related : (p : Param) (v : source.Value) (store : Store) (vars : ℕ → Option Value) → IsWordFor home p v → IsRelated home (source_with store memory) (state_with vars memory)
      → IsRelated home (source_with (source.put store (key_of (ref_of p.var)) (Some v)) memory) (state_with (with_parameter (home (key_of (ref_of p.var))) v vars) memory)
  one_related p v store vars h related =
      let n = h.0 in let z = h.1 in let a = h.2 in
      let next = with_parameter (Some (in_register h.0 h.1)) (source.word h.1 h.2) vars in
      let r = related_word frame home homing (key_of (ref_of p.var)) h.0 h.1 h.2 (source_with store memory) (state_with vars memory) (state_with next memory) related h.3 h.5 (set_same h.0 (Some (word h.1 h.2)) vars) (λ m ne. set_other h.0 m (Some (word h.1 h.2)) vars ne) refl refl in
      subst (λ f. IsRelated home (source_with (source.put store (key_of (ref_of p.var)) (Some v)) memory) (state_with f memory)) (sym (with_is (home (key_of (ref_of p.var))) h.0 h.1 h.2 v vars h.3 h.4))
      (subst (λ u. IsRelated home (source_with (source.put store (key_of (ref_of p.var)) (Some u)) memory) (state_with next memory)) (sym h.4) r)

  all_related : (ps : List Param) (vs : List source.Value) (store : Store) (vars : ℕ → Option Value) → AllZip (IsWordFor home) ps vs → IsRelated home (source_with store memory) (state_with vars memory)
      → IsRelated home (source_with (with_arguments ps vs store) memory) (state_with (with_parameters home ps vs vars) memory)
  all_related [] [] store vars h related = related
  all_related (p ∷ ps) (v ∷ vs) store vars h related = all_related ps vs _ _ h.1 (one_related p v store vars h.0 related)
  all_related [] (v ∷ vs) store vars h related = related
  all_related (p ∷ ps) [] store vars h related = related

  pub entered : (ps : List Param) (vs : List source.Value) → AllZip (IsWordFor home) ps vs → ((a b : ℕ) → get memory a ≡ Some b → b < 256) → IsRelated home (source_with (with_arguments ps vs empty_store) memory) (entry_of home ps vs memory)
  entered ps vs h bytes = all_related ps vs empty_store (λ v. None) h (none_related home memory bytes)

word_only : (x : Var) (z : Size) (a : ℕ) (u v : source.Value) (ns : List ℕ) → u ≡ source.word z a → only_word (ref_of x).span u ≡ went ns v → v ≡ source.word z a
word_only x z a u v ns e run = sym (went_same [] ns (source.word z a) v (ap (only_word (ref_of x).span) (sym e) ∙ run)).1

pub returned : (home : Homes) (s : source.State) (σ : State) (x : Var) (n : ℕ) (z : Size) (ns : List ℕ) (v : source.Value) → IsRelated home s σ → home (key_of (ref_of x)) ≡ Some (in_register n z) → result_word x s.store ≡ went ns v
    → (a : ℕ) × (v ≡ source.word z a) × (a < modulus z) × (σ.vars n ≡ Some (word z a))
returned home s σ x n z ns v related h run =
    let g = both_went (variable_value (ref_of x) s.store) (only_word (ref_of x).span) ns v run in
    let d = defined_went (ref_of x).span (s.store (key_of (ref_of x))) g.first g.value g.came in
    let k = related.holds (key_of (ref_of x)) (in_register n z) g.value h d.0 in
    (k.0, word_only x z k.0 g.value v g.second k.1 g.went_on, k.2, k.3)
