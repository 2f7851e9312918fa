-- The export function of a name, as far as a loop has come.
use Rattle.std.proofs.Common.{◌≡◌, ℕ, ◌+◌, ◌<◌, ◌≤◌, Bool, true, false, List, [], ◌∷◌, length, drop, get_or, Some, None, if◌then◌else◌, refl, ap, subst, ◌∙◌}
use Rattle.std.proofs.lemmas.List.{drop_all}
use Rattle.std.proofs.lemmas.Option.{slice_get_read}
use Rattle.jz_tree.specs.declared.program.Fun.{Fun}
use Rattle.jz_run_assign.proofs.RestLemmas.{rest_at}
use Rattle.jasminc_source.specs.Exports.{has_name, export_named, IsFoundAt}

module _ (name : List ℕ) (funs : List Fun) (i : ℕ) (so : export_named name funs ≡ export_named name (drop i funs)) where
  module _ (f : Fun) (lt : i < length funs) (ix : f ≡ get_or funs i f) where
    rest : export_named name (drop i funs) ≡ (if has_name name f then Some f else export_named name (drop (i + 1) funs))
    rest = ap (export_named name) (rest_at funs i f lt ix)

    pub found_here : has_name name f ≡ true → IsFoundAt name funs i
    found_here e = record {
      function = f;
      there = slice_get_read funs (length funs) i f refl lt ix;
      named = so ∙ rest ∙ ap (λ (b : Bool). if b then Some f else export_named name (drop (i + 1) funs)) e;
    }

    pub not_here : has_name name f ≡ false → export_named name funs ≡ export_named name (drop (i + 1) funs)
    not_here e = so ∙ rest ∙ ap (λ (b : Bool). if b then Some f else export_named name (drop (i + 1) funs)) e

  pub none_left : length funs ≤ i → export_named name funs ≡ None
  none_left le = so ∙ ap (export_named name) (drop_all i funs le)

-- what is found has the name
pub named_has : (name : List ℕ) (funs : List Fun) (f : Fun) → export_named name funs ≡ Some f → has_name name f ≡ true
named_has name [] f e = cc
named_has name (g ∷ gs) f e = by_test (has_name name g) refl e (named_has name gs f)
  where
    by_test : (b : Bool) → has_name name g ≡ b → (if b then Some g else export_named name gs) ≡ Some f → (export_named name gs ≡ Some f → has_name name f ≡ true) → has_name name f ≡ true
    by_test true q k later = let same : g ≡ f = cc in subst (λ (h : Fun). has_name name h ≡ true) same q
    by_test false q k later = later k
