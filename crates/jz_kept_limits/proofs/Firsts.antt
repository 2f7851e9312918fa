-- Parts of statements of which nothing passes a limit.
use Rattle.std.proofs.Common.{◌≡◌, List, [], ◌∷◌, None, refl, sym, ap, ◌∙◌, subst}
use Rattle.jz_limits.specs.declared.limit.Limit.{Limit}
use Rattle.jz_limits.specs.declared.operands.Firsts.{Firsts}
use Rattle.jz_limits.specs.Asked.{Parts, no_parts, beside, without_fields, in_kinds}
use Rattle.jz_limits.specs.InnerLooked.{first, sooner, firsts_of, firsts_beside, first_in_kinds}
use Rattle.jz_limits.proofs.PartLemmas.{beside_firsts, first_kinds}
use Rattle.jz_kept_limits.proofs.Passed.{neither, both}

pub none_first : (ls : List Limit) → first ls ≡ None → ls ≡ []
none_first [] h = refl
none_first (l ∷ ls) h = absurd cc

-- of each kind there is no first limit
pub record IsClean (f : Firsts) : Type 0 where
  pub width : f.width ≡ None
  pub range : f.range ≡ None
  pub field : f.field ≡ None

abbrev pub AreClean : Parts → Type 0
AreClean p = IsClean (firsts_of p)

pub clean_none : AreClean no_parts
clean_none = record { width = refl; range = refl; field = refl }

kinds_of : (f : Firsts) → first_in_kinds f ≡ None → IsClean f
kinds_of f h =
    let a = neither f.width (sooner f.range f.field) h in
    let b = neither f.range f.field a.1 in
    record { width = a.0; range = b.0; field = b.1 }

kinds_to : (f : Firsts) → IsClean f → first_in_kinds f ≡ None
kinds_to f c = both f.width (sooner f.range f.field) c.width (both f.range f.field c.range c.field)

pub clean_from : (p : Parts) → in_kinds p ≡ [] → AreClean p
clean_from p h = kinds_of (firsts_of p) (first_kinds p ∙ ap first h)

pub clean_to : (p : Parts) → AreClean p → in_kinds p ≡ []
clean_to p c = none_first (in_kinds p) (sym (first_kinds p) ∙ kinds_to (firsts_of p) c)

-- ---- one part beside another
beside_parts : (f g : Firsts) → IsClean (firsts_beside f g) → IsClean f × IsClean g
beside_parts f g c =
    let a = neither f.width g.width c.width in
    let b = neither f.range g.range c.range in
    let d = neither f.field g.field c.field in
    (record { width = a.0; range = b.0; field = d.0 }, record { width = a.1; range = b.1; field = d.1 })

beside_both : (f g : Firsts) → IsClean f → IsClean g → IsClean (firsts_beside f g)
beside_both f g a b = record { width = both f.width g.width a.width b.width; range = both f.range g.range a.range b.range; field = both f.field g.field a.field b.field }

pub clean_parts : (p q : Parts) → AreClean (beside p q) → AreClean p × AreClean q
clean_parts p q c = beside_parts (firsts_of p) (firsts_of q) (subst IsClean (beside_firsts p q) c)

pub clean_both : (p q : Parts) → AreClean p → AreClean q → AreClean (beside p q)
clean_both p q a b = subst IsClean (sym (beside_firsts p q)) (beside_both (firsts_of p) (firsts_of q) a b)

-- ---- where fields are not asked
pub clean_without : (p : Parts) → AreClean p → AreClean (without_fields p)
clean_without p c = record { width = c.width; range = c.range; field = refl }
