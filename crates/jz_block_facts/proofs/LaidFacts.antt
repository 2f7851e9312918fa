-- What tables that lie over a set say of its facts.
use Rattle.std.proofs.Common.{BuildHasherDefault, FoldHasher, ◌≡◌, ℕ, ◌≤◌, List, [], ◌∷◌, ◌++◌, Option, Some, None, Bool, true, false, refl, sym, ap, ◌∙◌, subst, arith}
use Rattle.std.specs.Prelude.{◌&&◌}
use Rattle.std.proofs.Math.Path.{fun_ext}
use Rattle.indexmap.specs.IndexMap.{IndexMap}
use Rattle.jz_flow.specs.Sets.{Below, common}
use Rattle.jz_layers.specs.declared.named.Named.{Named}
use Rattle.jz_layers.specs.declared.layers.Layers.{Layers}
use Rattle.jz_layers.specs.Spots.{Spot, entry_in, or_below, over}
use Rattle.jz_layers.specs.Layered.{seen}
use Rattle.jz_facts.specs.Facts.{Fact, Facts}
use Rattle.jz_fact_sets.specs.declared.given.Given as code
use Rattle.jz_fact_sets.specs.declared.knowledge.Knowledge.{Knowledge}
use Rattle.jz_fact_sets.specs.Kept.{AreDifferent, says, spot, known_at, known_or, facts_by, facts_of}
use Rattle.jz_fact_sets.specs.Meeting.{or_known, over_known, IsMet, narrowed, amount, Falls}
use Rattle.jz_fact_sets.proofs.FactLemmas.{common_facts, met_everywhere, narrowed_everywhere}
use Rattle.jz_fact_writes.proofs.Layering.{back, over_is}
use Rattle.jz_block_facts.specs.Heads.{said_or, laid}

module _ {S : Type 0} where
  known_over : (m : IndexMap Named Knowledge S) (f : Spot → Option Knowledge) → (λ (k : Spot). known_or (over m f k)) ≡ over_known m (λ k. known_or (f k))
  known_over m f = fun_ext (λ k. by k (entry_in m k))
    where
      by : (k : Spot) (o : Option Knowledge) → known_or (or_below o (f k)) ≡ or_known (known_or (f k)) o
      by k None = refl
      by k (Some x) = refl

  module _ (g : code.Given) where
    pub laid_is : (m : IndexMap Named Knowledge S) (know : Spot → Knowledge) → laid g m (facts_by g know) ≡ facts_by g (over_known m know)
    laid_is m know = fun_ext (λ f. by f (entry_in m (spot f)))
      where
        by : (f : Fact) (o : Option Knowledge) → said_or g o f (facts_by g know f) ≡ says g.constants g.params (or_known (know (spot f)) o) f
        by f None = refl
        by f (Some x) = refl

    -- a table that is poured over
    pub poured : (m : IndexMap Named Knowledge S) (old new : Layers Knowledge) → seen new ≡ over m (seen old) → facts_of g new ≡ laid g m (facts_of g old)
    poured m old new e = ap (λ f. facts_by g (λ k. known_or (f k))) e ∙ ap (facts_by g) (known_over m (seen old)) ∙ sym (laid_is m (known_at old))

    -- of more facts below there are more, and what a table says is the same
    pub warmed : (m : IndexMap Named Knowledge S) (s x : Facts) → Below s x → common s (laid g m s) ≡ common s (laid g m x)
    warmed m s x l = fun_ext (λ f. by f (entry_in m (spot f)))
      where
        both : (a b : Bool) → (a ≡ true → b ≡ true) → (a && a) ≡ (a && b)
        both true b h = sym (h refl)
        both false b h = refl

        by : (f : Fact) (o : Option Knowledge) → (s f && said_or g o f (s f)) ≡ (s f && said_or g o f (x f))
        by f None = both (s f) (x f) (l f)
        by f (Some k) = refl

    -- where both are known
    pub both_met : (a b : IndexMap Named Knowledge S) (know new : Spot → Knowledge) → AreDifferent g.params → IsMet a b know new → facts_by g new ≡ common (laid g a (facts_by g know)) (laid g b (facts_by g know))
    both_met a b know new d h =
        common_facts g d (over_known a know) (over_known b know) new (met_everywhere a b know new h)
        ∙ ap (λ x. common x (facts_by g (over_known b know))) (sym (laid_is a know))
        ∙ ap (λ x. common (laid g a (facts_by g know)) x) (sym (laid_is b know))

    -- what is narrowed by a table
    pub narrower : (m : IndexMap Named Knowledge S) (know new : Spot → Knowledge) → AreDifferent g.params → new ≡ narrowed m know → facts_by g new ≡ common (facts_by g know) (laid g m (facts_by g know))
    narrower m know new d e =
        common_facts g d know (over_known m know) new (λ k. ap (λ f. f k) e ∙ narrowed_everywhere m know k)
        ∙ ap (λ x. common (facts_by g know) x) (sym (laid_is m know))

-- the uppermost table of a set over what stands below it
pub over_facts : (g : code.Given) (with without : Layers Knowledge) (table : IndexMap Named Knowledge (BuildHasherDefault FoldHasher)) → table ≡ with.top → with.below.items ≡ without.below.items ++ without.top ∷ []
    → facts_of g with ≡ laid g table (facts_of g without)
over_facts g with without table t e = sym (laid_is g table (known_at without) ∙ ap (facts_by g) (over_is with without table t e))

-- nothing more is known, whether something fell or not
pub none_more : (fell : Bool) (old new : Spot → Knowledge) → (fell ≡ false → new ≡ old) → (fell ≡ true → Falls old new) → (k : Spot) → amount (new k) ≤ amount (old k)
none_more true old new s f k = (f refl).nowhere_more k
none_more false old new s f k = let e = ap (λ h. amount (h k)) (s refl) in omega (arith, e)

-- a set from which a table was taken away again
pub returned : (zero three : Layers Knowledge) (ms : List (IndexMap Named Knowledge (BuildHasherDefault FoldHasher))) → ms ≡ zero.below.items ++ zero.top ∷ [] → ms ≡ three.below.items ++ three.top ∷ []
    → (three.below.items ≡ zero.below.items) × (seen three ≡ seen zero) × (known_at three ≡ known_at zero)
returned zero three ms e h =
    let b = back zero three ms e h in
    let f : known_at three ≡ known_at zero = ap {B = Spot → Knowledge} (λ s k. known_or (s k)) b.1 in
    (b.0, b.1, f)

pub facts_as : (g : code.Given) (old new : Spot → Knowledge) → new ≡ old → facts_by g new ≡ facts_by g old
facts_as g old new e = ap (facts_by g) e

pub facts_seen : (g : code.Given) (old new : Layers Knowledge) → seen new ≡ seen old → facts_of g new ≡ facts_of g old
facts_seen g old new e = ap (λ s. facts_by g (λ k. known_or (s k))) e
