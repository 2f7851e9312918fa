-- What is forgotten, cell by cell.
use Rattle.std.proofs.Common.{◌≡◌, ℕ, zero, suc, ◌+◌, ◌<◌, ◌≤◌, List, [], ◌∷◌, arith, length, Option, Some, None, Bool, true, false, true≢false, refl, ap, sym, ◌∙◌, subst}
use Rattle.std.specs.Prelude.{if◌then◌else◌, not, ◌&&◌, ◌||◌, ◌==◌, is_some, is_none, slice_get}
use Rattle.std.specs.Str.{bytes_eq}
use Rattle.std.proofs.Math.Path.{fun_ext}
use Rattle.std.specs.Option.{option_map}
use Rattle.indexmap.specs.IndexMap.{IndexMap}
use Rattle.jz_meaning.specs.States.{Key, same_cell}
use Rattle.jz_layers.specs.declared.named.Named.{Named}
use Rattle.jz_layers.specs.Spots.{Spot, same_spot, spot_of, entry_in, put_in, is_plain, IsListed}
use Rattle.jz_layers.proofs.SpotLemmas.{same_spot-true, same_spot-back}
use Rattle.jz_layers.proofs.Covering.{covers, cover_none, cover_next, covers_all}
use Rattle.jz_fact_sets.specs.declared.knowledge.Knowledge.{Knowledge}
use Rattle.jz_fact_sets.specs.Knowing.{nothing}
use Rattle.jz_fact_sets.specs.Kept.{known_or}
use Rattle.jz_fact_sets.specs.Renewing.{known_if, is_meant, is_meant_cell, forgotten_if, without_cells, renewed_at, whole_spot, forgotten_at}

pub or_right : (a b : Bool) → b ≡ true → (a || b) ≡ true
or_right true b e = refl
or_right false b e = e

pub known_put : (f : Spot → Option Knowledge) (n : Spot) (x : Knowledge) (k : Spot) → known_or (put_in f n x k) ≡ known_if (same_spot n k) x (known_or (f k))
known_put f n x k = by (same_spot n k)
  where
    by : (b : Bool) → known_or (if b then Some x else f k) ≡ known_if b x (known_or (f k))
    by true = refl
    by false = refl

-- an index below the length has an entry
pub some_there : {U : Type 0} (es : List (Named × U)) (i : ℕ) → i < length es → None ≡ option_map (λ e. e.0) (slice_get es i) → ⊥
some_there [] i l e = absurd (omega (arith, l))
some_there (x ∷ es) zero l e = absurd (cc e)
some_there (x ∷ es) (suc i) l e = let m : i < length es = omega (arith, l) in some_there es i m e

module _ {U S : Type 0} (r : IndexMap Named U S) (n : Spot) (all : Bool) (old : Spot → Knowledge) where
  -- as far as the first i of what is noted
  abbrev pub ForgotTo : ℕ → (Spot → Knowledge) → Type 0
  ForgotTo i now = (k : Spot) → now k ≡ known_if (covers r.entries i k && is_meant_cell n all k) nothing (old k)

  pub forgot_none : ForgotTo 0 old
  forgot_none k = sym (ap (λ c. known_if (c && is_meant_cell n all k) nothing (old k)) (cover_none r.entries k))

  pub forgot_more : (i : ℕ) (now new : Spot → Knowledge) (o : Named) (u : U) → slice_get r.entries i ≡ Some (o, u) → new ≡ forgotten_if (is_meant_cell n all (spot_of o)) (spot_of o) now
      → ForgotTo i now → ForgotTo (i + 1) new
  forgot_more i now new o u at e h k =
      ap (λ f. f k) e
      ∙ ap (λ x. known_if (is_meant_cell n all (spot_of o) && same_spot (spot_of o) k) nothing x) (h k)
      ∙ by (same_spot (spot_of o) k) refl (covers r.entries i k) (is_meant_cell n all k)
      ∙ sym (ap (λ c. known_if (c && is_meant_cell n all k) nothing (old k)) (cover_next r.entries i o u k at ∙ ap (λ c. covers r.entries i k || c) (same_spot-back (spot_of o) k (same_spot (spot_of o) k) refl)))
    where
      here : (s : Bool) → same_spot (spot_of o) k ≡ s → (c m : Bool) → is_meant_cell n all k ≡ m
          → known_if (is_meant_cell n all (spot_of o) && s) nothing (known_if (c && m) nothing (old k)) ≡ known_if ((c || s) && m) nothing (old k)
      here true p c m q = ap (λ y. known_if (y && true) nothing (known_if (c && m) nothing (old k))) (ap (is_meant_cell n all) (same_spot-true (spot_of o) k p) ∙ q) ∙ at_one c m
        where
          at_one : (c m : Bool) → known_if (m && true) nothing (known_if (c && m) nothing (old k)) ≡ known_if ((c || true) && m) nothing (old k)
          at_one true true = refl
          at_one true false = refl
          at_one false true = refl
          at_one false false = refl
      here false p c m q = elsewhere (is_meant_cell n all (spot_of o)) c m
        where
          elsewhere : (y c m : Bool) → known_if (y && false) nothing (known_if (c && m) nothing (old k)) ≡ known_if ((c || false) && m) nothing (old k)
          elsewhere true true m = refl
          elsewhere true false m = refl
          elsewhere false true m = refl
          elsewhere false false m = refl

      by : (s : Bool) → same_spot (spot_of o) k ≡ s → (c m : Bool)
          → known_if (is_meant_cell n all (spot_of o) && s) nothing (known_if (c && is_meant_cell n all k) nothing (old k)) ≡ known_if ((c || s) && is_meant_cell n all k) nothing (old k)
      by s p c m = here s p c (is_meant_cell n all k) refl

  pub forgot_all : (f : Spot → Option Knowledge) → IsListed r f → ((k : Spot) → old k ≡ known_or (f k)) → (i : ℕ) (now : Spot → Knowledge) → length r.entries ≤ i → ForgotTo i now → now ≡ without_cells n all old
  forgot_all f listed is i now l h = fun_ext (λ k. h k ∙ ap (λ c. known_if (c && is_meant_cell n all k) nothing (old k)) (covers_all r.entries i k l) ∙ by k (is_plain k) refl (is_some (entry_in r k)) refl (is_meant n all k))
    where
      unknown : (k : Spot) → (o : Option Knowledge) → f k ≡ o → is_plain k ≡ false → is_some (entry_in r k) ≡ false → known_or o ≡ nothing
      unknown k None p q e = refl
      unknown k (Some v) p q e = absurd (true≢false (sym (listed k v p) ∙ ap (λ b. b || is_some (entry_in r k)) q ∙ e))

      by : (k : Spot) → (p : Bool) → is_plain k ≡ p → (e : Bool) → is_some (entry_in r k) ≡ e → (m : Bool) → known_if (e && (m && not p)) nothing (old k) ≡ known_if (m && not p) nothing (old k)
      by k true p true q true = refl
      by k true p false q true = refl
      by k true p true q false = refl
      by k true p false q false = refl
      by k false p true q m = refl
      by k false p false q false = refl
      by k false p false q true = is k ∙ unknown k (f k) refl p q

no_index : (a b c : Bool) → (a && (b && (c && false))) ≡ false
no_index true true true = refl
no_index true true false = refl
no_index true false c = refl
no_index false b c = refl

module _ (v : Key) (x : Knowledge) (know : Spot → Knowledge) where
  abbrev here : Spot
  here = record { of = v; index = None }

  -- a variable is put where its cells were forgotten
  pub renewed_is : (k : Spot) → known_if (same_spot here k) x (without_cells here false know k) ≡ renewed_at v x know k
  renewed_is k = by k.index refl (bytes_eq v.name k.of.name) (v.copy == k.of.copy) (same_cell v.cell k.of.cell)
    where
      plain : (b c l p : Bool) → known_if (b && (c && (l && true))) x (known_if ((b && (c && l)) && not (p && true)) nothing (know k)) ≡ known_if (b && (c && l)) x (know k)
      plain true true true p = refl
      plain true true false p = refl
      plain true false l p = refl
      plain false c l p = refl

      cell : (b c l p : Bool) → known_if (b && (c && (l && false))) x (known_if ((b && (c && l)) && not (p && false)) nothing (know k)) ≡ known_if (b && (c && l)) nothing (know k)
      cell true true true true = refl
      cell true true true false = refl
      cell true true false p = refl
      cell true false l p = refl
      cell false c l p = refl

      by : (i : Option ℕ) → k.index ≡ i → (b c l : Bool)
          → known_if (b && (c && (l && same_cell None i))) x (known_if ((b && (c && l)) && not (is_none k.of.cell && is_none i)) nothing (know k)) ≡ known_if (b && (c && l)) (known_if (is_none i) x nothing) (know k)
      by None e b c l = plain b c l (is_none k.of.cell)
      by (Some j) e b c l = cell b c l (is_none k.of.cell)

-- a value behind a test is asked for where the test is false alone
pub known_else : (b : Bool) (x y z : Knowledge) → (b ≡ false → y ≡ z) → known_if b x y ≡ known_if b x z
known_else true x y z h = refl
known_else false x y z h = h refl

module _ (v : Key) (know : Spot → Knowledge) (no : (i : ℕ) → know (record { of = v; index = Some i }) ≡ nothing) where
  -- of what has no cell none is to be forgotten
  pub none_forgotten : (k : Spot) → same_spot (record { of = v; index = None }) k ≡ false → know k ≡ without_cells (record { of = v; index = None }) false know k
  none_forgotten k e = by k.index refl (bytes_eq v.name k.of.name) refl (v.copy == k.of.copy) refl (same_cell v.cell k.of.cell) refl (is_none k.of.cell) e
    where
      key : bytes_eq v.name k.of.name ≡ true → (v.copy == k.of.copy) ≡ true → same_cell v.cell k.of.cell ≡ true → v ≡ k.of
      key b c l =
          let t : same_spot (record { of = v; index = None }) (record { of = k.of; index = None }) ≡ true = rw (b, c, l) in
          ap (λ s. s.of) (same_spot-true (record { of = v; index = None }) (record { of = k.of; index = None }) t)

      here : v ≡ k.of → (i : ℕ) → k.index ≡ Some i → know k ≡ nothing
      here p i q =
          let w : know (record { of = k.of; index = Some i }) ≡ nothing = subst (λ w. know (record { of = w; index = Some i }) ≡ nothing) p (no i) in
          subst (λ j. know (record { of = k.of; index = j }) ≡ nothing) (sym q) w

      by : (j : Option ℕ) → k.index ≡ j → (b : Bool) → bytes_eq v.name k.of.name ≡ b → (c : Bool) → (v.copy == k.of.copy) ≡ c → (l : Bool) → same_cell v.cell k.of.cell ≡ l → (p : Bool)
          → (b && (c && (l && same_cell None j))) ≡ false → know k ≡ known_if ((b && (c && l)) && not (p && is_none j)) nothing (know k)
      by None q true x true y true z p e = absurd (true≢false e)
      by None q true x true y false z p e = refl
      by None q true x false y l z p e = refl
      by None q false x c y l z p e = refl
      by (Some i) q true x true y true z true e = here (key x y z) i q
      by (Some i) q true x true y true z false e = here (key x y z) i q
      by (Some i) q true x true y false z p e = refl
      by (Some i) q true x false y l z p e = refl
      by (Some i) q false x c y l z p e = refl

module _ (v : Key) (know : Spot → Knowledge) where
  pub forgotten_is : (k : Spot) → known_if (same_spot (whole_spot v) k) nothing (without_cells (whole_spot v) true know k) ≡ forgotten_at v know k
  forgotten_is k = by (bytes_eq v.name k.of.name) (v.copy == k.of.copy) k.of.cell k.index
    where
      by : (b c : Bool) (l i : Option ℕ)
          → known_if (b && (c && (same_cell None l && same_cell None i))) nothing (known_if ((b && (c && true)) && not (is_none l && is_none i)) nothing (know k)) ≡ known_if (b && c) nothing (know k)
      by true true None None = refl
      by true true None (Some i) = refl
      by true true (Some l) i = refl
      by true false l i = refl
      by false c l i = refl
