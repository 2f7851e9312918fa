-- One entry of a table is written.
use Rattle.std.proofs.Common.{◌≡◌, ℕ, List, Bool, true, false, Option, Some, refl, ap, sym, ◌∙◌}
use Rattle.std.specs.Prelude.{if◌then◌else◌, ◌&&◌}
use Rattle.std.specs.Str.{bytes_eq}
use Rattle.indexmap.specs.IndexMap.{IndexMap, get}
use Rattle.jz_tree.proofs.Texts.{bytes_eq-true}
use Rattle.jz_meaning.specs.States.{Key}
use Rattle.jz_operands.specs.declared.homes.Place.{Place}
use Rattle.jz_operands.specs.declared.homes.Home.{Home}
use Rattle.jz_operands.specs.TableHomes.{same_place, entry_in, with_entry, key_at}

abbrev pub Table : Type 0 → Type 0
Table S = IndexMap Place Home S

abbrev pub place_of : Key → Place
place_of k = record { copy = k.copy; cell = k.cell }

-- what the tables of all names have at a key
abbrev pub look : {S : Type 0} → (List ℕ → Option (Table S)) → Key → Option Home
look f k = entry_in (place_of k) (f k.name)

at_key : {S : Type 0} (f g : List ℕ → Option (Table S)) (m t : Table S) (n : List ℕ) (p : Place) (u : Option Home) (k : Key) (b c : Bool)
    → bytes_eq n k.name ≡ b → same_place p (place_of k) ≡ c
    → g k.name ≡ (if b then Some t else f k.name)
    → get same_place t (place_of k) ≡ (if c then u else get same_place m (place_of k))
    → entry_in (place_of k) (f n) ≡ get same_place m (place_of k)
    → look g k ≡ (if b && c then u else look f k)
at_key f g m t n p u k true true e h named placed before = ap (entry_in (place_of k)) named ∙ placed
at_key f g m t n p u k true false e h named placed before =
    ap (entry_in (place_of k)) named ∙ placed ∙ sym before ∙ ap (λ x. entry_in (place_of k) (f x)) (bytes_eq-true n k.name e)
at_key f g m t n p u k false c e h named placed before = ap (entry_in (place_of k)) named

-- u is written at one place of the table of a name
pub written : {S : Type 0} (f g : List ℕ → Option (Table S)) (m t : Table S) (n : List ℕ) (p : Place) (u : Option Home)
    → ((q : List ℕ) → g q ≡ (if bytes_eq n q then Some t else f q))
    → ((q : Place) → get same_place t q ≡ (if same_place p q then u else get same_place m q))
    → ((q : Place) → entry_in q (f n) ≡ get same_place m q)
    → look g ≡ with_entry (look f) (key_at n p) u
written f g m t n p u named placed before =
    λ i k. at_key f g m t n p u k (bytes_eq n k.name) (same_place p (place_of k)) refl refl (named k.name) (placed (place_of k)) (before (place_of k)) i
