-- Where labels stand, and which come of which.
use Rattle.std.specs.Prelude.{◌≡◌, ◌<◌, ℕ, Bool, true, false, List, [], ◌∷◌, map}
use Rattle.jz_meaning.specs.States.{Key}
use Rattle.jz_layers.specs.Spots.{variable_key}
use Rattle.jz_labels.specs.Labels.{Publics}
use Rattle.jz_secrets.specs.declared.edge.Node.{Node}
use Rattle.jz_secrets.specs.declared.edge.Node.TheVariants as node
use Rattle.jz_secrets.specs.declared.edge.Edge.{Edge}

-- what is secret; a label that some statement draws; that of an array
pub data Vertex : Type 0 where
  hidden : Vertex
  drawn : ℕ → Vertex
  array : Key → Vertex

-- what is public at its end is so where it begins
pub record Arrow : Type 0 where
  pub from : Vertex
  pub to : Vertex

abbrev pub vertex_of : Node → Vertex
vertex_of node.Secret = hidden
vertex_of (node.Drawn n) = drawn n
vertex_of (node.Array x) = array (variable_key x.now)

abbrev pub arrow_of : Edge → Arrow
arrow_of x = record { from = vertex_of x.from; to = vertex_of x.to }

abbrev pub arrows_of : List Edge → List Arrow
arrows_of xs = map arrow_of xs

-- ---- labels

abbrev pub label : Publics → (ℕ → Bool) → Vertex → Bool
label a t hidden = false
label a t (drawn n) = t n
label a t (array k) = a k

abbrev pub Keeps : Publics → (ℕ → Bool) → List Arrow → Type 0
Keeps a t [] = Unit {0}
Keeps a t (x ∷ xs) = (label a t x.to ≡ true → label a t x.from ≡ true) × Keeps a t xs

-- the first drawn label is public, whatever comes of it
pub record IsLabelling (a : Publics) (t : ℕ → Bool) (xs : List Arrow) : Type 0 where
  pub first : t 0 ≡ true
  pub keeps : Keeps a t xs

-- a drawn label is one of the first n; what comes of others is not the first
abbrev pub IsBelow : ℕ → Vertex → Type 0
IsBelow n hidden = Unit {0}
IsBelow n (drawn i) = i < n
IsBelow n (array k) = Unit {0}

abbrev pub IsEnd : ℕ → Vertex → Type 0
IsEnd n hidden = ⊥
IsEnd n (drawn i) = (0 < i) × (i < n)
IsEnd n (array k) = Unit {0}

abbrev pub AreBelow : ℕ → List Arrow → Type 0
AreBelow n [] = Unit {0}
AreBelow n (x ∷ xs) = (IsBelow n x.from × IsEnd n x.to) × AreBelow n xs

-- ---- the labels with the fewest secrets

-- of the first n drawn labels
pub record AreFewest (n : ℕ) (xs : List Arrow) (public : Vertex → Bool) : Type 0 where
  pub secret : public hidden ≡ false
  pub labelling : IsLabelling (λ k. public (array k)) (λ i. public (drawn i)) xs
  pub most :
      (a : Publics) (t : ℕ → Bool) (v : Vertex)
      → IsLabelling a t xs → IsBelow n v → label a t v ≡ true → public v ≡ true
