-- The law of labels that are drawn anew.
use Rattle.std.specs.Prelude.{◌≡◌, ℕ, Bool, false, ◌||◌, List, ◌∷◌, ◌++◌, map}
use Rattle.jz_meaning.specs.States.{Key, same_key}
use Rattle.jz_secrets.specs.Graphs.{drawn, Arrow}
use Rattle.jz_drawing.specs.Drawings.{View, next, arrow_between, new_arrow, put_node}
use Rattle.jz_drawing.specs.Draws.{Renews}

abbrev pub source_arrows : List ℕ → ℕ → List Arrow
source_arrows ms n = map (λ m. arrow_between (drawn m) (drawn n)) ms

-- a new label for a scalar, which comes of these
abbrev pub renewed_at : Key → List ℕ → View → View
renewed_at key ms w = record {
  nodes = put_node key (next w) w.nodes;
  arrows = w.arrows ++ (new_arrow (next w) ∷ source_arrows ms (next w));
  asked = w.asked;
}

pub record RenewLaw : Type 0 where
  pub none : (sources : Key → List ℕ) (v : View) → Renews sources (λ k. false) v v
  pub one :
      (sources : Key → List ℕ) (is_new : Key → Bool) (v w : View) (k : Key)
      → Renews sources is_new v w → is_new k ≡ false
      → Renews sources (λ q. same_key q k || is_new q) v (renewed_at k (sources k) w)
