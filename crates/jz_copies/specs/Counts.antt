-- How many statements a function has where each call is the body that it calls, and how deep they
-- stand.
use Rattle.std.specs.Prelude.{ℕ, ◌+◌, ◌≤◌, ◌<◌, ◌≡◌, ◌⊎◌, List, [], ◌∷◌, ◌++◌, length, All, Contains}
use Rattle.jz_tree.specs.declared.program.Fun.{Fun}
use Rattle.jz_tree.specs.declared.program.Program.{Program}
use Rattle.jz_meaning.specs.Trees.{Tree, done, op, quiet, choose, loop, each, call}
use Rattle.jz_meaning.specs.Runs.{body_of}
use Rattle.jz_copies.specs.declared.extent.Extent.{Extent}
use Rattle.jz_copies.specs.declared.extent.CopyLimit.{CopyLimit}
use Rattle.jz_copies.specs.declared.extent.CopyLimit.TheVariants.{Expand}

-- The depth of each statement of a body, in the order of the text: that of the body, and one more
-- for each call, `if`, `while` and `for` in which it stands. Each arm, prologue and body counts once,
-- and so does each body that is called, wherever it is called; the head of a copied body counts
-- nothing.
unfoldable pub depths_in : {O T F C : Type 0} → ℕ → Tree O T F C → List ℕ
depths_in d done = []
depths_in d (op o r) = d ∷ depths_in d r
depths_in d (quiet o r) = depths_in d r
depths_in d (choose t a b r) =
    d ∷ ((depths_in (d + 1) a ++ depths_in (d + 1) b) ++ depths_in d r)
depths_in d (loop q p t b r) =
    d ∷ ((depths_in (d + 1) p ++ depths_in (d + 1) b) ++ depths_in d r)
depths_in d (each f b r) = d ∷ (depths_in (d + 1) b ++ depths_in d r)
depths_in d (call q b r) = d ∷ (depths_in (d + 1) b ++ depths_in d r)

-- of a function with all that it calls
abbrev pub depths_of : Program → Fun → List ℕ
depths_of p f = depths_in 1 (body_of p f)

abbrev pub copied_count : Program → Fun → ℕ
copied_count p f = length (depths_of p f)

-- none is deeper, and one is so deep, if there is one
pub record IsDeepest (ds : List ℕ) (deepest : ℕ) : Type 0 where
  pub bound : All (λ d. d ≤ deepest) ds
  pub reached : (ds ≡ []) ⊎ Contains ds deepest

-- ---- the limit

-- how many statements there may be
abbrev pub most_statements : ℕ
most_statements = 65536

pub record IsExtent (p : Program) (f : Fun) (extent : Extent) : Type 0 where
  pub count : extent.count ≡ copied_count p f
  pub deepest : IsDeepest (depths_of p f) extent.deepest
  pub within : copied_count p f ≤ most_statements

-- the function passes the limit
abbrev pub Passes : Program → Fun → CopyLimit → Type 0
Passes p f Expand = most_statements < copied_count p f
