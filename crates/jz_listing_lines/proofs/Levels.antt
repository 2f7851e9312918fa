-- The last of what is open.
use Rattle.std.proofs.Common.{◌≡◌, List, [], ◌∷◌, ◌++◌, Option, Some, None, refl, ap, ◌∙◌}
use Rattle.jz_listing_lines.specs.declared.frames.Level.{Level}
use Rattle.jz_listing_lines.specs.InnerTrees.{last_of, with_first}

pub last_push : (ls : List Level) (l : Level) → last_of (ls ++ l ∷ []) ≡ Some (ls, l)
last_push [] l = refl
last_push (k ∷ ls) l = ap (with_first k) (last_push ls l)

pub last_is : (all ls : List Level) (l : Level) → all ≡ ls ++ l ∷ [] → last_of all ≡ Some (ls, l)
last_is all ls l e = ap last_of e ∙ last_push ls l
