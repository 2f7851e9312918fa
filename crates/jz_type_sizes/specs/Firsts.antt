-- Wrong places among the parts of lists.
use Rattle.std.specs.Prelude.{List, [], ◌∷◌, ◌++◌}
use Rattle.jz_tree.specs.Span.{Span}

-- what is wrong with items beside others, in their order, and with those that are more
abbrev pub wrong_beside : {A B : Type 0}
    → (A → B → List Span) → (B → List Span) → List A → List B → List Span
wrong_beside f more as' [] = []
wrong_beside f more [] (b ∷ bs) = more b ++ wrong_beside f more [] bs
wrong_beside f more (a ∷ as') (b ∷ bs) = f a b ++ wrong_beside f more as' bs
