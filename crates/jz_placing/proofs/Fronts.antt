-- What is true of each element of two lists together is true of each of one.
use Rattle.std.proofs.Common.{List, [], ◌∷◌, ◌++◌}
use Rattle.std.specs.List.{All}
use Rattle.std.proofs.lemmas.List.Elements.{All-nil, All-cons, All-head, All-tail}

pub front_of : {X : Type 0} (Q : X → Type 0) (xs ys : List X) → All Q (xs ++ ys) → All Q xs
front_of Q [] ys a = All-nil Q
front_of Q (x ∷ xs) ys a = All-cons Q x xs (All-head Q x (xs ++ ys) a) (front_of Q xs ys (All-tail Q x (xs ++ ys) a))

pub back_of : {X : Type 0} (Q : X → Type 0) (xs ys : List X) → All Q (xs ++ ys) → All Q ys
back_of Q [] ys a = a
back_of Q (x ∷ xs) ys a = back_of Q xs ys (All-tail Q x (xs ++ ys) a)
