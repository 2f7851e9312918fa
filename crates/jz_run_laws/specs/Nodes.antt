-- What is said of each node of a tree, by what is known of the function in whose body it stands.
use Rattle.jz_meaning.specs.Trees.{Tree, done, op, quiet, choose, loop, each, call}

module _ {O T F C K : Type 0} (Op : K → O → Type 0) (Counter : K → F → Type 0)
    (Call : K → K → C → Type 0) where
  -- a call knows something of the function that it calls, of whose body the same is said
  abbrev pub AllNodes : K → Tree O T F C → Type 0
  AllNodes k done = Unit {0}
  AllNodes k (op o r) = Op k o × AllNodes k r
  AllNodes k (quiet o r) = Op k o × AllNodes k r
  AllNodes k (choose c a b r) = AllNodes k a × AllNodes k b × AllNodes k r
  AllNodes k (loop q p c b r) = AllNodes k p × AllNodes k b × AllNodes k r
  AllNodes k (each f b r) = Counter k f × AllNodes k b × AllNodes k r
  AllNodes k (call c b r) = ((j : K) × Call k j c × AllNodes j b) × AllNodes k r
