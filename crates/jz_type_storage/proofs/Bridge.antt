-- Calls between functions and calls between their numbers. Two functions that are the same in all have the calls of either; a function that is called is the first of its name.
use Rattle.std.proofs.Common.{◌≡◌, ℕ, zero, suc, ◌<◌, inl, inr, List, [], ◌∷◌, Option, Some, None, length, map, flat_map, get_or, refl, sym, ap, ◌∙◌, subst, arith}
use Rattle.std.specs.Prelude.{Contains, option_to_list, slice_get}
use Rattle.std.proofs.lemmas.List.{get_or_default, length-map}
use Rattle.std.proofs.lemmas.Option.{slice_get_within, get_or_from_slice_get, slice_get_read}
use Rattle.std.proofs.lemmas.List.Elements.{Contains-append_left, Contains-append_right, Contains-append_cases}
use Rattle.jz_tree.specs.declared.program.Fun.{Fun}
use Rattle.jz_tree.specs.declared.program.Program.{Program}
use Rattle.jz_tree.specs.declared.stmt.Stmt.{Stmt}
use Rattle.jz_type_names.specs.Scopes.{Name}
use Rattle.jz_type_names.specs.Parts.{called_by, statements_of, layer_of}
use Rattle.jz_type_storage.specs.Recursion.{callees, Calls, Reaches, calls, further, CallsAt}
use Rattle.jz_type_storage.specs.Numbers.{number_named}
use Rattle.jz_type_storage.specs.InnerNumbers.{called_number, numbers_by, numbers_called, graph_of, Has, row_of, IsClosed, Leads}
use Rattle.jz_type_storage.specs.InnerNumbers as by_number
use Rattle.jz_type_storage.proofs.Naming.{At, named_by_function, named_by_number}

-- ---- what a list of pieces contains
record Piece {X A : Type 0} (f : X → List A) (xs : List X) (a : A) : Type 0 where
  item : X
  among : Contains xs item
  within : Contains (f item) a

in_flat : {X A : Type 0} (f : X → List A) (xs : List X) (x : X) (a : A) → Contains xs x → Contains (f x) a → Contains (flat_map f xs) a
in_flat f [] x a (k, lt, e) c = absurd (omega (arith, lt))
in_flat f (y ∷ ys) x a (zero, lt, e) c = Contains-append_left (f y) (flat_map f ys) a (subst (λ z. Contains (f z) a) (sym e) c)
in_flat f (y ∷ ys) x a (suc k, lt, e) c = Contains-append_right (f y) (flat_map f ys) a (in_flat f ys x a (k, omega (arith, lt), e) c)

later_piece : {X A : Type 0} (f : X → List A) (y : X) (ys : List X) (a : A) → Piece f ys a → Piece f (y ∷ ys) a
later_piece f y ys a r = record {
  item = r.item;
  among = (suc r.among.0, let lt = r.among.1 in omega (arith, lt), r.among.2);
  within = r.within;
}

of_flat : {X A : Type 0} (f : X → List A) (xs : List X) (a : A) → Contains (flat_map f xs) a → Piece f xs a
of_flat f [] a (k, lt, e) = absurd (omega (arith, lt))
of_flat f (y ∷ ys) a c = elim (Contains-append_cases (f y) (flat_map f ys) a c) [
  | inl p ↦ record { item = y; among = (0, omega arith, refl); within = p }
  | inr q ↦ later_piece f y ys a (of_flat f ys a q)
]

only_one : {A : Type 0} (o : Option A) (a : A) → Contains (option_to_list o) a → o ≡ Some a
only_one None a (k, lt, e) = absurd (omega (arith, lt))
only_one (Some b) a (zero, lt, e) = ap Some e
only_one (Some b) a (suc k, lt, e) = absurd (omega (arith, lt))

the_one : {A : Type 0} (o : Option A) (a : A) → o ≡ Some a → Contains (option_to_list o) a
the_one o a h = subst (λ p. Contains (option_to_list p) a) (sym h) (0, omega arith, refl)

has_of : (xs : List ℕ) (x : ℕ) → Contains xs x → Has xs x
has_of xs x c = (c.0, c.1, get_or_default xs c.0 0 x c.1 ∙ c.2)

of_has : (xs : List ℕ) (x : ℕ) → Has xs x → Contains xs x
of_has xs x c = (c.0, c.1, get_or_default xs c.0 x 0 c.1 ∙ c.2)

-- ---- the functions that one calls
abbrev called_of : Stmt → List Name
called_of s = called_by (layer_of s)

up : (fs : List Fun) (f : Fun) (n : Name) (k : ℕ) → Contains (callees f) n → number_named n.0 fs ≡ Some k → Has (numbers_called fs f) k
unfolding numbers_by
up fs f n k c h =
    let s = of_flat called_of (statements_of f.body) n c
    in has_of (numbers_called fs f) k
    (in_flat (numbers_by fs) (statements_of f.body) s.item k s.among (in_flat (called_number fs) (called_of s.item) n k s.within (the_one (number_named n.0 fs) k h)))

record Called (fs : List Fun) (f : Fun) (k : ℕ) : Type 0 where
  name : Name
  among : Contains (callees f) name
  numbered : number_named name.0 fs ≡ Some k

down : (fs : List Fun) (f : Fun) (k : ℕ) → Has (numbers_called fs f) k → Called fs f k
unfolding numbers_by
down fs f k h =
    let s = of_flat (numbers_by fs) (statements_of f.body) k (of_has (numbers_called fs f) k h)
    in let n = of_flat (called_number fs) (called_of s.item) k s.within
    in record {
      name = n.item;
      among = in_flat called_of (statements_of f.body) s.item n.item s.among n.among;
      numbered = only_one (number_named n.item.0 fs) k n.within;
    }

-- ---- rows of the graph
row_is : (h : Fun → List ℕ) (fs : List Fun) (i : ℕ) (f : Fun) → i < length fs → get_or fs i f ≡ f → get_or (map h fs) i [] ≡ h f
row_is h [] i f lt e = absurd (omega (arith, lt))
row_is h (g ∷ fs) zero f lt e = ap h e
row_is h (g ∷ fs) (suc i) f lt e = row_is h fs i f (omega (arith, lt)) e

record Row (h : Fun → List ℕ) (j : ℕ) : Type 0 where
  function : Fun
  has : Has (h function) j

some_row : (h : Fun → List ℕ) (fs : List Fun) (i j : ℕ) → Has (get_or (map h fs) i []) j → Row h j
some_row h [] i j c = absurd (let lt = c.1 in omega (arith, lt))
some_row h (g ∷ fs) zero j c = record { function = g; has = c }
some_row h (g ∷ fs) (suc i) j c = some_row h fs i j c

same_number : (o : Option ℕ) (j k : ℕ) → o ≡ Some j → o ≡ Some k → j ≡ k
same_number o j k p q = cc

same_function : (o : Option Fun) (f g : Fun) → o ≡ Some f → o ≡ Some g → f ≡ g
same_function o f g p q = cc

pub closed : (fs : List Fun) → IsClosed (graph_of fs)
closed fs i j h =
    let r = some_row (numbers_called fs) fs i j h
    in let n = down fs r.function j r.has
    in let m = named_by_number n.name.0 fs j n.numbered
    in let lt = m.there.within
    in let e = same_number _ m.number j m.numbered n.numbered
    in omega (arith, lt, e, length-map fs (numbers_called fs))

pub at_same : (fs : List Fun) (i : ℕ) (f g : Fun) → At fs i f → At fs i g → f ≡ g
at_same fs i f g a b = sym a.is ∙ (get_or_default fs i f g a.within ∙ b.is)

-- ---- one call
record Down (p : Program) (j : ℕ) (f : Fun) : Type 0 where
  function : Fun
  call : Calls p f function
  there : At p.funs j function

edge_down : (p : Program) (i j : ℕ) (f : Fun) → Has (row_of (graph_of p.funs) i) j → At p.funs i f → Down p j f
edge_down p i j f h a =
    let fs = p.funs
    in let n = down fs f j (subst (λ r. Has r j) (row_is (numbers_called fs) fs i f a.within a.is) h)
    in let m = named_by_number n.name.0 fs j n.numbered
    in let e = same_number _ m.number j m.numbered n.numbered
    in record { function = m.function; call = (n.name, n.among, m.named); there = subst (λ k. At fs k m.function) e m.there }

-- a function that is called stands there as the first of its name
record Up (p : Program) (i : ℕ) (g : Fun) : Type 0 where
  number : ℕ
  has : Has (row_of (graph_of p.funs) i) number
  there : At p.funs number g
  first : number_named g.name p.funs ≡ Some number

edge_up : (p : Program) (i : ℕ) (f g : Fun) → Calls p f g → At p.funs i f → Up p i g
edge_up p i f g c a =
    let fs = p.funs
    in let m = named_by_function c.0.0 fs g c.2
    in let e = same_function _ m.function g m.named c.2
    in record {
      number = m.number;
      has = subst (λ r. Has r m.number) (sym (row_is (numbers_called fs) fs i f a.within a.is)) (up fs f c.0 m.number c.1 m.numbered);
      there = subst (At fs m.number) e m.there;
      first = ap (λ n. number_named n fs) (sym (m.same ∙ ap (λ h. h.name) e)) ∙ m.numbered;
    }

-- ---- a call of a program and an edge of its graph
pub stands : (fs : List Fun) (i : ℕ) (f : Fun) → slice_get fs i ≡ Some f → At fs i f
stands fs i f h = record { within = slice_get_within fs i f h; is = get_or_from_slice_get fs i f f h }

pub found : (fs : List Fun) (i : ℕ) (f : Fun) → At fs i f → slice_get fs i ≡ Some f
found fs i f a = slice_get_read fs (length fs) i f refl a.within (sym a.is)

pub called_at : (p : Program) (i j : ℕ) → CallsAt p i j → Has (row_of (graph_of p.funs) i) j
called_at p i j c =
    let a = stands p.funs i c.caller c.there
    in subst (λ xs. Has xs j) (sym (row_is (numbers_called p.funs) p.funs i c.caller a.within a.is)) (up p.funs c.caller c.name j c.among c.numbered)

pub calls_at : (p : Program) (i j : ℕ) (f : Fun) → At p.funs i f → Has (row_of (graph_of p.funs) i) j → CallsAt p i j
calls_at p i j f a h =
    let c = down p.funs f j (subst (λ xs. Has xs j) (row_is (numbers_called p.funs) p.funs i f a.within a.is) h)
    in record { caller = f; there = found p.funs i f a; name = c.name; among = c.among; numbered = c.numbered }

-- ---- calls, one after the other
record AllDown (p : Program) (j : ℕ) (f : Fun) : Type 0 where
  function : Fun
  reaches : Reaches p f function
  there : At p.funs j function

all_down : (p : Program) (i j : ℕ) (f : Fun) → Leads (graph_of p.funs) i j → At p.funs i f → AllDown p j f
all_down p i j f (by_number.directly h) a =
    let e = edge_down p i j f h a in record { function = e.function; reaches = calls e.call; there = e.there }
all_down p i k f (by_number.further {j = j} r h) a =
    let m = all_down p i j f r a
    in let e = edge_down p j k m.function h m.there
    in record { function = e.function; reaches = further m.reaches e.call; there = e.there }

record AllUp (p : Program) (i : ℕ) (g : Fun) : Type 0 where
  number : ℕ
  leads : Leads (graph_of p.funs) i number
  there : At p.funs number g
  first : number_named g.name p.funs ≡ Some number

all_up : (p : Program) (i : ℕ) (f g : Fun) → Reaches p f g → At p.funs i f → AllUp p i g
all_up p i f g (calls c) a =
    let e = edge_up p i f g c a in record { number = e.number; leads = by_number.directly e.has; there = e.there; first = e.first }
all_up p i f h (further {g = g} r c) a =
    let m = all_up p i f g r a
    in let e = edge_up p m.number g h c m.there
    in record { number = e.number; leads = by_number.further m.leads e.has; there = e.there; first = e.first }

pub cycle_down : (p : Program) (i : ℕ) (f : Fun) → Leads (graph_of p.funs) i i → At p.funs i f → Reaches p f f
cycle_down p i f r a =
    let m = all_down p i i f r a
    in subst (Reaches p f) (at_same p.funs i m.function f m.there a) m.reaches

pub record Circle (p : Program) (f : Fun) : Type 0 where
  pub number : ℕ
  pub leads : Leads (graph_of p.funs) number number
  pub there : At p.funs number f

pub cycle_up : (p : Program) (i : ℕ) (f : Fun) → Reaches p f f → At p.funs i f → Circle p f
cycle_up p i f r a =
    let m = all_up p i f f r a
    in let n = all_up p m.number f f r m.there
    in record { number = m.number; leads = subst (Leads (graph_of p.funs) m.number) (same_number _ n.number m.number n.first m.first) n.leads; there = m.there }
