-- Conflicts, needs and first fit, over operations and any liveness `Live i v` (v is live after the
-- operation i).
use Rattle.std.specs.Prelude.{◌≡◌, ℕ, ◌<◌, ◌≢◌, ◌⊎◌, Bool, not, ◌&&◌, ◌||◌, List, [], ◌∷◌, ◌++◌, nat_eq, nat_lt, nat_le, IsTrue, IsFalse, slice_index_or, slice_set, length, map, replicate, Option, Some, None}
use Rattle.std.specs.List.{All, list_any, list_all, filter, range_with_len}
use Rattle.x64_insn.specs.declared.types.Place.{Place}
use Rattle.x64_insn.specs.declared.types.Place.TheVariants as place
use Rattle.x64_insn.specs.declared.types.Reg.TheVariants as reg
use Rattle.jz_io.specs.declared.span.Span.{Span}
use Rattle.jz_ir.specs.declared.code.Code.{Code}
use Rattle.jz_ir.specs.declared.code.Kind.{Kind}
use Rattle.jz_ir.specs.declared.code.Kind.TheVariants.{Word, Flag}
use Rattle.jz_ir.specs.declared.code.Need.{Need}
use Rattle.jz_ir.specs.declared.code.Op.{Op}
use Rattle.jz_ir.specs.Order.{number_of, has_place}
use Rattle.jz_ir.specs.Paths.{among}

-- what stands past the end of the code
abbrev pub no_op : Op
no_op = record {
  span = record { line = 0; col = 0 };
  reads = [];
  writes = [];
  fixed = [];
  needs = [];
}

abbrev pub op_at : List Op → ℕ → Op
op_at ops i = slice_index_or ops i no_op

-- the variables of an operation have numbers below n
pub record Below (n : ℕ) (o : Op) : Type 0 where
  pub reads : All (λ v. v < n) o.reads
  pub writes : All (λ v. v < n) o.writes
  pub needs : All (λ k. k.variable < n) o.needs

-- each variable that occurs has a kind
abbrev pub IsWithin : Code → Type 0
IsWithin code = All (Below (length code.kinds)) code.ops

-- ---- which places meet what is asked of a variable
abbrev pub is_of_kind : Kind → ℕ → Bool
is_of_kind Word q = nat_lt q 15
is_of_kind Flag q = nat_le 15 q && nat_lt q 20

abbrev pub kind_has : List Kind → List Place → ℕ → ℕ → Bool
kind_has kinds in_use v q = is_of_kind (slice_index_or kinds v Word) q && has_place in_use q

abbrev pub need_fits : ℕ → ℕ → Need → Bool
need_fits v q n = not (nat_eq n.variable v) || nat_eq (number_of n.place) q

abbrev pub op_fits : ℕ → ℕ → Op → Bool
op_fits v q o = list_all (need_fits v q) o.needs

-- the place is of the variable's kind and in use, and is what each of its needs wants
abbrev pub meets : List Kind → List Place → List Op → ℕ → ℕ → Bool
meets kinds in_use ops v q = kind_has kinds in_use v q && list_all (op_fits v q) ops

abbrev pub has_need : List Op → ℕ → Bool
has_need ops v = list_any (λ o. list_any (λ n. nat_eq n.variable v) o.needs) ops

-- ---- conflicts
module _ (ops : List Op) (Live : ℕ → ℕ → Type 0) where
  -- at the operation i: it writes one, and the other is live after it
  abbrev pub ConflictAt : ℕ → ℕ → ℕ → Type 0
  ConflictAt i a b =
      (IsTrue (among (op_at ops i).writes a) × Live i b)
      ⊎ (IsTrue (among (op_at ops i).writes b) × Live i a)

  -- the operation i writes the place besides, and v is live across it
  abbrev pub TakenAt : ℕ → ℕ → ℕ → Type 0
  TakenAt i v q =
      IsTrue (has_place (op_at ops i).fixed q) × IsFalse (among (op_at ops i).writes v) × Live i v

-- ---- first fit
pub data Out : Type 0 where
  placed : List (Option ℕ) → Out
  refused : ℕ → List (Option ℕ) → Out

-- over any needs and conflicts; `done` has the places so far, by variable
module _ (Meets : ℕ → ℕ → Type 0) (Conflict : ℕ → ℕ → Type 0) (Taken : ℕ → ℕ → Type 0) where
  pub record Free (done : List (Option ℕ)) (v q : ℕ) : Type 0 where
    pub apart : (u : ℕ) → slice_index_or done u None ≡ Some q → Conflict u v → ⊥
    pub untaken : Taken v q → ⊥

  pub record Takes (done : List (Option ℕ)) (v q : ℕ) : Type 0 where
    pub meets_needs : Meets v q
    pub free : Free done v q
    pub is_first : (p : ℕ) → p < q → Meets v p → Free done v p → ⊥

  abbrev pub IsLeft : List (Option ℕ) → ℕ → Type 0
  IsLeft done v = (q : ℕ) → Meets v q → Free done v q → ⊥

  -- the variables of the list, one after another: each takes the first place that it can have, or
  -- is left without one
  pub data First : List ℕ → List (Option ℕ) → Out → Type 0 where
    all_placed : {done : List (Option ℕ)} → First [] done (placed done)
    one_placed :
        {v q : ℕ} {vs : List ℕ} {done : List (Option ℕ)} {o : Out} → Takes done v q
        → First vs (slice_set done v (Some q)) o → First (v ∷ vs) done o
    one_left :
        {v : ℕ} {vs : List ℕ} {done : List (Option ℕ)} → IsLeft done v
        → First (v ∷ vs) done (refused v done)

-- those with needs first, each in order of declaration
abbrev pub order_of : List Op → ℕ → List ℕ
order_of ops n =
    filter (has_need ops) (range_with_len 0 n)
    ++ filter (λ v. not (has_need ops v)) (range_with_len 0 n)

module _ (ops : List Op) (kinds : List Kind) (in_use : List Place) (Live : ℕ → ℕ → Type 0) where
  abbrev pub Meets : ℕ → ℕ → Type 0
  Meets v q = IsTrue (meets kinds in_use ops v q)

  abbrev pub Conflict : ℕ → ℕ → Type 0
  Conflict u v = (i : ℕ) × ConflictAt ops Live i u v

  abbrev pub Taken : ℕ → ℕ → Type 0
  Taken v q = (i : ℕ) × TakenAt ops Live i v q

  -- first fit of all variables comes to this
  abbrev pub FirstFit : Out → Type 0
  FirstFit o =
      First Meets Conflict Taken (order_of ops (length kinds)) (replicate (length kinds) None) o

-- a place for each variable
abbrev pub all_of : List Place → Out
all_of places = placed (map (λ p. Some (number_of p)) places)

-- ---- what keeps a variable from a place
-- a variable or a fixed write keeps v from the place q at the operation i
module _ (ops : List Op) (Live : ℕ → ℕ → Type 0) (places : List (Option ℕ)) (v q : ℕ) where
  abbrev pub HeldByVar : ℕ → ℕ → Type 0
  HeldByVar i u = (slice_index_or places u None ≡ Some q) × ConflictAt ops Live i u v

  -- a variable before a fixed write, and the first in the order of declaration
  abbrev pub HeldBy : ℕ → Option ℕ → Type 0
  HeldBy i (Some u) = HeldByVar i u × ((w : ℕ) → w < u → HeldByVar i w → ⊥)
  HeldBy i None = TakenAt ops Live i v q × ((u : ℕ) → HeldByVar i u → ⊥)

  -- and no earlier operation does
  pub record FirstHolder (span : Span) (who : Option ℕ) : Type 0 where
    pub held_at : ℕ
    pub within : held_at < length ops
    pub span_is : span ≡ (op_at ops held_at).span
    pub held : HeldBy held_at who
    pub earlier_vars : (j : ℕ) → j < held_at → (u : ℕ) → HeldByVar j u → ⊥
    pub earlier_fixed : (j : ℕ) → j < held_at → TakenAt ops Live j v q → ⊥

-- ---- what places have to meet
abbrev pub place_at : List Place → ℕ → Place
place_at places v = slice_index_or places v (place.Reg reg.Rsp)

-- an operation writes u, and another variable is live after it: they have different places
abbrev pub AllocatedApart : List Op → (ℕ → ℕ → Type 0) → List Place → Type 0
AllocatedApart ops Live places =
    (i u v : ℕ) → u ≢ v → IsTrue (among (op_at ops i).writes u) → Live i v
    → place_at places u ≢ place_at places v

-- no variable is live across a fixed write of its place
abbrev pub KeptFromFixed : List Op → (ℕ → ℕ → Type 0) → List Place → Type 0
KeptFromFixed ops Live places = (i v : ℕ) → TakenAt ops Live i v (number_of (place_at places v)) → ⊥

-- each variable has a place of its kind in use, which is that of each of its needs
pub record IsPlacing (code : Code) (Live : ℕ → ℕ → Type 0) (places : List Place) : Type 0 where
  pub one_each : length places ≡ length code.kinds
  pub meets_needs :
      (v : ℕ) → v < length code.kinds
      → IsTrue (meets code.kinds code.in_use code.ops v (number_of (place_at places v)))
  pub apart : AllocatedApart code.ops Live places
  pub kept : KeptFromFixed code.ops Live places
