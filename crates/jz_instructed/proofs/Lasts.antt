-- The last of several left sides, where it is a cell or memory and flags were written before it.
use Rattle.std.proofs.Common.{◌≡◌, ℕ, [], Option, Some, None, Bool, refl, ap, sym, ◌∙◌, subst, if◌then◌else◌, true}
use Rattle.std.specs.Option.{option_or}
use Rattle.jz_tree.specs.Span.{Span}
use Rattle.x64_insn.specs.Size.{Size}
use Rattle.x64_insn.specs.Size.TheVariants.{S64}
use Rattle.x64_insn.specs.Memory.{Memory}
use Rattle.jz_tree.specs.declared.expr.BinOp.{BinOp}
use Rattle.jz_tree.specs.declared.expr.BinOp.TheVariants as o
use Rattle.jz_tree.specs.declared.expr.Expr.{Expr}
use Rattle.jz_tree.specs.declared.expr.Access.{Access}
use Rattle.jz_tree.specs.declared.expr.Var.{Var}
use Rattle.jz_tree.specs.declared.stmt.Lval.TheVariants as lval
use Rattle.jz_runs.specs.Rules.{went}
use Rattle.jz_meaning.specs.declared.access.Kind.TheVariants as kind
use Rattle.jz_meaning.specs.Attempts.{Evaluation, and_then, defined}
use Rattle.jz_meaning.specs.States.{Value, Key, State}
use Rattle.jz_meaning.specs.Operators.{binary, is_settled}
use Rattle.jz_meaning.specs.Values.{Ref, MemoryAccess, Meaning, key_of, ref_of, right_wanted, with_right, run_binary, index_at, store_at}
use Rattle.jz_meaning.specs.Assignments as values
use Rattle.jz_meaning.specs.Assignments.{left_size, with_value, written}
use Rattle.jz_run_laws.specs.Kinds.{Kinds, kind_at}
use Rattle.jz_terms.specs.Terms.{Term, num, var, term_of, place_of, means}
use Rattle.jz_terms.proofs.Bridge.{term_so, access_at}
use Rattle.jz_facts.specs.Facts.{Fact, Facts, Given, subject}
use Rattle.jz_facts.specs.Holding.{in_cell}
use Rattle.jz_fact_laws.specs.Saying.{Yields, Says}
use Rattle.jz_fact_laws.proofs.Fitting.{yields_all}
use Rattle.jz_assigned.specs.Conditions.{asks_left}
use Rattle.jz_standing.specs.Typing.{whole, NoNumbers, IsScalar, IsArray, IsSum}
use Rattle.jz_standing.specs.Standing.{is_of_cell, AreValid, Stands}
use Rattle.jz_standing.proofs.SumForms.{summed}
use Rattle.jz_standing.proofs.Making.{OfSize}
use Rattle.jz_assigned.proofs.Sums.{Runs}
use Rattle.jz_assigned.proofs.Cells.{access_so, regions_kept, cell_says, cell_apart, IsWritten, cell_leaves, IsMemory, store_leaves}
use Rattle.jz_assigned.proofs.Writing.{cell_goes, place_goes}

module _ (kinds : Kinds) (in_frame : Key → Bool) (st : State) where
  -- but for flags the variables are as they were
  abbrev pub AsBefore : State → Type 0
  AsBefore t = (k : Key) → (kind_at kinds k ≡ kind.Bool → ⊥) → t.store k ≡ st.store k

  variable_same : (x : Ref) → x.kind ≡ kind.Word S64 → IsScalar kinds in_frame x → (u : State) → AsBefore u → (w : Option Size) → (means (var x)).run w u ≡ (means (var x)).run w st
  variable_same x e i u b w = ap (defined x.span) (b (key_of x) (λ q. absurd (cc (sym q ∙ i.declared ∙ e))))

  two_same : (op : BinOp) (a b : Term) (at : Span) (v : Option Size) (u : State) → (means a).run v u ≡ (means a).run v st → (means b).run (right_wanted op v) u ≡ (means b).run (right_wanted op v) st → run_binary op (means a).run (means b).run at v u ≡ run_binary op (means a).run (means b).run at v st
  two_same op a b at v u p q =
      ap (λ (e : Evaluation Value). and_then e (with_right op (means b).run at v u)) p
      ∙ ap (λ (e : Evaluation Value). and_then ((means a).run v st) (λ x. if is_settled op x then went [] x else and_then e (λ y. binary op at v x y))) q

  -- an index or an address is the same
  pub sum_same : (t : Term) → IsSum kinds in_frame t → (u : State) → AsBefore u → (means t).run (Some S64) u ≡ (means t).run (Some S64) st
  sum_same = summed kinds in_frame (λ t. (u : State) → AsBefore u → (means t).run (Some S64) u ≡ (means t).run (Some S64) st)
      (λ i at u b. refl)
      (λ x e i u b. variable_same x e i u b (Some S64))
      (λ k t x at e i u b. two_same o.Mul (num k t) (var x) at (Some S64) u refl (variable_same x e i u b (Some S64)))
      (λ x k t at e i u b. two_same o.Mul (var x) (num k t) at (Some S64) u (variable_same x e i u b (Some S64)) refl)
      (λ a c at n i j p r u b. two_same o.Add a c at (Some S64) u (p u b) (r u b))
      (λ a i t at n j p u b. two_same o.Sub a (num i t) at (Some S64) u (p u b) refl)

module _ (g : Given) (in_frame : Key → Bool) (entry : Key → ℕ) where
  -- the facts hold of this state, each of a scalar or of a cell of an array in the frame, and the
  -- regions are there
  pub record Behind (s : Facts) (t : State) : Type 0 where
    pub says : (f : Fact) → s f ≡ true → Says entry t.store f
    pub apart : (f : Fact) → s f ≡ true → in_frame (whole (subject f)) ≡ is_of_cell f
    pub valid : AreValid entry t.memory g.regions

  pub cell_behind : (kinds : Kinds) (x : Var) (i : Expr) (z : Size) (n : ℕ) → IsArray kinds in_frame (ref_of x) z n → (zo : Option Size) (v : Option Value) (s : Facts) (t : State) → Behind s t → Yields (Behind (in_cell (ref_of x) (term_of i) s)) (written zo (lval.Cell x i) v t)
  cell_behind kinds x i z n A zo v s t b = yields_all (IsWritten t x i) (Behind (in_cell (ref_of x) (term_of i) s)) (written zo (lval.Cell x i) v t) behind (cell_leaves t zo x i v)
    where
      behind : (u : State) → IsWritten t x i u → Behind (in_cell (ref_of x) (term_of i) s) u
      behind u (m, w, h, q) = record {
        says = λ f p. subst (λ d. Says entry d f) (sym (ap (λ (d : State). d.store) q)) (cell_says kinds in_frame entry s t b.says b.apart (ref_of x) z n A m w (term_of i) h f p);
        apart = cell_apart kinds in_frame entry s t b.says b.apart (ref_of x) z n A (term_of i);
        valid = subst (λ d. AreValid entry d g.regions) (sym (ap (λ (d : State). d.memory) q)) b.valid;
      }

  pub store_behind : (a : Access) (zo : Option Size) (v : Option Value) (s : Facts) (t : State) → Behind s t → Yields (Behind s) (written zo (lval.Store a) v t)
  store_behind a zo v s t b = yields_all (IsMemory t) (Behind s) (written zo (lval.Store a) v t) behind (store_leaves t zo a v)
    where
      behind : (u : State) → IsMemory t u → Behind s u
      behind u h = record {
        says = λ f p. subst (λ d. Says entry d f) (sym h.0) (b.says f p);
        apart = b.apart;
        valid = regions_kept entry t.memory u.memory h.1 g.regions b.valid;
      }

module _ (g : Given) (kinds : Kinds) (in_frame : Key → Bool) (entry : Key → ℕ) (s : Facts) (st : State) (H : Stands g kinds in_frame entry s st) (nn : NoNumbers kinds) where
  -- ---- it is not stuck

  pub cell_last : (x : Var) (i : Expr) (z : Size) (n : ℕ) → IsArray kinds in_frame (ref_of x) z n → IsSum kinds in_frame (term_of i) → (zo : Option Size) → asks_left g s zo (lval.Cell x i) ≡ None → (k : Bool) (v : Value) → OfSize z k v → (t : State) → AsBefore kinds in_frame st t → Runs (λ u. Unit {0}) (written zo (lval.Cell x i) (Some v) t)
  cell_last x i z n A j zo q k v h t b =
      subst (λ (m : Meaning). Runs (λ u. Unit {0}) (and_then (m.run (Some S64) t) (λ u. and_then (index_at (ref_of x) u) (λ n. values.in_cell (ref_of x) n (left_size (lval.Cell x i)) (Some v) t)))) (sym (term_so i))
      (subst (λ (e : Evaluation Value). Runs (λ u. Unit {0}) (and_then e (λ u. and_then (index_at (ref_of x) u) (λ n. values.in_cell (ref_of x) n (left_size (lval.Cell x i)) (Some v) t)))) (sym (sum_same kinds in_frame st (term_of i) j t b))
      (cell_goes g kinds in_frame entry s st H nn t x i z n zo A j q k v h))

  pub store_last : (a : Access) (z : Size) (zo : Option Size) → option_or (place_of a).spot.size zo ≡ Some z → IsSum kinds in_frame (place_of a).at → asks_left g s zo (lval.Store a) ≡ None → (k : Bool) (v : Value) → OfSize z k v → (t : State) → AsBefore kinds in_frame st t → t.memory ≡ st.memory → Runs (λ u. Unit {0}) (written zo (lval.Store a) (Some v) t)
  store_last a z zo e j q k v h t b m =
      let p = place_of a in
      let R : Evaluation Value → Memory → Type 0 = λ (e : Evaluation Value) (d : Memory). Runs (λ (u : State). Unit {0}) (and_then e (λ n. and_then (store_at (access_at p) zo n (Some v) d) (λ m. went [] (record t { memory = m })))) in
      subst (λ (y : MemoryAccess). Runs (λ u. Unit {0}) (and_then (y.at t) (λ n. and_then (store_at y zo n (Some v) t.memory) (λ m. went [] (record t { memory = m }))))) (sym (access_so a))
      (subst (λ (e : Evaluation Value). R e t.memory) (sym (sum_same kinds in_frame st p.at j t b))
      (subst (λ (d : Memory). R ((means p.at).run (Some S64) st) d) (sym m)
      (place_goes g kinds in_frame entry s st H nn t p zo z k v j e h q)))
