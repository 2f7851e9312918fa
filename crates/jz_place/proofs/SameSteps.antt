-- From states that differ in variables alone, in none that an operation reads, it does the same.
use Rattle.std.proofs.Common.{◌≡◌, ℕ, Bool, true, false, ◌||◌, List, [], ◌∷◌, ◌++◌, Option, Some, None, length, refl, sym, ap, subst, ◌∙◌}
use Rattle.std.specs.Prelude.{if◌then◌else◌, nat_eq, IsTrue}
use Rattle.std.proofs.lemmas.Bool.{or_left, or_right, eq-eqb}
use Rattle.jz_words.specs.declared.size.Size.{Size}
use Rattle.jz_words.specs.Sizes.{bytes_of}
use Rattle.jz_words.specs.Memory.{all_valid, stored}
use Rattle.x64_insn.specs.declared.types.FlagVal.{FlagVal}
use Rattle.x64_insn.specs.Table.{number_of}
use Rattle.jz_ir.specs.Paths.{among}
use Rattle.jz_runs.specs.Rules.{Attempt, went}
use Rattle.jz_operations.specs.declared.operation.Pinned.{Pinned}
use Rattle.jz_operations.specs.declared.operation.Address.{Address}
use Rattle.jz_operations.specs.declared.operation.Cell.{Cell}
use Rattle.jz_operations.specs.declared.operation.Arg.{Arg}
use Rattle.jz_operations.specs.declared.operation.Arg.TheVariants as arg
use Rattle.jz_operations.specs.declared.operation.Operation.{Operation}
use Rattle.jz_operations.specs.Values.{Value, word, State, set_var, set_left, set_cell}
use Rattle.jz_operations.specs.Rows.{Frame, if_some, address_in, cell_in, has_cell, put, put_all, inputs, Output, outputs, accesses, access_numbers, changes, asked, computed, inputs_in, flags_of, flag_value, marked, set_flags, with_flags, Done, step}
use Rattle.jz_operations.specs.Reading.{is_var, found_by, reads_in, found_in, written_in, asked_by, flags_written, reads_of, writes_of}
use Rattle.jz_operations.specs.Laws.{AreBeside, ReadTheSame}
use Rattle.jz_operations.specs.Standing.{division_of}
use Rattle.jz_operations.proofs.Somes.{some_then, same_some}
use Rattle.jz_operations.proofs.Writes.{cell_put}
use Rattle.jz_operations.proofs.OwnVariables.{SameIn, same_left, same_right, address_same, cell_same, reads_only}
use Rattle.jz_placing.specs.Instructions.{division_numbers}
use Rattle.jz_placing.specs.Variables.{numbers_of, by_step, does}
use Rattle.jz_place.specs.Laws.{DoesTheSame}
use Rattle.jz_place.proofs.FiveFlags.{computed_five}

-- ---- lists of variables
either : {C : Type 0} (x y : Bool) → (x || y) ≡ true → (x ≡ true → C) → (y ≡ true → C) → C
either true y e f g = f refl
either false y e f g = g e

in_parts : {C : Type 0} (xs ys : List ℕ) (v : ℕ) → IsTrue (among (xs ++ ys) v) → (IsTrue (among xs v) → C) → (IsTrue (among ys v) → C) → C
in_parts [] ys v e f g = g e
in_parts (x ∷ xs) ys v e f g =
    either (nat_eq x v) (among (xs ++ ys) v) e (λ k. f (or_left (nat_eq x v) (among xs v) k))
    (λ k. in_parts xs ys v k (λ h. f (or_right (nat_eq x v) (among xs v) h)) g)

all_same : (σ τ : State) (vs : List ℕ) → ((v : ℕ) → IsTrue (among vs v) → τ.vars v ≡ σ.vars v) → SameIn σ τ vs
all_same σ τ [] f = tt
all_same σ τ (v ∷ vs) f = (f v (or_left (nat_eq v v) (among vs v) (eq-eqb v v refl)), all_same σ τ vs (λ w h. f w (or_right (nat_eq v w) (among vs w) h)))

-- ---- what two writes leave
-- the variables that are written, and those that were the same, are the same
record Alike (ws : List ℕ) (σ τ σ' τ' : State) : Type 0 where
  beside : AreBeside σ' τ'
  written : (v : ℕ) → IsTrue (among ws v) → τ'.vars v ≡ σ'.vars v
  kept : (v : ℕ) → τ.vars v ≡ σ.vars v → τ'.vars v ≡ σ'.vars v

still_same : (σ τ σ' τ' : State) (vs : List ℕ) → ((v : ℕ) → τ.vars v ≡ σ.vars v → τ'.vars v ≡ σ'.vars v) → SameIn σ τ vs → SameIn σ' τ' vs
still_same σ τ σ' τ' [] f h = tt
still_same σ τ σ' τ' (v ∷ vs) f h = (f v h.0, still_same σ τ σ' τ' vs f h.1)

set_kept : (v w : ℕ) (x : Option Value) (f g : ℕ → Option Value) → g w ≡ f w → set_var v x g w ≡ set_var v x f w
set_kept v w x f g e = ap (λ z. if nat_eq v w then x else z) e

set_there : (v w : ℕ) (x : Option Value) (f g : ℕ → Option Value) → nat_eq v w ≡ true → set_var v x g w ≡ set_var v x f w
set_there v w x f g e = rw e refl

only_one : (v w : ℕ) → IsTrue (among (v ∷ []) w) → nat_eq v w ≡ true
only_one v w e = either (nat_eq v w) false e (λ k. k) (λ k. absurd cc)

-- ---- one operand
module _ (frame : Frame) where
  abbrev PutsAlike : Arg → Size → ℕ → State → State → State → Type 0
  PutsAlike a s n σ τ σ' = (τ' : State) × (put frame a s n τ ≡ Some τ') × Alike (is_var a) σ τ σ' τ'

  var_alike : (v : ℕ) (s : Size) (n : ℕ) (σ τ : State) → AreBeside σ τ → PutsAlike (arg.Var v) s n σ τ (record σ { vars = set_var v (Some (word s n)) σ.vars; left = λ r. None })
  var_alike v s n σ τ h = (
    record τ { vars = set_var v (Some (word s n)) τ.vars; left = λ r. None },
    refl,
    record {
      beside = record { left = λ r. refl; flags = h.flags; cells = h.cells; memory = h.memory };
      written = λ w e. set_there v w (Some (word s n)) σ.vars τ.vars (only_one v w e);
      kept = λ w e. set_kept v w (Some (word s n)) σ.vars τ.vars e;
    },
  )

  mem_put : (m : Address) (s : Size) (n x : ℕ) (τ : State) → address_in m τ ≡ Some x → all_valid τ.memory x (bytes_of s) ≡ true → put frame (arg.Mem m) s n τ ≡ Some (record τ { memory = stored τ.memory x (bytes_of s) n })
  mem_put m s n x τ e k = rw (e, k) refl

  cell_puts : (c : Cell) (s : Size) (n i : ℕ) (τ : State) → cell_in c τ ≡ Some i → has_cell (frame c.of) s i ≡ true → put frame (arg.Cell c) s n τ ≡ Some (record τ { cells = set_cell c.of i n τ.cells })
  cell_puts c s n i τ e k = rw (e, k) refl

  put_alike : (a : Arg) (s : Size) (n : ℕ) (σ τ σ' : State) → AreBeside σ τ → SameIn σ τ (found_by a) → put frame a s n σ ≡ Some σ' → PutsAlike a s n σ τ σ'
  put_alike (arg.Var v) s n σ τ σ' h f e = subst (λ z. PutsAlike (arg.Var v) s n σ τ z) (same_some _ σ' e) (var_alike v s n σ τ h)
  put_alike (arg.Imm i) s n σ τ σ' h f e = absurd cc
  put_alike (arg.Mem m) s n σ τ σ' h f e =
      let r = some_then (address_in m σ) _ σ' e in
      let w = cell_put _ _ σ' r.2 in
      subst (λ z. PutsAlike (arg.Mem m) s n σ τ z) w.1 (
        record τ { memory = stored τ.memory r.0 (bytes_of s) n },
        mem_put m s n r.0 τ (address_same σ τ m f ∙ r.1) (ap (λ z. all_valid z r.0 (bytes_of s)) h.memory ∙ w.0),
        record {
          beside = record { left = h.left; flags = h.flags; cells = h.cells; memory = ap (λ z. stored z r.0 (bytes_of s) n) h.memory };
          written = λ v k. absurd cc;
          kept = λ v k. k;
        },
      )
  put_alike (arg.Cell c) s n σ τ σ' h f e =
      let r = some_then (cell_in c σ) _ σ' e in
      let w = cell_put _ _ σ' r.2 in
      subst (λ z. PutsAlike (arg.Cell c) s n σ τ z) w.1 (
        record τ { cells = set_cell c.of r.0 n τ.cells },
        cell_puts c s n r.0 τ (cell_same σ τ c f ∙ r.1) w.0,
        record {
          beside = record { left = h.left; flags = h.flags; cells = ap (λ z. set_cell c.of r.0 n z) h.cells; memory = h.memory };
          written = λ v k. absurd cc;
          kept = λ v k. k;
        },
      )
  put_alike (arg.At r (Some p)) s n σ τ σ' h f e =
      subst (λ z. PutsAlike (arg.At r (Some p)) s n σ τ z) (same_some _ σ' e) (
        record τ { vars = set_var p.variable (Some (word s n)) τ.vars; left = set_left r None τ.left },
        refl,
        record {
          beside = record { left = λ q. ap (λ z. if nat_eq (number_of r) (number_of q) then None else z) (h.left q); flags = h.flags; cells = h.cells; memory = h.memory };
          written = λ w k. set_there p.variable w (Some (word s n)) σ.vars τ.vars (only_one p.variable w k);
          kept = λ w k. set_kept p.variable w (Some (word s n)) σ.vars τ.vars k;
        },
      )
  put_alike (arg.At r None) s n σ τ σ' h f e =
      subst (λ z. PutsAlike (arg.At r None) s n σ τ z) (same_some _ σ' e) (
        record τ { left = set_left r (Some (word s n)) τ.left },
        refl,
        record {
          beside = record { left = λ q. ap (λ z. if nat_eq (number_of r) (number_of q) then Some (word s n) else z) (h.left q); flags = h.flags; cells = h.cells; memory = h.memory };
          written = λ v k. absurd cc;
          kept = λ v k. k;
        },
      )

  -- ---- all that an operation writes
  all_alike : (os : List Output) (ns : List ℕ) (σ τ σ' : State) → AreBeside σ τ → SameIn σ τ (found_in os) → put_all frame os ns σ ≡ Some σ' → (τ' : State) × (put_all frame os ns τ ≡ Some τ') × Alike (written_in os) σ τ σ' τ'
  all_alike [] [] σ τ σ' h f e =
      subst (λ z. (τ' : State) × (put_all frame [] [] τ ≡ Some τ') × Alike [] σ τ z τ') (same_some σ σ' e)
      (τ, refl, record { beside = h; written = λ v k. absurd cc; kept = λ v k. k })
  all_alike [] (n ∷ ns) σ τ σ' h f e = absurd cc
  all_alike (o ∷ os) [] σ τ σ' h f e = absurd cc
  all_alike (o ∷ os) (n ∷ ns) σ τ σ' h f e =
      let r = some_then (put frame o.1 o.0 n σ) _ σ' e in
      let p = put_alike o.1 o.0 n σ τ r.0 h (same_left σ τ (found_by o.1) (found_in os) f) r.1 in
      let q = all_alike os ns r.0 p.0 σ' p.2.beside (still_same σ τ r.0 p.0 (found_in os) p.2.kept (same_right σ τ (found_by o.1) (found_in os) f)) r.2 in (
        q.0,
        ap (λ z. if_some z (put_all frame os ns)) p.1 ∙ q.1,
        record {
          beside = q.2.beside;
          written = λ v k. in_parts (is_var o.1) (written_in os) v k (λ g. q.2.kept v (p.2.written v g)) (λ g. q.2.written v g);
          kept = λ v k. q.2.kept v (p.2.kept v k);
        },
      )

-- ---- flags
flags_kept : (ps : List (Option Pinned)) (cs : List Bool) (fs : List FlagVal) (f g : ℕ → Option Value) (v : ℕ) → g v ≡ f v → set_flags ps cs fs g v ≡ set_flags ps cs fs f v
flags_kept [] cs fs f g v e = e
flags_kept (p ∷ ps) [] fs f g v e = e
flags_kept (p ∷ ps) (c ∷ cs) [] f g v e = e
flags_kept (None ∷ ps) (true ∷ cs) (x ∷ fs) f g v e = flags_kept ps cs fs f g v e
flags_kept (None ∷ ps) (false ∷ cs) (x ∷ fs) f g v e = flags_kept ps cs fs f g v e
flags_kept (Some p ∷ ps) (false ∷ cs) (x ∷ fs) f g v e = flags_kept ps cs fs f g v e
flags_kept (Some p ∷ ps) (true ∷ cs) (x ∷ fs) f g v e =
    flags_kept ps cs fs (set_var p.variable (flag_value x) f) (set_var p.variable (flag_value x) g) v (set_kept p.variable v (flag_value x) f g e)

flags_there : (ps : List (Option Pinned)) (cs : List Bool) (fs : List FlagVal) (f g : ℕ → Option Value) (v : ℕ) → length fs ≡ length ps → IsTrue (among (flags_written ps cs) v) → set_flags ps cs fs g v ≡ set_flags ps cs fs f v
flags_there [] cs fs f g v l e = absurd cc
flags_there (p ∷ ps) [] fs f g v l e = absurd cc
flags_there (p ∷ ps) (c ∷ cs) [] f g v l e = absurd cc
flags_there (None ∷ ps) (true ∷ cs) (x ∷ fs) f g v l e = let k : length fs ≡ length ps = cc in flags_there ps cs fs f g v k e
flags_there (None ∷ ps) (false ∷ cs) (x ∷ fs) f g v l e = let k : length fs ≡ length ps = cc in flags_there ps cs fs f g v k e
flags_there (Some p ∷ ps) (false ∷ cs) (x ∷ fs) f g v l e = let k : length fs ≡ length ps = cc in flags_there ps cs fs f g v k e
flags_there (Some p ∷ ps) (true ∷ cs) (x ∷ fs) f g v l e =
    let less : length fs ≡ length ps = cc in
    either (nat_eq p.variable v) (among (flags_written ps cs) v) e
    (λ k. flags_kept ps cs fs (set_var p.variable (flag_value x) f) (set_var p.variable (flag_value x) g) v (set_there p.variable v (flag_value x) f g k))
    (λ k. flags_there ps cs fs (set_var p.variable (flag_value x) f) (set_var p.variable (flag_value x) g) v less k)

-- ---- an operation
into : {A B : Type 0} (x : Option A) (f : A → Option B) (a : A) (y : Option B) → x ≡ Some a → f a ≡ y → if_some x f ≡ y
into x f a y e h = ap (λ z. if_some z f) e ∙ h

module _ (frame : Frame) (o : Operation) (σ τ : State) (beside : AreBeside σ τ) (reads : ReadTheSame o σ τ) where
  abbrev StepsAlike : Done → Type 0
  StepsAlike d = (e : Done) × (step frame o τ ≡ Some e) × (numbers_of e ≡ numbers_of d) × Alike (writes_of o) σ τ d.state e.state

  with_flags_alike : (fs : List FlagVal) (σ' τ' : State) → length fs ≡ 5 → Alike (written_in (outputs o.action)) σ τ σ' τ' → Alike (writes_of o) σ τ (with_flags o fs σ') (with_flags o fs τ')
  with_flags_alike fs σ' τ' five h = record {
    beside = record { left = h.beside.left; flags = ap (λ z. marked (changes o.action) fs z) h.beside.flags; cells = h.beside.cells; memory = h.beside.memory };
    written = λ v k. in_parts (written_in (outputs o.action)) (flags_written (flags_of o.flags) (changes o.action)) v k
        (λ g. flags_kept (flags_of o.flags) (changes o.action) fs σ'.vars τ'.vars v (h.written v g))
        (λ g. flags_there (flags_of o.flags) (changes o.action) fs σ'.vars τ'.vars v five g);
    kept = λ v k. flags_kept (flags_of o.flags) (changes o.action) fs σ'.vars τ'.vars v (h.kept v k);
  }

  same_step : (d : Done) → step frame o σ ≡ Some d → StepsAlike d
  same_step d e =
      let a = some_then (asked o.action σ) _ d e in
      let i = some_then (inputs_in frame (inputs o.action) σ) _ d a.2 in
      let c = some_then (computed o.action a.0 i.0) _ d i.2 in
      let s = some_then (access_numbers (accesses o.action) σ) _ d c.2 in
      let p = some_then (put_all frame (outputs o.action) c.0.words σ) _ d s.2 in
      let r = reads_only frame σ τ beside.left beside.flags beside.cells beside.memory o reads in
      let vars = all_same σ τ (reads_of o) reads in
      let found = same_left σ τ (found_in (outputs o.action)) (asked_by o.action) (same_right σ τ (reads_in (inputs o.action)) (found_in (outputs o.action) ++ asked_by o.action) vars) in
      let q = all_alike frame (outputs o.action) c.0.words σ τ p.0 beside found p.1 in
      subst StepsAlike (same_some _ d p.2) (
        record { shown = s.0; division = c.0.division; state = with_flags o c.0.flags q.0 },
        into (asked o.action τ) _ a.0 _ (r.condition ∙ a.1)
            (into (inputs_in frame (inputs o.action) τ) _ i.0 _ (r.words ∙ i.1)
            (into (computed o.action a.0 i.0) _ c.0 _ c.1
            (into (access_numbers (accesses o.action) τ) _ s.0 _ (r.numbers ∙ s.1)
            (into (put_all frame (outputs o.action) c.0.words τ) _ q.0 _ q.1 refl)))),
        refl,
        with_flags_alike c.0.flags p.0 q.0 (computed_five o.action a.0 i.0 c.0 c.1) q.2,
      )

  went_same : (ms ns : List ℕ) (s t : State) → ◌≡◌ {A = Attempt (Unit {0}) State} (went ms s) (went ns t) → (ms ≡ ns) × (s ≡ t)
  went_same ms ns s t e = (cc, cc)

  by_steps : (x : Option Done) (ns : List ℕ) (behind : State) → by_step x ≡ went ns behind → (d : Done) × (x ≡ Some d) × (numbers_of d ≡ ns) × (d.state ≡ behind)
  by_steps None ns behind e = absurd cc
  by_steps (Some d) ns behind e = let k = went_same (numbers_of d) ns d.state behind e in (d, refl, k.0, k.1)

  pub does_the_same : (behind : State) (ns : List ℕ) → does frame o σ ≡ went ns behind → DoesTheSame frame o σ τ ns behind
  does_the_same behind ns e =
      let d = by_steps (step frame o σ) ns behind e in
      let g = same_step d.0 d.1 in
      subst (λ z. DoesTheSame frame o σ τ ns z) d.3
      (record {
        other = g.0.state;
        step = ap by_step g.1 ∙ ap (λ z. went z g.0.state) (g.2 ∙ d.2);
        beside = g.3.beside;
        written = g.3.written;
        kept = g.3.kept;
      })
