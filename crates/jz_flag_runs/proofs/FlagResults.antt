-- Flags that become variables: the source writes them before the value, an operation puts its word and then sets them.
use Rattle.std.proofs.Common.{◌≡◌, ℕ, ◌<◌, Bool, true, false, List, [], ◌∷◌, ◌++◌, Option, Some, None, refl, sym, ap, ◌∙◌, subst, ℤ}
use Rattle.std.specs.Prelude.{nat_eq, if◌then◌else◌}
use Rattle.std.specs.Option.{option_to_list}
use Rattle.std.proofs.lemmas.Bool.{eqb-true}
use Rattle.jz_io.specs.declared.span.Span.{Span}
use Rattle.jz_words.specs.declared.size.Size.{Size}
use Rattle.jz_words.specs.declared.size.Size.TheVariants.{S64}
use Rattle.jz_words.specs.Sizes.{bytes_of, modulus}
use Rattle.jz_words.specs.Memory.{all_valid, stored}
use Rattle.x64_insn.specs.declared.types.FlagVal.{FlagVal}
use Rattle.x64_insn.specs.declared.types.FlagVal.TheVariants.{True, False, Undefined}
use Rattle.jz_tree.specs.declared.expr.Expr.{Expr}
use Rattle.jz_tree.specs.declared.expr.Var.{Var}
use Rattle.jz_tree.specs.declared.stmt.Lval.{Lval}
use Rattle.jz_runs.specs.Rules.{went}
use Rattle.jz_meaning.specs.declared.access.Kind.TheVariants as kind
use Rattle.jz_meaning.specs.Attempts.{and_then}
use Rattle.jz_meaning.specs.States.{Value, Key, same_key, State, put as put_key}
use Rattle.jz_meaning.specs.Operators.{word_of}
use Rattle.jz_meaning.specs.Values.{key_of, ref_of}
use Rattle.jz_meaning.specs.Intrinsics.{flag_result}
use Rattle.jz_meaning.specs.Assignments.{held_or_unset, with_value, written, all_written}
use Rattle.jz_operations.specs.declared.operation.Pinned.{Pinned}
use Rattle.jz_operations.specs.declared.operation.Address.{Address}
use Rattle.jz_operations.specs.declared.operation.Cell.{Cell}
use Rattle.jz_operations.specs.declared.operation.Arg.{Arg}
use Rattle.jz_operations.specs.declared.operation.Arg.TheVariants as arg
use Rattle.jz_operations.specs.declared.operation.Operation.{Operation}
use Rattle.jz_operations.specs.Values as over
use Rattle.jz_operations.specs.Values.{set_var}
use Rattle.jz_operations.specs.Rows.{Frame, has_cell, address_in, cell_in, put, flag_value, set_flag, set_flags, flags_of, changes, with_flags}
use Rattle.jz_operations.specs.Reading.{found_by}
use Rattle.jz_operations.proofs.Somes.{some_then, same_some}
use Rattle.jz_operations.proofs.OwnVariables.{SameIn, address_same, cell_same}
use Rattle.jz_homes.specs.Homes.{Homes, IsHoming, in_register, in_flag, IsRelated}
use Rattle.jz_homes.specs.Sums.{Sum, IsSum, a_number, a_variable, a_multiple, multiple_of, added, less, IsAddress, of_base, of_both, of_swapped, IsIndex, constant, variable}
use Rattle.jz_homes.specs.Operands.{Leaks, IsDest, to_word, to_scalar, to_cell, to_memory}
use Rattle.jz_homes.proofs.Shown.{shown_same}
use Rattle.jz_flag_rows.specs.Results.{IsFlag}
use Rattle.jz_flag_rows.specs.Results as results
use Rattle.jz_flag_runs.proofs.FlagLefts.{AreFlags, no_more, taken, unlisted, unset}
use Rattle.jz_homes.proofs.Parts.{both_went, went_same}
use Rattle.jz_homes.proofs.Writing.{dest_written, related_same, related_flag, set_same, set_other, kept_by_var}
use Rattle.jz_row_operations.proofs.Brought.{Finishes}

-- ---- variables that hold words
abbrev pub IsWordVar : Homes → ℕ → Type 0
IsWordVar home v = (k : Key) × (z : Size) × (home k ≡ Some (in_register v z))

abbrev pub AllWords : Homes → List ℕ → Type 0
AllWords home [] = Unit {0}
AllWords home (v ∷ vs) = IsWordVar home v × AllWords home vs

abbrev pub TermWords : Homes → List (ℕ × ℕ) → Type 0
TermWords home [] = Unit {0}
TermWords home (t ∷ ts) = IsWordVar home t.0 × TermWords home ts

terms_joined : (home : Homes) (ts us : List (ℕ × ℕ)) → TermWords home ts → TermWords home us → TermWords home (ts ++ us)
terms_joined home [] us h k = k
terms_joined home (t ∷ ts) us h k = (h.0, terms_joined home ts us h.1 k)

sum_words : {home : Homes} {e : Expr} {t : Sum} → IsSum home e t → TermWords home t.terms
sum_words (a_number i at) = tt
sum_words (a_variable x n h) = ((key_of (ref_of x), S64, h), tt)
sum_words (a_multiple x n k at here h) = ((key_of (ref_of x), S64, h), tt)
sum_words (multiple_of x n k at here h) = ((key_of (ref_of x), S64, h), tt)
sum_words {home} (added {a} {b} {t} {u} here p q) = terms_joined home t.terms u.terms (sum_words p) (sum_words q)
sum_words (less i at here p) = sum_words p

address_words : (home : Homes) {t : Sum} {m : Address} → IsAddress t m → TermWords home t.terms → AllWords home (found_by (arg.Mem m))
address_words home (of_base b i) h = h
address_words home (of_both b j k i) h = h
address_words home (of_swapped b j k i ne) h = (h.1.0, (h.0, tt))

index_words : (home : Homes) {t : Sum} {b : Option ℕ} {i : ℤ} (w : ℕ) → IsIndex t b i → TermWords home t.terms → AllWords home (option_to_list b)
index_words home w (constant i) h = tt
index_words home w (variable b i) h = h

dest_words : {home : Homes} {z : Size} {d : Lval} {b : Arg} {r : Leaks} → IsDest home z d b r → AllWords home (found_by b)
dest_words (to_word x n k h) = tt
dest_words (to_scalar x w k h) = tt
dest_words {home} (to_cell x e n w t b i cells is at) = index_words home w at (sum_words is)
dest_words {home} (to_memory a t m size is at) = address_words home at (sum_words is)

-- the variable that is the destination, too
abbrev pub OwnWord : Homes → Arg → Type 0
OwnWord home (arg.Var m) = IsWordVar home m
OwnWord home (arg.At r p) = ⊥
OwnWord home _ = Unit {0}

own_word : {home : Homes} {z : Size} {d : Lval} {b : Arg} {r : Leaks} → IsDest home z d b r → OwnWord home b
own_word {home} {z} (to_word x n k h) = (key_of (ref_of x), z, h)
own_word (to_scalar x w k h) = tt
own_word (to_cell x e n w t b i cells is at) = tt
own_word (to_memory a t m size is at) = tt

-- ---- what a put does to the variables
abbrev pub vars_after : Arg → Size → ℕ → (ℕ → Option over.Value) → ℕ → Option over.Value
vars_after (arg.Var m) z n vars = set_var m (Some (over.word z n)) vars
vars_after _ z n vars = vars

-- the same put where only other variables differ
pub record PutAs (frame : Frame) (b : Arg) (z : Size) (n : ℕ) (σ τ' : over.State) (vars : ℕ → Option over.Value) : Type 0 where
  pub after : over.State
  pub put' : put frame b z n σ ≡ Some after
  pub cells : after.cells ≡ τ'.cells
  pub memory : after.memory ≡ τ'.memory
  pub mine : after.vars ≡ vars_after b z n σ.vars
  pub theirs : τ'.vars ≡ vars_after b z n vars

memory_by : (frame : Frame) (c : Bool) (m : Address) (x : ℕ) (z : Size) (n : ℕ) (σ τ' : over.State) (vars : ℕ → Option over.Value) → all_valid σ.memory x (bytes_of z) ≡ c → address_in m σ ≡ Some x
    → (if c then Some (record σ { vars = vars; memory = stored σ.memory x (bytes_of z) n }) else None) ≡ Some τ' → PutAs frame (arg.Mem m) z n σ τ' vars
memory_by frame true m x z n σ τ' vars v e h =
    let k = same_some _ τ' h in
    record { after = record σ { memory = stored σ.memory x (bytes_of z) n }; put' = rw e (rw v refl); cells = ap (λ u. u.cells) k; memory = ap (λ u. u.memory) k; mine = refl; theirs = sym (ap (λ u. u.vars) k) }
memory_by frame false m x z n σ τ' vars v e h = absurd cc

cell_by : (frame : Frame) (b : Bool) (c : Cell) (i : ℕ) (z : Size) (n : ℕ) (σ τ' : over.State) (vars : ℕ → Option over.Value) → has_cell (frame c.of) z i ≡ b → cell_in c σ ≡ Some i
    → (if b then Some (record σ { vars = vars; cells = over.set_cell c.of i n σ.cells }) else None) ≡ Some τ' → PutAs frame (arg.Cell c) z n σ τ' vars
cell_by frame true c i z n σ τ' vars v e h =
    let k = same_some _ τ' h in
    record { after = record σ { cells = over.set_cell c.of i n σ.cells }; put' = rw e (rw v refl); cells = ap (λ u. u.cells) k; memory = ap (λ u. u.memory) k; mine = refl; theirs = sym (ap (λ u. u.vars) k) }
cell_by frame false c i z n σ τ' vars v e h = absurd cc

put_as : (frame : Frame) (home : Homes) (b : Arg) (z : Size) (n : ℕ) (σ τ' : over.State) (vars : ℕ → Option over.Value) → OwnWord home b → SameIn σ (record σ { vars = vars }) (found_by b) → put frame b z n (record σ { vars = vars }) ≡ Some τ'
    → PutAs frame b z n σ τ' vars
put_as frame home (arg.Var m) z n σ τ' vars own same h =
    let k = same_some _ τ' h in
    record { after = record σ { vars = set_var m (Some (over.word z n)) σ.vars; left = λ r. None }; put' = refl; cells = ap (λ u. u.cells) k; memory = ap (λ u. u.memory) k; mine = refl; theirs = sym (ap (λ u. u.vars) k) }
put_as frame home (arg.Imm i) z n σ τ' vars own same h = absurd cc
put_as frame home (arg.Mem m) z n σ τ' vars own same h =
    let g = some_then (address_in m (record σ { vars = vars })) _ τ' h in
    memory_by frame (all_valid σ.memory g.0 (bytes_of z)) m g.0 z n σ τ' vars refl (sym (address_same σ (record σ { vars = vars }) m same) ∙ g.1) g.2
put_as frame home (arg.Cell c) z n σ τ' vars own same h =
    let g = some_then (cell_in c (record σ { vars = vars })) _ τ' h in
    cell_by frame (has_cell (frame c.of) z g.0) c g.0 z n σ τ' vars refl (sym (cell_same σ (record σ { vars = vars }) c same) ∙ g.1) g.2
put_as frame home (arg.At r p) z n σ τ' vars own same h = absurd own

-- ---- one written after another
pub crossed : (p m q : ℕ) (x y : Option over.Value) (vars : ℕ → Option over.Value) (b c : Bool) → nat_eq p q ≡ b → nat_eq m q ≡ c → (p ≡ m → ⊥) → set_var p x (set_var m y vars) q ≡ set_var m y (set_var p x vars) q
crossed p m q x y vars true true e f ne = absurd (ne (eqb-true p q e ∙ sym (eqb-true m q f)))
crossed p m q x y vars true false e f ne = rw (e, f) refl
crossed p m q x y vars false true e f ne = rw (e, f) refl
crossed p m q x y vars false false e f ne = rw (e, f) refl

module _ (frame : Frame) (home : Homes) (homing : IsHoming frame home) where
  flag_no_word : (b : Bool) (j k : Key) (p m : ℕ) (z : Size) → same_key j k ≡ b → home j ≡ Some (in_flag p) → home k ≡ Some (in_register m z) → p ≡ m → ⊥
  flag_no_word true j k p m z e f g = let h : Some (in_flag p) ≡ Some (in_register m z) = sym f ∙ homing.same j k e ∙ g in absurd cc
  flag_no_word false j k p m z e f g = homing.apart j k (in_flag p) (in_register m z) e f g

  flag_apart : {l : Lval} (p : Pinned) (m : ℕ) → IsFlag home l (Some p) → IsWordVar home m → p.variable ≡ m → ⊥
  flag_apart p m (results.a_variable x q k h span) w = flag_no_word (same_key (key_of (ref_of x)) w.0) (key_of (ref_of x)) w.0 p.variable m w.1 refl h w.2

  one_other : {l : Lval} (p : Option Pinned) (c : Bool) (f : FlagVal) (m : ℕ) (vars : ℕ → Option over.Value) → IsFlag home l p → IsWordVar home m → set_flag p c f vars m ≡ vars m
  one_other None c f m vars h w = refl
  one_other (Some p) true f m vars h w = set_other p.variable m (flag_value f) vars (flag_apart p m h w)
  one_other (Some p) false f m vars h w = refl

  flags_other : {ls : List Lval} {ps : List (Option Pinned)} {cs : List Bool} {fs : List FlagVal} {vs : List (Option Value)} (m : ℕ) (vars : ℕ → Option over.Value) → AreFlags home ls ps cs fs vs → IsWordVar home m → set_flags ps cs fs vars m ≡ vars m
  flags_other m vars no_more w = refl
  flags_other m vars (taken l p f h k) w = flags_other m (set_flag p true f vars) k w ∙ one_other p true f m vars h w
  flags_other m vars (unlisted c f k) w = flags_other m vars k w
  flags_other m vars (unset l p f h k) w = flags_other m (set_flag p true f vars) k w ∙ one_other p true f m vars h w

  flags_same : {ls : List Lval} {ps : List (Option Pinned)} {cs : List Bool} {fs : List FlagVal} {vs : List (Option Value)} (σ : over.State) (ms : List ℕ) → AreFlags home ls ps cs fs vs → AllWords home ms → SameIn σ (record σ { vars = set_flags ps cs fs σ.vars }) ms
  flags_same σ [] k w = tt
  flags_same σ (m ∷ ms) k w = (flags_other m σ.vars k w.0, flags_same σ ms k w.1)

  one_crossed : {l : Lval} (p : Option Pinned) (f : FlagVal) (m : ℕ) (y : Option over.Value) (vars : ℕ → Option over.Value) → IsFlag home l p → IsWordVar home m → set_flag p true f (set_var m y vars) ≡ set_var m y (set_flag p true f vars)
  one_crossed None f m y vars h w = refl
  one_crossed (Some p) f m y vars h w = λ i q. crossed p.variable m q (flag_value f) y vars (nat_eq p.variable q) (nat_eq m q) refl refl (flag_apart p m h w) i

  pub flags_crossed : {ls : List Lval} {ps : List (Option Pinned)} {cs : List Bool} {fs : List FlagVal} {vs : List (Option Value)} (m : ℕ) (y : Option over.Value) (vars : ℕ → Option over.Value) → AreFlags home ls ps cs fs vs → IsWordVar home m
      → set_flags ps cs fs (set_var m y vars) ≡ set_var m y (set_flags ps cs fs vars)
  flags_crossed m y vars no_more w = refl
  flags_crossed m y vars (taken {ls} {ps} {cs} {fs} {vs} l p f h k) w = ap (set_flags ps cs fs) (one_crossed p f m y vars h w) ∙ flags_crossed m y (set_flag p true f vars) k w
  flags_crossed m y vars (unlisted c f k) w = flags_crossed m y vars k w
  flags_crossed m y vars (unset {ls} {ps} {cs} {fs} {vs} l p f h k) w = ap (set_flags ps cs fs) (one_crossed p f m y vars h w) ∙ flags_crossed m y (set_flag p true f vars) k w

  after_crossed : {ls : List Lval} {ps : List (Option Pinned)} {cs : List Bool} {fs : List FlagVal} {vs : List (Option Value)} (b : Arg) (z : Size) (n : ℕ) (vars : ℕ → Option over.Value) → AreFlags home ls ps cs fs vs → OwnWord home b
      → set_flags ps cs fs (vars_after b z n vars) ≡ vars_after b z n (set_flags ps cs fs vars)
  after_crossed (arg.Var m) z n vars k w = flags_crossed m (Some (over.word z n)) vars k w
  after_crossed (arg.Imm i) z n vars k w = refl
  after_crossed (arg.Mem a) z n vars k w = refl
  after_crossed (arg.Cell c) z n vars k w = refl
  after_crossed (arg.At r p) z n vars k w = absurd w

  -- ---- the source writes flags
  unset_by : (b : Bool) (key k : Key) (s : State) (v : Value) → same_key key k ≡ b → put_key s.store key None k ≡ Some v → (b ≡ false) × (s.store k ≡ Some v)
  unset_by true key k s v e h = let f : None ≡ Some v = rw e at h in absurd cc
  unset_by false key k s v e h = (refl, rw e at h)

  related_unset : (key : Key) (p : ℕ) (w : Option over.Value) (s : State) (σ : over.State) → IsRelated home s σ → home key ≡ Some (in_flag p) → IsRelated home (with_value s key None) (record σ { vars = set_var p w σ.vars })
  related_unset key p w s σ related at = record {
    holds = λ k x v h e.
        let g = unset_by (same_key key k) key k s v refl e in
        kept_by_var p None (in_flag p) σ (record σ { vars = set_var p w σ.vars }) (λ m ne. set_other p m w σ.vars ne) refl (λ m z ne. ne) (λ m ne. ne) x v (homing.apart key k (in_flag p) x g.0 at h) (related.holds k x v h g.1);
    memory = related.memory;
    bytes = related.bytes;
  }

  flag_by : (f : FlagVal) (x : Var) (p : Pinned) (s t : State) (σ : over.State) (ns : List ℕ) → IsRelated home s σ → home (key_of (ref_of x)) ≡ Some (in_flag p.variable)
      → and_then (held_or_unset (ref_of x).span kind.Bool (flag_result f)) (λ h. went [] (with_value s (key_of (ref_of x)) h)) ≡ went ns t → (ns ≡ []) × IsRelated home t (record σ { vars = set_flag (Some p) true f σ.vars })
  flag_by True x p s t σ ns related h run =
      let k = went_same [] ns _ t run in (
        sym k.0,
        subst (λ u. IsRelated home u (record σ { vars = set_flag (Some p) true True σ.vars })) k.1
            (related_flag frame home homing (key_of (ref_of x)) p.variable true s σ _ related h (set_same p.variable (Some (over.boolean true)) σ.vars) (λ m ne. set_other p.variable m (Some (over.boolean true)) σ.vars ne) refl refl),
      )
  flag_by False x p s t σ ns related h run =
      let k = went_same [] ns _ t run in (
        sym k.0,
        subst (λ u. IsRelated home u (record σ { vars = set_flag (Some p) true False σ.vars })) k.1
            (related_flag frame home homing (key_of (ref_of x)) p.variable false s σ _ related h (set_same p.variable (Some (over.boolean false)) σ.vars) (λ m ne. set_other p.variable m (Some (over.boolean false)) σ.vars ne) refl refl),
      )
  flag_by Undefined x p s t σ ns related h run =
      let k = went_same [] ns _ t run in
      (sym k.0, subst (λ u. IsRelated home u (record σ { vars = set_flag (Some p) true Undefined σ.vars })) k.1 (related_unset (key_of (ref_of x)) p.variable None s σ related h))

  one_written : {l : Lval} {p : Option Pinned} (z : Option Size) (f : FlagVal) (s t : State) (σ : over.State) (ns : List ℕ) → IsRelated home s σ → IsFlag home l p → written z l (flag_result f) s ≡ went ns t → (ns ≡ []) × IsRelated home t (record σ { vars = set_flag p true f σ.vars })
  one_written z f s t σ ns related (results.no_variable at) run = let k = went_same [] ns s t run in (sym k.0, subst (λ u. IsRelated home u σ) k.1 related)
  one_written z f s t σ ns related (results.a_variable x p k h span) run =
      flag_by f x p s t σ ns related h (subst (λ y. and_then (held_or_unset (ref_of x).span y (flag_result f)) (λ g. went [] (with_value s (key_of (ref_of x)) g)) ≡ went ns t) k run)

  one_unset : {l : Lval} {p : Option Pinned} (z : Option Size) (f : FlagVal) (s t : State) (σ : over.State) (ns : List ℕ) → IsRelated home s σ → IsFlag home l p → written z l None s ≡ went ns t → (ns ≡ []) × IsRelated home t (record σ { vars = set_flag p true f σ.vars })
  one_unset z f s t σ ns related (results.no_variable at) run = let k = went_same [] ns s t run in (sym k.0, subst (λ u. IsRelated home u σ) k.1 related)
  one_unset z f s t σ ns related (results.a_variable x p kd h span) run =
      let k = went_same [] ns (with_value s (key_of (ref_of x)) None) t run in
      (sym k.0, subst (λ u. IsRelated home u (record σ { vars = set_flag (Some p) true f σ.vars })) k.1 (related_unset (key_of (ref_of x)) p.variable (flag_value f) s σ related h))

  -- the flags first, and then the others
  pub record FlagsWritten (at : Span) (z : Option Size) (ds : List Lval) (ws : List (Option Value)) (σ : over.State) (vars : ℕ → Option over.Value) (ns : List ℕ) (t : State) : Type 0 where
    pub between : State
    pub related : IsRelated home between (record σ { vars = vars })
    pub went_on : all_written at z ds ws between ≡ went ns t

  pub flags_written : {ls : List Lval} {ps : List (Option Pinned)} {cs : List Bool} {fs : List FlagVal} {vs : List (Option Value)} (at : Span) (z : Option Size) (ds : List Lval) (ws : List (Option Value)) (s : State) (σ : over.State) (ns : List ℕ) (t : State) → AreFlags home ls ps cs fs vs → IsRelated home s σ
      → all_written at z (ls ++ ds) (vs ++ ws) s ≡ went ns t → FlagsWritten at z ds ws σ (set_flags ps cs fs σ.vars) ns t
  flags_written at z ds ws s σ ns t no_more related run = record { between = s; related = related; went_on = run }
  flags_written at z ds ws s σ ns t (unlisted c f k) related run = let g = flags_written at z ds ws s σ ns t k related run in record { between = g.between; related = g.related; went_on = g.went_on }
  flags_written at z ds ws s σ ns t (taken {ls} {ps} {cs} {fs} {vs} l p f h k) related run =
      let g = both_went (written z l (flag_result f) s) (λ u. all_written at z (ls ++ ds) (vs ++ ws) u) ns t run in
      let o = one_written z f s g.value σ g.first related h g.came in
      let same : ns ≡ g.second = g.numbers ∙ ap (λ y. y ++ g.second) o.0 in
      let r = flags_written at z ds ws g.value (record σ { vars = set_flag p true f σ.vars }) g.second t k o.1 g.went_on in
      record { between = r.between; related = r.related; went_on = r.went_on ∙ ap (λ y. went y t) (sym same) }
  flags_written at z ds ws s σ ns t (unset {ls} {ps} {cs} {fs} {vs} l p f h k) related run =
      let g = both_went (written z l None s) (λ u. all_written at z (ls ++ ds) (vs ++ ws) u) ns t run in
      let o = one_unset z f s g.value σ g.first related h g.came in
      let same : ns ≡ g.second = g.numbers ∙ ap (λ y. y ++ g.second) o.0 in
      let r = flags_written at z ds ws g.value (record σ { vars = set_flag p true f σ.vars }) g.second t k o.1 g.went_on in
      record { between = r.between; related = r.related; went_on = r.went_on ∙ ap (λ y. went y t) (sym same) }

  -- the word that the operation puts, with its flags behind it
  pub finishes_with : {ls : List Lval} {vs : List (Option Value)} {z : Size} {d : Lval} {b : Arg} {r : Leaks} (o : Operation) (at : Span) (fs : List FlagVal) (u : Value) (n : ℕ) (third : List ℕ) (s : State) (σ : over.State) (t : State) (related : IsRelated home s σ)
      → AreFlags home ls (flags_of o.flags) (changes o.action) fs vs → IsDest home z d b r → word_of z u ≡ Some n → n < modulus z → all_written at (Some z) (ls ++ (d ∷ [])) (vs ++ (Some u ∷ [])) s ≡ went third t
      → Finishes frame home homing s σ related o z b r n fs third t
  finishes_with {ls} {vs} {z} {d} {b} {r} o at fs u n third s σ t related flags id w small run =
      let vars' = set_flags (flags_of o.flags) (changes o.action) fs σ.vars in
      let σ' : over.State = record σ { vars = vars' } in
      let g = flags_written at (Some z) (d ∷ []) (Some u ∷ []) s σ third t flags related run in
      let h = both_went (written (Some z) d (Some u) g.between) (λ y. all_written at (Some z) [] [] y) third t g.went_on in
      let l = went_same [] h.second h.value t h.went_on in
      let writes : written (Some z) d (Some u) g.between ≡ went third t = h.came ∙ ap (went h.first) l.1 ∙ ap (λ y. went y t) (sym (h.numbers ∙ ap (λ y. h.first ++ y) (sym l.0) ∙ Rattle.jz_row_operations.proofs.Moves.append_nil h.first)) in
      let e = dest_written frame home homing g.between σ' g.related id u n third t w small writes in
      let same = flags_same σ (found_by b) flags (dest_words id) in
      let p = put_as frame home b z n σ e.after vars' (own_word id) same e.put' in
      record {
        after = p.after;
        put' = p.put';
        agrees = related_same frame home homing t e.after (with_flags o fs p.after) e.agrees
            (λ q. ap (λ f. set_flags (flags_of o.flags) (changes o.action) fs f q) p.mine ∙ ap (λ f. f q) (after_crossed b z n σ.vars flags (own_word id)) ∙ ap (λ f. f q) (sym p.theirs)) p.cells p.memory;
        shows = sym (shown_same σ σ' b same) ∙ e.numbers;
      }
