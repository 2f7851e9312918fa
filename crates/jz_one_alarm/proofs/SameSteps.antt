-- What holds at entry and behind an operation, by the set of the constants.
use Rattle.std.proofs.Common.{◌≡◌, ℕ, List, [], ◌∷◌, Option, Some, None, refl, ap, ap₂, ◌∙◌, if◌then◌else◌}
use Rattle.std.specs.Prelude.{nat_le, not, ◌&&◌, ◌||◌}
use Rattle.std.specs.Option.{option_or}
use Rattle.std.proofs.Math.Path.{fun_ext}
use Rattle.x64_insn.specs.Size.{Size}
use Rattle.jz_tree.specs.declared.expr.Expr.{Expr}
use Rattle.jz_tree.specs.declared.stmt.Lval.{Lval}
use Rattle.jz_tree.specs.declared.stmt.Lval.TheVariants as lval
use Rattle.jz_tree.specs.declared.intrinsic.Instance.{Instance}
use Rattle.jz_tree.specs.Spellings.{spelled}
use Rattle.jz_meaning.specs.declared.access.Kind.{Kind}
use Rattle.jz_meaning.specs.declared.access.Kind.TheVariants as kind
use Rattle.jz_meaning.specs.States.{same_key}
use Rattle.jz_meaning.specs.Values.{key_of, ref_of, own_size}
use Rattle.jz_meaning.specs.Assignments.{left_sizes, last_left, whole_of}
use Rattle.jz_meaning.specs.Statements.{Operation, assign, instruction, unset, meaningless}
use Rattle.jz_terms.specs.Terms.{Term, term_of}
use Rattle.jz_facts.specs.Facts.{Fact, Set, Cell, AtLeast, AtMost, Under, Is, Multiple, Facts, subject, Start, Region, is_among, multiples, in_range, of_parameter, of_parameters, at_entry}
use Rattle.jz_facts.specs.Intervals.{size_or_64}
use Rattle.jz_facts.specs.Holding.{is_read, of_word, Gets, none, some_value, the_word, gained, written, all_written, results, if_so, assigned, counted, instruction_gets, instructed, does}
use Rattle.jz_one_alarm.proofs.SameNumbers.{AreAlike}
use Rattle.jz_one_alarm.proofs.SameIntervals.{given, interval_same, multiple_same}

module _ (cs ds : List ℕ) (P : List Start) (R : List Region) (E : AreAlike cs ds) where
  -- ---- entry

  parameter_same : (p : Start) (f : Fact) → of_parameter cs p f ≡ of_parameter ds p f
  parameter_same p (Set v) = refl
  parameter_same p (Cell a k) = refl
  parameter_same p (AtLeast v c) = ap (λ b. same_key v p.key && (b && in_range p.range (λ i. nat_le c i.lo))) (E.among_so c)
  parameter_same p (AtMost v c) = ap (λ b. same_key v p.key && (b && in_range p.range (λ i. nat_le i.hi c))) (E.among_so c)
  parameter_same p (Under v x) = refl
  parameter_same p (Is v x) = refl
  parameter_same p (Multiple v m) = refl

  parameters_same : (ps : List Start) (f : Fact) → of_parameters cs ps f ≡ of_parameters ds ps f
  parameters_same [] f = refl
  parameters_same (p ∷ ps) f = ap₂ (λ a b. a || b) (parameter_same p f) (parameters_same ps f)

  pub entry_same : at_entry (given cs P R) ≡ at_entry (given ds P R)
  entry_same = fun_ext (parameters_same P)

  -- ---- operations

  word_same : (s : Facts) (z : Size) (t : Term) (f : Fact) → of_word (given cs P R) s z t f ≡ of_word (given ds P R) s z t f
  word_same s z t (Set v) = refl
  word_same s z t (Cell a k) = refl
  word_same s z t (AtLeast v c) = ap₂ (λ a i. not (is_read t) && (a && nat_le c i.lo)) (E.among_so c) (interval_same cs ds P R E s z t)
  word_same s z t (AtMost v c) = ap₂ (λ a i. not (is_read t) && (a && nat_le i.hi c)) (E.among_so c) (interval_same cs ds P R E s z t)
  word_same s z t (Under v x) = refl
  word_same s z t (Is v x) = refl
  word_same s z t (Multiple v m) = ap (λ b. is_among m multiples && b) (multiple_same cs ds P R E s t m)

  gained_same : (s : Facts) (k : Kind) (v : Gets) (f : Fact) → gained (given cs P R) s k v f ≡ gained (given ds P R) s k v f
  gained_same s k none f = refl
  gained_same s kind.Bool some_value f = refl
  gained_same s kind.Int some_value f = refl
  gained_same s kind.Undeclared some_value f = refl
  gained_same s (kind.Word y) some_value f = refl
  gained_same s (kind.Array y n) some_value f = refl
  gained_same s (kind.Word y) (the_word z t) f = word_same s z t f
  gained_same s kind.Bool (the_word z t) f = refl
  gained_same s kind.Int (the_word z t) f = refl
  gained_same s kind.Undeclared (the_word z t) f = refl
  gained_same s (kind.Array y n) (the_word z t) f = refl

  written_same : (s0 : Facts) (d : Lval) (v : Gets) (s : Facts) → written (given cs P R) s0 d v s ≡ written (given ds P R) s0 d v s
  written_same s0 (lval.Skip at) v s = refl
  written_same s0 (lval.Var x) v s = fun_ext (λ f. ap (λ b. if same_key (subject f) (key_of (ref_of x)) then b else s f) (gained_same s0 (ref_of x).kind v f))
  written_same s0 (lval.Cell x i) v s = refl
  written_same s0 (lval.Store a) v s = refl

  all_same : (s0 : Facts) (ls : List Lval) (vs : List Gets) (s : Facts) → all_written (given cs P R) s0 ls vs s ≡ all_written (given ds P R) s0 ls vs s
  all_same s0 [] vs s = refl
  all_same s0 (d ∷ ls) [] s = refl
  all_same s0 (d ∷ ls) (v ∷ vs) s = all_same s0 ls vs (written (given cs P R) s0 d v s) ∙ ap (all_written (given ds P R) s0 ls vs) (written_same s0 d v s)

  assigned_same : (to : List Lval) (m cond : Option Expr) (s : Facts) → assigned (given cs P R) to m cond s ≡ assigned (given ds P R) to m cond s
  assigned_same to None cond s = refl
  assigned_same to (Some e) cond s = ap (if_so cond s) (all_same s to (results (size_or_64 (option_or (left_sizes to) (own_size e))) (term_of e) to) s)

  instructed_same : (i : Option Instance) (to : List Lval) (args : List Expr) (s : Facts) → instructed (given cs P R) i to args s ≡ instructed (given ds P R) i to args s
  instructed_same None to args s = refl
  instructed_same (Some i) to args s = all_same s to (instruction_gets i.name (counted args)) s

  pub does_same : (o : Operation) (s : Facts) → does (given cs P R) o s ≡ does (given ds P R) o s
  does_same (assign to o e c at) s = assigned_same to (whole_of (last_left to) o e) c s
  does_same (instruction to n args at) s = instructed_same (spelled n) to args s
  does_same (unset xs) s = refl
  does_same (meaningless at) s = refl
