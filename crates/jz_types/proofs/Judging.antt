-- What the rules find first, told.
use Rattle.std.proofs.Common.{◌≡◌, ℕ, List, ◌++◌, Option, Some, sym, subst}
use Rattle.std.specs.Prelude.{Contains, MatchOption}
use Rattle.jz_tree.specs.Span.{Span}
use Rattle.jz_tree.specs.declared.program.Program.{Program}
use Rattle.jz_type_names.specs.Order.{earlier, earliest, IsEarliest, here}
use Rattle.jz_type_names.specs.Names.{unknown_in, repeated_in}
use Rattle.jz_type_names.proofs.Earliest.{both_earliest}
use Rattle.jz_type_names.proofs.Firsts.{earliest_is}
use Rattle.jz_resolve.specs.Numbering.{length_of}
use Rattle.jz_resolve.specs.Programs.{resolved_program}
use Rattle.jz_type_sizes.specs.Mismatches.{mismatched_as_read, mismatched_declared}
use Rattle.jz_type_storage.specs.declared.recursion.Ranking.{Ranking}
use Rattle.jz_type_storage.specs.declared.recursion.Ranking.TheVariants.{Ranked, Recursive}
use Rattle.jz_type_storage.specs.Recursion.{IsRanked, IsRecursive, Tells, recursive_of}
use Rattle.jz_type_rows.specs.Exports.{misshapen_places, annotated_places}
use Rattle.jz_type_rows.specs.Copies.{copied_by}
use Rattle.jz_type_rows.specs.Indexes.{indexed_by}
use Rattle.jz_type_rows.specs.Programs.{in_functions, in_statements}
use Rattle.jz_types.specs.Rows.{unmatched_in}
use Rattle.jz_types.specs.declared.fault.TypeRule.TheVariants.{Recursion}
use Rattle.jz_types.specs.declared.fault.TypeFault.{TypeFault}
use Rattle.jz_types.specs.declared.functions.OfText.{OfText}
use Rattle.jz_types.specs.declared.functions.OfDeclared.{OfDeclared}
use Rattle.jz_types.specs.InnerFaults.{first_told}
use Rattle.jz_types.specs.Rules.{Breaks, IsTyped, IsFirstTypeFault}
use Rattle.jz_types.specs.InnerAsking.{AreOfText, AreOfDeclared, firsts_of}
use Rattle.jz_types.proofs.Telling.{AreFirst, told_first}
use Rattle.jz_types.proofs.Storing.{first_misplaced}

found : (xs : List Span) (o : Option Span) → o ≡ earliest xs → IsEarliest (λ at. Contains xs at) o
found xs o e = subst (IsEarliest (λ at. Contains xs at)) (sym e) (earliest_is xs)

found_both : (xs ys : List Span) (a b : Option Span) → a ≡ earliest xs → b ≡ earliest ys → IsEarliest (λ at. Contains (xs ++ ys) at) (earlier a b)
found_both xs ys a b e f = found (xs ++ ys) (earlier a b) (both_earliest xs ys a b e f)

first_recursive : (q : Program) (r : Ranking) → Tells q r → IsEarliest (IsRecursive q) (recursive_of r)
first_recursive q (Ranked ranks) h = h.1
first_recursive q (Recursive at) h = h

all_asked : (p : Program) (t : OfText) (d : OfDeclared) (r : Ranking) → AreOfText p t → AreOfDeclared (resolved_program p) d → Tells (resolved_program p) r
    → AreFirst (Breaks p) (firsts_of t d r)
all_asked p t d r h k tells = record {
  unknown = found (unknown_in p) t.unknown h.unknown;
  repeated = found (repeated_in p) t.repeated h.repeated;
  mismatched = found_both (mismatched_as_read (length_of p.consts) p) (mismatched_declared (resolved_program p)) t.mismatched d.mismatched h.mismatched k.mismatched;
  misplaced = first_misplaced p (resolved_program p) d.kept d.set d.read k.kept k.set k.read;
  recursive = first_recursive (resolved_program p) r tells;
  unmatched = found (unmatched_in (resolved_program p)) d.unmatched k.unmatched;
  copied = found (in_statements (copied_by (resolved_program p).funs) (resolved_program p)) d.copied k.copied;
  annotated = found (in_functions annotated_places p) t.annotated h.annotated;
  misshapen = found (in_functions misshapen_places p) t.misshapen h.misshapen;
  indexed = found (in_statements indexed_by (resolved_program p)) d.indexed k.indexed;
}

-- no rule of p fails, or this fault is told; q has the declarations
pub judged : (p q : Program) (t : OfText) (d : OfDeclared) (r : Ranking) (told : Option TypeFault) → q ≡ resolved_program p → AreOfText p t → AreOfDeclared q d → Tells q r
    → told ≡ first_told (firsts_of t d r) → MatchOption told (IsTyped p) (IsFirstTypeFault p)
judged p q t d r told e h k tells f =
    subst (λ o. MatchOption o (IsTyped p) (IsFirstTypeFault p)) (sym f)
    (told_first (Breaks p) (firsts_of t d r) (all_asked p t d r h (subst (λ z. AreOfDeclared z d) e k) (subst (λ z. Tells z r) e tells)))

-- ---- the ranks of a program in which no rule fails
recursive_at : (q : Program) (at : Span) → IsEarliest (IsRecursive q) (Some at) → IsRecursive q at
recursive_at q at (here w first) = w

pub not_recursive : (p q : Program) (r : Ranking) (at : Span) → q ≡ resolved_program p → IsTyped p → Tells q r → r ≡ Recursive at → ⊥
not_recursive p q r at e typed told is =
    let h : Tells q (Recursive at) = subst (Tells q) is told
    in typed Recursion at (subst (λ z. IsRecursive z at) e (recursive_at q at h))

pub ranked : (q : Program) (r : Ranking) (ranks : List ℕ) → Tells q r → r ≡ Ranked ranks → IsRanked q ranks
ranked q r ranks told e = let h : Tells q (Ranked ranks) = subst (Tells q) e told in h.0
