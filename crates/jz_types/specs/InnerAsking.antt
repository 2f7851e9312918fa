-- Where the rules fail first: those that are asked of the program as it was read, and those of the
-- one with declarations.
use Rattle.std.specs.Prelude.{◌≡◌}
use Rattle.jz_tree.specs.declared.program.Program.{Program}
use Rattle.jz_type_names.specs.Order.{earliest, earlier, IsEarliest}
use Rattle.jz_type_names.specs.Names.{unknown_in, repeated_in}
use Rattle.jz_resolve.specs.Numbering.{length_of}
use Rattle.jz_type_sizes.specs.Mismatches.{mismatched_as_read, mismatched_declared}
use Rattle.jz_type_storage.specs.Declarations.{wrongly_kept}
use Rattle.jz_type_storage.specs.Settings.{wrongly_set}
use Rattle.jz_type_storage.specs.Paths.{IsReadUnsetIn}
use Rattle.jz_type_storage.specs.declared.recursion.Ranking.{Ranking}
use Rattle.jz_type_storage.specs.Recursion.{recursive_of}
use Rattle.jz_type_rows.specs.Exports.{misshapen_places, annotated_places}
use Rattle.jz_type_rows.specs.Copies.{copied_by}
use Rattle.jz_type_rows.specs.Indexes.{indexed_by}
use Rattle.jz_type_rows.specs.Programs.{in_functions, in_statements}
use Rattle.jz_types.specs.Rows.{unmatched_in}
use Rattle.jz_types.specs.declared.fault.Firsts.{Firsts}
use Rattle.jz_types.specs.declared.functions.OfText.{OfText}
use Rattle.jz_types.specs.declared.functions.OfDeclared.{OfDeclared}

pub record AreOfText (p : Program) (t : OfText) : Type 0 where
  pub unknown : t.unknown ≡ earliest (unknown_in p)
  pub repeated : t.repeated ≡ earliest (repeated_in p)
  pub mismatched : t.mismatched ≡ earliest (mismatched_as_read (length_of p.consts) p)
  pub annotated : t.annotated ≡ earliest (in_functions annotated_places p)
  pub misshapen : t.misshapen ≡ earliest (in_functions misshapen_places p)

pub record AreOfDeclared (q : Program) (d : OfDeclared) : Type 0 where
  pub mismatched : d.mismatched ≡ earliest (mismatched_declared q)
  pub kept : d.kept ≡ earliest (wrongly_kept q)
  pub set : d.set ≡ earliest (wrongly_set q)
  pub read : IsEarliest (IsReadUnsetIn q) d.read
  pub unmatched : d.unmatched ≡ earliest (unmatched_in q)
  pub copied : d.copied ≡ earliest (in_statements (copied_by q.funs) q)
  pub indexed : d.indexed ≡ earliest (in_statements indexed_by q)

abbrev pub firsts_of : OfText → OfDeclared → Ranking → Firsts
firsts_of t d r = record {
  unknown = t.unknown;
  repeated = t.repeated;
  mismatched = earlier t.mismatched d.mismatched;
  misplaced = earlier (earlier d.kept d.set) d.read;
  recursive = recursive_of r;
  unmatched = d.unmatched;
  copied = d.copied;
  annotated = t.annotated;
  misshapen = t.misshapen;
  indexed = d.indexed;
}
