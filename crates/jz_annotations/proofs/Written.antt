-- What an entry says is what its string writes.
use Rattle.std.proofs.Common.{◌≡◌, ℕ, List, [], Some, None, refl, sym, ap, ◌∙◌, subst, if◌then◌else◌}
use Rattle.std.specs.Prelude.{codes, ◌↔◌}
use Rattle.std.specs.Str.{bytes_eq}
use Rattle.jz_lex.proofs.LexingWords.{by_cases, if_true, if_false, same_is}
use Rattle.jz_tree.specs.declared.program.Note.{Note}
use Rattle.jz_tree.specs.declared.program.NoteValue.{NoteValue}
use Rattle.jz_tree.specs.declared.program.NoteValue.TheVariants as value
use Rattle.jz_annotations.specs.declared.precondition.Pre.{Pre}
use Rattle.jz_annotations.specs.Shapes.{Writes, sum, product, variable, constant, range, align, Says}
use Rattle.jz_annotations.specs.InnerReaders.{Answer, final, precondition}
use Rattle.jz_annotations.specs.InnerReaders as reader
use Rattle.jz_annotations.specs.Sayings.{said, said_by}
use Rattle.jz_annotations.proofs.Words.{none_some, final_parts}
use Rattle.jz_annotations.proofs.Reading.{range_only, range_back, align_only, align_back}
use Rattle.jz_annotations.proofs.Extents.{region_only, sum_is, product_is, variable_is, constant_is}

-- ---- by the entry's name
abbrev or_align : List ℕ → List ℕ → Answer Pre
or_align name s = if bytes_eq name (codes "align") then reader.align s else None

abbrev or_range : List ℕ → List ℕ → Answer Pre
or_range name s = if bytes_eq name (codes "range") then reader.range s else or_align name s

align_said : (name s : List ℕ) (p : Pre) → or_align name s ≡ Some (p, []) → Writes name s p
align_said name s p e = by_cases (Writes name s p) (bytes_eq name (codes "align"))
    (λ t. subst (λ z. Writes z s p) (sym (same_is name (codes "align") t)) (align_only s p (sym (if_true (bytes_eq name (codes "align")) (reader.align s) None t) ∙ e)))
    (λ t. none_some (p, []) _ (sym (if_false (bytes_eq name (codes "align")) (reader.align s) None t) ∙ e))

range_said : (name s : List ℕ) (p : Pre) → or_range name s ≡ Some (p, []) → Writes name s p
range_said name s p e = by_cases (Writes name s p) (bytes_eq name (codes "range"))
    (λ t. subst (λ z. Writes z s p) (sym (same_is name (codes "range") t)) (range_only s p (sym (if_true (bytes_eq name (codes "range")) (reader.range s) (or_align name s) t) ∙ e)))
    (λ t. align_said name s p (sym (if_false (bytes_eq name (codes "range")) (reader.range s) (or_align name s) t) ∙ e))

pub string_said : (name s : List ℕ) (p : Pre) → precondition name s ≡ Some (p, []) → Writes name s p
unfolding precondition
string_said name s p e = by_cases (Writes name s p) (bytes_eq name (codes "region"))
    (λ t. subst (λ z. Writes z s p) (sym (same_is name (codes "region") t)) (region_only s p (sym (if_true (bytes_eq name (codes "region")) (reader.region s) (or_range name s) t) ∙ e)))
    (λ t. range_said name s p (sym (if_false (bytes_eq name (codes "region")) (reader.region s) (or_range name s) t) ∙ e))

pub string_back : (name s : List ℕ) (p : Pre) → Writes name s p → precondition name s ≡ Some (p, [])
unfolding precondition
string_back name s p (sum {s = t} {p = q} {k = k} {v = v} {c = c} {m = m} {n = n} made w f u l) = sum_is t q k v c m n made w f u l
string_back name s p (product {s = t} {p = q} {k = k} {v = v} {m = m} made w f u) = product_is t q k v m made w f u
string_back name s p (variable {s = t} {p = q} {v = v} made w u) = variable_is t q v made w u
string_back name s p (constant {s = t} {p = q} {c = c} {n = n} made w l) = constant_is t q c n made w l
string_back name s p (range {s = t} {x = x} {a = a} {b = b} {m = m} {n = n} made w k l) = range_back t x a b m n made w k l
string_back name s p (align {s = t} {p = q} {a = a} {m = m} made w k l) = align_back t q a m made w k l

-- ---- by the entry's value
value_said : (name : List ℕ) (v : NoteValue) (p : Pre) → said_by name v ≡ Some p → (s : List ℕ) × (v ≡ value.Str s) × Writes name s p
value_said name value.None p e = none_some p _ e
value_said name (value.Name x) p e = none_some p _ e
value_said name (value.Num x) p e = none_some p _ e
value_said name (value.Str s) p e = (s, refl, string_said name s p (final_parts (precondition name s) p e))

pub says : (n : Note) (p : Pre) → (said n ≡ Some p) ↔ Says n p
says n p = (
  λ e. (let q = value_said n.name n.value p e in record { string = q.0; valued = q.1; writes = q.2 }),
  λ h. ap (said_by n.name) h.valued ∙ ap final (string_back n.name h.string p h.writes),
)
