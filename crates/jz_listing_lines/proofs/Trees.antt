-- Trees and transformers, as the code reads them.
use Rattle.std.proofs.Common.{◌≡◌, ℕ, zero, suc, ◌+◌, ◌<◌, Bool, true, false, ◌&&◌, List, [], ◌∷◌, ◌++◌, length, drop, Option, Some, None, refl, sym, ap, ◌∙◌, subst, append_assoc, append-nil}
use Rattle.std.specs.Prelude.{codes, Result, Ok, Err, IsErrAnd}
use Rattle.jz_data.specs.declared.failure.Failure.{Failure}
use Rattle.jz_data.specs.declared.failure.Failure.TheVariants.{Refused, OutOfMemory}
use Rattle.jz_listing_lines.specs.declared.cursor.Unread.{Unread}
use Rattle.std.proofs.lemmas.Bool.{and_parts, and_from}
use Rattle.jz_leak.specs.declared.transformer.Out.{Out}
use Rattle.jz_leak.specs.declared.transformer.Tr.{Tr}
use Rattle.jz_leak.specs.declared.transformer.Transformer.{Transformer}
use Rattle.jz_listing.specs.Transformers.{outs_text, tr_text, transformer_text}
use Rattle.jz_listing.specs.Listable.{outs_fit, tr_fits, transformer_fits}
use Rattle.jz_listing.proofs.TransformersApart.{tr_apart}
use Rattle.jz_listing_lines.specs.declared.frames.Open.{Open}
use Rattle.jz_listing_lines.specs.declared.frames.Step.{Step}
use Rattle.jz_listing_lines.specs.declared.frames.Step.TheVariants as step
use Rattle.jz_listing_lines.specs.InnerReaders.{Gave, literal}
use Rattle.jz_listing_lines.specs.InnerPieces.{outs}
use Rattle.jz_listing_lines.specs.InnerTrees.{start, one_step, open_text, open_fits, GaveTree, GaveTransformer}
use Rattle.jz_listing_lines.proofs.ReaderLaws.{some_same, none_some, literal_back, literal_only}
use Rattle.jz_listing_lines.proofs.Pieces.{outs_reads}
use Rattle.jz_listing_lines.proofs.TreeReads.{Leads, here, step_first, join, opened, inner_text, tr_text_is, whole_leads, stopped}
use Rattle.jz_listing_lines.proofs.TreeTexts.{step_made, step_shorter}

-- The bytes that were taken of a text are those of what is open, and the steps lead there.
pub record SoFar (old now : List ℕ) (o : Open) : Type 0 where
  pub inner : List ℕ
  pub begins_so : old ≡ codes "{" ++ inner
  pub leads : Leads start inner (step.Going o) now
  pub text : open_text o ++ now ≡ old
  pub fits : open_fits o ≡ true

pub begun : (old now : List ℕ) → literal (codes "{") old ≡ Some (tt, now) → SoFar old now start
begun old now e =
    let b = literal_only (codes "{") old (tt, now) e in
    record { inner = now; begins_so = b; leads = here start now; text = sym b; fits = refl }

pub goes_on : (old now new : List ℕ) (o p : Open) → SoFar old now o → one_step o now ≡ Some (step.Going p, new) → SoFar old new p
goes_on old now new o p s e =
    let m = step_made o now (step.Going p) new s.fits e in
    record {
      inner = s.inner;
      begins_so = s.begins_so;
      leads = join start o s.inner now (step.Going p) new s.leads (step_first o p now new (step.Going p) new e (here p new));
      text = sym m.0 ∙ s.text;
      fits = m.1;
    }

pub takes_one : (old now new : List ℕ) (o p : Open) → SoFar old now o → one_step o now ≡ Some (step.Going p, new) → length new < length now
takes_one old now new o p s e = step_shorter o now (step.Going p) new s.fits e

pub ends : (old now new : List ℕ) (o : Open) (t : Tr) → SoFar old now o → one_step o now ≡ Some (step.Done t, new) → (old ≡ tr_text t ++ new) × (tr_fits t ≡ true)
ends old now new o t s e = let m = step_made o now (step.Done t) new s.fits e in (sym s.text ∙ m.0, m.1)

tree_shape : (t : Tr) (rest : List ℕ) → tr_text t ++ rest ≡ codes "{" ++ (inner_text t ++ (codes "}" ++ rest))
tree_shape t rest = ap (λ z. z ++ rest) (tr_text_is t) ∙ ap (λ z. codes "{" ++ z) (append_assoc (inner_text t) (codes "}") rest)

pub fails : (old now : List ℕ) (o : Open) → SoFar old now o → one_step o now ≡ None → (t : Tr) (rest : List ℕ) → tr_fits t ≡ true → old ≡ tr_text t ++ rest → ⊥
fails old now o s e t rest h k =
    let same : s.inner ≡ inner_text t ++ (codes "}" ++ rest) = ap (drop 1) (sym s.begins_so ∙ k ∙ tree_shape t rest) in
    let w = whole_leads t rest h in
    let Is : List ℕ → Type 0 = λ z. Leads start z (step.Done t) rest in
    let l : Leads start s.inner (step.Done t) rest = subst Is (sym same) w in
    stopped s.leads.0 l.0 start o s.inner now t rest s.leads.1 e l.1

pub no_brace : (old : List ℕ) → literal (codes "{") old ≡ None → (t : Tr) (rest : List ℕ) → tr_fits t ≡ true → old ≡ tr_text t ++ rest → ⊥
no_brace old e t rest h k =
    none_some (tt, inner_text t ++ (codes "}" ++ rest)) ⊥ (sym e ∙ ap (literal (codes "{")) (k ∙ tree_shape t rest) ∙ literal_back (codes "{") (inner_text t ++ (codes "}" ++ rest)))

-- ---- transformers
abbrev behind_before : Transformer → List ℕ → List ℕ
behind_before t rest = codes " " ++ (tr_text t.body ++ (codes " " ++ (outs_text t.after ++ rest)))

shape : (a s b c rest : List ℕ) → (a ++ s ++ b ++ s ++ c) ++ rest ≡ a ++ (s ++ (b ++ (s ++ (c ++ rest))))
shape a s b c rest = simp append_assoc refl

transformer_shape : (t : Transformer) (rest : List ℕ) → transformer_text t ++ rest ≡ outs_text t.before ++ behind_before t rest
transformer_shape t rest = shape (outs_text t.before) (codes " ") (tr_text t.body) (outs_text t.after) rest

-- the transformer that stands there, and what fits of it
abbrev pub Stands : List ℕ → Transformer → List ℕ → Type 0
Stands old t rest = (transformer_fits t ≡ true) × (old ≡ transformer_text t ++ rest)

before_read : (old : List ℕ) (t : Transformer) (rest : List ℕ) → Stands old t rest → outs old ≡ Some (t.before, behind_before t rest)
before_read old t rest s =
    ap outs (s.1 ∙ transformer_shape t rest) ∙ outs_reads.back t.before (behind_before t rest) (and_parts _ _ s.0).0 tt

pub no_before : (old : List ℕ) → outs old ≡ None → (t : Transformer) (rest : List ℕ) → transformer_fits t ≡ true → old ≡ transformer_text t ++ rest → ⊥
no_before old e t rest h k = none_some (t.before, behind_before t rest) ⊥ (sym e ∙ before_read old t rest (h, k))

-- what is left behind the first events
first_left : (old one : List ℕ) (b : List Out) → outs old ≡ Some (b, one) → (t : Transformer) (rest : List ℕ) → Stands old t rest → one ≡ behind_before t rest
first_left old one b e t rest s = ap (λ z. z.1) (some_same (b, one) (t.before, behind_before t rest) (sym e ∙ before_read old t rest s))

pub no_space : (old one : List ℕ) (b : List Out) → outs old ≡ Some (b, one) → literal (codes " ") one ≡ None → (t : Transformer) (rest : List ℕ) → transformer_fits t ≡ true → old ≡ transformer_text t ++ rest → ⊥
no_space old one b e f t rest h k =
    none_some (tt, tr_text t.body ++ (codes " " ++ (outs_text t.after ++ rest))) ⊥
    (sym f ∙ ap (literal (codes " ")) (first_left old one b e t rest (h, k)) ∙ literal_back (codes " ") (tr_text t.body ++ (codes " " ++ (outs_text t.after ++ rest))))

-- what is left behind the space
second_left : (old one two : List ℕ) (b : List Out) → outs old ≡ Some (b, one) → literal (codes " ") one ≡ Some (tt, two) → (t : Transformer) (rest : List ℕ) → Stands old t rest
    → two ≡ tr_text t.body ++ (codes " " ++ (outs_text t.after ++ rest))
second_left old one two b e f t rest s =
    ap (drop 1) (sym (literal_only (codes " ") one (tt, two) f) ∙ first_left old one b e t rest s)

pub no_body : (old one two : List ℕ) (b : List Out) → outs old ≡ Some (b, one) → literal (codes " ") one ≡ Some (tt, two)
    → ((u : Tr) (more : List ℕ) → tr_fits u ≡ true → two ≡ tr_text u ++ more → ⊥) → (t : Transformer) (rest : List ℕ) → transformer_fits t ≡ true → old ≡ transformer_text t ++ rest → ⊥
no_body old one two b e f none t rest h k =
    none t.body (codes " " ++ (outs_text t.after ++ rest)) (and_parts _ _ (and_parts _ _ h).1).0 (second_left old one two b e f t rest (h, k))

third_left : (old one two three : List ℕ) (b : List Out) (u : Tr) → outs old ≡ Some (b, one) → literal (codes " ") one ≡ Some (tt, two) → (two ≡ tr_text u ++ three) × (tr_fits u ≡ true)
    → (t : Transformer) (rest : List ℕ) → Stands old t rest → three ≡ codes " " ++ (outs_text t.after ++ rest)
third_left old one two three b u e f g t rest s =
    (tr_apart u t.body three (codes " " ++ (outs_text t.after ++ rest)) g.1 (and_parts _ _ (and_parts _ _ s.0).1).0 (sym g.0 ∙ second_left old one two b e f t rest s)).1

pub no_second_space : (old one two three : List ℕ) (b : List Out) (u : Tr) → outs old ≡ Some (b, one) → literal (codes " ") one ≡ Some (tt, two) → (two ≡ tr_text u ++ three) × (tr_fits u ≡ true) → literal (codes " ") three ≡ None
    → (t : Transformer) (rest : List ℕ) → transformer_fits t ≡ true → old ≡ transformer_text t ++ rest → ⊥
no_second_space old one two three b u e f g n t rest h k =
    none_some (tt, outs_text t.after ++ rest) ⊥ (sym n ∙ ap (literal (codes " ")) (third_left old one two three b u e f g t rest (h, k)) ∙ literal_back (codes " ") (outs_text t.after ++ rest))

pub no_after : (old one two three four : List ℕ) (b : List Out) (u : Tr) → outs old ≡ Some (b, one) → literal (codes " ") one ≡ Some (tt, two) → (two ≡ tr_text u ++ three) × (tr_fits u ≡ true)
    → literal (codes " ") three ≡ Some (tt, four) → outs four ≡ None → (t : Transformer) (rest : List ℕ) → transformer_fits t ≡ true → old ≡ transformer_text t ++ rest → ⊥
no_after old one two three four b u e f g n m t rest h k =
    let left : four ≡ outs_text t.after ++ rest = ap (drop 1) (sym (literal_only (codes " ") three (tt, four) n) ∙ third_left old one two three b u e f g t rest (h, k)) in
    none_some (t.after, rest) ⊥ (sym m ∙ ap outs left ∙ outs_reads.back t.after rest (and_parts _ _ (and_parts _ _ h).1).1 tt)

pub transformer_there : (old one two three four five : List ℕ) (b a : List Out) (u : Tr) → outs old ≡ Some (b, one) → literal (codes " ") one ≡ Some (tt, two) → (two ≡ tr_text u ++ three) × (tr_fits u ≡ true)
    → literal (codes " ") three ≡ Some (tt, four) → outs four ≡ Some (a, five)
    → (old ≡ transformer_text (record { before = b; body = u; after = a }) ++ five) × (transformer_fits (record { before = b; body = u; after = a }) ≡ true)
transformer_there old one two three four five b a u e f g n m =
    let t : Transformer = record { before = b; body = u; after = a } in
    let x = outs_reads.only old one b e in
    let y = outs_reads.only four five a m in
    let last : three ≡ codes " " ++ (outs_text a ++ five) = literal_only (codes " ") three (tt, four) n ∙ ap (λ z. codes " " ++ z) y.0 in
    let rest : one ≡ behind_before t five =
    literal_only (codes " ") one (tt, two) f ∙ ap (λ z. codes " " ++ z) (g.0 ∙ ap (λ z. tr_text u ++ z) last) in
    (x.0 ∙ ap (λ z. outs_text b ++ z) rest ∙ sym (transformer_shape t five), and_from _ _ x.1 (and_from _ _ g.1 y.1))

-- ---- the same by what the code answers
abbrev pub Cause : Type 0
Cause = Failure Unread

-- a failure that is passed on
pub passed : {T : Type 0} (r : Result T Cause) (e : Cause) (P : Result T Cause → Type 0) → IsErrAnd r (λ v. v ≡ e) → P (Err e) → P r
passed (Ok x) e P h p = absurd h
passed (Err v) e P h p = subst (λ z. P (Err z)) (sym h) p

abbrev pub Nothing : Type 0
Nothing = Unit {0}

pub brace_err : (e : Cause) (old new : List ℕ) → Gave {A = Nothing} (Err e) new (literal (codes "{") old) → GaveTree (Err e) old new
brace_err (Refused u) old new g = no_brace old g
brace_err OutOfMemory old new g = tt

pub step_err : (e : Cause) (old now new : List ℕ) (o : Open) → SoFar old now o → Gave {A = Step} (Err e) new (one_step o now) → GaveTree (Err e) old new
step_err (Refused u) old now new o s g = fails old now o s g
step_err OutOfMemory old now new o s g = tt

pub before_err : (e : Cause) (old new : List ℕ) → Gave {A = List Out} (Err e) new (outs old) → GaveTransformer (Err e) old new
before_err (Refused u) old new g = no_before old g
before_err OutOfMemory old new g = tt

pub space_err : (e : Cause) (old one new : List ℕ) (b : List Out) → outs old ≡ Some (b, one) → Gave {A = Nothing} (Err e) new (literal (codes " ") one) → GaveTransformer (Err e) old new
space_err (Refused u) old one new b f g = no_space old one b f g
space_err OutOfMemory old one new b f g = tt

pub body_err : (e : Cause) (old one two new : List ℕ) (b : List Out) → outs old ≡ Some (b, one) → literal (codes " ") one ≡ Some (tt, two) → GaveTree (Err e) two new → GaveTransformer (Err e) old new
body_err (Refused u) old one two new b f g h = no_body old one two b f g h
body_err OutOfMemory old one two new b f g h = tt

pub second_space_err : (e : Cause) (old one two three new : List ℕ) (b : List Out) (u : Tr) → outs old ≡ Some (b, one) → literal (codes " ") one ≡ Some (tt, two) → (two ≡ tr_text u ++ three) × (tr_fits u ≡ true)
    → Gave {A = Nothing} (Err e) new (literal (codes " ") three) → GaveTransformer (Err e) old new
second_space_err (Refused v) old one two three new b u f g h k = no_second_space old one two three b u f g h k
second_space_err OutOfMemory old one two three new b u f g h k = tt

pub after_err : (e : Cause) (old one two three four new : List ℕ) (b : List Out) (u : Tr) → outs old ≡ Some (b, one) → literal (codes " ") one ≡ Some (tt, two) → (two ≡ tr_text u ++ three) × (tr_fits u ≡ true)
    → literal (codes " ") three ≡ Some (tt, four) → Gave {A = List Out} (Err e) new (outs four) → GaveTransformer (Err e) old new
after_err (Refused v) old one two three four new b u f g h k m = no_after old one two three four b u f g h k m
after_err OutOfMemory old one two three four new b u f g h k m = tt
