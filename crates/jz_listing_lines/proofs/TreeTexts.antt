-- What the steps take is the text of what they leave.
use Rattle.std.proofs.Common.{◌≡◌, ℕ, zero, suc, ◌+◌, ◌<◌, ◌≤◌, Bool, true, false, ◌&&◌, List, [], ◌∷◌, ◌++◌, length, Option, Some, None, refl, sym, ap, ◌∙◌, subst, append_assoc, append-nil, length-append, arith, if◌then◌else◌}
use Rattle.std.specs.Prelude.{map, codes}
use Rattle.std.specs.List.{concat, list_all}
use Rattle.std.proofs.lemmas.Bool.{and_parts, and_from}
use Rattle.jz_leak.specs.declared.transformer.Out.{Out}
use Rattle.jz_leak.specs.declared.transformer.Tr.{Tr}
use Rattle.jz_leak.specs.declared.transformer.Case.{Case}
use Rattle.jz_leak.specs.declared.transformer.Case.TheVariants as case
use Rattle.jz_listing.specs.Transformers.{spaced_pieces, outs_text, case_text, tr_text}
use Rattle.jz_listing.specs.Listable.{outs_fit, case_fits, tr_fits}
use Rattle.jz_lex.specs.LexingWords.{begins}
use Rattle.jz_lex.proofs.LexingWords.{by_cases, if_true, if_false}
use Rattle.jz_listing_lines.specs.declared.frames.Pending.{Pending}
use Rattle.jz_listing_lines.specs.declared.frames.Pending.TheVariants as pending
use Rattle.jz_listing_lines.specs.declared.frames.Level.{Level}
use Rattle.jz_listing_lines.specs.declared.frames.Open.{Open}
use Rattle.jz_listing_lines.specs.declared.frames.Step.{Step}
use Rattle.jz_listing_lines.specs.declared.frames.Step.TheVariants as step
use Rattle.jz_listing_lines.specs.InnerReaders.{Answer, Reader, ◌>>=◌, through, literal, behind, follow, closed, pick}
use Rattle.jz_listing_lines.specs.InnerPieces.{outs}
use Rattle.jz_listing_lines.specs.InnerTrees.{with_case, in_case, op_case, if_case, while_case, for_case, call_case, a_case, next_case, is_first, close_then, close_else, close_prologue, close_body, close_round, close_callee, close_in, close_by, close, one_step, last_of, with_first, space_after, pending_text, cases_text, level_text, open_text, step_text, pending_fits, level_fits, open_fits, step_fits}
use Rattle.jz_listing_lines.proofs.ReaderLaws.{Only, some_same, none_some, bind_parts, through_parts, behind_only, literal_reads, behind_reads, all_text}
use Rattle.jz_listing_lines.proofs.Pieces.{outs_reads, spaced_is}
use Rattle.jz_listing_lines.proofs.TreeReads as reads
use Rattle.jz_listing_lines.proofs.TreeReads.{opened, level_of, inner_text, tr_text_is, tr_fits_is}

-- ---- lists with one more
all_push : {A : Type 0} (p : A → Bool) (xs : List A) (x : A) → list_all p xs ≡ true → p x ≡ true → list_all p (xs ++ x ∷ []) ≡ true
all_push p [] x h k = and_from (p x) true k refl
all_push p (y ∷ ys) x h k = let f = and_parts (p y) (list_all p ys) h in and_from (p y) (list_all p (ys ++ x ∷ [])) f.0 (all_push p ys x f.1 k)

all_last : {A : Type 0} (p : A → Bool) (xs : List A) (x : A) → list_all p (xs ++ x ∷ []) ≡ true → (list_all p xs ≡ true) × (p x ≡ true)
all_last p [] x h = (refl, (and_parts (p x) true h).0)
all_last p (y ∷ ys) x h =
    let f = and_parts (p y) (list_all p (ys ++ x ∷ [])) h in
    let g = all_last p ys x f.1 in
    (and_from (p y) (list_all p ys) f.0 g.0, g.1)

concat_push : {A : Type 0} (t : A → List ℕ) (xs : List A) (x : A) → concat (map t (xs ++ x ∷ [])) ≡ concat (map t xs) ++ t x
concat_push t [] x = append-nil (t x)
concat_push t (y ∷ ys) x = ap (λ z. t y ++ z) (concat_push t ys x) ∙ sym (append_assoc (t y) (concat (map t ys)) (t x))

spaced_push : (cs : List Case) (c : Case) → spaced_pieces (map case_text (cs ++ c ∷ [])) ≡ spaced_pieces (map case_text cs) ++ (space_after cs ++ case_text c)
spaced_push [] c = refl
spaced_push (d ∷ ds) c =
    sym (spaced_is case_text d (ds ++ c ∷ [])) ∙ ap (λ z. case_text d ++ z) (concat_push (λ a. codes " " ++ case_text a) ds c)
    ∙ sym (append_assoc (case_text d) (all_text (codes " ") case_text ds) (codes " " ++ case_text c))
    ∙ ap (λ z. z ++ (codes " " ++ case_text c)) (spaced_is case_text d ds)

-- ---- the text before a case
abbrev levels_text : List Level → List ℕ
levels_text ls = concat (map level_text ls)

abbrev before : List Level → List Case → List ℕ
before levels cases = levels_text levels ++ (cases_text cases ++ space_after cases)

with_text : (levels : List Level) (cases : List Case) (c : Case) → open_text (with_case levels cases c) ≡ before levels cases ++ case_text c
with_text levels cases c =
    ap (λ z. levels_text levels ++ (codes "{" ++ z)) (spaced_push cases c)
    ∙ parted (levels_text levels) (codes "{") (spaced_pieces (map case_text cases)) (space_after cases) (case_text c)
  where
    parted : (l o p s c : List ℕ) → l ++ (o ++ (p ++ (s ++ c))) ≡ (l ++ ((o ++ p) ++ s)) ++ c
    parted l o p s c = sym (simp append_assoc refl)

in_text : (levels : List Level) (cases : List Case) (p : Pending) → open_text (in_case levels cases p) ≡ before levels cases ++ (pending_text p ++ codes "{")
in_text levels cases p =
    ap (λ z. z ++ (codes "{" ++ [])) (concat_push level_text levels (level_of cases p))
    ∙ parted (levels_text levels) (cases_text cases) (space_after cases) (pending_text p) (codes "{")
  where
    parted : (l c s p o : List ℕ) → (l ++ (c ++ (s ++ p))) ++ (o ++ []) ≡ (l ++ (c ++ s)) ++ (p ++ o)
    parted l c s p o = ap (λ z. (l ++ (c ++ (s ++ p))) ++ z) (append-nil o) ∙ more l c s p o
      where
        more : (l c s p o : List ℕ) → (l ++ (c ++ (s ++ p))) ++ o ≡ (l ++ (c ++ s)) ++ (p ++ o)
        more l c s p o = simp append_assoc refl

-- that what is open fits
abbrev pub Fit : List Level → List Case → Type 0
Fit levels cases = (list_all level_fits levels ≡ true) × (list_all case_fits cases ≡ true)

with_fits : (levels : List Level) (cases : List Case) (c : Case) → Fit levels cases → case_fits c ≡ true → open_fits (with_case levels cases c) ≡ true
with_fits levels cases c h k = and_from (list_all level_fits levels) (list_all case_fits (cases ++ c ∷ [])) h.0 (all_push case_fits cases c h.1 k)

in_fits : (levels : List Level) (cases : List Case) (p : Pending) → Fit levels cases → pending_fits p ≡ true → open_fits (in_case levels cases p) ≡ true
in_fits levels cases p h k =
    and_from (list_all level_fits (levels ++ level_of cases p ∷ [])) true
    (all_push level_fits levels (level_of cases p) h.0 (and_from (list_all case_fits cases) (pending_fits p) h.1 k)) refl

-- ---- what is taken, behind a text
abbrev Makes : List ℕ → List ℕ → Open → List ℕ → Type 0
Makes front bs o rest = (w : List ℕ) × (bs ≡ w ++ rest) × (open_text o ≡ front ++ w) × (open_fits o ≡ true)

made : {A : Type 0} (front : List ℕ) (f : Reader A) (t : A → List ℕ) (F : A → Type 0) (to : A → Open) → Only f t F → ((a : A) → open_text (to a) ≡ front ++ t a) → ((a : A) → F a → open_fits (to a) ≡ true)
    → (bs : List ℕ) (o : Open) (rest : List ℕ) → through to (f bs) ≡ Some (o, rest) → Makes front bs o rest
made {A} front f t F to r texts fits bs o rest e =
    let x = through_parts to (f bs) (o, rest) e in
    let a = r bs x.0.1 x.0.0 x.1 in
    let Is : Open × List ℕ → Type 0 = λ z. Makes front bs z.0 z.1 in
    let is : Makes front bs (to x.0.0) x.0.1 = (t x.0.0, a.0, texts x.0.0, fits x.0.0 a.1) in
    subst Is x.2 is

-- the same behind a word
made_behind : (front w : List ℕ) (g : Reader Open) → ((bs : List ℕ) (o : Open) (rest : List ℕ) → g bs ≡ Some (o, rest) → Makes (front ++ w) bs o rest)
    → (bs : List ℕ) (o : Open) (rest : List ℕ) → behind w g bs ≡ Some (o, rest) → Makes front bs o rest
made_behind front w g inner bs o rest e =
    let b = behind_only w g bs (o, rest) e in
    let i = inner b.0 o rest b.2 in
    (w ++ i.0, b.1 ∙ ap (λ z. w ++ z) i.1 ∙ sym (append_assoc w i.0 rest), i.2 ∙ append_assoc front w i.0, i.3)

made_pick : (front w : List ℕ) (f g : Reader Open) → ((bs : List ℕ) (o : Open) (rest : List ℕ) → f bs ≡ Some (o, rest) → Makes front bs o rest) → ((bs : List ℕ) (o : Open) (rest : List ℕ) → g bs ≡ Some (o, rest) → Makes front bs o rest)
    → (bs : List ℕ) (o : Open) (rest : List ℕ) → pick w f g bs ≡ Some (o, rest) → Makes front bs o rest
made_pick front w f g h k bs o rest e = by_cases (Makes front bs o rest) (begins w bs)
    (λ b. h bs o rest (sym (if_true (begins w bs) (f bs) (g bs) b) ∙ e))
    (λ b. k bs o rest (sym (if_false (begins w bs) (f bs) (g bs) b) ∙ e))

abbrev OutsFit : List Out → Type 0
OutsFit os = outs_fit os ≡ true

-- ---- cases begin
op_made : (levels : List Level) (cases : List Case) → Fit levels cases → (bs : List ℕ) (o : Open) (rest : List ℕ) → op_case levels cases bs ≡ Some (o, rest) → Makes (before levels cases ++ codes "op") bs o rest
unfolding op_case
op_made levels cases h =
    made (before levels cases ++ codes "op") outs outs_text OutsFit (λ os. with_case levels cases (case.Op os)) outs_reads.only
    (λ os. with_text levels cases (case.Op os) ∙ ap (λ z. before levels cases ++ z) (reads.op_text_is os) ∙ sym (append_assoc (before levels cases) (codes "op") (outs_text os)))
    (λ os k. with_fits levels cases (case.Op os) h (reads.op_fits_is os ∙ k))

if_made : (levels : List Level) (cases : List Case) → Fit levels cases → (bs : List ℕ) (o : Open) (rest : List ℕ) → if_case levels cases bs ≡ Some (o, rest) → Makes (before levels cases ++ codes "if(") bs o rest
unfolding if_case
if_made levels cases h =
    made (before levels cases ++ codes "if(") (closed (follow outs (behind (codes " ") outs)) (codes " {")) (λ p. (outs_text p.0 ++ (codes " " ++ outs_text p.1)) ++ codes " {") (λ p. OutsFit p.0 × OutsFit p.1)
    (λ p. in_case levels cases (pending.Then p.0 p.1)) reads.two_open.only
    (λ p. in_text levels cases (pending.Then p.0 p.1) ∙ parted (before levels cases) (codes "if(") (outs_text p.0) (codes " ") (outs_text p.1) (codes "{"))
    (λ p k. in_fits levels cases (pending.Then p.0 p.1) h (and_from (outs_fit p.0) (outs_fit p.1) k.0 k.1))
  where
    parted : (f i t s a l : List ℕ) → f ++ ((i ++ (t ++ (s ++ (a ++ s)))) ++ l) ≡ (f ++ i) ++ ((t ++ (s ++ a)) ++ (s ++ l))
    parted f i t s a l = simp append_assoc refl

while_made : (levels : List Level) (cases : List Case) → Fit levels cases → (bs : List ℕ) (o : Open) (rest : List ℕ) → while_case levels cases bs ≡ Some (o, rest) → Makes (before levels cases ++ codes "while(") bs o rest
unfolding while_case
while_made levels cases h =
    made (before levels cases ++ codes "while(") (literal (codes "{")) (λ u. codes "{") (λ u. Unit {0}) (λ u. in_case levels cases pending.Prologue) (literal_reads (codes "{")).only
    (λ u. in_text levels cases pending.Prologue ∙ sym (append_assoc (before levels cases) (codes "while(") (codes "{")))
    (λ u k. in_fits levels cases pending.Prologue h refl)

for_made : (levels : List Level) (cases : List Case) → Fit levels cases → (bs : List ℕ) (o : Open) (rest : List ℕ) → for_case levels cases bs ≡ Some (o, rest) → Makes (before levels cases ++ codes "for(") bs o rest
unfolding for_case
for_made levels cases h =
    made_pick (before levels cases ++ codes "for(") (codes ")") (λ bs. through (λ u. with_case levels cases (case.For [])) (literal (codes ")") bs)) (λ bs. through (λ u. in_case levels cases (pending.Round [])) (literal (codes "{") bs))
    (made (before levels cases ++ codes "for(") (literal (codes ")")) (λ u. codes ")") (λ u. Unit {0}) (λ u. with_case levels cases (case.For [])) (literal_reads (codes ")")).only
    (λ u. with_text levels cases (case.For []) ∙ ap (λ z. before levels cases ++ z) (reads.for_text_is []) ∙ sym (append_assoc (before levels cases) (codes "for(") (codes ")")))
    (λ u k. with_fits levels cases (case.For []) h (reads.for_fits_is [])))
    (made (before levels cases ++ codes "for(") (literal (codes "{")) (λ u. codes "{") (λ u. Unit {0}) (λ u. in_case levels cases (pending.Round [])) (literal_reads (codes "{")).only
    (λ u. in_text levels cases (pending.Round []) ∙ sym (append_assoc (before levels cases) (codes "for(") (codes "{")))
    (λ u k. in_fits levels cases (pending.Round []) h refl))

call_made : (levels : List Level) (cases : List Case) → Fit levels cases → (bs : List ℕ) (o : Open) (rest : List ℕ) → call_case levels cases bs ≡ Some (o, rest) → Makes (before levels cases ++ codes "call(") bs o rest
unfolding call_case
call_made levels cases h =
    made (before levels cases ++ codes "call(") (closed outs (codes " {")) (λ os. outs_text os ++ codes " {") OutsFit (λ os. in_case levels cases (pending.Callee os)) reads.one_open.only
    (λ os. in_text levels cases (pending.Callee os) ∙ parted (before levels cases) (codes "call(") (outs_text os) (codes " ") (codes "{"))
    (λ os k. in_fits levels cases (pending.Callee os) h k)
  where
    parted : (f i a s l : List ℕ) → f ++ ((i ++ (a ++ s)) ++ l) ≡ (f ++ i) ++ (a ++ (s ++ l))
    parted f i a s l = simp append_assoc refl

a_case_made : (levels : List Level) (cases : List Case) → Fit levels cases → (bs : List ℕ) (o : Open) (rest : List ℕ) → a_case levels cases bs ≡ Some (o, rest) → Makes (before levels cases) bs o rest
unfolding a_case
a_case_made levels cases h =
    made_pick (before levels cases) (codes "op") _ _ (made_behind (before levels cases) (codes "op") (op_case levels cases) (op_made levels cases h))
    (made_pick (before levels cases) (codes "if(") _ _ (made_behind (before levels cases) (codes "if(") (if_case levels cases) (if_made levels cases h))
    (made_pick (before levels cases) (codes "while(") _ _ (made_behind (before levels cases) (codes "while(") (while_case levels cases) (while_made levels cases h))
    (made_pick (before levels cases) (codes "for(") _ _ (made_behind (before levels cases) (codes "for(") (for_case levels cases) (for_made levels cases h))
    (made_behind (before levels cases) (codes "call(") (call_case levels cases) (call_made levels cases h)))))

-- what is open, up to its space
next_made : (levels : List Level) (cases : List Case) → Fit levels cases → (bs : List ℕ) (o : Open) (rest : List ℕ) → next_case (opened levels cases) bs ≡ Some (o, rest) → Makes (open_text (opened levels cases)) bs o rest
unfolding next_case
next_made levels [] h bs o rest e =
    subst (λ z. Makes z bs o rest) (ap (λ z. levels_text levels ++ z) (append-nil (cases_text []))) (a_case_made levels [] h bs o rest e)
next_made levels (c ∷ cs) h bs o rest e =
    made_behind (open_text (opened levels (c ∷ cs))) (codes " ") (a_case levels (c ∷ cs))
    (λ b p r f. subst (λ z. Makes z b p r) (sym (append_assoc (levels_text levels) (cases_text (c ∷ cs)) (codes " "))) (a_case_made levels (c ∷ cs) h b p r f))
    bs o rest e

-- ---- trees end
then_made : (levels : List Level) (cases : List Case) (t a : List Out) (b : Tr) → Fit levels cases → OutsFit t → OutsFit a → tr_fits b ≡ true
    → (bs : List ℕ) (o : Open) (rest : List ℕ) → close_then levels cases t a b bs ≡ Some (o, rest) → Makes (before levels cases ++ (pending_text (pending.Then t a) ++ tr_text b)) bs o rest
unfolding close_then
then_made levels cases t a b h ft fa fb =
    made (before levels cases ++ (pending_text (pending.Then t a) ++ tr_text b)) (behind (codes " ") (closed outs (codes " {"))) (λ os. codes " " ++ (outs_text os ++ codes " {")) OutsFit
    (λ os. in_case levels cases (pending.Else t a b os)) (behind_reads (codes " ") reads.one_open).only
    (λ os. in_text levels cases (pending.Else t a b os) ∙ parted (before levels cases) (codes "if(") (outs_text t) (codes " ") (outs_text a) (tr_text b) (outs_text os) (codes "{"))
    (λ os k. in_fits levels cases (pending.Else t a b os) h
    (and_from (outs_fit t) (outs_fit a && (tr_fits b && outs_fit os)) ft (and_from (outs_fit a) (tr_fits b && outs_fit os) fa (and_from (tr_fits b) (outs_fit os) fb k))))
  where
    parted : (f i t s a b c l : List ℕ) → f ++ ((i ++ (t ++ (s ++ (a ++ (s ++ (b ++ (s ++ (c ++ s)))))))) ++ l) ≡ (f ++ ((i ++ (t ++ (s ++ (a ++ s)))) ++ b)) ++ (s ++ (c ++ (s ++ l)))
    parted f i t s a b c l = simp append_assoc refl

else_made : (levels : List Level) (cases : List Case) (t a : List Out) (b : Tr) (c : List Out) (d : Tr) → Fit levels cases → OutsFit t → OutsFit a → tr_fits b ≡ true → OutsFit c → tr_fits d ≡ true
    → (bs : List ℕ) (o : Open) (rest : List ℕ) → close_else levels cases t a b c d bs ≡ Some (o, rest) → Makes (before levels cases ++ (pending_text (pending.Else t a b c) ++ tr_text d)) bs o rest
unfolding close_else
else_made levels cases t a b c d h ft fa fb fc fd =
    made (before levels cases ++ (pending_text (pending.Else t a b c) ++ tr_text d)) (literal (codes ")")) (λ u. codes ")") (λ u. Unit {0}) (λ u. with_case levels cases (case.If t a b c d)) (literal_reads (codes ")")).only
    (λ u. with_text levels cases (case.If t a b c d) ∙ ap (λ z. before levels cases ++ z) (reads.if_text_is t a b c d)
    ∙ parted (before levels cases) (codes "if(") (outs_text t) (codes " ") (outs_text a) (tr_text b) (outs_text c) (tr_text d) (codes ")"))
    (λ u k. with_fits levels cases (case.If t a b c d) h (reads.if_fits_is t a b c d
    ∙ and_from _ _ ft (and_from _ _ fa (and_from _ _ fb (and_from _ _ fc fd)))))
  where
    parted : (f i t s a b c d k : List ℕ) → f ++ (i ++ t ++ ((s ++ a) ++ s ++ b) ++ ((s ++ c) ++ s ++ d) ++ k) ≡ (f ++ ((i ++ (t ++ (s ++ (a ++ (s ++ (b ++ (s ++ (c ++ s)))))))) ++ d)) ++ k
    parted f i t s a b c d k = simp append_assoc refl

prologue_made : (levels : List Level) (cases : List Case) (p : Tr) → Fit levels cases → tr_fits p ≡ true
    → (bs : List ℕ) (o : Open) (rest : List ℕ) → close_prologue levels cases p bs ≡ Some (o, rest) → Makes (before levels cases ++ (pending_text pending.Prologue ++ tr_text p)) bs o rest
unfolding close_prologue
prologue_made levels cases p h fp =
    made (before levels cases ++ (pending_text pending.Prologue ++ tr_text p)) (behind (codes " ") (closed (follow outs (behind (codes " ") outs)) (codes " {")))
    (λ z. codes " " ++ ((outs_text z.0 ++ (codes " " ++ outs_text z.1)) ++ codes " {")) (λ z. OutsFit z.0 × OutsFit z.1)
    (λ z. in_case levels cases (pending.Body p z.0 z.1)) (behind_reads (codes " ") reads.two_open).only
    (λ z. in_text levels cases (pending.Body p z.0 z.1) ∙ parted (before levels cases) (codes "while(") (tr_text p) (codes " ") (outs_text z.0) (outs_text z.1) (codes "{"))
    (λ z k. in_fits levels cases (pending.Body p z.0 z.1) h (and_from (tr_fits p) (outs_fit z.0 && outs_fit z.1) fp (and_from (outs_fit z.0) (outs_fit z.1) k.0 k.1)))
  where
    parted : (f w p s t a l : List ℕ) → f ++ ((w ++ (p ++ (s ++ (t ++ (s ++ (a ++ s)))))) ++ l) ≡ (f ++ (w ++ p)) ++ (s ++ ((t ++ (s ++ a)) ++ (s ++ l)))
    parted f w p s t a l = simp append_assoc refl

body_made : (levels : List Level) (cases : List Case) (p : Tr) (t a : List Out) (b : Tr) → Fit levels cases → tr_fits p ≡ true → OutsFit t → OutsFit a → tr_fits b ≡ true
    → (bs : List ℕ) (o : Open) (rest : List ℕ) → close_body levels cases p t a b bs ≡ Some (o, rest) → Makes (before levels cases ++ (pending_text (pending.Body p t a) ++ tr_text b)) bs o rest
unfolding close_body
body_made levels cases p t a b h fp ft fa fb =
    made (before levels cases ++ (pending_text (pending.Body p t a) ++ tr_text b)) (behind (codes " ") (closed outs (codes ")"))) (λ os. codes " " ++ (outs_text os ++ codes ")")) OutsFit
    (λ os. with_case levels cases (case.While p t a b os)) (behind_reads (codes " ") reads.one_closed).only
    (λ os. with_text levels cases (case.While p t a b os) ∙ ap (λ z. before levels cases ++ z) (reads.while_text_is p t a b os)
    ∙ parted (before levels cases) (codes "while(") (tr_text p) (codes " ") (outs_text t) (outs_text a) (tr_text b) (outs_text os) (codes ")"))
    (λ os k. with_fits levels cases (case.While p t a b os) h (reads.while_fits_is p t a b os
    ∙ and_from _ _ fp (and_from _ _ ft (and_from _ _ fa (and_from _ _ fb k)))))
  where
    parted : (f w p s t a b c k : List ℕ) → f ++ (w ++ p ++ (s ++ t) ++ ((s ++ a) ++ s ++ b) ++ (s ++ c) ++ k) ≡ (f ++ ((w ++ (p ++ (s ++ (t ++ (s ++ (a ++ s)))))) ++ b)) ++ (s ++ (c ++ k))
    parted f w p s t a b c k = simp append_assoc refl

callee_made : (levels : List Level) (cases : List Case) (a : List Out) (b : Tr) → Fit levels cases → OutsFit a → tr_fits b ≡ true
    → (bs : List ℕ) (o : Open) (rest : List ℕ) → close_callee levels cases a b bs ≡ Some (o, rest) → Makes (before levels cases ++ (pending_text (pending.Callee a) ++ tr_text b)) bs o rest
unfolding close_callee
callee_made levels cases a b h fa fb =
    made (before levels cases ++ (pending_text (pending.Callee a) ++ tr_text b)) (behind (codes " ") (closed outs (codes ")"))) (λ os. codes " " ++ (outs_text os ++ codes ")")) OutsFit
    (λ os. with_case levels cases (case.Call a b os)) (behind_reads (codes " ") reads.one_closed).only
    (λ os. with_text levels cases (case.Call a b os) ∙ ap (λ z. before levels cases ++ z) (reads.call_text_is a b os)
    ∙ parted (before levels cases) (codes "call(") (outs_text a) (codes " ") (tr_text b) (outs_text os) (codes ")"))
    (λ os k. with_fits levels cases (case.Call a b os) h (reads.call_fits_is a b os ∙ and_from _ _ fa (and_from _ _ fb k)))
  where
    parted : (f w a s b c k : List ℕ) → f ++ (w ++ a ++ s ++ b ++ (s ++ c) ++ k) ≡ (f ++ ((w ++ (a ++ s)) ++ b)) ++ (s ++ (c ++ k))
    parted f w a s b c k = simp append_assoc refl

-- rounds, each with a space behind it, and a last one
rounds_text : (ts : List Tr) (t : Tr) → concat (map (λ u. tr_text u ++ codes " ") ts) ++ tr_text t ≡ spaced_pieces (map tr_text (ts ++ t ∷ []))
rounds_text [] t = refl
rounds_text (u ∷ us) t =
    append_assoc (tr_text u ++ codes " ") (concat (map (λ v. tr_text v ++ codes " ") us)) (tr_text t)
    ∙ ap (λ z. (tr_text u ++ codes " ") ++ z) (rounds_text us t)
    ∙ append_assoc (tr_text u) (codes " ") (spaced_pieces (map tr_text (us ++ t ∷ [])))
    ∙ joined us
  where
    joined : (vs : List Tr) → tr_text u ++ (codes " " ++ spaced_pieces (map tr_text (vs ++ t ∷ []))) ≡ spaced_pieces (map tr_text (u ∷ (vs ++ t ∷ [])))
    joined [] = refl
    joined (v ∷ vs) = refl

round_made : (levels : List Level) (cases : List Case) (ts : List Tr) (t : Tr) → Fit levels cases → list_all tr_fits ts ≡ true → tr_fits t ≡ true
    → (bs : List ℕ) (o : Open) (rest : List ℕ) → close_round levels cases (ts ++ t ∷ []) bs ≡ Some (o, rest) → Makes (before levels cases ++ (pending_text (pending.Round ts) ++ tr_text t)) bs o rest
unfolding close_round
round_made levels cases ts t h fs ft =
    let all = ts ++ t ∷ [] in
    let front = before levels cases ++ (pending_text (pending.Round ts) ++ tr_text t) in
    let texts = ap (λ z. before levels cases ++ (codes "for(" ++ z)) (sym (rounds_text ts t)) in
    made_pick front (codes ")") (λ bs. through (λ u. with_case levels cases (case.For all)) (literal (codes ")") bs)) (λ bs. through (λ u. in_case levels cases (pending.Round all)) (literal (codes " {") bs))
    (made front (literal (codes ")")) (λ u. codes ")") (λ u. Unit {0}) (λ u. with_case levels cases (case.For all)) (literal_reads (codes ")")).only
    (λ u. with_text levels cases (case.For all) ∙ ap (λ z. before levels cases ++ z) (reads.for_text_is all)
    ∙ ap (λ z. before levels cases ++ (codes "for(" ++ (z ++ codes ")"))) (sym (rounds_text ts t))
    ∙ ended (before levels cases) (codes "for(") (concat (map (λ u. tr_text u ++ codes " ") ts)) (tr_text t) (codes ")"))
    (λ u k. with_fits levels cases (case.For all) h (reads.for_fits_is all ∙ all_push tr_fits ts t fs ft)))
    (made front (literal (codes " {")) (λ u. codes " {") (λ u. Unit {0}) (λ u. in_case levels cases (pending.Round all)) (literal_reads (codes " {")).only
    (λ u. in_text levels cases (pending.Round all) ∙ ap (λ z. before levels cases ++ ((codes "for(" ++ z) ++ codes "{")) (concat_push (λ v. tr_text v ++ codes " ") ts t)
    ∙ further (before levels cases) (codes "for(") (concat (map (λ u. tr_text u ++ codes " ") ts)) (tr_text t) (codes " ") (codes "{"))
    (λ u k. in_fits levels cases (pending.Round all) h (all_push tr_fits ts t fs ft)))
  where
    ended : (f w r t k : List ℕ) → f ++ (w ++ ((r ++ t) ++ k)) ≡ (f ++ ((w ++ r) ++ t)) ++ k
    ended f w r t k = simp append_assoc refl

    further : (f w r t s l : List ℕ) → f ++ ((w ++ (r ++ (t ++ s))) ++ l) ≡ (f ++ ((w ++ r) ++ t)) ++ (s ++ l)
    further f w r t s l = simp append_assoc refl

close_in_made : (levels : List Level) (cases : List Case) (p : Pending) (t : Tr) → Fit levels cases → pending_fits p ≡ true → tr_fits t ≡ true
    → (bs : List ℕ) (o : Open) (rest : List ℕ) → close_in levels cases p t bs ≡ Some (o, rest) → Makes (before levels cases ++ (pending_text p ++ tr_text t)) bs o rest
close_in_made levels cases (pending.Then a b) t h k f = let p = and_parts _ _ k in then_made levels cases a b t h p.0 p.1 f
close_in_made levels cases (pending.Else a b u c) t h k f =
    let p = and_parts _ _ k in
    let q = and_parts _ _ p.1 in
    let r = and_parts _ _ q.1 in
    else_made levels cases a b u c t h p.0 q.0 r.0 r.1 f
close_in_made levels cases pending.Prologue t h k f = prologue_made levels cases t h f
close_in_made levels cases (pending.Body u a b) t h k f =
    let p = and_parts _ _ k in
    let q = and_parts _ _ p.1 in
    body_made levels cases u a b t h p.0 q.0 q.1 f
close_in_made levels cases (pending.Round ts) t h k f = round_made levels cases ts t h k f
close_in_made levels cases (pending.Callee a) t h k f = callee_made levels cases a t h k f

-- ---- the last level
last_none : (ls : List Level) → last_of ls ≡ None → ls ≡ []
last_none [] e = refl
last_none (l ∷ ls) e = clash (last_of ls) e
  where
    clash : (r : Option (List Level × Level)) → with_first l r ≡ None → (l ∷ ls) ≡ []
    clash None e = none_some ([], l) _ (sym e)
    clash (Some p) e = none_some (l ∷ p.0, p.1) _ (sym e)

last_some : (ls : List Level) (p : List Level × Level) → last_of ls ≡ Some p → ls ≡ p.0 ++ p.1 ∷ []
last_some [] p e = none_some p _ e
last_some (l ∷ ls) p e = by_last ls p (last_of ls) refl (λ q f. last_some ls q f) e
  where
    by_last : (ls : List Level) (p : List Level × Level) (r : Option (List Level × Level)) → last_of ls ≡ r → ((q : List Level × Level) → last_of ls ≡ Some q → ls ≡ q.0 ++ q.1 ∷ []) → with_first l r ≡ Some p
        → (l ∷ ls) ≡ p.0 ++ p.1 ∷ []
    by_last ls p None f k e =
        let same = some_same ([], l) p e in
        ap (λ z. l ∷ z) (last_none ls f) ∙ ap (λ (z : List Level × Level). z.0 ++ z.1 ∷ []) same
    by_last ls p (Some q) f k e =
        let same = some_same (l ∷ q.0, q.1) p e in
        ap (λ z. l ∷ z) (k q f) ∙ ap (λ (z : List Level × Level). z.0 ++ z.1 ∷ []) same

-- ---- a step
abbrev pub Stepped : List ℕ → List ℕ → Step → List ℕ → Type 0
Stepped front bs x rest = (front ++ bs ≡ step_text x ++ rest) × (step_fits x ≡ true)

from_made : (front bs : List ℕ) (o : Open) (rest : List ℕ) → Makes front bs o rest → Stepped front bs (step.Going o) rest
from_made front bs o rest m = (ap (λ z. front ++ z) m.1 ∙ sym (append_assoc front m.0 rest) ∙ ap (λ z. z ++ rest) (sym m.2), m.3)

going_made : (front : List ℕ) (g : Reader Open) (bs : List ℕ) (x : Step) (rest : List ℕ) → ((o : Open) (more : List ℕ) → g bs ≡ Some (o, more) → Makes front bs o more) → through step.Going (g bs) ≡ Some (x, rest) → Stepped front bs x rest
going_made front g bs x rest h e =
    let p = through_parts step.Going (g bs) (x, rest) e in
    let Is : Step × List ℕ → Type 0 = λ z. Stepped front bs z.0 z.1 in
    subst Is p.2 (from_made front bs p.0.0 p.0.1 (h p.0.0 p.0.1 p.1))

tree_text : (cases : List Case) → cases_text cases ++ codes "}" ≡ tr_text (record { cases = cases })
tree_text cases = append_assoc (codes "{") (spaced_pieces (map case_text cases)) (codes "}") ∙ sym (tr_text_is (record { cases = cases }))

closed_front : (ls cs sp pt ct e bs : List ℕ) → (((ls ++ (cs ++ (sp ++ pt))) ++ ct) ++ (e ++ bs)) ≡ (((ls ++ (cs ++ sp)) ++ (pt ++ (ct ++ e))) ++ bs)
closed_front ls cs sp pt ct e bs = simp append_assoc refl

close_made : (levels : List Level) (cases : List Case) (r : Option (List Level × Level)) → last_of levels ≡ r → open_fits (opened levels cases) ≡ true
    → (bs : List ℕ) (x : Step) (rest : List ℕ) → close_by r (record { cases = cases }) bs ≡ Some (x, rest) → Stepped (open_text (opened levels cases)) (codes "}" ++ bs) x rest
close_made levels cases None l h bs x rest e =
    let t : Tr = record { cases = cases } in
    let f = and_parts _ _ h in
    let front : open_text (opened levels cases) ++ (codes "}" ++ bs) ≡ tr_text t ++ bs =
    ap (λ z. (levels_text z ++ cases_text cases) ++ (codes "}" ++ bs)) (last_none levels l) ∙ sym (append_assoc (cases_text cases) (codes "}") bs) ∙ ap (λ z. z ++ bs) (tree_text cases) in
    let Is : Step × List ℕ → Type 0 = λ z. Stepped (open_text (opened levels cases)) (codes "}" ++ bs) z.0 z.1 in
    subst Is (some_same (step.Done t, bs) (x, rest) e) (front, tr_fits_is t ∙ f.1)
close_made levels cases (Some p) l h bs x rest e =
    let t : Tr = record { cases = cases } in
    let whole = last_some levels p l in
    let f = and_parts _ _ h in
    let g = all_last level_fits p.0 p.1 (ap (list_all level_fits) (sym whole) ∙ f.0) in
    let k = and_parts _ _ g.1 in
    let front = before p.0 p.1.cases ++ (pending_text p.1.pending ++ tr_text t) in
    let shape : open_text (opened levels cases) ++ (codes "}" ++ bs) ≡ front ++ bs =
    ap (λ z. (levels_text z ++ cases_text cases) ++ (codes "}" ++ bs)) whole
    ∙ ap (λ z. (z ++ cases_text cases) ++ (codes "}" ++ bs)) (concat_push level_text p.0 p.1)
    ∙ closed_front (levels_text p.0) (cases_text p.1.cases) (space_after p.1.cases) (pending_text p.1.pending) (cases_text cases) (codes "}") bs
    ∙ ap (λ z. (before p.0 p.1.cases ++ (pending_text p.1.pending ++ z)) ++ bs) (tree_text cases) in
    let s = going_made front (close_in p.0 p.1.cases p.1.pending t) bs x rest (λ o more. close_in_made p.0 p.1.cases p.1.pending t (g.0, k.0) k.1 (tr_fits_is t ∙ f.1) bs o more) e in
    (shape ∙ s.0, s.1)

pub step_made : (o : Open) (bs : List ℕ) (x : Step) (rest : List ℕ) → open_fits o ≡ true → one_step o bs ≡ Some (x, rest) → Stepped (open_text o) bs x rest
unfolding one_step close
step_made o bs x rest h e = by_cases (Stepped (open_text o) bs x rest) (begins (codes "}") bs)
    (λ b.
    let p = behind_only (codes "}") (λ z. close_by (last_of o.levels) (record { cases = o.cases }) z) bs (x, rest)
    (sym (if_true (begins (codes "}") bs) (behind (codes "}") (λ z. close_by (last_of o.levels) (record { cases = o.cases }) z) bs) (through step.Going (next_case o bs)) b) ∙ e) in
    let s = close_made o.levels o.cases (last_of o.levels) refl h p.0 x rest p.2 in
    (ap (λ z. open_text o ++ z) p.1 ∙ s.0, s.1))
    (λ b.
    let f = and_parts _ _ h in
    going_made (open_text o) (next_case o) bs x rest (λ p more. next_made o.levels o.cases (f.0, f.1) bs p more)
    (sym (if_false (begins (codes "}") bs) (behind (codes "}") (λ z. close_by (last_of o.levels) (record { cases = o.cases }) z) bs) (through step.Going (next_case o bs)) b) ∙ e))

-- ---- each step takes a byte
abbrev Shorter : Reader Open → Type 0
Shorter g = (bs : List ℕ) (o : Open) (rest : List ℕ) → g bs ≡ Some (o, rest) → length rest < length bs

abbrev NoLonger : Reader Open → Type 0
NoLonger g = (bs : List ℕ) (o : Open) (rest : List ℕ) → g bs ≡ Some (o, rest) → length rest ≤ length bs

made_no_longer : (front : List ℕ) (g : Reader Open) → ((bs : List ℕ) (o : Open) (rest : List ℕ) → g bs ≡ Some (o, rest) → Makes front bs o rest) → NoLonger g
made_no_longer front g h bs o rest e = let m = h bs o rest e in omega (arith, ap length m.1, length-append m.0 rest)

behind_shorter : (w : List ℕ) (g : Reader Open) → 0 < length w → NoLonger g → Shorter (behind w g)
behind_shorter w g some h bs o rest e =
    let b = behind_only w g bs (o, rest) e in
    omega (arith, some, ap length b.1, length-append w b.0, h b.0 o rest b.2)

pick_shorter : (w : List ℕ) (f g : Reader Open) → Shorter f → Shorter g → Shorter (pick w f g)
pick_shorter w f g h k bs o rest e = by_cases (length rest < length bs) (begins w bs)
    (λ b. h bs o rest (sym (if_true (begins w bs) (f bs) (g bs) b) ∙ e))
    (λ b. k bs o rest (sym (if_false (begins w bs) (f bs) (g bs) b) ∙ e))

a_case_shorter : (levels : List Level) (cases : List Case) → Fit levels cases → Shorter (a_case levels cases)
unfolding a_case
a_case_shorter levels cases h =
    pick_shorter (codes "op") _ _ (behind_shorter (codes "op") (op_case levels cases) (omega arith) (made_no_longer _ (op_case levels cases) (op_made levels cases h)))
    (pick_shorter (codes "if(") _ _ (behind_shorter (codes "if(") (if_case levels cases) (omega arith) (made_no_longer _ (if_case levels cases) (if_made levels cases h)))
    (pick_shorter (codes "while(") _ _ (behind_shorter (codes "while(") (while_case levels cases) (omega arith) (made_no_longer _ (while_case levels cases) (while_made levels cases h)))
    (pick_shorter (codes "for(") _ _ (behind_shorter (codes "for(") (for_case levels cases) (omega arith) (made_no_longer _ (for_case levels cases) (for_made levels cases h)))
    (behind_shorter (codes "call(") (call_case levels cases) (omega arith) (made_no_longer _ (call_case levels cases) (call_made levels cases h))))))

next_shorter : (levels : List Level) (cases : List Case) → Fit levels cases → Shorter (next_case (opened levels cases))
unfolding next_case
next_shorter levels [] h bs o rest e = a_case_shorter levels [] h bs o rest e
next_shorter levels (c ∷ cs) h bs o rest e =
    behind_shorter (codes " ") (a_case levels (c ∷ cs)) (omega arith) (λ b p r f. (let s = a_case_shorter levels (c ∷ cs) h b p r f in omega (arith, s))) bs o rest e

close_no_longer : (levels : List Level) (cases : List Case) (r : Option (List Level × Level)) → last_of levels ≡ r → open_fits (opened levels cases) ≡ true
    → (bs : List ℕ) (x : Step) (rest : List ℕ) → close_by r (record { cases = cases }) bs ≡ Some (x, rest) → length rest ≤ length bs
close_no_longer levels cases None l h bs x rest e = omega (arith, ap (λ z. length z.1) (some_same (step.Done (record { cases = cases }), bs) (x, rest) e))
close_no_longer levels cases (Some p) l h bs x rest e =
    let t : Tr = record { cases = cases } in
    let f = and_parts _ _ h in
    let g = all_last level_fits p.0 p.1 (ap (list_all level_fits) (sym (last_some levels p l)) ∙ f.0) in
    let k = and_parts _ _ g.1 in
    let y = through_parts step.Going (close_in p.0 p.1.cases p.1.pending t bs) (x, rest) e in
    let m = close_in_made p.0 p.1.cases p.1.pending t (g.0, k.0) k.1 (tr_fits_is t ∙ f.1) bs y.0.0 y.0.1 y.1 in
    omega (arith, ap length m.1, length-append m.0 y.0.1, ap (λ z. length z.1) y.2)

pub step_shorter : (o : Open) (bs : List ℕ) (x : Step) (rest : List ℕ) → open_fits o ≡ true → one_step o bs ≡ Some (x, rest) → length rest < length bs
unfolding one_step close
step_shorter o bs x rest h e = by_cases (length rest < length bs) (begins (codes "}") bs)
    (λ b.
    let p = behind_only (codes "}") (λ z. close_by (last_of o.levels) (record { cases = o.cases }) z) bs (x, rest)
    (sym (if_true (begins (codes "}") bs) (behind (codes "}") (λ z. close_by (last_of o.levels) (record { cases = o.cases }) z) bs) (through step.Going (next_case o bs)) b) ∙ e) in
    omega (arith, ap length p.1, length-append (codes "}") p.0, close_no_longer o.levels o.cases (last_of o.levels) refl h p.0 x rest p.2))
    (λ b.
    let f = and_parts _ _ h in
    let y = through_parts step.Going (next_case o bs) (x, rest)
    (sym (if_false (begins (codes "}") bs) (behind (codes "}") (λ z. close_by (last_of o.levels) (record { cases = o.cases }) z) bs) (through step.Going (next_case o bs)) b) ∙ e) in
    omega (arith, next_shorter o.levels o.cases (f.0, f.1) bs y.0.0 y.0.1 y.1, ap (λ z. length z.1) y.2))
