-- Each tree is read by the steps, whatever follows it.
use Rattle.std.proofs.Common.{◌≡◌, ℕ, zero, suc, ◌+◌, ◌<◌, Bool, true, false, ◌&&◌, List, [], ◌∷◌, ◌++◌, length, Option, Some, None, refl, sym, ap, ◌∙◌, subst, append_assoc, append-nil, arith, if◌then◌else◌}
use Rattle.std.specs.Prelude.{map, codes}
use Rattle.std.specs.List.{concat, list_all}
use Rattle.std.proofs.lemmas.Bool.{and_parts, and_from}
use Rattle.std.proofs.lemmas.List.Folds.{list_all-map}
use Rattle.jz_leak.specs.declared.transformer.Out.{Out}
use Rattle.jz_leak.specs.declared.transformer.Tr.{Tr}
use Rattle.jz_leak.specs.declared.transformer.Case.{Case}
use Rattle.jz_leak.specs.declared.transformer.Case.TheVariants as case
use Rattle.jz_leak.specs.declared.transformer.Case.TheOpen.{Case-F, Tr-F}
use Rattle.jz_leak.specs.declared.transformer.Case.TheViews.{roll-Case, roll-Tr}
use Rattle.jz_leak.specs.declared.transformer.Case.TheFolds.{map-Case, fold-roll-Case, fold-roll-Tr, ind-Tr}
use Rattle.jz_listing.specs.Transformers.{spaced_pieces, outs_text, case_layer_text, tr_layer_text, case_text, tr_text}
use Rattle.jz_listing.specs.Listable.{outs_fit, parts_fit, case_layer_fits, tr_layer_fits, case_fits, tr_fits}
use Rattle.jz_lex.specs.LexingWords.{begins}
use Rattle.jz_lex.proofs.LexingWords.{if_true, if_false}
use Rattle.jz_listing_lines.specs.declared.frames.Pending.{Pending}
use Rattle.jz_listing_lines.specs.declared.frames.Pending.TheVariants as pending
use Rattle.jz_listing_lines.specs.declared.frames.Level.{Level}
use Rattle.jz_listing_lines.specs.declared.frames.Open.{Open}
use Rattle.jz_listing_lines.specs.declared.frames.Step.{Step}
use Rattle.jz_listing_lines.specs.declared.frames.Step.TheVariants as step
use Rattle.jz_listing_lines.specs.InnerReaders.{Answer, Reader, ◌>>=◌, through, literal, behind, follow, closed}
use Rattle.jz_listing_lines.specs.InnerPieces.{outs}
use Rattle.jz_listing_lines.specs.InnerTrees.{start, with_case, in_case, op_case, if_case, while_case, for_case, call_case, a_case, next_case, close_then, close_else, close_prologue, close_body, close_round, close_callee, close_in, close_by, close, one_step, after, go_on, space_after}
use Rattle.jz_listing_lines.proofs.ReaderLaws.{Reads, Always, some_same, none_some, bind_parts, literal_back, behind_back, behind_reads, follow_reads, closed_reads, all_text}
use Rattle.jz_listing_lines.proofs.Pieces.{outs_reads, spaced_is}
use Rattle.jz_listing_lines.proofs.Levels.{last_push}

-- ---- steps one after another
abbrev pub Leads : Open → List ℕ → Step → List ℕ → Type 0
Leads o bs x rest = (n : ℕ) × (after n o bs ≡ Some (x, rest))

pub here : (o : Open) (bs : List ℕ) → Leads o bs (step.Going o) bs
here o bs = (zero, refl)

pub step_first : (o p : Open) (bs cs : List ℕ) (x : Step) (rest : List ℕ) → one_step o bs ≡ Some (step.Going p, cs) → Leads p cs x rest → Leads o bs x rest
step_first o p bs cs x rest e h = (suc h.0, ap (λ z. z >>= λ y. go_on (after h.0) y.0 y.1) e ∙ h.1)

pub step_last : (o : Open) (bs : List ℕ) (t : Tr) (rest : List ℕ) → one_step o bs ≡ Some (step.Done t, rest) → Leads o bs (step.Done t) rest
step_last o bs t rest e = (suc zero, ap (λ z. z >>= λ y. go_on (after zero) y.0 y.1) e)

abbrev LeadsFrom : Step → List ℕ → Step → List ℕ → Type 0
LeadsFrom (step.Done t) bs x rest = ⊥
LeadsFrom (step.Going o) bs x rest = Leads o bs x rest

abbrev going : Step → Bool
going (step.Done t) = false
going (step.Going o) = true

done_clash : (t : Tr) (o : Open) (bs cs : List ℕ) (P : Type 0) → ◌≡◌ {A = Answer Step} (Some (step.Done t, bs)) (Some (step.Going o, cs)) → P
done_clash t o bs cs P e =
    absurd (let same : false ≡ true = ap (λ (z : Step × List ℕ). going z.0) (some_same (step.Done t, bs) (step.Going o, cs) e) in let no : ⊥ = cc in no)

join_at : (m : ℕ) (o p : Open) (bs cs : List ℕ) (x : Step) (rest : List ℕ) → after m o bs ≡ Some (step.Going p, cs) → Leads p cs x rest → Leads o bs x rest
join_at zero o p bs cs x rest e h =
    let same = some_same (step.Going o, bs) (step.Going p, cs) e in
    let Is : Step × List ℕ → Type 0 = λ z. LeadsFrom z.0 z.1 x rest in
    subst Is (sym same) h
join_at (suc m) o p bs cs x rest e h =
    let y = bind_parts (one_step o bs) (λ z. go_on (after m) z.0 z.1) (step.Going p, cs) e in
    by_step m o p bs cs y.0.1 x rest y.0.0 y.1 y.2 (λ q f. join_at m q p y.0.1 cs x rest f h)
  where
    by_step : (m : ℕ) (o p : Open) (bs cs ds : List ℕ) (x : Step) (rest : List ℕ) (s : Step) → one_step o bs ≡ Some (s, ds) → go_on (after m) s ds ≡ Some (step.Going p, cs)
        → ((q : Open) → after m q ds ≡ Some (step.Going p, cs) → Leads q ds x rest) → Leads o bs x rest
    by_step m o p bs cs ds x rest (step.Done t) f g k = done_clash t p ds cs _ g
    by_step m o p bs cs ds x rest (step.Going q) f g k = step_first o q bs ds x rest f (k q g)

pub join : (o p : Open) (bs cs : List ℕ) (x : Step) (rest : List ℕ) → Leads o bs (step.Going p) cs → Leads p cs x rest → Leads o bs x rest
join o p bs cs x rest h k = join_at h.0 o p bs cs x rest h.1 k

abbrev pub opened : List Level → List Case → Open
opened levels cases = record { levels = levels; cases = cases }

abbrev pub level_of : List Case → Pending → Level
level_of cases p = record { cases = cases; pending = p }

-- ---- single steps
case_step : (levels : List Level) (cases : List Case) (bs : List ℕ) (o : Open) (rest : List ℕ) → begins (codes "}") bs ≡ false → a_case levels cases bs ≡ Some (o, rest)
    → one_step (opened levels cases) (space_after cases ++ bs) ≡ Some (step.Going o, rest)
unfolding one_step next_case
case_step levels [] bs o rest h e = if_false (begins (codes "}") bs) _ _ h ∙ ap (through step.Going) e
case_step levels (c ∷ cs) bs o rest h e =
    ap (through step.Going) (behind_back (codes " ") (a_case levels (c ∷ cs)) bs ∙ e)

close_step : (levels : List Level) (cases inner : List Case) (p : Pending) (bs : List ℕ) (o : Open) (rest : List ℕ) → close_in levels cases p (record { cases = inner }) bs ≡ Some (o, rest)
    → one_step (opened (levels ++ level_of cases p ∷ []) inner) (codes "}" ++ bs) ≡ Some (step.Going o, rest)
unfolding one_step close
close_step levels cases inner p bs o rest e =
    behind_back (codes "}") (close (opened (levels ++ level_of cases p ∷ []) inner)) bs
    ∙ ap (λ z. close_by z (record { cases = inner }) bs) (last_push levels (level_of cases p))
    ∙ ap (through step.Going) e

pub end_step : (cases : List Case) (bs : List ℕ) → one_step (opened [] cases) (codes "}" ++ bs) ≡ Some (step.Done (record { cases = cases }), bs)
unfolding one_step close
end_step cases bs = behind_back (codes "}") (close (opened [] cases)) bs

-- ---- what stands in a tree
abbrev pub inner_text : Tr → List ℕ
inner_text t = spaced_pieces (map case_text t.cases)

pub tr_text_is : (t : Tr) → tr_text t ≡ codes "{" ++ (inner_text t ++ codes "}")
tr_text_is t = fold-roll-Tr _ _ case_layer_text tr_layer_text (record { cases = t.cases }) ∙ append_assoc (codes "{") (inner_text t) (codes "}")

pub tr_fits_is : (t : Tr) → tr_fits t ≡ list_all case_fits t.cases
tr_fits_is t = fold-roll-Tr _ _ case_layer_fits tr_layer_fits (record { cases = t.cases }) ∙ list_all-map (λ z. z) case_fits t.cases

abbrev CaseLaw : Case → Type 0
CaseLaw c = (levels : List Level) (cases : List Case) (rest : List ℕ) → case_fits c ≡ true
    → Leads (opened levels cases) (space_after cases ++ (case_text c ++ rest)) (step.Going (opened levels (cases ++ c ∷ []))) rest

abbrev pub TrLaw : Tr → Type 0
TrLaw t = (levels : List Level) (rest : List ℕ) → tr_fits t ≡ true → Leads (opened levels []) (inner_text t ++ rest) (step.Going (opened levels t.cases)) rest

-- ---- pieces of cases
abbrev pub OutsFit : List Out → Type 0
OutsFit os = outs_fit os ≡ true

two_reads : Reads (follow outs (behind (codes " ") outs)) (λ p. outs_text p.0 ++ (codes " " ++ outs_text p.1)) (λ p. OutsFit p.0 × OutsFit p.1) Always
two_reads = follow_reads outs_reads (behind_reads (codes " ") outs_reads) (λ b rest h k. tt)

pub two_open : Reads (closed (follow outs (behind (codes " ") outs)) (codes " {")) (λ p. (outs_text p.0 ++ (codes " " ++ outs_text p.1)) ++ codes " {") (λ p. OutsFit p.0 × OutsFit p.1) Always
two_open = closed_reads (codes " {") two_reads (λ rest. tt)

pub one_open : Reads (closed outs (codes " {")) (λ os. outs_text os ++ codes " {") OutsFit Always
one_open = closed_reads (codes " {") outs_reads (λ rest. tt)

pub one_closed : Reads (closed outs (codes ")")) (λ os. outs_text os ++ codes ")") OutsFit Always
one_closed = closed_reads (codes ")") outs_reads (λ rest. tt)

-- ---- an operation
pub op_text_is : (os : List Out) → case_text (case.Op os) ≡ codes "op" ++ outs_text os
op_text_is os = ap case_text (sym (case.rolls-Op os)) ∙ fold-roll-Case _ _ case_layer_text tr_layer_text (Case-F.Op os)

pub op_fits_is : (os : List Out) → case_fits (case.Op os) ≡ outs_fit os
op_fits_is os = ap case_fits (sym (case.rolls-Op os)) ∙ fold-roll-Case _ _ case_layer_fits tr_layer_fits (Case-F.Op os)

op_begins : (levels : List Level) (cases : List Case) (os : List Out) (rest : List ℕ) → OutsFit os → a_case levels cases (codes "op" ++ (outs_text os ++ rest)) ≡ Some (with_case levels cases (case.Op os), rest)
unfolding a_case op_case
op_begins levels cases os rest h =
    behind_back (codes "op") (op_case levels cases) (outs_text os ++ rest) ∙ ap (through (λ z. with_case levels cases (case.Op z))) (outs_reads.back os rest h tt)

op_law : (os : List Out) → CaseLaw (case.Op os)
op_law os levels cases rest h =
    let shape : case_text (case.Op os) ++ rest ≡ codes "op" ++ (outs_text os ++ rest) = ap (λ z. z ++ rest) (op_text_is os) ∙ append_assoc (codes "op") (outs_text os) rest in
    let done = opened levels (cases ++ case.Op os ∷ []) in
    let From : List ℕ → Type 0 = λ z. Leads (opened levels cases) (space_after cases ++ z) (step.Going done) rest in
    subst From (sym shape)
    (step_first (opened levels cases) done (space_after cases ++ (codes "op" ++ (outs_text os ++ rest))) rest (step.Going done) rest
    (case_step levels cases (codes "op" ++ (outs_text os ++ rest)) done rest refl (op_begins levels cases os rest (sym (op_fits_is os) ∙ h))) (here done rest))

-- ---- an `if`
pub if_text_is : (t a : List Out) (b : Tr) (c : List Out) (d : Tr)
    → case_text (case.If t a b c d) ≡ case_layer_text (Case-F.If t a (tr_text b) c (tr_text d))
if_text_is t a b c d = ap case_text (sym (case.rolls-If t a b c d)) ∙ fold-roll-Case _ _ case_layer_text tr_layer_text (Case-F.If t a b c d)

pub if_fits_is : (t a : List Out) (b : Tr) (c : List Out) (d : Tr)
    → case_fits (case.If t a b c d) ≡ (outs_fit t && (outs_fit a && (tr_fits b && (outs_fit c && tr_fits d))))
if_fits_is t a b c d = ap case_fits (sym (case.rolls-If t a b c d)) ∙ fold-roll-Case _ _ case_layer_fits tr_layer_fits (Case-F.If t a b c d)

if_begins : (levels : List Level) (cases : List Case) (t a : List Out) (rest : List ℕ) → OutsFit t → OutsFit a
    → a_case levels cases (codes "if(" ++ (((outs_text t ++ (codes " " ++ outs_text a)) ++ codes " {") ++ rest)) ≡ Some (in_case levels cases (pending.Then t a), rest)
unfolding a_case if_case
if_begins levels cases t a rest h k =
    behind_back (codes "if(") (if_case levels cases) (((outs_text t ++ (codes " " ++ outs_text a)) ++ codes " {") ++ rest)
    ∙ ap (through (λ (p : List Out × List Out). in_case levels cases (pending.Then p.0 p.1))) (two_open.back (t, a) rest (h, k) tt)

then_closes : (levels : List Level) (cases : List Case) (t a : List Out) (b : Tr) (c : List Out) (rest : List ℕ) → OutsFit c
    → close_in levels cases (pending.Then t a) b (codes " " ++ ((outs_text c ++ codes " {") ++ rest)) ≡ Some (in_case levels cases (pending.Else t a b c), rest)
unfolding close_then
then_closes levels cases t a b c rest h =
    ap (through (λ os. in_case levels cases (pending.Else t a b os))) (behind_back (codes " ") (closed outs (codes " {")) ((outs_text c ++ codes " {") ++ rest) ∙ one_open.back c rest h tt)

else_closes : (levels : List Level) (cases : List Case) (t a : List Out) (b : Tr) (c : List Out) (d : Tr) (rest : List ℕ)
    → close_in levels cases (pending.Else t a b c) d (codes ")" ++ rest) ≡ Some (with_case levels cases (case.If t a b c d), rest)
unfolding close_else
else_closes levels cases t a b c d rest = ap (through (λ u. with_case levels cases (case.If t a b c d))) (literal_back (codes ")") rest)

if_shape : (i t s a l b r c d k rest : List ℕ)
    → (i ++ t ++ ((s ++ a) ++ s ++ (l ++ (b ++ r))) ++ ((s ++ c) ++ s ++ (l ++ (d ++ r))) ++ k) ++ rest
    ≡ i ++ (((t ++ (s ++ a)) ++ (s ++ l)) ++ (b ++ (r ++ (s ++ ((c ++ (s ++ l)) ++ (d ++ (r ++ (k ++ rest))))))))
if_shape i t s a l b r c d k rest = simp append_assoc refl

if_law : (t a : List Out) (b : Tr) (c : List Out) (d : Tr) → TrLaw b → TrLaw d → CaseLaw (case.If t a b c d)
if_law t a b c d lb ld levels cases rest h =
    let h1 = and_parts _ _ (sym (if_fits_is t a b c d) ∙ h) in
    let h2 = and_parts _ _ h1.1 in
    let h3 = and_parts _ _ h2.1 in
    let h4 = and_parts _ _ h3.1 in
    let b5 = codes ")" ++ rest in
    let b4 = codes "}" ++ b5 in
    let b3 = codes " " ++ ((outs_text c ++ codes " {") ++ (inner_text d ++ b4)) in
    let b2 = codes "}" ++ b3 in
    let b1 = codes "if(" ++ (((outs_text t ++ (codes " " ++ outs_text a)) ++ codes " {") ++ (inner_text b ++ b2)) in
    let shape : case_text (case.If t a b c d) ++ rest ≡ b1 =
    ap (λ z. z ++ rest) (if_text_is t a b c d) ∙ (λ i. (case_layer_text (Case-F.If t a (tr_text_is b i) c (tr_text_is d i))) ++ rest)
    ∙ if_shape (codes "if(") (outs_text t) (codes " ") (outs_text a) (codes "{") (inner_text b) (codes "}") (outs_text c) (inner_text d) (codes ")") rest in
    let inner = levels ++ level_of cases (pending.Then t a) ∷ [] in
    let other = levels ++ level_of cases (pending.Else t a b c) ∷ [] in
    let done = opened levels (cases ++ case.If t a b c d ∷ []) in
    let From : List ℕ → Type 0 = λ z. Leads (opened levels cases) (space_after cases ++ z) (step.Going done) rest in
    subst From (sym shape)
    (step_first (opened levels cases) (opened inner []) (space_after cases ++ b1) (inner_text b ++ b2) (step.Going done) rest
    (case_step levels cases b1 (opened inner []) (inner_text b ++ b2) refl (if_begins levels cases t a (inner_text b ++ b2) h1.0 h2.0))
    (join (opened inner []) (opened inner b.cases) (inner_text b ++ b2) b2 (step.Going done) rest (lb inner b2 h3.0)
    (step_first (opened inner b.cases) (opened other []) b2 (inner_text d ++ b4) (step.Going done) rest
    (close_step levels cases b.cases (pending.Then t a) b3 (opened other []) (inner_text d ++ b4) (then_closes levels cases t a b c (inner_text d ++ b4) h4.0))
    (join (opened other []) (opened other d.cases) (inner_text d ++ b4) b4 (step.Going done) rest (ld other b4 h4.1)
    (step_first (opened other d.cases) done b4 rest (step.Going done) rest
    (close_step levels cases d.cases (pending.Else t a b c) b5 done rest (else_closes levels cases t a b c d rest)) (here done rest))))))

-- ---- a `while`
pub while_text_is : (p : Tr) (t a : List Out) (b : Tr) (c : List Out)
    → case_text (case.While p t a b c) ≡ case_layer_text (Case-F.While (tr_text p) t a (tr_text b) c)
while_text_is p t a b c = ap case_text (sym (case.rolls-While p t a b c)) ∙ fold-roll-Case _ _ case_layer_text tr_layer_text (Case-F.While p t a b c)

pub while_fits_is : (p : Tr) (t a : List Out) (b : Tr) (c : List Out)
    → case_fits (case.While p t a b c) ≡ (tr_fits p && (outs_fit t && (outs_fit a && (tr_fits b && outs_fit c))))
while_fits_is p t a b c = ap case_fits (sym (case.rolls-While p t a b c)) ∙ fold-roll-Case _ _ case_layer_fits tr_layer_fits (Case-F.While p t a b c)

while_begins : (levels : List Level) (cases : List Case) (rest : List ℕ) → a_case levels cases (codes "while(" ++ (codes "{" ++ rest)) ≡ Some (in_case levels cases pending.Prologue, rest)
unfolding a_case while_case
while_begins levels cases rest =
    behind_back (codes "while(") (while_case levels cases) (codes "{" ++ rest) ∙ ap (through (λ u. in_case levels cases pending.Prologue)) (literal_back (codes "{") rest)

prologue_closes : (levels : List Level) (cases : List Case) (p : Tr) (t a : List Out) (rest : List ℕ) → OutsFit t → OutsFit a
    → close_in levels cases pending.Prologue p (codes " " ++ (((outs_text t ++ (codes " " ++ outs_text a)) ++ codes " {") ++ rest)) ≡ Some (in_case levels cases (pending.Body p t a), rest)
unfolding close_prologue
prologue_closes levels cases p t a rest h k =
    ap (through (λ (z : List Out × List Out). in_case levels cases (pending.Body p z.0 z.1)))
    (behind_back (codes " ") (closed (follow outs (behind (codes " ") outs)) (codes " {")) (((outs_text t ++ (codes " " ++ outs_text a)) ++ codes " {") ++ rest) ∙ two_open.back (t, a) rest (h, k) tt)

body_closes : (levels : List Level) (cases : List Case) (p : Tr) (t a : List Out) (b : Tr) (c : List Out) (rest : List ℕ) → OutsFit c
    → close_in levels cases (pending.Body p t a) b (codes " " ++ ((outs_text c ++ codes ")") ++ rest)) ≡ Some (with_case levels cases (case.While p t a b c), rest)
unfolding close_body
body_closes levels cases p t a b c rest h =
    ap (through (λ os. with_case levels cases (case.While p t a b os))) (behind_back (codes " ") (closed outs (codes ")")) ((outs_text c ++ codes ")") ++ rest) ∙ one_closed.back c rest h tt)

while_shape : (w p s t a b c l r k rest : List ℕ)
    → (w ++ (l ++ (p ++ r)) ++ (s ++ t) ++ ((s ++ a) ++ s ++ (l ++ (b ++ r))) ++ (s ++ c) ++ k) ++ rest
    ≡ w ++ (l ++ (p ++ (r ++ (s ++ (((t ++ (s ++ a)) ++ (s ++ l)) ++ (b ++ (r ++ (s ++ ((c ++ k) ++ rest)))))))))
while_shape w p s t a b c l r k rest = simp append_assoc refl

while_law : (p : Tr) (t a : List Out) (b : Tr) (c : List Out) → TrLaw p → TrLaw b → CaseLaw (case.While p t a b c)
while_law p t a b c lp lb levels cases rest h =
    let h1 = and_parts _ _ (sym (while_fits_is p t a b c) ∙ h) in
    let h2 = and_parts _ _ h1.1 in
    let h3 = and_parts _ _ h2.1 in
    let h4 = and_parts _ _ h3.1 in
    let b5 = codes " " ++ ((outs_text c ++ codes ")") ++ rest) in
    let b4 = codes "}" ++ b5 in
    let b3 = codes " " ++ (((outs_text t ++ (codes " " ++ outs_text a)) ++ codes " {") ++ (inner_text b ++ b4)) in
    let b2 = codes "}" ++ b3 in
    let b1 = codes "while(" ++ (codes "{" ++ (inner_text p ++ b2)) in
    let shape : case_text (case.While p t a b c) ++ rest ≡ b1 =
    ap (λ z. z ++ rest) (while_text_is p t a b c) ∙ (λ i. (case_layer_text (Case-F.While (tr_text_is p i) t a (tr_text_is b i) c)) ++ rest)
    ∙ while_shape (codes "while(") (inner_text p) (codes " ") (outs_text t) (outs_text a) (inner_text b) (outs_text c) (codes "{") (codes "}") (codes ")") rest in
    let inner = levels ++ level_of cases pending.Prologue ∷ [] in
    let other = levels ++ level_of cases (pending.Body p t a) ∷ [] in
    let done = opened levels (cases ++ case.While p t a b c ∷ []) in
    let From : List ℕ → Type 0 = λ z. Leads (opened levels cases) (space_after cases ++ z) (step.Going done) rest in
    subst From (sym shape)
    (step_first (opened levels cases) (opened inner []) (space_after cases ++ b1) (inner_text p ++ b2) (step.Going done) rest
    (case_step levels cases b1 (opened inner []) (inner_text p ++ b2) refl (while_begins levels cases (inner_text p ++ b2)))
    (join (opened inner []) (opened inner p.cases) (inner_text p ++ b2) b2 (step.Going done) rest (lp inner b2 h1.0)
    (step_first (opened inner p.cases) (opened other []) b2 (inner_text b ++ b4) (step.Going done) rest
    (close_step levels cases p.cases pending.Prologue b3 (opened other []) (inner_text b ++ b4) (prologue_closes levels cases p t a (inner_text b ++ b4) h2.0 h3.0))
    (join (opened other []) (opened other b.cases) (inner_text b ++ b4) b4 (step.Going done) rest (lb other b4 h4.0)
    (step_first (opened other b.cases) done b4 rest (step.Going done) rest
    (close_step levels cases b.cases (pending.Body p t a) b5 done rest (body_closes levels cases p t a b c rest h4.1)) (here done rest))))))

-- ---- a call
pub call_text_is : (a : List Out) (b : Tr) (c : List Out) → case_text (case.Call a b c) ≡ case_layer_text (Case-F.Call a (tr_text b) c)
call_text_is a b c = ap case_text (sym (case.rolls-Call a b c)) ∙ fold-roll-Case _ _ case_layer_text tr_layer_text (Case-F.Call a b c)

pub call_fits_is : (a : List Out) (b : Tr) (c : List Out) → case_fits (case.Call a b c) ≡ (outs_fit a && (tr_fits b && outs_fit c))
call_fits_is a b c = ap case_fits (sym (case.rolls-Call a b c)) ∙ fold-roll-Case _ _ case_layer_fits tr_layer_fits (Case-F.Call a b c)

call_begins : (levels : List Level) (cases : List Case) (a : List Out) (rest : List ℕ) → OutsFit a
    → a_case levels cases (codes "call(" ++ ((outs_text a ++ codes " {") ++ rest)) ≡ Some (in_case levels cases (pending.Callee a), rest)
unfolding a_case call_case
call_begins levels cases a rest h =
    behind_back (codes "call(") (call_case levels cases) ((outs_text a ++ codes " {") ++ rest) ∙ ap (through (λ os. in_case levels cases (pending.Callee os))) (one_open.back a rest h tt)

callee_closes : (levels : List Level) (cases : List Case) (a : List Out) (b : Tr) (c : List Out) (rest : List ℕ) → OutsFit c
    → close_in levels cases (pending.Callee a) b (codes " " ++ ((outs_text c ++ codes ")") ++ rest)) ≡ Some (with_case levels cases (case.Call a b c), rest)
unfolding close_callee
callee_closes levels cases a b c rest h =
    ap (through (λ os. with_case levels cases (case.Call a b os))) (behind_back (codes " ") (closed outs (codes ")")) ((outs_text c ++ codes ")") ++ rest) ∙ one_closed.back c rest h tt)

call_shape : (w a s b c l r k rest : List ℕ) → (w ++ a ++ s ++ (l ++ (b ++ r)) ++ (s ++ c) ++ k) ++ rest ≡ w ++ ((a ++ (s ++ l)) ++ (b ++ (r ++ (s ++ ((c ++ k) ++ rest)))))
call_shape w a s b c l r k rest = simp append_assoc refl

call_law : (a : List Out) (b : Tr) (c : List Out) → TrLaw b → CaseLaw (case.Call a b c)
call_law a b c lb levels cases rest h =
    let h1 = and_parts _ _ (sym (call_fits_is a b c) ∙ h) in
    let h2 = and_parts _ _ h1.1 in
    let b3 = codes " " ++ ((outs_text c ++ codes ")") ++ rest) in
    let b2 = codes "}" ++ b3 in
    let b1 = codes "call(" ++ ((outs_text a ++ codes " {") ++ (inner_text b ++ b2)) in
    let shape : case_text (case.Call a b c) ++ rest ≡ b1 =
    ap (λ z. z ++ rest) (call_text_is a b c) ∙ (λ i. (case_layer_text (Case-F.Call a (tr_text_is b i) c)) ++ rest)
    ∙ call_shape (codes "call(") (outs_text a) (codes " ") (inner_text b) (outs_text c) (codes "{") (codes "}") (codes ")") rest in
    let inner = levels ++ level_of cases (pending.Callee a) ∷ [] in
    let done = opened levels (cases ++ case.Call a b c ∷ []) in
    let From : List ℕ → Type 0 = λ z. Leads (opened levels cases) (space_after cases ++ z) (step.Going done) rest in
    subst From (sym shape)
    (step_first (opened levels cases) (opened inner []) (space_after cases ++ b1) (inner_text b ++ b2) (step.Going done) rest
    (case_step levels cases b1 (opened inner []) (inner_text b ++ b2) refl (call_begins levels cases a (inner_text b ++ b2) h1.0))
    (join (opened inner []) (opened inner b.cases) (inner_text b ++ b2) b2 (step.Going done) rest (lb inner b2 h2.0)
    (step_first (opened inner b.cases) done b2 rest (step.Going done) rest
    (close_step levels cases b.cases (pending.Callee a) b3 done rest (callee_closes levels cases a b c rest h2.1)) (here done rest))))

-- ---- a `for`
pub for_text_is : (ts : List Tr) → case_text (case.For ts) ≡ codes "for(" ++ (spaced_pieces (map tr_text ts) ++ codes ")")
for_text_is ts =
    ap case_text (sym (case.rolls-For ts)) ∙ fold-roll-Case _ _ case_layer_text tr_layer_text (Case-F.For ts) ∙ append_assoc (codes "for(") (spaced_pieces (map tr_text ts)) (codes ")")

pub for_fits_is : (ts : List Tr) → case_fits (case.For ts) ≡ list_all tr_fits ts
for_fits_is ts = ap case_fits (sym (case.rolls-For ts)) ∙ fold-roll-Case _ _ case_layer_fits tr_layer_fits (Case-F.For ts) ∙ list_all-map (λ z. z) tr_fits ts

no_rounds : (levels : List Level) (cases : List Case) (rest : List ℕ) → a_case levels cases (codes "for(" ++ (codes ")" ++ rest)) ≡ Some (with_case levels cases (case.For []), rest)
unfolding a_case for_case
no_rounds levels cases rest =
    behind_back (codes "for(") (for_case levels cases) (codes ")" ++ rest) ∙ ap (through (λ u. with_case levels cases (case.For []))) (literal_back (codes ")") rest)

rounds_begin : (levels : List Level) (cases : List Case) (rest : List ℕ) → a_case levels cases (codes "for(" ++ (codes "{" ++ rest)) ≡ Some (in_case levels cases (pending.Round []), rest)
unfolding a_case for_case
rounds_begin levels cases rest =
    behind_back (codes "for(") (for_case levels cases) (codes "{" ++ rest) ∙ ap (through (λ u. in_case levels cases (pending.Round []))) (literal_back (codes "{") rest)

last_round : (levels : List Level) (cases : List Case) (trs : List Tr) (t : Tr) (rest : List ℕ)
    → close_in levels cases (pending.Round trs) t (codes ")" ++ rest) ≡ Some (with_case levels cases (case.For (trs ++ t ∷ [])), rest)
unfolding close_round
last_round levels cases trs t rest = ap (through (λ u. with_case levels cases (case.For (trs ++ t ∷ [])))) (literal_back (codes ")") rest)

next_round : (levels : List Level) (cases : List Case) (trs : List Tr) (t : Tr) (rest : List ℕ)
    → close_in levels cases (pending.Round trs) t (codes " {" ++ rest) ≡ Some (in_case levels cases (pending.Round (trs ++ t ∷ [])), rest)
unfolding close_round
next_round levels cases trs t rest = ap (through (λ u. in_case levels cases (pending.Round (trs ++ t ∷ [])))) (literal_back (codes " {") rest)

round_shape : (s l b r more k : List ℕ) → ((s ++ (l ++ (b ++ r))) ++ more) ++ k ≡ (s ++ l) ++ (b ++ (r ++ (more ++ k)))
round_shape s l b r more k = simp append_assoc refl

-- trees with their laws
abbrev Lawful : Type 0
Lawful = (t : Tr) × TrLaw t

abbrev trees_of : List Lawful → List Tr
trees_of ts = map (λ (p : Lawful). p.0) ts

rounds : (levels : List Level) (cases : List Case) (p : Lawful) (ps : List Lawful) (done : List Tr) (rest : List ℕ) → list_all tr_fits (trees_of (p ∷ ps)) ≡ true
    → Leads (opened (levels ++ level_of cases (pending.Round done) ∷ []) []) (inner_text p.0 ++ (codes "}" ++ (all_text (codes " ") tr_text (trees_of ps) ++ (codes ")" ++ rest))))
    (step.Going (opened levels (cases ++ case.For (done ++ trees_of (p ∷ ps)) ∷ []))) rest
rounds levels cases p [] done rest h =
    let f = and_parts (tr_fits p.0) true h in
    let inner = levels ++ level_of cases (pending.Round done) ∷ [] in
    let all = opened levels (cases ++ case.For (done ++ p.0 ∷ []) ∷ []) in
    let b3 = codes ")" ++ rest in
    let b2 = codes "}" ++ b3 in
    join (opened inner []) (opened inner p.0.cases) (inner_text p.0 ++ b2) b2 (step.Going all) rest (p.1 inner b2 f.0)
    (step_first (opened inner p.0.cases) all b2 rest (step.Going all) rest
    (close_step levels cases p.0.cases (pending.Round done) b3 all rest (last_round levels cases done p.0 rest)) (here all rest))
rounds levels cases p (q ∷ qs) done rest h =
    let f = and_parts (tr_fits p.0) (list_all tr_fits (trees_of (q ∷ qs))) h in
    let inner = levels ++ level_of cases (pending.Round done) ∷ [] in
    let other = levels ++ level_of cases (pending.Round (done ++ p.0 ∷ [])) ∷ [] in
    let all = opened levels (cases ++ case.For (done ++ trees_of (p ∷ (q ∷ qs))) ∷ []) in
    let more = all_text (codes " ") tr_text (trees_of qs) in
    let b4 = inner_text q.0 ++ (codes "}" ++ (more ++ (codes ")" ++ rest))) in
    let b3 = ((codes " " ++ tr_text q.0) ++ more) ++ (codes ")" ++ rest) in
    let b2 = codes "}" ++ b3 in
    let shape : b3 ≡ codes " {" ++ b4 =
    ap (λ z. ((codes " " ++ z) ++ more) ++ (codes ")" ++ rest)) (tr_text_is q.0) ∙ round_shape (codes " ") (codes "{") (inner_text q.0) (codes "}") more (codes ")" ++ rest) in
    let further : Leads (opened other []) b4 (step.Going all) rest =
    subst (λ z. Leads (opened other []) b4 (step.Going (opened levels (cases ++ case.For z ∷ []))) rest) (append_assoc done (p.0 ∷ []) (trees_of (q ∷ qs)))
    (rounds levels cases q qs (done ++ p.0 ∷ []) rest f.1) in
    join (opened inner []) (opened inner p.0.cases) (inner_text p.0 ++ b2) b2 (step.Going all) rest (p.1 inner b2 f.0)
    (step_first (opened inner p.0.cases) (opened other []) b2 b4 (step.Going all) rest
    (close_step levels cases p.0.cases (pending.Round done) b3 (opened other []) b4
    (ap (close_in levels cases (pending.Round done) p.0) shape ∙ next_round levels cases done p.0 b4)) further)

for_shape : (f l b r more k rest : List ℕ) → (f ++ (((l ++ (b ++ r)) ++ more) ++ k)) ++ rest ≡ f ++ (l ++ (b ++ (r ++ (more ++ (k ++ rest)))))
for_shape f l b r more k rest = simp append_assoc refl

for_law : (ps : List Lawful) → CaseLaw (case.For (trees_of ps))
for_law [] levels cases rest h =
    let done = opened levels (cases ++ case.For [] ∷ []) in
    let b1 = codes "for(" ++ (codes ")" ++ rest) in
    let shape : case_text (case.For []) ++ rest ≡ b1 = ap (λ z. z ++ rest) (for_text_is []) in
    let From : List ℕ → Type 0 = λ z. Leads (opened levels cases) (space_after cases ++ z) (step.Going done) rest in
    subst From (sym shape)
    (step_first (opened levels cases) done (space_after cases ++ b1) rest (step.Going done) rest (case_step levels cases b1 done rest refl (no_rounds levels cases rest)) (here done rest))
for_law (p ∷ ps) levels cases rest h =
    let ts = trees_of (p ∷ ps) in
    let done = opened levels (cases ++ case.For ts ∷ []) in
    let inner = levels ++ level_of cases (pending.Round []) ∷ [] in
    let more = all_text (codes " ") tr_text (trees_of ps) in
    let b2 = inner_text p.0 ++ (codes "}" ++ (more ++ (codes ")" ++ rest))) in
    let b1 = codes "for(" ++ (codes "{" ++ b2) in
    let shape : case_text (case.For ts) ++ rest ≡ b1 =
    ap (λ z. z ++ rest) (for_text_is ts) ∙ ap (λ z. (codes "for(" ++ (z ++ codes ")")) ++ rest) (sym (spaced_is tr_text p.0 (trees_of ps)))
    ∙ ap (λ z. (codes "for(" ++ ((z ++ more) ++ codes ")")) ++ rest) (tr_text_is p.0)
    ∙ for_shape (codes "for(") (codes "{") (inner_text p.0) (codes "}") more (codes ")") rest in
    let From : List ℕ → Type 0 = λ z. Leads (opened levels cases) (space_after cases ++ z) (step.Going done) rest in
    subst From (sym shape)
    (step_first (opened levels cases) (opened inner []) (space_after cases ++ b1) b2 (step.Going done) rest
    (case_step levels cases b1 (opened inner []) b2 refl (rounds_begin levels cases b2))
    (rounds levels cases p ps [] rest (sym (for_fits_is ts) ∙ h)))

-- ---- all cases, and trees of them
abbrev LawfulCase : Type 0
LawfulCase = (c : Case) × CaseLaw c

abbrev cases_of : List LawfulCase → List Case
cases_of cs = map (λ (p : LawfulCase). p.0) cs

abbrev Known : Type 0
Known = Case-F LawfulCase Lawful

abbrev layer_of : Known → Case-F Case Tr
layer_of v = map-Case _ _ _ _ (λ e. e.0) (λ e. e.0) v

case_law : (v : Known) → CaseLaw (roll-Case (layer_of v))
case_law (Case-F.Op os) = subst CaseLaw (sym (case.rolls-Op os)) (op_law os)
case_law (Case-F.If t a b c d) = subst CaseLaw (sym (case.rolls-If t a b.0 c d.0)) (if_law t a b.0 c d.0 b.1 d.1)
case_law (Case-F.While p t a b c) = subst CaseLaw (sym (case.rolls-While p.0 t a b.0 c)) (while_law p.0 t a b.0 c p.1 b.1)
case_law (Case-F.For ts) = subst CaseLaw (sym (case.rolls-For (trees_of ts))) (for_law ts)
case_law (Case-F.Call a b c) = subst CaseLaw (sym (case.rolls-Call a b.0 c)) (call_law a b.0 c b.1)

space_behind : (done : List Case) (c : Case) → space_after (done ++ c ∷ []) ≡ codes " "
space_behind [] c = refl
space_behind (d ∷ ds) c = refl

next_shape : (s c more rest : List ℕ) → ((s ++ c) ++ more) ++ rest ≡ s ++ (c ++ (more ++ rest))
next_shape s c more rest = simp append_assoc refl

more_lead : (cs : List LawfulCase) (levels : List Level) (done : List Case) (rest : List ℕ) → space_after done ≡ codes " " → list_all case_fits (cases_of cs) ≡ true
    → Leads (opened levels done) (all_text (codes " ") case_text (cases_of cs) ++ rest) (step.Going (opened levels (done ++ cases_of cs))) rest
more_lead [] levels done rest s h = subst (λ z. Leads (opened levels done) rest (step.Going (opened levels z)) rest) (sym (append-nil done)) (here (opened levels done) rest)
more_lead (c ∷ cs) levels done rest s h =
    let f = and_parts (case_fits c.0) (list_all case_fits (cases_of cs)) h in
    let more = all_text (codes " ") case_text (cases_of cs) in
    let now = opened levels (done ++ c.0 ∷ []) in
    let all = step.Going (opened levels (done ++ cases_of (c ∷ cs))) in
    let first : Leads (opened levels done) (codes " " ++ (case_text c.0 ++ (more ++ rest))) (step.Going now) (more ++ rest) =
    subst (λ z. Leads (opened levels done) (z ++ (case_text c.0 ++ (more ++ rest))) (step.Going now) (more ++ rest)) s (c.1 levels done (more ++ rest) f.0) in
    let others : Leads now (more ++ rest) all rest =
    subst (λ z. Leads now (more ++ rest) (step.Going (opened levels z)) rest) (append_assoc done (c.0 ∷ []) (cases_of cs)) (more_lead cs levels (done ++ c.0 ∷ []) rest (space_behind done c.0) f.1) in
    subst (λ z. Leads (opened levels done) z all rest) (sym (next_shape (codes " ") (case_text c.0) more rest))
    (join (opened levels done) now (codes " " ++ (case_text c.0 ++ (more ++ rest))) (more ++ rest) all rest first others)

tree_law : (cs : List LawfulCase) → TrLaw (roll-Tr (record { cases = cases_of cs }))
tree_law [] levels rest h = here (opened levels []) rest
tree_law (c ∷ cs) levels rest h =
    let f = and_parts (case_fits c.0) (list_all case_fits (cases_of cs)) (sym (tr_fits_is (record { cases = cases_of (c ∷ cs) })) ∙ h) in
    let more = all_text (codes " ") case_text (cases_of cs) in
    let now = opened levels (c.0 ∷ []) in
    let all = step.Going (opened levels (cases_of (c ∷ cs))) in
    let shape : spaced_pieces (map case_text (cases_of (c ∷ cs))) ++ rest ≡ case_text c.0 ++ (more ++ rest) =
    ap (λ z. z ++ rest) (sym (spaced_is case_text c.0 (cases_of cs))) ∙ append_assoc (case_text c.0) more rest in
    subst (λ z. Leads (opened levels []) z all rest) (sym shape)
    (join (opened levels []) now (case_text c.0 ++ (more ++ rest)) (more ++ rest) all rest (c.1 levels [] (more ++ rest) f.0) (more_lead cs levels (c.0 ∷ []) rest refl f.1))

pub tree_leads : (t : Tr) → TrLaw t
tree_leads = ind-Tr CaseLaw TrLaw (λ x v is. subst (λ z. CaseLaw (roll-Case z)) is (case_law v)) (λ x v is. subst (λ z. TrLaw (roll-Tr z)) is (tree_law v.cases))

-- ---- a tree behind its brace, read to its end
pub whole_leads : (t : Tr) (rest : List ℕ) → tr_fits t ≡ true → Leads (opened [] []) (inner_text t ++ (codes "}" ++ rest)) (step.Done t) rest
whole_leads t rest h =
    join (opened [] []) (opened [] t.cases) (inner_text t ++ (codes "}" ++ rest)) (codes "}" ++ rest) (step.Done t) rest (tree_leads t [] (codes "}" ++ rest) h)
    (step_last (opened [] t.cases) (codes "}" ++ rest) t rest (end_step t.cases rest))

-- ---- one run from one start
abbrev Stops : Step → List ℕ → Type 0
Stops (step.Done t) bs = ⊥
Stops (step.Going o) bs = one_step o bs ≡ None

stuck : (m : ℕ) (o : Open) (bs : List ℕ) (t : Tr) (rest : List ℕ) → one_step o bs ≡ None → after m o bs ≡ Some (step.Done t, rest) → ⊥
stuck zero o bs t rest f g = done_clash t o rest bs ⊥ (sym g)
stuck (suc m) o bs t rest f g = none_some (step.Done t, rest) ⊥ (sym (ap (λ z. z >>= λ y. go_on (after m) y.0 y.1) f) ∙ g)

-- where steps stop, no tree is read
pub stopped : (n m : ℕ) (o p : Open) (bs cs : List ℕ) (t : Tr) (rest : List ℕ) → after n o bs ≡ Some (step.Going p, cs) → one_step p cs ≡ None → after m o bs ≡ Some (step.Done t, rest) → ⊥
stopped zero m o p bs cs t rest e f g =
    let Is : Step × List ℕ → Type 0 = λ z. Stops z.0 z.1 in
    stuck m o bs t rest (subst Is (sym (some_same (step.Going o, bs) (step.Going p, cs) e)) f) g
stopped (suc n) zero o p bs cs t rest e f g = done_clash t o rest bs ⊥ (sym g)
stopped (suc n) (suc m) o p bs cs t rest e f g =
    let y = bind_parts (one_step o bs) (λ z. go_on (after n) z.0 z.1) (step.Going p, cs) e in
    by_step n m o p bs cs y.0.1 t rest y.0.0 y.1 y.2 g (λ q e2 g2. stopped n m q p y.0.1 cs t rest e2 f g2)
  where
    by_step : (n m : ℕ) (o p : Open) (bs cs ds : List ℕ) (t : Tr) (rest : List ℕ) (s : Step) → one_step o bs ≡ Some (s, ds) → go_on (after n) s ds ≡ Some (step.Going p, cs) → after (suc m) o bs ≡ Some (step.Done t, rest)
        → ((q : Open) → after n q ds ≡ Some (step.Going p, cs) → after m q ds ≡ Some (step.Done t, rest) → ⊥) → ⊥
    by_step n m o p bs cs ds t rest (step.Done u) a e g k = done_clash u p ds cs ⊥ e
    by_step n m o p bs cs ds t rest (step.Going q) a e g k = k q e (sym (ap (λ z. z >>= λ y. go_on (after m) y.0 y.1) a) ∙ g)
