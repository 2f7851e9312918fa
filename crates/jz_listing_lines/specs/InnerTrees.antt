-- Reading the tree of a transformer without recursion: what is open, and one step.
use Rattle.std.specs.Prelude.{◌≡◌, ℕ, zero, suc, List, [], ◌∷◌, ◌++◌, Bool, true, false, ◌&&◌, if◌then◌else◌, Option, Some, None, codes, map, Result, Ok, Err}
use Rattle.std.specs.List.{concat, list_all}
use Rattle.jz_data.specs.declared.failure.Failure.{Failure}
use Rattle.jz_data.specs.declared.failure.Failure.TheVariants.{Refused, OutOfMemory}
use Rattle.jz_lex.specs.LexingWords.{begins}
use Rattle.jz_leak.specs.declared.transformer.Out.{Out}
use Rattle.jz_leak.specs.declared.transformer.Tr.{Tr}
use Rattle.jz_leak.specs.declared.transformer.Case.{Case}
use Rattle.jz_leak.specs.declared.transformer.Case.TheVariants as case
use Rattle.jz_leak.specs.declared.transformer.Transformer.{Transformer}
use Rattle.jz_listing.specs.Transformers.{spaced_pieces, outs_text, case_text, tr_text, transformer_text}
use Rattle.jz_listing.specs.Listable.{outs_fit, case_fits, tr_fits, transformer_fits}
use Rattle.jz_listing_lines.specs.declared.cursor.Unread.{Unread}
use Rattle.jz_listing_lines.specs.declared.frames.Pending.{Pending}
use Rattle.jz_listing_lines.specs.declared.frames.Pending.TheVariants as pending
use Rattle.jz_listing_lines.specs.declared.frames.Level.{Level}
use Rattle.jz_listing_lines.specs.declared.frames.Open.{Open}
use Rattle.jz_listing_lines.specs.declared.frames.Step.{Step}
use Rattle.jz_listing_lines.specs.declared.frames.Step.TheVariants as step
use Rattle.jz_listing_lines.specs.InnerReaders.{Answer, Reader, ◌>>=◌, through, literal, behind, follow, pick, closed}
use Rattle.jz_listing_lines.specs.InnerPieces.{outs}

-- nothing but a first tree, without cases so far
abbrev pub start : Open
start = record { levels = []; cases = [] }

-- a case that has been read
abbrev pub with_case : List Level → List Case → Case → Open
with_case levels cases c = record { levels = levels; cases = cases ++ c ∷ [] }

-- a tree begins in a case
abbrev pub in_case : List Level → List Case → Pending → Open
in_case levels cases p =
    record { levels = levels ++ record { cases = cases; pending = p } ∷ []; cases = [] }

-- ---- a case begins
unfoldable pub op_case : List Level → List Case → Reader Open
op_case levels cases bs = through (λ os. with_case levels cases (case.Op os)) (outs bs)

unfoldable pub if_case : List Level → List Case → Reader Open
if_case levels cases bs =
    through (λ p. in_case levels cases (pending.Then p.0 p.1))
    (closed (follow outs (behind (codes " ") outs)) (codes " {") bs)

unfoldable pub while_case : List Level → List Case → Reader Open
while_case levels cases bs =
    through (λ u. in_case levels cases pending.Prologue) (literal (codes "{") bs)

unfoldable pub for_case : List Level → List Case → Reader Open
for_case levels cases bs =
    if begins (codes ")") bs
    then through (λ u. with_case levels cases (case.For [])) (literal (codes ")") bs)
    else through (λ u. in_case levels cases (pending.Round [])) (literal (codes "{") bs)

unfoldable pub call_case : List Level → List Case → Reader Open
call_case levels cases bs =
    through (λ os. in_case levels cases (pending.Callee os)) (closed outs (codes " {") bs)

unfoldable pub a_case : List Level → List Case → Reader Open
a_case levels cases =
    pick (codes "op") (behind (codes "op") (op_case levels cases))
    (pick (codes "if(") (behind (codes "if(") (if_case levels cases))
    (pick (codes "while(") (behind (codes "while(") (while_case levels cases))
    (pick (codes "for(") (behind (codes "for(") (for_case levels cases))
    (behind (codes "call(") (call_case levels cases)))))

abbrev pub is_first : List Case → Bool
is_first [] = true
is_first (c ∷ cs) = false

-- a space before each case but the first
unfoldable pub next_case : Open → Reader Open
next_case o bs =
    if is_first o.cases then a_case o.levels o.cases bs
    else behind (codes " ") (a_case o.levels o.cases) bs

-- ---- a tree ends
unfoldable pub close_then : List Level → List Case → List Out → List Out → Tr → Reader Open
close_then levels cases test then_outs t bs =
    through (λ os. in_case levels cases (pending.Else test then_outs t os))
    (behind (codes " ") (closed outs (codes " {")) bs)

unfoldable pub close_else :
    List Level → List Case → List Out → List Out → Tr → List Out → Tr → Reader Open
close_else levels cases test then_outs then_tr else_outs t bs =
    through (λ u. with_case levels cases (case.If test then_outs then_tr else_outs t))
    (literal (codes ")") bs)

unfoldable pub close_prologue : List Level → List Case → Tr → Reader Open
close_prologue levels cases t bs =
    through (λ p. in_case levels cases (pending.Body t p.0 p.1))
    (behind (codes " ") (closed (follow outs (behind (codes " ") outs)) (codes " {")) bs)

unfoldable pub close_body : List Level → List Case → Tr → List Out → List Out → Tr → Reader Open
close_body levels cases prologue test more_outs t bs =
    through (λ os. with_case levels cases (case.While prologue test more_outs t os))
    (behind (codes " ") (closed outs (codes ")")) bs)

unfoldable pub close_round : List Level → List Case → List Tr → Reader Open
close_round levels cases trs bs =
    if begins (codes ")") bs
    then through (λ u. with_case levels cases (case.For trs)) (literal (codes ")") bs)
    else through (λ u. in_case levels cases (pending.Round trs)) (literal (codes " {") bs)

unfoldable pub close_callee : List Level → List Case → List Out → Tr → Reader Open
close_callee levels cases arguments t bs =
    through (λ os. with_case levels cases (case.Call arguments t os))
    (behind (codes " ") (closed outs (codes ")")) bs)

-- what stands behind a tree in its case
abbrev pub close_in : List Level → List Case → Pending → Tr → Reader Open
close_in levels cases (pending.Then test then_outs) t = close_then levels cases test then_outs t
close_in levels cases (pending.Else test then_outs then_tr else_outs) t =
    close_else levels cases test then_outs then_tr else_outs t
close_in levels cases pending.Prologue t = close_prologue levels cases t
close_in levels cases (pending.Body prologue test more_outs) t =
    close_body levels cases prologue test more_outs t
close_in levels cases (pending.Round trs) t = close_round levels cases (trs ++ t ∷ [])
close_in levels cases (pending.Callee arguments) t = close_callee levels cases arguments t

-- one in front of those before the last
abbrev pub with_first : Level → Option (List Level × Level) → Option (List Level × Level)
with_first l None = Some ([], l)
with_first l (Some p) = Some (l ∷ p.0, p.1)

-- the last of a list, and those before it
abbrev pub last_of : List Level → Option (List Level × Level)
last_of [] = None
last_of (l ∷ ls) = with_first l (last_of ls)

-- the tree is whole, or it ends in a case
abbrev pub close_by : Option (List Level × Level) → Tr → Reader Step
close_by None t bs = Some (step.Done t, bs)
close_by (Some p) t bs = through step.Going (close_in p.0 p.1.cases p.1.pending t bs)

unfoldable pub close : Open → Reader Step
close o bs = close_by (last_of o.levels) (record { cases = o.cases }) bs

-- ---- one step, and so many
unfoldable pub one_step : Open → Reader Step
one_step o bs =
    if begins (codes "}") bs then behind (codes "}") (close o) bs
    else through step.Going (next_case o bs)

-- what a step left, and then another reader where something is open
abbrev pub go_on : (Open → Reader Step) → Step → Reader Step
go_on more (step.Done t) bs = Some (step.Done t, bs)
go_on more (step.Going o) bs = more o bs

abbrev pub after : ℕ → Open → Reader Step
after zero o bs = Some (step.Going o, bs)
after (suc n) o bs = one_step o bs >>= λ x. go_on (after n) x.0 x.1

-- ---- what has been read of a tree
abbrev pub space_after : List Case → List ℕ
space_after [] = []
space_after (c ∷ cs) = codes " "

abbrev pub pending_text : Pending → List ℕ
pending_text (pending.Then test then_outs) =
    codes "if(" ++ (outs_text test ++ (codes " " ++ (outs_text then_outs ++ codes " ")))
pending_text (pending.Else test then_outs then_tr else_outs) =
    codes "if("
    ++ (outs_text test ++ (codes " " ++ (outs_text then_outs ++ (codes " " ++ (tr_text then_tr
    ++ (codes " " ++ (outs_text else_outs ++ codes " ")))))))
pending_text pending.Prologue = codes "while("
pending_text (pending.Body prologue test more_outs) =
    codes "while("
    ++ (tr_text prologue ++ (codes " " ++ (outs_text test ++ (codes " " ++ (outs_text more_outs
    ++ codes " ")))))
pending_text (pending.Round trs) = codes "for(" ++ concat (map (λ t. tr_text t ++ codes " ") trs)
pending_text (pending.Callee arguments) =
    codes "call(" ++ (outs_text arguments ++ codes " ")

-- a tree up to where its next case begins
abbrev pub cases_text : List Case → List ℕ
cases_text cs = codes "{" ++ spaced_pieces (map case_text cs)

abbrev pub level_text : Level → List ℕ
level_text l = cases_text l.cases ++ (space_after l.cases ++ pending_text l.pending)

abbrev pub open_text : Open → List ℕ
open_text o = concat (map level_text o.levels) ++ cases_text o.cases

abbrev pub step_text : Step → List ℕ
step_text (step.Done t) = tr_text t
step_text (step.Going o) = open_text o

-- ---- that its numbers have 64 bits
abbrev pub pending_fits : Pending → Bool
pending_fits (pending.Then test then_outs) = outs_fit test && outs_fit then_outs
pending_fits (pending.Else test then_outs then_tr else_outs) =
    outs_fit test && (outs_fit then_outs && (tr_fits then_tr && outs_fit else_outs))
pending_fits pending.Prologue = true
pending_fits (pending.Body prologue test more_outs) =
    tr_fits prologue && (outs_fit test && outs_fit more_outs)
pending_fits (pending.Round trs) = list_all tr_fits trs
pending_fits (pending.Callee arguments) = outs_fit arguments

abbrev pub level_fits : Level → Bool
level_fits l = list_all case_fits l.cases && pending_fits l.pending

abbrev pub open_fits : Open → Bool
open_fits o = list_all level_fits o.levels && list_all case_fits o.cases

abbrev pub step_fits : Step → Bool
step_fits (step.Done t) = tr_fits t
step_fits (step.Going o) = open_fits o

-- ---- what the code answers
-- a tree stands at the front and no more than it was taken; or no tree stands there
abbrev pub GaveTree : Result Tr (Failure Unread) → List ℕ → List ℕ → Type 0
GaveTree (Ok t) old now = (old ≡ tr_text t ++ now) × (tr_fits t ≡ true)
GaveTree (Err (Refused e)) old now =
    (t : Tr) (rest : List ℕ) → tr_fits t ≡ true → old ≡ tr_text t ++ rest → ⊥
GaveTree (Err OutOfMemory) old now = Unit {0}

-- the same of a transformer
abbrev pub GaveTransformer : Result Transformer (Failure Unread) → List ℕ → List ℕ → Type 0
GaveTransformer (Ok t) old now = (old ≡ transformer_text t ++ now) × (transformer_fits t ≡ true)
GaveTransformer (Err (Refused e)) old now =
    (t : Transformer) (rest : List ℕ) → transformer_fits t ≡ true
    → old ≡ transformer_text t ++ rest → ⊥
GaveTransformer (Err OutOfMemory) old now = Unit {0}
