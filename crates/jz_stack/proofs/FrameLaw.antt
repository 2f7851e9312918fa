-- A function with its frame does what its body does.
use Rattle.std.proofs.Common.{◌≡◌, ◌≢◌, ℕ, zero, suc, ◌+◌, ◌-◌, ◌*◌, ◌^◌, ◌<◌, ◌≤◌, ⊎_elim, false, List, [], ◌∷◌, length, refl, sym, ap, ◌∙◌, subst, arith, ◌==◌}
use Rattle.std.specs.Prelude.{slice_index, slice_set}
use Rattle.std.proofs.lemmas.Bool.Decides.{nat_tests}
use Rattle.std.proofs.lemmas.List.{set-get_or}
use Rattle.x64_insn.specs.declared.types.Reg.{Reg}
use Rattle.x64_insn.specs.Table.{number_of}
use Rattle.jz_leak.specs.RunLeaks.{Leak}
use Rattle.jz_runs.specs.Rules.{End, Cut, Goes}
use Rattle.x64_machine.specs.Steps.{steps_of}
use Rattle.jz_placing.specs.Instructions.{Machine, Code, instructions}
use Rattle.jz_linear.specs.Plain.{IsPlainCode}
use Rattle.jz_linear.specs.Lines.{linear_of}
use Rattle.jz_linear.specs.LineRuns.{place_of}
use Rattle.jz_linear.proofs.Fitting.{fits}
use Rattle.x64_assemble.specs.Assembling.{Wide, all_wide, total, target_in}
use Rattle.x64_assemble.specs.CodeRuns.{Going, EndsAt, NeverFaults}
use Rattle.x64_assemble.proofs.CodeLaw.{config_first}
use Rattle.x64_assemble.proofs.Spellable.{insns_counted}
use Rattle.jz_stack.specs.Framed.{framed}
use Rattle.jz_stack.specs.FrameRuns.{Shape, NoneIsRsp, Among, IsShape, HasRoom, IsBegun, BodyKeeps, code_of, insns_of, events_of, FunctionEnds, FunctionRuns, FunctionDoes}
use Rattle.jz_stack.proofs.FramedRuns as frame
use Rattle.jz_stack.proofs.Keeping.{begun_memory}
use Rattle.jz_stack.proofs.WholeRuns as whole
use Rattle.jz_stack.proofs.PlainRuns as plain

not_zero : (k : ℕ) → (suc k == 0) ≡ false
not_zero k = grind (arith, nat_tests)

among_none : (rs : List Reg) (r : Reg) → NoneIsRsp rs → Among rs r → number_of r ≢ 4
among_none [] r h a = absurd a
among_none (q ∷ rs) r h a = ⊎_elim (λ e. subst (λ x. number_of x ≢ 4) e h.0) (λ b. among_none rs r h.1 b) a

-- where the body begins, and what the function does then
abbrev pub Does : Shape → Code → ℕ → ℕ → ℕ → Machine → Type 0
Does f body base rsp0 target s0 = (b : Machine) × IsBegun f rsp0 s0 b × (BodyKeeps f body rsp0 target b → FunctionDoes f body base rsp0 target s0 b)

-- ---- a frame that is not empty
module _ (k at : ℕ) (saved : List Reg) (is : IsShape (record { size = suc k; at = at; saved = saved })) (body : Code) (ok : IsPlainCode body) (base rsp0 target : ℕ) (short : total (linear_of (framed (suc k) at saved body)) < 2 ^ 31)
    (code_fits : base + length (code_of (record { size = suc k; at = at; saved = saved }) body) ≤ 2 ^ 64) (s0 : Machine) (room : HasRoom (suc k) rsp0 s0) where
  abbrev shape : Shape
  shape = record { size = suc k; at = at; saved = saved }

  abbrev code : List ℕ
  code = code_of shape body

  abbrev ws : List Wide
  ws = all_wide (linear_of (framed (suc k) at saved body))

  has : frame.HasRoom (suc k) at saved rsp0 s0
  has = record {
    some = not_zero k;
    stack = room.stack;
    above = room.below;
    below = let a = room.above in omega (arith, a);
    slots = is.slots;
    valid = room.valid;
    none = is.none;
    sixteen = room.sixteen;
  }

  abbrev begun : Machine
  begun = frame.entered (suc k) at saved rsp0 s0 has body

  begins : IsBegun shape rsp0 s0 begun
  begins = record {
    regs = frame.entered_regs (suc k) at saved rsp0 s0 has body;
    flags = λ five. let m = frame.moved_down (suc k) at saved rsp0 s0 has body in m.five;
    memory = begun_memory (suc k) at saved rsp0 s0 has body;
  }

  counted : insns_of shape body ≡ length ws
  counted = insns_counted (target_in ws (place_of (linear_of (framed (suc k) at saved body)))) 0 ws

  module _ (keeps : BodyKeeps shape body rsp0 target begun) where
    kept : (n left : ℕ) (s1 : Machine) (l : Leak) → Goes instructions body n begun (End s1 left l) → whole.Keeps (suc k) at saved body ok is.small base code refl short code_fits rsp0 target s0 has s1
    kept n left s1 l g = let h = keeps.keeps n left s1 l g in record { stack = h.stack; slots = h.slots; return = h.return; sixteen = h.sixteen }

    ends : (n left : ℕ) (s1 : Machine) (l : Leak) → Goes instructions body n begun (End s1 left l) → FunctionEnds shape body base rsp0 target s0 n s1 l
    ends n left s1 l g =
        let e = whole.whole_end (suc k) at saved body ok is.small base code refl short code_fits rsp0 target s0 has keeps.never_stuck kept n left s1 l g in
        let most : e.steps ≤ length ws * (n + 1) = e.within in
        record {
          steps = e.steps;
          within = subst (λ x. e.steps ≤ x * (n + 1)) (sym counted) most;
          last = e.last;
          ends = subst (λ c. EndsAt code base e.steps c (events_of shape body l rsp0) e.last) (config_first ws base rsp0 target s0) e.ends;
          undone = record {
            stack = e.stack;
            back = λ r a. e.back r a (among_none saved r is.none a);
            others = e.others;
            memory = e.memory;
          };
        }

    cuts : (n : ℕ) (l : Leak) → Goes instructions body n begun (Cut l) → FunctionRuns shape body base rsp0 target s0 n l
    cuts n l g =
        let h = whole.whole_cut (suc k) at saved body ok is.small base code refl short code_fits rsp0 target s0 has keeps.never_stuck kept n l g in
        let least : n ≤ h.steps + length ws = h.enough in
        let most : h.steps ≤ length ws * (n + 1) = h.within in
        record {
          running = subst (λ c. (steps_of code base c n).after.ended ≡ false) (config_first ws base rsp0 target s0) h.running;
          steps = h.steps;
          enough = subst (λ x. n ≤ h.steps + x) (sym counted) least;
          within = subst (λ x. h.steps ≤ x * (n + 1)) (sym counted) most;
          there = h.there;
          going = subst (λ c. Going code base h.steps c (events_of shape body l rsp0) h.there) (config_first ws base rsp0 target s0) h.going;
        }

    all : FunctionDoes shape body base rsp0 target s0 begun
    all = record {
      ends = ends;
      cuts = cuts;
      faults = subst (λ c. NeverFaults code base c) (config_first ws base rsp0 target s0)
          (whole.never_faults (suc k) at saved body ok is.small base code refl short code_fits rsp0 target s0 has keeps.never_stuck kept);
      ends_fit = whole.fits_end (suc k) at saved body ok is.small base code refl short code_fits rsp0 target s0 has keeps.never_stuck kept;
      cuts_fit = whole.fits_cut (suc k) at saved body ok is.small base code refl short code_fits rsp0 target s0 has keeps.never_stuck kept;
    }

  framed_does : Does shape body base rsp0 target s0
  framed_does = (begun, begins, all)

-- ---- no frame
module _ (at : ℕ) (body : Code) (ok : IsPlainCode body) (base rsp0 target : ℕ) (short : total (linear_of body) < 2 ^ 31)
    (code_fits : base + length (code_of (record { size = 0; at = at; saved = [] }) body) ≤ 2 ^ 64) (s0 : Machine) (room : HasRoom 0 rsp0 s0) where
  abbrev empty : Shape
  empty = record { size = 0; at = at; saved = [] }

  abbrev bytes : List ℕ
  bytes = code_of empty body

  abbrev lines : List Wide
  lines = all_wide (linear_of body)

  same_count : insns_of empty body ≡ length lines
  same_count = insns_counted (target_in lines (place_of (linear_of body))) 0 lines

  small : rsp0 < 2 ^ 64
  small = let a = room.above in omega (arith, a)

  no_change : IsBegun empty rsp0 s0 s0
  no_change = record {
    regs = let e : slice_index s0.regs 4 ≡ rsp0 - 0 = room.stack ∙ omega arith in sym (set-get_or s0.regs 4 0) ∙ ap (slice_set s0.regs 4) e;
    flags = λ five. five;
    memory = λ q out. refl;
  }

  module _ (keeps : BodyKeeps empty body rsp0 target s0) where
    held : (n left : ℕ) (s1 : Machine) (l : Leak) → Goes instructions body n s0 (End s1 left l) → plain.KeepsPlain body ok base bytes refl short code_fits rsp0 target small s0 s1
    held n left s1 l g = let h = keeps.keeps n left s1 l g in record { stack = h.stack ∙ omega arith; return = h.return; sixteen = h.sixteen }

    plain_ends : (n left : ℕ) (s1 : Machine) (l : Leak) → Goes instructions body n s0 (End s1 left l) → FunctionEnds empty body base rsp0 target s0 n s1 l
    plain_ends n left s1 l g =
        let e = plain.plain_end body ok base bytes refl short code_fits rsp0 target small s0 keeps.never_stuck held n left s1 l g in
        let most : e.steps ≤ length lines * (n + 1) = e.within in
        record {
          steps = e.steps;
          within = subst (λ x. e.steps ≤ x * (n + 1)) (sym same_count) most;
          last = e.last;
          ends = subst (λ c. EndsAt bytes base e.steps c (events_of empty body l rsp0) e.last) (config_first lines base rsp0 target s0) e.ends;
          undone = record {
            stack = e.stack;
            back = λ r a. absurd a;
            others = λ r a ne. e.others r ne;
            memory = e.memory;
          };
        }

    plain_cuts : (n : ℕ) (l : Leak) → Goes instructions body n s0 (Cut l) → FunctionRuns empty body base rsp0 target s0 n l
    plain_cuts n l g =
        let h = plain.plain_cut body ok base bytes refl short code_fits rsp0 target small s0 keeps.never_stuck held n l g in
        let least : n ≤ h.steps + length lines = h.enough in
        let most : h.steps ≤ length lines * (n + 1) = h.within in
        record {
          running = subst (λ c. (steps_of bytes base c n).after.ended ≡ false) (config_first lines base rsp0 target s0) h.running;
          steps = h.steps;
          enough = subst (λ x. n ≤ h.steps + x) (sym same_count) least;
          within = subst (λ x. h.steps ≤ x * (n + 1)) (sym same_count) most;
          there = h.there;
          going = subst (λ c. Going bytes base h.steps c (events_of empty body l rsp0) h.there) (config_first lines base rsp0 target s0) h.going;
        }

    plain_all : FunctionDoes empty body base rsp0 target s0 s0
    plain_all = record {
      ends = plain_ends;
      cuts = plain_cuts;
      faults = subst (λ c. NeverFaults bytes base c) (config_first lines base rsp0 target s0)
          (plain.never_faults body ok base bytes refl short code_fits rsp0 target small s0 keeps.never_stuck held);
      ends_fit = λ n left s1 l g. record { before = whole.slots_fit 0 at []; body = fits g ok; after = whole.last_fits _ (whole.slots_fit 0 at []) 0 at [] refl };
      cuts_fit = λ n l g. record { before = whole.slots_fit 0 at []; body = fits g ok; after = whole.last_fits _ (whole.slots_fit 0 at []) 0 at [] refl };
    }

  plain_does : Does empty body base rsp0 target s0
  plain_does = (s0, no_change, plain_all)

pub function_does : (size at : ℕ) (saved : List Reg) → IsShape (record { size = size; at = at; saved = saved }) → (body : Code) → IsPlainCode body → (base rsp0 target : ℕ) → total (linear_of (framed size at saved body)) < 2 ^ 31
    → base + length (code_of (record { size = size; at = at; saved = saved }) body) ≤ 2 ^ 64 → (s0 : Machine) → HasRoom size rsp0 s0 → Does (record { size = size; at = at; saved = saved }) body base rsp0 target s0
function_does zero at [] is body ok base rsp0 target short code_fits s0 room = plain_does at body ok base rsp0 target short code_fits s0 room
function_does zero at (r ∷ rs) is body ok base rsp0 target short code_fits s0 room = absurd (let h = is.slots in omega (arith, h))
function_does (suc k) at saved is body ok base rsp0 target short code_fits s0 room = framed_does k at saved is body ok base rsp0 target short code_fits s0 room
