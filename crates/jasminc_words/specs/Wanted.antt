-- What the words of a command line ask for.
use Rattle.std.specs.Prelude.{ℕ, ◌<◌, ◌≤◌, ◌^◌, nat_le, if◌then◌else◌, List, [], ◌∷◌, map, Option, Some, None, ⊤}
use Rattle.std.specs.Prelude.{unwrap_or, String, string_bytes, codes}
use Rattle.std.specs.Option.{option_and_then, option_map}
use Rattle.std.specs.Str.{bytes_eq}
use Rattle.std.specs.declared.alloc.Global.{Global}
use Rattle.clap.specs.Words.{Row, Text, first_of, all_of, fault_of, subcommand_of}
use Rattle.jasminc_words.specs.Commands.{jasminc_app}
use Rattle.jz_items.specs.declared.item.Item.{Item}
use Rattle.jz_items.specs.Numbers.{number_of_word}
use Rattle.jz_items.specs.Items.{items_of, ItemsFit, AreItems}
use Rattle.jasminc_words.specs.declared.request.Call.{Call}
use Rattle.jasminc_words.specs.declared.request.Request.{Request}
use Rattle.jasminc_words.specs.declared.request.Request.TheVariants as request

-- a function of a file, what it is run on, and how long: steps of the machine, or turns of loops
pub record Called : Type 0 where
  pub file : List ℕ
  pub fun : List ℕ
  pub items : List Item
  pub fuel : ℕ

-- a command: its file, or what it calls; or a seed and a size, and how many steps
pub data Wanted : Type 0 where
  compile : List ℕ → Wanted
  exec : Called → Wanted
  interp : Called → Wanted
  leak : Called → Wanted
  disasm : List ℕ → Wanted
  check : List ℕ → Wanted
  ct : List ℕ → Wanted
  gen : ℕ → ℕ → Wanted
  selfrun : ℕ → ℕ → ℕ → Wanted

abbrev pub texts_of : List (String Global) → List (List ℕ)
texts_of words = map string_bytes words

-- ---- requests of the code
abbrev pub called_of : Call → Called
called_of c = record { file = c.file.now; fun = c.fun.now; items = c.items; fuel = c.fuel }

abbrev pub wanted_of : Request → Wanted
wanted_of (request.Compile file) = compile file.now
wanted_of (request.Exec call) = exec (called_of call)
wanted_of (request.Interp call) = interp (called_of call)
wanted_of (request.Leak call) = leak (called_of call)
wanted_of (request.Disasm file) = disasm file.now
wanted_of (request.Check file) = check file.now
wanted_of (request.Ct file) = ct file.now
wanted_of (request.Gen seed size) = gen seed size
wanted_of (request.Selfrun seed size fuel) = selfrun seed size fuel

-- ---- what matches ask for
-- without `--fuel`
abbrev pub default_fuel : ℕ
default_fuel = 1000000

abbrev pub number_or : ℕ → Option Text → Option ℕ
number_or n None = Some n
number_or n (Some word) = number_of_word word

abbrev pub fuel_in : List Row → Option ℕ
fuel_in rows = number_or default_fuel (first_of (codes "fuel") rows)

abbrev pub items_in : List Row → Option (List Item)
items_in rows = items_of (unwrap_or (all_of (codes "ITEM") rows) [])

abbrev pub call_of : Option Text → Option Text → Option ℕ → Option (List Item) → Option Called
call_of (Some file) (Some fun) (Some fuel) (Some items) =
    Some (record { file = file; fun = fun; items = items; fuel = fuel })
call_of file fun fuel items = None

abbrev pub call_in : List Row → Option Called
call_in rows =
    call_of (first_of (codes "FILE") rows) (first_of (codes "FUN") rows) (fuel_in rows)
    (items_in rows)

abbrev pub file_in : List Row → Option Text
file_in rows = first_of (codes "FILE") rows

-- the largest seed and the largest size
abbrev pub most_seed : ℕ
most_seed = 2147483647

abbrev pub most_size : ℕ
most_size = 30000

abbrev pub up_to : ℕ → ℕ → Option ℕ
up_to most n = if nat_le n most then Some n else None

abbrev pub number_up_to : ℕ → Text → Option ℕ
number_up_to most word = option_and_then (up_to most) (number_of_word word)

abbrev pub seed_in : List Row → Option ℕ
seed_in rows = option_and_then (number_up_to most_seed) (first_of (codes "SEED") rows)

abbrev pub size_in : List Row → Option ℕ
size_in rows = option_and_then (number_up_to most_size) (first_of (codes "SIZE") rows)

abbrev pub gen_of : Option ℕ → Option ℕ → Option Wanted
gen_of (Some seed) (Some size) = Some (gen seed size)
gen_of seed size = None

abbrev pub gen_in : List Row → Option Wanted
gen_in rows = gen_of (seed_in rows) (size_in rows)

abbrev pub selfrun_of : Option ℕ → Option ℕ → Option ℕ → Option Wanted
selfrun_of (Some seed) (Some size) (Some fuel) = Some (selfrun seed size fuel)
selfrun_of seed size fuel = None

abbrev pub selfrun_in : List Row → Option Wanted
selfrun_in rows = selfrun_of (seed_in rows) (size_in rows) (fuel_in rows)

-- by the name of the subcommand: one that reads no file
abbrev pub named_program : Text → List Row → Option Wanted
named_program name rows =
    if bytes_eq name (codes "gen") then gen_in rows
    else (if bytes_eq name (codes "selfrun") then selfrun_in rows else None)

-- by the name of the subcommand
abbrev pub named : Text → List Row → Option Wanted
named name rows =
    if bytes_eq name (codes "compile") then option_map compile (file_in rows)
    else (if bytes_eq name (codes "exec") then option_map exec (call_in rows)
    else (if bytes_eq name (codes "interp") then option_map interp (call_in rows)
    else (if bytes_eq name (codes "leak") then option_map leak (call_in rows)
    else (if bytes_eq name (codes "disasm") then option_map disasm (file_in rows)
    else (if bytes_eq name (codes "check") then option_map check (file_in rows)
    else (if bytes_eq name (codes "ct") then option_map ct (file_in rows)
    else named_program name rows))))))

abbrev pub wanted_in : Option (Text × List Row) → Option Wanted
wanted_in rows = option_and_then (λ p. named p.0 p.1) rows

-- nothing where there are faults
abbrev pub none_or : {X Y : Type 0} → List X → Option Y → Option Y
none_or [] y = y
none_or (x ∷ xs) y = None

-- The command that all the words are, the program's name first. They are one where no step of
-- `clap`'s parse fails, and the numbers and items among them are such.
unfoldable pub wanted_command : List (List ℕ) → Option Wanted
wanted_command words =
    none_or (fault_of jasminc_app words) (wanted_in (subcommand_of jasminc_app words))

-- ---- what holds of each command
abbrev pub HasFit : Called → Type 0
HasFit call = AreItems call.items × ItemsFit call.items × (call.fuel < 2 ^ 64)

-- its items are those of some words; its numbers, and the addresses among its items, are words of
-- 64 bits; a seed and a size are within their limits
abbrev pub HasNumbers : Wanted → Type 0
HasNumbers (compile file) = ⊤
HasNumbers (exec call) = HasFit call
HasNumbers (interp call) = HasFit call
HasNumbers (leak call) = HasFit call
HasNumbers (disasm file) = ⊤
HasNumbers (check file) = ⊤
HasNumbers (ct file) = ⊤
HasNumbers (gen seed size) = (seed ≤ most_seed) × (size ≤ most_size)
HasNumbers (selfrun seed size fuel) =
    (seed ≤ most_seed) × (size ≤ most_size) × (fuel < 2 ^ 64)
