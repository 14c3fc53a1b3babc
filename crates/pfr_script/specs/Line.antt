-- What a line says, by its first word.
use Rattle.std.specs.Prelude.{ℕ, ◌≤◌, codes, if◌then◌else◌, List, [], ◌∷◌, None, Result, Ok, Err}
use Rattle.std.specs.Str.{bytes_eq}
use Rattle.pfr_flash.specs.Judging.{◌>>=◌, ◌>>◌, known}
use Rattle.pfr_flash.specs.declared.names.Bank.{Bank}
use Rattle.pfr_fuses.specs.RootSlot.{slot_of}
use Rattle.pfr_script.specs.declared.arm.ArmWhat.{ArmWhat}
use Rattle.pfr_script.specs.declared.arm.ArmWhat.TheVariants.{Cut, Fault, ReadFault}
use Rattle.pfr_script.specs.declared.event.Event.{Event}
use Rattle.pfr_script.specs.declared.event.Event.TheVariants.{Power, Off, Tick, Boot, Spi, Smbus, Update, Provision}
use Rattle.pfr_script.specs.declared.line.Line.{Line}
use Rattle.pfr_script.specs.declared.line.Line.TheVariants.{Happens, Arms}
use Rattle.pfr_script.specs.declared.script_why.ScriptWhy.{ScriptWhy}
use Rattle.pfr_script.specs.declared.script_why.ScriptWhy.TheVariants as causes
use Rattle.pfr_script.specs.Words.{no_word, one_word, two_words, three_words, bank_and_word, pass_of, intent_of, device_of}
use Rattle.pfr_script.specs.Numbers.{judge_number}
use Rattle.pfr_script.specs.Hex.{judge_frame, judge_slot, judge_tear}

-- a failure's number counts from 1
abbrev pub IsNumbered : Line → Type 0
IsNumbered (Happens event) = Unit {0}
IsNumbered (Arms device what nth tear) = 1 ≤ nth

-- `power` and `off`
abbrev pub judge_alone : Event → List (List ℕ) → Result Line ScriptWhy
judge_alone event words = no_word words >> Ok (Happens event)

-- `tick <n>`
unfoldable pub judge_tick : List (List ℕ) → Result Line ScriptWhy
judge_tick words = do
  word ← one_word words
  ticks ← judge_number 65535 word
  Ok (Happens (Tick ticks))

-- `boot <bank> pass` and `boot <bank> fail`
unfoldable pub judge_boot : List (List ℕ) → Result Line ScriptWhy
judge_boot words = do
  parts ← bank_and_word words
  pass ← known causes.Word (pass_of parts.1)
  Ok (Happens (Boot parts.0 pass))

-- the bank and the frame of at most so many bytes that stand behind `spi` and `smbus`
unfoldable pub judge_frame_line : ℕ → List (List ℕ) → Result (Bank × List ℕ) ScriptWhy
judge_frame_line most words = do
  parts ← bank_and_word words
  frame ← judge_frame most parts.1
  Ok (parts.0, frame)

-- `spi <bank> <hex>`
unfoldable pub judge_spi : List (List ℕ) → Result Line ScriptWhy
judge_spi words = do
  parts ← judge_frame_line 261 words
  Ok (Happens (Spi parts.0 parts.1))

-- `smbus <bank> <hex>`
unfoldable pub judge_smbus : List (List ℕ) → Result Line ScriptWhy
judge_smbus words = do
  parts ← judge_frame_line 35 words
  Ok (Happens (Smbus parts.0 parts.1))

-- `update <bank> <intent>`
unfoldable pub judge_update : List (List ℕ) → Result Line ScriptWhy
judge_update words = do
  parts ← bank_and_word words
  intent ← known causes.Word (intent_of parts.1)
  Ok (Happens (Update parts.0 intent))

-- `provision <hex>`
unfoldable pub judge_provision : List (List ℕ) → Result Line ScriptWhy
judge_provision words = do
  word ← one_word words
  bytes ← judge_slot word
  Ok (Happens (Provision (slot_of bytes)))

-- `cut <device> <n> <tear>` and `fault <device> <n> <tear>`
unfoldable pub judge_torn : ArmWhat → List (List ℕ) → Result Line ScriptWhy
judge_torn what words = do
  parts ← three_words words
  device ← known causes.Word (device_of parts.0)
  nth ← judge_number 4294967295 parts.1
  tear ← judge_tear parts.2
  Ok (Arms device what nth tear)

-- `readfault <device> <n>`
unfoldable pub judge_read_fault : List (List ℕ) → Result Line ScriptWhy
judge_read_fault words = do
  parts ← two_words words
  device ← known causes.Word (device_of parts.0)
  nth ← judge_number 4294967295 parts.1
  Ok (Arms device ReadFault nth None)

-- by the first word
unfoldable pub judge_words : List ℕ → List (List ℕ) → Result Line ScriptWhy
judge_words first words =
    if bytes_eq first (codes "power") then judge_alone Power words
    else if bytes_eq first (codes "off") then judge_alone Off words
    else if bytes_eq first (codes "tick") then judge_tick words
    else if bytes_eq first (codes "boot") then judge_boot words
    else if bytes_eq first (codes "spi") then judge_spi words
    else if bytes_eq first (codes "smbus") then judge_smbus words
    else if bytes_eq first (codes "update") then judge_update words
    else if bytes_eq first (codes "provision") then judge_provision words
    else if bytes_eq first (codes "cut") then judge_torn Cut words
    else if bytes_eq first (codes "fault") then judge_torn Fault words
    else if bytes_eq first (codes "readfault") then judge_read_fault words
    else Err causes.Word

-- what the words of a line say, the first of them and the others
abbrev pub judge_first : List (List ℕ) → Result Line ScriptWhy
judge_first [] = Err causes.Word
judge_first (first ∷ words) = judge_words first words
