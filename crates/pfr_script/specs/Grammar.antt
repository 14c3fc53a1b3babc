-- The lines of a script: which words say what.
use Rattle.std.specs.Prelude.{◌≡◌, ℕ, ◌≤◌, Bool, true, false, codes, decimal, List, [], ◌∷◌, length, Option, Some, None, Ok}
use Rattle.hex.specs.Hex.{decode_of}
use Rattle.pfr_flash.specs.declared.names.Bank.{Bank}
use Rattle.pfr_flash.specs.declared.names.Bank.TheVariants as banks
use Rattle.pfr_flash.specs.declared.names.Device.{Device}
use Rattle.pfr_flash.specs.declared.names.Device.TheVariants.{Bmc, Pch, Nv}
use Rattle.pfr_fuses.specs.RootSlot.{slot_of}
use Rattle.pfr_script.specs.declared.arm.ArmWhat.TheVariants.{Cut, Fault, ReadFault}
use Rattle.pfr_script.specs.declared.event.Event.TheVariants.{Power, Off, Tick, Boot, Spi, Smbus, Update, Provision}
use Rattle.pfr_script.specs.declared.event.Intent.{Intent}
use Rattle.pfr_script.specs.declared.event.Intent.TheVariants.{Active, Full, Recovery, Cert}
use Rattle.pfr_script.specs.declared.line.Line.{Line}
use Rattle.pfr_script.specs.declared.line.Line.TheVariants.{Happens, Arms}

abbrev pub bank_word : Bank → List ℕ
bank_word banks.Bmc = codes "bmc"
bank_word banks.Pch = codes "pch"

abbrev pub device_word : Device → List ℕ
device_word Bmc = codes "bmc"
device_word Pch = codes "pch"
device_word Nv = codes "nv"

abbrev pub pass_word : Bool → List ℕ
pass_word true = codes "pass"
pass_word false = codes "fail"

abbrev pub intent_word : Intent → List ℕ
intent_word Active = codes "active"
intent_word Full = codes "full"
intent_word Recovery = codes "recovery"
intent_word Cert = codes "cert"

-- hex digits of either case that spell a frame's bytes, 1 to so many
pub record SaysFrame (word bytes : List ℕ) (most : ℕ) : Type 0 where
  pub hex : decode_of word ≡ Ok bytes
  pub some : 1 ≤ length bytes
  pub few : length bytes ≤ most

-- a word before a bank and a frame
abbrev pub SaysFrameLine : List ℕ → ℕ → Bank → List ℕ → List (List ℕ) → Type 0
SaysFrameLine first most bank frame words = (word : List ℕ) × SaysFrame word frame most × (words ≡ first ∷ bank_word bank ∷ word ∷ [])

-- hex digits of either case that spell a slot's bytes before its gate
pub record SaysSlot (word bytes : List ℕ) : Type 0 where
  pub hex : decode_of word ≡ Ok bytes
  pub count : length bytes ≡ 72

-- `-`, or hex digits of either case that spell the tear
abbrev pub SaysTear : Option (List ℕ) → List ℕ → Type 0
SaysTear None word = word ≡ codes "-"
SaysTear (Some bytes) word = (decode_of word ≡ Ok bytes) × (1 ≤ length bytes) × (length bytes ≤ 4096)

-- 1 to so many
abbrev pub IsUpTo : ℕ → ℕ → Type 0
IsUpTo most number = (1 ≤ number) × (number ≤ most)

abbrev pub IsNth : ℕ → Type 0
IsNth nth = IsUpTo 4294967295 nth

-- a word before a device, a number and a tear
abbrev pub SaysTorn : List ℕ → Device → ℕ → Option (List ℕ) → List (List ℕ) → Type 0
SaysTorn first device nth tear words = IsNth nth × (word : List ℕ) × SaysTear tear word
    × (words ≡ first ∷ device_word device ∷ decimal nth ∷ word ∷ [])

-- the words of a line that says this
abbrev pub Says : Line → List (List ℕ) → Type 0
Says (Happens Power) words = words ≡ codes "power" ∷ []
Says (Happens Off) words = words ≡ codes "off" ∷ []
Says (Happens (Tick ticks)) words = IsUpTo 65535 ticks × (words ≡ codes "tick" ∷ decimal ticks ∷ [])
Says (Happens (Boot bank pass)) words = words ≡ codes "boot" ∷ bank_word bank ∷ pass_word pass ∷ []
Says (Happens (Spi bank frame)) words = SaysFrameLine (codes "spi") 261 bank frame words
Says (Happens (Smbus bank frame)) words = SaysFrameLine (codes "smbus") 35 bank frame words
Says (Happens (Update bank intent)) words = words ≡ codes "update" ∷ bank_word bank ∷ intent_word intent ∷ []
Says (Happens (Provision slot)) words = (word : List ℕ) × (bytes : List ℕ) × SaysSlot word bytes × (slot ≡ slot_of bytes)
    × (words ≡ codes "provision" ∷ word ∷ [])
Says (Arms device Cut nth tear) words = SaysTorn (codes "cut") device nth tear words
Says (Arms device Fault nth tear) words = SaysTorn (codes "fault") device nth tear words
Says (Arms device ReadFault nth tear) words = IsNth nth × (tear ≡ None) × (words ≡ codes "readfault" ∷ device_word device ∷ decimal nth ∷ [])
