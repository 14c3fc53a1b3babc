-- A line is read exactly where its words say something.
use Rattle.std.proofs.Common.{◌≡◌, ℕ, ◌^◌, ◌<◌, ◌≤◌, ◌==◌, Bool, true, false, nat_le, codes, if◌then◌else◌, List, [], ◌∷◌, length, get_or, Option, Some, None, Result, Ok, Err, refl, sym, ◌∙◌, ap, subst, arith}
use Rattle.std.specs.Prelude.{decimal, ◌↔◌}
use Rattle.std.specs.Char.{is_ascii_digit}
use Rattle.std.specs.List.{list_all}
use Rattle.std.specs.Str.{bytes_eq}
use Rattle.std.specs.Str.Parse.{digits_value}
use Rattle.std.proofs.lemmas.Bool.{and_parts}
use Rattle.std.proofs.lemmas.Bool.Decides.{nat_tests, Decides-ltb}
use Rattle.std.proofs.lemmas.Fmt.{decimal-digits_value, digits_decimal, digits_value-decimal, first_decimal, decimal_nonempty}
use Rattle.std.proofs.lemmas.Slice.Eq.{bytes_eq-Decides}
use Rattle.hex.specs.Hex.{decode_of}
use Rattle.hex.specs.declared.error.FromHexError.{FromHexError}
use Rattle.hex.proofs.HexLemmas.{decode_of-ok}
use Rattle.pfr_flash.specs.Judging.{◌>>=◌, ◌>>◌, require, known}
use Rattle.pfr_engine.specs.Words.{is_word}
use Rattle.pfr_flash.specs.declared.names.Bank.{Bank}
use Rattle.pfr_flash.specs.declared.names.Bank.TheVariants as banks
use Rattle.pfr_flash.specs.declared.names.Device.{Device}
use Rattle.pfr_flash.specs.declared.names.Device.TheVariants.{Bmc, Pch, Nv}
use Rattle.pfr_fuses.specs.RootSlot.{slot_of}
use Rattle.pfr_script.specs.declared.arm.ArmWhat.{ArmWhat}
use Rattle.pfr_script.specs.declared.arm.ArmWhat.TheVariants.{Cut, Fault, ReadFault}
use Rattle.pfr_script.specs.declared.event.Event.{Event}
use Rattle.pfr_script.specs.declared.event.Event.TheVariants.{Power, Off, Tick, Boot, Spi, Smbus, Update, Provision}
use Rattle.pfr_script.specs.declared.event.Intent.{Intent}
use Rattle.pfr_script.specs.declared.event.Intent.TheVariants.{Active, Full, Recovery, Cert}
use Rattle.pfr_script.specs.declared.line.Line.{Line}
use Rattle.pfr_script.specs.declared.line.Line.TheVariants.{Happens, Arms}
use Rattle.pfr_script.specs.declared.script_why.ScriptWhy.{ScriptWhy}
use Rattle.pfr_script.specs.declared.script_why.ScriptWhy.TheVariants as causes
use Rattle.pfr_script.specs.Words.{one_word, two_words, three_words, bank_of, bank_and_word, pass_of, intent_of, device_of}
use Rattle.pfr_script.specs.Numbers.{begins_above_zero, is_numeral, judge_number}
use Rattle.pfr_script.specs.Hex.{decoded, judge_frame, judge_slot, judge_tear}
use Rattle.pfr_script.specs.Line.{judge_alone, judge_tick, judge_boot, judge_frame_line, judge_spi, judge_smbus, judge_update, judge_provision, judge_torn, judge_read_fault, judge_words, judge_first}
use Rattle.pfr_script.specs.Grammar.{bank_word, device_word, pass_word, intent_word, SaysFrame, SaysFrameLine, SaysSlot, SaysTear, IsUpTo, IsNth, SaysTorn, Says}
use Rattle.pfr_script.proofs.NumberLemmas.{numerals, some_digit, above_zero}
use Rattle.pfr_flash.proofs.JudgingLemmas.{Decides-le, passed, passed_part, passed_unit, passed_last}
use Rattle.pfr_script.proofs.WordLemmas.{ok_same, word_said, word_some, one_ok, two_ok, three_ok, one_said, two_said, three_said}

-- banks, devices, how a boot went, intents

bank_is : (word : List ℕ) (bank : Bank) → known causes.Word (bank_of word) ≡ Ok bank → word ≡ bank_word bank
bank_is word banks.Bmc h = grind (arith, bytes_eq-Decides)
bank_is word banks.Pch h = grind (arith, bytes_eq-Decides)

bank_said : (bank : Bank) → bank_of (bank_word bank) ≡ Some bank
bank_said banks.Bmc = refl
bank_said banks.Pch = refl

bank_some : (bank : Bank) → is_word (bank_word bank) ≡ true
bank_some banks.Bmc = refl
bank_some banks.Pch = refl

device_is : (word : List ℕ) (device : Device) → known causes.Word (device_of word) ≡ Ok device → word ≡ device_word device
device_is word Bmc h = grind (arith, bytes_eq-Decides)
device_is word Pch h = grind (arith, bytes_eq-Decides)
device_is word Nv h = grind (arith, bytes_eq-Decides)

device_said : (device : Device) → device_of (device_word device) ≡ Some device
device_said Bmc = refl
device_said Pch = refl
device_said Nv = refl

device_some : (device : Device) → is_word (device_word device) ≡ true
device_some Bmc = refl
device_some Pch = refl
device_some Nv = refl

pass_is : (word : List ℕ) (pass : Bool) → known causes.Word (pass_of word) ≡ Ok pass → word ≡ pass_word pass
pass_is word true h = grind (arith, bytes_eq-Decides)
pass_is word false h = grind (arith, bytes_eq-Decides)

pass_said : (pass : Bool) → pass_of (pass_word pass) ≡ Some pass
pass_said true = refl
pass_said false = refl

pass_some : (pass : Bool) → is_word (pass_word pass) ≡ true
pass_some true = refl
pass_some false = refl

intent_is : (word : List ℕ) (intent : Intent) → known causes.Word (intent_of word) ≡ Ok intent → word ≡ intent_word intent
intent_is word Active h = grind (arith, bytes_eq-Decides)
intent_is word Full h = grind (arith, bytes_eq-Decides)
intent_is word Recovery h = grind (arith, bytes_eq-Decides)
intent_is word Cert h = grind (arith, bytes_eq-Decides)

intent_said : (intent : Intent) → intent_of (intent_word intent) ≡ Some intent
intent_said Active = refl
intent_said Full = refl
intent_said Recovery = refl
intent_said Cert = refl

intent_some : (intent : Intent) → is_word (intent_word intent) ≡ true
intent_some Active = refl
intent_some Full = refl
intent_some Recovery = refl
intent_some Cert = refl

-- numbers

first_not : (word : List ℕ) → begins_above_zero word ≡ true → get_or word 0 0 ≡ 48 → length word ≡ 1
first_not [] h e = cc
first_not (first ∷ others) h e = let above : 48 < first = (Decides-ltb 48 first).0 h in absurd (omega (arith, above, e))

begins_from : (word : List ℕ) → 48 < get_or word 0 0 → begins_above_zero word ≡ true
begins_from [] h = absurd (omega (arith, h))
begins_from (first ∷ others) h = (Decides-ltb 48 first).1 h

number_is : (most : ℕ) (word : List ℕ) (n : ℕ) → most ≤ 4294967295 → judge_number most word ≡ Ok n → (word ≡ decimal n) × IsUpTo most n
unfolding judge_number
number_is most word n wide h =
    let value = digits_value 10 word in
    let a = passed_unit (require causes.Number (is_numeral word)) (require causes.Number (nat_le value most) >> Ok value) n h in
    let b = passed_unit (require causes.Number (nat_le value most)) (Ok value) n a.1 in
    let p = and_parts (list_all is_ascii_digit word) (begins_above_zero word) (passed_last causes.Number (is_numeral word) a.0) in
    let range : nat_le value most ≡ true = passed_last causes.Number (nat_le value most) b.0 in
    let few : value ≤ most = grind (arith, nat_tests) in
    let same : value ≡ n = ok_same value n b.1 in
    let least : 1 ≤ value = above_zero word p.0 p.1 in
    let text : decimal value ≡ word = decimal-digits_value numerals word p.0 (some_digit word p.1) (first_not word p.1) (omega (arith, few, wide)) in
    (sym text ∙ ap decimal same, (rw (sym same) least, rw (sym same) few))

number_said : (most n : ℕ) → most ≤ 4294967295 → IsUpTo most n → judge_number most (decimal n) ≡ Ok n
unfolding judge_number
number_said most n wide h =
    let small : n < 2 ^ 64 = omega (arith, h.1, wide) in
    let digits : list_all is_ascii_digit (decimal n) ≡ true = digits_decimal numerals n small in
    let begins : begins_above_zero (decimal n) ≡ true = begins_from (decimal n) (first_decimal n (omega (arith, h.0)) small) in
    let value : digits_value 10 (decimal n) ≡ n = digits_value-decimal numerals n small in
    let range : nat_le n most ≡ true = grind (arith, nat_tests, h.1) in
    rw (digits, begins, value, range) refl

number_some : (most n : ℕ) → most ≤ 4294967295 → IsUpTo most n → is_word (decimal n) ≡ true
number_some most n wide h = word_said (decimal n) (decimal_nonempty n (omega (arith, h.1, wide)))

nth_is : (word : List ℕ) (nth : ℕ) → judge_number 4294967295 word ≡ Ok nth → (word ≡ decimal nth) × IsNth nth
nth_is word nth h = number_is 4294967295 word nth (omega arith) h

nth_said : (nth : ℕ) → IsNth nth → judge_number 4294967295 (decimal nth) ≡ Ok nth
nth_said nth h = number_said 4294967295 nth (omega arith) h

nth_some : (nth : ℕ) → IsNth nth → is_word (decimal nth) ≡ true
nth_some nth h = number_some 4294967295 nth (omega arith) h

-- hex

decoded_ok : (r : Result (List ℕ) FromHexError) (bytes : List ℕ) → decoded r ≡ Ok bytes → r ≡ Ok bytes
decoded_ok (Ok x) bytes h = ap Ok (ok_same x bytes h)
decoded_ok (Err e) bytes h = cc

frame_is : (most : ℕ) (word bytes : List ℕ) → judge_frame most word ≡ Ok bytes → SaysFrame word bytes most
unfolding judge_frame
frame_is most word bytes h =
    let a = passed_part (decoded (decode_of word)) (λ b. require causes.Length (nat_le 1 (length b)) >> (require causes.Length (nat_le (length b) most) >> Ok b)) bytes h in
    let b = passed causes.Length (nat_le 1 (length a.0)) (require causes.Length (nat_le (length a.0) most) >> Ok a.0) bytes (Decides-le 1 (length a.0)) a.2 in
    let c = passed causes.Length (nat_le (length a.0) most) (Ok a.0) bytes (Decides-le (length a.0) most) b.1 in
    let same : a.0 ≡ bytes = ok_same a.0 bytes c.1 in
    record { hex = decoded_ok (decode_of word) a.0 a.1 ∙ ap Ok same; some = rw (sym same) b.0; few = rw (sym same) c.0 }

frame_said : (most : ℕ) (word bytes : List ℕ) → SaysFrame word bytes most → judge_frame most word ≡ Ok bytes
unfolding judge_frame
frame_said most word bytes h =
    let some : nat_le 1 (length bytes) ≡ true = grind (arith, nat_tests, h.some) in
    let few : nat_le (length bytes) most ≡ true = grind (arith, nat_tests, h.few) in
    rw (h.hex, some, few) refl

frame_some : (most : ℕ) (word bytes : List ℕ) → SaysFrame word bytes most → is_word word ≡ true
frame_some most word bytes h = word_said word (omega (arith, (decode_of-ok word bytes h.hex).2, h.some))

slot_is : (word bytes : List ℕ) → judge_slot word ≡ Ok bytes → SaysSlot word bytes
unfolding judge_slot
slot_is word bytes h =
    let a = passed_part (decoded (decode_of word)) (λ b. require causes.Length (length b == 72) >> Ok b) bytes h in
    let b = passed_unit (require causes.Length (length a.0 == 72)) (Ok a.0) bytes a.2 in
    let count : (length a.0 == 72) ≡ true = passed_last causes.Length (length a.0 == 72) b.0 in
    let same : a.0 ≡ bytes = ok_same a.0 bytes b.1 in
    let is : length a.0 ≡ 72 = grind (arith, nat_tests) in
    record { hex = decoded_ok (decode_of word) a.0 a.1 ∙ ap Ok same; count = ap length (sym same) ∙ is }

slot_said : (word bytes : List ℕ) → SaysSlot word bytes → judge_slot word ≡ Ok bytes
unfolding judge_slot
slot_said word bytes h =
    let count : (length bytes == 72) ≡ true = grind (arith, nat_tests, h.count) in
    rw (h.hex, count) refl

slot_some : (word bytes : List ℕ) → SaysSlot word bytes → is_word word ≡ true
slot_some word bytes h = word_said word (omega (arith, (decode_of-ok word bytes h.hex).2, h.count))

tear_by : (dash : Bool) (word : List ℕ) (tear : Option (List ℕ)) → (dash ≡ true → word ≡ codes "-") → 0 < length word →
    (if dash then Ok None else (decoded (decode_of word) >>= λ bytes. require causes.Length (nat_le (length bytes) 4096) >> Ok (Some bytes))) ≡ Ok tear → SaysTear tear word
tear_by true word tear is some h =
    let P : Option (List ℕ) → Type 0 = λ t. SaysTear t word in
    subst P (ok_same None tear h) (is refl)
tear_by false word tear is some h =
    let a = passed_part (decoded (decode_of word)) (λ bytes. require causes.Length (nat_le (length bytes) 4096) >> Ok (Some bytes)) tear h in
    let b = passed_unit (require causes.Length (nat_le (length a.0) 4096)) (Ok (Some a.0)) tear a.2 in
    let range : nat_le (length a.0) 4096 ≡ true = passed_last causes.Length (nat_le (length a.0) 4096) b.0 in
    let most : length a.0 ≤ 4096 = grind (arith, nat_tests) in
    let hex : decode_of word ≡ Ok a.0 = decoded_ok (decode_of word) a.0 a.1 in
    let P : Option (List ℕ) → Type 0 = λ t. SaysTear t word in
    subst P (ok_same (Some a.0) tear b.1) (hex, omega (arith, some, (decode_of-ok word a.0 hex).2), most)

tear_is : (word : List ℕ) (tear : Option (List ℕ)) → is_word word ≡ true → judge_tear word ≡ Ok tear → SaysTear tear word
unfolding judge_tear
tear_is word tear some h = tear_by (bytes_eq word (codes "-")) word tear (bytes_eq-Decides word (codes "-")).0 (word_some word some) h

false_from : (b : Bool) → (b ≡ true → ⊥) → b ≡ false
false_from true h = absurd (h refl)
false_from false h = refl

no_dash : (word bytes : List ℕ) → decode_of word ≡ Ok bytes → word ≡ codes "-" → ⊥
no_dash word bytes h e = let one : length word ≡ 1 = rw e refl in omega (arith, one, (decode_of-ok word bytes h).2)

tear_said : (tear : Option (List ℕ)) (word : List ℕ) → SaysTear tear word → judge_tear word ≡ Ok tear
unfolding judge_tear
tear_said None word h = rw h refl
tear_said (Some bytes) word h =
    let other : bytes_eq word (codes "-") ≡ false = false_from (bytes_eq word (codes "-")) (λ d. no_dash word bytes h.0 ((bytes_eq-Decides word (codes "-")).0 d)) in
    let range : nat_le (length bytes) 4096 ≡ true = grind (arith, nat_tests, h.2) in
    rw (other, h.0, range) refl

tear_some : (tear : Option (List ℕ)) (word : List ℕ) → SaysTear tear word → is_word word ≡ true
tear_some None word h = rw h refl
tear_some (Some bytes) word h = word_said word (omega (arith, h.1, (decode_of-ok word bytes h.0).2))

-- words behind the first

alone_is : (event : Event) (words : List (List ℕ)) (line : Line) → judge_alone event words ≡ Ok line → (words ≡ []) × (Happens event ≡ line)
alone_is event [] line h = (refl, ok_same (Happens event) line h)
alone_is event (word ∷ words) line h = cc

tick_said : (ticks : ℕ) → IsUpTo 65535 ticks → judge_tick (decimal ticks ∷ []) ≡ Ok (Happens (Tick ticks))
unfolding judge_tick
tick_said ticks h =
    let wide : 65535 ≤ 4294967295 = omega arith in
    rw (one_said (decimal ticks) (number_some 65535 ticks wide h), number_said 65535 ticks wide h) refl

bank_and_word_is : (words : List (List ℕ)) (parts : Bank × List ℕ) → bank_and_word words ≡ Ok parts → words ≡ bank_word parts.0 ∷ parts.1 ∷ []
unfolding bank_and_word
bank_and_word_is words parts h =
    let a = passed_part (two_words words) (λ parts. known causes.Word (bank_of parts.0) >>= λ bank. Ok (bank, parts.1)) parts h in
    let b = passed_part (known causes.Word (bank_of a.0.0)) (λ bank. Ok (bank, a.0.1)) parts a.2 in
    let words_are = (two_ok words a.0 a.1).0 ∙ ap (λ w. w ∷ a.0.1 ∷ []) (bank_is a.0.0 b.0 b.1) in
    words_are ∙ ap (λ (p : Bank × List ℕ). bank_word p.0 ∷ p.1 ∷ []) (ok_same (b.0, a.0.1) parts b.2)

bank_and_word_said : (bank : Bank) (word : List ℕ) → is_word word ≡ true → bank_and_word (bank_word bank ∷ word ∷ []) ≡ Ok (bank, word)
unfolding bank_and_word
bank_and_word_said bank word h = rw (two_said (bank_word bank) word (bank_some bank) h, bank_said bank) refl

boot_said : (bank : Bank) (pass : Bool) → judge_boot (bank_word bank ∷ pass_word pass ∷ []) ≡ Ok (Happens (Boot bank pass))
unfolding judge_boot
boot_said bank pass = rw (bank_and_word_said bank (pass_word pass) (pass_some pass), pass_said pass) refl

update_said : (bank : Bank) (intent : Intent) → judge_update (bank_word bank ∷ intent_word intent ∷ []) ≡ Ok (Happens (Update bank intent))
unfolding judge_update
update_said bank intent = rw (bank_and_word_said bank (intent_word intent) (intent_some intent), intent_said intent) refl

-- what a line says behind `spi` or `smbus`
pub record IsFrameLine (most : ℕ) (words : List (List ℕ)) (parts : Bank × List ℕ) : Type 0 where
  bank : Bank
  frame : List ℕ
  word : List ℕ
  says : SaysFrame word frame most
  words_are : words ≡ bank_word bank ∷ word ∷ []
  parts_are : (bank, frame) ≡ parts

frame_line_is : (most : ℕ) (words : List (List ℕ)) (parts : Bank × List ℕ) → judge_frame_line most words ≡ Ok parts → IsFrameLine most words parts
unfolding judge_frame_line
frame_line_is most words parts h =
    let a = passed_part (bank_and_word words) (λ parts. judge_frame most parts.1 >>= λ frame. Ok (parts.0, frame)) parts h in
    let b = passed_part (judge_frame most a.0.1) (λ frame. Ok (a.0.0, frame)) parts a.2 in
    record {
      bank = a.0.0;
      frame = b.0;
      word = a.0.1;
      says = frame_is most a.0.1 b.0 b.1;
      words_are = bank_and_word_is words a.0 a.1;
      parts_are = ok_same (a.0.0, b.0) parts b.2;
    }

frame_line_said : (most : ℕ) (bank : Bank) (word frame : List ℕ) → SaysFrame word frame most → judge_frame_line most (bank_word bank ∷ word ∷ []) ≡ Ok (bank, frame)
unfolding judge_frame_line
frame_line_said most bank word frame h =
    rw (bank_and_word_said bank word (frame_some most word frame h), frame_said most word frame h) refl

spi_said : (bank : Bank) (word frame : List ℕ) → SaysFrame word frame 261 → judge_spi (bank_word bank ∷ word ∷ []) ≡ Ok (Happens (Spi bank frame))
unfolding judge_spi
spi_said bank word frame h = rw (frame_line_said 261 bank word frame h) refl

smbus_said : (bank : Bank) (word frame : List ℕ) → SaysFrame word frame 35 → judge_smbus (bank_word bank ∷ word ∷ []) ≡ Ok (Happens (Smbus bank frame))
unfolding judge_smbus
smbus_said bank word frame h = rw (frame_line_said 35 bank word frame h) refl

-- what a line says behind `provision`
pub record IsSlotLine (words : List (List ℕ)) (line : Line) : Type 0 where
  word : List ℕ
  bytes : List ℕ
  says : SaysSlot word bytes
  words_are : words ≡ word ∷ []
  line_is : Happens (Provision (slot_of bytes)) ≡ line

provision_is : (words : List (List ℕ)) (line : Line) → judge_provision words ≡ Ok line → IsSlotLine words line
unfolding judge_provision
provision_is words line h =
    let a = passed_part (one_word words) (λ word. judge_slot word >>= λ bytes. Ok (Happens (Provision (slot_of bytes)))) line h in
    let b = passed_part (judge_slot a.0) (λ bytes. Ok (Happens (Provision (slot_of bytes)))) line a.2 in
    record { word = a.0; bytes = b.0; says = slot_is a.0 b.0 b.1; words_are = (one_ok words a.0 a.1).0; line_is = ok_same (Happens (Provision (slot_of b.0))) line b.2 }

provision_said : (word bytes : List ℕ) → SaysSlot word bytes → judge_provision (word ∷ []) ≡ Ok (Happens (Provision (slot_of bytes)))
unfolding judge_provision
provision_said word bytes h = rw (one_said word (slot_some word bytes h), slot_said word bytes h) refl

-- what a line says behind `cut` or `fault`
pub record IsTornLine (what : ArmWhat) (words : List (List ℕ)) (line : Line) : Type 0 where
  device : Device
  nth : ℕ
  tear : Option (List ℕ)
  word : List ℕ
  number : IsNth nth
  says : SaysTear tear word
  words_are : words ≡ device_word device ∷ decimal nth ∷ word ∷ []
  line_is : Arms device what nth tear ≡ line

torn_is : (what : ArmWhat) (words : List (List ℕ)) (line : Line) → judge_torn what words ≡ Ok line → IsTornLine what words line
unfolding judge_torn
torn_is what words line h =
    let a = passed_part (three_words words) (λ parts. known causes.Word (device_of parts.0) >>= λ device. judge_number 4294967295 parts.1 >>= λ nth. judge_tear parts.2 >>= λ tear. Ok (Arms device what nth tear)) line h in
    let parts = a.0 in
    let b = passed_part (known causes.Word (device_of parts.0)) (λ device. judge_number 4294967295 parts.1 >>= λ nth. judge_tear parts.2 >>= λ tear. Ok (Arms device what nth tear)) line a.2 in
    let c = passed_part (judge_number 4294967295 parts.1) (λ nth. judge_tear parts.2 >>= λ tear. Ok (Arms b.0 what nth tear)) line b.2 in
    let d = passed_part (judge_tear parts.2) (λ tear. Ok (Arms b.0 what c.0 tear)) line c.2 in
    let w = three_ok words parts a.1 in
    let n = nth_is parts.1 c.0 c.1 in
    record {
      device = b.0;
      nth = c.0;
      tear = d.0;
      word = parts.2;
      number = n.1;
      says = tear_is parts.2 d.0 w.1 d.1;
      words_are = w.0 ∙ ap (λ d. d ∷ parts.1 ∷ parts.2 ∷ []) (device_is parts.0 b.0 b.1) ∙ ap (λ m. device_word b.0 ∷ m ∷ parts.2 ∷ []) n.0;
      line_is = ok_same (Arms b.0 what c.0 d.0) line d.2;
    }

torn_said : (what : ArmWhat) (device : Device) (nth : ℕ) (tear : Option (List ℕ)) (word : List ℕ) → IsNth nth → SaysTear tear word →
    judge_torn what (device_word device ∷ decimal nth ∷ word ∷ []) ≡ Ok (Arms device what nth tear)
unfolding judge_torn
torn_said what device nth tear word number says =
    rw (
      three_said (device_word device) (decimal nth) word (device_some device) (nth_some nth number) (tear_some tear word says),
      device_said device,
      nth_said nth number,
      tear_said tear word says,
    ) refl

-- what a line says behind `readfault`
pub record IsReadLine (words : List (List ℕ)) (line : Line) : Type 0 where
  device : Device
  nth : ℕ
  number : IsNth nth
  words_are : words ≡ device_word device ∷ decimal nth ∷ []
  line_is : Arms device ReadFault nth None ≡ line

read_is : (words : List (List ℕ)) (line : Line) → judge_read_fault words ≡ Ok line → IsReadLine words line
unfolding judge_read_fault
read_is words line h =
    let a = passed_part (two_words words) (λ parts. known causes.Word (device_of parts.0) >>= λ device. judge_number 4294967295 parts.1 >>= λ nth. Ok (Arms device ReadFault nth None)) line h in
    let parts = a.0 in
    let b = passed_part (known causes.Word (device_of parts.0)) (λ device. judge_number 4294967295 parts.1 >>= λ nth. Ok (Arms device ReadFault nth None)) line a.2 in
    let c = passed_part (judge_number 4294967295 parts.1) (λ nth. Ok (Arms b.0 ReadFault nth None)) line b.2 in
    let w = two_ok words parts a.1 in
    let n = nth_is parts.1 c.0 c.1 in
    record {
      device = b.0;
      nth = c.0;
      number = n.1;
      words_are = w.0 ∙ ap (λ d. d ∷ parts.1 ∷ []) (device_is parts.0 b.0 b.1) ∙ ap (λ m. device_word b.0 ∷ m ∷ []) n.0;
      line_is = ok_same (Arms b.0 ReadFault c.0 None) line c.2;
    }

read_said : (device : Device) (nth : ℕ) → IsNth nth → judge_read_fault (device_word device ∷ decimal nth ∷ []) ≡ Ok (Arms device ReadFault nth None)
unfolding judge_read_fault
read_said device nth number =
    rw (two_said (device_word device) (decimal nth) (device_some device) (nth_some nth number), device_said device, nth_said nth number) refl

-- the first word

torn_says : (first : List ℕ) (what : ArmWhat) (words : List (List ℕ)) (line : Line) (t : IsTornLine what words line) →
    SaysTorn first t.device t.nth t.tear (first ∷ words)
torn_says first what words line t = (t.number, t.word, t.says, ap (λ ws. first ∷ ws) t.words_are)

power_says : (words : List (List ℕ)) (line : Line) → judge_alone Power words ≡ Ok line → Says line (codes "power" ∷ words)
power_says words line h =
    let a = alone_is Power words line h in
    let P : Line → Type 0 = λ l. Says l (codes "power" ∷ words) in
    subst P a.1 (rw a.0 refl)

off_says : (words : List (List ℕ)) (line : Line) → judge_alone Off words ≡ Ok line → Says line (codes "off" ∷ words)
off_says words line h =
    let a = alone_is Off words line h in
    let P : Line → Type 0 = λ l. Says l (codes "off" ∷ words) in
    subst P a.1 (rw a.0 refl)

tick_says : (words : List (List ℕ)) (line : Line) → judge_tick words ≡ Ok line → Says line (codes "tick" ∷ words)
unfolding judge_tick
tick_says words line h =
    let a = passed_part (one_word words) (λ word. judge_number 65535 word >>= λ ticks. Ok (Happens (Tick ticks))) line h in
    let b = passed_part (judge_number 65535 a.0) (λ ticks. Ok (Happens (Tick ticks))) line a.2 in
    let n = number_is 65535 a.0 b.0 (omega arith) b.1 in
    let words_are = (one_ok words a.0 a.1).0 ∙ ap (λ w. w ∷ []) n.0 in
    let P : Line → Type 0 = λ l. Says l (codes "tick" ∷ words) in
    subst P (ok_same (Happens (Tick b.0)) line b.2) (n.1, ap (λ ws. codes "tick" ∷ ws) words_are)

boot_says : (words : List (List ℕ)) (line : Line) → judge_boot words ≡ Ok line → Says line (codes "boot" ∷ words)
unfolding judge_boot
boot_says words line h =
    let a = passed_part (bank_and_word words) (λ parts. known causes.Word (pass_of parts.1) >>= λ pass. Ok (Happens (Boot parts.0 pass))) line h in
    let b = passed_part (known causes.Word (pass_of a.0.1)) (λ pass. Ok (Happens (Boot a.0.0 pass))) line a.2 in
    let words_are = bank_and_word_is words a.0 a.1 ∙ ap (λ w. bank_word a.0.0 ∷ w ∷ []) (pass_is a.0.1 b.0 b.1) in
    let P : Line → Type 0 = λ l. Says l (codes "boot" ∷ words) in
    subst P (ok_same (Happens (Boot a.0.0 b.0)) line b.2) (ap (λ ws. codes "boot" ∷ ws) words_are)

update_says : (words : List (List ℕ)) (line : Line) → judge_update words ≡ Ok line → Says line (codes "update" ∷ words)
unfolding judge_update
update_says words line h =
    let a = passed_part (bank_and_word words) (λ parts. known causes.Word (intent_of parts.1) >>= λ intent. Ok (Happens (Update parts.0 intent))) line h in
    let b = passed_part (known causes.Word (intent_of a.0.1)) (λ intent. Ok (Happens (Update a.0.0 intent))) line a.2 in
    let words_are = bank_and_word_is words a.0 a.1 ∙ ap (λ w. bank_word a.0.0 ∷ w ∷ []) (intent_is a.0.1 b.0 b.1) in
    let P : Line → Type 0 = λ l. Says l (codes "update" ∷ words) in
    subst P (ok_same (Happens (Update a.0.0 b.0)) line b.2) (ap (λ ws. codes "update" ∷ ws) words_are)

frame_line_says : (first : List ℕ) (most : ℕ) (words : List (List ℕ)) (parts : Bank × List ℕ) (is : IsFrameLine most words parts) →
    SaysFrameLine first most is.bank is.frame (first ∷ words)
frame_line_says first most words parts is = (is.word, is.says, ap (λ ws. first ∷ ws) is.words_are)

spi_says : (words : List (List ℕ)) (line : Line) → judge_spi words ≡ Ok line → Says line (codes "spi" ∷ words)
unfolding judge_spi
spi_says words line h =
    let a = passed_part (judge_frame_line 261 words) (λ parts. Ok (Happens (Spi parts.0 parts.1))) line h in
    let is = frame_line_is 261 words a.0 a.1 in
    let line_is : Happens (Spi is.bank is.frame) ≡ line = ap (λ (p : Bank × List ℕ). Happens (Spi p.0 p.1)) is.parts_are ∙ ok_same (Happens (Spi a.0.0 a.0.1)) line a.2 in
    let P : Line → Type 0 = λ l. Says l (codes "spi" ∷ words) in
    subst P line_is (frame_line_says (codes "spi") 261 words a.0 is)

smbus_says : (words : List (List ℕ)) (line : Line) → judge_smbus words ≡ Ok line → Says line (codes "smbus" ∷ words)
unfolding judge_smbus
smbus_says words line h =
    let a = passed_part (judge_frame_line 35 words) (λ parts. Ok (Happens (Smbus parts.0 parts.1))) line h in
    let is = frame_line_is 35 words a.0 a.1 in
    let line_is : Happens (Smbus is.bank is.frame) ≡ line = ap (λ (p : Bank × List ℕ). Happens (Smbus p.0 p.1)) is.parts_are ∙ ok_same (Happens (Smbus a.0.0 a.0.1)) line a.2 in
    let P : Line → Type 0 = λ l. Says l (codes "smbus" ∷ words) in
    subst P line_is (frame_line_says (codes "smbus") 35 words a.0 is)

provision_says : (words : List (List ℕ)) (line : Line) → judge_provision words ≡ Ok line → Says line (codes "provision" ∷ words)
provision_says words line h =
    let a = provision_is words line h in
    let P : Line → Type 0 = λ l. Says l (codes "provision" ∷ words) in
    subst P a.line_is (a.word, a.bytes, a.says, refl, ap (λ ws. codes "provision" ∷ ws) a.words_are)

cut_says : (words : List (List ℕ)) (line : Line) → judge_torn Cut words ≡ Ok line → Says line (codes "cut" ∷ words)
cut_says words line h =
    let a = torn_is Cut words line h in
    let P : Line → Type 0 = λ l. Says l (codes "cut" ∷ words) in
    subst P a.line_is (torn_says (codes "cut") Cut words line a)

fault_says : (words : List (List ℕ)) (line : Line) → judge_torn Fault words ≡ Ok line → Says line (codes "fault" ∷ words)
fault_says words line h =
    let a = torn_is Fault words line h in
    let P : Line → Type 0 = λ l. Says l (codes "fault" ∷ words) in
    subst P a.line_is (torn_says (codes "fault") Fault words line a)

read_says : (words : List (List ℕ)) (line : Line) → judge_read_fault words ≡ Ok line → Says line (codes "readfault" ∷ words)
read_says words line h =
    let a = read_is words line h in
    let P : Line → Type 0 = λ l. Says l (codes "readfault" ∷ words) in
    subst P a.line_is (a.number, refl, ap (λ ws. codes "readfault" ∷ ws) a.words_are)

-- a line says something behind this word, or behind another
said_by : (test : Bool) (here others : Result Line ScriptWhy) (first word : List ℕ) (words : List (List ℕ)) (line : Line) → (test ≡ true → first ≡ word) →
    (if test then here else others) ≡ Ok line → (here ≡ Ok line → Says line (word ∷ words)) → (others ≡ Ok line → Says line (first ∷ words)) → Says line (first ∷ words)
said_by true here others first word words line is h this that = rw (is refl) (this h)
said_by false here others first word words line is h this that = that h

said_first : {here others : Result Line ScriptWhy} (first word : List ℕ) (words : List (List ℕ)) (line : Line) → (if bytes_eq first word then here else others) ≡ Ok line →
    (here ≡ Ok line → Says line (word ∷ words)) → (others ≡ Ok line → Says line (first ∷ words)) → Says line (first ∷ words)
said_first {here} {others} first word words line h this that = said_by (bytes_eq first word) here others first word words line (bytes_eq-Decides first word).0 h this that

is_said : (words : List (List ℕ)) (line : Line) → judge_first words ≡ Ok line → Says line words
unfolding judge_words
is_said [] line h = cc
is_said (first ∷ words) line h =
    said_first first (codes "power") words line h (power_says words line) (λ h.
    said_first first (codes "off") words line h (off_says words line) (λ h.
    said_first first (codes "tick") words line h (tick_says words line) (λ h.
    said_first first (codes "boot") words line h (boot_says words line) (λ h.
    said_first first (codes "spi") words line h (spi_says words line) (λ h.
    said_first first (codes "smbus") words line h (smbus_says words line) (λ h.
    said_first first (codes "update") words line h (update_says words line) (λ h.
    said_first first (codes "provision") words line h (provision_says words line) (λ h.
    said_first first (codes "cut") words line h (cut_says words line) (λ h.
    said_first first (codes "fault") words line h (fault_says words line) (λ h.
    said_first first (codes "readfault") words line h (read_says words line) (λ h. cc)))))))))))

is_read : (line : Line) (words : List (List ℕ)) → Says line words → judge_first words ≡ Ok line
unfolding judge_words
is_read (Happens Power) words h = rw h refl
is_read (Happens Off) words h = rw h refl
is_read (Happens (Tick ticks)) words h = rw h.1 (tick_said ticks h.0)
is_read (Happens (Boot bank pass)) words h = rw h (boot_said bank pass)
is_read (Happens (Spi bank frame)) words h = rw h.2 (spi_said bank h.0 frame h.1)
is_read (Happens (Smbus bank frame)) words h = rw h.2 (smbus_said bank h.0 frame h.1)
is_read (Happens (Update bank intent)) words h = rw h (update_said bank intent)
is_read (Happens (Provision slot)) words h = rw (h.4, h.3) (provision_said h.0 h.1 h.2)
is_read (Arms device Cut nth tear) words h = rw h.3 (torn_said Cut device nth tear h.1 h.0 h.2)
is_read (Arms device Fault nth tear) words h = rw h.3 (torn_said Fault device nth tear h.1 h.0 h.2)
is_read (Arms device ReadFault nth tear) words h = rw (h.2, h.1) (read_said device nth h.0)

-- a line is read as what its words say, and is refused where they say nothing
pub spelled : (words : List (List ℕ)) (line : Line) → (judge_first words ≡ Ok line) ↔ Says line words
spelled words line = (is_said words line, is_read line words)
