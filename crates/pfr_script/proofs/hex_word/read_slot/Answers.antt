use Rattle.std.proofs.Common.{◌∙◌, sym}
use Rattle.pfr_script.proofs.HexLemmas.{slot_not_hex, slot_length}
use Rattle.pfr_script.proofs.hex_word.read_slot.Goals as goal

pub returns-then-not-is_hex : goal.returns-then-not-is_hex
returns-then-not-is_hex c = sym (slot_not_hex c.args.word.now (sym c.is_hex.ensures ∙ c.if-not-is_hex.true))

pub returns-in-Err : goal.returns-in-Err
returns-in-Err c = sym (slot_length c.args.word.now c.in-Err.field-0 (sym c.is_hex.ensures ∙ c.if-not-is_hex.false) (sym c.from_hex.ensures ∙ c.in-Err.is))
