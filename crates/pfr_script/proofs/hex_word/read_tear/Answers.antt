use Rattle.std.proofs.Common.{◌≡◌, ◌∙◌, sym, false}
use Rattle.std.specs.Str.{bytes_eq}
use Rattle.pfr_script.proofs.HexLemmas.{tear_not_hex, tear_length}
use Rattle.pfr_script.proofs.hex_word.read_tear.Goals as goal

pub returns-then-not-is_hex : goal.returns-then-not-is_hex
returns-then-not-is_hex c =
    let other : bytes_eq c.args.word.now c.as_slice.result.now ≡ false = sym c.eq.ensures ∙ c.if-eq.false in
    sym (tear_not_hex c.args.word.now (rw c.as_slice.ensures at other) (sym c.is_hex.ensures ∙ c.if-not-is_hex.true))

pub returns-then-word-gt8192 : goal.returns-then-word-gt8192
returns-then-word-gt8192 c =
    let other : bytes_eq c.args.word.now c.as_slice.result.now ≡ false = sym c.eq.ensures ∙ c.if-eq.false in
    sym (tear_length c.args.word.now (rw c.as_slice.ensures at other) (sym c.is_hex.ensures ∙ c.if-not-is_hex.false) c.if-word-gt8192.true)
