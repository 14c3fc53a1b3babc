use Rattle.std.proofs.Common.{◌≡◌, ◌≤◌, ◌/◌, ◌∙◌, inl, inr, length, true, sym, arith}
use Rattle.pfr_script.specs.Hex.{is_hex}
use Rattle.pfr_script.proofs.HexLemmas.{frame_not_hex, frame_none, frame_long, frame_fits}
use Rattle.pfr_script.proofs.hex_word.read_frame.Goals as goal

pub returns-then-not-is_hex : goal.returns-then-not-is_hex
returns-then-not-is_hex c = sym (frame_not_hex c.args.most c.args.word.now (sym c.is_hex.ensures ∙ c.if-not-is_hex.true))

pub returns-then-count-eq0 : goal.returns-then-count-eq0
returns-then-count-eq0 c =
    let hex : is_hex c.args.word.now ≡ true = sym c.is_hex.ensures ∙ c.if-not-is_hex.false in
    elim c.then-count-eq0.either [
      | inl none ↦ sym (frame_none c.args.most c.args.word.now hex none)
      | inr long ↦ sym (frame_long c.args.most c.args.word.now hex (omega (arith, long.0)) long.1)
    ]

pub returns : goal.returns
returns c =
    let some : 1 ≤ length c.args.word.now / 2 = omega (arith, c.if-count-eq0.false) in
    c.frame_of.ensures ∙ sym (frame_fits c.args.most c.args.word.now (sym c.is_hex.ensures ∙ c.if-not-is_hex.false) some c.if-count-most.false)
