use Rattle.std.proofs.Common.{◌≡◌, ◌∙◌, ℕ, ◌-◌, ◌≤◌, List, length, drop, take, refl, sym, arith, length-drop}
use Rattle.std.proofs.lemmas.List.{take_all}
use Rattle.pfr_flash.specs.Bytes.{bytes_at}
use Rattle.pfr_filter.proofs.asking.program_of.Goals as goal

-- all bytes behind the address are programmed
all_behind : (frame : List ℕ) → length frame ≤ 261 → take (length frame - 5) (drop 5 frame) ≡ bytes_at frame 5 256
all_behind frame most =
    let long = length-drop 5 frame in
    take_all (length frame - 5) (drop 5 frame) (omega (arith, long)) ∙ sym (take_all 256 (drop 5 frame) (omega (arith, most, long)))

pub returns : goal.returns
returns c =
    let bytes = all_behind c.args.frame.now c.requires.most in
    let page = c.page_with-page.ensures in
    let address = c.address_of-address.ensures in
    rw (page, address, bytes) refl
