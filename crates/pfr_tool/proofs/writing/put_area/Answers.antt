use Rattle.std.proofs.Common.{◌≡◌, ◌+◌, ◌-◌, replicate, length, arith, rules}
use Rattle.pfr_tool.proofs.AreaSteps.{area_put, blanks_are}
use Rattle.pfr_tool.proofs.writing.put_area.Goals as goal

pub returns-clause-bytes : goal.returns-clause-bytes
returns-clause-bytes c =
    let n : c.args.at + c.args.len - c.args.at ≡ c.args.len = omega arith in
    let k : c.args.at + length c.args.bytes.now - c.args.at ≡ length c.args.bytes.now = omega arith in
    let blank : c.fill.new.self ≡ replicate (c.args.at + c.args.len - c.args.at) 255 = search rules in
    area_put c.args.image.now c.fill.new.self c.copy_from_slice.new.self c.args.bytes.now c.args.at c.args.len _ _ c.requires.inside c.requires.fits
    (blanks_are c.args.len c.fill.new.self (rw n at blank)) c.copy_from_slice.ensures.after n k
