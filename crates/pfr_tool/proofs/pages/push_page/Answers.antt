use Rattle.std.proofs.Common.{◌≡◌, ◌+◌, ◌-◌, ◌*◌, true, refl, ◌∙◌, arith, rules}
use Rattle.pfr_made.specs.Pages.{page_bit}
use Rattle.pfr_made.specs.declared.page_map.PageMap.TheVariants as maps
use Rattle.pfr_tool.proofs.PageSteps.{copied_page}
use Rattle.pfr_tool.proofs.pages.push_page.Goals as goal

pub returns-in_ok-extend_from_slice-clause-bytes : goal.returns-in_ok-extend_from_slice-clause-bytes
returns-in_ok-extend_from_slice-clause-bytes c =
    let size : 4096 * c.args.page + 4096 - 4096 * c.args.page ≡ 4096 = omega arith in
    let bit : page_bit c.args.part.now maps.Copy c.args.page ≡ true = search rules in
    c.in_ok-extend_from_slice.ensures.items ∙ rw (size, copied_page c.args.part.now c.args.image.now c.args.page bit) refl
